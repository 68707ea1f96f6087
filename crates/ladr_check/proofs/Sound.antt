-- One refutation leaves no countermodel, and each shows its answers.
use Rattle.std.proofs.Common.{◌≤◌, ℕ, ◌-◌, List, [], ◌∷◌, length, map, refl, sym, subst, arith}
use Rattle.answered_lines.specs.Laws.{RefutationsArePlain}
use Rattle.answered_lines.specs.Lines.{with_asks, with_terms, plain_rows, AnsweredLine, plain_lines, IsRefutationWith}
use Rattle.answered_lines.specs.Shows.{AreLiveAsks, RefutationsShowAnswers}
use Rattle.clausify.specs.Asked.{answer_terms_in_table}
use Rattle.clausify.specs.Input.{clauses_in_table, skolem_numbers}
use Rattle.derivation.specs.Laws.{NoneIsWithin}
use Rattle.derivation.specs.Lines.{InputRow, IsRefutation}
use Rattle.fol_problem.proofs.Soundness.{sound_below}
use Rattle.fol_problem.specs.Asks.{AreLive, asks_of}
use Rattle.fol_problem.specs.declared.problem.Input.{Input}
use Rattle.fol_core.specs.Tree.{Trees}
use Rattle.fol_core.specs.Literals.{equality}
use Rattle.fol_core.specs.Meaning.{Meaning, IsLawful}
use Rattle.fol_problem.specs.Stated.{Said, all_said, stated_of, AreWellFormed}
use Rattle.ladr_check.proofs.Nameless.{ClausesNameNone, named_at, plainly_none, lines_within}
use Rattle.ladr_check.proofs.Offering.{read_well_formed, read_few, read_nameless, read_live}
use Rattle.ladr_check.specs.Offered.{Offered, proofs_in, offered_by}
use Rattle.ladr_check.specs.Shown.{HasNoCountermodel, IsRefutationAt, OneRefutationSuffices, AnswersShown, RefutationsAnswer}
use Rattle.ladr_formulas.specs.declared.styles.Mode.{Mode}
use Rattle.ladr_lex.specs.declared.limits.TheConstants.{MOST_SYMBOLS}
use Rattle.ladr_problem.specs.File.{Says, problem}
use Rattle.ladr_problem.specs.Growth.{Grown}
use Rattle.ladr_problem.specs.Proper.{IsProper}
use Rattle.ladr_problem.specs.Sofar.{Sofar, stated_in}
use Rattle.derivation_laws.specs.Countermodels.{RefutationsLeaveNone}
use Rattle.proof_check.proofs.PlainSteps.{said_plainly, rows_plainly}
use Rattle.proof_text.specs.Refused.{IsProofRead}
use Rattle.proof_text.specs.declared.text.ProofRead.{ProofRead}

plain_refutation : RefutationsArePlain → (ss : List Said) (asks : List (List ℕ)) (rows : List InputRow) (terms : List Trees) (ls : List AnsweredLine) → IsRefutationWith (with_asks ss asks) (with_terms rows terms) ls
    → IsRefutation ss rows (plain_lines ls)
plain_refutation plain ss asks rows terms ls h =
    subst (λ (rs : List InputRow). IsRefutation ss rs (plain_lines ls)) (rows_plainly rows terms)
    (subst (λ (ps : List Said). IsRefutation ps (plain_rows (with_terms rows terms)) (plain_lines ls)) (said_plainly ss asks)
    (plain (with_asks ss asks) (with_terms rows terms) ls h))

module _ (proper : (m : Mode) (bytes : List ℕ) (s : Sofar) → Says m bytes (problem s) → IsProper (stated_in s) s.settings.options) (nameless : ClausesNameNone) (within : NoneIsWithin)
    (leave : (m : Meaning) → IsLawful m → RefutationsLeaveNone m) (plain : RefutationsArePlain) where
  read_leaves : (bytes : List ℕ) (r : ProofRead) (k : ℕ) → IsProofRead bytes r → IsRefutationAt (offered_by r) k → HasNoCountermodel (offered_by r)
  read_leaves bytes r k is at = λ m lawful picks.
      let few : length r.problem.symbols ≤ MOST_SYMBOLS = read_few proper bytes r is in
      let well_formed : AreWellFormed equality (stated_of r.problem).formulas = sound_below (length r.problem.symbols) equality (stated_of r.problem).formulas (omega (arith, few)) (read_well_formed proper bytes r is) in
      let proof = at.1.0 in
      let nothing = plainly_none proof (named_at (proofs_in r.proofs.items) (k - 1) proof (read_nameless proper bytes r is nameless) at.1.1) in
      let refutes = plain_refutation plain (stated_of r.problem).formulas (asks_of r.problem) (clauses_in_table r.symbols (stated_of r.problem)) (answer_terms_in_table r.symbols (stated_of r.problem) (asks_of r.problem)) proof at.1.2 in
      leave m lawful (skolem_numbers r.symbols (stated_of r.problem)) (stated_of r.problem).formulas (plain_lines proof) well_formed refutes (within m (plain_lines proof) nothing) picks

  pub suffices : OneRefutationSuffices
  suffices bytes x k offered at = subst HasNoCountermodel offered.2 (read_leaves bytes offered.0 k offered.1 (subst (λ (y : Offered). IsRefutationAt y k) (sym offered.2) at))

-- what goals ask for may be asked of them
live_asks : (is : List Input) → AreLive is → AreLiveAsks (all_said is) (map (λ i. i.answer.items) is)
live_asks [] h = tt
live_asks (i ∷ is) h = (h.0, live_asks is h.1)

module _ (grown : (m : Mode) (bytes : List ℕ) (s : Sofar) → Says m bytes (problem s) → Grown m s)
    (proper : (m : Mode) (bytes : List ℕ) (s : Sofar) → Says m bytes (problem s) → IsProper (stated_in s) s.settings.options) (nameless : ClausesNameNone) (within : NoneIsWithin)
    (show : RefutationsShowAnswers) where
  read_answers : (bytes : List ℕ) (r : ProofRead) → IsProofRead bytes r → AnswersShown (offered_by r)
  read_answers bytes r is = λ p k at refutes m lawful picks others.
      let few : length r.problem.symbols ≤ MOST_SYMBOLS = read_few proper bytes r is in
      let names = lines_within within m p (named_at (proofs_in r.proofs.items) k p (read_nameless proper bytes r is nameless) at) in
      show (stated_of r.problem) (asks_of r.problem) _ _ p refutes m r.symbols lawful (read_well_formed proper bytes r is) (omega (arith, few))
      (live_asks r.problem.inputs.items (read_live grown bytes r is)) refl refl names picks others

  pub answer : RefutationsAnswer
  answer bytes x offered = subst AnswersShown offered.2 (read_answers bytes offered.0 offered.1)
