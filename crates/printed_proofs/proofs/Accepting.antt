-- A check accepts printed refutations.
use Rattle.std.proofs.Common.{◌≡◌, ℕ, ◌+◌, ◌<◌, ◌≤◌, ◌^◌, List, [], ◌∷◌, ◌++◌, length, map, None, slice_index, refl, sym, ap, ap₂, ◌∙◌, subst, arith}
use Rattle.std.proofs.lemmas.List.{length-map, length-append}
use Rattle.answered_lines.specs.Laws.{PlainRefutationsStay}
use Rattle.answered_lines.specs.View.{answered_lines_of}
use Rattle.clausify.specs.Asked.{answer_terms_in_table}
use Rattle.clausify.specs.Input.{form, axioms_from, axioms_in_table, skolem_numbers, first_over}
use Rattle.clausify.specs.Skolem.{skolem_term, somes, skolem_axioms}
use Rattle.derivation.specs.declared.line.Derivation.{Derivation}
use Rattle.fol_core.specs.Fol.{Fol, verum, falsum, equal, atom, negation, conjunction, disjunction, implication, equivalence, forall, exists}
use Rattle.fol_core.specs.Literals.{equality}
use Rattle.fol_core.specs.SkolemAxioms.{AreInOrder}
use Rattle.fol_problem.specs.Asks.{asks_of}
use Rattle.fol_problem.specs.Stated.{Said, Stated, stated_of, IsWellFormed, AreNewTo}
use Rattle.fol_core.specs.Substitutions.{Substitution, with_term}
use Rattle.fol_core.specs.SymbolTable.{Symbol, KeepsNumbers}
use Rattle.fol_core.specs.Tree.{var}
use Rattle.fol_problem.specs.declared.problem.Problem.{Problem}
use Rattle.ladr_check.specs.Offered.{proofs_in, offered_by}
use Rattle.ladr_check.specs.Outcomes.{ComesOut}
use Rattle.ladr_check.specs.Shown.{OffersAreAlone}
use Rattle.ladr_check.specs.declared.ends.CheckEnd.TheVariants.{Accepted}
use Rattle.ladr_formulas.specs.declared.styles.Mode.{Mode}
use Rattle.ladr_formulas.specs.declared.styles.Mode.TheVariants.{Prover}
use Rattle.ladr_lex.specs.Operators.{OperatorRow}
use Rattle.ladr_problem.specs.File.{Says, problem}
use Rattle.ladr_problem.specs.Proper.{IsProper}
use Rattle.ladr_problem.specs.Sofar.{Sofar, stated_in}
use Rattle.ladr_problem.specs.Whole.{IsOf}
use Rattle.ladr_problem.specs.declared.read.FileRead.{FileRead}
use Rattle.printed_proofs.specs.Accepted.{HasFewClauses, AreAccepted}
use Rattle.printed_proofs.proofs.PlainRefutations.{proofs_stay, are_refutations}
use Rattle.printed_proofs.proofs.Printing.{same_stated}
use Rattle.printed_proofs.proofs.Unnoted.{AllAreUnnoted, proofs_unnoted}
use Rattle.proof_print.specs.Reread.{row_tables}
use Rattle.printed_proofs.specs.Refutations.{lines_with, AreAllRefuting, lines_printed, ArePrintableRefutations, whole_text, lines_had, ReadsRefutations}
use Rattle.printed_proofs.specs.Printed.{PrintedProof, HoldsNoProof}
use Rattle.proof_text.specs.declared.text.ProofRead.{ProofRead}

-- how many axioms there are doesn't depend on the numbers
axioms_count : (symbols : List ℕ) (k : ℕ) (scope : List ℕ) (terms : Substitution) (f : Fol) → length (skolem_axioms symbols k scope terms f) ≡ somes f
axioms_count symbols k scope terms verum = refl
axioms_count symbols k scope terms falsum = refl
axioms_count symbols k scope terms (equal s t) = refl
axioms_count symbols k scope terms (atom r ts) = refl
axioms_count symbols k scope terms (negation f) = refl
axioms_count symbols k scope terms (conjunction f g) =
    length-append (skolem_axioms symbols k scope terms f) (skolem_axioms symbols (k + somes f) scope terms g) ∙ ap₂ (λ a b. a + b) (axioms_count symbols k scope terms f) (axioms_count symbols (k + somes f) scope terms g)
axioms_count symbols k scope terms (disjunction f g) =
    length-append (skolem_axioms symbols k scope terms f) (skolem_axioms symbols (k + somes f) scope terms g) ∙ ap₂ (λ a b. a + b) (axioms_count symbols k scope terms f) (axioms_count symbols (k + somes f) scope terms g)
axioms_count symbols k scope terms (implication f g) = refl
axioms_count symbols k scope terms (equivalence f g) = refl
axioms_count symbols k scope terms (forall x f) = axioms_count symbols k (scope ++ x ∷ []) terms f
axioms_count symbols k scope terms (exists x f) =
    omega (arith, axioms_count symbols (k + 1) scope (with_term terms x (skolem_term (slice_index symbols k) scope)) f)

all_axioms_count : (symbols others : List ℕ) (k : ℕ) (ss : List Said) → length (axioms_from symbols k ss) ≡ length (axioms_from others k ss)
all_axioms_count symbols others k [] = refl
all_axioms_count symbols others k (s ∷ ss) =
    length-append (skolem_axioms symbols k [] var (form s)) (axioms_from symbols (k + somes (form s)) ss)
    ∙ ap₂ (λ a b. a + b) (axioms_count symbols k [] var (form s) ∙ sym (axioms_count others k [] var (form s))) (all_axioms_count symbols others (k + somes (form s)) ss)
    ∙ sym (length-append (skolem_axioms others k [] var (form s)) (axioms_from others (k + somes (form s)) ss))

module _ (stay : PlainRefutationsStay)
    (order : (table : List Symbol) (p : Stated) → IsWellFormed p → length p.symbols ≤ equality → KeepsNumbers p.symbols table → length (axioms_in_table table p) ≤ equality → AreInOrder (axioms_in_table table p))
    (new : (table : List Symbol) (p : Stated) → IsWellFormed p → length p.symbols ≤ equality → KeepsNumbers p.symbols table → length (axioms_in_table table p) ≤ equality → AreNewTo p.formulas (axioms_in_table table p))
    (proper : (m : Mode) (bytes : List ℕ) (s : Sofar) → Says m bytes (problem s) → IsProper (stated_in s) s.settings.options)
    (alone : OffersAreAlone)
    (reads : (input : List ℕ) (s : Sofar) (f : FileRead) (clauses : List OperatorRow) (table : List Symbol) (ps : List PrintedProof) (tail : List ℕ) → length input < 2 ^ 64
    → Says Prover input (problem s) → IsOf s f → ArePrintableRefutations f clauses table ps → HoldsNoProof tail → ReadsRefutations (whole_text input f clauses table ps tail) f table ps) where
  -- what comes of a reading whose problem is this one
  comes : (r : ProofRead) (q : Problem) → q ≡ r.problem → IsWellFormed (stated_of q) → length q.symbols ≤ equality → KeepsNumbers q.symbols r.symbols → first_over 1 (stated_of q).formulas ≡ None
      → length (axioms_in_table r.symbols (stated_of q)) ≤ equality → AreAllRefuting (stated_of q) r.symbols (lines_had r) → AllAreUnnoted (lines_had r) → (n : ℕ) → 0 < n → n ≡ length r.proofs.items → ComesOut (offered_by r) (Accepted n) n
  comes r q is well few keeps over skolems refute bare n some count =
      subst (λ (p : Problem). ComesOut (record { stated = stated_of p; asks = asks_of p; symbols = r.symbols; proofs = proofs_in r.proofs.items }) (Accepted n) n) is (
        over,
        (new r.symbols (stated_of q) well few keeps skolems, order r.symbols (stated_of q) well few keeps skolems),
        (are_refutations stay (asks_of q) (answer_terms_in_table r.symbols (stated_of q) (asks_of q)) (stated_of q) r.symbols r.proofs.items bare refute, some, count ∙ sym (length-map r.proofs.items (λ (d : Derivation). answered_lines_of d.lines.items)), refl),
      )

  pub accepted : (input : List ℕ) (s : Sofar) (f : FileRead) (clauses : List OperatorRow) (table : List Symbol) (ps : List PrintedProof) (tail : List ℕ) → length input < 2 ^ 64
      → Says Prover input (problem s) → IsOf s f → ArePrintableRefutations f clauses table ps → HasFewClauses f table → HoldsNoProof tail → 0 < length ps
      → AreAccepted (whole_text input f clauses table ps tail) f table ps
  accepted input s f clauses table ps tail short says is_of h limits none some =
      let r = reads input s f clauses table ps tail short says is_of h none in
      let p = stated_of f.problem in
      let is_proper = subst (λ (q : Stated). IsProper q s.settings.options) (same_stated s f is_of) (proper Prover input s says) in
      let few : length f.problem.symbols ≤ equality = omega (arith, is_proper.few) in
      let skolems : length (axioms_in_table r.read.symbols p) ≤ equality =
      subst (λ (n : ℕ). n ≤ equality) (all_axioms_count (skolem_numbers table p) (skolem_numbers r.read.symbols p) 0 p.formulas) limits.skolems in
      let count : length ps ≡ length r.read.proofs.items =
      sym (length-map ps (λ (q : PrintedProof). q.lines)) ∙ sym (length-map (lines_printed ps) (lines_with r.to)) ∙ ap length (sym r.proofs_are) ∙ length-map r.read.proofs.items (λ (d : Derivation). d.lines.items) in
      let bare : AllAreUnnoted (lines_had r.read) =
      subst AllAreUnnoted (sym r.proofs_are)
      (proofs_stay r.to (lines_printed ps) (proofs_unnoted (row_tables f.operators clauses) f.problem.options.prolog_style_variables f.problem.symbols table ps h.printable)) in
      record {
        reading = r;
        alone = alone (whole_text input f clauses table ps tail) (offered_by r.read) (r.read, r.is_read, refl);
        outcome = comes r.read f.problem (sym r.problem_is) is_proper.well_formed few r.keeps limits.clauses skolems r.refute bare (length ps) some count;
      }
