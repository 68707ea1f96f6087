-- A refutation of what a file asks for leaves no countermodel.
use Rattle.std.proofs.Common.{ℕ, ◌≤◌, ◌<◌, ◌^◌, List, length, subst, arith}
use Rattle.clause_store.specs.Lines.{PlainLine, plain_trees}
use Rattle.clausify.specs.Input.{skolem_numbers, axioms_in_table}
use Rattle.derivation.specs.Laws.{LinesNameNone, NoneIsWithin}
use Rattle.fol_problem.proofs.Soundness.{sound_below}
use Rattle.fol_core.specs.Literals.{equality}
use Rattle.fol_core.specs.Meaning.{Meaning, IsLawful}
use Rattle.fol_core.specs.SkolemAxioms.{AreInOrder}
use Rattle.fol_problem.specs.Stated.{Stated, AreWellFormed, IsWellFormed, AreNewTo}
use Rattle.fol_core.specs.SymbolTable.{Symbol, KeepsNumbers}
use Rattle.ladr_formulas.specs.declared.styles.Mode.{Mode}
use Rattle.ladr_formulas.specs.declared.styles.Mode.TheVariants.{Prover}
use Rattle.ladr_lex.specs.declared.limits.TheConstants.{MOST_SYMBOLS}
use Rattle.ladr_problem.specs.File.{Says, problem}
use Rattle.ladr_problem.specs.Proper.{IsProper}
use Rattle.ladr_problem.specs.Sofar.{Sofar, said_in, stated_in}
use Rattle.ladr_prover9.specs.Quests.{Quest, search_by, asks}
use Rattle.ladr_prover9.specs.Shown.{AreRefutingLines, LeavesNone}
use Rattle.derivation_laws.specs.Countermodels.{RefutationsLeaveNone}
use Rattle.prover_setup.specs.SearchInputs.{witnesses_in}

module _ (proper : (m : Mode) (bytes : List ℕ) (s : Sofar) → Says m bytes (problem s) → IsProper (stated_in s) s.settings.options) (within : NoneIsWithin)
    (leave : (m : Meaning) → IsLawful m → RefutationsLeaveNone m)
    (order : (table : List Symbol) (p : Stated) → IsWellFormed p → length p.symbols ≤ equality → KeepsNumbers p.symbols table → length (axioms_in_table table p) ≤ equality → AreInOrder (axioms_in_table table p))
    (new : (table : List Symbol) (p : Stated) → IsWellFormed p → length p.symbols ≤ equality → KeepsNumbers p.symbols table → length (axioms_in_table table p) ≤ equality → AreNewTo p.formulas (axioms_in_table table p)) where
  file_leaves : (bytes : List ℕ) (s : Sofar) → Says Prover bytes (problem s) → length (witnesses_in (search_by s)) < 2 ^ 63 → (lines : List PlainLine)
      → LinesNameNone (plain_trees lines) → AreRefutingLines (search_by s) lines → LeavesNone (search_by s)
  file_leaves bytes s says few lines nameless refute =
      let is = proper Prover bytes s says in
      let many : length s.symbols ≤ MOST_SYMBOLS = is.few in
      let symbols : length s.symbols ≤ equality = omega (arith, many) in
      let behind : length (witnesses_in (search_by s)) ≤ equality = omega (arith, few) in
      let well_formed : AreWellFormed equality (said_in s) = sound_below (length s.symbols) equality (said_in s) symbols is.well_formed in
      record {
        none = λ m lawful picks. leave m lawful (skolem_numbers s.symbols (stated_in s)) (said_in s) (plain_trees lines) well_formed refute (within m (plain_trees lines) nameless) picks;
        new = new s.symbols (stated_in s) is.well_formed symbols (λ n t e. e) behind;
        in_order = order s.symbols (stated_in s) is.well_formed symbols (λ n t e. e) behind;
      }

  -- what the bytes ask for, where there are no more Skolem symbols than numbers of symbols, and no line of the refutation names an element
  pub asked_leaves : (bytes : List ℕ) (q : Quest) → asks bytes q → length (witnesses_in q.search) < 2 ^ 63 → (lines : List PlainLine)
      → LinesNameNone (plain_trees lines) → AreRefutingLines q.search lines → LeavesNone q.search
  asked_leaves bytes q h = subst (λ (r : Quest). length (witnesses_in r.search) < 2 ^ 63 → (lines : List PlainLine) → LinesNameNone (plain_trees lines) → AreRefutingLines r.search lines → LeavesNone r.search) h.2 (file_leaves bytes h.0 h.1)
