-- What is known of each quest that the bytes ask for.
use Rattle.std.proofs.Common.{◌≡◌, ℕ, Bool, false, List, [], ◌∷◌, subst}
use Rattle.std.specs.List.{AllByRecursion}
use Rattle.clause_store.specs.Ancestors.{AreAncestors}
use Rattle.clause_store.specs.Lines.{PlainLine}
use Rattle.clausify.specs.Input.{skolem_numbers}
use Rattle.derivation.specs.Lines.{InputRow}
use Rattle.fol_core.specs.Occurs.{names}
use Rattle.fol_core.specs.RawTree.{RawTree}
use Rattle.fol_core.specs.SymbolTable.{Symbol}
use Rattle.ladr_formulas.specs.Formulas.{formula_reading, style_of}
use Rattle.ladr_formulas.specs.declared.styles.Mode.{Mode}
use Rattle.ladr_formulas.specs.declared.styles.Mode.TheVariants.{Prover}
use Rattle.ladr_problem.specs.File.{Says, Outcome}
use Rattle.ladr_problem.specs.Sofar.{said_in, stated_in}
use Rattle.ladr_prover9.proofs.Elementless.{NamesNot, all_rows_none}
use Rattle.ladr_problem.proofs.Growing.{says_grows}
use Rattle.ladr_prover9.proofs.FileElements.{grown_none}
use Rattle.ladr_prover9.proofs.NoTerms.{PutNone, quest_none}
use Rattle.ladr_prover9.proofs.Numbered.{AreNumbered}
use Rattle.ladr_prover9.proofs.Showing.{IsShowing, Known, all_show}
use Rattle.ladr_prover9.specs.Askings.{IsSoundQuest}
use Rattle.ladr_prover9.specs.Finding.{KeepsLimits}
use Rattle.ladr_prover9.specs.Quests.{Quest, asks, quest_lines}
use Rattle.ladr_prover9.specs.Shown.{AreRefutingLines, LeavesNone, ProofsShow}
use Rattle.prover_proofs.specs.ProofLaws.{IsProofOf, FoundProofsRefute}
use Rattle.prover_setup.specs.SearchInputs.{rows_in, setting_in}
use Rattle.prover_steps.specs.Searching.{FoundProof}
use Rattle.search_lines.specs.Shapes.{MadeLinesAreFit}

-- no clause of what is asked for names an element
module _ (law : (prolog : Bool) (table : List Symbol) (t : RawTree) (k : ℕ) → names k (formula_reading (style_of Prover prolog) table t).tree ≡ false) where
  pub asked_none : (k : ℕ) (bytes : List ℕ) (q : Quest) → asks bytes q → AllByRecursion (λ (r : InputRow). NamesNot k r.1) (rows_in q.search)
  asked_none k bytes q h =
      let s = h.0 in
      subst (λ (r : Quest). AllByRecursion (λ (row : InputRow). NamesNot k row.1) (rows_in r.search)) h.2
      (all_rows_none k (skolem_numbers s.symbols (stated_in s)) (said_in s) (grown_none law k s (says_grows Prover bytes s h.1)))

-- refutations that put no terms in leave no countermodel
module _ (q : Quest) (leaves : (lines : List PlainLine) → PutNone lines → KeepsLimits q → AreRefutingLines q.search lines → LeavesNone q.search) (all : List PlainLine)
    (none : (n : ℕ) (lines : List PlainLine) → AreAncestors all n lines → PutNone lines) where
  all_leave : (ps : List FoundProof) → AllByRecursion (IsProofOf q.search.stated.formulas (rows_in q.search) all) ps
      → AllByRecursion (λ (p : FoundProof). (lines : List PlainLine) → AreAncestors all p.line lines → IsShowing q lines) ps
  all_leave [] h = tt
  all_leave (p ∷ ps) h = (
    λ lines ancestors. (h.0 lines ancestors, λ within. leaves lines (none p.line lines ancestors) within (h.0 lines ancestors)),
    all_leave ps h.1,
  )

-- the lines that a proof rests on are a refutation, of each state that is reached
pub known_by : (found : FoundProofsRefute) (fit : MadeLinesAreFit) (bytes : List ℕ) (q : Quest) → asks bytes q → IsSoundQuest q → AreNumbered q
    → ((lines : List PlainLine) → PutNone lines → KeepsLimits q → AreRefutingLines q.search lines → LeavesNone q.search) → Known q
known_by found fit bytes q asked sound numbered leaves = record {
  numbered = numbered;
  refute =
      λ t reached.
      all_leave q leaves (quest_lines q t) (quest_none bytes q asked t (fit (setting_in q.search) q.search.stated.formulas (rows_in q.search) t reached)) t.proofs
      (found q.formulas q.search.stated.formulas (rows_in q.search) (setting_in q.search) t sound.say sound.keeps sound.rows reached);
}

-- so every run shows its proofs, where each refutation leaves no countermodel
pub show_by : ((m : Mode) (bytes : List ℕ) (o p : Outcome) → Says m bytes o → Says m bytes p → o ≡ p) → FoundProofsRefute → MadeLinesAreFit → ((bytes : List ℕ) (q : Quest) → asks bytes q → IsSoundQuest q)
    → ((bytes : List ℕ) (q : Quest) → asks bytes q → AreNumbered q)
    → ((bytes : List ℕ) (q : Quest) → asks bytes q → (lines : List PlainLine) → PutNone lines → KeepsLimits q → AreRefutingLines q.search lines → LeavesNone q.search) → ProofsShow
show_by once found fit sound numbered leaves = all_show once (λ bytes q asked. known_by found fit bytes q asked (sound bytes q asked) (numbered bytes q asked) (leaves bytes q asked))
