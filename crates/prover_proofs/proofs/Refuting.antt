-- The proofs of a sound state are refutations.
use Rattle.std.proofs.Common.{◌≡◌, sym, ap, ◌∙◌, subst, List, [], ◌∷◌}
use Rattle.std.specs.List.{AllByRecursion}
use Rattle.clause_store.specs.Laws.{AncestorsRefute}
use Rattle.clause_store.specs.Lines.{PlainLine, plain_trees}
use Rattle.derivation.specs.Lines.{InputRow, LineTree, clause_at, IsDerivation}
use Rattle.fol_problem.specs.Stated.{Said}
use Rattle.prover_proofs.proofs.Saying.{state_lines_say}
use Rattle.prover_proofs.specs.ProofLaws.{IsProofOf, SoundProofsRefute, FoundProofsRefute}
use Rattle.prover_proofs.specs.SearchLines.{stated_lines, lines_at}
use Rattle.prover_steps.specs.SearchLaws.{all_lines, EndsEmpty, ReachedAreSound}
use Rattle.prover_steps.specs.Searching.{FoundProof}
use Rattle.prover_steps.specs.Starting.{problem_lines, start_state, StartsWell}

module _ (refute : AncestorsRefute) where
  each : (ss : List Said) (rows : List InputRow) (all : List PlainLine) (ls : List LineTree) → plain_trees all ≡ ls → IsDerivation ss rows ls
      → (ps : List FoundProof) → AllByRecursion (EndsEmpty ls) ps → AllByRecursion (IsProofOf ss rows all) ps
  each ss rows all ls say derives [] h = tt
  each ss rows all ls say derives (p ∷ ps) h = (
    λ some a. refute ss rows all some p.line (subst (λ (x : List LineTree). IsDerivation ss rows x) (sym say) derives) (ap (λ (x : List LineTree). clause_at x p.line) say ∙ h.0) a,
    each ss rows all ls say derives ps h.1,
  )

  pub sound_refute : SoundProofsRefute
  sound_refute formulas ss rows t say sound =
      each ss rows (lines_at (stated_lines formulas ss rows) t) (all_lines (problem_lines ss rows) t) (state_lines_say formulas ss rows t say) sound.derivation t.proofs sound.proofs

  pub found_refute : StartsWell → ReachedAreSound → FoundProofsRefute
  found_refute starts sound formulas ss rows st t say keeps are reaches =
      sound_refute formulas ss rows t say (sound ss rows (problem_lines ss rows) st (start_state ss rows) t keeps (starts ss rows are) reaches)
