-- When rewriting a clause stops.
use Rattle.std.specs.Prelude.{ℕ, ◌≡◌, ◌≤◌, ◌⊎◌, Bool, true, false, List, [], ◌∷◌, length, Some, None}
use Rattle.fol_core.specs.Literals.{ClauseTree}
use Rattle.derivation.specs.Later.{LaterWord}
use Rattle.prover_steps.specs.Clashing.{Held}
use Rattle.prover_steps.specs.Rewriting.{clause_step, normal_form}

module _ (too_large : ClauseTree → Bool) (rules : List Held) where
  -- first steps that make of a clause another, none of them one that is too large
  abbrev pub AreFirstSteps : List LaterWord → ClauseTree → ClauseTree → Type 0
  AreFirstSteps [] c d = c ≡ d
  AreFirstSteps (w ∷ ws) c d =
      (b : ClauseTree) × (clause_step rules 0 c ≡ Some (w, b)) × (too_large b ≡ false)
      × AreFirstSteps ws b d

  -- no rule fits, or the next step makes the clause too large
  abbrev pub HasNoNextStep : ClauseTree → Type 0
  HasNoNextStep c =
      (clause_step rules 0 c ≡ None)
      ⊎ ((w : LaterWord) × (d : ClauseTree) × (clause_step rules 0 c ≡ Some (w, d))
      × (too_large d ≡ true))

-- A clause is rewritten by its first steps, so many at most, and then there are so many or there is
-- no next one.
pub record IsRewrittenAtMost (too_large : ClauseTree → Bool) (rules : List Held) (k : ℕ)
    (c d : ClauseTree) (ws : List LaterWord) : Type 0 where
  pub steps : AreFirstSteps too_large rules ws c d
  pub within : length ws ≤ k
  pub stops : (length ws ≡ k) ⊎ HasNoNextStep too_large rules d

abbrev pub RewritingStops : Type 0
RewritingStops =
    (too_large : ClauseTree → Bool) (rules : List Held) (k : ℕ) (c : ClauseTree)
    → IsRewrittenAtMost too_large rules k c (normal_form too_large rules k c).clause
    (normal_form too_large rules k c).words
