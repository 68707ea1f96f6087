-- When rewriting a clause stops.
use Rattle.std.proofs.Common.{◌≡◌, ℕ, zero, suc, ◌⊎◌, inl, inr, Bool, true, false, if◌then◌else◌, length, List, [], ◌∷◌, Option, Some, None, refl, ap, arith}
use Rattle.std.specs.Option.{option_map_or}
use Rattle.fol_core.specs.Literals.{ClauseTree}
use Rattle.derivation.specs.Later.{LaterWord}
use Rattle.prover_steps.specs.Clashing.{Held}
use Rattle.prover_steps.specs.Rewriting.{Simplified, simplified, then_word, clause_step, normal_form}
use Rattle.prover_steps.specs.StopLaws.{HasNoNextStep, IsRewrittenAtMost}

module _ (too_large : ClauseTree → Bool) (rules : List Held) where
  stays : (k : ℕ) (c : ClauseTree) → HasNoNextStep too_large rules c → IsRewrittenAtMost too_large rules k c c []
  stays k c no_next = record { steps = refl; within = omega arith; stops = inr no_next }

  goes_on : (k : ℕ) (c b : ClauseTree) (w : LaterWord) (s : Simplified) → clause_step rules 0 c ≡ Some (w, b) → too_large b ≡ false → IsRewrittenAtMost too_large rules k b s.clause s.words
      → IsRewrittenAtMost too_large rules (suc k) c s.clause (w ∷ s.words)
  goes_on k c b w s e small r = record { steps = (b, e, small, r.steps); within = omega (arith, r.within); stops = by r.stops }
    where
      by : (length s.words ≡ k) ⊎ HasNoNextStep too_large rules s.clause → (suc (length s.words) ≡ suc k) ⊎ HasNoNextStep too_large rules s.clause
      by (inl same) = inl (ap suc same)
      by (inr no_next) = inr no_next

  pub rewriting_stops : (k : ℕ) (c : ClauseTree) → IsRewrittenAtMost too_large rules k c (normal_form too_large rules k c).clause (normal_form too_large rules k c).words
  rewriting_stops zero c = record { steps = refl; within = omega arith; stops = inl refl }
  rewriting_stops (suc k) c = by (clause_step rules 0 c) refl (rewriting_stops k)
    where
      taken : (w : LaterWord) (b : ClauseTree) (large : Bool) → clause_step rules 0 c ≡ Some (w, b) → too_large b ≡ large
          → IsRewrittenAtMost too_large rules k b (normal_form too_large rules k b).clause (normal_form too_large rules k b).words
          → IsRewrittenAtMost too_large rules (suc k) c (if large then simplified c [] else then_word w (normal_form too_large rules k b)).clause
          (if large then simplified c [] else then_word w (normal_form too_large rules k b)).words
      taken w b true e large rest = stays (suc k) c (inr (w, b, e, large))
      taken w b false e small rest = goes_on k c b w (normal_form too_large rules k b) e small rest

      by : (o : Option (LaterWord × ClauseTree)) → clause_step rules 0 c ≡ o
          → ((b : ClauseTree) → IsRewrittenAtMost too_large rules k b (normal_form too_large rules k b).clause (normal_form too_large rules k b).words)
          → IsRewrittenAtMost too_large rules (suc k) c
          (option_map_or (λ s. if too_large s.1 then simplified c [] else then_word s.0 (normal_form too_large rules k s.1)) o (simplified c [])).clause
          (option_map_or (λ s. if too_large s.1 then simplified c [] else then_word s.0 (normal_form too_large rules k s.1)) o (simplified c [])).words
      by None e rest = stays (suc k) c (inl e)
      by (Some s) e rest = taken s.0 s.1 (too_large s.1) e refl (rest s.1)
