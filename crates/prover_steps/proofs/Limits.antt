-- No counter passes its limit, and the reason of an end is true.
use Rattle.std.proofs.Common.{◌≡◌, ◌≢◌, ℕ, zero, suc, ◌<◌, ◌≤◌, Bool, true, false, not, nat_le, max, if◌then◌else◌, length, List, [], ◌∷◌, filter, Option, Some, None, is_some, unwrap_or, refl, sym, ap, subst, ◌∙◌, leb-true, leb-false, arith}
use Rattle.std.proofs.lemmas.Bool.{false≢true, true≢false}
use Rattle.std.specs.Option.{option_map_or}
use Rattle.fol_core.specs.Literals.{ClauseTree}
use Rattle.fol_problem.specs.Stated.{Said}
use Rattle.derivation.specs.Lines.{InputRow}
use Rattle.ladr_options.specs.declared.options.Options.{Options}
use Rattle.prover_steps.specs.Clashing.{Held}
use Rattle.prover_steps.specs.Ending.{IsReason, IsBelowLimits, IsWithinLimits}
use Rattle.prover_steps.specs.Picking.{Picked, lightest, picked_at, picked_from, picked_in_turn, picked, Turn, by_age, by_weight, by_falsity, by_truth, turn_at, turn_behind, turns_of}
use Rattle.prover_steps.specs.Searching.{Setting, Reason, spent, gave_all, Queued, SearchState, is_nil, processed, limit_reached, under_limits, gives, gives_picked, given_next, queue_next, next_state, after}
use Rattle.prover_steps.specs.Starting.{start_state}
use Rattle.prover_steps.proofs.Ends.{Passes, processed_counts, IsTold, limits_tell}

-- a clause is picked where one waits
module _ (o : Options) (weight : ClauseTree → ℕ) where
  none_at : (t : Turn) → picked_at weight [] t ≡ None
  none_at by_age = refl
  none_at by_weight = refl
  none_at by_falsity = refl
  none_at by_truth = refl

  none_from : (k n : ℕ) → picked_from o weight [] k n ≡ None
  none_from zero n = refl
  none_from (suc k) n = ap (λ h. option_map_or (λ h. Some (h, turn_behind o n)) h (picked_from o weight [] k (turn_behind o n))) (none_at (turn_at o n)) ∙ none_from k (turn_behind o n)

  pub picks_some : (is_hinted : ClauseTree → Bool) (hs : List Held) (n : ℕ) → is_some (picked o weight is_hinted hs n) ≡ not (is_nil hs)
  picks_some is_hinted [] n = ap (λ p. is_some (option_map_or (λ p. Some p) p None)) (none_from (turns_of o) n)
  picks_some is_hinted (h ∷ hs) n = hinted (lightest weight (filter (λ h. is_hinted h.clause) (h ∷ hs)))
    where
      turned : (p : Option Picked) → is_some (option_map_or (λ p. Some p) p (Some (h, n))) ≡ true
      turned None = refl
      turned (Some p) = refl

      hinted : (k : Option Held) → is_some (option_map_or (λ h. Some (h, n)) k (picked_in_turn o weight (h ∷ hs) n)) ≡ true
      hinted None = turned (picked_from o weight (h ∷ hs) (turns_of o) n)
      hinted (Some k) = refl

nil_none : {X : Type 0} (xs : List X) → not (is_nil xs) ≡ false → xs ≡ []
nil_none [] e = refl
nil_none (x ∷ xs) e = absurd (true≢false e)

none_nil : {X : Type 0} (xs : List X) → not (is_nil xs) ≡ true → xs ≢ []
none_nil [] e = absurd (false≢true e)
none_nil (x ∷ xs) e = λ same. cc

-- limits, and reasons
module _ (st : Setting) where
  below_limits : (s : SearchState) → IsTold st s None → IsBelowLimits st s
  below_limits s (p, k, m) = record { kept = omega (arith, k); proofs = omega (arith, p); symbols = omega (arith, m) }

  only_reason : (s : SearchState) (r q : Reason) → IsReason st s r → Some r ≡ Some q → IsReason st s q
  only_reason s r q is same = subst (λ p. IsReason st s p) (ap (λ o. unwrap_or o r) same) is

  no_reason : (s : SearchState) (r : Reason) → s.ended ≡ None → s.ended ≡ Some r → ⊥
  no_reason s r e f = false≢true (sym (ap is_some e) ∙ ap is_some f)

  -- an end for a reason that is true
  ends_within : (s : SearchState) (r : Reason) → IsWithinLimits st s → IsReason st (record s { ended = Some r }) r → IsWithinLimits st (record s { ended = Some r })
  ends_within s r w is = record {
    given = w.given;
    kept = w.kept;
    proofs = w.proofs;
    before = λ e. absurd (true≢false (ap is_some e));
    reason = λ q same. only_reason (record s { ended = Some r }) r q is same;
  }

  gives_within : (s : SearchState) (p : Picked) → s.ended ≡ None → s.given < st.options.max_given → IsWithinLimits st s → IsWithinLimits st (record (gives st s p.0) { turn = p.1 })
  gives_within s p e more w =
      let below = w.before e in
      record {
        given = omega (arith, more);
        kept = w.kept;
        proofs = w.proofs;
        before = λ f. record { kept = below.kept; proofs = below.proofs; symbols = below.symbols };
        reason = λ r f. absurd (no_reason s r e f);
      }

  given_within : (s : SearchState) → s.ended ≡ None → s.queue ≡ [] → IsWithinLimits st s → IsWithinLimits st (given_next st s)
  given_within s e f w = by (picked st.options st.weight st.is_hinted s.waiting s.turn) refl
    where
      waits : (b : Bool) → is_some (picked st.options st.weight st.is_hinted s.waiting s.turn) ≡ b → not (is_nil s.waiting) ≡ b
      waits b h = sym (picks_some st.options st.weight st.is_hinted s.waiting s.turn) ∙ h

      enough : (p : Picked) → s.waiting ≢ [] → (b : Bool) → nat_le st.options.max_given s.given ≡ b
          → IsWithinLimits st (if b then record s { ended = Some gave_all } else record (gives st s p.0) { turn = p.1 })
      enough p some true h = ends_within s gave_all w (f, some, leb-true st.options.max_given s.given h)
      enough p some false h = gives_within s p e (leb-false st.options.max_given s.given h) w

      by : (p : Option Picked) → picked st.options st.weight st.is_hinted s.waiting s.turn ≡ p → IsWithinLimits st (option_map_or (gives_picked st s) p (record s { ended = Some spent }))
      by None h = ends_within s spent w (f, nil_none s.waiting (waits false (ap is_some h)))
      by (Some p) h = enough p (none_nil s.waiting (waits true (ap is_some h))) (nat_le st.options.max_given s.given) refl

  processed_within : (s : SearchState) (q : Queued) → s.ended ≡ None → IsWithinLimits st s → IsWithinLimits st (under_limits st (processed st s q))
  processed_within s q e w = by (limit_reached st t) (limits_tell st t)
    where
      t : SearchState
      t = processed st s q

      passes : Passes st s t
      passes = processed_counts st s q

      below : IsBelowLimits st s
      below = w.before e

      given : t.given ≤ st.options.max_given
      given = omega (arith, passes.2.0, w.given)

      kept : t.kept ≤ max 1 st.options.max_kept
      kept = omega (arith, passes.1, passes.2.1, below.kept)

      proofs : length t.proofs ≤ max 1 st.options.max_proofs
      proofs = omega (arith, passes.2.2, below.proofs)

      by : (o : Option Reason) → IsTold st t o → IsWithinLimits st (record t { ended = o })
      by None told = record {
        given = given;
        kept = kept;
        proofs = proofs;
        before = λ f. let below = below_limits t told in record { kept = below.kept; proofs = below.proofs; symbols = below.symbols };
        reason = λ r f. absurd (false≢true (ap is_some f));
      }
      by (Some p) told = record {
        given = given;
        kept = kept;
        proofs = proofs;
        before = λ f. absurd (true≢false (ap is_some f));
        reason = λ r f. only_reason (record t { ended = Some p }) p r told f;
      }

  queue_within : (s : SearchState) (qs : List Queued) → s.queue ≡ qs → s.ended ≡ None → IsWithinLimits st s → IsWithinLimits st (queue_next st s qs)
  queue_within s [] f e w = given_within s e f w
  queue_within s (q ∷ qs) f e w =
      processed_within (record s { queue = qs }) q e
      (record {
        given = w.given;
        kept = w.kept;
        proofs = w.proofs;
        before = λ g. let below = w.before e in record { kept = below.kept; proofs = below.proofs; symbols = below.symbols };
        reason = λ r g. absurd (no_reason s r e g);
      })

  pub next_within : (s : SearchState) → IsWithinLimits st s → IsWithinLimits st (next_state st s)
  next_within s w = by s.ended refl
    where
      by : (o : Option Reason) → s.ended ≡ o → IsWithinLimits st (if is_some o then s else queue_next st s s.queue)
      by None e = queue_within s s.queue refl e w
      by (Some r) e = w

  pub after_within : (k : ℕ) (s : SearchState) → IsWithinLimits st s → IsWithinLimits st (after st k s)
  after_within zero s w = w
  after_within (suc k) s w = after_within k (next_state st s) (next_within s w)

  pub start_within : (ss : List Said) (rows : List InputRow) → IsWithinLimits st (start_state ss rows)
  start_within ss rows = record {
    given = omega arith;
    kept = omega arith;
    proofs = omega arith;
    before = λ e. record { kept = omega arith; proofs = omega arith; symbols = omega arith };
    reason = λ r e. absurd (false≢true (ap is_some e));
  }
