-- Runs of turns of one kind.
use Rattle.std.proofs.Common.{◌≡◌, ℕ, zero, suc, ◌+◌, ◌-◌, ◌<◌, ◌≤◌, nat_lt, min, Bool, if◌then◌else◌, List, Some, None, sym, ap, ◌∙◌, arith}
use Rattle.std.specs.Option.{option_map_or}
use Rattle.std.proofs.lemmas.Bool.{lt-ltb}
use Rattle.fol_core.specs.Literals.{ClauseTree}
use Rattle.given_clause.specs.Turns.{IsRun}
use Rattle.ladr_options.specs.declared.options.Options.{Options}
use Rattle.prover_steps.specs.Clashing.{Held}
use Rattle.prover_steps.specs.Picking.{picked_at, picked_from, turn_at, turn_behind, turns_of}

-- the place behind so many turns
abbrev pub place_behind : Options → ℕ → ℕ → ℕ
place_behind o n d = if nat_lt (n + d) (turns_of o) then n + d else 0

module _ (o : Options) (weight : ClauseTree → ℕ) (hs : List Held) where
  one_behind : (n : ℕ) → turn_behind o n ≡ place_behind o n 1
  one_behind n = let e : suc n ≡ n + 1 = omega arith in ap (λ m. if nat_lt m (turns_of o) then m else 0) e

  pass_one : (k n : ℕ) → picked_at weight hs (turn_at o n) ≡ None → picked_from o weight hs (suc k) n ≡ picked_from o weight hs k (turn_behind o n)
  pass_one k n e = ap (λ p. option_map_or (λ (h : Held). Some (h, turn_behind o n)) p (picked_from o weight hs k (turn_behind o n))) e

  -- where the first has a clause, it is picked
  pub pick_one : (left n turn : ℕ) (h : Held) → 0 < left → picked_at weight hs (turn_at o n) ≡ Some h → turn ≡ place_behind o n 1 → Some (h, turn) ≡ picked_from o weight hs left n
  pick_one left n turn h more some behind =
      let e : left ≡ suc (left - 1) = omega arith in
      ap (λ (t : ℕ). Some (h, t)) (behind ∙ sym (one_behind n))
      ∙ sym (ap (λ j. picked_from o weight hs j n) e ∙ ap (λ p. option_map_or (λ (k : Held). Some (k, turn_behind o n)) p (picked_from o weight hs (left - 1) (turn_behind o n))) some)

  pass_run : (d k n : ℕ) → ((m : ℕ) → m < suc d → turn_at o (n + m) ≡ turn_at o n) → ((m : ℕ) → m < suc d → 0 < m → n + m < turns_of o)
      → picked_at weight hs (turn_at o n) ≡ None → picked_from o weight hs (suc (d + k)) n ≡ picked_from o weight hs k (place_behind o n (suc d))
  pass_run zero k n same inner none =
      let e : zero + k ≡ k = omega arith in
      ap (λ j. picked_from o weight hs (suc j) n) e ∙ pass_one k n none ∙ ap (picked_from o weight hs k) (one_behind n)
  pass_run (suc d) k n same inner none =
      let e : suc d + k ≡ suc (d + k) = omega arith in
      let f : suc n + suc d ≡ n + suc (suc d) = omega arith in
      let g : n + 1 ≡ suc n = omega arith in
      let next : turn_at o (suc n) ≡ turn_at o n = sym (ap (turn_at o) g) ∙ same 1 (omega arith) in
      let more : suc n < turns_of o = omega (arith, inner 1 (omega arith) (omega arith)) in
      let behind : turn_behind o n ≡ suc n = ap (λ (b : Bool). if b then suc n else 0) (lt-ltb (suc n) (turns_of o) more) in
      ap (λ j. picked_from o weight hs (suc j) n) e ∙ pass_one (suc (d + k)) n none ∙ ap (picked_from o weight hs (suc (d + k))) behind
      ∙ pass_run d k (suc n)
      (λ m h. let g : suc n + m ≡ n + suc m = omega arith in ap (turn_at o) g ∙ same (suc m) (omega arith) ∙ sym next)
      (λ m h i. let j = inner (suc m) (omega arith) (omega arith) in omega (arith, j))
      (ap (picked_at weight hs) next ∙ none)
      ∙ ap (λ (m : ℕ). picked_from o weight hs k (if nat_lt m (turns_of o) then m else 0)) f

  -- where the first of a run has no clause, none of it has
  pub run_passed : (full run left n next : ℕ) → IsRun o n full → 0 < left → run ≡ min full left → picked_at weight hs (turn_at o n) ≡ None → next ≡ place_behind o n run
      → picked_from o weight hs left n ≡ picked_from o weight hs (left - run) next
  run_passed full run left n next is more least none behind =
      let full_some : 0 < full = is.0 in
      let some : 0 < run = omega arith in
      let within : run ≤ full = omega arith in
      let upto : run ≤ left = omega arith in
      let e : left ≡ suc ((run - 1) + (left - run)) = omega arith in
      let f : run ≡ suc (run - 1) = omega arith in
      ap (λ j. picked_from o weight hs j n) e
      ∙ pass_run (run - 1) (left - run) n
      (λ m h. (is.1 m (omega arith)).0)
      (λ m h i. (is.1 m (omega arith)).1 i)
      none
      ∙ ap (λ d. picked_from o weight hs (left - run) (place_behind o n d)) (sym f)
      ∙ ap (picked_from o weight hs (left - run)) (sym behind)
