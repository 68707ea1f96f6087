-- What is picked is one of the clauses that wait.
use Rattle.std.proofs.Common.{ℕ, zero, suc, Bool, true, false, not, nat_le, filter, if◌then◌else◌, List, [], ◌∷◌, Option, Some, None}
use Rattle.std.specs.List.{AllByRecursion}
use Rattle.std.specs.Option.{option_map, option_map_or}
use Rattle.fol_core.specs.Literals.{ClauseTree}
use Rattle.ladr_options.specs.declared.options.Options.{Options}
use Rattle.prover_steps.specs.Clashing.{Held}
use Rattle.prover_steps.specs.Picking.{Turn, by_age, by_weight, by_falsity, by_truth, turns_of, turn_at, turn_behind, has_positive, oldest, lighter, lightest, Picked, picked_at, picked_from, picked_in_turn, picked}
use Rattle.prover_steps.proofs.Lists.{all_kept}

module _ (P : Held → Type 0) (weight : ClauseTree → ℕ) where
  abbrev Has : Option Held → Type 0
  Has None = Unit {0}
  Has (Some h) = P h

  oldest_has : (hs : List Held) → AllByRecursion P hs → Has (oldest hs)
  oldest_has [] all = tt
  oldest_has (h ∷ hs) all = all.0

  lighter_has : (h : Held) (k : Option Held) → P h → Has k → P (lighter weight h k)
  lighter_has h None has other = has
  lighter_has h (Some k) has other = by (nat_le (weight h.clause) (weight k.clause))
    where
      by : (b : Bool) → P (if b then h else k)
      by true = has
      by false = other

  lightest_has : (hs : List Held) → AllByRecursion P hs → Has (lightest weight hs)
  lightest_has [] all = tt
  lightest_has (h ∷ hs) all = lighter_has h (lightest weight hs) all.0 (lightest_has hs all.1)

  picked_at_has : (hs : List Held) → AllByRecursion P hs → (t : Turn) → Has (picked_at weight hs t)
  picked_at_has hs all by_age = oldest_has hs all
  picked_at_has hs all by_weight = lightest_has hs all
  picked_at_has hs all by_falsity = lightest_has _ (all_kept P (λ h. not (has_positive h.clause)) hs all)
  picked_at_has hs all by_truth = lightest_has _ (all_kept P (λ h. has_positive h.clause) hs all)

  abbrev pub HasPicked : Option Picked → Type 0
  HasPicked None = Unit {0}
  HasPicked (Some p) = P p.0

  module _ (o : Options) (hs : List Held) (all : AllByRecursion P hs) where
    picked_from_has : (k n : ℕ) → HasPicked (picked_from o weight hs k n)
    picked_from_has zero n = tt
    picked_from_has (suc k) n = by (picked_at weight hs (turn_at o n)) (picked_at_has hs all (turn_at o n)) (picked_from_has k (turn_behind o n))
      where
        by : (h : Option Held) → Has h → HasPicked (picked_from o weight hs k (turn_behind o n)) → HasPicked (option_map_or (λ h. Some (h, turn_behind o n)) h (picked_from o weight hs k (turn_behind o n)))
        by None has rest = rest
        by (Some h) has rest = has

    in_turn_has : (n : ℕ) → HasPicked (picked_in_turn o weight hs n)
    in_turn_has n = by (picked_from o weight hs (turns_of o) n) (picked_from_has (turns_of o) n)
      where
        first : (h : Option Held) → Has h → HasPicked (option_map (λ h. (h, n)) h)
        first None has = tt
        first (Some h) has = has

        by : (p : Option Picked) → HasPicked p → HasPicked (option_map_or (λ p. Some p) p (option_map (λ h. (h, n)) (oldest hs)))
        by None has = first (oldest hs) (oldest_has hs all)
        by (Some p) has = has

    pub picked_has : (is_hinted : ClauseTree → Bool) (n : ℕ) → HasPicked (picked o weight is_hinted hs n)
    picked_has is_hinted n = hinted (lightest weight (filter (λ h. is_hinted h.clause) hs)) (lightest_has _ (all_kept P (λ h. is_hinted h.clause) hs all))
      where
        hinted : (h : Option Held) → Has h → HasPicked (option_map_or (λ h. Some (h, n)) h (picked_in_turn o weight hs n))
        hinted None has = in_turn_has n
        hinted (Some h) has = has
