-- Which clause is given next.
use Rattle.std.specs.Prelude.{ℕ, zero, suc, Bool, not, ◌+◌, nat_lt, nat_le, if◌then◌else◌, List, [], ◌∷◌, filter, Option, Some, None}
use Rattle.std.specs.List.{list_any}
use Rattle.std.specs.Option.{option_map, option_map_or}
use Rattle.fol_core.specs.Literals.{ClauseTree}
use Rattle.ladr_options.specs.declared.options.Options.{Options}
use Rattle.prover_steps.specs.Clashing.{Held}

-- a turn of the cycle: the oldest clause, or the lightest one of all, of those without a positive
-- literal, or of those with one
pub data Turn : Type 0 where
  by_age : Turn
  by_weight : Turn
  by_falsity : Turn
  by_truth : Turn

-- how many turns the cycle has, and which one stands at a place
abbrev pub turns_of : Options → ℕ
turns_of o = o.age_part + (o.weight_part + (o.false_part + o.true_part))

abbrev pub turn_at : Options → ℕ → Turn
turn_at o n =
    if nat_lt n o.age_part then by_age
    else (if nat_lt n (o.age_part + o.weight_part) then by_weight
    else (if nat_lt n (o.age_part + (o.weight_part + o.false_part)) then by_falsity else by_truth))

-- the place behind another one, the first behind the last
abbrev pub turn_behind : Options → ℕ → ℕ
turn_behind o n = if nat_lt (suc n) (turns_of o) then suc n else 0

abbrev pub has_positive : ClauseTree → Bool
has_positive c = list_any (λ l. l.positive) c

-- the first clause, by the numbers
abbrev pub oldest : List Held → Option Held
oldest [] = None
oldest (h ∷ hs) = Some h

-- the first of the lightest ones
abbrev pub lighter : (ClauseTree → ℕ) → Held → Option Held → Held
lighter weight h None = h
lighter weight h (Some k) = if nat_le (weight h.clause) (weight k.clause) then h else k

abbrev pub lightest : (ClauseTree → ℕ) → List Held → Option Held
lightest weight [] = None
lightest weight (h ∷ hs) = Some (lighter weight h (lightest weight hs))

-- the clause that a turn picks, if it has one
abbrev pub picked_at : (ClauseTree → ℕ) → List Held → Turn → Option Held
picked_at weight hs by_age = oldest hs
picked_at weight hs by_weight = lightest weight hs
picked_at weight hs by_falsity = lightest weight (filter (λ h. not (has_positive h.clause)) hs)
picked_at weight hs by_truth = lightest weight (filter (λ h. has_positive h.clause) hs)

-- a clause with the place of the next turn
abbrev pub Picked : Type 0
Picked = Held × ℕ

-- of so many turns from a place on, the first that has a clause
abbrev pub picked_from : Options → (ClauseTree → ℕ) → List Held → ℕ → ℕ →
    Option Picked
picked_from o weight hs zero n = None
picked_from o weight hs (suc k) n =
    option_map_or (λ h. Some (h, turn_behind o n)) (picked_at weight hs (turn_at o n))
    (picked_from o weight hs k (turn_behind o n))

-- One turn is looked for at most once around; where none has a clause, or there is none, the oldest
-- is picked and the place stays.
abbrev pub picked_in_turn : Options → (ClauseTree → ℕ) → List Held → ℕ → Option Picked
picked_in_turn o weight hs n =
    option_map_or (λ p. Some p) (picked_from o weight hs (turns_of o) n)
    (option_map (λ h. (h, n)) (oldest hs))

-- The lightest of the clauses that match a hint comes first, and the place stays.
abbrev pub picked : Options → (ClauseTree → ℕ) → (ClauseTree → Bool) → List Held → ℕ →
    Option Picked
picked o weight is_hinted hs n =
    option_map_or (λ h. Some (h, n)) (lightest weight (filter (λ h. is_hinted h.clause) hs))
    (picked_in_turn o weight hs n)
