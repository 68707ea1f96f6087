-- The clauses that turns may pick.
use Rattle.std.specs.Prelude.{ℕ, ◌≡◌, ◌+◌, ◌<◌, nat_le, Bool, true, not, if◌then◌else◌, List, Option, Some, None, filter}
use Rattle.std.specs.Borrow.{Bor}
use Rattle.std.specs.Option.{option_map}
use Rattle.fol_core.specs.Literals.{ClauseTree}
use Rattle.given_clause.specs.declared.picking.Among.{Among}
use Rattle.given_clause.specs.declared.picking.Among.TheVariants.{All, Hinted, WithPositive, WithoutPositive}
use Rattle.given_clause.specs.declared.picking.Pick.{Pick}
use Rattle.given_clause.specs.declared.waiting.Note.{Note}
use Rattle.ladr_options.specs.declared.options.Options.{Options}
use Rattle.prover_steps.specs.Clashing.{Held}
use Rattle.prover_steps.specs.Picking.{Picked, has_positive, lightest, turn_at, turns_of}
use Rattle.prover_steps.specs.Searching.{Setting}

abbrev pub counts_among : Setting → Among → ClauseTree → Bool
counts_among st All c = true
counts_among st Hinted c = st.is_hinted c
counts_among st WithPositive c = has_positive c
counts_among st WithoutPositive c = not (has_positive c)

-- the first of the lightest ones of some
abbrev pub lightest_among : Setting → Among → List Held → Option Held
lightest_among st a hs = lightest st.weight (filter (λ h. counts_among st a h.clause) hs)

-- a clause with its weight, as lent; the best one so far, if there is one
abbrev pub best_of : Bor Held × ℕ → Picked
best_of p = (p.0.now, p.1)

abbrev pub best_so_far : Option (Bor Held × ℕ) → Option Picked
best_so_far best = option_map best_of best

-- the lighter one of it and the next
abbrev pub lighter_next : Option Picked → Picked → Picked
lighter_next None p = p
lighter_next (Some b) p = if nat_le b.1 p.1 then b else p

-- whether a clause is one of some by its note, and the best one so far with it
abbrev pub is_noted_among : Among → Note → Bool
is_noted_among All n = true
is_noted_among Hinted n = n.hinted
is_noted_among WithPositive n = n.positive
is_noted_among WithoutPositive n = not n.positive

abbrev pub best_next : Among → Option Picked → Held → Note → Option Picked
best_next a best h n =
    if is_noted_among a n then Some (lighter_next best (h, n.weight)) else best

-- so many turns from a place on are of one kind, and each behind the first is a turn of the cycle
abbrev pub IsRun : Options → ℕ → ℕ → Type 0
IsRun o n d =
    (0 < d) × ((m : ℕ) → m < d → (turn_at o (n + m) ≡ turn_at o n)
    × (0 < m → n + m < turns_of o))

-- a clause with the place of the next turn, as lent
abbrev pub pick_of : Pick → Picked
pick_of p = (p.held.now, p.turn)
