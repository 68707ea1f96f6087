-- What keeps the clauses of a search in order.
use Rattle.std.specs.Prelude.{ℕ, ◌≡◌, ◌<◌, ◌≤◌, ◌==◌, Bool, true, not, List, [], ◌∷◌, ◌++◌, filter, Some}
use Rattle.std.specs.List.{AllByRecursion, list_any}
use Rattle.fol_core.specs.Literals.{ClauseTree}
use Rattle.fol_problem.specs.Stated.{Said}
use Rattle.derivation.specs.Lines.{InputRow}
use Rattle.ladr_options.specs.declared.options.Options.{Options}
use Rattle.proof_words.specs.Written.{WrittenFirst}
use Rattle.prover_steps.specs.Clashing.{Held, is_same_held}
use Rattle.prover_steps.specs.HeldOrder.{numbers_of, input_numbers, IsRising, IsNoneOf, IsInOrder, IsUnusedIn, IsNoRuleIn, KeepsOrder, merged_held}
use Rattle.prover_steps.specs.Picking.{Picked, picked}
use Rattle.prover_steps.specs.Searching.{Setting, Queued, SearchState, put_in, all_held, number_for, with_line, keeps, unit_meets, held_without, retires, puts_back, subsumes_back, deletes_back, rewrites_back, rules_back, works_back, after_kept, settled, processed, gives, next_state, SearchReaches}
use Rattle.prover_steps.specs.Starting.{start_state}

-- a clause put among others, none of which has its number
abbrev pub PuttingKeepsOrder : Type 0
PuttingKeepsOrder =
    (h : Held) (hs : List Held)
    → IsRising (numbers_of hs) → IsNoneOf h.number (numbers_of hs)
    → IsRising (numbers_of (put_in h hs))

-- it stands behind those that have no greater number
abbrev pub PutsBetween : Type 0
PutsBetween =
    (h : Held) (front back : List Held)
    → AllByRecursion (λ n. n ≤ h.number) (numbers_of front)
    → AllByRecursion (λ n. h.number < n) (numbers_of back)
    → put_in h (front ++ back) ≡ front ++ h ∷ back

-- and so at the end where its number is above all others
abbrev pub PutsLast : Type 0
PutsLast =
    (h : Held) (hs : List Held)
    → AllByRecursion (λ n. n < h.number) (numbers_of hs) → put_in h hs ≡ hs ++ h ∷ []

-- clauses without some of them
abbrev pub LeavingKeepsOrder : Type 0
LeavingKeepsOrder =
    (gone hs : List Held)
    → IsRising (numbers_of hs) → IsRising (numbers_of (held_without gone hs))

-- the one under a number is left out at its place
abbrev pub LeavesOne : Type 0
LeavesOne =
    (g : Held) (front back : List Held)
    → IsRising (numbers_of (front ++ g ∷ back))
    → filter (λ h. not (h.number == g.number)) (front ++ g ∷ back) ≡ front ++ back

-- those that wait and those in use are one list by the numbers
abbrev pub HeldAreMerged : Type 0
HeldAreMerged = (s : SearchState) → IsInOrder s → all_held s ≡ merged_held s.waiting s.usable

abbrev pub HeldAreRising : Type 0
HeldAreRising = (s : SearchState) → IsInOrder s → IsRising (numbers_of (all_held s))

-- The first clause leaves the queue, and its number, if it has one, is unused then.
abbrev pub QueueGivesUnused : Type 0
QueueGivesUnused =
    (s : SearchState) (q : Queued) (qs : List Queued)
    → s.queue ≡ q ∷ qs → IsInOrder s
    → IsInOrder (record s { queue = qs })
    × AllByRecursion (IsUnusedIn (record s { queue = qs })) (input_numbers (q ∷ []))

-- with its line it has an unused number in any case
abbrev pub LineGivesUnused : Type 0
LineGivesUnused =
    (s : SearchState) (q : Queued)
    → IsInOrder s → AllByRecursion (IsUnusedIn s) (input_numbers (q ∷ []))
    → IsInOrder (with_line s q) × IsUnusedIn (with_line s q) (number_for s q)

-- a clause under an unused number is kept
abbrev pub KeepingKeepsOrder : Type 0
KeepingKeepsOrder =
    (s : SearchState) (h : Held) (usable : Bool)
    → IsInOrder s → IsUnusedIn s h.number
    → IsInOrder (keeps s h usable) × IsNoRuleIn (keeps s h usable) h.number

-- clauses are retired, or put back
abbrev pub RetiringKeepsOrder : Type 0
RetiringKeepsOrder = (gone : List Held) (s : SearchState) → KeepsOrder s (retires gone s)

abbrev pub PuttingBackKeepsOrder : Type 0
PuttingBackKeepsOrder =
    (word : ℕ → WrittenFirst) (gone : List Held) (s : SearchState)
    → KeepsOrder s (puts_back word gone s)

-- a clause meets units, subsumes others, deletes from them, or rewrites them
abbrev pub MeetingKeepsOrder : Type 0
MeetingKeepsOrder = (s : SearchState) (h : Held) → KeepsOrder s (unit_meets s h)

abbrev pub SubsumingKeepsOrder : Type 0
SubsumingKeepsOrder =
    (st : Setting) (h : Held) (s : SearchState) → KeepsOrder s (subsumes_back st h s)

abbrev pub DeletingKeepsOrder : Type 0
DeletingKeepsOrder =
    (st : Setting) (h : Held) (s : SearchState) → KeepsOrder s (deletes_back st h s)

abbrev pub RewritingKeepsOrder : Type 0
RewritingKeepsOrder =
    (st : Setting) (h : Held) (s : SearchState) → KeepsOrder s (rewrites_back st h s)

-- a clause that is no rule yet becomes one, and rewrites
abbrev pub RuleKeepsOrder : Type 0
RuleKeepsOrder =
    (s : SearchState) (h : Held)
    → IsInOrder s → IsNoRuleIn s h.number → IsInOrder (record s { rules = put_in h s.rules })

abbrev pub RulesKeepOrder : Type 0
RulesKeepOrder =
    (st : Setting) (h : Held) (s : SearchState)
    → IsInOrder s → IsNoRuleIn s h.number → IsInOrder (rules_back st h s)

-- all that it does
abbrev pub WorkingKeepsOrder : Type 0
WorkingKeepsOrder =
    (st : Setting) (h : Held) (s : SearchState)
    → IsInOrder s → IsNoRuleIn s h.number → IsInOrder (works_back st h s)

abbrev pub AfterKeptKeepsOrder : Type 0
AfterKeptKeepsOrder =
    (st : Setting) (s : SearchState) (h : Held)
    → IsInOrder s → IsNoRuleIn s h.number → IsInOrder (after_kept st s h)

-- processing a clause that left the queue
abbrev pub SettlingKeepsOrder : Type 0
SettlingKeepsOrder =
    (st : Setting) (s : SearchState) (q : Queued)
    → IsInOrder s → AllByRecursion (IsUnusedIn s) (input_numbers (q ∷ []))
    → IsInOrder (settled st s q)

abbrev pub ProcessingKeepsOrder : Type 0
ProcessingKeepsOrder =
    (st : Setting) (s : SearchState) (q : Queued)
    → IsInOrder s → AllByRecursion (IsUnusedIn s) (input_numbers (q ∷ []))
    → IsInOrder (processed st s q)

-- giving a clause that waits
abbrev pub GivingKeepsOrder : Type 0
GivingKeepsOrder =
    (st : Setting) (s : SearchState) (g : Held)
    → list_any (is_same_held g) s.waiting ≡ true → IsInOrder s → IsInOrder (gives st s g)

-- what is picked waits
abbrev pub PickedWaits : Type 0
PickedWaits =
    (o : Options) (weight : ClauseTree → ℕ) (is_hinted : ClauseTree → Bool) (hs : List Held)
    (turn : ℕ) (p : Picked)
    → picked o weight is_hinted hs turn ≡ Some p → list_any (is_same_held p.0) hs ≡ true

-- each step of a search
abbrev pub NextKeepsOrder : Type 0
NextKeepsOrder = (st : Setting) (s : SearchState) → IsInOrder s → IsInOrder (next_state st s)

abbrev pub ReachedAreInOrder : Type 0
ReachedAreInOrder =
    (st : Setting) (s t : SearchState) → IsInOrder s → SearchReaches st s t → IsInOrder t

-- a search begins so
abbrev pub StandsInOrder : Type 0
StandsInOrder = (ss : List Said) (rows : List InputRow) → IsInOrder (start_state ss rows)
