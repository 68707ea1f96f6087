-- A search worked out.
use Rattle.std.specs.Prelude.{ℕ, ◌≡◌, ◌-◌, Bool, true, false, not, if◌then◌else◌, length, List, [], ◌∷◌, Some, None}
use Rattle.fol_core.specs.Literals.{ClauseTree, literal}
use Rattle.fol_core.specs.Tree.{Tree, var, app, none, more}
use Rattle.derivation.specs.Later.{unit_deleted}
use Rattle.ladr_options.specs.Options.{start}
use Rattle.proof_words.specs.Written.{satellite, by_copy, by_back_unit_del, by_hyper}
use Rattle.prover_steps.specs.Clashing.{Held}
use Rattle.prover_steps.specs.Conclusions.{rules_in_force}
use Rattle.prover_steps.specs.Ending.{given_left, queue_left}
use Rattle.prover_steps.specs.HeldOrder.{merged_held}
use Rattle.prover_steps.specs.Picking.{has_positive, picked}
use Rattle.prover_steps.specs.Searching.{Setting, Queued, SearchState, proved, clause_size, queued_back, works_back, after}

-- a constant a, relations p and q
abbrev of_a : Tree
of_a = app 0 none

abbrev relation : ℕ → Tree → Tree
relation r t = app r (more t none)

-- p(a), -p(x) | q(x) and -q(a) are input clauses under 4, 5 and 6
abbrev first_clause : ClauseTree
first_clause = literal true (relation 1 of_a) ∷ []

abbrev rule_clause : ClauseTree
rule_clause = literal false (relation 1 (var 0)) ∷ literal true (relation 2 (var 0)) ∷ []

abbrev denied_clause : ClauseTree
denied_clause = literal false (relation 2 of_a) ∷ []

abbrev input : ℕ → ClauseTree → Queued
input n c = record { clause = c; first = by_copy n; later = []; input = Some n; usable = false }

abbrev held_as : ℕ → ClauseTree → Held
held_as n c = record { number = n; clause = c }

abbrev setting : Setting
setting = record {
  rules = rules_in_force start (first_clause ∷ rule_clause ∷ denied_clause ∷ []);
  greater = λ s t. false;
  weight = clause_size;
  is_hinted = λ c. false;
  options = start;
}

abbrev beginning : SearchState
beginning = record {
  waiting = [];
  usable = [];
  rules = [];
  queue = input 4 first_clause ∷ input 5 rule_clause ∷ input 6 denied_clause ∷ [];
  lines = [];
  next = 7;
  turn = 0;
  given = 0;
  generated = 0;
  kept = 0;
  large = 0;
  symbols = 0;
  proofs = [];
  ended = None;
}

-- The three are kept and given: the oldest first, then the lightest without a positive literal.
-- With the last one comes q(a), of which -q(a) leaves nothing; so the proof ends under 7.
abbrev pub WorkedSearch : Type 0
WorkedSearch =
    let end = after setting 7 beginning in
    (end.lines
    ≡ record {
      number = 7;
      clause = [];
      first = by_hyper 5 (satellite 0 4 0 ∷ []);
      later = unit_deleted 0 6 ∷ [];
    }
    ∷ [])
    × (end.proofs ≡ record { line = 7; given = 3 } ∷ [])
    × (end.kept ≡ 3) × (end.generated ≡ 1) × (end.ended ≡ Some proved)

-- four clauses that wait: q(a) under 3, p(a) | q(a) under 4, -p(a) under 5 and p(a) under 6
abbrev four : List Held
four =
    held_as 3 (literal true (relation 2 of_a) ∷ [])
    ∷ held_as 4 (literal true (relation 1 of_a) ∷ literal true (relation 2 of_a) ∷ [])
    ∷ held_as 5 (literal false (relation 1 of_a) ∷ []) ∷ held_as 6 first_clause ∷ []

-- With one turn by age and one by falsity: the oldest, then the one without a positive literal, or
-- the next turn where there is none. What matches a hint comes first, and the turn stays.
abbrev pub WorkedPicking : Type 0
WorkedPicking =
    let options = record start { weight_part = 0; false_part = 1; true_part = 0 } in
    let heavy : ClauseTree → ℕ = λ c. if has_positive c then 7 - length c else 9 in
    let none : ClauseTree → Bool = λ c. false in
    let turns = record start { age_part = 0; weight_part = 1; false_part = 0; true_part = 1 } in
    let no_turns = record start { age_part = 0; weight_part = 0; false_part = 0; true_part = 0 } in
    (picked options heavy none four 0 ≡ Some (held_as 3 (literal true (relation 2 of_a) ∷ []), 1))
    × (picked options heavy none four 1
    ≡ Some (held_as 5 (literal false (relation 1 of_a) ∷ []), 0))
    × (picked options heavy none (held_as 6 first_clause ∷ []) 1 ≡ Some (held_as 6 first_clause, 1))
    × (picked turns heavy none four 0
    ≡ Some (held_as 4 (literal true (relation 1 of_a) ∷ literal true (relation 2 of_a) ∷ []), 1))
    × (picked no_turns heavy none four 5
    ≡ Some (held_as 3 (literal true (relation 2 of_a) ∷ []), 5))
    × (picked options heavy (λ c. not (has_positive c)) four 0
    ≡ Some (held_as 5 (literal false (relation 1 of_a) ∷ []), 0))
    × (picked options heavy none [] 0 ≡ None)

-- p(a) under 6 is kept: p(a) | q(a) is subsumed, and -p(a) | q(a) under 5, in use, is put back
abbrev pub WorkedBack : Type 0
WorkedBack =
    let denied = literal false (relation 1 of_a) ∷ literal true (relation 2 of_a) ∷ [] in
    let state = record beginning {
      queue = [];
      waiting =
          held_as 4 (literal true (relation 1 of_a) ∷ literal true (relation 2 of_a) ∷ [])
          ∷ held_as 6 first_clause ∷ [];
      usable = held_as 5 denied ∷ [];
    } in
    let end = works_back setting (held_as 6 first_clause) state in
    (end.waiting ≡ held_as 6 first_clause ∷ [])
    × (end.usable ≡ [])
    × (end.queue ≡ queued_back by_back_unit_del (held_as 5 denied) ∷ [])

-- clauses under 3 and 7 with those under 4, 8 and 9, and with none
abbrev pub WorkedMerging : Type 0
WorkedMerging =
    let empty : ℕ → Held = λ n. held_as n [] in
    (merged_held (empty 3 ∷ empty 7 ∷ []) (empty 4 ∷ empty 8 ∷ empty 9 ∷ [])
    ≡ empty 3 ∷ empty 4 ∷ empty 7 ∷ empty 8 ∷ empty 9 ∷ [])
    × (merged_held (empty 3 ∷ empty 7 ∷ []) [] ≡ empty 3 ∷ empty 7 ∷ [])
    × (merged_held [] (empty 3 ∷ empty 7 ∷ []) ≡ empty 3 ∷ empty 7 ∷ [])

-- Where five may be given and four kept: each of the three input clauses leaves the queue and waits,
-- and fewer may be kept. Then one is given. At the end nothing is left.
abbrev pub WorkedMeasures : Type 0
WorkedMeasures =
    let limits = record setting { options = record start { max_given = 5; max_kept = 4 } } in
    (queue_left limits beginning ≡ 8)
    × (queue_left limits (after limits 1 beginning) ≡ 7)
    × (queue_left limits (after limits 3 beginning) ≡ 5)
    × (given_left limits (after limits 3 beginning) ≡ 6)
    × (given_left limits (after limits 4 beginning) ≡ 5)
    × (queue_left limits (after limits 7 beginning) ≡ 0)
    × (given_left limits (after limits 7 beginning) ≡ 0)
