-- Where the prover's search stands, and how it goes on.
use Rattle.std.specs.Prelude.{ℕ, zero, suc, ◌≡◌, Bool, true, false, not, ◌+◌, ◌*◌, ◌==◌, nat_lt, nat_le, min, ◌&&◌, ◌||◌, if◌then◌else◌, length, List, [], ◌∷◌, ◌++◌, map, filter, flat_map, Option, Some, None, is_some, unwrap_or}
use Rattle.std.specs.Option.{option_map_or}
use Rattle.std.specs.List.{list_any}
pub use Rattle.clause_limits.specs.Sizes.{clause_size, clause_depth, is_too_large}
use Rattle.fol_core.specs.Literals.{Lit, ClauseTree}
use Rattle.fol_core.specs.Renumbered.{renumbered}
use Rattle.fol_core.specs.Tree.{Tree}
use Rattle.derivation.specs.Equations.{is_equation, left_of, right_of}
use Rattle.derivation.specs.Later.{LaterWord, is_unit}
use Rattle.derivation.specs.Places.{has_literal, atom_at}
use Rattle.ladr_options.specs.declared.options.Options.{Options}
use Rattle.proof_words.specs.Written.{WrittenFirst, satellite, by_resolve, by_back_rewrite, by_back_unit_del}
use Rattle.prover_steps.specs.Clashing.{Held, is_same_held}
use Rattle.prover_steps.specs.Concluded.{Conclusion, inferred}
use Rattle.prover_steps.specs.Conclusions.{RulesInForce, conclusions_of}
use Rattle.prover_steps.specs.Equalities.{is_oriented}
use Rattle.prover_steps.specs.Picking.{Picked, picked}
use Rattle.prover_steps.specs.Rewriting.{Simplified, normal_form}
use Rattle.prover_steps.specs.Shortening.{followed_by, put_in_order, denies}
use Rattle.prover_steps.specs.Subsuming.{subsumes, rewrites_clause}
use Rattle.unifiers.specs.Matching.{same_tree}

-- a literal that is true in every interpretation, alone or with its denial in the clause
abbrev pub is_reflexive : Lit → Bool
is_reflexive l =
    l.positive && (is_equation l.atom && same_tree (left_of l.atom) (right_of l.atom))

abbrev pub is_denied_in : ClauseTree → Lit → Bool
is_denied_in c l = l.positive && list_any (λ k. not k.positive && same_tree l.atom k.atom) c

abbrev pub is_tautology : ClauseTree → Bool
is_tautology c = list_any is_reflexive c || list_any (is_denied_in c) c

-- what a search is given, beside its clauses: what a clause weighs, and whether it matches a hint
pub record Setting : Type 0 where
  pub rules : RulesInForce
  pub greater : Tree → Tree → Bool
  pub weight : ClauseTree → ℕ
  pub is_hinted : ClauseTree → Bool
  pub options : Options

-- A clause in the queue with its words. An input clause has its number there, and whether it is to
-- be used at once.
pub record Queued : Type 0 where
  pub clause : ClauseTree
  pub first : WrittenFirst
  pub later : List LaterWord
  pub input : Option ℕ
  pub usable : Bool

-- a line that was made
pub record MadeLine : Type 0 where
  pub number : ℕ
  pub clause : ClauseTree
  pub first : WrittenFirst
  pub later : List LaterWord

-- why a search ends: as many proofs as were wanted, no clause left to be given, as many clauses
-- given or kept as were allowed, as many symbols
pub data Reason : Type 0 where
  proved : Reason
  spent : Reason
  gave_all : Reason
  kept_all : Reason
  filled : Reason

-- a proof: the number of its last line, and how many clauses had been given by then
pub record FoundProof : Type 0 where
  pub line : ℕ
  pub given : ℕ

-- The clauses that wait, those in use and the rules, by their numbers; the queue; the lines that
-- were made and the next number; the turn of the cycle by which clauses are picked; how many
-- clauses were given, concluded, kept and too large, and how many symbols and variables were kept;
-- the proofs.
pub record SearchState : Type 0 where
  pub waiting : List Held
  pub usable : List Held
  pub rules : List Held
  pub queue : List Queued
  pub lines : List MadeLine
  pub next : ℕ
  pub turn : ℕ
  pub given : ℕ
  pub generated : ℕ
  pub kept : ℕ
  pub large : ℕ
  pub symbols : ℕ
  pub proofs : List FoundProof
  pub ended : Option Reason

-- whether a list has nothing
abbrev pub is_nil : {X : Type 0} → List X → Bool
is_nil [] = true
is_nil (x ∷ xs) = false

-- a counter that stops at the greatest number of 64 bits
abbrev pub counted_on : ℕ → ℕ → ℕ
counted_on n more = min 18446744073709551615 (n + more)

-- a clause at its place by its number
abbrev pub put_in : Held → List Held → List Held
put_in h [] = h ∷ []
put_in h (k ∷ ks) = if nat_lt h.number k.number then h ∷ k ∷ ks else k ∷ put_in h ks

abbrev pub put_all_in : List Held → List Held → List Held
put_all_in [] ks = ks
put_all_in (h ∷ hs) ks = put_in h (put_all_in hs ks)

-- those that wait and those in use, by their numbers
abbrev pub all_held : SearchState → List Held
all_held s = put_all_in s.waiting s.usable

-- an input clause that processing left as it was keeps its number, and its line
abbrev pub is_unchanged : Queued → Bool
is_unchanged q = is_some q.input && is_nil q.later

abbrev pub number_for : SearchState → Queued → ℕ
number_for s q = if is_unchanged q then unwrap_or q.input 0 else s.next

abbrev pub made_line : ℕ → Queued → MadeLine
made_line n q = record { number = n; clause = q.clause; first = q.first; later = q.later }

-- any other one gets a line under the next number
abbrev pub with_line : SearchState → Queued → SearchState
with_line s q =
    if is_unchanged q then s
    else record s { lines = s.lines ++ made_line s.next q ∷ []; next = suc s.next }

-- a proof whose last line has this number
abbrev pub with_proof : ℕ → SearchState → SearchState
with_proof n s = record s { proofs = s.proofs ++ record { line = n; given = s.given } ∷ [] }

-- what rewriting makes of a clause, and then putting it in order
abbrev pub tidied_clause : Setting → SearchState → ClauseTree → Simplified
tidied_clause st s c =
    followed_by (normal_form is_too_large s.rules st.options.demod_step_limit c)
    (put_in_order st.greater st.options.unit_deletion (all_held s))

-- a clause of the queue with that, its variables numbered, and the words for it
abbrev pub tidied : Setting → SearchState → Queued → Queued
tidied st s q = record q {
  clause = renumbered (tidied_clause st s q.clause).clause;
  later = (tidied_clause st s q.clause).words;
}

-- a clause that weighs too much and matches no hint
abbrev pub is_too_heavy : Setting → ClauseTree → Bool
is_too_heavy st c = nat_lt st.options.max_weight (st.weight c) && not (st.is_hinted c)

-- Whether a clause is of no use: a tautology, or subsumed by one that is held; or, if it is no
-- input clause, one that weighs too much, or comes while enough wait.
abbrev pub is_no_use : Setting → SearchState → Queued → Bool
is_no_use st s q =
    is_tautology q.clause || (list_any (λ h. subsumes h.clause q.clause) (all_held s)
    || (not (is_some q.input)
    && (is_too_heavy st q.clause || nat_le st.options.sos_limit (length s.waiting))))

-- the clause is kept: it waits, or is in use at once
abbrev pub keeps : SearchState → Held → Bool → SearchState
keeps s h usable = record s {
  waiting = if usable then s.waiting else put_in h s.waiting;
  usable = if usable then put_in h s.usable else s.usable;
  kept = suc s.kept;
  symbols = s.symbols + clause_size h.clause;
}

-- what a clause makes of the units that are held, by their numbers
abbrev pub unit_conflicts : SearchState → Held → List Conclusion
unit_conflicts s h =
    flat_map
    (λ u. inferred (by_resolve h.number (satellite 0 u.number 0)) (h.clause ∷ u.clause ∷ []))
    (filter (λ u. is_unit u.clause) (all_held s))

abbrev pub queued_for : Conclusion → Queued
queued_for n =
    record { clause = n.clause; first = n.first; later = []; input = None; usable = false }

-- a unit gives a proof with the first unit that is opposite and unifies
abbrev pub with_conflict : SearchState → List Conclusion → SearchState
with_conflict s [] = s
with_conflict s (n ∷ ns) = with_proof s.next (with_line s (queued_for n))

abbrev pub unit_meets : SearchState → Held → SearchState
unit_meets s h = if is_unit h.clause then with_conflict s (unit_conflicts s h) else s

-- clauses without some of them
abbrev pub held_without : List Held → List Held → List Held
held_without gone hs = filter (λ h. not (list_any (is_same_held h) gone)) hs

-- clauses are retired: they don't wait, aren't in use, and are no rules any more
abbrev pub retires : List Held → SearchState → SearchState
retires gone s = record s {
  waiting = held_without gone s.waiting;
  usable = held_without gone s.usable;
  rules = held_without gone s.rules;
}

-- retired clauses are put back: they are queued behind all others
abbrev pub queued_back : (ℕ → WrittenFirst) → Held → Queued
queued_back word h =
    record { clause = h.clause; first = word h.number; later = []; input = None; usable = false }

abbrev pub puts_back : (ℕ → WrittenFirst) → List Held → SearchState → SearchState
puts_back word gone s = record (retires gone s) { queue = s.queue ++ map (queued_back word) gone }

-- the clauses that are held, other than one, that pass a test
abbrev pub others_held : Held → (ClauseTree → Bool) → SearchState → List Held
others_held h test s = filter (λ d. not (is_same_held h d) && test d.clause) (all_held s)

-- those that a clause subsumes are retired
abbrev pub subsumes_back : Setting → Held → SearchState → SearchState
subsumes_back st h s =
    if st.options.back_subsume then retires (others_held h (subsumes h.clause) s) s else s

-- those from which a unit deletes a literal are put back
abbrev pub deletes_back : Setting → Held → SearchState → SearchState
deletes_back st h s =
    if is_unit h.clause && st.options.unit_deletion
    then puts_back by_back_unit_del (others_held h (list_any (denies h)) s) s else s

-- those that a new rule rewrites are put back
abbrev pub rewrites_back : Setting → Held → SearchState → SearchState
rewrites_back st h s =
    if st.options.back_demod
    then puts_back by_back_rewrite (others_held h (rewrites_clause h) s) s else s

-- a positive unit equation whose left side is greater becomes a rule
abbrev pub becomes_rule : (Tree → Tree → Bool) → ClauseTree → Bool
becomes_rule greater c =
    is_unit c && (has_literal true c 0 && is_oriented greater (atom_at c 0))

abbrev pub rules_back : Setting → Held → SearchState → SearchState
rules_back st h s =
    if becomes_rule st.greater h.clause
    then rewrites_back st h (record s { rules = put_in h s.rules }) else s

abbrev pub has_proofs : Setting → SearchState → Bool
has_proofs st s = nat_le st.options.max_proofs (length s.proofs)

-- What a clause that is kept does to others, unless as many proofs are found as were wanted.
abbrev pub works_back : Setting → Held → SearchState → SearchState
works_back st h s =
    if has_proofs st s then s else rules_back st h (deletes_back st h (subsumes_back st h s))

abbrev pub after_kept : Setting → SearchState → Held → SearchState
after_kept st s h = works_back st h (unit_meets s h)

-- a clause that was processed, under its number
abbrev pub held_for : SearchState → Queued → Held
held_for s q = record { number = number_for s q; clause = q.clause }

-- A clause that is rewritten and in order: the empty one is a proof, one of no use is dropped, any
-- other one is kept.
abbrev pub settled : Setting → SearchState → Queued → SearchState
settled st s q =
    if is_nil q.clause then with_proof (number_for s q) (with_line s q)
    else (if is_no_use st s q then s
    else after_kept st (keeps (with_line s q) (held_for s q) q.usable) (held_for s q))

-- processing a clause: one that is too large is counted and dropped
abbrev pub processed : Setting → SearchState → Queued → SearchState
processed st s q =
    if is_too_large q.clause then record s { large = counted_on s.large 1 }
    else settled st s (tidied st s q)

-- the limits, in their order: proofs, clauses kept, symbols and variables kept
abbrev pub limit_reached : Setting → SearchState → Option Reason
limit_reached st s =
    if has_proofs st s then Some proved
    else (if nat_le st.options.max_kept s.kept then Some kept_all
    else (if nat_le (st.options.max_megs * 65536) s.symbols then Some filled else None))

-- they are tested behind each processed clause
abbrev pub under_limits : Setting → SearchState → SearchState
under_limits st s = record s { ended = limit_reached st s }

-- a clause is given: it is in use, and its conclusions are queued
abbrev pub gives : Setting → SearchState → Held → SearchState
gives st s g =
    let used = put_in g s.usable in
    let new = conclusions_of st.rules st.greater used g in
    record s {
      waiting = filter (λ h. not (h.number == g.number)) s.waiting;
      usable = used;
      queue = map queued_for new;
      given = suc s.given;
      generated = counted_on s.generated (length new);
    }

abbrev pub gives_picked : Setting → SearchState → Picked → SearchState
gives_picked st s p =
    if nat_le st.options.max_given s.given then record s { ended = Some gave_all }
    else record (gives st s p.0) { turn = p.1 }

-- where the queue is empty: none waits, or as many as are allowed were given, or one is picked
abbrev pub given_next : Setting → SearchState → SearchState
given_next st s =
    option_map_or (gives_picked st s)
    (picked st.options st.weight st.is_hinted s.waiting s.turn)
    (record s { ended = Some spent })

-- a clause that is queued is processed, and the limits are tested; else one is given
abbrev pub queue_next : Setting → SearchState → List Queued → SearchState
queue_next st s [] = given_next st s
queue_next st s (q ∷ qs) = under_limits st (processed st (record s { queue = qs }) q)

-- a search that has ended stays as it is
abbrev pub next_state : Setting → SearchState → SearchState
next_state st s = if is_some s.ended then s else queue_next st s s.queue

abbrev pub after : Setting → ℕ → SearchState → SearchState
after st zero s = s
after st (suc k) s = after st k (next_state st s)

-- a state that comes after some steps
abbrev pub SearchReaches : Setting → SearchState → SearchState → Type 0
SearchReaches st s t = (k : ℕ) × (after st k s ≡ t)
