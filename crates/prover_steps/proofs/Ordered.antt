-- The clauses of each state that a search reaches stand in order.
use Rattle.std.proofs.Common.{◌≡◌, ◌≢◌, ℕ, zero, suc, ◌<◌, Bool, true, false, not, ◌==◌, ◌&&◌, ◌||◌, nat_le, if◌then◌else◌, List, [], ◌∷◌, ◌++◌, map, filter, Option, Some, None, is_some, unwrap_or, option_to_list, refl, sym, ap, subst, ◌∙◌, eqb-true, eq-eqb, arith}
use Rattle.std.proofs.lemmas.Bool.{and_parts, or_left, or_right, false≢true}
use Rattle.std.specs.List.{AllByRecursion, list_any}
use Rattle.std.specs.Option.{option_map_or}
use Rattle.derivation.specs.Later.{is_unit}
use Rattle.fol_core.specs.Literals.{ClauseTree}
use Rattle.ladr_options.specs.declared.options.Options.{Options}
use Rattle.proof_words.specs.Written.{WrittenFirst, by_back_rewrite, by_back_unit_del}
use Rattle.prover_steps.specs.Clashing.{Held, is_same_held}
use Rattle.prover_steps.specs.Concluded.{Conclusion}
use Rattle.prover_steps.specs.Conclusions.{conclusions_of}
use Rattle.prover_steps.specs.HeldOrder.{numbers_of, input_numbers, IsRising, IsNoneOf, ShareNone, RiseBelow, StandInOrder, IsInOrder, IsUnused, IsUnusedIn, IsNoRule, IsNoRuleIn, KeepsOrder}
use Rattle.prover_steps.specs.Picking.{Picked, picked}
use Rattle.prover_steps.specs.Searching.{Setting, spent, gave_all, Queued, SearchState, is_nil, is_too_large, counted_on, put_in, is_unchanged, number_for, made_line, with_line, with_proof, tidied, is_no_use, keeps, unit_conflicts, queued_for, with_conflict, unit_meets, held_without, retires, queued_back, puts_back, others_held, subsumes_back, deletes_back, rewrites_back, becomes_rule, rules_back, has_proofs, works_back, after_kept, held_for, settled, processed, gives, gives_picked, given_next, queue_next, next_state, after}
use Rattle.prover_steps.specs.Shortening.{denies}
use Rattle.prover_steps.specs.Subsuming.{subsumes, rewrites_clause}
use Rattle.prover_steps.proofs.Lists.{all_append, all_so}
use Rattle.prover_steps.proofs.Picks.{HasPicked, picked_has}
use Rattle.prover_steps.proofs.Rising.{put_each, kept_each, pass_each, above_none, below_none, put_rises, kept_rises}

-- numbers below the next one
below_next : (n : ℕ) (ns : List ℕ) → RiseBelow n ns → RiseBelow (suc n) ns
below_next n ns b = record { rising = b.rising; below = all_so (λ m. m < n) (λ m. m < suc n) (λ m below. omega (arith, below)) ns b.below }

put_below : (next : ℕ) (h : Held) (hs : List Held) → h.number < next → IsNoneOf h.number (numbers_of hs) → RiseBelow next (numbers_of hs) → RiseBelow next (numbers_of (put_in h hs))
put_below next h hs below none b = record {
  rising = put_rises h hs b.rising none;
  below = put_each (λ m. m < next) h hs below b.below;
}

kept_below : (next : ℕ) (test : Held → Bool) (hs : List Held) → RiseBelow next (numbers_of hs) → RiseBelow next (numbers_of (filter test hs))
kept_below next test hs b = record { rising = kept_rises test hs b.rising; below = kept_each (λ m. m < next) test hs b.below }

nothing_below : (next : ℕ) → RiseBelow next []
nothing_below next = record { rising = tt; below = tt }

-- numbers that two lists don't share
share_put : (ns : List ℕ) (h : Held) (hs : List Held) → IsNoneOf h.number ns → ShareNone ns (numbers_of hs) → ShareNone ns (numbers_of (put_in h hs))
share_put [] h hs none share = tt
share_put (n ∷ ns) h hs none share = (put_each (λ m. n ≢ m) h hs (λ same. none.0 (sym same)) share.0, share_put ns h hs none.1 share.1)

share_kept : (ns : List ℕ) (test : Held → Bool) (hs : List Held) → ShareNone ns (numbers_of hs) → ShareNone ns (numbers_of (filter test hs))
share_kept ns test hs share = all_so (λ n. IsNoneOf n (numbers_of hs)) (λ n. IsNoneOf n (numbers_of (filter test hs))) (λ n none. kept_each (λ m. n ≢ m) test hs none) ns share

-- numbers of the queue: those that are put there have none
inputs_back : (word : ℕ → WrittenFirst) (qs : List Queued) (gone : List Held) → input_numbers (qs ++ map (queued_back word) gone) ≡ input_numbers qs
inputs_back word [] [] = refl
inputs_back word [] (h ∷ gone) = inputs_back word [] gone
inputs_back word (q ∷ qs) gone = ap (λ ns. option_to_list q.input ++ ns) (inputs_back word qs gone)

inputs_concluded : (ns : List Conclusion) → input_numbers (map queued_for ns) ≡ []
inputs_concluded [] = refl
inputs_concluded (n ∷ ns) = inputs_concluded ns

-- numbers in front, and behind
module _ (P : ℕ → Type 0) where
  all_front : (ns ms : List ℕ) → AllByRecursion P (ns ++ ms) → AllByRecursion P ns
  all_front [] ms all = tt
  all_front (n ∷ ns) ms all = (all.0, all_front ns ms all.1)

  all_behind : (ns ms : List ℕ) → AllByRecursion P (ns ++ ms) → AllByRecursion P ms
  all_behind [] ms all = all
  all_behind (n ∷ ns) ms all = all_behind ns ms all.1

rising_behind : (ns ms : List ℕ) → IsRising (ns ++ ms) → IsRising ms
rising_behind [] ms rises = rises
rising_behind (n ∷ ns) ms rises = rising_behind ns ms rises.1

rising_apart : (ns ms : List ℕ) → IsRising (ns ++ ms) → ShareNone ns ms
rising_apart [] ms rises = tt
rising_apart (n ∷ ns) ms rises = (above_none n ms (all_behind (λ m. n < m) ns ms rises.0), rising_apart ns ms rises.1)

behind_below : (next : ℕ) (ns ms : List ℕ) → RiseBelow next (ns ++ ms) → RiseBelow next ms
behind_below next ns ms b = record { rising = rising_behind ns ms b.rising; below = all_behind (λ m. m < next) ns ms b.below }

module _ (next : ℕ) (waiting usable rules : List ℕ) where
  -- the first clause leaves the queue
  inputs_leave : (ns ms : List ℕ) → StandInOrder next waiting usable rules (ns ++ ms) → StandInOrder next waiting usable rules ms
  inputs_leave ns ms o = record {
    waiting_rise = o.waiting_rise;
    usable_rise = o.usable_rise;
    rules_rise = o.rules_rise;
    inputs_rise = behind_below next ns ms o.inputs_rise;
    held_once = o.held_once;
    inputs_waiting = all_behind (λ n. IsNoneOf n waiting) ns ms o.inputs_waiting;
    inputs_usable = all_behind (λ n. IsNoneOf n usable) ns ms o.inputs_usable;
    inputs_rules = all_behind (λ n. IsNoneOf n rules) ns ms o.inputs_rules;
  }

  unused_each : (ms ns : List ℕ) → AllByRecursion (λ n. n < next) ns → ShareNone ns waiting → ShareNone ns usable → ShareNone ns rules → ShareNone ns ms
      → AllByRecursion (IsUnused next waiting usable rules ms) ns
  unused_each ms [] below w u r i = tt
  unused_each ms (n ∷ ns) below w u r i = (record { below = below.0; not_waiting = w.0; not_usable = u.0; no_rule = r.0; no_input = i.0 }, unused_each ms ns below.1 w.1 u.1 r.1 i.1)

  inputs_unused : (ns ms : List ℕ) → StandInOrder next waiting usable rules (ns ++ ms) → AllByRecursion (IsUnused next waiting usable rules ms) ns
  inputs_unused ns ms o =
      unused_each ms ns (all_front (λ n. n < next) ns ms o.inputs_rise.below) (all_front (λ n. IsNoneOf n waiting) ns ms o.inputs_waiting)
      (all_front (λ n. IsNoneOf n usable) ns ms o.inputs_usable) (all_front (λ n. IsNoneOf n rules) ns ms o.inputs_rules) (rising_apart ns ms o.inputs_rise.rising)

  -- the next number
  next_order : (inputs : List ℕ) → StandInOrder next waiting usable rules inputs → StandInOrder (suc next) waiting usable rules inputs
  next_order inputs o = record {
    waiting_rise = below_next next waiting o.waiting_rise;
    usable_rise = below_next next usable o.usable_rise;
    rules_rise = below_next next rules o.rules_rise;
    inputs_rise = below_next next inputs o.inputs_rise;
    held_once = o.held_once;
    inputs_waiting = o.inputs_waiting;
    inputs_usable = o.inputs_usable;
    inputs_rules = o.inputs_rules;
  }

  next_unused : (inputs : List ℕ) → StandInOrder next waiting usable rules inputs → IsUnused (suc next) waiting usable rules inputs next
  next_unused inputs o = record {
    below = omega arith;
    not_waiting = below_none next waiting o.waiting_rise.below;
    not_usable = below_none next usable o.usable_rise.below;
    no_rule = below_none next rules o.rules_rise.below;
    no_input = below_none next inputs o.inputs_rise.below;
  }

pub queue_gives : (s : SearchState) (q : Queued) (qs : List Queued) → s.queue ≡ q ∷ qs → IsInOrder s
    → IsInOrder (record s { queue = qs }) × AllByRecursion (IsUnusedIn (record s { queue = qs })) (input_numbers (q ∷ []))
queue_gives s q qs e o = (
  inputs_leave s.next (numbers_of s.waiting) (numbers_of s.usable) (numbers_of s.rules) (option_to_list q.input) (input_numbers qs) order,
  all_append (IsUnusedIn (record s { queue = qs })) (option_to_list q.input) []
      (inputs_unused s.next (numbers_of s.waiting) (numbers_of s.usable) (numbers_of s.rules) (option_to_list q.input) (input_numbers qs) order) tt,
)
  where
    order : StandInOrder s.next (numbers_of s.waiting) (numbers_of s.usable) (numbers_of s.rules) (input_numbers (q ∷ qs))
    order = subst (λ js. StandInOrder s.next (numbers_of s.waiting) (numbers_of s.usable) (numbers_of s.rules) (input_numbers js)) e o

-- a line under the next number
line_order : (s : SearchState) (q : Queued) → IsInOrder s → IsInOrder (with_line s q)
line_order s q o = by (is_unchanged q)
  where
    by : (b : Bool) → IsInOrder (if b then s else record s { lines = s.lines ++ made_line s.next q ∷ []; next = suc s.next })
    by true = o
    by false = next_order s.next (numbers_of s.waiting) (numbers_of s.usable) (numbers_of s.rules) (input_numbers s.queue) o

pub line_gives : (s : SearchState) (q : Queued) → IsInOrder s → AllByRecursion (IsUnusedIn s) (input_numbers (q ∷ [])) → IsInOrder (with_line s q) × IsUnusedIn (with_line s q) (number_for s q)
line_gives s q o unused = (line_order s q o, by (is_unchanged q) refl)
  where
    of_input : (i : Option ℕ) → AllByRecursion (IsUnusedIn s) (option_to_list i ++ []) → is_some i ≡ true → IsUnusedIn s (unwrap_or i 0)
    of_input None all some = absurd (false≢true some)
    of_input (Some n) all some = all.0

    by : (b : Bool) → is_unchanged q ≡ b → IsUnusedIn (if b then s else record s { lines = s.lines ++ made_line s.next q ∷ []; next = suc s.next }) (if b then unwrap_or q.input 0 else s.next)
    by true e = of_input q.input unused (and_parts (is_some q.input) (is_nil q.later) e).0
    by false e = next_unused s.next (numbers_of s.waiting) (numbers_of s.usable) (numbers_of s.rules) (input_numbers s.queue) o

-- a clause that is kept
keeps_waiting : (s : SearchState) (h : Held) → IsInOrder s → IsUnusedIn s h.number → IsInOrder (keeps s h false)
keeps_waiting s h o u = record {
  waiting_rise = put_below s.next h s.waiting u.below u.not_waiting o.waiting_rise;
  usable_rise = o.usable_rise;
  rules_rise = o.rules_rise;
  inputs_rise = o.inputs_rise;
  held_once = put_each (λ n. IsNoneOf n (numbers_of s.usable)) h s.waiting u.not_usable o.held_once;
  inputs_waiting = share_put (input_numbers s.queue) h s.waiting u.no_input o.inputs_waiting;
  inputs_usable = o.inputs_usable;
  inputs_rules = o.inputs_rules;
}

keeps_usable : (s : SearchState) (h : Held) → IsInOrder s → IsUnusedIn s h.number → IsInOrder (keeps s h true)
keeps_usable s h o u = record {
  waiting_rise = o.waiting_rise;
  usable_rise = put_below s.next h s.usable u.below u.not_usable o.usable_rise;
  rules_rise = o.rules_rise;
  inputs_rise = o.inputs_rise;
  held_once = share_put (numbers_of s.waiting) h s.usable u.not_waiting o.held_once;
  inputs_waiting = o.inputs_waiting;
  inputs_usable = share_put (input_numbers s.queue) h s.usable u.no_input o.inputs_usable;
  inputs_rules = o.inputs_rules;
}

pub keeps_order : (s : SearchState) (h : Held) (usable : Bool) → IsInOrder s → IsUnusedIn s h.number → IsInOrder (keeps s h usable) × IsNoRuleIn (keeps s h usable) h.number
keeps_order s h true o u = (keeps_usable s h o u, record { below = u.below; no_rule = u.no_rule; no_input = u.no_input })
keeps_order s h false o u = (keeps_waiting s h o u, record { below = u.below; no_rule = u.no_rule; no_input = u.no_input })

nothing_done : (s : SearchState) → KeepsOrder s s
nothing_done s = record { order = λ o. o; no_rule = λ n r. r }

-- clauses that are retired, and put back
pub retires_order : (gone : List Held) (s : SearchState) → KeepsOrder s (retires gone s)
retires_order gone s = record {
  order =
      λ o. record {
        waiting_rise = kept_below s.next stays s.waiting o.waiting_rise;
        usable_rise = kept_below s.next stays s.usable o.usable_rise;
        rules_rise = kept_below s.next stays s.rules o.rules_rise;
        inputs_rise = o.inputs_rise;
        held_once =
            kept_each (λ n. IsNoneOf n (numbers_of (held_without gone s.usable))) stays s.waiting
            (share_kept (numbers_of s.waiting) stays s.usable o.held_once);
        inputs_waiting = share_kept (input_numbers s.queue) stays s.waiting o.inputs_waiting;
        inputs_usable = share_kept (input_numbers s.queue) stays s.usable o.inputs_usable;
        inputs_rules = share_kept (input_numbers s.queue) stays s.rules o.inputs_rules;
      };
  no_rule = λ n r. record { below = r.below; no_rule = kept_each (λ m. n ≢ m) stays s.rules r.no_rule; no_input = r.no_input };
}
  where
    stays : Held → Bool
    stays h = not (list_any (is_same_held h) gone)

pub puts_order : (word : ℕ → WrittenFirst) (gone : List Held) (s : SearchState) → KeepsOrder s (puts_back word gone s)
puts_order word gone s =
    let same = sym (inputs_back word s.queue gone) in
    let kept = retires_order gone s in
    record {
      order =
          λ o. subst (λ ns. StandInOrder s.next (numbers_of (held_without gone s.waiting)) (numbers_of (held_without gone s.usable)) (numbers_of (held_without gone s.rules)) ns) same (kept.order o);
      no_rule = λ n r. subst (λ ns. IsNoRule s.next (numbers_of (held_without gone s.rules)) ns n) same (kept.no_rule n r);
    }

-- what a clause that is kept does
conflict_order : (s : SearchState) (ns : List Conclusion) → KeepsOrder s (with_conflict s ns)
conflict_order s [] = nothing_done s
conflict_order s (c ∷ ns) = record {
  order = λ o. next_order s.next (numbers_of s.waiting) (numbers_of s.usable) (numbers_of s.rules) (input_numbers s.queue) o;
  no_rule = λ n r. let below = r.below in record { below = omega (arith, below); no_rule = r.no_rule; no_input = r.no_input };
}

pub meets_order : (s : SearchState) (h : Held) → KeepsOrder s (unit_meets s h)
meets_order s h = by (is_unit h.clause)
  where
    by : (b : Bool) → KeepsOrder s (if b then with_conflict s (unit_conflicts s h) else s)
    by true = conflict_order s (unit_conflicts s h)
    by false = nothing_done s

pub rule_order : (s : SearchState) (h : Held) → IsInOrder s → IsNoRuleIn s h.number → IsInOrder (record s { rules = put_in h s.rules })
rule_order s h o r = record {
  waiting_rise = o.waiting_rise;
  usable_rise = o.usable_rise;
  rules_rise = put_below s.next h s.rules r.below r.no_rule o.rules_rise;
  inputs_rise = o.inputs_rise;
  held_once = o.held_once;
  inputs_waiting = o.inputs_waiting;
  inputs_usable = o.inputs_usable;
  inputs_rules = share_put (input_numbers s.queue) h s.rules r.no_input o.inputs_rules;
}

module _ (st : Setting) where
  module _ (h : Held) where
    pub subsumes_order : (s : SearchState) → KeepsOrder s (subsumes_back st h s)
    subsumes_order s = by st.options.back_subsume
      where
        by : (b : Bool) → KeepsOrder s (if b then retires (others_held h (subsumes h.clause) s) s else s)
        by true = retires_order (others_held h (subsumes h.clause) s) s
        by false = nothing_done s

    pub deletes_order : (s : SearchState) → KeepsOrder s (deletes_back st h s)
    deletes_order s = by (is_unit h.clause && st.options.unit_deletion)
      where
        by : (b : Bool) → KeepsOrder s (if b then puts_back by_back_unit_del (others_held h (list_any (denies h)) s) s else s)
        by true = puts_order by_back_unit_del (others_held h (list_any (denies h)) s) s
        by false = nothing_done s

    pub rewrites_order : (s : SearchState) → KeepsOrder s (rewrites_back st h s)
    rewrites_order s = by st.options.back_demod
      where
        by : (b : Bool) → KeepsOrder s (if b then puts_back by_back_rewrite (others_held h (rewrites_clause h) s) s else s)
        by true = puts_order by_back_rewrite (others_held h (rewrites_clause h) s) s
        by false = nothing_done s

    pub rules_order : (s : SearchState) → IsInOrder s → IsNoRuleIn s h.number → IsInOrder (rules_back st h s)
    rules_order s o r = by (becomes_rule st.greater h.clause)
      where
        by : (b : Bool) → IsInOrder (if b then rewrites_back st h (record s { rules = put_in h s.rules }) else s)
        by true = (rewrites_order (record s { rules = put_in h s.rules })).order (rule_order s h o r)
        by false = o

    pub works_order : (s : SearchState) → IsInOrder s → IsNoRuleIn s h.number → IsInOrder (works_back st h s)
    works_order s o r = by (has_proofs st s)
      where
        by : (b : Bool) → IsInOrder (if b then s else rules_back st h (deletes_back st h (subsumes_back st h s)))
        by true = o
        by false =
            let one = subsumes_order s in
            let two = deletes_order (subsumes_back st h s) in
            rules_order (deletes_back st h (subsumes_back st h s)) (two.order (one.order o)) (two.no_rule h.number (one.no_rule h.number r))

  pub kept_order : (s : SearchState) (h : Held) → IsInOrder s → IsNoRuleIn s h.number → IsInOrder (after_kept st s h)
  kept_order s h o r = let met = meets_order s h in works_order h (unit_meets s h) (met.order o) (met.no_rule h.number r)

  -- a clause that left the queue
  pub settled_order : (s : SearchState) (q : Queued) → IsInOrder s → AllByRecursion (IsUnusedIn s) (input_numbers (q ∷ [])) → IsInOrder (settled st s q)
  settled_order s q o unused = by (is_nil q.clause) (is_no_use st s q)
    where
      line : IsInOrder (with_line s q) × IsUnusedIn (with_line s q) (number_for s q)
      line = line_gives s q o unused

      by : (empty useless : Bool)
          → IsInOrder (if empty then with_proof (number_for s q) (with_line s q) else (if useless then s else after_kept st (keeps (with_line s q) (held_for s q) q.usable) (held_for s q)))
      by true useless = line.0
      by false true = o
      by false false =
          let kept = keeps_order (with_line s q) (held_for s q) q.usable line.0 line.1 in
          kept_order (keeps (with_line s q) (held_for s q) q.usable) (held_for s q) kept.0 kept.1

  pub processed_order : (s : SearchState) (q : Queued) → IsInOrder s → AllByRecursion (IsUnusedIn s) (input_numbers (q ∷ [])) → IsInOrder (processed st s q)
  processed_order s q o unused = by (is_too_large q.clause)
    where
      by : (large : Bool) → IsInOrder (if large then record s { large = counted_on s.large 1 } else settled st s (tidied st s q))
      by true = o
      by false = settled_order s (tidied st s q) o unused

  -- a clause that is given: it waited
  abbrev IsGivable : SearchState → ℕ → Type 0
  IsGivable s n = (n < s.next) × IsNoneOf n (numbers_of s.usable)

  givable : (s : SearchState) → IsInOrder s → AllByRecursion (IsGivable s) (numbers_of s.waiting)
  givable s o = each (numbers_of s.waiting) o.waiting_rise.below o.held_once
    where
      each : (ns : List ℕ) → AllByRecursion (λ n. n < s.next) ns → ShareNone ns (numbers_of s.usable) → AllByRecursion (IsGivable s) ns
      each [] below none = tt
      each (n ∷ ns) below none = ((below.0, none.0), each ns below.1 none.1)

  gives_order : (s : SearchState) (g : Held) → IsInOrder s → IsGivable s g.number → IsInOrder (gives st s g)
  gives_order s g o (below, none) =
      let waits = λ (h : Held). not (h.number == g.number) in
      subst (λ ns. StandInOrder s.next (numbers_of (filter waits s.waiting)) (numbers_of (put_in g s.usable)) (numbers_of s.rules) ns)
      (sym (inputs_concluded (conclusions_of st.rules st.greater (put_in g s.usable) g)))
      record {
        waiting_rise = kept_below s.next waits s.waiting o.waiting_rise;
        usable_rise = put_below s.next g s.usable below none o.usable_rise;
        rules_rise = o.rules_rise;
        inputs_rise = nothing_below s.next;
        held_once =
            share_put (numbers_of (filter waits s.waiting)) g s.usable
            (pass_each (λ n. g.number ≢ n) waits (λ h e. λ same. false≢true (sym (ap not (eq-eqb h.number g.number (sym same))) ∙ e)) s.waiting)
            (kept_each (λ n. IsNoneOf n (numbers_of s.usable)) waits s.waiting o.held_once);
        inputs_waiting = tt;
        inputs_usable = tt;
        inputs_rules = tt;
      }

  pub giving_order : (s : SearchState) (g : Held) → list_any (is_same_held g) s.waiting ≡ true → IsInOrder s → IsInOrder (gives st s g)
  giving_order s g waits o = gives_order s g o (among s.waiting (givable s o) waits)
    where
      among : (hs : List Held) → AllByRecursion (IsGivable s) (numbers_of hs) → list_any (is_same_held g) hs ≡ true → IsGivable s g.number
      among [] all e = absurd (false≢true e)
      among (h ∷ hs) all e = by (among hs all.1) (is_same_held g h) refl e
        where
          by : (list_any (is_same_held g) hs ≡ true → IsGivable s g.number)
              → (b : Bool) → is_same_held g h ≡ b → (b || list_any (is_same_held g) hs) ≡ true → IsGivable s g.number
          by behind true same e = subst (λ n. IsGivable s n) (sym (eqb-true g.number h.number same)) all.0
          by behind false same e = behind e

  given_order : (s : SearchState) → IsInOrder s → IsInOrder (given_next st s)
  given_order s o = by (picked st.options st.weight st.is_hinted s.waiting s.turn) (picked_has (λ h. IsGivable s h.number) st.weight st.options s.waiting (held s.waiting (givable s o)) st.is_hinted s.turn)
    where
      held : (hs : List Held) → AllByRecursion (IsGivable s) (numbers_of hs) → AllByRecursion (λ h. IsGivable s h.number) hs
      held [] all = tt
      held (h ∷ hs) all = (all.0, held hs all.1)

      enough : (p : Picked) → IsGivable s p.0.number → (b : Bool) → IsInOrder (if b then record s { ended = Some gave_all } else record (gives st s p.0) { turn = p.1 })
      enough p has true = o
      enough p has false = gives_order s p.0 o has

      by : (p : Option Picked) → HasPicked (λ h. IsGivable s h.number) st.weight p → IsInOrder (option_map_or (gives_picked st s) p (record s { ended = Some spent }))
      by None has = o
      by (Some p) has = enough p has (nat_le st.options.max_given s.given)

  queue_order : (s : SearchState) (qs : List Queued) → s.queue ≡ qs → IsInOrder s → IsInOrder (queue_next st s qs)
  queue_order s [] e o = given_order s o
  queue_order s (q ∷ qs) e o = let rest = queue_gives s q qs e o in processed_order (record s { queue = qs }) q rest.0 rest.1

  pub next_in_order : (s : SearchState) → IsInOrder s → IsInOrder (next_state st s)
  next_in_order s o = by (is_some s.ended)
    where
      by : (b : Bool) → IsInOrder (if b then s else queue_next st s s.queue)
      by true = o
      by false = queue_order s s.queue refl o

  pub after_in_order : (k : ℕ) (s : SearchState) → IsInOrder s → IsInOrder (after st k s)
  after_in_order zero s o = o
  after_in_order (suc k) s o = after_in_order k (next_state st s) (next_in_order s o)

-- what is picked waits
waits_each : (hs : List Held) → AllByRecursion (λ h. list_any (is_same_held h) hs ≡ true) hs
waits_each [] = tt
waits_each (h ∷ hs) = (
  or_left _ _ (eq-eqb h.number h.number refl),
  all_so (λ k. list_any (is_same_held k) hs ≡ true) (λ k. list_any (is_same_held k) (h ∷ hs) ≡ true) (λ k waits. or_right _ _ waits) hs (waits_each hs),
)

pub picked_waits : (o : Options) (weight : ClauseTree → ℕ) (is_hinted : ClauseTree → Bool) (hs : List Held) (turn : ℕ) (p : Picked)
    → picked o weight is_hinted hs turn ≡ Some p → list_any (is_same_held p.0) hs ≡ true
picked_waits o weight is_hinted hs turn p e =
    subst (λ q. HasPicked (λ h. list_any (is_same_held h) hs ≡ true) weight q) e
    (picked_has (λ h. list_any (is_same_held h) hs ≡ true) weight o hs (waits_each hs) is_hinted turn)
