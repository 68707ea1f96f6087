-- The first of what a clause makes of units: of a unit the empty clause.
use Rattle.std.proofs.Common.{◌≡◌, ℕ, ◌+◌, ◌<◌, ◌≤◌, Bool, true, false, if◌then◌else◌, List, [], ◌∷◌, ◌++◌, filter, flat_map, Option, Some, None, length, get_or, drop, refl, sym, ap, ◌∙◌}
use Rattle.std.specs.Borrow.{Bor}
use Rattle.std.specs.List.{AllByRecursion}
use Rattle.std.specs.Option.{option_map}
use Rattle.std.proofs.lemmas.List.{drop_all, append-nil}
use Rattle.derivation.specs.Later.{is_unit}
use Rattle.derivation.specs.Rule.{InferenceRule}
use Rattle.derivation.specs.Words.{clash_rule}
use Rattle.fol_core.specs.Literals.{ClauseTree}
use Rattle.given_clause.specs.Acting.{conflicts_with, first_in}
use Rattle.held_clauses.specs.Holding.{lent}
use Rattle.proof_words.specs.Written.{WrittenFirst, satellite, by_resolve}
use Rattle.prover_steps.specs.Clashing.{Held}
use Rattle.prover_steps.specs.Concluded.{Conclusion, conclusion_by, inferred, left_under, unifying}
use Rattle.prover_steps.specs.Searching.{Queued, SearchState, all_held, with_line, with_proof, with_conflict, queued_for, unit_conflicts, unit_meets}
use Rattle.substitutions.specs.Bindings.{Binding}
use Rattle.given_clause.proofs.Going.{drop_next}

-- one after the other
pub conflicts_next : (u : Held) (us : List Held) (h : Held) → conflicts_with (u ∷ us) h ≡ conflicts_with (u ∷ []) h ++ conflicts_with us h
conflicts_next u us h = by (is_unit u.clause)
  where
    tell : Held → List Conclusion
    tell d = inferred (by_resolve h.number (satellite 0 d.number 0)) (h.clause ∷ d.clause ∷ [])

    units : List Held → List Held
    units ds = filter (λ d. is_unit d.clause) ds

    by : (b : Bool) → flat_map tell (if b then u ∷ units us else units us) ≡ flat_map tell (if b then u ∷ [] else []) ++ flat_map tell (units us)
    by true = sym (ap (λ ns. ns ++ flat_map tell (units us)) (append-nil (tell u)))
    by false = refl

first_of_both : {X : Type 0} (xs ys : List X) → first_in xs ≡ None → first_in (xs ++ ys) ≡ first_in ys
first_of_both [] ys e = refl
first_of_both (x ∷ xs) ys e = cc

first_of_one : {X : Type 0} (xs ys : List X) (x : X) → first_in xs ≡ Some x → first_in (xs ++ ys) ≡ Some x
first_of_one [] ys x e = cc
first_of_one (y ∷ xs) ys x e = e

conflicts_from : (us : List (Bor Held)) (i : ℕ) (u : Bor Held) (h : Held) → i < length us → u ≡ get_or us i u
    → conflicts_with (lent (drop i us)) h ≡ conflicts_with (u.now ∷ []) h ++ conflicts_with (lent (drop (i + 1) us)) h
conflicts_from us i u h within is = ap (λ ls. conflicts_with (lent ls) h) (drop_next us i u within is) ∙ conflicts_next u.now (lent (drop (i + 1) us)) h

pub conflict_here : (us : List (Bor Held)) (i : ℕ) (u : Bor Held) (h : Held) (n : Conclusion) → i < length us → u ≡ get_or us i u
    → first_in (conflicts_with (u.now ∷ []) h) ≡ Some n → first_in (conflicts_with (lent (drop i us)) h) ≡ Some n
conflict_here us i u h n within is e = ap first_in (conflicts_from us i u h within is) ∙ first_of_one (conflicts_with (u.now ∷ []) h) (conflicts_with (lent (drop (i + 1) us)) h) n e

pub conflict_behind : (us : List (Bor Held)) (i : ℕ) (u : Bor Held) (h : Held) → i < length us → u ≡ get_or us i u
    → first_in (conflicts_with (u.now ∷ []) h) ≡ None → first_in (conflicts_with (lent (drop i us)) h) ≡ first_in (conflicts_with (lent (drop (i + 1) us)) h)
conflict_behind us i u h within is e = ap first_in (conflicts_from us i u h within is) ∙ first_of_both (conflicts_with (u.now ∷ []) h) (conflicts_with (lent (drop (i + 1) us)) h) e

pub conflict_end : (us : List (Bor Held)) (i : ℕ) (h : Held) → length us ≤ i → first_in (conflicts_with (lent (drop i us)) h) ≡ None
conflict_end us i h past = ap (λ ls. first_in (conflicts_with (lent ls) h)) (drop_all i us past)

-- clauses are empty
abbrev AreEmpty : List Conclusion → Type 0
AreEmpty ns = AllByRecursion (λ n. n.clause ≡ []) ns

both_empty : (ns ms : List Conclusion) → AreEmpty ns → AreEmpty ms → AreEmpty (ns ++ ms)
both_empty [] ms all more = more
both_empty (n ∷ ns) ms all more = (all.0, both_empty ns ms all.1 more)

units_empty : (n m : ℕ) (c d : ClauseTree) → is_unit c ≡ true → is_unit d ≡ true → AreEmpty (inferred (by_resolve n (satellite 0 m 0)) (c ∷ d ∷ []))
units_empty n m [] d one other = cc
units_empty n m (k ∷ l ∷ c) d one other = cc
units_empty n m (l ∷ []) [] one other = cc
units_empty n m (l ∷ []) (k ∷ j ∷ d) one other = cc
units_empty n m (l ∷ []) (k ∷ []) one other = by (rule.fits cs) (unifying rule cs)
  where
    rule : InferenceRule
    rule = clash_rule ((0, 0) ∷ [])

    cs : List ClauseTree
    cs = (l ∷ []) ∷ (k ∷ []) ∷ []

    by : (b : Bool) (o : Option (List Binding)) → AreEmpty (conclusion_by (by_resolve n (satellite 0 m 0)) (if b then option_map (left_under rule cs) o else None))
    by true (Some bs) = (refl, tt)
    by true None = tt
    by false o = tt

conflicts_empty : (us : List Held) (h : Held) → is_unit h.clause ≡ true → AreEmpty (conflicts_with us h)
conflicts_empty [] h one = tt
conflicts_empty (u ∷ us) h one = by (is_unit u.clause) refl (conflicts_empty us h one)
  where
    tell : Held → List Conclusion
    tell d = inferred (by_resolve h.number (satellite 0 d.number 0)) (h.clause ∷ d.clause ∷ [])

    units : List Held → List Held
    units ds = filter (λ d. is_unit d.clause) ds

    by : (b : Bool) → is_unit u.clause ≡ b → AreEmpty (flat_map tell (units us)) → AreEmpty (flat_map tell (if b then u ∷ units us else units us))
    by true other rest = both_empty (tell u) (flat_map tell (units us)) (units_empty h.number u.number h.clause u.clause one other) rest
    by false other rest = rest

-- a proof by the first of them
abbrev empty_by : WrittenFirst → Queued
empty_by w = record { clause = []; first = w; later = []; input = None; usable = false }

pub conflict_met : (s : SearchState) (h : Held) (n : Conclusion) → is_unit h.clause ≡ true → Some n ≡ first_in (conflicts_with (all_held s) h) → with_proof s.next (with_line s (empty_by n.first)) ≡ unit_meets s h
conflict_met s h n one made =
    by (conflicts_with (all_held s) h) (conflicts_empty (all_held s) h one) made ∙ sym (ap (λ (b : Bool). if b then with_conflict s (unit_conflicts s h) else s) one)
  where
    by : (ns : List Conclusion) → AreEmpty ns → Some n ≡ first_in ns → with_proof s.next (with_line s (empty_by n.first)) ≡ with_conflict s ns
    by [] all e = cc
    by (k ∷ ns) all e =
        let same : n ≡ k = cc in
        let none : [] ≡ n.clause = sym (ap (λ (m : Conclusion). m.clause) same ∙ all.0) in
        ap (λ (c : ClauseTree). with_proof s.next (with_line s (record { clause = c; first = n.first; later = []; input = None; usable = false }))) none
        ∙ ap (λ (m : Conclusion). with_proof s.next (with_line s (queued_for m))) same
