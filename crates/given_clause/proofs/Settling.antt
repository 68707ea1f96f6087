-- What becomes of a clause that is processed, case by case.
use Rattle.std.proofs.Common.{◌≡◌, ℕ, Bool, true, false, ◌||◌, nat_lt, if◌then◌else◌, List, [], ◌∷◌, length, refl, sym, ap, ◌∙◌, subst}
use Rattle.std.specs.List.{AllByRecursion, list_any}
use Rattle.clause_limits.proofs.Numbered.{numbered_as_large}
use Rattle.derivation.specs.declared.words.First.{First}
use Rattle.fol_core.specs.Literals.{ClauseTree}
use Rattle.given_clause.specs.States.{entry_of}
use Rattle.given_clause.specs.declared.state.QueueEntry.{QueueEntry}
use Rattle.given_clause.specs.declared.state.QueueEntry.TheVariants.{Large}
use Rattle.prover_steps.specs.Clashing.{Held}
use Rattle.prover_steps.specs.HeldOrder.{IsInOrder, IsNoRuleIn, IsUnusedIn, input_numbers}
use Rattle.prover_steps.specs.OrderLaws.{LineGivesUnused, KeepingKeepsOrder}
use Rattle.prover_steps.specs.Searching.{Setting, SearchState, Queued, put_in, put_all_in, is_nil, is_no_use, is_too_large, number_for, with_line, with_proof, keeps, held_for, after_kept, settled, processed, tidied, counted_on}

swapped : (a b d : Bool) → (a || (b || d)) ≡ (b || (a || d))
swapped true true d = refl
swapped true false d = refl
swapped false true d = refl
swapped false false d = refl

grouped : (a b d : Bool) → (a || (b || d)) ≡ ((a || b) || d)
grouped true b d = refl
grouped false b d = refl

some_put : (test : Held → Bool) (h : Held) (hs : List Held) → list_any test (put_in h hs) ≡ (test h || list_any test hs)
some_put test h [] = refl
some_put test h (k ∷ ks) = by (nat_lt h.number k.number) (some_put test h ks)
  where
    by : (b : Bool) → list_any test (put_in h ks) ≡ (test h || list_any test ks) → list_any test (if b then h ∷ k ∷ ks else k ∷ put_in h ks) ≡ (test h || (test k || list_any test ks))
    by true rest = refl
    by false rest = ap (λ b. test k || b) rest ∙ swapped (test k) (test h) (list_any test ks)

-- some clause that waits passes, or one in use
pub some_held : (test : Held → Bool) (ws us : List Held) → list_any test (put_all_in ws us) ≡ (list_any test ws || list_any test us)
some_held test [] us = refl
some_held test (w ∷ ws) us = some_put test w (put_all_in ws us) ∙ ap (λ b. test w || b) (some_held test ws us) ∙ grouped (test w) (list_any test ws) (list_any test us)

-- a clause that isn't empty and is of use is kept
not_nil : {X : Type 0} (xs : List X) → (length xs ≡ 0 → ⊥) → is_nil xs ≡ false
not_nil [] e = absurd (e refl)
not_nil (x ∷ xs) e = refl

pub settles_kept : (st : Setting) (s : SearchState) (q : Queued) → (length q.clause ≡ 0 → ⊥) → is_no_use st s q ≡ false → settled st s q ≡ after_kept st (keeps (with_line s q) (held_for s q) q.usable) (held_for s q)
settles_kept st s q e f =
    ap (λ (b : Bool). if b then with_proof (number_for s q) (with_line s q) else (if is_no_use st s q then s else after_kept st (keeps (with_line s q) (held_for s q) q.usable) (held_for s q))) (not_nil q.clause e)
    ∙ ap (λ (b : Bool). if b then s else after_kept st (keeps (with_line s q) (held_for s q) q.usable) (held_for s q)) f

-- one that isn't too large is tidied
pub processes_small : (st : Setting) (s : SearchState) (q : Queued) → is_too_large q.clause ≡ false → processed st s q ≡ settled st s (tidied st s q)
processes_small st s q e = ap (λ (b : Bool). if b then record s { large = counted_on s.large 1 } else settled st s (tidied st s q)) e

-- one that isn't built is counted
pub processes_large : (st : Setting) (s : SearchState) (e : QueueEntry) (c : ClauseTree) (f : First) (n : ℕ) → e ≡ Large c f → is_too_large c ≡ true → n ≡ counted_on s.large 1 → record s { large = n } ≡ processed st s (entry_of e)
processes_large st s e c f n is large counted =
    ap (λ k. record s { large = k }) counted
    ∙ sym (ap (λ x. processed st s (entry_of x)) is ∙ ap (λ (b : Bool). if b then record s { large = counted_on s.large 1 } else settled st s (tidied st s (entry_of (Large c f)))) (numbered_as_large c ∙ large))

-- a clause that is kept stands in order, and is no rule
pub kept_in_order : LineGivesUnused → KeepingKeepsOrder → (s t : SearchState) (q : Queued) (h : Held) → IsInOrder s → AllByRecursion (IsUnusedIn s) (input_numbers (q ∷ [])) → h ≡ held_for s q
    → t ≡ keeps (with_line s q) (held_for s q) q.usable → IsInOrder t × IsNoRuleIn t h.number
kept_in_order line keeping s t q h order unused same is =
    let lined = line s q order unused in
    let kept = keeping (with_line s q) (held_for s q) q.usable lined.0 lined.1 in
    (subst IsInOrder (sym is) kept.0, subst (λ (k : Held). IsNoRuleIn t k.number) (sym same) (subst (λ (u : SearchState). IsNoRuleIn u (number_for s q)) (sym is) kept.1))
