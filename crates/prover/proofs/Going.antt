-- From a state to later ones.
use Rattle.std.proofs.Common.{◌≡◌, ◌<◌, ◌≤◌, ℕ, zero, suc, Bool, false, ◌==◌, inl, inr, refl, sym, ap, ◌∙◌, subst, Option, Some, None, is_some, if◌then◌else◌, List, [], ◌∷◌, ◌++◌, length, map, append_assoc}
use Rattle.std.proofs.lemmas.Bool.{true≢false}
use Rattle.std.proofs.lemmas.List.{append-nil}
use Rattle.given_clause.specs.States.{entry_of}
use Rattle.given_clause.specs.declared.state.QueueEntry.{QueueEntry}
use Rattle.prover.specs.Answers.{HasQueue, IsQuiet, FindsNone, FindsNext}
use Rattle.prover_proofs.proofs.Growing.{given_same, gives_next, queue_grown}
use Rattle.prover_steps.specs.Ending.{QueueFalls, queue_left, given_left}
use Rattle.prover_steps.specs.Searching.{Setting, Queued, MadeLine, Reason, SearchState, queue_next, next_state, after, SearchReaches}

-- one step more
pub after_end : (st : Setting) (k : ℕ) (s : SearchState) → after st (suc k) s ≡ next_state st (after st k s)
after_end st zero s = refl
after_end st (suc k) s = after_end st k (next_state st s)

pub reaches_next : (st : Setting) (s t u : SearchState) → SearchReaches st s t → u ≡ next_state st t → SearchReaches st s u
reaches_next st s t u h e = (suc h.0, after_end st h.0 s ∙ ap (next_state st) h.1 ∙ sym e)

-- as many more
reaches_from : (st : Setting) (j : ℕ) (s t u : SearchState) → after st j s ≡ t → SearchReaches st t u → SearchReaches st s u
reaches_from st zero s t u e k = (k.0, ap (after st k.0) e ∙ k.1)
reaches_from st (suc j) s t u e k = let r = reaches_from st j (next_state st s) t u e k in (suc r.0, r.1)

pub reaches_then : (st : Setting) (s t u : SearchState) → SearchReaches st s t → SearchReaches st t u → SearchReaches st s u
reaches_then st s t u h k = reaches_from st h.0 s t u h.1 k

-- a state itself, and the next one
pub finds_none_here : (st : Setting) (s : SearchState) → FindsNone st s s
finds_none_here st s = record { reached = (0, refl); same = refl }

pub finds_none_on : (st : Setting) (s t u : SearchState) → FindsNone st s t → u ≡ next_state st t → u.proofs ≡ t.proofs → FindsNone st s u
finds_none_on st s t u h e same = record { reached = reaches_next st s t u h.reached e; same = same ∙ h.same }

pub finds_none_then : (st : Setting) (s t u : SearchState) → FindsNone st s t → FindsNone st t u → FindsNone st s u
finds_none_then st s t u h k = record { reached = reaches_then st s t u h.reached k.reached; same = k.same ∙ h.same }

pub finds_next_then : (st : Setting) (s t u : SearchState) (n : ℕ) → FindsNone st s t → FindsNext st t u n → FindsNext st s u n
finds_next_then st s t u n h k = record { before = k.before; goes = finds_none_then st s t k.before h k.goes; next = k.next; found = k.found }

-- a clause is queued
pub queue_here : (qs : List QueueEntry) (n : ℕ) (b : Bool) → b ≡ (n == 0) → n ≡ length qs → b ≡ false → (x : Queued) × ((xs : List Queued) × (map entry_of qs ≡ x ∷ xs))
queue_here [] n b e count empty = absurd (true≢false (sym (ap (λ (m : ℕ). m == 0) count) ∙ sym e ∙ empty))
queue_here (q ∷ qs) n b e count empty = (entry_of q, (map entry_of qs, refl))

-- where one is and the search goes on, it isn't quiet
pub is_busy : (t : SearchState) → t.ended ≡ None → HasQueue t → IsQuiet t → ⊥
is_busy t going queued (inl h) = true≢false (sym h ∙ ap is_some going)
is_busy t going queued (inr h) = let e : queued.0 ∷ queued.1.0 ≡ [] = sym queued.1.1 ∙ h in cc

-- a search that is quiet and has not ended has nothing queued
pub queue_empty : (s : SearchState) → IsQuiet s → s.ended ≡ None → s.queue ≡ []
queue_empty s (inl h) e = absurd (true≢false (sym h ∙ ap is_some e))
queue_empty s (inr h) e = h

-- fewer are left to be processed, and no more to be given
pub falls_at : QueueFalls → (st : Setting) (s t : SearchState) → t ≡ next_state st s → s.ended ≡ None → HasQueue s → (queue_left st t < queue_left st s) × (given_left st t ≤ given_left st s)
falls_at falls st s t e going queued = subst (λ (u : SearchState). (queue_left st u < queue_left st s) × (given_left st u ≤ given_left st s)) (sym e) (falls st s queued.0 queued.1.0 going queued.1.1)

-- lines are only added
abbrev MoreLines : SearchState → SearchState → Type 0
MoreLines s t = (more : List MadeLine) × (t.lines ≡ s.lines ++ more)

no_lines : (s t : SearchState) → t.lines ≡ s.lines → MoreLines s t
no_lines s t e = ([], e ∙ sym (append-nil s.lines))

next_lines : (st : Setting) (s : SearchState) → MoreLines s (next_state st s)
next_lines st s = by s.ended refl s.queue refl
  where
    by : (o : Option Reason) → s.ended ≡ o → (qs : List Queued) → s.queue ≡ qs → MoreLines s (next_state st s)
    by (Some r) e qs f = let stays : next_state st s ≡ s = ap (λ (x : Option Reason). if is_some x then s else queue_next st s s.queue) e in no_lines s (next_state st s) (ap (λ (v : SearchState). v.lines) stays)
    by None e [] f = no_lines s (next_state st s) (ap (λ (v : SearchState). v.lines) (gives_next st s e f) ∙ (given_same st s).0)
    by None e (q ∷ qs) f = let g = queue_grown st s q qs e f in (g.more, g.lines)

after_lines : (st : Setting) (k : ℕ) (s : SearchState) → MoreLines s (after st k s)
after_lines st zero s = no_lines s s refl
after_lines st (suc k) s =
    let h = next_lines st s in
    let g = after_lines st k (next_state st s) in
    (h.0 ++ g.0, g.1 ∙ ap (λ (ls : List MadeLine). ls ++ g.0) h.1 ∙ append_assoc s.lines h.0 g.0)

pub reached_lines : (st : Setting) (s t : SearchState) → SearchReaches st s t → (more : List MadeLine) × (t.lines ≡ s.lines ++ more)
reached_lines st s t h = let g = after_lines st h.0 s in (g.0, sym (ap (λ (v : SearchState). v.lines) h.1) ∙ g.1)
