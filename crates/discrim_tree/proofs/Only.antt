-- Paths lead to the numbers of entries, and to no others.
use Rattle.std.proofs.Common.{◌≡◌, ℕ, zero, suc, ◌<◌, ◌⊎◌, inl, inr, refl, sym, ap, subst, ◌∙◌, None, List, [], ◌∷◌, ◌++◌, take, drop, length, get_or, arith}
use Rattle.slab.specs.Slab.{get}
use Rattle.discrim_tree.specs.Nodes.{Store, Reaches, KeepsPaths}
use Rattle.discrim_tree.specs.Paths.{path_of}
use Rattle.discrim_tree.specs.Seeking.{AreOnly, IsEntry}
use Rattle.discrim_tree.specs.Trees.{ComesOnly}
use Rattle.discrim_tree.specs.declared.edge.Edge.{Edge}
use Rattle.discrim_tree.specs.declared.entry.IndexEntry.{IndexEntry}
use Rattle.discrim_tree.proofs.WalkSteps.{nowhere}

pub only_on : (old new : Store) (es : List IndexEntry) → KeepsPaths new old → AreOnly old es → AreOnly new es
only_on old new es back only p n r = only p n (back 0 p n r)

entry_more : (p : List Edge) (n k : ℕ) (e : IndexEntry) (es : List IndexEntry) → IsEntry p n es → IsEntry p n (take k es ++ e ∷ drop k es)
entry_more p n k e [] h = absurd h
entry_more p n zero e (d ∷ ds) h = inr h
entry_more p n (suc k) e (d ∷ ds) (inl h) = inl h
entry_more p n (suc k) e (d ∷ ds) (inr h) = inr (entry_more p n k e ds h)

entry_there : (k : ℕ) (e : IndexEntry) (es : List IndexEntry) → IsEntry (path_of e.tree) e.number (take k es ++ e ∷ drop k es)
entry_there zero e [] = inl (refl, refl)
entry_there (suc k) e [] = inl (refl, refl)
entry_there zero e (d ∷ ds) = inl (refl, refl)
entry_there (suc k) e (d ∷ ds) = inr (entry_there k e ds)

pub only_placed : (old new : Store) (es placed : List IndexEntry) (k : ℕ) (e : IndexEntry) (path : List Edge) → placed ≡ take k es ++ e ∷ drop k es → path ≡ path_of e.tree → ComesOnly path e.number old new → AreOnly old es → AreOnly new placed
only_placed old new es placed k e path is same comes only p n r = subst (IsEntry p n) (sym is) (elim (comes p n r) [
  | inl h ↦ entry_more p n k e es (only p n h)
  | inr h ↦ by (h.0 ∙ same) h.1
])
  where
    by : p ≡ path_of e.tree → n ≡ e.number → IsEntry p n (take k es ++ e ∷ drop k es)
    by s t =
        subst (λ (q : List Edge). IsEntry q n (take k es ++ e ∷ drop k es)) (sym s)
        (subst (λ m. IsEntry (path_of e.tree) m (take k es ++ e ∷ drop k es)) (sym t) (entry_there k e es))

entry_left : (p : List Edge) (n k : ℕ) (d : IndexEntry) (es : List IndexEntry) → k < length es → IsEntry p n es
    → IsEntry p n (take k es ++ drop (suc k) es) ⊎ ((p ≡ path_of (get_or es k d).tree) × (n ≡ (get_or es k d).number))
entry_left p n k d [] lt h = absurd h
entry_left p n zero d (e ∷ es) lt (inl h) = inr h
entry_left p n zero d (e ∷ es) lt (inr h) = inl h
entry_left p n (suc k) d (e ∷ es) lt (inl h) = inl (inl h)
entry_left p n (suc k) d (e ∷ es) lt (inr h) = elim (entry_left p n k d es (omega (arith, lt)) h) [ inl g ↦ inl (inr g) | inr g ↦ inr g ]

pub only_out : (old new : Store) (es left : List IndexEntry) (k number : ℕ) (d : IndexEntry) → left ≡ take k es ++ drop (suc k) es → k < length es → d ≡ get_or es k d → d.number ≡ number → KeepsPaths new old
    → (Reaches new 0 (path_of d.tree) number → ⊥) → AreOnly old es → AreOnly new left
only_out old new es left k number d is lt here same back gone only p n r = subst (IsEntry p n) (sym is) (elim (entry_left p n k d es lt (only p n (back 0 p n r))) [
  | inl h ↦ h
  | inr h ↦ absurd (none (h.0 ∙ ap (λ (e : IndexEntry). path_of e.tree) (sym here)) (h.1 ∙ ap (λ (e : IndexEntry). e.number) (sym here) ∙ same))
])
  where
    none : p ≡ path_of d.tree → n ≡ number → ⊥
    none s t = gone (subst (λ (q : List Edge). Reaches new 0 q number) s (subst (λ m. Reaches new 0 p m) t r))

pub empty_only : (nodes : Store) → ((k : ℕ) → get nodes k ≡ None) → AreOnly nodes []
empty_only nodes none p n r = nowhere nodes 0 p n (none 0) r
