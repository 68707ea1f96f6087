-- Terms measured one after the other.
use Rattle.std.proofs.Common.{◌≡◌, ℕ, ◌+◌, ◌<◌, ◌≤◌, sym, ap, ap₂, ◌∙◌, List, [], ◌∷◌, ◌++◌, length, map, take, slice_index_or}
use Rattle.std.proofs.lemmas.List.{map_more, take_all}
use Rattle.clause_limits.specs.Sizes.{measured, measured_all, beside, under_symbol}
use Rattle.clause_limits.specs.declared.measured.Measure.{Measure}
use Rattle.clause_limits.proofs.Beside.{measured_push, measured_under}
use Rattle.fol_core.specs.Tree.{Tree, Trees, app, trees_of}

-- those so far, and one more
pub measured_more : {X : Type 0} (f : X → Tree) (xs : List X) (i : ℕ) (x : X) (m n k : Measure) → i < length xs → x ≡ slice_index_or xs i x → m ≡ measured_all (trees_of (map f (take i xs))) → n ≡ measured (f x) → k ≡ beside m n
    → k ≡ measured_all (trees_of (map f (take (i + 1) xs)))
measured_more f xs i x m n k h at before one is =
    is ∙ ap₂ beside before one ∙ measured_push (map f (take i xs)) (f x)
    ∙ ap (λ us. measured_all (trees_of us)) (ap (λ u. map f (take i xs) ++ f u ∷ []) at ∙ sym (map_more f xs i x h))

-- all of them, under their symbol
pub measured_whole : {X : Type 0} (f : X → Tree) (head : ℕ) (xs : List X) (us : Trees) (i : ℕ) (m n : Measure) → m ≡ measured_all (trees_of (map f (take i xs))) → n ≡ under_symbol m → length xs ≤ i → trees_of (map f xs) ≡ us → n ≡ measured (app head us)
measured_whole f head xs us i m n before is h all =
    is ∙ ap under_symbol (before ∙ ap (λ l. measured_all (trees_of (map f l))) (take_all i xs h))
    ∙ measured_under head (trees_of (map f xs)) ∙ ap (λ l. measured (app head l)) all
