-- Packed terms worked out.
use Rattle.std.specs.Prelude.{◌≡◌, [], ◌∷◌, None, Some, slice_get}
use Rattle.fol_core.specs.Tree.{Tree, var, elem, app, none, more}
use Rattle.packed_terms.specs.Heads.{heads}
use Rattle.packed_terms.specs.declared.head.Head.TheVariants.{Variable, Element, Symbol}

-- f(g(x,a),3), with a 0, f 1, g 2 and x the variable 5
abbrev term : Tree
term = app 1 (more (app 2 (more (var 5) (more (app 0 none) none))) (more (elem 3) none))

-- its heads are f, g, x, a and 3
abbrev pub WorkedHeads : Type 0
WorkedHeads =
    (heads term ≡ Symbol 1 2 ∷ Symbol 2 2 ∷ Variable 5 ∷ Symbol 0 0 ∷ Element 3 ∷ [])
    × (slice_get (heads term) 0 ≡ Some (Symbol 1 2))
    × (slice_get (heads term) 4 ≡ Some (Element 3))
    × (slice_get (heads term) 5 ≡ None)
