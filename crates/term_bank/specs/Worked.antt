-- Banks, sizes and levels worked out.
use Rattle.std.specs.Prelude.{◌≡◌, List, [], ◌∷◌}
use Rattle.fol_core.specs.Sizes.{size_of, depth_of, saturated}
use Rattle.fol_core.specs.Tree.{Tree, var, app, none, more}
use Rattle.term_bank.specs.Bank.{tree_at}

-- f(a,x) with its parts before it: a has number 0, x number 1
abbrev pub three : List Tree
three = app 1 none ∷ var 5 ∷ app 2 (more (app 1 none) (more (var 5) none)) ∷ []

-- g(f(a,x),f(a,x)) has seven symbols and variables on three levels
abbrev pub doubled : Tree
doubled = app 3 (more (tree_at three 2) (more (tree_at three 2) none))

abbrev pub WorkedMeasures : Type 0
WorkedMeasures =
    (size_of doubled ≡ 7) × (depth_of doubled ≡ 3) × (size_of (var 5) ≡ 1)
    × (depth_of (app 1 none) ≡ 1)
    × (saturated 18446744073709551616 ≡ 18446744073709551615)
