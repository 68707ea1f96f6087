-- Terms that fit others by their steps.
use Rattle.std.specs.Prelude.{◌≡◌, Bool, IsTrue}
use Rattle.fol_core.specs.Tree.{Tree, var, elem, app, Trees, none, more}

-- below: a variable of the first fits each term; above: each term fits a variable of the second
abbrev mutual
  pub Fits : Bool → Bool → Tree → Tree → Type 0
  Fits below above (var x) (var y) = Unit {0}
  Fits below above (var x) (elem n) = IsTrue below
  Fits below above (var x) (app g ts) = IsTrue below
  Fits below above (elem k) (var y) = IsTrue above
  Fits below above (elem k) (elem n) = k ≡ n
  Fits below above (elem k) (app g ts) = ⊥
  Fits below above (app f ss) (var y) = IsTrue above
  Fits below above (app f ss) (elem n) = ⊥
  Fits below above (app f ss) (app g ts) = (f ≡ g) × FitAll below above ss ts

  pub FitAll : Bool → Bool → Trees → Trees → Type 0
  FitAll below above none none = Unit {0}
  FitAll below above none (more t ts) = ⊥
  FitAll below above (more s ss) none = ⊥
  FitAll below above (more s ss) (more t ts) =
      Fits below above s t × FitAll below above ss ts
