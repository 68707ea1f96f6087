-- Lists of terms that begin alike.
use Rattle.std.specs.Prelude.{ℕ, ◌≡◌, false, List, [], ◌∷◌, ◌++◌}
use Rattle.fol_core.specs.Tree.{Tree, app, trees_of}
use Rattle.unifiers.specs.Matching.{same_tree}

-- where both have a first term, these differ
abbrev pub DifferFirst : List Tree → List Tree → Type 0
DifferFirst [] vs = Unit {0}
DifferFirst (u ∷ us) [] = Unit {0}
DifferFirst (u ∷ us) (v ∷ vs) = same_tree u v ≡ false

-- what is left of two lists behind the terms that they have in common at the front
pub record ArePastCommon (ss ts us vs : List Tree) : Type 0 where
  pub front : List Tree
  pub first : ss ≡ front ++ us
  pub second : ts ≡ front ++ vs
  pub differ : DifferFirst us vs

-- two terms with one head, and what is left of their arguments behind those in common
pub record AreLastArguments (s : Tree) (us : List Tree) (t : Tree) (vs : List Tree) : Type 0 where
  pub head : ℕ
  pub front : List Tree
  pub first : s ≡ app head (trees_of (front ++ us))
  pub second : t ≡ app head (trees_of (front ++ vs))
  pub differ : DifferFirst us vs
