-- Terms from their heads.
use Rattle.std.specs.Prelude.{◌≡◌, List, [], ◌∷◌, take, drop, reverse}
use Rattle.fol_core.specs.Tree.{Tree, var, elem, app, trees_of}
use Rattle.fol_core.specs.TermView.{tree_list}
use Rattle.fol_core.specs.declared.term.Term.{Term}
use Rattle.packed_terms.specs.Heads.{heads}
use Rattle.packed_terms.specs.declared.head.Head.{Head}
use Rattle.packed_terms.specs.declared.head.Head.TheVariants.{Variable, Element, Symbol}

-- the terms of a stack, the top one first
abbrev pub from_top : List Term → List Tree
from_top ts = tree_list (reverse ts)

-- a head before the terms: a symbol takes its arguments from them
abbrev pub with_head : Head → List Tree → List Tree
with_head (Variable x) ts = var x ∷ ts
with_head (Element k) ts = elem k ∷ ts
with_head (Symbol f n) ts = app f (trees_of (take n ts)) ∷ drop n ts

-- the terms of heads, from the last one to the first
abbrev pub built : List Head → List Tree
built [] = []
built (h ∷ hs) = with_head h (built hs)

abbrev pub first_of : List Tree → Tree
first_of [] = var 0
first_of (t ∷ ts) = t

-- the term of its heads
abbrev pub term_of : List Head → Tree
term_of hs = first_of (built hs)

-- they are just those of one term
abbrev pub AreHeads : List Head → Type 0
AreHeads hs = hs ≡ heads (term_of hs)
