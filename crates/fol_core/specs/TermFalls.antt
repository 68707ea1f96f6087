-- Each argument is smaller than its application.
use Rattle.std.specs.Prelude.{◌≤◌, max, List, [], ◌∷◌}
use Rattle.std.proofs.Common.{arith}
use denote.Param.Weighed.{most}
use Rattle.fol_core.specs.Tree.{nodes, nodes_of, trees_of}
use Rattle.fol_core.specs.TermView.{tree_of, tree_list}
use Rattle.fol_core.specs.declared.term.Term.{Term}
use Rattle.fol_core.specs.declared.term.Term.TheVariants.{Var, Elem, App}
use Rattle.fol_core.specs.declared.term.Terms.TheDeep.{deep-Term}

term_falls : (t : Term) → deep-Term t ≤ nodes (tree_of t)
term_falls (Var x) = omega arith
term_falls (Elem k) = omega arith
term_falls (App s ts) = omega arith

pub terms_fall : (ts : List Term) → max (most deep-Term ts) 0 ≤ nodes_of (trees_of (tree_list ts))
terms_fall [] = omega arith
terms_fall (t ∷ ts) = omega (arith, term_falls t, terms_fall ts)
