use Rattle.std.proofs.Common.{◌∙◌, ◌++◌, ap, List}
use Rattle.fol_core.specs.TermView.{tree_of}
use Rattle.discrim_tree.specs.Paths.{path_of}
use Rattle.discrim_tree.specs.declared.edge.Edge.{Edge}
use Rattle.discrim_tree.proofs.edge.path_of.Goals as goal

pub returns : goal.returns
returns c = c.in_ok-add_steps.ensures ∙ ap (λ (p : List Edge). p ++ path_of (tree_of c.args.t.now)) c.in_ok-path.ensures.items
