use Rattle.std.proofs.Common.{◌∙◌, sym}
use Rattle.fol_core.specs.TermView.{tree_of}
use Rattle.weights.proofs.Listed.{same_is}
use Rattle.weights.proofs.parts.is_here.Goals as goal

pub returns-then-same-clause-same : goal.returns-then-same-clause-same
returns-then-same-clause-same c = sym c.if-same.true ∙ same_is c.same.result (tree_of c.args.term.now) (tree_of c.args.sought.now) c.same.ensures

pub returns-clause-same : goal.returns-clause-same
returns-clause-same c = sym c.if-same.false ∙ same_is c.same.result (tree_of c.args.term.now) (tree_of c.args.sought.now) c.same.ensures
