use Rattle.std.proofs.Common.{◌≡◌, ◌+◌, List, ap, arith}
use Rattle.fol_core.specs.Tree.{Tree, trees_of, nodes, nodes_of}
use Rattle.fol_core.specs.TermView.{tree_of}
use Rattle.fol_core.specs.declared.term.Term.{Term}
use Rattle.model_tables.proofs.Places.{argument_smaller}
use Rattle.model_tables.proofs.evaluate.+value.Goals as goal

pub value-requires : goal.value-requires
value-requires t c =
    let whole : nodes (tree_of c.args.term.now) ≡ nodes_of (trees_of c.in-App.terms) + 2 = ap (λ (x : Term). nodes (tree_of x)) c.in-App.is in
    let same = ap (λ (ts : List Tree). nodes_of (trees_of ts)) c.as_slice-argument-items.ensures.trees in
    let part = argument_smaller c.as_slice-argument-items.result.now c.loop-argument.argument-index c.argument-item.result c.loop-argument-test.true c.argument-item.is in
    (omega (arith, c.decreases), tt)
