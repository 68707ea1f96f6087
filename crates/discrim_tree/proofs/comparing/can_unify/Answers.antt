-- There is a unifier exactly where it is found that there is.
use Rattle.std.proofs.Common.{List, IsTrue, ap}
use Rattle.fol_core.specs.Tree.{Tree}
use Rattle.fol_core.specs.TermView.{tree_of}
use Rattle.term_unifiers.proofs.Renamed.{unified_apart}
use Rattle.discrim_tree.proofs.Terms.{test_is}
use Rattle.discrim_tree.proofs.comparing.can_unify.Goals as goal

pub returns : goal.returns
returns c =
    let s : Tree = tree_of c.args.s.now in
    let t : Tree = tree_of c.args.t.now in
    let left = ap (λ (p : List Tree × List Tree). p.0) c.in_ok-pair.ensures in
    let right = ap (λ (p : List Tree × List Tree). p.1) c.in_ok-pair.ensures in
    test_is s t c.can_unify.result (unified_apart s t c.in_ok-pair.pair.0 c.in_ok-pair.pair.1 (IsTrue c.can_unify.result) left right c.can_unify.ensures)
