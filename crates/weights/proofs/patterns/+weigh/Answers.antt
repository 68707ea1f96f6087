-- A term in others is smaller, and there is room for its weights.
use Rattle.std.proofs.Common.{◌≡◌, ◌+◌, ◌∙◌, ap, arith, drop}
use Rattle.fol_core.specs.Sizes.{size_of, sizes_of}
use Rattle.fol_core.specs.TermView.{tree_of, tree_list}
use Rattle.fol_core.specs.Tree.{nodes_of, trees_of}
use Rattle.term_matches.proofs.Arguments.{argument_nodes}
use Rattle.weights.proofs.Listed.{sizes_step, size_within}
use Rattle.weights.proofs.patterns.+weigh.Goals as goal

pub weigh_all-weigh-weight-requires : goal.weigh_all-weigh-weight-requires
weigh_all-weigh-weight-requires t c =
    let least = argument_nodes c.deref-term-items.result.now c.loop-term.term-index c.term-item.result c.loop-term-test.true c.term-item.is in
    let nodes : nodes_of (trees_of (tree_list c.deref-term-items.result.now)) ≡ nodes_of (trees_of c.args.terms.now) =
    ap (λ ts. nodes_of (trees_of (tree_list ts))) c.deref-term-items.ensures.value ∙ ap (λ ts. nodes_of (trees_of ts)) c.terms.view_is in
    let sizes : sizes_of (trees_of (tree_list c.deref-term-items.result.now)) ≡ sizes_of (trees_of c.args.terms.now) =
    ap (λ ts. sizes_of (trees_of (tree_list ts))) c.deref-term-items.ensures.value ∙ ap (λ ts. sizes_of (trees_of ts)) c.terms.view_is in
    let size : sizes_of (trees_of (tree_list (drop c.loop-term.term-index c.deref-term-items.result.now))) ≡ size_of (tree_of c.term-item.result) + sizes_of (trees_of (tree_list (drop (c.loop-term.term-index + 1) c.deref-term-items.result.now))) =
    sizes_step c.deref-term-items.result.now c.loop-term.term-index c.term-item.result c.loop-term-test.true c.term-item.is in
    let one = size_within c.deref-term-items.result.now c.loop-term.term-index c.term-item.result c.loop-term-test.true c.term-item.is in (
      omega (arith, least, nodes, c.decreases),
      (omega (arith, size, sizes, c.requires.room, c.loop-term.invariant.len, c.loop-term.invariant.room), omega (arith, one, sizes, c.requires.bindings, c.loop-term.invariant.bindings)),
    )
