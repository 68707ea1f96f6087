-- There is no number too great for a place.
use Rattle.std.proofs.Common.{◌≡◌, ◌≤◌, ◌+◌, ◌∙◌, ap, arith, drop}
use Rattle.fol_core.specs.Sizes.{size_of, sizes_of}
use Rattle.fol_core.specs.TermView.{tree_of, tree_list}
use Rattle.fol_core.specs.Tree.{nodes_of, trees_of}
use Rattle.term_matches.proofs.Arguments.{argument_nodes}
use Rattle.weights.specs.Parts.{parts_of, place_among}
use Rattle.weights.proofs.Listed.{places_within, sizes_step}
use Rattle.weights.proofs.parts.+parts.Goals as goal

pub stands_in-is_here-requires-in-App : goal.stands_in-is_here-requires-in-App
stands_in-is_here-requires-in-App t c =
    let most : place_among (parts_of (trees_of c.in-App.terms)) (tree_of c.args.sought.now) ≤ sizes_of (trees_of c.in-App.terms) = places_within (trees_of c.in-App.terms) (tree_of c.args.sought.now) in
    let size : size_of (tree_of c.args.term.now) ≡ sizes_of (trees_of c.in-App.terms) + 1 = ap (λ u. size_of (tree_of u)) c.in-App.is in
    omega (arith, most, size, c.requires, c.stands_in_some.ensures.place)

pub stands_in_some-stands_in-requires : goal.stands_in_some-stands_in-requires
stands_in_some-stands_in-requires t c =
    let least = argument_nodes c.deref-term-items.result.now c.loop-term.term-index c.term-item.result c.loop-term-test.true c.term-item.is in
    let nodes : nodes_of (trees_of (tree_list c.deref-term-items.result.now)) ≡ nodes_of (trees_of c.args.terms.now) =
    ap (λ ts. nodes_of (trees_of (tree_list ts))) c.deref-term-items.ensures.value ∙ ap (λ ts. nodes_of (trees_of ts)) c.terms.view_is in
    let size : sizes_of (trees_of (tree_list (drop c.loop-term.term-index c.deref-term-items.result.now))) ≡ size_of (tree_of c.term-item.result) + sizes_of (trees_of (tree_list (drop (c.loop-term.term-index + 1) c.deref-term-items.result.now))) =
    sizes_step c.deref-term-items.result.now c.loop-term.term-index c.term-item.result c.loop-term-test.true c.term-item.is in
    (omega (arith, least, nodes, c.decreases), omega (arith, size, c.loop-term.invariant.room))
