-- An argument more.
use Rattle.std.proofs.Common.{◌≡◌, ℕ, ◌∙◌, refl, ap, length, arith, slice_index_or}
use Rattle.std.proofs.lemmas.List.{get_or_default}
use Rattle.fol_core.specs.Sizes.{saturated}
use Rattle.term_unifiers.specs.Measures.{size_at, depth_at}
use Rattle.term_unifiers.specs.Merging.{nth}
use Rattle.term_unifiers.proofs.Growing.{below_at}
use Rattle.term_unifiers.proofs.Measured.{sum_next, greatest_next}
use Rattle.term_unifiers.proofs.measuring.above.Goals as goal

pub bounds-links-argument : goal.bounds-links-argument
bounds-links-argument c = below_at (length c.args.links.now) c.args.arguments.now c.requires.arguments c.loop-argument.argument-index 0 c.loop-argument-test.true

pub offset_bounds-links-argument : goal.offset_bounds-links-argument
offset_bounds-links-argument c =
    let k = below_at (length c.args.links.now) c.args.arguments.now c.requires.arguments c.loop-argument.argument-index 0 c.loop-argument-test.true in
    omega (arith, k)

pub offset_bounds-measures-links : goal.offset_bounds-measures-links
offset_bounds-measures-links c =
    let k = below_at (length c.args.links.now) c.args.arguments.now c.requires.arguments c.loop-argument.argument-index 0 c.loop-argument-test.true in
    let n = below_at (length c.args.measures.now) c.args.links.now c.requires.links (nth c.args.arguments.now c.loop-argument.argument-index) 0 k in
    omega (arith, n)

pub bounds-measures-links : goal.bounds-measures-links
bounds-measures-links c =
    let k = below_at (length c.args.links.now) c.args.arguments.now c.requires.arguments c.loop-argument.argument-index 0 c.loop-argument-test.true in
    below_at (length c.args.measures.now) c.args.links.now c.requires.links (nth c.args.arguments.now c.loop-argument.argument-index) 0 k

pub loop-argument-preserved : goal.loop-argument-preserved
loop-argument-preserved c =
    let k : ℕ = nth c.args.arguments.now c.loop-argument.argument-index in
    let at : k ≡ slice_index_or c.args.arguments.now c.loop-argument.argument-index k = get_or_default c.args.arguments.now c.loop-argument.argument-index 0 k c.loop-argument-test.true in
    record {
      sized = c.saturating_add-size.ensures ∙ sum_next (size_at c.args.links.now c.args.measures.now) c.args.arguments.now c.loop-argument.argument-index k c.loop-argument.size (size_at c.args.links.now c.args.measures.now k) c.loop-argument-test.true at c.loop-argument.invariant.sized refl;
      deep = ap saturated c.max-depth.ensures ∙ greatest_next (depth_at c.args.links.now c.args.measures.now) c.args.arguments.now c.loop-argument.argument-index k c.loop-argument.depth (depth_at c.args.links.now c.args.measures.now k) c.loop-argument-test.true at c.loop-argument.invariant.deep refl;
    }
