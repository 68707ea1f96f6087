use Rattle.std.proofs.Common.{◌≡◌, ◌∙◌, ap, length, arith}
use Rattle.weights.specs.HintIndex.{rows_of}
use Rattle.weights.proofs.Indexed.{indexed_more}
use Rattle.weights.proofs.hints.index_of.Goals as goal

pub loop-place-preserved : goal.loop-place-preserved
loop-place-preserved c =
    let h = c.index-hints-place.result in
    let many : c.len.result ≡ length c.loop-place.rows.items = omega (arith, c.len.ensures, c.loop-place.rows.ok.0) in
    record {
      some = omega (arith, c.in_ok-add_place.ensures.len, c.loop-place.invariant.some);
      rows =
          indexed_more c.loop-place.rows.items c.add_place.new.rows.items c.args.hints.now c.loop-place.place h c.as_slice.result.now c.loop-place-test.true c.index-hints-place.is c.loop-place.invariant.rows
          (c.as_slice.ensures.value ∙ c.in_ok-named.ensures ∙ ap (λ n. rows_of n h.clause) many)
          c.in_ok-add_place.ensures.len c.in_ok-add_place.ensures.rows;
    }
