use Rattle.std.specs.Fmt.{decimal}
use Rattle.words_print.specs.WordTokens.{further_satellites}
use Rattle.words_print.proofs.Joints.{clash_text}
use Rattle.words_print.proofs.words.clash.Goals as goal

pub returns : goal.returns
returns c =
    clash_text _ _ _ _ _ _ c.args.name.now (decimal c.args.n) (further_satellites c.args.satellites.now) c.in_ok-extend_from_slice.ensures.items c.in_ok-extend_from_slice-2.ensures.items
    c.in_ok-decimal.ensures c.in_ok-further_satellites.ensures c.in_ok-extend_from_slice-3.ensures.items
