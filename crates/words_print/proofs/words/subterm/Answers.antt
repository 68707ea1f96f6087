use Rattle.std.specs.Fmt.{decimal}
use Rattle.words_print.specs.WordTokens.{literal_name, further_numbers}
use Rattle.words_print.proofs.Joints.{subterm_text}
use Rattle.words_print.proofs.words.subterm.Goals as goal

pub returns : goal.returns
returns c =
    subterm_text _ _ _ _ _ _ (decimal c.args.n) (literal_name c.args.a) (further_numbers c.args.path.now) c.in_ok-decimal.ensures c.in_ok-extend_from_slice.ensures.items
    c.in_ok-literal_name.ensures c.in_ok-further_numbers.ensures c.in_ok-extend_from_slice-2.ensures.items
