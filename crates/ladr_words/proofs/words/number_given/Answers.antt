use Rattle.std.proofs.Common.{◌≡◌, List, ℕ, Option, Some, None, refl, ap, ◌∙◌, option_and_then}
use Rattle.std.specs.Str.Parse.{ParsesUnsigned, ExplainsUnsignedError, HasUnsignedDigitsIfOk}
use Rattle.clap.specs.Matches.{one_text, found_of}
use Rattle.clap.proofs.WalkLemmas.{one_text-rows}
use Rattle.ladr_words.specs.Tasks.{number_written}
use Rattle.ladr_words.proofs.Numbers.{read_number}
use Rattle.ladr_words.proofs.words.number_given.Goals as goal

pub returns : goal.returns
returns c = by (one_text (found_of c.args.matches.now) c.args.name.now) refl ∙ ap (option_and_then number_written) (one_text-rows (found_of c.args.matches.now) c.args.name.now)
  where
    by : (read : Option (List ℕ)) → one_text (found_of c.args.matches.now) c.args.name.now ≡ read → c.get_one.result ≡ option_and_then number_written read
    by None is = c.get_one.ensures.none is
    by (Some text) is = read_number _ (λ bs r. ParsesUnsigned 64 10 bs r × ExplainsUnsignedError 10 bs r × HasUnsignedDigitsIfOk bs r) (λ t r g. g.0)
        text c.get_one.result (c.get_one.ensures.value text is)
