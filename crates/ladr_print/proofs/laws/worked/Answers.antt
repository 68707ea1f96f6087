use Rattle.std.proofs.Common.{refl}
use Rattle.ladr_lex.specs.Bytes.{is_ordinary, is_special}
use Rattle.ladr_print.proofs.laws.worked.Goals as goal

pub returns : goal.returns
unfolding is_ordinary is_special
returns c =
    record {
      arrows = refl;
      on_the_left = refl;
      to_the_right = refl;
      denied = refl;
      twice = refl;
      quantified = refl;
      denied_bound = refl;
      attribute = refl;
      apostrophes = refl;
      arguments = refl;
      head = refl;
    }
