use Rattle.std.proofs.Common.{refl}
use Rattle.ladr_lex.specs.Bytes.{is_ordinary, is_special}
use Rattle.ladr_print.proofs.laws.worked_declared.Goals as goal

pub returns : goal.returns
unfolding is_ordinary is_special
returns c =
    record {
      to_the_left = refl;
      on_the_right = refl;
      body = refl;
      postfix = refl;
      argument = refl;
      signs = refl;
      below = refl;
      beside = refl;
    }
