use Rattle.std.proofs.Common.{refl}
use Rattle.ladr_lex.specs.Bytes.{is_ordinary, is_special}
use Rattle.ladr_lex.proofs.laws.worked_operators.Goals as goal

pub returns : goal.returns
unfolding is_ordinary is_special
returns c =
    record {
      unquoted_name = refl;
      operates = refl;
      replaced = refl;
      taken_away = refl;
      precedences = (refl, refl, refl);
      types = refl;
      fixed_symbols = (refl, refl, refl);
      symbols = (refl, refl, refl);
      rows = refl;
    }
