use Rattle.std.proofs.Common.{refl}
use Rattle.ladr_lex.specs.Bytes.{is_ordinary, is_special}
use Rattle.ladr_formulas.specs.Formulas.{named_variable}
use Rattle.ladr_print.proofs.laws.worked_formulas.Goals as goal

pub returns : goal.returns
unfolding is_ordinary is_special named_variable
returns c =
    record {
      denied = refl;
      different = refl;
      denied_twice = refl;
      turned = refl;
      quantified = refl;
      hidden = refl;
    }
