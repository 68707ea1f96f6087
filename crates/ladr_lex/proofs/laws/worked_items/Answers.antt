use Rattle.std.proofs.Common.{refl, arith, [], ◌∷◌}
use Rattle.std.specs.Prelude.{codes}
use Rattle.ladr_lex.specs.Bytes.{is_blank, is_ordinary, is_special}
use Rattle.ladr_lex.specs.Item.{stopped, last}
use Rattle.ladr_lex.specs.Starts.{start_of}
use Rattle.ladr_lex.specs.Worked.{at}
use Rattle.ladr_lex.specs.declared.token.TokenKind.TheVariants.{Stop, Ordinary}
use Rattle.ladr_lex.proofs.laws.worked_items.Goals as goal

pub returns : goal.returns
unfolding start_of is_blank is_ordinary is_special
returns c = record {
  first = record {
    onward = omega arith;
    within = omega arith;
    cut = refl;
    whole = stopped (at 0 Ordinary (codes "p") ∷ []) (at 1 Stop (codes ".")) refl refl;
  };
  behind = record {
    onward = omega arith;
    within = omega arith;
    cut = refl;
    whole = last refl;
  };
}
