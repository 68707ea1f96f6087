use Rattle.std.proofs.Common.{refl, ◌∙◌}
use Rattle.ladr_lex.proofs.OperatorLemmas.{fixed_kept}
use Rattle.ladr_print.proofs.Stating.{states_back}
use Rattle.ladr_print.proofs.laws.printed_states_again.Goals as goal

pub returns : goal.returns
returns c = record {
  formula = states_back;
  start = λ name h. refl;
  declared = λ rows p type symbol b k name h. fixed_kept rows p type symbol name b h ∙ k name h;
}
