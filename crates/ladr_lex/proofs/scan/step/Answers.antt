use Rattle.std.proofs.Common.{sym, ◌∙◌, arith}
use Rattle.ladr_lex.proofs.scan.step.Goals as goal
use Rattle.ladr_lex.proofs.ItemLemmas.{none_told, or_none}
use Rattle.ladr_lex.proofs.Steps.{special_place, advances_gap, advances_then}

pub dashes-requires-clause-dashed : goal.dashes-requires-clause-dashed
dashes-requires-clause-dashed c = special_place c.args.text.now.bytes.now c.args.at _ (sym c.is_special.ensures ∙ c.if-is_special.true) c.piece_at-kind.ensures.end

pub returns-in-None-clause-cut : goal.returns-in-None-clause-cut
returns-in-None-clause-cut c = (advances_gap _ _ _ _ _ c.requires.place (sym c.piece_at-kind.ensures.kind ∙ c.in-None.is) c.piece_at-kind.ensures.end, omega (arith, c.piece_at-kind.ensures.end))

pub returns-then-is_special-clause-cut : goal.returns-then-is_special-clause-cut
returns-then-is_special-clause-cut c = advances_then _ _ _ _ _ _ _ _ (omega (arith, c.piece_at-kind.ensures.end)) c.in_ok-add-in-Some.ensures.cut c.dashes.ensures.cut

pub returns-in-None-clause-stop : goal.returns-in-None-clause-stop
returns-in-None-clause-stop c = sym (or_none _ _ (none_told _ _ (sym c.piece_at-kind.ensures.kind ∙ c.in-None.is)))
