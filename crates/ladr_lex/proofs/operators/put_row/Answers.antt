-- The row of the name is changed where it stands, or put last.
use Rattle.std.proofs.Common.{length, sym, ap, ap₂, ◌∙◌, ◌++◌, [], ◌∷◌, arith}
use Rattle.ladr_lex.specs.OperatorView.{row_list}
use Rattle.ladr_lex.proofs.OperatorLemmas.{put_there, put_new, one_more, length_more}
use Rattle.ladr_lex.proofs.operators.put_row.Goals as goal

pub returns-in-Some-clause-ok : goal.returns-in-Some-clause-ok
returns-in-Some-clause-ok c =
    put_there c.args.name.now c.args.operator c.args.names.now c.args.operators.now.items c.in-Some.place c.requires (sym c.position.ensures ∙ c.in-Some.is)

pub returns-in_ok-push-in-None-clause-paired : goal.returns-in_ok-push-in-None-clause-paired
returns-in_ok-push-in-None-clause-paired c =
    ap length c.in_ok-push-in-None.ensures.ok ∙ one_more c.args.name.now c.args.names.now (sym c.position.ensures ∙ c.in-None.is)
    ∙ sym (ap length (c.push_reserved.ensures.items ∙ ap (λ os. os ++ c.args.operator ∷ []) c.in_ok-reserve-in-None.ensures.items)
    ∙ length_more c.args.operators.now.items c.args.operator (sym c.requires))

pub returns-in_ok-push-in-None-clause-ok : goal.returns-in_ok-push-in-None-clause-ok
returns-in_ok-push-in-None-clause-ok c =
    ap₂ row_list c.in_ok-push-in-None.ensures.ok (c.push_reserved.ensures.items ∙ ap (λ os. os ++ c.args.operator ∷ []) c.in_ok-reserve-in-None.ensures.items)
    ∙ put_new c.args.name.now c.args.operator c.args.names.now c.args.operators.now.items c.requires (sym c.position.ensures ∙ c.in-None.is)
