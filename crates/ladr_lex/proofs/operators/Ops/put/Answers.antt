use Rattle.std.proofs.Common.{◌≡◌, true, List, sym, subst, ap, ◌∙◌}
use Rattle.std.proofs.lemmas.Bool.{or_parts}
use Rattle.ladr_lex.specs.OperatorView.{row_list, are_unusual}
use Rattle.ladr_lex.specs.Operators.{OperatorRow, are_lawful, with_operator_row}
use Rattle.ladr_lex.proofs.OperatorLemmas.{lawful_put, unusual_put}
use Rattle.ladr_lex.proofs.operators.Ops.put.Goals as goal

pub invariant_of-self-2 : goal.invariant_of-self-2
invariant_of-self-2 c =
    let old = row_list c.self.inside.names c.self.inside.operators.items in
    let rows = c.in_ok-put_row.ensures.ok in (
      c.put_row.ensures.paired,
      subst (λ (rs : List OperatorRow). are_lawful rs ≡ true) (sym rows) (lawful_put c.args.name.now c.args.operator old c.requires.symbol c.requires.word c.requires.precedence c.self.invariant.1),
      λ h. (let parts = or_parts c.self.inside.usual c.begins_usually.result h in
          subst (λ (rs : List OperatorRow). are_unusual rs ≡ true) (sym rows) (unusual_put c.args.name.now c.args.operator old
          (sym c.begins_usually.ensures ∙ parts.1) (c.self.invariant.2 parts.0))),
    )

pub returns-clause-ok : goal.returns-clause-ok
returns-clause-ok c = c.in_ok-put_row.ensures.ok ∙ ap (with_operator_row c.args.name.now c.args.operator) c.self.view_is
