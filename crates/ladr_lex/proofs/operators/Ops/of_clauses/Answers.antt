use Rattle.std.proofs.Common.{◌≡◌, List, Some, true, sym, ap, subst, ◌∙◌, arith, length}
use Rattle.std.specs.Prelude.{slice_get}
use Rattle.std.proofs.lemmas.Bool.{and_parts, not-true}
use Rattle.ladr_lex.specs.Operators.{OperatorRow, has_precedence, with_operator_row, are_lawful}
use Rattle.ladr_lex.proofs.ClauseOperators.{row_at, row_lawful, kept_precedence, next_put, frees, keeps_fixed, all_of, length_rows}
use Rattle.ladr_lex.proofs.operators.Ops.of_clauses.Goals as goal

pub put-requires-clause-symbol : goal.put-requires-clause-symbol
put-requires-clause-symbol c = (and_parts _ _ (and_parts _ _ (row_lawful _ c.loop-place.place _ c.self.invariant.1
    (row_at _ _ c.loop-place.place _ c.index.result.now c.self.invariant.0 c.name-name.ensures (omega (arith, c.loop-place-test.true, c.len-place-end.ensures)) c.index.ensures))).0).0

pub put-requires-clause-word : goal.put-requires-clause-word
put-requires-clause-word c = not-true _ (and_parts _ _ (and_parts _ _ (row_lawful _ c.loop-place.place _ c.self.invariant.1
    (row_at _ _ c.loop-place.place _ c.index.result.now c.self.invariant.0 c.name-name.ensures (omega (arith, c.loop-place-test.true, c.len-place-end.ensures)) c.index.ensures))).0).1

pub put-requires-clause-precedence : goal.put-requires-clause-precedence
put-requires-clause-precedence c =
    ap has_precedence c.clause_operator.ensures ∙ kept_precedence c.args.prolog _ c.index.result.now (and_parts _ _ (row_lawful _ c.loop-place.place _ c.self.invariant.1
    (row_at _ _ c.loop-place.place _ c.index.result.now c.self.invariant.0 c.name-name.ensures (omega (arith, c.loop-place-test.true, c.len-place-end.ensures)) c.index.ensures))).1

pub loop-place-preserved : goal.loop-place-preserved
loop-place-preserved c =
    let r : OperatorRow = record { name = c.name-name.result.now; operator = c.index.result.now } in
    let rows = c.self.view_is in
    let here : slice_get c.args.self.now c.loop-place.place ≡ Some r = ap (λ (rs : List OperatorRow). slice_get rs c.loop-place.place) (sym rows)
    ∙ row_at _ _ c.loop-place.place _ c.index.result.now c.self.invariant.0 c.name-name.ensures (omega (arith, c.loop-place-test.true, c.len-place-end.ensures)) c.index.ensures in
    let lawful = subst (λ (rs : List OperatorRow). are_lawful rs ≡ true) rows c.self.invariant.1 in
    next_put c.args.prolog c.args.self.now c.loop-place.ops c.put.new.self c.loop-place.place r lawful here
    (c.in_ok-put.ensures.ok ∙ ap (λ o. with_operator_row r.name o c.loop-place.ops) c.clause_operator.ensures) c.loop-place.invariant

pub returns-clause-operators : goal.returns-clause-operators
returns-clause-operators c = all_of c.args.prolog c.args.self.now c.loop-place.ops c.loop-place.place
    (omega (arith, c.loop-place-test.false, c.len-place-end.ensures, ap length c.self.view_is, length_rows c.self.inside.names c.self.inside.operators.items c.self.invariant.0)) c.loop-place.invariant

pub returns-clause-frees : goal.returns-clause-frees
returns-clause-frees c = frees c.args.prolog c.args.self.now c.loop-place.ops (returns-clause-operators c)

pub returns-clause-fixed : goal.returns-clause-fixed
returns-clause-fixed c = keeps_fixed c.args.prolog c.args.self.now c.loop-place.ops (returns-clause-operators c)
