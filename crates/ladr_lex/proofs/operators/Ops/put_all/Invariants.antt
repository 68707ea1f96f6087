-- with the rows that are left the table is the one wanted
use Rattle.std.proofs.Common.{◌≡◌, true, drop}
use Rattle.ladr_lex.specs.OperatorView.{with_rows, may_be_put}
use Rattle.ladr_lex.proofs.operators.Ops.put_all.Given as goal

abbrev pub invariant-loop-name : goal.invariant-loop-name
invariant-loop-name l =
    (with_rows (drop l.name-index l.rows) l.self ≡ with_rows l.rows l.fn.self) × (may_be_put (drop l.name-index l.rows) ≡ true)
