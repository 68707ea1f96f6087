-- The precedence of a term as it is printed.
use Rattle.std.specs.Prelude.{ℕ, ◌==◌, Option, Some, None, if◌then◌else◌}
use Rattle.fol_core.specs.RawTree.{RawTree, named, quantified}
use Rattle.ladr_lex.specs.declared.operators.Operator.{Operator}
use Rattle.ladr_lex.specs.declared.operators.OperatorKind.{OperatorKind}
use Rattle.ladr_reader.specs.Table.{OperatorTable}
pub use Rattle.ladr_reader.specs.HasText.{is_infix, raws_count}

-- how many arguments an operator has
abbrev pub arity : OperatorKind → ℕ
arity k = if is_infix k then 2 else 1

-- an operator with its arguments has its own precedence, any other name 0
abbrev pub own_precedence : Option Operator → ℕ → ℕ
own_precedence None n = 0
own_precedence (Some o) n = if n == arity o.kind then o.precedence else 0

abbrev pub precedence : OperatorTable → RawTree → ℕ
precedence g (named s ts) = own_precedence (g.op s) (raws_count ts)
precedence g (quantified q x t) = 750
