-- The text so far, and that of the literal at hand and those to come, is that of all.
use Rattle.std.proofs.Common.{◌≡◌, ◌++◌, drop, map}
use Rattle.fol_core.specs.ClauseView.{literal_of}
use Rattle.ladr_print.specs.ClauseText.{clause_disjunction}
use Rattle.ladr_print.specs.TermText.{clause_variable}
use Rattle.ladr_reader.specs.Table.{table_of}
use Rattle.ladr_print.proofs.clauses.disjunction.Given as goal

abbrev pub invariant-loop-next : goal.invariant-loop-next
invariant-loop-next l =
    l.out.items ++ clause_disjunction (table_of l.ops) l.symbols (clause_variable l.prolog) (literal_of l.literal) (map literal_of (drop l.next-index l.rest))
    ≡ l.fn.out.items ++ clause_disjunction (table_of l.ops) l.symbols (clause_variable l.prolog) (literal_of l.fn.first) (map literal_of l.rest)
