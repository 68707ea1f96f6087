-- The text so far, and that of the terms to come, is that of all.
use Rattle.std.proofs.Common.{◌≡◌, ◌++◌, drop}
use Rattle.fol_core.specs.TermView.{tree_list}
use Rattle.fol_core.specs.Tree.{trees_of}
use Rattle.ladr_lex.specs.ClauseNames.{clause_variable}
use Rattle.ladr_print.specs.RawText.{further, printed_all}
use Rattle.ladr_print.specs.TermText.{terms_raw}
use Rattle.ladr_reader.specs.Table.{table_of}
use Rattle.proof_print.proofs.answered.add_terms.Given as goal

abbrev pub invariant-loop-term : goal.invariant-loop-term
invariant-loop-term l =
    l.out.items ++ further (printed_all (table_of l.ops) (terms_raw l.symbols (clause_variable l.prolog) (trees_of (tree_list (drop l.term-index l.terms)))))
    ≡ l.fn.out.items ++ further (printed_all (table_of l.ops) (terms_raw l.symbols (clause_variable l.prolog) (trees_of (tree_list l.terms))))
