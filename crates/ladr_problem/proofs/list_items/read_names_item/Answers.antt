use Rattle.std.proofs.lemmas.Result.{err_from_is_err_and}
use Rattle.ladr_lex.specs.Lexeme.{lexemes_of}
use Rattle.ladr_reader.specs.Table.{table_of}
use Rattle.ladr_problem.proofs.EndLemmas.{bad_word, fault_of_names}
use Rattle.ladr_problem.proofs.list_items.read_names_item.Goals as goal

pub returns-then-begins_with_end_word-clause-fault :
    goal.returns-then-begins_with_end_word-clause-fault
returns-then-begins_with_end_word-clause-fault c = bad_word (table_of c.args.ops.now) (lexemes_of c.args.tokens.now) c.if-begins_with_end_word.ensures c.requires

pub returns-in_err-names-clause-fault : goal.returns-in_err-names-clause-fault
returns-in_err-names-clause-fault c =
    let p = err_from_is_err_and c.from_residual.result c.from_residual.ensures.1 in
    rw (p.1, p.2) (fault_of_names (table_of c.args.ops.now) (lexemes_of c.args.tokens.now) c.if-begins_with_end_word.ensures c.in_err-names.field-0.0 c.in_err-names.ensures.fault)
