use Rattle.std.proofs.Common.{◌∙◌, sym, arith}
use Rattle.std.proofs.lemmas.Result.{err_from_is_err_and}
use Rattle.std.proofs.lemmas.List.{take_all}
use Rattle.ladr_lex.specs.Lexeme.{lexemes_of}
use Rattle.ladr_reader.specs.Table.{table_of}
use Rattle.ladr_reader.proofs.Runs.{lexemes_length}
use Rattle.ladr_problem.proofs.EndLemmas.{bad_behind, fault_of_term, third}
use Rattle.ladr_problem.proofs.list_items.read_list_item.Goals as goal

pub returns-then-tokens-eq2-clause-read : goal.returns-then-tokens-eq2-clause-read
returns-then-tokens-eq2-clause-read c =
    sym (take_all 2 (lexemes_of c.args.tokens.now) (omega (arith, lexemes_length c.args.tokens.now))) ∙ c.if-not-begins_with_closing.ensures

pub returns-else-tokens-eq2-clause-fault : goal.returns-else-tokens-eq2-clause-fault
returns-else-tokens-eq2-clause-fault c =
    bad_behind c.args.list (table_of c.args.ops.now) (lexemes_of c.args.tokens.now) c.if-not-begins_with_closing.ensures
    (third (lexemes_of c.args.tokens.now) c.if-not-begins_with_closing.ensures (λ e. c.if-tokens-eq2.false (omega (arith, lexemes_length c.args.tokens.now))))

pub returns-in_err-raw-clause-fault : goal.returns-in_err-raw-clause-fault
returns-in_err-raw-clause-fault c =
    let p = err_from_is_err_and c.from_residual.result c.from_residual.ensures.1 in
    rw (p.1, p.2) (fault_of_term c.args.list c.in_default.not-Distinct c.args.ops.now c.rows_are_lawful.ensures (lexemes_of c.args.tokens.now) c.if-not-begins_with_closing.ensures c.in_err-raw.field-0.0 c.in_err-raw.ensures.fault)
