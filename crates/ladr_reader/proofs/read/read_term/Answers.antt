use Rattle.std.proofs.Common.{ap, ◌∙◌, arith}
use Rattle.std.proofs.lemmas.Result.{err_from_is_err_and}
use Rattle.ladr_lex.specs.declared.limits.TheConstants.{MOST_LEVELS}
use Rattle.ladr_lex.specs.Lexeme.{lexemes_of}
use Rattle.ladr_reader.specs.Capped.{whole_of}
use Rattle.ladr_reader.specs.Table.{table_of}
use Rattle.ladr_reader.proofs.Levels.{whole_built}
use Rattle.ladr_reader.proofs.Runs.{answered, deep_as}
use Rattle.ladr_reader.proofs.read.read_term.Goals as goal

pub returns-in_err-most_open-clause-fault : goal.returns-in_err-most_open-clause-fault
returns-in_err-most_open-clause-fault c =
    let p = err_from_is_err_and c.from_residual.result c.from_residual.ensures.1 in
    rw (p.1, p.2) (deep_as (λ t d. omega arith) _ _ _ c.in_err-most_open.ensures.fault)

pub returns : goal.returns
returns c =
    let read = c.in_ok-most_open.ensures.read in
    let tree = c.in_ok-tree.ensures ∙ ap (whole_of MOST_LEVELS) read.term_is ∙ whole_built MOST_LEVELS read.tree in
    let answer = answered (table_of c.args.ops.now) (lexemes_of c.args.tokens.now) read.tree c.in_ok-most_open.most_open c.shallow.result read.item read.most_is (c.shallow.ensures.ok read.tree tree) (c.shallow.ensures.err read.tree tree) in
    record { read = answer.0; shallow = answer.1; fault = answer.2 }
