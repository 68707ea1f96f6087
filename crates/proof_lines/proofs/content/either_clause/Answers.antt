use Rattle.std.proofs.Common.{[], subst}
use Rattle.ladr_lex.specs.Lexeme.{lexemes_of}
use Rattle.ladr_reader.specs.Table.{table_of}
use Rattle.proof_lines.specs.Faults.{IsNoMarked}
use Rattle.proof_lines.specs.Parsed.{IsPartFault}
use Rattle.proof_lines.proofs.AnsweredClauses.{no_marked_none, with_some}
use Rattle.proof_lines.proofs.content.either_clause.Goals as goal

pub returns-in-Ok-clause-read : goal.returns-in-Ok-clause-read
returns-in-Ok-clause-read c =
    let g = table_of c.args.ops.now in
    let ts = lexemes_of c.args.tokens.now in
    let h = c.in-Ok.ensures.read in
    (h.0, h.1, with_some g ts h.0 h.1 h.2, h.3)

pub returns-in-Ok-plain_clause-clause-read : goal.returns-in-Ok-plain_clause-clause-read
returns-in-Ok-plain_clause-clause-read c =
    let g = table_of c.args.ops.now in
    let ts = lexemes_of c.args.tokens.now in
    let bad = subst (IsPartFault (IsNoMarked g ts)) c.in-Err-Bad.field-0-is c.in-Err-Bad.ensures.fault in
    let h = c.in-Ok-plain_clause.ensures.read in
    (h.0, [], (h.1, no_marked_none g ts _ bad), h.2)
