use Rattle.std.proofs.Common.{[], sym}
use Rattle.ladr_lex.specs.Lexeme.{lexemes_of}
use Rattle.ladr_reader.specs.Table.{table_of}
use Rattle.proof_lines.proofs.AnsweredClauses.{unbegun}
use Rattle.proof_lines.proofs.content.clause_seen.Goals as goal

pub returns-in-Ok-clause-read : goal.returns-in-Ok-clause-read
returns-in-Ok-clause-read c =
    let g = table_of c.args.ops.now in
    let ts = lexemes_of c.args.tokens.now in
    let h = c.in-Ok.ensures.read in
    (h.0, [], (h.1, unbegun g ts (sym c.if-begins_answer.ensures)), h.2)
