use Rattle.std.proofs.Common.{[], refl, subst}
use Rattle.ladr_lex.specs.Lexeme.{lexemes_of}
use Rattle.ladr_reader.specs.Table.{table_of}
use Rattle.proof_lines.specs.Faults.{IsNoItem, IsNoClause}
use Rattle.proof_lines.specs.Parsed.{IsPartFault}
use Rattle.proof_lines.proofs.AnsweredClauses.{no_clause_none}
use Rattle.proof_lines.proofs.content.read_content.Goals as goal

pub returns-in-Err-Bad-clause_seen-clause-read : goal.returns-in-Err-Bad-clause_seen-clause-read
returns-in-Err-Bad-clause_seen-clause-read c =
    let g = table_of c.args.operators.now.clauses in
    let ts = lexemes_of c.args.tokens.now in
    let bad = subst (IsPartFault (IsNoClause g ts)) c.in-Err-Bad-clause_seen.field-0-is c.in-Err-Bad-clause_seen.ensures.fault in
    let item = c.in-Ok.ensures.item in
    ((item.0, [], (item.1, refl)), λ is. no_clause_none g ts c.in-Err-Bad-clause_seen.field-0-0 bad is.0 is.1 is.2)

pub returns-in-Ok-clause_seen-2-clause-read : goal.returns-in-Ok-clause_seen-2-clause-read
returns-in-Ok-clause_seen-2-clause-read c =
    let bad = subst (IsPartFault (IsNoItem (table_of c.args.operators.now.formulas) (lexemes_of c.args.tokens.now))) c.in-Err-Bad.field-0-is c.in-Err-Bad.ensures.fault in
    (c.in-Ok-clause_seen-2.ensures.read, λ is. bad.1 is.0 is.2.0)
