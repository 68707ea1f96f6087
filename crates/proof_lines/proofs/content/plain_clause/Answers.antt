use Rattle.std.proofs.Common.{◌≡◌, ◌∙◌, inr, false, [], ap, sym}
use Rattle.fol_core.specs.RawView.{raw_list}
use Rattle.ladr_lex.specs.Lexeme.{lexemes_of}
use Rattle.ladr_reader.specs.Capped.{disjuncts}
use Rattle.ladr_reader.specs.Table.{table_of}
use Rattle.proof_lines.specs.Literals.{read_as_clause}
use Rattle.proof_lines.proofs.AnsweredClauses.{plain_token}
use Rattle.proof_lines.proofs.Clauses.{deep_literals, far_clause}
use Rattle.proof_lines.proofs.content.plain_clause.Goals as goal

pub returns-else-read_as_clause-clause-fault : goal.returns-else-read_as_clause-clause-fault
returns-else-read_as_clause-clause-fault c =
    let no : read_as_clause (raw_list c.in-Ok.literals.items) ≡ false =
    ap (λ ls. read_as_clause (raw_list ls)) (sym c.deref.ensures.value) ∙ sym c.if-read_as_clause.ensures in
    plain_token (table_of c.args.ops.now) c.args.tokens.now c.in-Ok.ensures.read.0 c.in-Ok.literals.items c.in-Ok.ensures.read.1 c.in-Ok.ensures.read.2 c.in-Ok.ensures.shallow no

pub returns-in-Err-Deep-clause-read : goal.returns-in-Err-Deep-clause-read
returns-in-Err-Deep-clause-read c =
    let g = table_of c.args.ops.now in
    let ts = lexemes_of c.args.tokens.now in
    let far = far_clause g ts c.in-Err-Deep.field-0 c.in-Err-Deep.field-0-is c.in-Err-Deep.ensures.fault in
    (far.0, inr far.1, deep_literals (disjuncts far.0) far.1.1)
