use Rattle.std.proofs.Common.{◌∙◌, ◌-◌, length, sym, subst, take, drop}
use Rattle.ladr_lex.specs.Lexeme.{lexemes_of}
use Rattle.proof_lines.specs.ContentTokens.{tables_of}
use Rattle.proof_lines.specs.Faults.{IsBadBehindNumber}
use Rattle.proof_lines.specs.Parsed.{IsBehindRead, IsPartFault}
use Rattle.proof_lines.proofs.PartLemmas.{rest_is, first_read, bad_first}
use Rattle.proof_lines.proofs.parts.read_parts.Goals as goal

pub returns-in-Ok-clause-read : goal.returns-in-Ok-clause-read
returns-in-Ok-clause-read c =
    let g = tables_of c.args.operators.now in
    let rest = subst (λ us. IsBehindRead g (lexemes_of us) c.in-Ok.behind) (rest_is 1 c.args.tokens.now) c.in-Ok.ensures.read in
    first_read g c.args.tokens.now c.in-Some.number c.in-Ok.behind (sym c.first_number.ensures.number ∙ c.in-Some.is) rest

pub returns-in-Err-Bad-clause-fault : goal.returns-in-Err-Bad-clause-fault
returns-in-Err-Bad-clause-fault c =
    let g = tables_of c.args.operators.now in
    let slice = take (length c.args.tokens.now - 1) (drop 1 c.args.tokens.now) in
    let told = subst (IsPartFault (IsBadBehindNumber g (lexemes_of slice))) c.in-Err-Bad.field-0-is c.in-Err-Bad.ensures.fault in
    let bad = subst (λ us. IsBadBehindNumber g (lexemes_of us) c.in-Err-Bad.k) (rest_is 1 c.args.tokens.now) told in
    bad_first g c.args.tokens.now c.in-Some.number c.in-Err-Bad.k (sym c.first_number.ensures.number ∙ c.in-Some.is) bad
