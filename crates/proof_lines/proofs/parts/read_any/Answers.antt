use Rattle.std.proofs.Common.{◌-◌, length, subst, take, drop}
use Rattle.ladr_lex.specs.Lexeme.{lexemes_of}
use Rattle.proof_lines.specs.ContentTokens.{tables_of}
use Rattle.proof_lines.specs.Parsed.{AreTermsSeen, IsPartFault}
use Rattle.proof_lines.proofs.PartLemmas.{rest_is, behind_read, bad_behind}
use Rattle.proof_words.specs.Faults.{AreFirstWords, IsBadWordToken}
use Rattle.proof_words.specs.Spelling.{line_words}
use Rattle.proof_words.specs.Written.{written_of}
use Rattle.proof_lines.proofs.parts.read_any.Goals as goal

pub returns-clause-read : goal.returns-clause-read
returns-clause-read c =
    let g = tables_of c.args.operators.now in
    let item = lexemes_of (take c.content_end-end.result c.args.tokens.now) in
    let seen = subst (λ b. AreTermsSeen g b item c.in_ok-terms.terms) c.states_formula-by_formula.ensures c.in_ok-terms.ensures.terms in
    let words = subst (λ us. AreFirstWords (line_words c.kind.result) (lexemes_of us) (written_of c.in-Ok.read.0) c.in-Ok.read.1) (rest_is c.content_end-end.result c.args.tokens.now) c.in-Ok.ensures.read in
    behind_read g c.args.tokens.now c.content_end-end.result c.in-Ok.read.1 c.kind.result c.in_ok-terms.terms c.in-Ok.read.0 c.content_end-end.ensures.within seen words

pub returns-in-Err-Bad-clause-fault : goal.returns-in-Err-Bad-clause-fault
returns-in-Err-Bad-clause-fault c =
    let rest = take (length c.args.tokens.now - c.content_end-end.result) (drop c.content_end-end.result c.args.tokens.now) in
    let told = subst (IsPartFault (IsBadWordToken (line_words c.kind.result) (lexemes_of rest))) c.in-Err-Bad.field-0-is c.in-Err-Bad.ensures.fault in
    let bad = subst (λ us. IsBadWordToken (line_words c.kind.result) (lexemes_of us) c.in-Err-Bad.k) (rest_is c.content_end-end.result c.args.tokens.now) told in
    rw c.in-Err-Bad.field-0-is (bad_behind (tables_of c.args.operators.now) c.args.tokens.now c.content_end-end.result c.in-Err-Bad.k c.in_ok-content.content c.kind.result c.content_end-end.ensures.within c.kind.ensures
    c.content_end-end.ensures.content c.content_end-end.ensures.behind c.in_ok-content.ensures.read bad)
