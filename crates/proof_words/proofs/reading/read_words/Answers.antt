use Rattle.std.proofs.Common.{◌≡◌, ◌≤◌, ◌∙◌, ap, subst, length, ◌-◌, ℕ, arith}
use Rattle.ladr_lex.specs.Lexeme.{lexemes_of}
use Rattle.proof_words.specs.Faults.{IsBadWordToken, AreFirstWords}
use Rattle.proof_words.specs.Spelling.{line_words, words_outcome, reads, stops}
use Rattle.proof_words.specs.Written.{written_of}
use Rattle.proof_words.proofs.Spellings.{length-lexemes_of, left_within, read_within, first_bad, first_words}
use Rattle.proof_words.proofs.reading.read_words.Goals as goal

pub overflow_sub-result : goal.overflow_sub-result
overflow_sub-result c =
    let e : length c.new-walk.result ≡ length c.args.tokens.now = ap length c.new-walk.ensures ∙ length-lexemes_of c.args.tokens.now in
    let l : length c.line.new.walk ≤ length c.new-walk.result = read_within (line_words c.args.kind) _ _ _ c.in-Ok.ensures.ok in
    omega (arith, c.left.ensures)

pub overflow_sub-result-in-Err-Bad : goal.overflow_sub-result-in-Err-Bad
overflow_sub-result-in-Err-Bad c =
    let e : length c.new-walk.result ≡ length c.args.tokens.now = ap length c.new-walk.ensures ∙ length-lexemes_of c.args.tokens.now in
    let l : length c.line.new.walk ≤ length c.new-walk.result = left_within (line_words c.args.kind) _ _ (c.line.ensures.bad (cc)) in
    omega (arith, c.left-in-Err-Bad.ensures)

pub returns-in-Ok-clause-read : goal.returns-in-Ok-clause-read
returns-in-Ok-clause-read c =
    let e : words_outcome (line_words c.args.kind) c.new-walk.result ≡ reads (written_of c.in-Ok.just) c.line.new.walk = c.in-Ok.ensures.ok in
    let k : length (lexemes_of c.args.tokens.now) - length c.line.new.walk ≡ length c.args.tokens.now - c.left.result =
    omega (arith, length-lexemes_of c.args.tokens.now, c.left.ensures) in
    let h = first_words (line_words c.args.kind) (lexemes_of c.args.tokens.now) c.line.new.walk (written_of c.in-Ok.just) (rw c.new-walk.ensures at e) in
    subst (λ (n : ℕ). AreFirstWords (line_words c.args.kind) (lexemes_of c.args.tokens.now) (written_of c.in-Ok.just) n) k h

pub returns-in-Err-Bad-clause-fault : goal.returns-in-Err-Bad-clause-fault
returns-in-Err-Bad-clause-fault c =
    let e : words_outcome (line_words c.args.kind) c.new-walk.result ≡ stops c.line.new.walk = c.line.ensures.bad (cc) in
    let k : length (lexemes_of c.args.tokens.now) - length c.line.new.walk ≡ length c.args.tokens.now - c.left-in-Err-Bad.result =
    omega (arith, length-lexemes_of c.args.tokens.now, c.left-in-Err-Bad.ensures) in
    let h = first_bad (line_words c.args.kind) (lexemes_of c.args.tokens.now) c.line.new.walk (rw c.new-walk.ensures at e) in
    subst (λ (n : ℕ). IsBadWordToken (line_words c.args.kind) (lexemes_of c.args.tokens.now) n) k h
