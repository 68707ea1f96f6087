use Rattle.std.proofs.Common.{◌≡◌, Bool, true, false, not, refl, subst, take}
use Rattle.ladr_lex.specs.Lexeme.{lexemes_of}
use Rattle.proof_lines.specs.ContentTokens.{tables_of}
use Rattle.proof_lines.specs.Parsed.{AreTermsSeen}
use Rattle.proof_lines.specs.declared.content.Terms.TheVariants.{Clause}
use Rattle.proof_lines.proofs.PartLemmas.{rest_is, behind_read}
use Rattle.proof_words.specs.Faults.{AreFirstWords}
use Rattle.proof_words.specs.Spelling.{line_words}
use Rattle.proof_words.specs.Written.{written_of, written_first, states_formula}
use Rattle.proof_words.specs.declared.names.ContentKind.TheVariants as kind
use Rattle.proof_lines.proofs.parts.read_behind.Goals as goal

-- words of a clause state no formula
denied : (b : Bool) → not b ≡ true → false ≡ b
denied true e = absurd cc
denied false e = refl

pub returns-in-Ok-clause_seen-clause-read : goal.returns-in-Ok-clause_seen-clause-read
returns-in-Ok-clause_seen-clause-read c =
    let g = tables_of c.args.operators.now in
    let end = c.content_end-end.result in
    let terms = Clause c.in-Ok-clause_seen.clause in
    let by_formula = states_formula (written_first c.in-Ok.just.first) in
    let seen = subst (λ b. AreTermsSeen g b (lexemes_of (take end c.args.tokens.now)) terms) (denied by_formula c.in-Ok.ensures.suits) c.in-Ok-clause_seen.ensures.read in
    let words = subst (λ us. AreFirstWords (line_words kind.Clause) (lexemes_of us) (written_of c.in-Ok.just) c.in-Ok.len) (rest_is end c.args.tokens.now) c.in-Ok.ensures.read in
    behind_read g c.args.tokens.now end c.in-Ok.len kind.Clause terms c.in-Ok.just c.content_end-end.ensures.within seen words
