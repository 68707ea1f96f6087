use Rattle.std.proofs.Common.{sym, ap, ◌∙◌}
use Rattle.ladr_lex.specs.Lexeme.{lexeme_of}
use Rattle.ladr_lex.specs.declared.token.Token.{Token}
use Rattle.ladr_commands.specs.Wanted.{is_stop}
use Rattle.proof_lines.proofs.Contents.{stopped_at, passes_more_at}
use Rattle.proof_lines.proofs.content.content_end.Goals as goal

pub returns-then-is_stop-clause-content : goal.returns-then-is_stop-clause-content
returns-then-is_stop-clause-content c = (stopped_at c.args.tokens.now c.loop-i.i c.index-tokens-i.result c.loop-i-test.true (ap (λ (t : Token). is_stop (lexeme_of t)) (sym c.index-tokens-i.is) ∙ sym c.if-is_stop.ensures) c.loop-i.invariant).0

pub returns-then-is_stop-clause-behind : goal.returns-then-is_stop-clause-behind
returns-then-is_stop-clause-behind c = (stopped_at c.args.tokens.now c.loop-i.i c.index-tokens-i.result c.loop-i-test.true (ap (λ (t : Token). is_stop (lexeme_of t)) (sym c.index-tokens-i.is) ∙ sym c.if-is_stop.ensures) c.loop-i.invariant).1

pub loop-i-preserved : goal.loop-i-preserved
loop-i-preserved c = passes_more_at c.args.tokens.now c.loop-i.i c.index-tokens-i.result c.loop-i-test.true (ap (λ (t : Token). is_stop (lexeme_of t)) (sym c.index-tokens-i.is) ∙ sym c.if-is_stop.ensures) c.loop-i.invariant
