use Rattle.std.proofs.Common.{◌≡◌, ◌≤◌, ◌∙◌, ap, subst, length, ◌-◌, arith}
use Rattle.ladr_lex.specs.Lexeme.{lexemes_of}
use Rattle.ladr_commands.specs.Commands.{commands_of}
use Rattle.ladr_commands.specs.Faults.{IsBadCommandToken}
use Rattle.ladr_commands.specs.Form.{form_outcome, reads, stops}
use Rattle.ladr_commands.proofs.Reading.{command_spelled}
use Rattle.ladr_commands.proofs.Spelling.{command_said}
use Rattle.ladr_commands.proofs.Forms.{length-lexemes_of, left_within, first_bad}
use Rattle.ladr_commands.proofs.read.read_command.Goals as goal

pub overflow_sub-result : goal.overflow_sub-result
overflow_sub-result c =
    let e : length c.new-cursor.result ≡ length c.args.tokens.now = ap length c.new-cursor.ensures ∙ length-lexemes_of c.args.tokens.now in
    let l : length c.command.new.cursor ≤ length c.new-cursor.result = left_within (commands_of c.args.tester) _ _ (c.command.ensures.bad (cc)) in
    omega (arith, c.left.ensures)

pub returns-in-Err-Bad-clause-fault : goal.returns-in-Err-Bad-clause-fault
returns-in-Err-Bad-clause-fault c =
    let e : form_outcome (commands_of c.args.tester) c.new-cursor.result ≡ stops c.command.new.cursor = c.command.ensures.bad (cc) in
    let k : length (lexemes_of c.args.tokens.now) - length c.command.new.cursor ≡ length c.args.tokens.now - c.left.result =
    omega (arith, length-lexemes_of c.args.tokens.now, c.left.ensures) in
    let h = first_bad (commands_of c.args.tester) (lexemes_of c.args.tokens.now) c.command.new.cursor (rw c.new-cursor.ensures at e) in
    (subst (λ n. IsBadCommandToken (commands_of c.args.tester) (lexemes_of c.args.tokens.now) n) k h.0, h.1)

pub returns-in-Ok-clause-spelled : goal.returns-in-Ok-clause-spelled
returns-in-Ok-clause-spelled c =
    let e : form_outcome (commands_of c.args.tester) c.new-cursor.result ≡ reads c.in-Ok.command = c.in-Ok.ensures.ok in
    command_spelled c.args.tester (lexemes_of c.args.tokens.now) c.in-Ok.command (rw c.new-cursor.ensures at e)

pub returns-in-Err-Bad-clause-unspelled : goal.returns-in-Err-Bad-clause-unspelled
returns-in-Err-Bad-clause-unspelled c =
    let e : form_outcome (commands_of c.args.tester) c.new-cursor.result ≡ stops c.command.new.cursor = c.command.ensures.bad (cc) in
    let h = first_bad (commands_of c.args.tester) (lexemes_of c.args.tokens.now) c.command.new.cursor (rw c.new-cursor.ensures at e) in
    λ d i. h.1 d (command_said c.args.tester (lexemes_of c.args.tokens.now) d i)
