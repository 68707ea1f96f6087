use Rattle.std.proofs.Common.{Bool, ap, subst}
use Rattle.std.proofs.lemmas.Result.{err_from_is_err_and}
use Rattle.std.specs.declared.result.Result.TheVariants.{Err}
use Rattle.ladr_commands.specs.Commands.{commands_of}
use Rattle.ladr_commands.specs.Faults.{IsCommandFault}
use Rattle.ladr_commands.specs.Form.{SaysCommand}
use Rattle.ladr_lex.specs.Lexeme.{lexemes_of}
use Rattle.ladr_problem.specs.Adding.{command, is_tester, with_settings}
use Rattle.ladr_problem.specs.Draft.{sofar_of}
use Rattle.ladr_problem.proofs.Takings.{command_refused, misused}
use Rattle.ladr_problem.proofs.draft.Draft.take_command.Goals as goal

pub returns-in_err-command-clause-refused : goal.returns-in_err-command-clause-refused
returns-in_err-command-clause-refused c =
    let p = err_from_is_err_and c.from_residual.result c.from_residual.ensures.1 in
    let fault = subst (λ (b : Bool). IsCommandFault (commands_of b) (lexemes_of c.args.tokens.now) c.in_err-command.field-0.0) c.is_tester.ensures c.in_err-command.ensures.fault in
    rw (p.1, p.2) (command_refused c.args.program c.args.byte (sofar_of c.args.self.now) (lexemes_of c.args.tokens.now) c.requires c.in_err-command.field-0.0 fault)

pub returns-in_err-take-clause-refused : goal.returns-in_err-take-clause-refused
returns-in_err-take-clause-refused c =
    let says = subst (λ (b : Bool). SaysCommand (commands_of b) (lexemes_of c.args.tokens.now) c.in_ok-command.command) c.is_tester.ensures c.in_ok-command.ensures.read in
    let p = err_from_is_err_and c.from_residual-in_err-take.result c.from_residual-in_err-take.ensures.1 in
    rw (p.1, p.2) (misused c.args.program c.args.byte (sofar_of c.args.self.now) (lexemes_of c.args.tokens.now) c.in_ok-command.command (c.requires, says) c.in_err-take.field-0.0 (λ k e. c.in_err-take.ensures.row k (ap Err e)))

pub returns-clause-ok : goal.returns-clause-ok
returns-clause-ok c =
    let says = subst (λ (b : Bool). SaysCommand (commands_of b) (lexemes_of c.args.tokens.now) c.in_ok-command.command) c.is_tester.ensures c.in_ok-command.ensures.read in
    (command c.in_ok-command.command, (c.requires, says), ap (with_settings (sofar_of c.args.self.now)) c.in_ok-take.ensures.ok)
