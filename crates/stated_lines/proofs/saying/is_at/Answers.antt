-- An input of a number is among all.
use Rattle.std.proofs.Common.{ap, sym, ◌∙◌}
use Rattle.std.specs.Option.{option_map}
use Rattle.answered_lines.specs.Lines.{IsSaidWith}
use Rattle.fol_core.specs.FormulaView.{fol_of}
use Rattle.stated_lines.specs.Held.{asked_input, asked_inputs}
use Rattle.stated_lines.proofs.SaySteps.{among_at}
use Rattle.stated_lines.proofs.saying.is_at.Goals as goal

pub returns-in-Some : goal.returns-in-Some
returns-in-Some c = λ yes.
    among_at (IsSaidWith c.args.goal (fol_of c.args.shape.now) (option_map (λ s. s.now) c.args.asks)) (asked_inputs c.args.inputs.now) c.args.number (asked_input c.in-Some.input.now)
    (ap (option_map (λ i. asked_input i.now)) (sym c.in-Some.is) ∙ c.input_of.ensures) (c.is_said.ensures.0 yes)
