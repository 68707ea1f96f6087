use Rattle.std.proofs.Common.{ap}
use Rattle.std.specs.Option.{option_map}
use Rattle.derivation.specs.View.{content_of}
use Rattle.fol_core.specs.FormulaView.{fol_of}
use Rattle.stated_lines.specs.Held.{asked_inputs}
use Rattle.stated_lines.proofs.SaySteps.{stated_where}
use Rattle.stated_lines.proofs.saying.is_stated.Goals as goal

pub returns-else-is_at : goal.returns-else-is_at
returns-else-is_at c =
    stated_where c.args.goal (fol_of c.in-Formula.formula.shape) (content_of c.args.line.now.content) (option_map (λ s. s.now) c.counted-asks.result) (option_map (λ places. places.items) c.args.line.now.notes.asks)
    (asked_inputs c.args.inputs.now) c.is_among.result (ap content_of c.in-Formula.is) c.counted-asks.ensures c.is_among.ensures
