-- The inputs from here on decide.
use Rattle.std.specs.Option.{option_map}
use Rattle.fol_core.specs.FormulaView.{fol_of}
use Rattle.stated_lines.proofs.SaySteps.{Among}
use Rattle.stated_lines.proofs.saying.is_among.Given as goal

abbrev pub invariant-loop-input : goal.invariant-loop-input
invariant-loop-input l = Among l.goal (fol_of l.shape) (option_map (λ s. s.now) l.asks) l.inputs l.input-index
