-- A variable by both halves of its number.
use Rattle.std.proofs.Common.{◌∙◌, ap}
use Rattle.term_unifiers.specs.Shapes.{variable}
use Rattle.term_unifiers.proofs.arena.view.Goals as goal

pub returns-in-Variable : goal.returns-in-Variable
returns-in-Variable c = ap variable c.whole.ensures ∙ c.in-Variable.ensures.shape
