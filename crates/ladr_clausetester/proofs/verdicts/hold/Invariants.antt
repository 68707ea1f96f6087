-- the formulas so far are true as told
use Rattle.std.proofs.Common.{take}
use Rattle.fol_problem.specs.Stated.{all_said}
use Rattle.model_tables.specs.Tables.{meaning_of}
use Rattle.ladr_clausetester.specs.Verdicts.{AreTrueAsTold}
use Rattle.ladr_clausetester.proofs.verdicts.hold.Given as goal

abbrev pub invariant-loop-input : goal.invariant-loop-input
invariant-loop-input l = AreTrueAsTold (meaning_of l.tables) (all_said (take l.input-index l.inputs)) l.all.items
