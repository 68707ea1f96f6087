-- those so far are covered
use Rattle.std.proofs.Common.{◌≡◌, drop, map}
use Rattle.ladr_problem.specs.File.{first_lacking}
use Rattle.ladr_problem.specs.Sofar.{input_of}
use Rattle.ladr_problem.proofs.read.first_lacking.Given as goal

abbrev pub invariant-loop-input : goal.invariant-loop-input
invariant-loop-input l = first_lacking l.tables (map input_of (drop l.input-index l.fn.inputs)) ≡ first_lacking l.tables (map input_of l.fn.inputs)
