-- What is to come is what was to come.
use Rattle.std.proofs.Common.{drop}
use Rattle.fol_core.specs.EntryView.{some_over}
use Rattle.fol_core.specs.FormulaView.{fol_of}
use Rattle.clausify.specs.Made.{LeadsWork}
use Rattle.clausify.proofs.inputs.begin_all.Given as goal

abbrev pub invariant-loop-place : goal.invariant-loop-place
invariant-loop-place l = LeadsWork l.symbols l.fn.work l.work (some_over l.variables (fol_of l.shape)) (some_over (drop l.place l.variables) (fol_of l.shape))
