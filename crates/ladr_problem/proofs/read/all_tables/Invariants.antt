-- the tables of those so far
use Rattle.std.proofs.Common.{◌≡◌, take}
use Rattle.ladr_problem.specs.File.{all_tables}
use Rattle.ladr_problem.proofs.read.all_tables.Given as goal

abbrev pub invariant-loop-place : goal.invariant-loop-place
invariant-loop-place l = l.all.items ≡ all_tables (take l.place l.its) l.symbols
