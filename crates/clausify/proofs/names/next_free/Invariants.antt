-- Numbers that are passed are taken.
use Rattle.std.proofs.Common.{◌≡◌, ◌-◌, length}
use Rattle.clausify.specs.Names.{free_from, next_free}
use Rattle.clausify.proofs.names.next_free.Given as goal

abbrev pub invariant-loop-passed : goal.invariant-loop-passed
invariant-loop-passed l = free_from l.symbols l.letter (length l.symbols - l.passed) l.number ≡ next_free l.symbols l.letter l.last
