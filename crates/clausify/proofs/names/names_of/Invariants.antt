-- The names of the symbols so far.
use Rattle.std.proofs.Common.{take}
use Rattle.clausify.specs.Names.{HasNames}
use Rattle.clausify.proofs.names.names_of.Given as goal

abbrev pub invariant-loop-number : goal.invariant-loop-number
invariant-loop-number l = HasNames (take l.number l.symbols) l.names.keys
