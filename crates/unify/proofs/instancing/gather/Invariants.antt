-- The arguments so far were built, unless one lacks.
use Rattle.std.proofs.Common.{take}
use Rattle.unify.specs.Instanced.{AreLoose, TheirsUnless}
use Rattle.unify.proofs.instancing.gather.Given as goal

abbrev pub invariant-loop-term : goal.invariant-loop-term
invariant-loop-term l = record {
  loose : AreLoose l.bank l.bound.items l.pending.items;
  theirs : TheirsUnless l.bank l.bound.items l.context (take l.term-index l.arguments) l.ids.items l.lacks;
}
