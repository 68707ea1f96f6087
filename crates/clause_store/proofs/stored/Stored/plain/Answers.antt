-- The atom is the bank's.
use Rattle.std.proofs.Common.{length, subst, sym}
use Rattle.clause_store.specs.Stored.{AreLiteralsIn}
use Rattle.clause_store.proofs.Kept.{atom_within}
use Rattle.clause_store.proofs.stored.Stored.plain.Goals as goal

pub plain-requires : goal.plain-requires
plain-requires c =
    atom_within (length c.args.bank.now) c.deref-literal-items.result.now c.loop-literal.literal-index _ (subst (AreLiteralsIn c.args.bank.now) (sym c.deref-literal-items.ensures.value) c.requires) c.loop-literal-test.true
