-- The term of the variable's class is there.
use Rattle.std.proofs.Common.{sym, subst}
use Rattle.substitutions.specs.Bindings.{by_bindings}
use Rattle.term_unifiers.specs.Shared.{IsHeld, id_at}
use Rattle.term_unifiers.specs.Solutions.{bindings_of}
use Rattle.term_unifiers.proofs.Held.{put_held}
use Rattle.term_unifiers.proofs.sharing.put_bound.Goals as goal

pub returns-in-Some : goal.returns-in-Some
returns-in-Some c =
    put_held c.args.bank.now c.args.numbers.now (by_bindings (bindings_of c.args.found.now) c.args.x) (id_at c.args.ids.now c.in-Some.root)
    (subst (λ u. IsHeld c.args.bank.now c.args.numbers.now u (id_at c.args.ids.now c.in-Some.root)) (sym c.in-Some.ensures.bound) (c.requires.held.held c.in-Some.root c.in-Some.ensures.ordered))
