-- The argument is another one, if it is there.
use Rattle.std.proofs.Common.{◌-◌, length, set, sym, ap, arith, subst}
use Rattle.shared_clauses.specs.Ways.{IsChanged}
use Rattle.substitutions.specs.Paths.{with_part}
use Rattle.term_bank.specs.Bank.{tree_at}
use Rattle.shared_clauses.proofs.WaySteps.{changed_there, same_past, same_zero}
use Rattle.shared_clauses.proofs.paths.changed.Goals as goal

pub returns-then-number-eq0 : goal.returns-then-number-eq0
returns-then-number-eq0 c = same_zero c.args.bank.now c.args.id.0 c.in-App.f.0 c.args.number c.args.new c.in-App.arguments.now c.in-App.ensures.tree c.requires.id c.in-App.ensures.below c.if-number-eq0.true

pub returns-then-number-len : goal.returns-then-number-len
returns-then-number-len c =
    let same = ap length c.in_ok-all-in-App.ensures.items in
    same_past c.args.bank.now c.args.id.0 c.in-App.f.0 c.args.number c.args.new c.in-App.arguments.now c.in-App.ensures.tree c.requires.id c.in-App.ensures.below (omega (arith, same, c.if-number-len.true, c.len.ensures, c.in_ok-all-in-App.all.ok.0))

pub returns-else-number-len : goal.returns-else-number-len
returns-else-number-len c =
    let same = ap length c.in_ok-all-in-App.ensures.items in
    subst (λ l. IsChanged c.args.bank.now (with_part (λ u. tree_at c.args.bank.now c.args.new.0) (tree_at c.args.bank.now c.args.id.0) c.args.number) c.in-App.f.0 (set l (c.args.number - 1) c.args.new)) (sym c.in_ok-all-in-App.ensures.items)
    (changed_there c.args.bank.now c.args.id.0 c.in-App.f.0 c.args.number c.args.new c.in-App.arguments.now c.in-App.ensures.tree c.requires.id c.in-App.ensures.below c.requires.new c.if-number-eq0.false (omega (arith, same, c.if-number-len.false, c.len.ensures, c.in_ok-all-in-App.all.ok.0)))
