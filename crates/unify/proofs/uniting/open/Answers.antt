-- Two nodes by their heads.
use Rattle.std.proofs.Common.{sym}
use Rattle.unify.proofs.Classes.{link_spots, are_open, counts_clash, never_from, never_to}
use Rattle.unify.proofs.uniting.open.Goals as goal

pub node-requires : goal.node-requires
node-requires c = (link_spots c.args.bank.now c.args.work.now c.args.link c.requires).0.within

pub node-requires-2 : goal.node-requires-2
node-requires-2 c = (link_spots c.args.bank.now c.args.work.now c.args.link c.requires).1.within

pub returns-then-left-right-clause-joins : goal.returns-then-left-right-clause-joins
returns-then-left-right-clause-joins c =
    counts_clash c.args.bank.now c.args.work.now c.args.link.from c.args.link.to c.in-App-App.f.0 c.in-App-App.g.0 c.in-App-App.left.now c.in-App-App.right.now
    (sym c.in-App-App.ensures.tree) (sym c.in-App-App.ensures'.tree) (λ e. c.if-left-right.true e)

pub open_each-requires : goal.open_each-requires
open_each-requires c =
    are_open c.args.bank.now c.args.work.now c.args.link c.in-App-App.f.0 c.in-App-App.g.0 c.in-App-App.left.now c.in-App-App.right.now c.requires
    c.in-App-App.ensures.tree c.in-App-App.ensures'.tree c.in-App-App.ensures.below c.in-App-App.ensures'.below c.if-f-g.false c.if-left-right.false

pub returns-in-Var-default-clause-joins : goal.returns-in-Var-default-clause-joins
returns-in-Var-default-clause-joins c = λ u f e. never_from c.args.bank.now c.args.work.now c.args.link _ c.requires (sym c.in-Var-default.ensures.tree)

pub returns-in-Elem-Var-clause-joins : goal.returns-in-Elem-Var-clause-joins
returns-in-Elem-Var-clause-joins c = λ u f e. never_to c.args.bank.now c.args.work.now c.args.link _ c.requires (sym c.in-Elem-Var.ensures'.tree)

pub returns-in-App-Var-clause-joins : goal.returns-in-App-Var-clause-joins
returns-in-App-Var-clause-joins c = λ u f e. never_to c.args.bank.now c.args.work.now c.args.link _ c.requires (sym c.in-App-Var.ensures'.tree)
