use Rattle.std.proofs.Common.{sym, arith}
use Rattle.cell_search.proofs.Beginning.{single_same}
use Rattle.cell_search.proofs.Growing.{grows_none}
use Rattle.cell_search.proofs.Leaving.{single}
use Rattle.cell_search.proofs.closing.settle_one.Goals as goal

pub settle-requires-clause-only : goal.settle-requires-clause-only
settle-requires-clause-only c = single c.args.setup.now c.args.trail.now c.requires.board c.args.cell c.requires.cell c.bound.result c.bound.ensures.bound (omega (arith, c.if-bound-ne1.false))

pub returns-in-Some-clause-given : goal.returns-in-Some-clause-given
returns-in-Some-clause-given c = λ _ one. (c.in-Some.field-0, sym c.in-Some.ensures.value)

pub returns-in-None-clause-given : goal.returns-in-None-clause-given
returns-in-None-clause-given c = λ yes one. (0, c.settle.ensures.given yes)

pub returns-in-None-clause-follows : goal.returns-in-None-clause-follows
returns-in-None-clause-follows c = λ cells none.
    single_same c.args.setup.now c.args.trail.now c.args.cell c.settle.result c.settle.new.trail cells c.requires.cell none (sym c.in-None.ensures.value) (omega (arith, c.if-bound-ne1.false, c.bound.ensures.bound)) (c.settle.ensures.follows cells)

pub returns-then-bound-ne1-clause-grows : goal.returns-then-bound-ne1-clause-grows
returns-then-bound-ne1-clause-grows c = grows_none c.args.trail.now

pub returns-in-Some-clause-grows : goal.returns-in-Some-clause-grows
returns-in-Some-clause-grows c = grows_none c.args.trail.now
