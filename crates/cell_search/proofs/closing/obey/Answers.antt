use Rattle.std.proofs.Common.{◌==◌, ℕ, sym, ap, ◌∙◌}
use mathlib.Core.Bool.{beq}
use Rattle.cell_search.proofs.Growing.{grows_none}
use Rattle.cell_search.proofs.Following.{asked_of}
use Rattle.cell_search.proofs.Leaving.{given, refused, beq-false}
use Rattle.cell_search.proofs.closing.obey.Goals as goal

pub returns-in-Some-clause-refuted : goal.returns-in-Some-clause-refuted
returns-in-Some-clause-refuted c = λ no.
    refused c.args.setup.now c.args.trail.now c.args.ask c.in-Some.value (given c.args.setup.now c.args.trail.now c.requires.board c.args.ask.cell c.requires.cell c.in-Some.value c.in-Some.ensures.value) c.requires.due
    (λ same. beq-false _ _ no (ap (λ (n : ℕ). n == c.args.ask.value) c.from.ensures ∙ same))

pub returns-in-Some-clause-follows : goal.returns-in-Some-clause-follows
returns-in-Some-clause-follows c = λ cells well.
    asked_of c.args.setup.now c.args.trail.now cells c.args.ask.cell c.requires.cell c.in-Some.value c.args.ask.value c.args.ask.positive (sym c.in-Some.ensures.value) _
    (ap (λ (n : ℕ). beq (n == c.args.ask.value) c.args.ask.positive) c.from.ensures)

pub returns-in-Some-clause-grows : goal.returns-in-Some-clause-grows
returns-in-Some-clause-grows c = grows_none c.args.trail.now
