-- A variable that is among the others, or comes to them.
use Rattle.std.proofs.Common.{◌==◌, ◌∙◌, sym, ap, is_some, position, List, ℕ}
use Rattle.clause_limits.proofs.Noting.{noted_there, noted_new}
use Rattle.clause_limits.proofs.numbering.note.Goals as goal

pub returns-then-is_some : goal.returns-then-is_some
returns-then-is_some c = λ _.
    noted_there c.args.x c.args.found.now.items
    (ap (λ (vs : List ℕ). is_some (position (λ y. c.args.x == y) vs)) (sym c.deref.ensures.value) ∙ ap is_some (sym c.first_place.ensures) ∙ sym c.is_some.ensures ∙ c.if-is_some.true)

pub returns : goal.returns
returns c = λ _.
    c.in_ok-push.ensures.items
    ∙ noted_new c.args.x c.args.found.now.items
    (ap (λ (vs : List ℕ). is_some (position (λ y. c.args.x == y) vs)) (sym c.deref.ensures.value) ∙ ap is_some (sym c.first_place.ensures) ∙ sym c.is_some.ensures ∙ c.if-is_some.false)
