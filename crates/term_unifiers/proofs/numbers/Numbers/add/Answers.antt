-- It stands behind the few, or behind the others, with its place noted.
use Rattle.std.proofs.Common.{◌∙◌, ◌+◌, ◌==◌, ap, arith}
use Rattle.std.proofs.lemmas.Grind.{common_steps}
use Rattle.fol_core.specs.SymbolTable.{first_place}
use Rattle.term_unifiers.proofs.Numbered.{others_more}
use Rattle.term_unifiers.proofs.numbers.Numbers.add.Goals as goal

pub overflow_add-place : goal.overflow_add-place
overflow_add-place c =
    let few = c.self.inside.few in
    let others = c.self.inside.others in
    omega (arith, few.ok.1, few.small, others.ok.1, others.small)

pub invariant_of-self-2 : goal.invariant_of-self-2
invariant_of-self-2 c =
    let few = c.self.inside.few.items in
    let others = c.self.inside.others.items in
    others_more few others c.push_reserved.new.self.items c.self.inside.places.entries c.insert.new.self.entries c.args.x (c.len.result + c.len-2.result) c.self.invariant (ap (first_place (λ y. c.args.x == y)) c.self.view_is ∙ c.requires)
    (grind (arith, common_steps)) (grind (arith, common_steps)) (grind (arith, common_steps))
    c.in_ok-insert.ensures.updates.1 c.in_ok-insert.ensures.updates.2
