-- It is one of the few, or not.
use Rattle.std.proofs.Common.{◌≡◌, ◌∙◌, ◌==◌, ap, Some, None, position}
use Rattle.fol_core.specs.SymbolTable.{first_place}
use Rattle.term_unifiers.proofs.Numbered.{place_first, place_behind}
use Rattle.term_unifiers.proofs.numbers.Numbers.place.Goals as goal

pub returns-in-Some : goal.returns-in-Some
returns-in-Some c =
    let among : Some c.in-Some.place ≡ position (λ y. c.args.x == y) c.self.inside.few.items = c.in-Some.ensures ∙ ap (position (λ y. c.args.x == y)) c.as_slice.ensures.value in
    place_first c.args.x c.in-Some.place c.self.inside.few.items c.self.inside.others.items among ∙ ap (first_place (λ y. c.args.x == y)) c.self.view_is

pub returns-in-None : goal.returns-in-None
returns-in-None c =
    let among : None ≡ position (λ y. c.args.x == y) c.self.inside.few.items = c.in-None.ensures ∙ ap (position (λ y. c.args.x == y)) c.as_slice.ensures.value in
    c.copied.ensures ∙ c.get.ensures.value ∙ place_behind c.args.x c.self.inside.few.items c.self.inside.others.items c.self.inside.places.entries c.self.invariant among ∙ ap (first_place (λ y. c.args.x == y)) c.self.view_is
