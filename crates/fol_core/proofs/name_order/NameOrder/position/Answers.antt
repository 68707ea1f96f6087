-- The place among the names that are kept.
use Rattle.std.proofs.Common.{Some, None, sym, ap, ◌∙◌}
use Rattle.std.specs.Option.{option_map}
use Rattle.fol_core.specs.NamesOnce.{place_in}
use Rattle.fol_core.specs.declared.symbols.Sym.{Sym}
use Rattle.fol_core.proofs.NamesOnceLemmas.{same_place}
use Rattle.fol_core.proofs.name_order.NameOrder.position.Goals as goal

pub returns-in-Some : goal.returns-in-Some
returns-in-Some c =
    sym (ap (option_map (λ (s : Sym). s.0)) c.in-Some.is) ∙ c.find.ensures.number ∙ same_place c.args.name.now c.self.inside.names c.self.invariant
    ∙ ap (place_in c.args.name.now) c.self.view_is

pub returns-in-None : goal.returns-in-None
returns-in-None c =
    sym (ap (option_map (λ (s : Sym). s.0)) c.in-None.is) ∙ c.find.ensures.number ∙ same_place c.args.name.now c.self.inside.names c.self.invariant
    ∙ ap (place_in c.args.name.now) c.self.view_is
