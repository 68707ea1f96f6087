-- A new name goes last.
use Rattle.std.proofs.Common.{◌≡◌, true, false, is_some, not, sym, ap, ◌∙◌}
use Rattle.std.specs.Option.{option_map}
use Rattle.fol_core.specs.NamesOnce.{constant_names, is_in, with_name}
use Rattle.fol_core.specs.declared.symbols.Kind.TheVariants.{Function}
use Rattle.fol_core.proofs.NamesOnceLemmas.{found_among, names_more, there_stays}
use Rattle.fol_core.proofs.name_order.NameOrder.push.Goals as goal

pub returns-then-is_some-clause-is_new : goal.returns-then-is_some-clause-is_new
returns-then-is_some-clause-is_new c =
    sym (ap not (sym (ap (is_in c.args.name.now) c.self.view_is) ∙ sym (found_among c.args.name.now c.self.inside.names c.find.result c.self.invariant c.find.ensures.number) ∙ sym c.is_some.ensures ∙ c.if-is_some.true))

pub returns-then-is_some-clause-ok : goal.returns-then-is_some-clause-ok
returns-then-is_some-clause-ok c =
    there_stays c.args.name.now c.args.self.now
    (sym (ap (is_in c.args.name.now) c.self.view_is) ∙ sym (found_among c.args.name.now c.self.inside.names c.find.result c.self.invariant c.find.ensures.number) ∙ sym c.is_some.ensures ∙ c.if-is_some.true)

pub returns-clause-is_new : goal.returns-clause-is_new
returns-clause-is_new c =
    sym (ap not (sym (ap (is_in c.args.name.now) c.self.view_is) ∙ sym (found_among c.args.name.now c.self.inside.names c.find.result c.self.invariant c.find.ensures.number) ∙ sym c.is_some.ensures ∙ c.if-is_some.false))

pub returns-clause-ok : goal.returns-clause-ok
returns-clause-ok c =
    let new : is_in c.args.name.now (constant_names c.self.inside.names) ≡ false = sym (found_among c.args.name.now c.self.inside.names c.find.result c.self.invariant c.find.ensures.number) ∙ sym c.is_some.ensures ∙ c.if-is_some.false in
    ap constant_names c.in_ok-append.ensures.table ∙ names_more c.self.inside.names c.args.name.now Function new ∙ ap (with_name c.args.name.now) c.self.view_is
