-- The cell at the place of the number.
use Rattle.std.proofs.Common.{◌≡◌, ◌<◌, ap, sym, subst, ◌∙◌, length, Some, slice_get}
use Rattle.std.specs.Option.{option_map}
use Rattle.term_bank.specs.Cells.{IsStored}
use Rattle.term_bank.proofs.Building.{full_length, placed}
use Rattle.term_bank.proofs.bank.Bank.cell.Goals as goal

pub unwrap-requires : goal.unwrap-requires
unwrap-requires c =
    let inside : c.args.id.0 < length c.self.inside.cells.entries = subst (λ n. c.args.id.0 < n) (ap length (sym c.self.view_is) ∙ full_length c.self.inside.cells.entries) c.requires in
    c.get_index.ensures.found.1 inside

pub returns : goal.returns
returns c =
    let there : slice_get c.self.inside.cells.entries c.args.id.0 ≡ Some (c.unwrap.result.0.now, c.unwrap.result.1.now) = sym c.get_index.ensures.entry ∙ ap (option_map (λ p. (p.0.now, p.1.now))) c.unwrap.ensures in
    subst (λ bank. IsStored bank c.args.id.0 (c.unwrap.result.0.now, c.unwrap.result.1.now)) c.self.view_is
    (placed c.self.inside.cells.entries c.self.invariant c.args.id.0 (c.unwrap.result.0.now, c.unwrap.result.1.now) there)
