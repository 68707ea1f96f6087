use Rattle.std.proofs.Common.{ℕ, ◌+◌, ◌*◌, ◌<◌, false, length, get_or, sym, ap, ◌∙◌, subst, arith}
use Rattle.std.proofs.lemmas.List.{get_or_default}
use Rattle.mace_cells.specs.Trails.{Partial, is_struck_off}
use Rattle.mace_cells.proofs.Making.{struck_read, in_table}
use Rattle.mace_cells.proofs.trail.Trail.is_crossed.Goals as goal

pub place-at-requires : goal.place-at-requires
place-at-requires c =
    let within = in_table c.self.inside.stride _ _ c.args.cell c.args.value c.self.invariant.flags (subst (λ (p : Partial). c.args.cell < p.many) (sym c.self.view_is) c.requires.cell)
    (subst (λ (p : Partial). c.args.value < p.stride) (sym c.self.view_is) c.requires.value) in
    omega (arith, within, c.self.inside.crossed.ok, c.len.ensures)

pub returns : goal.returns
returns c =
    let xs = c.self.inside.crossed.items in
    let k : ℕ = c.args.cell * c.self.inside.stride + c.args.value in
    let within : k < length xs =
    in_table c.self.inside.stride _ _ c.args.cell c.args.value c.self.invariant.flags (subst (λ (p : Partial). c.args.cell < p.many) (sym c.self.view_is) c.requires.cell)
    (subst (λ (p : Partial). c.args.value < p.stride) (sym c.self.view_is) c.requires.value) in
    c.index.ensures ∙ ap (λ (i : ℕ). get_or xs i c.index.result.now) c.place-at.ensures ∙ get_or_default xs k c.index.result.now false within
    ∙ struck_read _ c.self.inside.crossings.list xs k c.self.invariant.crossed ∙ ap (λ (p : Partial). is_struck_off (c.args.cell * p.stride + c.args.value) p.crossings) c.self.view_is
