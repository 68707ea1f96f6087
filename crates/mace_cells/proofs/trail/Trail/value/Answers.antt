use Rattle.std.proofs.Common.{◌<◌, Option, None, IfNone, length, sym, ap, ◌∙◌, subst, ℕ}
use Rattle.std.proofs.lemmas.List.{get_or_default}
use Rattle.mace_cells.specs.Trails.{Partial, value_in}
use Rattle.mace_cells.proofs.Making.{value_read, room_at}
use Rattle.mace_cells.proofs.trail.Trail.value.Goals as goal

pub returns : goal.returns
returns c =
    let xs = c.self.inside.values.items in
    let es = c.self.inside.entries.list in
    let within = subst (λ (p : Partial). c.args.cell < p.many) (sym c.self.view_is) c.requires in
    let read = c.index.ensures ∙ get_or_default xs c.args.cell c.index.result.now None within in
    record {
      value = read ∙ value_read _ es xs c.args.cell c.self.invariant.values ∙ ap (λ (p : Partial). value_in p.entries c.args.cell) c.self.view_is;
      few =
          subst (λ (p : Partial). IfNone c.index.result.now (length p.entries < p.many)) c.self.view_is
          (subst (λ (o : Option ℕ). IfNone o (length es < length xs)) (sym read) (room_at es xs c.args.cell c.self.invariant.values within));
    }
