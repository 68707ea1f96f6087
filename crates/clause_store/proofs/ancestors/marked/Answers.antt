-- One more line is looked at, or none waits.
use Rattle.std.proofs.Common.{◌≡◌, ◌<◌, sym, subst, [], length, arith}
use Rattle.std.proofs.lemmas.List.{nil_from_length}
use Rattle.clause_store.proofs.Marking.{AreOnTheWay, left_to_mark, has_parents, way_goes_on, way_ends, less_is_left}
use Rattle.clause_store.proofs.ancestors.marked.Goals as goal
use Rattle.clause_store.specs.Marks.{stored_parents}

pub loop-m-preserved : goal.loop-m-preserved
loop-m-preserved c =
    way_goes_on (length c.args.lines.now) (stored_parents c.args.lines.now) c.args.n c.in-Some.m c.loop-m.marks.items c.pop.new.self.items c.look_at.new.marks.items c.look_at.new.waiting.items
    (subst (AreOnTheWay (length c.args.lines.now) (stored_parents c.args.lines.now) c.args.n c.loop-m.marks.items) c.in-Some.ensures.items c.loop-m.invariant)
    c.in_ok-look_at.ensures

pub loop-m-smaller : goal.loop-m-smaller
loop-m-smaller c =
    subst (λ w. left_to_mark (length c.args.lines.now) (stored_parents c.args.lines.now) c.look_at.new.marks.items c.look_at.new.waiting.items < left_to_mark (length c.args.lines.now) (stored_parents c.args.lines.now) c.loop-m.marks.items w) (sym c.in-Some.ensures.items)
    (less_is_left (length c.args.lines.now) (stored_parents c.args.lines.now) c.in-Some.m c.loop-m.marks.items c.pop.new.self.items c.look_at.new.marks.items c.look_at.new.waiting.items c.in_ok-look_at.ensures)

pub returns : goal.returns
returns c =
    let none : c.loop-m.waiting.items ≡ [] = nil_from_length c.loop-m.waiting.items (omega (arith, c.in_default.ensures.cases.0, c.loop-m.waiting.ok.0)) in
    way_ends (length c.args.lines.now) (stored_parents c.args.lines.now) c.args.n c.loop-m.marks.items (has_parents _ c.args.lines.now)
    (subst (AreOnTheWay (length c.args.lines.now) (stored_parents c.args.lines.now) c.args.n c.loop-m.marks.items) none c.loop-m.invariant)
