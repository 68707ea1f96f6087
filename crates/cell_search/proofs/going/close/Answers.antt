use Rattle.std.proofs.Common.{◌≡◌, ℕ, true, false, List, length, Option, None, Some, refl, ap, ◌∙◌, subst, arith}
use Rattle.std.specs.Option.{option_map}
use Rattle.std.proofs.lemmas.Option.{none-some, same_Some}
use Rattle.cell_search.specs.Ways.{CoversCell, IsGroupOf}
use Rattle.cell_search.specs.declared.walk.Group.{Group}
use Rattle.mace_cells.specs.Choices.{Decision}
use Rattle.mace_cells.specs.World.{IsRefuted}
use Rattle.cell_search.proofs.Growing.{grows_none, grows_on}
use Rattle.cell_search.proofs.Passing.{goes_nowhere, goes_on}
use Rattle.cell_search.proofs.Closed.{closed_when, closes_by}
use Rattle.cell_search.proofs.Finding.{group_covers}
use Rattle.cell_search.proofs.Gone.{gone_more}
use Rattle.cell_search.proofs.going.close.Goals as goal

pub returns-then-not-go_over-clause-refuted : goal.returns-then-not-go_over-clause-refuted
returns-then-not-go_over-clause-refuted c = λ _. subst (λ (ds : List Decision). IsRefuted c.args.setup.now ds) c.loop-step.invariant.decided (c.if-not-go_over.ensures.refuted refl)

pub returns-then-not-go_over-clause-goes : goal.returns-then-not-go_over-clause-goes
returns-then-not-go_over-clause-goes c =
    goes_on c.args.setup.now c.args.trail.now c.loop-step.trail false c.go_over.new.trail c.loop-step.invariant.goes c.if-not-go_over.ensures.goes

pub loop-step-preserved-else-not-go_over : goal.loop-step-preserved-else-not-go_over
loop-step-preserved-else-not-go_over c = record {
  gone = λ ways well before.
      let w = c.args.setup.now in
      let t = c.loop-step.trail in
      let u = c.go_over.new.trail in
      let entry = c.cell_at-cell.ensures.entry in
      let well_t = (c.loop-step.invariant.goes ways.cells well).1 refl in
      let last = subst (λ (o : Option Group). IsGroupOf c.args.groups.now c.cell_at-cell.result o) (ap (option_map (λ g. g.now)) c.in-Some.is) c.group_of.ensures in
      let covers =
      subst (λ (n : ℕ). CoversCell w c.in-Some.group.now c.cell_at-cell.result n t u (length c.in-Some.group.now.walks.items)) c.loop-step.invariant.many (c.if-not-go_over.ensures.covers refl) in
      gone_more w t u c.loop-step.step entry.0 ways.cells well_t c.loop-step.invariant.board.fresh entry.1 c.if-not-go_over.ensures.goes c.go_over.ensures.grows (c.loop-step.invariant.gone ways well before)
      (group_covers w c.args.groups.now (length c.args.env.now) entry.0.cell t u ways well_t (Some c.in-Some.group.now)
      (subst (λ (k : ℕ). IsGroupOf c.args.groups.now k (Some c.in-Some.group.now)) entry.2 last)
      (λ h same. subst (λ (g : Group). CoversCell w g entry.0.cell (length c.args.env.now) t u (length g.walks.items)) (same_Some _ _ same)
      (subst (λ (k : ℕ). CoversCell w c.in-Some.group.now k (length c.args.env.now) t u (length c.in-Some.group.now.walks.items)) entry.2 covers)));
  grows = grows_on c.args.trail.now c.loop-step.trail c.go_over.new.trail c.loop-step.invariant.grows c.go_over.ensures.grows;
  board = c.go_over.ensures.board;
  decided = c.go_over.ensures.decided ∙ c.loop-step.invariant.decided;
  env = c.go_over.ensures.env;
  goes = goes_on c.args.setup.now c.args.trail.now c.loop-step.trail true c.go_over.new.trail c.loop-step.invariant.goes c.if-not-go_over.ensures.goes;
  many = c.go_over.ensures.many ∙ c.loop-step.invariant.many;
}

pub returns-then-not-go_over-clause-grows : goal.returns-then-not-go_over-clause-grows
returns-then-not-go_over-clause-grows c = grows_on c.args.trail.now c.loop-step.trail c.go_over.new.trail c.loop-step.invariant.grows c.go_over.ensures.grows

pub loop-step-init : goal.loop-step-init
loop-step-init c = record {
  gone = λ ways well before. before;
  grows = grows_none c.args.trail.now;
  board = c.requires.board;
  decided = refl;
  env = c.requires.env;
  goes = goes_nowhere c.args.setup.now c.args.trail.now;
  many = refl;
}

pub returns-clause-closes : goal.returns-clause-closes
returns-clause-closes c = λ ways well before.
    let well_t = (c.loop-step.invariant.goes ways.cells well).1 refl in
    closes_by c.args.setup.now c.args.trail.now true c.loop-step.trail ways.cells well c.loop-step.invariant.goes
    (λ _. closed_when c.args.setup.now c.loop-step.trail c.loop-step.step ways.cells well_t (omega (arith, c.loop-step-test.false, c.len.ensures.len)) (c.loop-step.invariant.gone ways well before))

pub returns-then-not-go_over-clause-closes : goal.returns-then-not-go_over-clause-closes
returns-then-not-go_over-clause-closes c = λ ways well before.
    closes_by c.args.setup.now c.args.trail.now false c.go_over.new.trail ways.cells well
    (goes_on c.args.setup.now c.args.trail.now c.loop-step.trail false c.go_over.new.trail c.loop-step.invariant.goes c.if-not-go_over.ensures.goes) (λ done. absurd (let e : false ≡ true = done in cc))

pub loop-step-preserved : goal.loop-step-preserved
loop-step-preserved c = record {
  gone = λ ways well before.
      let w = c.args.setup.now in
      let t = c.loop-step.trail in
      let entry = c.cell_at-cell.ensures.entry in
      let well_t = (c.loop-step.invariant.goes ways.cells well).1 refl in
      let last = subst (λ (o : Option Group). IsGroupOf c.args.groups.now c.cell_at-cell.result o) (ap (option_map (λ g. g.now)) c.in_default.is) c.group_of.ensures in
      gone_more w t t c.loop-step.step entry.0 ways.cells well_t c.loop-step.invariant.board.fresh entry.1 (goes_nowhere w t) (grows_none t) (c.loop-step.invariant.gone ways well before)
      (group_covers w c.args.groups.now (length c.args.env.now) entry.0.cell t t ways well_t None (subst (λ (k : ℕ). IsGroupOf c.args.groups.now k None) entry.2 last) (λ h same. absurd (none-some _ same)));
  grows = c.loop-step.invariant.grows;
  board = c.loop-step.invariant.board;
  decided = c.loop-step.invariant.decided;
  env = c.loop-step.invariant.env;
  goes = c.loop-step.invariant.goes;
  many = c.loop-step.invariant.many;
}
