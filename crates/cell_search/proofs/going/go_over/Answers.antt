use Rattle.std.proofs.Common.{ℕ, ◌-◌, ◌<◌, ◌≤◌, true, false, List, length, get_or, refl, sym, ap, ◌∙◌, subst}
use Rattle.model_tables.specs.Size.{AllBelow}
use Rattle.cell_search.specs.declared.walk.Walk.{Walk}
use Rattle.cell_search.specs.Covering.{bound_by}
use Rattle.cell_search.specs.Ways.{IsOccurrence}
use Rattle.mace_cells.specs.Choices.{Decision}
use Rattle.mace_cells.specs.World.{IsRefuted}
use Rattle.cell_search.proofs.Growing.{grows_none, grows_on}
use Rattle.cell_search.proofs.Passing.{goes_nowhere, goes_on}
use Rattle.cell_search.proofs.Walking.{bound_at, walks_all, walks_more, walks_none}
use Rattle.cell_search.proofs.going.go_over.Goals.{in-Some, in_default}
use Rattle.cell_search.proofs.going.go_over.Goals as goal

pub returns-then-not-go-clause-refuted : goal.returns-then-not-go-clause-refuted
returns-then-not-go-clause-refuted c = λ _. subst (λ (ds : List Decision). IsRefuted c.args.setup.now ds) c.loop-walk.invariant.decided (c.if-not-go.ensures.refuted refl)

pub returns-then-not-go-clause-goes : goal.returns-then-not-go-clause-goes
returns-then-not-go-clause-goes c =
    goes_on c.args.setup.now c.args.trail.now c.loop-walk.trail false c.go.new.trail c.loop-walk.invariant.goes c.if-not-go.ensures.goes

pub loop-walk-preserved : goal.loop-walk-preserved
loop-walk-preserved c = record {
  covers =
      let ways = c.deref-walk-items.ensures.value in
      walks_more c.args.setup.now c.args.group.now c.args.cell (length c.args.env.now) c.args.trail.now c.loop-walk.trail c.go.new.trail c.loop-walk.walk-index c.walk-item.result c.loop-walk.env c.match-walk.env
      (subst (λ (ws : List Walk). c.loop-walk.walk-index < length ws) ways c.loop-walk-test.true)
      (c.walk-item.is ∙ ap (λ (ws : List Walk). get_or ws c.loop-walk.walk-index c.walk-item.result) ways) c.loop-walk.invariant.many
      (elim c.match-walk.branch [
        | in-Some v ↦ subst (AllBelow c.args.setup.now.size) (sym v.env-is) v.bind.ensures.env
        | in_default v ↦ subst (AllBelow c.args.setup.now.size) (sym v.env-is) c.loop-walk.invariant.env
      ])
      (λ kind s ts is. elim c.match-walk.branch [
        | in-Some v ↦
            v.env-is ∙ v.bind.ensures.bound ∙ ap (λ (p : ℕ). bound_by c.args.setup.now.size p v.in-Some.occurrence.direct.items c.loop-walk.env) v.saturating_sub.ensures
            ∙ ap (λ (ds : List (ℕ × ℕ)). bound_by c.args.setup.now.size (c.args.cell - c.args.group.now.first) ds c.loop-walk.env) (bound_at c.args.setup.now.size kind s ts c.walk-item.result.occurrence v.in-Some.occurrence v.in-Some.is is)
        | in_default v ↦ absurd (subst (IsOccurrence c.args.setup.now.size kind s ts) v.in_default.is is)
      ])
      c.loop-walk.invariant.goes c.loop-walk.invariant.covers c.if-not-go.ensures.goes (c.if-not-go.ensures.covers refl);
  grows = grows_on c.args.trail.now c.loop-walk.trail c.go.new.trail c.loop-walk.invariant.grows c.go.ensures.grows;
  board = c.go.ensures.board;
  decided = c.go.ensures.decided ∙ c.loop-walk.invariant.decided;
  env = c.go.ensures.env;
  goes = goes_on c.args.setup.now c.args.trail.now c.loop-walk.trail true c.go.new.trail c.loop-walk.invariant.goes c.if-not-go.ensures.goes;
  many =
      c.go.ensures.many
      ∙ elim c.match-walk.branch [
        | in-Some v ↦ ap (λ (xs : List ℕ). length xs) v.env-is ∙ v.bind.ensures.many
        | in_default v ↦ ap (λ (xs : List ℕ). length xs) v.env-is
      ]
      ∙ c.loop-walk.invariant.many;
}

pub returns-then-not-go-clause-grows : goal.returns-then-not-go-clause-grows
returns-then-not-go-clause-grows c = grows_on c.args.trail.now c.loop-walk.trail c.go.new.trail c.loop-walk.invariant.grows c.go.ensures.grows

pub loop-walk-init : goal.loop-walk-init
loop-walk-init c = record {
  covers = walks_none c.args.setup.now c.args.group.now c.args.cell (length c.args.env.now) c.args.trail.now c.args.trail.now;
  grows = grows_none c.args.trail.now;
  board = c.requires.board;
  decided = refl;
  env = c.requires.env;
  goes = goes_nowhere c.args.setup.now c.args.trail.now;
  many = refl;
}

pub returns-clause-covers : goal.returns-clause-covers
returns-clause-covers c = λ _.
    walks_all c.args.setup.now c.args.group.now c.args.cell (length c.args.env.now) c.args.trail.now c.loop-walk.trail c.loop-walk.walk-index
    (subst (λ (ws : List Walk). length ws ≤ c.loop-walk.walk-index) c.deref-walk-items.ensures.value c.loop-walk-test.false) c.loop-walk.invariant.covers
