use Rattle.std.proofs.Common.{◌≡◌, ℕ, ◌++◌, true, Option, MatchOption, List, length, take, drop, sym, ap, ◌∙◌, subst, arith}
use Rattle.std.specs.List.{slice_index_or}
use Rattle.std.proofs.lemmas.List.{take_at}
use Rattle.cell_choice.specs.Choosing.{IsHighest, IsLimit, IsPicked, index_by, is_up_to}
use Rattle.cell_choice.specs.declared.shape.CellShape.{CellShape}
use Rattle.mace_cells.specs.Numbers.{above_used}
use Rattle.mace_cells.specs.Trails.{Partial, IsBlank, score}
use Rattle.mace_cells.specs.declared.way.Way.{Way}
use Rattle.cell_search.proofs.Preferring.{many_shapes, ranked_behind, scored_behind}
use Rattle.cell_search.specs.Choosing.{IsPickedBehind}
use Rattle.cell_search.specs.Losses.{decided_in}
use Rattle.cell_search.specs.Positions.{BoardPosition}
use Rattle.cell_search.specs.Scores.{is_ranked}
use Rattle.cell_search.proofs.cells.Cells.picked.Goals as goal

pub returns-then-is_ranked-clause-picked : goal.returns-then-is_ranked-clause-picked
returns-then-is_ranked-clause-picked c =
    let a = c.self.inside in
    let used : c.in_use-used.result ≡ above_used a.setup.fixed (decided_in a.setup a.trail.entries) = c.in_use-used.ensures ∙ ap (λ (p : BoardPosition). above_used p.world.fixed (decided_in p.world p.table.entries)) (sym c.self.view_is) in
    let ranked : is_ranked a.setup.way.measure ≡ true = sym (ap (λ (v : Way). is_ranked v.measure) c.way-way.ensures) ∙ sym c.is_ranked.ensures ∙ c.if-is_ranked.true in
    subst (λ (p : BoardPosition). IsPickedBehind p.world p.table (decided_in p.world p.table.entries) c.pick.result) c.self.view_is
    (ranked_behind a.setup a.trail c.self.invariant.board c.in_use-used.result c.pick.result (decided_in a.setup a.trail.entries) used ranked c.self.invariant.searchable
    (subst (λ (v : Way). MatchOption c.pick.result ((k : ℕ) → IsBlank a.trail k → ⊥) (IsPicked (index_by a.trail) a.trail (score a.trail a.trail.ranking.counts) v.candidates c.in_use-used.result)) c.way-way.ensures c.pick.ensures))

pub limit-requires-clause-many : goal.limit-requires-clause-many
limit-requires-clause-many c =
    let a = c.self.inside in
    ap (λ (ss : List CellShape). length ss) c.deref.ensures.value ∙ many_shapes a.setup a.shapes.items c.self.invariant.shapes ∙ sym c.self.invariant.board.many

pub highest-requires-clause-many : goal.highest-requires-clause-many
highest-requires-clause-many c =
    let a = c.self.inside in
    ap (λ (ss : List CellShape). length ss) c.deref-4.ensures.value ∙ many_shapes a.setup a.shapes.items c.self.invariant.shapes ∙ sym c.self.invariant.board.many ∙ sym (ap (λ (t : Partial). t.many) c.score.ensures.same)

pub returns-clause-picked : goal.returns-clause-picked
returns-clause-picked c =
    let a = c.self.inside in
    let used : c.in_use-used.result ≡ above_used a.setup.fixed (decided_in a.setup a.trail.entries) = c.in_use-used.ensures ∙ ap (λ (p : BoardPosition). above_used p.world.fixed (decided_in p.world p.table.entries)) (sym c.self.view_is) in
    let bound : IsLimit (index_by a.trail) a.trail a.setup.way.candidates c.in_use-used.result c.in_ok-limit.limit =
    subst (λ (v : Way). IsLimit (index_by a.trail) a.trail v.candidates c.in_use-used.result c.in_ok-limit.limit) c.way-way.ensures c.in_ok-limit.ensures in
    let new : List ℕ = c.score.new.scores in
    let long : length new ≡ length a.scores.items = c.score.ensures.room ∙ ap (λ (xs : List ℕ). length xs) c.deref_mut-2.ensures.value in
    let kept : take a.scores.len (new ++ drop (length new) a.scores.items) ≡ new = take_at new (drop (length new) a.scores.items) a.scores.len (omega (arith, long, a.scores.ok)) in
    let highest : IsHighest (is_up_to a.trail c.in_ok-limit.limit) (λ j. slice_index_or new j 0) a.trail.many c.highest.result =
    subst (λ (t : Partial). IsHighest (is_up_to t c.in_ok-limit.limit) (λ j. slice_index_or new j 0) t.many c.highest.result) c.score.ensures.same
    (subst (λ (xs : List ℕ). IsHighest (is_up_to c.score.new.trail c.in_ok-limit.limit) (λ j. slice_index_or xs j 0) c.score.new.trail.many c.highest.result) (c.deref-5.ensures.value ∙ kept) c.highest.ensures) in
    subst (λ (p : BoardPosition). IsPickedBehind p.world p.table (decided_in p.world p.table.entries) c.highest.result) c.self.view_is
    (scored_behind a.setup a.trail c.self.invariant.board c.in_use-used.result c.in_ok-limit.limit c.highest.result new (decided_in a.setup a.trail.entries) used bound c.score.ensures.scores highest)
