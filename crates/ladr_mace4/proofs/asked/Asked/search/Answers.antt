use Rattle.std.proofs.Common.{◌≡◌, ℕ, ◌≤◌, IfOk, ap, sym, subst, ◌∙◌}
use Rattle.cell_search.specs.Courses.{beginning}
use Rattle.cell_search.specs.Searchable.{HasAllCells}
use Rattle.fol_core.specs.Occurs.{size_needed}
use Rattle.fol_problem.specs.Stated.{Stated, stated_of}
use Rattle.ladr_cells.specs.Worlds.{world_for, ground_size}
use Rattle.mace_cells.specs.World.{World}
use Rattle.model_tables.specs.Size.{formulas_of}
use Rattle.ladr_mace4.proofs.AskedWorld.{world_is, ground_is}
use Rattle.ladr_mace4.proofs.asked.Asked.search.Goals as goal

pub new-requires-clause-count : goal.new-requires-clause-count
new-requires-clause-count c =
    let a = c.self.inside in
    let h = c.self.invariant in
    let n = c.args.size in
    let p = stated_of a.problem.now in
    let same = ground_is p a.symbols a.clauses n h.symbols h.clauses h.witnesses h.used in
    let asked = ap (ground_size n) c.self.view_is in
    subst (λ (k : ℕ). k ≤ 50000000) (sym (same ∙ asked)) c.requires.count

pub new-requires-clause-searchable : goal.new-requires-clause-searchable
new-requires-clause-searchable c =
    let a = c.self.inside in
    let h = c.self.invariant in
    let n = c.args.size in
    let p = stated_of a.problem.now in
    let needed : size_needed (formulas_of p) ≤ n = subst (λ (q : Stated). size_needed (formulas_of q) ≤ n) (sym c.self.view_is) c.requires.needed in
    subst HasAllCells (sym (world_is p a.symbols a.clauses n h.symbols h.clauses h.witnesses h.used c.args.way h.numeral)) (c.cells_for_all.ensures p n c.args.way h.fits c.requires.some needed h.few h.few_witnesses)

pub returns : goal.returns
returns c =
    let a = c.self.inside in
    let h = c.self.invariant in
    let n = c.args.size in
    let p = stated_of a.problem.now in
    let same = world_is p a.symbols a.clauses n h.symbols h.clauses h.witnesses h.used c.args.way h.numeral ∙ ap (λ (q : Stated). world_for q n c.args.way) c.self.view_is in
    subst (λ (w : World). IfOk c.new.result (λ s. s ≡ beginning w c.args.stop)) same c.new.ensures
