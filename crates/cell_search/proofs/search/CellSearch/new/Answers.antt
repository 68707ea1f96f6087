use Rattle.std.proofs.Common.{◌≡◌, ℕ, List, length, map, sym, ap, ◌∙◌, subst}
use Rattle.std.proofs.lemmas.List.{length-map}
use Rattle.fol_core.specs.Literals.{ClauseTree}
use Rattle.mace_cells.specs.World.{World}
use Rattle.mace_ground.specs.Instances.{Instances}
use Rattle.cell_search.specs.Covering.{AreWaysThrough}
use Rattle.cell_search.specs.Ways.{HaveWalks}
use Rattle.cell_search.proofs.search.CellSearch.new.Goals as goal

pub new-requires-3-clause-whole : goal.new-requires-3-clause-whole
new-requires-3-clause-whole c =
    let same : c.in_ok-setup.setup.clauses ≡ map (λ (row : ℕ × ClauseTree). row.1) c.deref-2.result.now =
    ap (λ (s : World). s.clauses) c.in_ok-setup.ensures ∙ ap (λ (g : Instances). g.clauses) c.in_ok-ground.ensures ∙ ap (λ (rows : List (ℕ × ClauseTree)). map (λ (row : ℕ × ClauseTree). row.1) rows) (sym c.deref-2.ensures.value) in
    subst (λ (cs : List ClauseTree). AreWaysThrough cs c.in_ok-walks.walks.items) (sym same) c.in_ok-walks.ensures.1

pub new-requires-3-clause-walks : goal.new-requires-3-clause-walks
new-requires-3-clause-walks c =
    let rows = c.deref.result.now in
    let same : c.in_ok-setup.setup.clauses ≡ map (λ (row : ℕ × ClauseTree). row.1) rows =
    ap (λ (s : World). s.clauses) c.in_ok-setup.ensures ∙ ap (λ (g : Instances). g.clauses) c.in_ok-ground.ensures ∙ ap (λ (rs : List (ℕ × ClauseTree)). map (λ (row : ℕ × ClauseTree). row.1) rs) (sym c.deref.ensures.value) in
    let many : length rows ≡ length c.in_ok-setup.setup.clauses = sym (ap (λ (cs : List ClauseTree). length cs) same ∙ length-map rows (λ (row : ℕ × ClauseTree). row.1)) in
    subst (λ (n : ℕ). HaveWalks c.in_ok-setup.setup c.in_ok-groups.groups.items n) many (c.in_ok-groups.ensures.walks (sym same))
