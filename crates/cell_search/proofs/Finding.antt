-- Each occurrence that is a cell has its way in the group of the cell.
use Rattle.std.proofs.Common.{◌≡◌, ℕ, ◌+◌, ◌^◌, ◌<◌, ◌≤◌, List, length, get_or, Option, None, Some, refl, sym, ap, ◌∙◌, subst, arith}
use Rattle.fol_core.specs.Literals.{ClauseTree}
use Rattle.fol_core.specs.Tree.{Trees}
use Rattle.fol_core.specs.declared.symbols.Kind.{Kind}
use Rattle.mace_cells.specs.Trails.{Partial}
use Rattle.mace_cells.specs.World.{World}
use Rattle.mace_ground.specs.Cells.{Block, found}
use Rattle.mace_ground.specs.Instances.{variables_in, assigned_by, IsInstance}
use Rattle.cell_search.proofs.Avoiding.{HasFew, clause_few}
use Rattle.cell_search.proofs.Firsts.{no_group, same_group, symbol_found}
use Rattle.cell_search.proofs.Grouping.{each_clause}
use Rattle.cell_search.specs.Covering.{IsClauseAt, IsDone}
use Rattle.cell_search.specs.Following.{AreWellLeft}
use Rattle.cell_search.specs.Known.{cell_seen}
use Rattle.cell_search.specs.Ways.{AreWays, CoversCell, EachInClause, HasWalk, HasWalkOf, IsGroupOf}
use Rattle.cell_search.specs.declared.walk.Group.{Group}

pub group_covers : (w : World) (groups : List Group) (many k : ℕ) (t u : Partial) → AreWays w groups many → AreWellLeft w t → (o : Option Group) → IsGroupOf groups k o
    → ((h : Group) → o ≡ Some h → CoversCell w h k many t u (length h.walks.items)) → (i : ℕ) (c : ClauseTree) (xs : List ℕ) → IsClauseAt w i c → IsInstance w.size c xs
    → EachInClause (λ kind s ts. cell_seen w t.entries (assigned_by xs) kind s ts ≡ Some k → IsDone w c xs t u) c
group_covers w groups many k t u ways well o last did i c xs at inst =
    each_clause (HasFew (HasWalkOf w groups i (variables_in c)) (variables_in c)) (λ kind s ts. cell_seen w t.entries (assigned_by xs) kind s ts ≡ Some k → IsDone w c xs t u) covered c
    (clause_few (HasWalkOf w groups i (variables_in c)) (variables_in c) c (omega arith) (ways.walks i c at.0 at))
  where
    covered : (kind : Kind) (s : ℕ) (ts : Trees) → HasFew (HasWalkOf w groups i (variables_in c)) (variables_in c) kind s ts → cell_seen w t.entries (assigned_by xs) kind s ts ≡ Some k → IsDone w c xs t u
    covered kind s ts h here =
        let q = symbol_found w t.entries (assigned_by xs) kind s ts k here in
        by q.0 q.1.0 q.1.1.0 q.1.1.1 q.1.1.2 (h.0 q.0 q.1.0 q.1.1.0) o last did
      where
        by : (first : ℕ) (b : Block) → found w.size w.blocks s ≡ Some (first, b) → first ≤ k → k < first + w.size ^ b.arity → HasWalk w.size groups first i (variables_in c) kind s ts → (o : Option Group) → IsGroupOf groups k o
            → ((g : Group) → o ≡ Some g → CoversCell w g k many t u (length g.walks.items)) → IsDone w c xs t u
        by first b is low high has None none did =
            absurd (no_group w groups ways.cells ways.begin k first b s is low high has.at has.group has.within has.there has.begins none)
        by first b is low high has (Some g) last did =
            let same : has.group ≡ g = same_group w groups ways.cells ways.begin k first b s is low high has.at has.group g has.within has.there has.begins last in
            let begins : first ≡ g.first = sym has.begins ∙ ap (λ (x : Group). x.first) same in
            let inside : has.place < length g.walks.items = subst (λ (x : Group). has.place < length x.walks.items) same has.inside in
            did g refl ways.cells well ways.few ways.room has.place has.walk inside (has.here ∙ ap (λ (x : Group). get_or x.walks.items has.place has.walk) same) i c kind s ts has.way
            (record { at = at; variables = h.1; block = b; begins = is ∙ ap (λ (n : ℕ). Some (n, b)) begins }) xs inst here
