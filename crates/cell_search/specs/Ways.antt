-- Ways through the instances in which an occurrence of a symbol is a certain cell.
use Rattle.std.specs.Prelude.{ℕ, ◌≡◌, ◌<◌, ◌≤◌, ◌^◌, ◌==◌, ◌++◌, MatchBool, List, [], ◌∷◌, Option, None, Some, get_or, length, map}
use Rattle.fol_core.specs.Literals.{ClauseTree, equality}
use Rattle.fol_core.specs.Tree.{Tree, var, elem, app, Trees, none, more, trees_of}
use Rattle.fol_core.specs.declared.symbols.Kind.{Kind}
use Rattle.fol_core.specs.declared.symbols.Kind.TheVariants.{Function, Relation}
use Rattle.mace_cells.specs.Trails.{Partial}
use Rattle.mace_cells.specs.World.{World, many_cells}
use Rattle.mace_ground.specs.Cells.{Block, found}
use Rattle.mace_ground.specs.Instances.{above_all_variables, variables_in, assigned_by, IsInstance}
use Rattle.cell_search.specs.Covering.{IsClauseAt, IsDone}
use Rattle.cell_search.specs.Following.{AreWellLeft}
use Rattle.cell_search.specs.Full.{HaveVariables}
use Rattle.cell_search.specs.Known.{cell_seen}
use Rattle.cell_search.specs.Marks.{marks_of, marked_from, directs}
use Rattle.cell_search.specs.Searchable.{HasAllCells}
use Rattle.cell_search.specs.declared.walk.Group.{Group}
use Rattle.cell_search.specs.declared.walk.Occurrence.{Occurrence}
use Rattle.cell_search.specs.declared.walk.Walk.{Walk}
use Rattle.cell_search.specs.declared.walks.Mark.TheVariants.{Other, Nested}

-- an occurrence of a symbol with these terms, where there are n elements
pub record IsOccurrenceOf (n : ℕ) (kind : Kind) (s : ℕ) (ts : Trees) (o : Occurrence) : Type 0 where
  pub same_kind : o.kind ≡ kind
  pub same_symbol : o.symbol.0 ≡ s
  pub same_terms : trees_of o.terms.now ≡ ts
  pub bound : o.direct.items ≡ directs n ts

abbrev pub IsOccurrence : ℕ → Kind → ℕ → Trees → Option Occurrence → Type 0
IsOccurrence n kind s ts None = ⊥
IsOccurrence n kind s ts (Some o) = IsOccurrenceOf n kind s ts o

-- the way through the instances of the i-th clause, of so many variables, in which it is the cell: the
-- variables that stand in arguments come first, then those that don't stand in it
pub record IsWalkOf (n i many : ℕ) (kind : Kind) (s : ℕ) (ts : Trees) (walk : Walk) : Type 0 where
  pub clause : walk.clause ≡ i
  pub occurrence : IsOccurrence n kind s ts walk.occurrence
  pub first : walk.nested ≡ length (marked_from 0 Nested (marks_of many ts))
  pub order : walk.order.items
      ≡ marked_from 0 Nested (marks_of many ts) ++ marked_from 0 Other (marks_of many ts)

-- among the groups is one that begins with this cell, and has such a way
pub record HasWalk (n : ℕ) (groups : List Group) (first i many : ℕ) (kind : Kind) (s : ℕ) (ts : Trees) : Type 0 where
  pub group : Group
  pub at : ℕ
  pub within : at < length groups
  pub there : group ≡ get_or groups at group
  pub begins : group.first ≡ first
  pub walk : Walk
  pub place : ℕ
  pub inside : place < length group.walks.items
  pub here : walk ≡ get_or group.walks.items place walk
  pub way : IsWalkOf n i many kind s ts walk

-- what holds of each occurrence in a term, and in a clause, where an equation is none
abbrev mutual
  pub EachIn : (Kind → ℕ → Trees → Type 0) → Tree → Type 0
  EachIn P (var x) = Unit {0}
  EachIn P (elem k) = Unit {0}
  EachIn P (app s ts) = P Function s ts × EachOf P ts

  pub EachOf : (Kind → ℕ → Trees → Type 0) → Trees → Type 0
  EachOf P none = Unit {0}
  EachOf P (more t ts) = EachIn P t × EachOf P ts

abbrev pub EachInAtom : (Kind → ℕ → Trees → Type 0) → Tree → Type 0
EachInAtom P (app r ts) = MatchBool (r == equality) (EachOf P ts) (P Relation r ts × EachOf P ts)
EachInAtom P t = Unit {0}

abbrev pub EachInClause : (Kind → ℕ → Trees → Type 0) → ClauseTree → Type 0
EachInClause P [] = Unit {0}
EachInClause P (l ∷ ls) = EachInAtom P l.atom × EachInClause P ls

-- each occurrence of a symbol that has cells has its way, in the group of these cells
abbrev pub HasWalkOf : World → List Group → ℕ → ℕ → Kind → ℕ → Trees → Type 0
HasWalkOf w groups i many kind s ts =
    (first : ℕ) (b : Block) → found w.size w.blocks s ≡ Some (first, b)
    → HasWalk w.size groups first i many kind s ts

abbrev pub HaveWalks : World → List Group → ℕ → Type 0
HaveWalks w groups n =
    (i : ℕ) (c : ClauseTree) → i < n → IsClauseAt w i c
    → EachInClause (HasWalkOf w groups i (variables_in c)) c

-- each group begins where it did, and has the ways that it had where they were, and perhaps more
pub record GroupsGrow (gs hs : List Group) : Type 0 where
  pub many : length hs ≡ length gs
  pub firsts : map (λ (g : Group). g.first) hs ≡ map (λ (g : Group). g.first) gs
  pub each : (at : ℕ) (g h : Group) → at < length gs → g ≡ get_or gs at g → h ≡ get_or hs at h
      → (place : ℕ) (walk : Walk) → place < length g.walks.items
      → walk ≡ get_or g.walks.items place walk
      → (place < length h.walks.items) × (walk ≡ get_or h.walks.items place walk)

-- the cell with which a symbol's cells begin, in front of others
abbrev pub first_with : Option (ℕ × Block) → List ℕ → List ℕ
first_with None ks = ks
first_with (Some q) ks = q.0 ∷ ks

-- the first cells of blocks, as they are found by their symbols
abbrev pub firsts_of : (ℕ → Option (ℕ × Block)) → List Block → List ℕ
firsts_of find [] = []
firsts_of find (b ∷ bs) = first_with (find b.symbol) (firsts_of find bs)

-- there is a group for each block
abbrev pub AreGroups : World → List Group → Type 0
AreGroups w groups =
    map (λ (g : Group). g.first) groups ≡ firsts_of (found w.size w.blocks) w.blocks

-- the last group that begins with this cell or before it; or none begins so early
abbrev pub IsGroupOf : List Group → ℕ → Option Group → Type 0
IsGroupOf groups k None =
    (at : ℕ) (g : Group) → at < length groups → g ≡ get_or groups at g → k < g.first
IsGroupOf groups k (Some h) =
    (at : ℕ)
    × ((at < length groups) × (h ≡ get_or groups at h) × (h.first ≤ k)
    × ((later : ℕ) (g : Group) → at < later → later < length groups → g ≡ get_or groups later g
    → k < g.first))

-- an occurrence in a clause, of a symbol whose cells begin with this one
pub record IsOccurrenceIn (w : World) (first i : ℕ) (c : ClauseTree) (kind : Kind) (s : ℕ) (ts : Trees) : Type 0 where
  pub at : IsClauseAt w i c
  pub variables : above_all_variables ts ≤ variables_in c
  pub block : Block
  pub begins : found w.size w.blocks s ≡ Some (first, block)

-- Each instance is gone over in which an occurrence with one of the first so many ways of a group is
-- the cell.
abbrev pub CoversCell : World → Group → ℕ → ℕ → Partial → Partial → ℕ → Type 0
CoversCell w group k many t t' n =
    HasAllCells w → AreWellLeft w t → many_cells w < 2 ^ 32 → HaveVariables w.clauses many
    → (place : ℕ) (walk : Walk) → place < n → walk ≡ get_or group.walks.items place walk
    → (i : ℕ) (c : ClauseTree) (kind : Kind) (s : ℕ) (ts : Trees)
    → IsWalkOf w.size i (variables_in c) kind s ts walk
    → IsOccurrenceIn w group.first i c kind s ts → (xs : List ℕ) → IsInstance w.size c xs
    → cell_seen w t.entries (assigned_by xs) kind s ts ≡ Some k → IsDone w c xs t t'

-- what a search knows of its ways, and of the elements of variables
pub record AreWays (w : World) (groups : List Group) (many : ℕ) : Type 0 where
  pub cells : HasAllCells w
  pub few : many_cells w < 2 ^ 32
  pub begin : AreGroups w groups
  pub walks : HaveWalks w groups (length w.clauses)
  pub room : HaveVariables w.clauses many
