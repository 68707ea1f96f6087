-- What the ways of a group cover.
use Rattle.std.proofs.Common.{◌≡◌, ℕ, ◌+◌, ◌-◌, ◌^◌, ◌<◌, ◌≤◌, true, List, [], ◌∷◌, length, get_or, set, Option, None, Some, inl, inr, refl, sym, ap, ◌∙◌, subst, arith}
use Rattle.std.proofs.lemmas.Bool.{cases_lt}
use Rattle.std.proofs.lemmas.List.{get_or_default, length-set}
use Rattle.fol_core.specs.Literals.{ClauseTree}
use Rattle.fol_core.specs.Tree.{Tree, var, elem, app, Trees, none, more, trees_of}
use Rattle.fol_core.specs.Truth.{Assignment}
use Rattle.fol_core.specs.declared.symbols.Kind.{Kind}
use Rattle.mace_cells.specs.Trails.{Partial}
use Rattle.mace_cells.specs.World.{World, many_cells}
use Rattle.mace_cells.specs.declared.trail.TrailEntry.{TrailEntry}
use Rattle.mace_ground.specs.Instances.{above_variables, above_all_variables, variables_in, assigned_by, IsInstance}
use Rattle.model_tables.specs.Size.{AllBelow}
use Rattle.plain_search.specs.Closing.{told}
use Rattle.cell_search.proofs.Binding.{bound_elements, bound_else, bound_to, in_terms, way_of}
use Rattle.cell_search.proofs.Covering.{cell_later, values_kept}
use Rattle.cell_search.proofs.Obeying.{done_before, narrower_than, obeyed_still, table_of}
use Rattle.cell_search.proofs.Spreading.{clause_room, instance_done}
use Rattle.cell_search.specs.Covering.{HasVariable, HaveVariable, IsClauseAt, IsDone, IsHere, Covers, bound_by, element_of}
use Rattle.cell_search.specs.Following.{AreWellLeft, GoesOver}
use Rattle.cell_search.specs.Full.{HaveVariables}
use Rattle.cell_search.specs.Known.{cell_seen}
use Rattle.cell_search.specs.Marks.{directs}
use Rattle.cell_search.specs.Searchable.{HasAllCells}
use Rattle.cell_search.specs.Viewing.{left_in}
use Rattle.cell_search.specs.Ways.{IsOccurrence, IsOccurrenceIn, IsOccurrenceOf, IsWalkOf, CoversCell}
use Rattle.cell_search.specs.declared.walk.Group.{Group}
use Rattle.cell_search.specs.declared.walk.Occurrence.{Occurrence}
use Rattle.cell_search.specs.declared.walk.Walk.{Walk}

-- the variables of terms are below the least number above them
mutual
  variable_below : (t : Tree) (x : ℕ) → HasVariable x t → x < above_variables t
  variable_below (var y) x h = omega (arith, h)
  variable_below (elem k) x h = absurd h
  variable_below (app s ts) x h = variables_below ts x h

  variables_below : (ts : Trees) (x : ℕ) → HaveVariable x ts → x < above_all_variables ts
  variables_below none x h = absurd h
  variables_below (more t ts) x (inl i) = let less = variable_below t x i in omega (arith, less)
  variables_below (more t ts) x (inr i) = let less = variables_below ts x i in omega (arith, less)

here_of : (w : World) (es : List TrailEntry) (e : Assignment) (kind : Kind) (s : ℕ) (ts : Trees) (k : ℕ) (o : Option Occurrence) → IsOccurrence w.size kind s ts o → cell_seen w es e kind s ts ≡ Some k → IsHere w es e o k
here_of w es e kind s ts k None is h = absurd is
here_of w es e kind s ts k (Some o) is h =
    ap (λ (q : Kind). cell_seen w es e q o.symbol.0 (trees_of o.terms.now)) is.same_kind ∙ ap (λ (q : ℕ). cell_seen w es e kind q (trees_of o.terms.now)) is.same_symbol
    ∙ ap (cell_seen w es e kind s) is.same_terms ∙ h

-- the steps of an occurrence
pub bound_at : (n : ℕ) (kind : Kind) (s : ℕ) (ts : Trees) (p : Option Occurrence) (o : Occurrence) → p ≡ Some o → IsOccurrence n kind s ts p → o.direct.items ≡ directs n ts
bound_at n kind s ts p o is there = let here : IsOccurrenceOf n kind s ts o = subst (IsOccurrence n kind s ts) is there in here.bound

bound_many : (n place : ℕ) (ds : List (ℕ × ℕ)) (env : List ℕ) → length (bound_by n place ds env) ≡ length env
bound_many n place [] env = refl
bound_many n place (d ∷ ds) env = bound_many n place ds (set env d.0 (element_of n place d.1)) ∙ length-set env d.0 (element_of n place d.1)

pub walk_done : (w : World) (walk : Walk) (first k : ℕ) (env : List ℕ) (u v : Partial) (i : ℕ) (c : ClauseTree) (kind : Kind) (s : ℕ) (ts : Trees) (xs : List ℕ)
    → Covers w walk k 0 (bound_by w.size (k - first) (directs w.size ts) env) u v → AllBelow w.size (bound_by w.size (k - first) (directs w.size ts) env) → HasAllCells w → AreWellLeft w u → many_cells w < 2 ^ 32
    → HaveVariables w.clauses (length env) → IsWalkOf w.size i (variables_in c) kind s ts walk → IsOccurrenceIn w first i c kind s ts → IsInstance w.size c xs → cell_seen w u.entries (assigned_by xs) kind s ts ≡ Some k → IsDone w c xs u v
walk_done w walk first k env u v i c kind s ts xs covers below cells well few room way occurs inst here =
    let many = variables_in c in
    let bound = bound_by w.size (k - first) (directs w.size ts) env in
    let as_many : length bound ≡ length env = bound_many w.size (k - first) (directs w.size ts) env in
    let enough : many ≤ length env = clause_room w.clauses (length env) i c room occurs.at.0 occurs.at.1 in
    let above = occurs.variables in
    instance_done w walk k bound u v c xs covers cells well (way_of w.size i many kind s ts walk way (length bound) (omega (arith, as_many, enough)))
    (subst (λ (j : ℕ). IsClauseAt w j c) (sym way.clause) occurs.at) inst below
    (λ x small out. sym (bound_to w.size (k - first) (directs w.size ts) env (assigned_by xs) x (bound_elements w u.entries (assigned_by xs) kind s first occurs.block ts k cells.some few occurs.begins here) (omega (arith, small, enough))
    (inl (bound_else w.size i many kind s ts walk way x small out))))
    (λ x j. let less = variables_below ts x (in_terms w.size i many kind s ts walk way x j) in omega (arith, less, above))
    (here_of w u.entries (assigned_by xs) kind s ts k walk.occurrence way.occurrence here)

-- one way after the other
pub walks_none : (w : World) (group : Group) (k many : ℕ) (t t' : Partial) → CoversCell w group k many t t' 0
walks_none w group k many t t' = λ cells well few room place walk less. absurd (omega (arith, less))

-- what a way binds, where it has an occurrence
abbrev pub IsBoundAs : World → Walk → ℕ → List ℕ → List ℕ → Type 0
IsBoundAs w walk place env old = (kind : Kind) (s : ℕ) (ts : Trees) → IsOccurrence w.size kind s ts walk.occurrence → env ≡ bound_by w.size place (directs w.size ts) old

pub walks_more : (w : World) (group : Group) (k many : ℕ) (t u v : Partial) (n : ℕ) (walk : Walk) (old env : List ℕ) → n < length group.walks.items → walk ≡ get_or group.walks.items n walk → length old ≡ many → AllBelow w.size env → IsBoundAs w walk (k - group.first) env old
    → GoesOver w t true u → CoversCell w group k many t u n → GoesOver w u true v → Covers w walk k 0 env u v → CoversCell w group k many t v (n + 1)
walks_more w group k many t u v n walk old env inside is as_many below bound first before second covers = λ cells well few room place other less there i c kind s ts way occurs xs inst here.
    let well_u : AreWellLeft w u = (first cells well).1 refl in
    let table = table_of w u cells well_u in
    let narrower = narrower_than w u cells well_u v second in
    elim (cases_lt place n) [
      | inl earlier ↦
          obeyed_still (left_in w u) (left_in w v) (told w.size (left_in w t) (assigned_by xs) c) narrower (before cells well few room place other earlier there i c kind s ts way occurs xs inst here)
      | inr now ↦
          let same : place ≡ n = omega (arith, now, less) in
          let one : other ≡ walk = there ∙ ap (λ (m : ℕ). get_or group.walks.items m other) same ∙ get_or_default group.walks.items n other walk inside ∙ sym is in
          let way_here : IsWalkOf w.size i (variables_in c) kind s ts walk = subst (IsWalkOf w.size i (variables_in c) kind s ts) one way in
          let env_is = bound kind s ts way_here.occurrence in
          done_before w t cells well c xs u v first table narrower
          (walk_done w walk group.first k old u v i c kind s ts xs (subst (λ (ys : List ℕ). Covers w walk k 0 ys u v) env_is covers) (subst (AllBelow w.size) env_is below) cells well_u few
          (subst (HaveVariables w.clauses) (sym as_many) room) way_here occurs inst
          (cell_later w t.entries u.entries (values_kept w t u cells well first) (assigned_by xs) kind s ts k here))
    ]

pub walks_all : (w : World) (group : Group) (k many : ℕ) (t u : Partial) (n : ℕ) → length group.walks.items ≤ n → CoversCell w group k many t u n → CoversCell w group k many t u (length group.walks.items)
walks_all w group k many t u n past before = λ cells well few room place walk less. before cells well few room place walk (omega (arith, less, past))
