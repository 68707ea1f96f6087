-- What a way covers, for the instances of its clause.
use Rattle.std.proofs.Common.{◌≡◌, ℕ, zero, suc, ◌+◌, ◌<◌, ◌≤◌, true, List, [], ◌∷◌, length, get_or, slice_index, inl, inr, refl, sym, ◌∙◌, subst, arith}
use Rattle.std.specs.List.{range_with_len}
use Rattle.std.proofs.lemmas.Bool.{cases_lt}
use Rattle.fol_core.specs.Literals.{ClauseTree}
use Rattle.mace_cells.specs.Trails.{Partial}
use Rattle.mace_cells.specs.World.{World}
use Rattle.mace_ground.specs.Instances.{variables_in, assigned_by, IsInstance}
use Rattle.model_tables.specs.Size.{AllBelow}
use Rattle.plain_search.specs.Closing.{Told, told}
use Rattle.plain_search.specs.Lefts.{IsAmong}
use Rattle.plain_search.specs.Orders.{Obeys}
use Rattle.plain_search.proofs.Solved.{among_range}
use Rattle.cell_search.proofs.Covering.{here_alike}
use Rattle.cell_search.proofs.Crossing.{range_below}
use Rattle.cell_search.proofs.Instances.{told_alike}
use Rattle.cell_search.proofs.Obeying.{done_before, narrower_than, obeyed_still, table_of}
use Rattle.cell_search.specs.Covering.{IsClauseAt, IsDone, IsHere, IsIn, IsWay, Covers, IsWholeWay, AreWholeWays, AreDoneBefore}
use Rattle.cell_search.specs.Following.{AreWellLeft, GoesOver}
use Rattle.cell_search.specs.Full.{HaveVariables}
use Rattle.cell_search.specs.Searchable.{HasAllCells}
use Rattle.cell_search.specs.Viewing.{left_in}
use Rattle.cell_search.specs.declared.walk.Walk.{Walk}

-- elements in front of others
abbrev spread : List ℕ → List ℕ → List ℕ
spread [] ys = ys
spread (x ∷ xs) [] = x ∷ spread xs []
spread (x ∷ xs) (y ∷ ys) = x ∷ spread xs ys

spread_low : (xs ys : List ℕ) (i : ℕ) → i < length xs → slice_index (spread xs ys) i ≡ slice_index xs i
spread_low [] ys i h = absurd (omega (arith, h))
spread_low (x ∷ xs) [] zero h = refl
spread_low (x ∷ xs) [] (suc i) h = spread_low xs [] i (omega (arith, h))
spread_low (x ∷ xs) (y ∷ ys) zero h = refl
spread_low (x ∷ xs) (y ∷ ys) (suc i) h = spread_low xs ys i (omega (arith, h))

spread_high : (xs ys : List ℕ) (i : ℕ) → length xs ≤ i → slice_index (spread xs ys) i ≡ slice_index ys i
spread_high [] ys i h = refl
spread_high (x ∷ xs) [] zero h = absurd (omega (arith, h))
spread_high (x ∷ xs) [] (suc i) h = spread_high xs [] i (omega (arith, h))
spread_high (x ∷ xs) (y ∷ ys) zero h = absurd (omega (arith, h))
spread_high (x ∷ xs) (y ∷ ys) (suc i) h = spread_high xs ys i (omega (arith, h))

spread_below : (n : ℕ) (xs ys : List ℕ) → AllBelow n xs → AllBelow n ys → AllBelow n (spread xs ys)
spread_below n [] ys a b = b
spread_below n (x ∷ xs) [] a b = (a.0, spread_below n xs [] a.1 tt)
spread_below n (x ∷ xs) (y ∷ ys) a b = (a.0, spread_below n xs ys a.1 b.1)

-- an instance in which the occurrence is the cell, where the variables outside the way have their elements
pub instance_done : (w : World) (walk : Walk) (k : ℕ) (env : List ℕ) (u v : Partial) (c : ClauseTree) (xs : List ℕ) → Covers w walk k 0 env u v → HasAllCells w → AreWellLeft w u → IsWay walk (length env)
    → IsClauseAt w walk.clause c → IsInstance w.size c xs → AllBelow w.size env → ((x : ℕ) → x < variables_in c → (IsAmong x walk.order.items → ⊥) → slice_index xs x ≡ slice_index env x)
    → ((x : ℕ) → IsIn x walk.occurrence → x < variables_in c) → IsHere w u.entries (assigned_by xs) walk.occurrence k → IsDone w c xs u v
instance_done w walk k env u v c xs covers cells well way is inst below agree own here =
    let many : length xs ≡ variables_in c = inst.0 in
    let ys = spread xs env in
    let low : (x : ℕ) → x < variables_in c → slice_index xs x ≡ slice_index ys x = λ x h. sym (spread_low xs env x (omega (arith, h, many))) in
    let there = here_alike w u.entries (assigned_by xs) (assigned_by ys) walk.occurrence k (λ x i. low x (own x i)) here in
    let done : IsDone w c ys u v = covers cells well way c is ys (spread_below w.size xs env inst.1 below)
    (λ x out. elim (cases_lt x (length xs)) [
      | inl inside ↦ spread_low xs env x inside ∙ agree x (omega (arith, inside, many)) out
      | inr past ↦ spread_high xs env x past
    ]) there in
    subst (λ (o : Told). Obeys (left_in w v) o) (sym (told_alike w.size (left_in w u) (assigned_by xs) (assigned_by ys) c low)) done

-- the ways through all instances, one after the other
among_whole : (x n : ℕ) → x < n → IsAmong x (range_with_len 0 n)
among_whole x n h = among_range x 0 n (omega arith) (omega (arith, h))

pub clause_room : (cs : List ClauseTree) (n i : ℕ) (c : ClauseTree) → HaveVariables cs n → i < length cs → c ≡ get_or cs i c → variables_in c ≤ n
clause_room [] n i c have h is = absurd (omega (arith, h))
clause_room (d ∷ cs) n zero c have h is = subst (λ (b : ClauseTree). variables_in b ≤ n) (sym is) have.0
clause_room (d ∷ cs) n (suc i) c have h is = clause_room cs n i c have.1 (omega (arith, h)) is

pub whole_more : (w : World) (walks : List Walk) (i : ℕ) (walk : Walk) (env : List ℕ) (t u v : Partial) → AreWholeWays w walks → HaveVariables w.clauses (length env) → AllBelow w.size env → i < length walks → walk ≡ get_or walks i walk
    → GoesOver w t true u → AreDoneBefore w i t u → GoesOver w u true v → Covers w walk 0 0 env u v → AreDoneBefore w (i + 1) t v
whole_more w walks i walk env t u v whole room below within is first before second covers = λ cells well j c xs less at inst.
    let well_u : AreWellLeft w u = (first cells well).1 refl in
    let table = table_of w u cells well_u in
    let narrower = narrower_than w u cells well_u v second in
    elim (cases_lt j i) [
      | inl earlier ↦ obeyed_still (left_in w u) (left_in w v) (told w.size (left_in w t) (assigned_by xs) c) narrower (before cells well j c xs earlier at inst)
      | inr now ↦
          let same : j ≡ i = omega (arith, now, less) in
          let here : IsClauseAt w i c = subst (λ (n : ℕ). IsClauseAt w n c) same at in
          let way : IsWholeWay c i walk = whole i c walk here within is in
          let big = clause_room w.clauses (length env) i c room here.0 here.1 in
          done_before w t cells well c xs u v first table narrower
          (instance_done w walk 0 env u v c xs covers cells well_u
          (record {
            own = λ x i _. subst (IsIn x) way.none i;
            room = λ x i. (let few = range_below 0 (variables_in c) x (subst (IsAmong x) way.all i) in omega (arith, few, big));
          }) (subst (λ (n : ℕ). IsClauseAt w n c) (sym way.clause) here) inst below
          (λ x few out. absurd (out (subst (IsAmong x) (sym way.all) (among_whole x (variables_in c) few))))
          (λ x i. absurd (subst (IsIn x) way.none i)) (subst (λ o. IsHere w u.entries (assigned_by xs) o 0) (sym way.none) tt))
    ]

pub whole_none : (w : World) (t u : Partial) → AreDoneBefore w 0 t u
whole_none w t u = λ cells well j c xs less at inst. absurd (omega (arith, less))
