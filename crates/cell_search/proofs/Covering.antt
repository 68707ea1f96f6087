-- Each instance of a way is gone over.
use Rattle.std.proofs.Common.{◌≡◌, ℕ, zero, suc, ◌+◌, ◌<◌, ◌≤◌, ◌==◌, Bool, true, false, List, [], ◌∷◌, length, drop, get_or, set, slice_index, Option, None, Some, inl, inr, refl, sym, ap, ◌∙◌, subst, arith}
use Rattle.std.specs.Option.{option_and_then}
use Rattle.std.proofs.Math.Seq.{drop-cons}
use Rattle.std.proofs.lemmas.Bool.{cases_lt, eqb-true, eqb-false}
use Rattle.std.proofs.lemmas.List.{drop_all, get_or_default, get_or-set_same, get_or-set_other, length-set}
use Rattle.std.proofs.lemmas.Option.{option_and_then_some}
use Rattle.fol_core.specs.Literals.{ClauseTree}
use Rattle.fol_core.specs.Tree.{Tree, var, elem, app, Trees, none, more, trees_of}
use Rattle.fol_core.specs.Truth.{Assignment}
use Rattle.fol_core.specs.declared.symbols.Kind.{Kind}
use Rattle.fol_core.specs.declared.symbols.Kind.TheVariants.{Function}
use Rattle.mace_cells.specs.Trails.{Partial, value_in}
use Rattle.mace_cells.specs.World.{World, cell_of, many_cells}
use Rattle.mace_cells.specs.declared.trail.TrailEntry.{TrailEntry}
use Rattle.mace_ground.proofs.Grounding.{list_below}
use Rattle.mace_ground.specs.Instances.{assigned_by}
use Rattle.model_tables.specs.Size.{AllBelow}
use Rattle.plain_search.proofs.Rising.{only_of}
use Rattle.plain_search.specs.Closing.{told}
use Rattle.plain_search.specs.Lefts.{IsAmong}
use Rattle.plain_search.specs.Orders.{Obeys}
use Rattle.cell_search.proofs.Obeying.{done_before, narrower_than, obeyed_still, table_of}
use Rattle.cell_search.proofs.Seeing.{joined_some}
use Rattle.cell_search.proofs.Sounding.{cell_named}
use Rattle.cell_search.proofs.Viewing.{view_has_values}
use Rattle.cell_search.specs.Covering.{AgreeOutside, IsClauseAt, IsDone, IsHere, HasVariable, HaveVariable, IsIn, IsWay, Covers}
use Rattle.cell_search.specs.Following.{AreWellLeft, GoesOver}
use Rattle.cell_search.specs.Known.{cell_number, joined_seen, seen, all_seen, cell_seen}
use Rattle.cell_search.specs.Searchable.{HasAllCells}
use Rattle.cell_search.specs.Viewing.{left_in}
use Rattle.cell_search.specs.declared.walk.Occurrence.{Occurrence}
use Rattle.cell_search.specs.declared.walk.Walk.{Walk}

pub set_past : (xs : List ℕ) (i x : ℕ) → length xs ≤ i → set xs i x ≡ xs
set_past [] i x h = refl
set_past (y ∷ ys) zero x h = absurd (omega (arith, h))
set_past (y ∷ ys) (suc i) x h = ap (λ (zs : List ℕ). y ∷ zs) (set_past ys i x (omega (arith, h)))

-- a cell hangs on the elements of the variables in its terms
module _ (w : World) (es : List TrailEntry) (e d : Assignment) where
  mutual
    seen_alike : (t : Tree) → ((x : ℕ) → HasVariable x t → e x ≡ d x) → seen w es e t ≡ seen w es d t
    seen_alike (var x) h = ap Some (h x refl)
    seen_alike (elem k) h = refl
    seen_alike (app s ts) h = ap (λ (o : Option (List ℕ)). option_and_then (value_in es) (option_and_then (cell_number w Function s) o)) (all_seen_alike ts h)

    all_seen_alike : (ts : Trees) → ((x : ℕ) → HaveVariable x ts → e x ≡ d x) → all_seen w es e ts ≡ all_seen w es d ts
    all_seen_alike none h = refl
    all_seen_alike (more t ts) h =
        ap (λ (o : Option ℕ). joined_seen o (all_seen w es e ts)) (seen_alike t (λ x i. h x (inl i)))
        ∙ ap (joined_seen (seen w es d t)) (all_seen_alike ts (λ x i. h x (inr i)))

  pub here_alike : (o : Option Occurrence) (k : ℕ) → ((x : ℕ) → IsIn x o → e x ≡ d x) → IsHere w es e o k → IsHere w es d o k
  here_alike None k same h = tt
  here_alike (Some o) k same h = ap (option_and_then (cell_number w o.kind o.symbol.0)) (sym (all_seen_alike (trees_of o.terms.now) same)) ∙ h

-- it stays the same as more cells get values
module _ (w : World) (es es' : List TrailEntry) (keeps : (k v : ℕ) → k < many_cells w → value_in es k ≡ Some v → value_in es' k ≡ Some v) (e : Assignment) where
  cell_still : (kind : Kind) (s : ℕ) (ts : Trees) (k : ℕ) → ((xs : List ℕ) → all_seen w es e ts ≡ Some xs → all_seen w es' e ts ≡ Some xs) → cell_seen w es e kind s ts ≡ Some k
      → cell_seen w es' e kind s ts ≡ Some k
  cell_still kind s ts k still h =
      option_and_then_some (cell_number w kind s) (all_seen w es e ts) k h (λ xs i j. ap (option_and_then (cell_number w kind s)) (still xs i) ∙ j)

  cell_within : (kind : Kind) (s : ℕ) (ts : Trees) (k : ℕ) → cell_seen w es e kind s ts ≡ Some k → k < many_cells w
  cell_within kind s ts k h = option_and_then_some (cell_number w kind s) (all_seen w es e ts) k h (λ xs i j. (cell_named w kind s xs k j).0)

  mutual
    seen_still : (t : Tree) (v : ℕ) → seen w es e t ≡ Some v → seen w es' e t ≡ Some v
    seen_still (var x) v h = h
    seen_still (elem k) v h = h
    seen_still (app s ts) v h =
        option_and_then_some (value_in es) (cell_seen w es e Function s ts) v h
        (λ k i j. ap (option_and_then (value_in es')) (cell_still Function s ts k (λ xs g. all_still ts xs g) i) ∙ keeps k v (cell_within Function s ts k i) j)

    all_still : (ts : Trees) (xs : List ℕ) → all_seen w es e ts ≡ Some xs → all_seen w es' e ts ≡ Some xs
    all_still none xs h = h
    all_still (more t ts) xs h =
        let j = joined_some (seen w es e t) (all_seen w es e ts) xs h in
        let first : seen w es' e t ≡ Some j.0 = seen_still t j.0 j.1.1.0 in
        let rest : all_seen w es' e ts ≡ Some j.1.0 = all_still ts j.1.0 j.1.1.1 in
        rw (first, rest) (ap Some (sym j.1.1.2))

  here_kept : (o : Option Occurrence) (k : ℕ) → IsHere w es e o k → IsHere w es' e o k
  here_kept None k h = tt
  here_kept (Some o) k h = cell_still o.kind o.symbol.0 (trees_of o.terms.now) k (all_still (trees_of o.terms.now)) h

pub values_kept : (w : World) (t u : Partial) → HasAllCells w → AreWellLeft w t → GoesOver w t true u → (k v : ℕ) → k < many_cells w → value_in t.entries k ≡ Some v → value_in u.entries k ≡ Some v
values_kept w t u cells well goes k v few given =
    let well_u : AreWellLeft w u = (goes cells well).1 refl in
    let c = cell_of w k in
    let table = table_of w u cells well_u c in
    sym (view_has_values w u cells well_u k few)
    ∙ only_of 0 v (left_in w u c) (left_in w t c) table.0 table.1 (narrower_than w t cells well u goes c) (view_has_values w t cells well k few ∙ given)

pub here_still : (w : World) (t u : Partial) (e : Assignment) (o : Option Occurrence) (k : ℕ) → HasAllCells w → AreWellLeft w t → GoesOver w t true u → IsHere w t.entries e o k → IsHere w u.entries e o k
here_still w t u e o k cells well goes = here_kept w t.entries u.entries (values_kept w t u cells well goes) e o k

pub cell_later : (w : World) (es es' : List TrailEntry) → ((k v : ℕ) → k < many_cells w → value_in es k ≡ Some v → value_in es' k ≡ Some v) → (e : Assignment) (kind : Kind) (s : ℕ) (ts : Trees) (k : ℕ) → cell_seen w es e kind s ts ≡ Some k
    → cell_seen w es' e kind s ts ≡ Some k
cell_later w es es' keeps e kind s ts k h = cell_still w es es' keeps e kind s ts k (all_still w es es' keeps e ts) h

among_get : (xs : List ℕ) (i x : ℕ) → i < length xs → x ≡ get_or xs i x → IsAmong x xs
among_get [] i x h is = absurd (omega (arith, h))
among_get (y ∷ ys) zero x h is = inl is
among_get (y ∷ ys) (suc i) x h is = inr (among_get ys i x (omega (arith, h)) is)

-- the variable of one place, and those behind
module _ (order : List ℕ) (at x : ℕ) (inside : at < length order) (is : x ≡ get_or order at x) where
  parts : drop at order ≡ x ∷ drop (at + 1) order
  parts =
      let same : suc at ≡ at + 1 = omega arith in
      drop-cons order at x inside ∙ ap (λ (y : ℕ). y ∷ drop (suc at) order) (sym is) ∙ ap (λ (n : ℕ). x ∷ drop n order) same

  out_of : (y : ℕ) → (y ≡ x → ⊥) → (IsAmong y (drop (at + 1) order) → ⊥) → IsAmong y (drop at order) → ⊥
  out_of y other away i = elim (subst (IsAmong y) parts i) [ inl same ↦ other same | inr behind ↦ away behind ]

  first_in : (y : ℕ) → y ≡ x → IsAmong y (drop at order)
  first_in y same = subst (IsAmong y) (sym parts) (inl same)

  behind_in : (y : ℕ) → IsAmong y (drop (at + 1) order) → IsAmong y (drop at order)
  behind_in y i = subst (IsAmong y) (sym parts) (inr i)

  -- one more variable has its element
  pub agree_more : (xs env old : List ℕ) (n : ℕ) → AgreeOutside (drop at order) xs old → AgreeOutside (drop at order) env old → slice_index xs x ≡ n → x < length env → AgreeOutside (drop (at + 1) order) xs (set env x n)
  agree_more xs env old n agree frame value room y away = by (y == x) refl
    where
      by : (b : Bool) → (y == x) ≡ b → slice_index xs y ≡ slice_index (set env x n) y
      by true e =
          let same : y ≡ x = eqb-true y x e in
          ap (λ (z : ℕ). slice_index xs z) same ∙ value ∙ sym (get_or-set_same env x n 0 room) ∙ ap (λ (z : ℕ). slice_index (set env x n) z) (sym same)
      by false e =
          let out : IsAmong y (drop at order) → ⊥ = out_of y (eqb-false y x e) away in
          agree y out ∙ sym (frame y out) ∙ sym (get_or-set_other env x y n 0 (eqb-false y x e))

  pub frame_more : (new env old : List ℕ) (n : ℕ) → AgreeOutside (drop at order) env old → AgreeOutside (drop (at + 1) order) new (set env x n) → AgreeOutside (drop at order) new old
  frame_more new env old n frame next y out =
      let other : y ≡ x → ⊥ = λ same. out (first_in y same) in
      next y (λ i. out (behind_in y i)) ∙ get_or-set_other env x y n 0 other ∙ frame y out

-- no instance is gone over
pub covers_none : (w : World) (walk : Walk) (k at : ℕ) (env : List ℕ) (t : Partial) (b : Bool) → at ≡ walk.nested → (IsHere w t.entries (assigned_by env) walk.occurrence k → b ≡ true) → b ≡ false → Covers w walk k at env t t
covers_none w walk k at env t b same here not = λ cells well way c is xs below agree there.
    let by_env = here_alike w t.entries (assigned_by xs) (assigned_by env) walk.occurrence k
    (λ x i. agree x (subst (λ (n : ℕ). IsAmong x (drop n walk.order.items) → ⊥) (sym same) (way.own x i))) there in
    absurd (let e : true ≡ false = sym (here by_env) ∙ not in cc)

-- one is
module _ (w : World) (walk : Walk) (k at : ℕ) (env : List ℕ) (t t' : Partial) (looked : HasAllCells w → AreWellLeft w t → (c : ClauseTree) → IsClauseAt w walk.clause c → IsDone w c env t t') where
  covers_same : ((xs : List ℕ) → AllBelow w.size xs → AgreeOutside (drop at walk.order.items) xs env → (x : ℕ) → slice_index xs x ≡ slice_index env x) → Covers w walk k at env t t'
  covers_same same = λ cells well way c is xs below agree there.
      let alike : assigned_by env ≡ assigned_by xs = λ i x. (sym (same xs below agree x)) i in
      subst (λ (e : Assignment). Obeys (left_in w t') (told w.size (left_in w t) e c)) alike (looked cells well c is)

  pub covers_last : length walk.order.items ≤ at → Covers w walk k at env t t'
  covers_last past = covers_same (λ xs below agree x. agree x (λ i. subst (IsAmong x) (drop_all at walk.order.items past) i))

  pub covers_single : w.size ≡ 1 → AllBelow w.size env → Covers w walk k at env t t'
  covers_single one env_below =
      covers_same (λ xs below agree x.
      let some : 0 < w.size = omega (arith, one) in
      let a = list_below w.size xs x some below in
      let b = list_below w.size env x some env_below in
      omega (arith, a, b, one))

-- those with an element below n for the variable are
abbrev pub CoversBelow : World → Walk → ℕ → ℕ → List ℕ → Partial → Partial → ℕ → Type 0
CoversBelow w walk k at env t t' n =
    HasAllCells w → AreWellLeft w t → IsWay walk (length env) → (c : ClauseTree) → IsClauseAt w walk.clause c → (xs : List ℕ) → AllBelow w.size xs
    → AgreeOutside (drop at walk.order.items) xs env → IsHere w t.entries (assigned_by xs) walk.occurrence k
    → (x : ℕ) → x ≡ get_or walk.order.items at x → slice_index xs x < n → IsDone w c xs t t'

pub covers_first : (w : World) (walk : Walk) (k at : ℕ) (env : List ℕ) (t t' : Partial) → CoversBelow w walk k at env t t' 0
covers_first w walk k at env t t' = λ cells well way c is xs below agree there x at_is less. absurd (omega (arith, less))

pub covers_next : (w : World) (walk : Walk) (k at x : ℕ) (old env : List ℕ) (t u v : Partial) (n : ℕ) → at < length walk.order.items → x ≡ get_or walk.order.items at x
    → GoesOver w t true u → CoversBelow w walk k at old t u n → AgreeOutside (drop at walk.order.items) env old → length env ≡ length old
    → GoesOver w u true v → Covers w walk k (at + 1) (set env x n) u v → CoversBelow w walk k at old t v (n + 1)
covers_next w walk k at x old env t u v n inside is first before frame many second covers = λ cells well way c of xs below agree there y y_is less.
    let well_u : AreWellLeft w u = (first cells well).1 refl in
    let table = table_of w u cells well_u in
    let narrower = narrower_than w u cells well_u v second in
    let same : y ≡ x = y_is ∙ get_or_default walk.order.items at y x inside ∙ sym is in
    let value : slice_index xs y ≡ slice_index xs x = ap (λ (z : ℕ). slice_index xs z) same in
    elim (cases_lt (slice_index xs y) n) [
      | inl earlier ↦ obeyed_still (left_in w u) (left_in w v) (told w.size (left_in w t) (assigned_by xs) c) narrower (before cells well way c of xs below agree there y y_is earlier)
      | inr now ↦
          let room : x < length env = let fits = way.room x (among_get walk.order.items at x inside is) in omega (arith, fits, many) in
          let way_on : IsWay walk (length (set env x n)) = record { own = way.own; room = λ z i. (let fits = way.room z i in let long = length-set env x n in omega (arith, fits, many, long)) } in
          done_before w t cells well c xs u v first table narrower
          (covers cells well_u way_on c of xs below (agree_more walk.order.items at x inside is xs env old n agree frame (omega (arith, value, now, less)) room)
          (here_still w t u (assigned_by xs) walk.occurrence k cells well first there))
    ]

pub covers_all : (w : World) (walk : Walk) (k at x : ℕ) (env : List ℕ) (t t' : Partial) (n : ℕ) → x ≡ get_or walk.order.items at x → w.size ≤ n → CoversBelow w walk k at env t t' n → Covers w walk k at env t t'
covers_all w walk k at x env t t' n is past before = λ cells well way c of xs below agree there.
    let less = list_below w.size xs x cells.some below in
    before cells well way c of xs below agree there x is (omega (arith, less, past))
