-- Two leaves part where the same cell was given different values.
use Rattle.std.proofs.Common.{◌≡◌, ℕ, zero, suc, ◌+◌, ◌<◌, map, nat_le, Bool, if◌then◌else◌, List, [], ◌∷◌, ◌++◌, Option, None, Some, inl, inr, refl, sym, ap, ◌∙◌, subst, arith}
use Rattle.std.specs.Prelude.{◌⊎◌}
use Rattle.std.specs.List.{flat_map, range_with_len}
use Rattle.std.proofs.lemmas.Option.{same_Some}
use Rattle.mace_cells.specs.Choices.{Decision}
use Rattle.mace_cells.specs.Numbers.{greatest_tried}
use Rattle.mace_cells.specs.World.{World, cell_of, many_cells}
use Rattle.mace_ground.specs.Cells.{Cell}
use Rattle.plain_search.proofs.Ending.{one_either}
use Rattle.plain_search.proofs.Reaching.{IsIn, cell_itself, chosen_in}
use Rattle.plain_search.proofs.Rising.{IsBelow, bounded_below, only_of, rising_filter, passed, below_itself, below_twice, put_below, closure_below, all_left_table}
use Rattle.plain_search.specs.Closing.{closure}
use Rattle.plain_search.specs.Lefts.{ValuesLeft, only_value, IsAmong, all_left, with_left}
use Rattle.plain_search.specs.Orders.{IsRisingFrom, IsTable}
use Rattle.plain_search.specs.Parting.{AreApart, ArePartedIn, HaveSameValues, LeavesDiffer, LeavesPart}
use Rattle.plain_search.specs.PlainLaws.{IsOneOf}
use Rattle.plain_search.specs.Trying.{all_cells, chosen, tried, decide, below, behind_closing, leaves, leaves_within}

apart_both : (w : World) (ps qs : List ValuesLeft) → ArePartedIn w ps → ArePartedIn w qs → ((r q : ValuesLeft) → IsOneOf r ps → IsOneOf q qs → HaveSameValues w r q → ⊥) → ArePartedIn w (ps ++ qs)
apart_both w [] qs left right apart = right
apart_both w (p ∷ ps) qs left right apart = (
  (λ q i same. elim (one_either q ps qs i) [ inl h ↦ left.0 q h same | inr h ↦ apart p q (inl refl) h same ]),
  apart_both w ps qs left.1 right (λ r q i j. apart r q (inr i) j),
)

-- a cell of the world by its number
numbered : (w : World) (c : Cell) (a n : ℕ) → IsIn c (map (cell_of w) (range_with_len a n)) → (k : ℕ) × ((k < a + n) × (c ≡ cell_of w k))
numbered w c a zero i = absurd i
numbered w c a (suc n) (inl same) = (a, (omega arith, same))
numbered w c a (suc n) (inr i) = let r = numbered w c (a + 1) n i in let less = r.1.0 in (r.0, (omega (arith, less), r.1.1))

-- values that differ in a cell of the world
differ_in : (w : World) (c : Cell) (r q : ValuesLeft) → IsIn c (all_cells w) → HaveSameValues w r q → only_value (r c) ≡ only_value (q c)
differ_in w c r q i same =
    let n = numbered w c 0 (many_cells w) i in
    let few = n.1.0 in
    ap (λ (d : Cell). only_value (r d)) n.1.1 ∙ same n.0 (omega (arith, few)) ∙ ap (λ (d : Cell). only_value (q d)) (sym n.1.1)

-- what is found with some value is found with one
found_with : (find : ℕ → List ValuesLeft) (r : ValuesLeft) (vs : List ℕ) → IsOneOf r (flat_map find vs) → (v : ℕ) × (IsAmong v vs × IsOneOf r (find v))
found_with find r [] i = absurd i
found_with find r (v ∷ vs) i = elim (one_either r (find v) (flat_map find vs) i) [
  | inl here ↦ (v, (inl refl, here))
  | inr later ↦ (let f = found_with find r vs later in (f.0, (inr f.1.0, f.1.1)))
]

-- Values rise, and what is found with each has it in the cell: then no two are the same.
module _ (w : World) (c : Cell) (there : IsIn c (all_cells w)) (find : ℕ → List ValuesLeft) where
  abbrev Have : ℕ → Type 0
  Have v = ArePartedIn w (find v) × ((r : ValuesLeft) → IsOneOf r (find v) → only_value (r c) ≡ Some v)

  apart_by_value : (a : ℕ) (vs : List ℕ) → IsRisingFrom a vs → ((v : ℕ) → IsAmong v vs → Have v) → ArePartedIn w (flat_map find vs)
  apart_by_value a [] rising have = tt
  apart_by_value a (v ∷ vs) rising have =
      apart_both w (find v) (flat_map find vs) (have v (inl refl)).0 (apart_by_value (suc v) vs rising.1 (λ u i. have u (inr i))) other
    where
      other : (r q : ValuesLeft) → IsOneOf r (find v) → IsOneOf q (flat_map find vs) → HaveSameValues w r q → ⊥
      other r q here later alike =
          let f = found_with find q vs later in
          let above = bounded_below (suc v) f.0 vs rising.1 f.1.0 in
          let same : v ≡ f.0 = same_Some _ _ (sym ((have v (inl refl)).1 r here) ∙ differ_in w c r q there alike ∙ (have f.0 (inr f.1.0)).1 q f.1.1) in
          omega (arith, above, same)

-- one value of a cell is left
pub decided_below : (q : ValuesLeft) (c : Cell) (v : ℕ) → IsTable q → IsAmong v (q c) → IsBelow q (with_left q c (v ∷ []))
decided_below q c v table there = put_below q q c (v ∷ []) (below_itself q table) (omega arith, tt) (omega arith) only
  where
    only : (x : ℕ) → (x ≡ v) ⊎ ⊥ → IsAmong x (q c)
    only x (inl e) = subst (λ (y : ℕ). IsAmong y (q c)) (sym e) there
    only x (inr i) = absurd i

pub has_value : (q r : ValuesLeft) (c : Cell) (v : ℕ) → IsBelow (with_left q c (v ∷ [])) r → only_value (r c) ≡ Some v
has_value q r c v below =
    only_of 0 v (r c) (with_left q c (v ∷ []) c) (below.0 c).0 (below.0 c).1 (below.1 c)
    (ap (λ (b : Bool). only_value (if b then v ∷ [] else q c)) (cell_itself c))

module _ (w : World) where
  -- the leaves from a table on are within it, and no two of them the same
  abbrev Part : ValuesLeft → List ValuesLeft → Type 0
  Part p rs = ArePartedIn w rs × ((r : ValuesLeft) → IsOneOf r rs → IsBelow p r)

  abbrev PartsFrom : ℕ → Type 0
  PartsFrom k = (ds : List Decision) (p : ValuesLeft) → IsTable p → Part p (leaves_within k w ds p)

  part_below : (k : ℕ) → PartsFrom k → (ds : List Decision) (q : ValuesLeft) → IsTable q → (o : Option Cell) → chosen w ds q ≡ o → Part q (below (leaves_within k w) w ds q o)
  part_below k part ds q table None e = (((λ r i same. i), tt), only)
    where
      only : (r : ValuesLeft) → (r ≡ q) ⊎ ⊥ → IsBelow q r
      only r (inl e) = subst (IsBelow q) (sym e) (below_itself q table)
      only r (inr i) = absurd i
  part_below k part ds q table (Some c) e = (
    apart_by_value w c (chosen_in w ds q c e).0 find 0 (tried w ds q c) (rising_filter (λ v. nat_le v (greatest_tried w ds c)) 0 (q c) (table c).0)
        (λ v i. ((here v i).0, (λ r j. has_value q r c v ((here v i).1 r j)))),
    (λ r i. let f = found_with find r (tried w ds q c) i in below_twice q (with_left q c (f.0 ∷ [])) r (one f.0 f.1.0) ((here f.0 f.1.0).1 r f.1.1)),
  )
    where
      find : ℕ → List ValuesLeft
      find v = leaves_within k w (decide c v ∷ ds) (with_left q c (v ∷ []))

      one : (v : ℕ) → IsAmong v (tried w ds q c) → IsBelow q (with_left q c (v ∷ []))
      one v i = decided_below q c v table (passed (λ u. nat_le u (greatest_tried w ds c)) v (q c) i).0

      here : (v : ℕ) → IsAmong v (tried w ds q c) → Part (with_left q c (v ∷ [])) (leaves_within k w (decide c v ∷ ds) (with_left q c (v ∷ [])))
      here v i = part (decide c v ∷ ds) (with_left q c (v ∷ [])) (one v i).0

  part_behind : (k : ℕ) → PartsFrom k → (ds : List Decision) (p : ValuesLeft) → IsTable p → (o : Option ValuesLeft) → closure w p ≡ o → Part p (behind_closing (leaves_within k w) w ds o)
  part_behind k part ds p table None e = (tt, (λ r i. absurd i))
  part_behind k part ds p table (Some q) e =
      let below = closure_below w p q table e in
      let leaves_part = part_below k part ds q below.0 (chosen w ds q) refl in
      (leaves_part.0, (λ r i. below_twice p q r below (leaves_part.1 r i)))

  pub leaves_part : (k : ℕ) → PartsFrom k
  leaves_part zero ds p table = (tt, (λ r i. absurd i))
  leaves_part (suc k) ds p table = part_behind k (leaves_part k) ds p table (closure w p) refl

pub leaves_differ_in_cells : LeavesPart
leaves_differ_in_cells w some = (leaves_part w (suc (many_cells w)) [] (all_left w) (all_left_table w some)).0

apart_by_cells : (w : World) (ps : List ValuesLeft) → ArePartedIn w ps → AreApart ps
apart_by_cells w [] h = tt
apart_by_cells w (p ∷ ps) h = ((λ i. h.0 p i (λ k few. refl)), apart_by_cells w ps h.1)

pub leaves_differ : LeavesDiffer
leaves_differ w some = apart_by_cells w (leaves w) (leaves_differ_in_cells w some)

-- leaves have values that cells can have
pub leaf_below : (w : World) (p : ValuesLeft) → 0 < w.size → IsOneOf p (leaves w) → IsBelow (all_left w) p
leaf_below w p some i = (leaves_part w (suc (many_cells w)) [] (all_left w) (all_left_table w some)).1 p i
