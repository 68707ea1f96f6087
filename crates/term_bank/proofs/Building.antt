-- The terms that cells build, one behind the other.
use Rattle.std.proofs.Common.{◌≡◌, ℕ, zero, suc, ◌+◌, ◌<◌, ◌≤◌, Bool, true, false, refl, sym, ap, ap₂, subst, ◌∙◌, List, [], ◌∷◌, ◌++◌, length, map, Option, Some, None, slice_get, position, arith, inl, inr, if◌then◌else◌, slice_index_or, max, drop, take, get_or, add-one}
use Rattle.std.specs.Option.{option_map}
use Rattle.fol_core.specs.Sizes.{sizes_of, depths_of, saturated}
use Rattle.fol_core.specs.SymbolTable.{first_place}
use Rattle.std.specs.Map.{keys_of}
use Rattle.std.proofs.lemmas.Bool.{cases_lt}
use Rattle.std.proofs.lemmas.List.{get_or_append_left, drop_all, map-append}
use Rattle.std.proofs.Math.Seq.{get_or-append_seam, take-suc}
use Rattle.fol_core.specs.TermView.{tree_of, tree_list}
use Rattle.fol_core.specs.declared.term.Term.{Term}
use Rattle.fol_core.specs.Tree.{Tree, var, app, trees_of}
use Rattle.fol_core.proofs.Places.{first_place-found, first_place_is_position}
use Rattle.term_bank.specs.Bank.{tree_at, IsAt, Grows, AreOnce}
use Rattle.term_bank.specs.Cells.{AreNumbersBelow, numbers, ArgumentsAreIn, tree_in, IsMeasured, trees_built, IsNewTerm, IsCell, AreCells, IsStored}
use Rattle.term_bank.specs.declared.cell.TermCell.{TermCell}
use Rattle.term_bank.specs.declared.cell.TermCell.TheVariants.{Variable, Element, Application}
use Rattle.term_bank.specs.declared.cell.Measures.{Measures}
use Rattle.term_bank.specs.declared.id.TermId.{TermId}
use Rattle.term_bank.proofs.Same.{equal_cells, same_tree, equal_cell}

append_end : {X : Type 0} (xs ys zs : List X) → (xs ++ ys) ++ zs ≡ xs ++ (ys ++ zs)
append_end [] ys zs = refl
append_end (x ∷ xs) ys zs = ap (λ l. x ∷ l) (append_end xs ys zs)

append_none : {X : Type 0} (xs : List X) → xs ++ [] ≡ xs
append_none [] = refl
append_none (x ∷ xs) = ap (λ l. x ∷ l) (append_none xs)

length_end : {X : Type 0} (xs : List X) (x : X) → length (xs ++ x ∷ []) ≡ suc (length xs)
length_end [] x = refl
length_end (y ∷ xs) x = ap suc (length_end xs x)

-- a number means the same in a bank that grew
pub at_front : (bank more : List Tree) (n : ℕ) → n < length bank → tree_at (bank ++ more) n ≡ tree_at bank n
at_front bank more n h = get_or_append_left bank more (var 0) n h

pub grows_refl : (bank : List Tree) → Grows bank bank
grows_refl bank = ([], sym (append_none bank))

pub grows_on : (a b c : List Tree) → Grows a b → Grows b c → Grows a c
grows_on a b c g h = (g.0 ++ h.0, h.1 ∙ ap (λ l. l ++ h.0) g.1 ∙ append_end a g.0 h.0)

pub grows_at : (a b : List Tree) → Grows a b → (n : ℕ) → n < length a → tree_at b n ≡ tree_at a n
grows_at a b g n h = ap (λ l. tree_at l n) g.1 ∙ at_front a g.0 n h

pub grows_length : (a b : List Tree) → Grows a b → length a ≤ length b
grows_length a b g = subst (λ n. length a ≤ n) (ap length (sym g.1)) (longer a g.0)
  where
    longer : (xs ys : List Tree) → length xs ≤ length (xs ++ ys)
    longer [] ys = omega arith
    longer (x ∷ xs) ys = omega (arith, longer xs ys)

-- so do arguments
trees_grow : (a b : List Tree) → Grows a b → (ks : List TermId) → AreNumbersBelow (length a) (numbers ks) → map (λ k. tree_at b k.0) ks ≡ map (λ k. tree_at a k.0) ks
trees_grow a b g [] h = refl
trees_grow a b g (k ∷ ks) h = ap₂ (λ (t : Tree) (ts : List Tree). t ∷ ts) (grows_at a b g k.0 h.0) (trees_grow a b g ks h.1)

pub tree_grows : (a b : List Tree) → Grows a b → (c : TermCell) → ArgumentsAreIn (length a) c → tree_in b c ≡ tree_in a c
tree_grows a b g (Variable x) h = refl
tree_grows a b g (Element k) h = refl
tree_grows a b g (Application f ks) h = ap (λ ts. app f (trees_of ts)) (trees_grow a b g ks.items h)

pub below_more : (m n : ℕ) → m ≤ n → (ks : List ℕ) → AreNumbersBelow m ks → AreNumbersBelow n ks
below_more m n h [] b = tt
below_more m n h (k ∷ ks) b = (omega (arith, b.0, h), below_more m n h ks b.1)

pub arguments_more : (m n : ℕ) → m ≤ n → (c : TermCell) → ArgumentsAreIn m c → ArgumentsAreIn n c
arguments_more m n h (Variable x) b = tt
arguments_more m n h (Element k) b = tt
arguments_more m n h (Application f ks) b = below_more m n h (numbers ks.items) b

pub built_grows : (bank : List Tree) (cs : List (TermCell × Measures)) → Grows bank (trees_built bank cs)
built_grows bank [] = grows_refl bank
built_grows bank (c ∷ cs) = grows_on bank (bank ++ tree_in bank c.0 ∷ []) (trees_built bank (c ∷ cs)) (tree_in bank c.0 ∷ [], refl) (built_grows (bank ++ tree_in bank c.0 ∷ []) cs)

-- as many terms as cells
pub built_length : (bank : List Tree) (cs : List (TermCell × Measures)) → length (trees_built bank cs) ≡ length bank + length cs
built_length bank [] = omega arith
built_length bank (c ∷ cs) = built_length (bank ++ tree_in bank c.0 ∷ []) cs ∙ ap (λ n. n + length cs) (length_end bank (tree_in bank c.0)) ∙ omega arith

-- one cell more is one term more
pub built_end : (bank : List Tree) (cs : List (TermCell × Measures)) (c : TermCell × Measures) → trees_built bank (cs ++ c ∷ []) ≡ trees_built bank cs ++ tree_in (trees_built bank cs) c.0 ∷ []
built_end bank [] c = refl
built_end bank (d ∷ cs) c = built_end (bank ++ tree_in bank d.0 ∷ []) cs c

pub cells_end : (bank : List Tree) (cs : List (TermCell × Measures)) (c : TermCell × Measures) → AreCells bank cs → IsCell (trees_built bank cs) c → AreCells bank (cs ++ c ∷ [])
cells_end bank [] c are is = (is, tt)
cells_end bank (d ∷ cs) c are is = (are.0, cells_end (bank ++ tree_in bank d.0 ∷ []) cs c are.1 is)

pub placed_from : (bank : List Tree) (cs : List (TermCell × Measures)) → AreCells bank cs → (k : ℕ) (c : TermCell × Measures) → slice_get cs k ≡ Some c
    → IsStored (trees_built bank cs) (length bank + k) c
placed_from bank [] are k c h = cc
placed_from bank (d ∷ cs) are zero c h =
    let t : Tree = tree_in bank d.0 in
    let next : List Tree = bank ++ t ∷ [] in
    let on : Grows next (trees_built next cs) = built_grows next cs in
    let all : Grows bank (trees_built next cs) = built_grows bank (d ∷ cs) in
    let e : d ≡ c = cc in
    let short : length bank < length next = subst (λ n. length bank < n) (sym (length_end bank t)) (omega arith) in
    let at : tree_at (trees_built next cs) (length bank) ≡ t = grows_at next (trees_built next cs) on (length bank) short ∙ get_or-append_seam bank t [] (var 0) in
    let zero_more : length bank + zero ≡ length bank = omega arith in
    subst (λ x. IsStored (trees_built next cs) (length bank + zero) x) e
    (subst (λ n. IsStored (trees_built next cs) n d) (sym zero_more)
    (record {
      tree = at ∙ sym (tree_grows bank (trees_built next cs) all d.0 are.0.arguments);
      arguments = are.0.arguments;
      measured = subst (λ u. IsMeasured u d.1) (sym at) are.0.measured;
    }))
placed_from bank (d ∷ cs) are (suc k) c h =
    let next : List Tree = bank ++ tree_in bank d.0 ∷ [] in
    let e : length next + k ≡ length bank + suc k = ap (λ n. n + k) (length_end bank (tree_in bank d.0)) ∙ omega arith in
    subst (λ n. IsStored (trees_built next cs) n c) e (placed_from next cs are.1 k c h)

pub placed : (cs : List (TermCell × Measures)) → AreCells [] cs → (k : ℕ) (c : TermCell × Measures) → slice_get cs k ≡ Some c → IsStored (trees_built [] cs) k c
placed cs are k c h = subst (λ n. IsStored (trees_built [] cs) n c) (omega arith) (placed_from [] cs are k c h)

-- no term stands twice
one_more_once : (bank : List Tree) (t : Tree) → AreOnce bank → IsNewTerm bank t → AreOnce (bank ++ t ∷ [])
one_more_once bank t once is_new i j a b e =
    by i j (subst (λ n. i < n) (length_end bank t) a) (subst (λ n. j < n) (length_end bank t) b) e
  where
    last : tree_at (bank ++ t ∷ []) (length bank) ≡ t
    last = get_or-append_seam bank t [] (var 0)

    old : (n : ℕ) → n < length bank → tree_at (bank ++ t ∷ []) n ≡ tree_at bank n
    old n h = at_front bank (t ∷ []) n h

    by : (i j : ℕ) → i < suc (length bank) → j < suc (length bank) → tree_at (bank ++ t ∷ []) i ≡ tree_at (bank ++ t ∷ []) j → i ≡ j
    by i j a b e = elim (cases_lt i (length bank)) [
      | inl x ↦ elim (cases_lt j (length bank)) [
        | inl y ↦ once i j x y (sym (old i x) ∙ e ∙ old j y)
        | inr y ↦ let m : j ≡ length bank = omega arith in
            elim (is_new i x (sym (old i x) ∙ e ∙ ap (tree_at (bank ++ t ∷ [])) m ∙ last)) [ ]
      ]
      | inr x ↦ let n : i ≡ length bank = omega arith in
          elim (cases_lt j (length bank)) [
            | inl y ↦ elim (is_new j y (sym (old j y) ∙ sym e ∙ ap (tree_at (bank ++ t ∷ [])) n ∙ last)) [ ]
            | inr y ↦ let m : j ≡ length bank = omega arith in n ∙ sym m
          ]
    ]

pub built_once : (bank : List Tree) (cs : List (TermCell × Measures)) → AreOnce bank → AreCells bank cs → AreOnce (trees_built bank cs)
built_once bank [] once are = once
built_once bank (c ∷ cs) once are = built_once (bank ++ tree_in bank c.0 ∷ []) cs (one_more_once bank (tree_in bank c.0) once are.0.is_new) are.1

-- a cell that equals a key stands there, and one that equals none is new
pub found_at : (cs : List (TermCell × Measures)) → AreCells [] cs → (c : TermCell) (n : ℕ) → Some n ≡ position (equal_cells c) (keys_of cs) → IsAt (trees_built [] cs) n (tree_in (trees_built [] cs) c)
found_at cs are c n h =
    let there = first_place-found (equal_cells c) (keys_of cs) n (first_place_is_position (equal_cells c) (keys_of cs) ∙ sym h) in
    let cell = key_at cs n there.0 there.1 in
    let p = placed cs are n cell.0 cell.1 in
    record {
      within = subst (λ k. n < k) (sym (built_length [] cs)) (omega (arith, short cs n cell.0 cell.1));
      tree = p.tree ∙ ap (tree_in (trees_built [] cs)) cell.2 ∙ sym (same_tree (trees_built [] cs) c there.0 there.2);
    }
  where
    key_at : (cs : List (TermCell × Measures)) (n : ℕ) (k : TermCell) → slice_get (keys_of cs) n ≡ Some k → (d : TermCell × Measures) × (slice_get cs n ≡ Some d) × (d.0 ≡ k)
    key_at [] n k h = cc
    key_at (d ∷ cs) zero k h = (d, refl, cc)
    key_at (d ∷ cs) (suc n) k h = key_at cs n k h

    short : (cs : List (TermCell × Measures)) (n : ℕ) (d : TermCell × Measures) → slice_get cs n ≡ Some d → n < length cs
    short [] n d h = cc
    short (c ∷ cs) zero d h = omega arith
    short (c ∷ cs) (suc n) d h = let s = short cs n d h in omega arith

pub once_built : (cs : List (TermCell × Measures)) → AreCells [] cs → AreOnce (trees_built [] cs)
once_built cs are = built_once [] cs (λ i j a b e. elim (none i a) [ ]) are
  where
    none : (i : ℕ) → i < 0 → ⊥
    none i h = omega arith

pub new_where_none : (cs : List (TermCell × Measures)) → AreCells [] cs → (c : TermCell) → ArgumentsAreIn (length (trees_built [] cs)) c → position (equal_cells c) (keys_of cs) ≡ None
    → IsNewTerm (trees_built [] cs) (tree_in (trees_built [] cs) c)
new_where_none cs are c arguments h n within e =
    let inside : n < 0 + length cs = subst (λ k. n < k) (built_length [] cs) within in
    let inner : n < length cs = omega (arith, inside) in
    let there = entry_at cs n inner in
    let p = placed cs are n there.0 there.1 in
    let least : n ≤ length (trees_built [] cs) = omega (arith, within) in
    let more = arguments_more n (length (trees_built [] cs)) least there.0.0 p.arguments in
    let same = equal_cell (trees_built [] cs) (once_built cs are) c there.0.0 arguments more (sym e ∙ p.tree) in
    let other = none_passes cs n there.0 (first_place_is_position (equal_cells c) (keys_of cs) ∙ h) there.1 in
    cc
  where
    entry_at : (cs : List (TermCell × Measures)) (n : ℕ) → n < length cs → (d : TermCell × Measures) × (slice_get cs n ≡ Some d)
    entry_at [] n h = let no_place : ⊥ = omega (arith, h) in elim no_place [ ]
    entry_at (d ∷ cs) zero h = (d, refl)
    entry_at (d ∷ cs) (suc n) h = let inner : n < length cs = omega (arith, h) in entry_at cs n inner

    none_passes : (cs : List (TermCell × Measures)) (n : ℕ) (d : TermCell × Measures) → first_place (equal_cells c) (keys_of cs) ≡ None → slice_get cs n ≡ Some d → equal_cells c d.0 ≡ false
    none_passes [] n d none at = cc
    none_passes (f ∷ cs) n d none at = by (equal_cells c f.0) refl (first_place (equal_cells c) (keys_of cs)) refl n none at (λ m o i. none_passes cs m d o i)
      where
        by : (b : Bool) → equal_cells c f.0 ≡ b → (o : Option ℕ) → first_place (equal_cells c) (keys_of cs) ≡ o → (n : ℕ) → (if b then Some 0 else option_map suc o) ≡ None
            → slice_get (f ∷ cs) n ≡ Some d → ((m : ℕ) → first_place (equal_cells c) (keys_of cs) ≡ None → slice_get cs m ≡ Some d → equal_cells c d.0 ≡ false) → equal_cells c d.0 ≡ false
        by true e o i n none at rest = cc
        by false e (Some m) i n none at rest = cc
        by false e None i zero none at rest = let same : f ≡ d = cc in ap (λ (x : TermCell × Measures). equal_cells c x.0) (sym same) ∙ e
        by false e None i (suc n) none at rest = rest n i at

pub full_length : (cs : List (TermCell × Measures)) → length (trees_built [] cs) ≡ length cs
full_length cs = built_length [] cs ∙ omega arith

-- a cell whose term is new equals no key
pub apart_where_new : (cs : List (TermCell × Measures)) → AreCells [] cs → (c : TermCell) → IsNewTerm (trees_built [] cs) (tree_in (trees_built [] cs) c) → first_place (equal_cells c) (keys_of cs) ≡ None
apart_where_new cs are c is_new = by (first_place (equal_cells c) (keys_of cs)) refl
  where
    by : (o : Option ℕ) → first_place (equal_cells c) (keys_of cs) ≡ o → first_place (equal_cells c) (keys_of cs) ≡ None
    by None e = e
    by (Some n) e =
        let at = found_at cs are c n (sym e ∙ first_place_is_position (equal_cells c) (keys_of cs)) in
        elim (is_new n at.within at.tree) [ ]

pub at_end : (bank : List Tree) (t : Tree) → IsAt (bank ++ t ∷ []) (length bank) t
at_end bank t = record { within = subst (λ n. length bank < n) (sym (length_end bank t)) (omega arith); tree = get_or-append_seam bank t [] (var 0) }

-- an argument by its place
pub below_at : (n : ℕ) (ks : List TermId) (i : ℕ) (d : TermId) → AreNumbersBelow n (numbers ks) → i < length ks → (slice_index_or ks i d).0 < n
below_at n [] i d b h = let none : ⊥ = omega (arith, h) in elim none [ ]
below_at n (k ∷ ks) zero d b h = b.0
below_at n (k ∷ ks) (suc i) d b h = let inner : i < length ks = omega (arith, h) in below_at n ks i d b.1 inner

-- one argument more, in a bank that grew
pub more_arguments : (a b : List Tree) (ks new : List TermId) (ts : List Tree) (k : TermId) (t : Tree) → Grows a b → AreNumbersBelow (length a) (numbers ks)
    → map (λ (j : TermId). tree_at a j.0) ks ≡ ts → IsAt b k.0 t → new ≡ ks ++ k ∷ [] → AreNumbersBelow (length b) (numbers new) × (map (λ (j : TermId). tree_at b j.0) new ≡ ts ++ t ∷ [])
more_arguments a b ks new ts k t g below trees at e =
    subst (λ (js : List TermId). AreNumbersBelow (length b) (numbers js) × (map (λ (j : TermId). tree_at b j.0) js ≡ ts ++ t ∷ [])) (sym e)
    (below_end ks (below_more (length a) (length b) (grows_length a b g) (numbers ks) below), trees_end ks ∙ ap₂ (λ (us : List Tree) (u : Tree). us ++ u ∷ []) (trees_grow a b g ks below ∙ trees) at.tree)
  where
    below_end : (ks : List TermId) → AreNumbersBelow (length b) (numbers ks) → AreNumbersBelow (length b) (numbers (ks ++ k ∷ []))
    below_end [] h = (at.within, tt)
    below_end (j ∷ js) h = (h.0, below_end js h.1)

    trees_end : (ks : List TermId) → map (λ (j : TermId). tree_at b j.0) (ks ++ k ∷ []) ≡ map (λ (j : TermId). tree_at b j.0) ks ++ tree_at b k.0 ∷ []
    trees_end [] = refl
    trees_end (j ∷ js) = ap (λ (us : List Tree). tree_at b j.0 ∷ us) (trees_end js)

-- what was counted of all arguments is what the application has
pub counted : (bank : List Tree) (ks : List TermId) (i size depth deep : ℕ) (f : ℕ) → length ks ≤ i
    → saturated (sizes_of (trees_of (map (λ (k : TermId). tree_at bank k.0) (drop i ks))) + size) ≡ saturated (sizes_of (trees_of (map (λ (k : TermId). tree_at bank k.0) ks)) + 1)
    → max (depths_of (trees_of (map (λ (k : TermId). tree_at bank k.0) (drop i ks)))) depth ≡ depths_of (trees_of (map (λ (k : TermId). tree_at bank k.0) ks))
    → saturated size ≡ size → deep ≡ depth + 1
    → IsMeasured (app f (trees_of (map (λ (k : TermId). tree_at bank k.0) ks))) (record { size = size; depth = deep })
counted bank ks i size depth deep f all sized levels small up =
    let none : drop i ks ≡ [] = drop_all i ks all in
    let none_sized : saturated (0 + size) ≡ saturated (sizes_of (trees_of (map (λ (k : TermId). tree_at bank k.0) ks)) + 1) =
    ap (λ (js : List TermId). saturated (sizes_of (trees_of (map (λ (k : TermId). tree_at bank k.0) js)) + size)) (sym none) ∙ sized in
    let none_deep : max 0 depth ≡ depths_of (trees_of (map (λ (k : TermId). tree_at bank k.0) ks)) =
    ap (λ (js : List TermId). max (depths_of (trees_of (map (λ (k : TermId). tree_at bank k.0) js))) depth) (sym none) ∙ levels in
    let plain_size : 0 + size ≡ size = omega arith in
    record { sized = sym small ∙ ap saturated (sym plain_size) ∙ none_sized; deep = up ∙ ap (λ n. n + 1) (grind arith ∙ none_deep) }

pub trees_next : (ts : List Term) (i : ℕ) (t : Term) → i < length ts → t ≡ get_or ts i t → tree_list (take i ts) ++ tree_of t ∷ [] ≡ tree_list (take (i + 1) ts)
trees_next ts i t h e = sym (ap tree_list (ap (λ n. take n ts) (add-one i) ∙ take-suc ts i t h)
    ∙ map-append tree_of (take i ts) (get_or ts i t ∷ []) ∙ ap (λ u. tree_list (take i ts) ++ tree_of u ∷ []) (sym e))
