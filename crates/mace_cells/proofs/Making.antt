-- Arrays that steps made.
use Rattle.std.proofs.Common.{◌≡◌, ℕ, zero, suc, ◌+◌, ◌*◌, ◌<◌, ◌≤◌, ◌==◌, Bool, true, false, ◌||◌, if◌then◌else◌, List, [], ◌∷◌, ◌++◌, Option, None, Some, IfNone, length, replicate, get_or, set, refl, sym, ap, ◌∙◌, subst, arith}
use Rattle.std.specs.List.{sum_by}
use Rattle.std.proofs.lemmas.Bool.{eqb-true, eqb-false}
use Rattle.std.proofs.lemmas.List.{get_or-set_same, get_or-set_other, length-set}
use Rattle.std.proofs.lemmas.List.Folds.{sum_by-replicate}
use Rattle.std.proofs.lemmas.List.Sums.{sum_by-set, get_or-le-sum_by}
use Rattle.std.proofs.lemmas.Nat.{mul-add-lt}
use Rattle.mace_cells.specs.Made.{IsMade}
use Rattle.mace_cells.specs.Trails.{value_in, is_struck_off, cells_written, struck}
use Rattle.mace_cells.specs.declared.trail.TrailEntry.{TrailEntry}

length_replicate : {X : Type 0} → (n : ℕ) (x : X) → length (replicate n x) ≡ n
length_replicate zero x = refl
length_replicate (suc n) x = ap suc (length_replicate n x)

pub made_length : {X : Type 0} → (blank : X) (many : ℕ) (ps : List (ℕ × X)) (xs : List X) → IsMade blank many ps xs → length xs ≡ many
made_length {X = X} blank many [] xs made = ap (λ (ys : List X). length ys) made ∙ length_replicate many blank
made_length blank many (p ∷ ps) xs made = sym (length-set xs p.0 blank) ∙ made_length blank many ps (set xs p.0 blank) made.2

set_back : {X : Type 0} → (xs : List X) (i : ℕ) (x blank : X) → get_or xs i blank ≡ blank → set (set xs i x) i blank ≡ xs
set_back [] i x blank e = refl
set_back {X = X} (y ∷ xs) zero x blank e = ap (λ (z : X). z ∷ xs) (sym e)
set_back {X = X} (y ∷ xs) (suc i) x blank e = ap (λ (ys : List X). y ∷ ys) (set_back xs i x blank e)

-- a step that writes where nothing stood
pub made_more : {X : Type 0} → (blank : X) (many : ℕ) (ps : List (ℕ × X)) (xs : List X) (i : ℕ) (x : X) → IsMade blank many ps xs → i < length xs → get_or xs i blank ≡ blank
    → IsMade blank many ((i, x) ∷ ps) (set xs i x)
made_more {X = X} blank many ps xs i x made within empty = (
  let same : length (set xs i x) ≡ length xs = length-set xs i x in omega (arith, same, within),
  get_or-set_same xs i x blank within,
  subst (λ (ys : List X). IsMade blank many ps ys) (sym (set_back xs i x blank empty)) made,
)

-- each step writes what is no blank
abbrev pub AreNoBlanks : {X : Type 0} → (X → ℕ) → List (ℕ × X) → Type 0
AreNoBlanks f [] = Unit {0}
AreNoBlanks f (p ∷ ps) = (f p.1 ≡ 0) × AreNoBlanks f ps

-- the blanks that are left and the steps make up all of an array
blanks : {X : Type 0} → (blank : X) (f : X → ℕ) (many : ℕ) (ps : List (ℕ × X)) (xs : List X) → f blank ≡ 1 → AreNoBlanks f ps → IsMade blank many ps xs → sum_by f xs + length ps ≡ many
blanks {X = X} blank f many [] xs one none made =
    let all : sum_by f xs ≡ many * f blank = ap (sum_by f) made ∙ sum_by-replicate f many blank in
    let each : many * f blank ≡ many * 1 = ap (λ (k : ℕ). many * k) one in
    omega (arith, all, each)
blanks blank f many (p ∷ ps) xs one none made =
    let rest = blanks blank f many ps (set xs p.0 blank) one none.1 made.2 in
    let here : f (get_or xs p.0 blank) ≡ f p.1 = ap f made.1 in
    let step = sum_by-set f xs p.0 blank blank made.0 in
    omega (arith, rest, here, step, one, none.0)

pub room_left : {X : Type 0} → (blank : X) (f : X → ℕ) (many : ℕ) (ps : List (ℕ × X)) (xs : List X) (i : ℕ) → f blank ≡ 1 → AreNoBlanks f ps → IsMade blank many ps xs → i < length xs
    → get_or xs i blank ≡ blank → length ps < many
room_left blank f many ps xs i one none made within empty =
    let all = blanks blank f many ps xs one none made in
    let here : f (get_or xs i blank) ≡ f blank = ap f empty in
    let some = get_or-le-sum_by f xs i blank within in
    omega (arith, all, here, some, one)

-- what the array of values has for a cell
pub value_read : (many : ℕ) (es : List TrailEntry) (xs : List (Option ℕ)) (k : ℕ) → IsMade None many (cells_written es) xs → get_or xs k None ≡ value_in es k
value_read many [] xs k made = ap (λ (ys : List (Option ℕ)). get_or ys k None) made ∙ blank_read many k
  where
    blank_read : (n i : ℕ) → ◌≡◌ {A = Option ℕ} (get_or (replicate n None) i None) None
    blank_read zero i = refl
    blank_read (suc n) zero = refl
    blank_read (suc n) (suc i) = blank_read n i
value_read many (e ∷ es) xs k made = by (k == e.cell) refl (value_read many es (set xs e.cell None) k made.2)
  where
    by : (b : Bool) → (k == e.cell) ≡ b → get_or (set xs e.cell None) k None ≡ value_in es k → get_or xs k None ≡ (if b then Some e.value else value_in es k)
    by true t rest = ap (λ (i : ℕ). get_or xs i None) (eqb-true k e.cell t) ∙ made.1
    by false t rest = sym (get_or-set_other xs e.cell k None None (eqb-false k e.cell t)) ∙ rest

-- and the array of what is crossed off
pub struck_read : (many : ℕ) (ks : List ℕ) (xs : List Bool) (k : ℕ) → IsMade false many (struck ks) xs → get_or xs k false ≡ is_struck_off k ks
struck_read many [] xs k made = ap (λ (ys : List Bool). get_or ys k false) made ∙ blank_read many k
  where
    blank_read : (n i : ℕ) → get_or (replicate n false) i false ≡ false
    blank_read zero i = refl
    blank_read (suc n) zero = refl
    blank_read (suc n) (suc i) = blank_read n i
struck_read many (j ∷ ks) xs k made = by (k == j) refl (struck_read many ks (set xs j false) k made.2)
  where
    by : (b : Bool) → (k == j) ≡ b → get_or (set xs j false) k false ≡ is_struck_off k ks → get_or xs k false ≡ (b || is_struck_off k ks)
    by true t rest = ap (λ (i : ℕ). get_or xs i false) (eqb-true k j t) ∙ made.1
    by false t rest = sym (get_or-set_other xs j k false false (eqb-false k j t)) ∙ rest

abbrev pub blank_value : Option ℕ → ℕ
blank_value None = 1
blank_value (Some v) = 0

abbrev pub blank_flag : Bool → ℕ
blank_flag false = 1
blank_flag true = 0

pub no_blank_values : (es : List TrailEntry) → AreNoBlanks blank_value (cells_written es)
no_blank_values [] = tt
no_blank_values (e ∷ es) = (refl, no_blank_values es)

pub no_blank_flags : (ks : List ℕ) → AreNoBlanks blank_flag (struck ks)
no_blank_flags [] = tt
no_blank_flags (k ∷ ks) = (refl, no_blank_flags ks)

-- the place of a value of a cell
pub in_table : (stride many end cell value : ℕ) → end ≡ many * stride → cell < many → value < stride → cell * stride + value < end
in_table stride many end cell value e h k =
    let below = mul-add-lt cell stride value many h k in
    let same : many * stride ≡ stride * many = grind arith in
    omega (arith, below, same, e)

pub many_written : (es : List TrailEntry) → length (cells_written es) ≡ length es
many_written [] = refl
many_written (e ∷ es) = ap suc (many_written es)

pub many_struck : (ks : List ℕ) → length (struck ks) ≡ length ks
many_struck [] = refl
many_struck (k ∷ ks) = ap suc (many_struck ks)

-- each step wrote within the array
made_at : (many : ℕ) (later earlier : List TrailEntry) (e : TrailEntry) (xs : List (Option ℕ)) → IsMade None many (cells_written (later ++ e ∷ earlier)) xs → e.cell < length xs
made_at many [] earlier e xs made = made.0
made_at many (f ∷ later) earlier e xs made =
    let rest = made_at many later earlier e (set xs f.cell None) made.2 in
    let same : length (set xs f.cell None) ≡ length xs = length-set xs f.cell None in
    omega (arith, rest, same)

pub made_within : (many : ℕ) (es later earlier : List TrailEntry) (e : TrailEntry) (xs : List (Option ℕ)) → IsMade None many (cells_written es) xs → es ≡ later ++ e ∷ earlier → e.cell < length xs
made_within many es later earlier e xs made is = made_at many later earlier e xs (subst (λ (fs : List TrailEntry). IsMade None many (cells_written fs) xs) is made)

-- a cell without a value is not among those that have one
pub room_at : (es : List TrailEntry) (xs : List (Option ℕ)) (k : ℕ) → IsMade None (length xs) (cells_written es) xs → k < length xs → IfNone (get_or xs k None) (length es < length xs)
room_at es xs k made within = by (get_or xs k None) refl
  where
    by : (o : Option ℕ) → get_or xs k None ≡ o → IfNone o (length es < length xs)
    by None e = let left = room_left None blank_value (length xs) (cells_written es) xs k refl (no_blank_values es) made within e in omega (arith, left, many_written es)
    by (Some v) e = tt

-- no more cells have values than there are
pub few_made : (es : List TrailEntry) (xs : List (Option ℕ)) → IsMade None (length xs) (cells_written es) xs → length es ≤ length xs
few_made es xs made = let all = blanks None blank_value (length xs) (cells_written es) xs refl (no_blank_values es) made in omega (arith, all, many_written es)
