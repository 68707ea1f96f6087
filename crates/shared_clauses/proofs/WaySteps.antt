-- Terms of a bank along a path.
use Rattle.std.proofs.Common.{◌≡◌, ℕ, zero, suc, ◌+◌, ◌-◌, ◌<◌, ◌≤◌, ◌==◌, Bool, true, false, if◌then◌else◌, List, [], ◌∷◌, ◌++◌, length, map, set, take, drop, slice_index_or, Option, Some, None, refl, sym, ap, ap₂, ◌∙◌, subst, arith, inl, inr}
use Rattle.std.specs.Option.{option_and_then}
use Rattle.std.proofs.lemmas.Bool.{cases_lt, ne_eqb}
use Rattle.std.proofs.lemmas.List.{get_or_append_left, length-append, length-take-le, take-append-drop, take_all, take_more}
use Rattle.std.proofs.Math.Seq.{get_or-append_seam}
use Rattle.fol_core.specs.Tree.{Tree, Trees, var, elem, app, none, more, trees_of}
use Rattle.shared_clauses.specs.Ways.{IsChanged, IsPart, IsWay, id_at}
use Rattle.substitutions.specs.Paths.{argument, part_at, replaced, subterm_at, with_argument, with_part}
use Rattle.term_bank.specs.Bank.{Grows, IsAt, tree_at}
use Rattle.term_bank.specs.Cells.{AreNumbersBelow, numbers}
use Rattle.term_bank.specs.declared.id.TermId.{TermId}
use Rattle.term_bank.proofs.Building.{below_more, grows_at}

abbrev all_of : List Tree → List TermId → Trees
all_of bank ks = trees_of (map (λ (k : TermId). tree_at bank k.0) ks)

skip : (n : ℕ) → (suc (suc n) == 1) ≡ false
skip n = ne_eqb (suc (suc n)) 1 (λ e. absurd (omega (arith, e)))

less : (n : ℕ) → suc (suc n) - 1 ≡ suc n
less n = omega arith

-- an argument by its number
pub argument_there : (bank : List Tree) (ks : List TermId) (n : ℕ) (d : TermId) → n < length ks → argument (all_of bank ks) (suc n) ≡ Some (tree_at bank (slice_index_or ks n d).0)
argument_there bank [] n d h = absurd (omega (arith, h))
argument_there bank (k ∷ ks) zero d h = refl
argument_there bank (k ∷ ks) (suc n) d h = ap₂ (λ b m. if b then Some (tree_at bank k.0) else argument (all_of bank ks) m) (skip n) (less n) ∙ argument_there bank ks n d (omega (arith, h))

pub argument_zero : (bank : List Tree) (ks : List TermId) → argument (all_of bank ks) 0 ≡ None
argument_zero bank [] = refl
argument_zero bank (k ∷ ks) = argument_zero bank ks

pub argument_past : (bank : List Tree) (ks : List TermId) (n : ℕ) → length ks < n → argument (all_of bank ks) n ≡ None
argument_past bank [] n h = refl
argument_past bank (k ∷ ks) zero h = absurd (omega (arith, h))
argument_past bank (k ∷ ks) (suc zero) h = absurd (omega (arith, h))
argument_past bank (k ∷ ks) (suc (suc n)) h = ap₂ (λ b m. if b then Some (tree_at bank k.0) else argument (all_of bank ks) m) (skip n) (less n) ∙ argument_past bank ks (suc n) (omega (arith, h))

pub below_at : (n : ℕ) (ks : List TermId) (i : ℕ) (d : TermId) → i < length ks → AreNumbersBelow n (numbers ks) → (slice_index_or ks i d).0 < n
below_at n [] i d h below = absurd (omega (arith, h))
below_at n (k ∷ ks) zero d h below = below.0
below_at n (k ∷ ks) (suc i) d h below = below_at n ks i d (omega (arith, h)) below.1

module _ (bank : List Tree) (n f number : ℕ) (ks : List TermId) (is : app f (all_of bank ks) ≡ tree_at bank n) (lt : n < length bank) (below : AreNumbersBelow n (numbers ks)) where
  pub no_part_zero : number ≡ 0 → part_at (tree_at bank n) number ≡ None
  no_part_zero e = ap (part_at (tree_at bank n)) e ∙ sym (ap (λ t. part_at t 0) is) ∙ argument_zero bank ks

  pub no_part_past : length ks < number → part_at (tree_at bank n) number ≡ None
  no_part_past h = sym (ap (λ t. part_at t number) is) ∙ argument_past bank ks number h

  pub part_there : (d : TermId) → (number ≡ 0 → ⊥) → number ≤ length ks → IsPart bank n number (slice_index_or ks (number - 1) d).0
  part_there d some le =
      let e : suc (number - 1) ≡ number = omega (arith, some) in
      let within : number - 1 < length ks = omega (arith, some, le) in
      let low = below_at n ks (number - 1) d within below in
      record {
        within = omega (arith, low, lt);
        tree = sym (ap (λ t. part_at t number) is) ∙ ap (argument (all_of bank ks)) (sym e) ∙ argument_there bank ks (number - 1) d within;
      }

-- another argument in place of that of a number
set_argument : (bank : List Tree) (ks : List TermId) (n : ℕ) (k : TermId) → n < length ks → with_argument (λ u. tree_at bank k.0) (all_of bank ks) (suc n) ≡ all_of bank (set ks n k)
set_argument bank [] n k h = absurd (omega (arith, h))
set_argument bank (j ∷ ks) zero k h = refl
set_argument bank (j ∷ ks) (suc n) k h = ap₂ (λ b m. if b then more (tree_at bank k.0) (all_of bank ks) else more (tree_at bank j.0) (with_argument (λ u. tree_at bank k.0) (all_of bank ks) m)) (skip n) (less n) ∙ ap (more (tree_at bank j.0)) (set_argument bank ks n k (omega (arith, h)))

zero_argument : (change : Tree → Tree) (bank : List Tree) (ks : List TermId) → with_argument change (all_of bank ks) 0 ≡ all_of bank ks
zero_argument change bank [] = refl
zero_argument change bank (k ∷ ks) = ap (more (tree_at bank k.0)) (zero_argument change bank ks)

past_argument : (change : Tree → Tree) (bank : List Tree) (ks : List TermId) (n : ℕ) → length ks < n → with_argument change (all_of bank ks) n ≡ all_of bank ks
past_argument change bank [] n h = refl
past_argument change bank (k ∷ ks) zero h = absurd (omega (arith, h))
past_argument change bank (k ∷ ks) (suc zero) h = absurd (omega (arith, h))
past_argument change bank (k ∷ ks) (suc (suc n)) h = ap₂ (λ b m. if b then more (change (tree_at bank k.0)) (all_of bank ks) else more (tree_at bank k.0) (with_argument change (all_of bank ks) m)) (skip n) (less n) ∙ ap (more (tree_at bank k.0)) (past_argument change bank ks (suc n) (omega (arith, h)))

set_below : (n : ℕ) (ks : List TermId) (i : ℕ) (k : TermId) → AreNumbersBelow n (numbers ks) → k.0 < n → AreNumbersBelow n (numbers (set ks i k))
set_below n [] i k below h = tt
set_below n (j ∷ ks) zero k below h = (h, below.1)
set_below n (j ∷ ks) (suc i) k below h = (below.0, set_below n ks i k below.1 h)

module _ (bank : List Tree) (n f number : ℕ) (k : TermId) (ks : List TermId) (is : app f (all_of bank ks) ≡ tree_at bank n) (lt : n < length bank) (below : AreNumbersBelow n (numbers ks)) where
  pub same_zero : number ≡ 0 → tree_at bank n ≡ with_part (λ u. tree_at bank k.0) (tree_at bank n) number
  same_zero e = sym (ap (with_part (λ u. tree_at bank k.0) (tree_at bank n)) e ∙ sym (ap (λ t. with_part (λ u. tree_at bank k.0) t 0) is) ∙ ap (app f) (zero_argument (λ u. tree_at bank k.0) bank ks) ∙ is)

  pub same_past : length ks < number → tree_at bank n ≡ with_part (λ u. tree_at bank k.0) (tree_at bank n) number
  same_past h = sym (sym (ap (λ t. with_part (λ u. tree_at bank k.0) t number) is) ∙ ap (app f) (past_argument (λ u. tree_at bank k.0) bank ks number h) ∙ is)

  pub changed_there : k.0 < length bank → (number ≡ 0 → ⊥) → number ≤ length ks → IsChanged bank (with_part (λ u. tree_at bank k.0) (tree_at bank n) number) f (set ks (number - 1) k)
  changed_there h some le =
      let e : suc (number - 1) ≡ number = omega (arith, some) in
      let within : number - 1 < length ks = omega (arith, some, le) in
      record {
        tree = ap (app f) (sym (set_argument bank ks (number - 1) k within)) ∙ ap (λ m. with_part (λ u. tree_at bank k.0) (app f (all_of bank ks)) m) e ∙ ap (λ t. with_part (λ u. tree_at bank k.0) t number) is;
        within = set_below (length bank) ks (number - 1) k (below_more n (length bank) (omega (arith, lt)) (numbers ks) below) h;
      }

-- a path with a number more
pub subterm_more : (t : Tree) (path : List ℕ) (k : ℕ) → subterm_at t (path ++ k ∷ []) ≡ option_and_then (λ u. part_at u k) (subterm_at t path)
subterm_more t [] k = by (part_at t k)
  where
    by : (o : Option Tree) → option_and_then (λ u. Some u) o ≡ o
    by None = refl
    by (Some u) = refl
subterm_more t (j ∷ path) k = by (part_at t j) (λ u. subterm_more u path k)
  where
    by : (o : Option Tree) → ((u : Tree) → subterm_at u (path ++ k ∷ []) ≡ option_and_then (λ v. part_at v k) (subterm_at u path))
        → option_and_then (λ u. subterm_at u (path ++ k ∷ [])) o ≡ option_and_then (λ u. part_at u k) (option_and_then (λ u. subterm_at u path) o)
    by None rest = refl
    by (Some u) rest = rest u

-- where the path isn't there so far, it isn't there
pub subterm_none : (t : Tree) (path rest : List ℕ) → subterm_at t path ≡ None → subterm_at t (path ++ rest) ≡ None
subterm_none t [] rest e = absurd (cc)
subterm_none t (j ∷ path) rest e = by (part_at t j) e (λ u f. subterm_none u path rest f)
  where
    by : (o : Option Tree) → option_and_then (λ u. subterm_at u path) o ≡ None → ((u : Tree) → subterm_at u path ≡ None → subterm_at u (path ++ rest) ≡ None) → option_and_then (λ u. subterm_at u (path ++ rest)) o ≡ None
    by None e below = refl
    by (Some u) e below = below u e

mutual
  with_same : (f g : Tree → Tree) (t : Tree) (k : ℕ) (u : Tree) → part_at t k ≡ Some u → f u ≡ g u → with_part f t k ≡ with_part g t k
  with_same f g (var x) k u at e = refl
  with_same f g (elem n) k u at e = refl
  with_same f g (app h ts) k u at e = ap (app h) (with_sames f g ts k u at e)

  with_sames : (f g : Tree → Tree) (ts : Trees) (k : ℕ) (u : Tree) → argument ts k ≡ Some u → f u ≡ g u → with_argument f ts k ≡ with_argument g ts k
  with_sames f g none k u at e = refl
  with_sames f g (more t ts) k u at e = by (k == 1) at (λ x. with_sames f g ts (k - 1) u x e)
    where
      by : (b : Bool) → (if b then Some t else argument ts (k - 1)) ≡ Some u → (argument ts (k - 1) ≡ Some u → with_argument f ts (k - 1) ≡ with_argument g ts (k - 1))
          → (if b then more (f t) ts else more t (with_argument f ts (k - 1))) ≡ (if b then more (g t) ts else more t (with_argument g ts (k - 1)))
      by true at rest = let same : t ≡ u = cc in ap (λ v. more v ts) (ap f same ∙ e ∙ ap g (sym same))
      by false at rest = ap (more t) (rest at)

-- what is put in at the end of a path is put in by its last number first
pub replaced_more : (t : Tree) (path : List ℕ) (k : ℕ) (s new : Tree) → subterm_at t path ≡ Some s → replaced t (path ++ k ∷ []) new ≡ replaced t path (with_part (λ u. new) s k)
replaced_more t [] k s new e = let same : t ≡ s = cc in ap (λ v. with_part (λ u. new) v k) same
replaced_more t (j ∷ path) k s new e = by (part_at t j) refl e (λ u f. replaced_more u path k s new f)
  where
    by : (o : Option Tree) → part_at t j ≡ o → option_and_then (λ u. subterm_at u path) o ≡ Some s → ((u : Tree) → subterm_at u path ≡ Some s → replaced u (path ++ k ∷ []) new ≡ replaced u path (with_part (λ v. new) s k))
        → with_part (λ u. replaced u (path ++ k ∷ []) new) t j ≡ with_part (λ u. replaced u path (with_part (λ v. new) s k)) t j
    by None at e below = absurd (cc)
    by (Some u) at e below = with_same (λ u. replaced u (path ++ k ∷ []) new) (λ u. replaced u path (with_part (λ v. new) s k)) t j u at (below u e)

take_shorter : (j i : ℕ) (path : List ℕ) → j ≤ i → take j (take i path) ≡ take j path
take_shorter zero i path le = refl
take_shorter (suc j) zero path le = absurd (omega (arith, le))
take_shorter (suc j) (suc i) [] le = refl
take_shorter (suc j) (suc i) (k ∷ path) le = ap (λ l. k ∷ l) (take_shorter j i path (omega (arith, le)))

-- a way, one term more
pub way_start : (bank : List Tree) (id : TermId) (way : List TermId) → way ≡ id ∷ [] → id.0 < length bank → IsWay bank (tree_at bank id.0) [] way
way_start bank id way e h = record {
  as_many = ap length e;
  within = λ i le. let zero_is : 0 ≡ i = omega (arith, le) in subst (λ (n : ℕ). id_at way n < length bank) zero_is (subst (λ (w : List TermId). id_at w 0 < length bank) (sym e) h);
  trees = λ i le.
      let zero_is : 0 ≡ i = omega (arith, le) in
      subst (λ (n : ℕ). subterm_at (tree_at bank id.0) (take n []) ≡ Some (tree_at bank (id_at way n))) zero_is (ap (λ (w : List TermId). Some (tree_at bank (id_at w 0))) (sym e));
}

one_more : (path : List ℕ) (i k : ℕ) → i < length path → k ≡ slice_index_or path i k → take (i + 1) path ≡ take i path ++ k ∷ []
one_more path i k h at = take_more path i k h ∙ ap (λ n. take i path ++ n ∷ []) (sym at)

front_at : (way : List TermId) (k : TermId) (i : ℕ) → i < length way → id_at (way ++ k ∷ []) i ≡ id_at way i
front_at way k i h = ap (λ (x : TermId). x.0) (get_or_append_left way (k ∷ []) record { 0 = 0 } i h)

last_at : (way : List TermId) (k : TermId) (i : ℕ) → i ≡ length way → id_at (way ++ k ∷ []) i ≡ k.0
last_at way k i e = ap (id_at (way ++ k ∷ [])) e ∙ ap (λ (x : TermId). x.0) (get_or-append_seam way k [] record { 0 = 0 })

module _ (bank : List Tree) (t : Tree) (path : List ℕ) (i k here : ℕ) (way : List TermId) (is : IsWay bank t (take i path) way) (at : here ≡ id_at way i) (h : i < length path) (number : k ≡ slice_index_or path i k) where
  as_far : length (take i path) ≡ i
  as_far = length-take-le i path (omega (arith, h))

  here_is : subterm_at t (take i path) ≡ Some (tree_at bank here)
  here_is =
      let all : take i (take i path) ≡ take i path = take_all i (take i path) (omega (arith, as_far)) in
      ap (subterm_at t) (sym all) ∙ is.trees i (omega (arith, as_far)) ∙ ap (λ n. Some (tree_at bank n)) (sym at)

  next_is : (next : TermId) → IsPart bank here k next.0 → subterm_at t (take (i + 1) path) ≡ Some (tree_at bank next.0)
  next_is next part = ap (subterm_at t) (one_more path i k h number) ∙ subterm_more t (take i path) k ∙ ap (option_and_then (λ u. part_at u k)) here_is ∙ part.tree

  pub way_next : (next : TermId) (all : List TermId) → IsPart bank here k next.0 → all ≡ way ++ next ∷ [] → IsWay bank t (take (i + 1) path) all
  way_next next all part pushed =
      let a = is.as_many in
      let b = as_far in
      let c : length (take (i + 1) path) ≡ i + 1 = length-take-le (i + 1) path (omega (arith, h)) in
      let d : length all ≡ length way + 1 = ap length pushed ∙ length-append way (next ∷ []) in
      record {
        as_many = omega (arith, a, b, c, d);
        within = λ j le. elim (cases_lt j (i + 1)) [
          | inl lt ↦ subst (λ n. n < length bank) (sym (front j (omega (arith, lt, a, b)))) (is.within j (omega (arith, lt, b)))
          | inr ge ↦ subst (λ n. n < length bank) (sym (last j (omega (arith, ge, le, a, b, c)))) part.within
        ];
        trees = λ j le. elim (cases_lt j (i + 1)) [
          | inl lt ↦ ap (subterm_at t) (shorter j (omega (arith, lt))) ∙ is.trees j (omega (arith, lt, b)) ∙ ap (λ n. Some (tree_at bank n)) (sym (front j (omega (arith, lt, a, b))))
          | inr ge ↦ ap (subterm_at t) (take_all j (take (i + 1) path) (omega (arith, ge, c))) ∙ next_is next part ∙ ap (λ n. Some (tree_at bank n)) (sym (last j (omega (arith, ge, le, a, b, c))))
        ];
      }
    where
      front : (j : ℕ) → j < length way → id_at all j ≡ id_at way j
      front j lt = ap (λ l. id_at l j) pushed ∙ front_at way next j lt

      last : (j : ℕ) → j ≡ length way → id_at all j ≡ next.0
      last j e = ap (λ l. id_at l j) pushed ∙ last_at way next j e

      shorter : (j : ℕ) → j ≤ i → take j (take (i + 1) path) ≡ take j (take i path)
      shorter j le = take_shorter j (i + 1) path (omega (arith, le)) ∙ sym (take_shorter j i path le)

  pub way_fails : part_at (tree_at bank here) k ≡ None → subterm_at t path ≡ None
  way_fails gone =
      let missing : subterm_at t (take (i + 1) path) ≡ None = ap (subterm_at t) (one_more path i k h number) ∙ subterm_more t (take i path) k ∙ ap (option_and_then (λ u. part_at u k)) here_is ∙ gone in
      ap (subterm_at t) (sym (take-append-drop (i + 1) path)) ∙ subterm_none t (take (i + 1) path) (drop (i + 1) path) missing

-- and at its end, upwards
pub up_next : (a b c : List Tree) (t : Tree) (way : List TermId) (path : List ℕ) (i n w : ℕ) (here k : TermId) (new : Tree) → IsWay a t path way → Grows a b → i < length path → n ≡ slice_index_or path i n → w ≡ id_at way i
    → new ≡ replaced t (take (i + 1) path) (tree_at b here.0) → IsAt c k.0 (with_part (λ u. tree_at b here.0) (tree_at b w) n) → new ≡ replaced t (take i path) (tree_at c k.0)
up_next a b c t way path i n w here k new is grows h number at before made =
    let there : id_at way i < length a = is.within i (omega (arith, h)) in
    let same : tree_at b w ≡ tree_at a (id_at way i) = ap (tree_at b) at ∙ grows_at a b grows (id_at way i) there in
    before ∙ ap (λ p. replaced t p (tree_at b here.0)) (one_more path i n h number) ∙ replaced_more t (take i path) n (tree_at a (id_at way i)) (tree_at b here.0) (is.trees i (omega (arith, h)))
    ∙ ap (λ s. replaced t (take i path) (with_part (λ u. tree_at b here.0) s n)) (sym same) ∙ ap (replaced t (take i path)) (sym made.tree)

-- the last term of a way
pub way_last : (bank : List Tree) (t : Tree) (path : List ℕ) (i : ℕ) (way all : List TermId) (next : TermId) → IsWay bank t (take i path) way → i < length path → all ≡ way ++ next ∷ [] → next.0 ≡ id_at all (i + 1)
way_last bank t path i way all next is h pushed =
    let a = is.as_many in
    let b : length (take i path) ≡ i = length-take-le i path (omega (arith, h)) in
    sym (ap (λ l. id_at l (i + 1)) pushed ∙ last_at way next (i + 1) (omega (arith, a, b)))
