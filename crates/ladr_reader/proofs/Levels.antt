-- What is built is the tree, as long as it has few levels.
use Rattle.std.proofs.Common.{◌≡◌, ℕ, ◌≤◌, ◌<◌, max, Bool, true, false, ◌&&◌, ◌⊎◌, List, [], ◌∷◌, ◌++◌, Option, Some, None, inl, inr, refl, sym, ap, ◌∙◌, arith, leb, if◌then◌else◌}
use Rattle.std.specs.Prelude.{nat_le, codes}
use Rattle.std.proofs.lemmas.Bool.{cases_Bool, cases_lt, and_from, both_ways}
use Rattle.std.proofs.lemmas.Slice.Eq.{bytes_eq-Decides}
use Rattle.std.proofs.lemmas.Bool.Decides.{nat_tests}
use Rattle.fol_core.specs.RawTree.{RawTree, named, quantified, no_raws, more_raws, depth, depth_of, raws_of}
use Rattle.fol_core.specs.declared.raw.Quantifier.{Quantifier}
use Rattle.ladr_reader.specs.Capped.{unless_too_deep, with_last_argument, application_within, quantification, is_bar, disjuncts, with_disjunct, disjunction_tree, all_within, disjuncts_within, single, capped_if, whole_of, is_one_argument, argument_in_front, finished}

-- one more argument
pub depth_of_append : (ts : List RawTree) (t : RawTree) → depth_of (raws_of (ts ++ t ∷ [])) ≡ max (depth_of (raws_of ts)) (depth t)
depth_of_append [] t = omega arith
depth_of_append (u ∷ ts) t = omega (arith, depth_of_append ts t)

-- the arguments, unless one has more than n levels
abbrev pub all_capped : ℕ → List RawTree → Option (List RawTree)
all_capped n ts = if leb (depth_of (raws_of ts)) n then Some ts else None

pub none_capped : (n : ℕ) → all_capped n [] ≡ Some []
none_capped n = grind (arith, nat_tests)

pub with_capped : (n : ℕ) (ts : List RawTree) (t : RawTree) → with_last_argument (all_capped n ts) (unless_too_deep n t) ≡ all_capped n (ts ++ t ∷ [])
with_capped n ts t = grind (arith, nat_tests, depth_of_append)

pub application_capped : (n : ℕ) (s : List ℕ) (ts : List RawTree) → application_within n s (all_capped n ts) ≡ unless_too_deep n (named s (raws_of ts))
application_capped n s ts = grind (arith, nat_tests)

pub quantification_capped : (n : ℕ) (q : Quantifier) (x : List ℕ) (t : RawTree) → quantification n q x (unless_too_deep n t) ≡ unless_too_deep n (quantified q x t)
quantification_capped n q x t = grind (arith, nat_tests)

-- a tree that is built is the tree
pub uncapped : (n : ℕ) (t u : RawTree) → unless_too_deep n t ≡ Some u → t ≡ u
uncapped n t u e = grind (arith, nat_tests)

-- a term is its disjuncts
pub disjunction_of : (t : RawTree) → disjunction_tree (disjuncts t) ≡ Some t
disjunction_of (quantified q x t) = refl
disjunction_of (named s no_raws) = refl
disjunction_of (named s (more_raws t no_raws)) = refl
disjunction_of (named s (more_raws t (more_raws u (more_raws v ts)))) = refl
disjunction_of (named s (more_raws t (more_raws u no_raws))) =
    elim (cases_Bool (is_bar s)) [
      | inl y ↦ (let e : s ≡ codes "|" = (bytes_eq-Decides s (codes "|")).0 y in
          rw y (ap (λ (o : Option RawTree). Some (with_disjunct t o)) (disjunction_of u) ∙ ap (λ (n : List ℕ). Some (named n (more_raws t (more_raws u no_raws)))) (sym e)))
      | inr n ↦ rw n refl
    ]

-- none has more levels than it
pub within_whole : (n : ℕ) (t : RawTree) → depth t ≤ n → all_within n (disjuncts t) ≡ true
within_whole n (quantified q x t) h = grind (arith, nat_tests)
within_whole n (named s no_raws) h = grind (arith, nat_tests)
within_whole n (named s (more_raws t no_raws)) h = grind (arith, nat_tests)
within_whole n (named s (more_raws t (more_raws u (more_raws v ts)))) h = grind (arith, nat_tests)
within_whole n (named s (more_raws t (more_raws u no_raws))) h =
    elim (cases_Bool (is_bar s)) [
      | inl y ↦ rw y (and_from (nat_le (depth t) n) (all_within n (disjuncts u)) (grind (arith, nat_tests)) (within_whole n u (omega arith)))
      | inr m ↦ rw m (grind (arith, nat_tests))
    ]

-- the tree of what is built
pub whole_built : (n : ℕ) (t : RawTree) → whole_of n (disjuncts_within n t) ≡ unless_too_deep n t
whole_built n t =
    elim (cases_Bool (all_within n (disjuncts t))) [
      | inl y ↦ rw y (ap (capped_if n) (disjunction_of t))
      | inr m ↦ rw m (elim (cases_lt n (depth t)) [
        | inl h ↦ sym (too_deep h)
        | inr h ↦ absurd (both_ways (all_within n (disjuncts t)) m (within_whole n t h))
      ])
    ]
  where
    too_deep : n < depth t → unless_too_deep n t ≡ None
    too_deep h = grind (arith, nat_tests)

-- a term of one disjunct
single_built : (n : ℕ) (t : RawTree) → disjuncts t ≡ t ∷ [] → single (unless_too_deep n t) ≡ disjuncts_within n t
single_built n t e = sym (ap (λ (ts : List RawTree). if all_within n ts then Some ts else None) e ∙ one)
  where
    one : (if all_within n (t ∷ []) then Some (t ∷ []) else None) ≡ single (unless_too_deep n t)
    one = grind (arith, nat_tests)

pub atom_built : (n : ℕ) (s : List ℕ) → single (application_within n s (Some [])) ≡ disjuncts_within n (named s no_raws)
atom_built n s = single_built n (named s no_raws) refl

pub quantification_built : (n : ℕ) (q : Quantifier) (x : List ℕ) (t : RawTree) → single (quantification n q x (whole_of n (disjuncts_within n t))) ≡ disjuncts_within n (quantified q x t)
quantification_built n q x t =
    ap (λ (o : Option RawTree). single (quantification n q x o)) (whole_built n t) ∙ ap single (quantification_capped n q x t) ∙ single_built n (quantified q x t) refl

-- an application that is no disjunction
plain : (n : ℕ) (s : List ℕ) (ts : List RawTree) (t : RawTree) → (is_bar s && is_one_argument (all_capped n ts)) ≡ false → disjuncts (named s (raws_of (ts ++ t ∷ []))) ≡ named s (raws_of (ts ++ t ∷ [])) ∷ []
    → finished n s (all_capped n ts) (disjuncts_within n t) ≡ disjuncts_within n (named s (raws_of (ts ++ t ∷ [])))
plain n s ts t f e =
    let all : application_within n s (with_last_argument (all_capped n ts) (whole_of n (disjuncts_within n t))) ≡ unless_too_deep n (named s (raws_of (ts ++ t ∷ []))) =
    ap (λ (o : Option RawTree). application_within n s (with_last_argument (all_capped n ts) o)) (whole_built n t) ∙ ap (application_within n s) (with_capped n ts t) ∙ application_capped n s (ts ++ t ∷ []) in
    ap (λ (b : Bool). if b then argument_in_front (all_capped n ts) (disjuncts_within n t) else single (application_within n s (with_last_argument (all_capped n ts) (whole_of n (disjuncts_within n t))))) f
    ∙ ap single all ∙ single_built n (named s (raws_of (ts ++ t ∷ []))) e

-- a disjunction
alongside : (n : ℕ) (s : List ℕ) (t u : RawTree) → is_bar s ≡ true → finished n s (all_capped n (t ∷ [])) (disjuncts_within n u) ≡ disjuncts_within n (named s (raws_of (t ∷ u ∷ [])))
alongside n s t u y = rw y (by (cases_Bool (nat_le (depth t) n)) (cases_Bool (all_within n (disjuncts u))))
  where
    by : (nat_le (depth t) n ≡ true) ⊎ (nat_le (depth t) n ≡ false) → (all_within n (disjuncts u) ≡ true) ⊎ (all_within n (disjuncts u) ≡ false)
        → (if is_one_argument (all_capped n (t ∷ [])) then argument_in_front (all_capped n (t ∷ [])) (disjuncts_within n u) else single (application_within n s (with_last_argument (all_capped n (t ∷ [])) (whole_of n (disjuncts_within n u)))))
        ≡ (if nat_le (depth t) n && all_within n (disjuncts u) then Some (t ∷ disjuncts u) else None)
    by (inl a) (inl b) = let c : all_capped n (t ∷ []) ≡ Some (t ∷ []) = grind (arith, nat_tests) in rw (c, a, b) refl
    by (inl a) (inr b) = let c : all_capped n (t ∷ []) ≡ Some (t ∷ []) = grind (arith, nat_tests) in rw (c, a, b) refl
    by (inr a) other = let c : all_capped n (t ∷ []) ≡ None = grind (arith, nat_tests) in rw (c, a) refl

both_false : (a b : Bool) → b ≡ false → (a && b) ≡ false
both_false true b h = h
both_false false b h = refl

not_one : (n : ℕ) (t u : RawTree) (ts : List RawTree) → is_one_argument (all_capped n (t ∷ u ∷ ts)) ≡ false
not_one n t u ts = grind (arith, nat_tests)

pub finished_built : (n : ℕ) (s : List ℕ) (ts : List RawTree) (t : RawTree) → finished n s (all_capped n ts) (disjuncts_within n t) ≡ disjuncts_within n (named s (raws_of (ts ++ t ∷ [])))
finished_built n s [] t = plain n s [] t (both_false (is_bar s) _ (ap is_one_argument (none_capped n))) refl
finished_built n s (u ∷ []) t =
    elim (cases_Bool (is_bar s)) [
      | inl y ↦ alongside n s u t y
      | inr m ↦ plain n s (u ∷ []) t (rw m refl) (rw m refl)
    ]
finished_built n s (u ∷ v ∷ []) t = plain n s (u ∷ v ∷ []) t (both_false (is_bar s) _ (not_one n u v [])) refl
finished_built n s (u ∷ v ∷ w ∷ ts) t = plain n s (u ∷ v ∷ w ∷ ts) t (both_false (is_bar s) _ (not_one n u v (w ∷ ts))) refl

-- disjuncts that are built tell the tree
pub unbuilt : (n : ℕ) (t u : RawTree) → disjuncts_within n t ≡ Some (disjuncts u) → t ≡ u
unbuilt n t u e =
    elim (cases_Bool (all_within n (disjuncts t))) [
      | inl y ↦ (let f : Some (disjuncts t) ≡ Some (disjuncts u) = sym (ap (λ (b : Bool). if b then Some (disjuncts t) else None) y) ∙ e in
          let g : disjuncts t ≡ disjuncts u = cc in
          let h : Some t ≡ Some u = sym (disjunction_of t) ∙ ap disjunction_tree g ∙ disjunction_of u in cc)
      | inr m ↦ absurd (let f : None ≡ Some (disjuncts u) = sym (ap (λ (b : Bool). if b then Some (disjuncts t) else None) m) ∙ e in cc)
    ]

-- what is told by a tree, by its lack, and by disjuncts and theirs
pub capped_some : (n : ℕ) (t u : RawTree) → Some u ≡ unless_too_deep n t → (t ≡ u) × (depth u ≤ n)
capped_some n t u e =
    let same = uncapped n t u (sym e) in
    let low : depth t ≤ n = grind (arith, nat_tests) in
    (same, omega (arith, ap depth same))

pub capped_none : (n : ℕ) (t : RawTree) → None ≡ unless_too_deep n t → n < depth t
capped_none n t e =
    elim (cases_lt n (depth t)) [
      | inl h ↦ h
      | inr h ↦ absurd (let some : unless_too_deep n t ≡ Some t = grind (arith, nat_tests) in cc)
    ]

pub built_some : (n : ℕ) (t : RawTree) (us : List RawTree) → Some us ≡ disjuncts_within n t → (us ≡ disjuncts t) × (all_within n us ≡ true)
built_some n t us e =
    elim (cases_Bool (all_within n (disjuncts t))) [
      | inl y ↦ (let f : Some us ≡ Some (disjuncts t) = e ∙ ap (λ (b : Bool). if b then Some (disjuncts t) else None) y in
          let g : us ≡ disjuncts t = cc in (g, ap (λ (ts : List RawTree). all_within n ts) g ∙ y))
      | inr m ↦ absurd (let f : Some us ≡ None = e ∙ ap (λ (b : Bool). if b then Some (disjuncts t) else None) m in cc)
    ]

pub built_none : (n : ℕ) (t : RawTree) → None ≡ disjuncts_within n t → all_within n (disjuncts t) ≡ false
built_none n t e =
    elim (cases_Bool (all_within n (disjuncts t))) [
      | inl y ↦ absurd (let f : None ≡ Some (disjuncts t) = e ∙ ap (λ (b : Bool). if b then Some (disjuncts t) else None) y in cc)
      | inr m ↦ m
    ]
