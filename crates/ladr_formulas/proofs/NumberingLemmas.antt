-- Variables that come last, and the table of the free ones.
use Rattle.std.proofs.Common.{◌≡◌, ℕ, suc, ◌+◌, ◌<◌, ◌≤◌, drop, get_or, Bool, true, false, cond, List, [], ◌∷◌, ◌++◌, length, Option, Some, None, inl, inr, refl, sym, ap, ◌∙◌, arith, add-zero, zero-add, append_assoc}
use Rattle.std.specs.Prelude.{Result, Ok, Err, is_ok, OnOk, if◌then◌else◌, ◌&&◌}
use Rattle.std.specs.Map.{keys_of}
use Rattle.std.specs.Str.{bytes_eq}
use Rattle.std.proofs.lemmas.Bool.{cases_Bool, both_ways, cond-true, cond-false}
use Rattle.std.proofs.lemmas.Bool.Decides.{same_from_decides, Decides-like}
use Rattle.std.proofs.lemmas.List.{length-append, append-nil, drop_all, drop_more}
use Rattle.std.proofs.lemmas.Map.Entries.{length-keys_of}
use Rattle.std.proofs.lemmas.Slice.Eq.{bytes_eq-Decides}
use Rattle.indexmap.specs.IndexMap.{insert_entry}
use Rattle.ladr_formulas.specs.Formulas.{free_number, names_of_variables}
use Rattle.ladr_formulas.specs.Formulas as formulas
use Rattle.ladr_formulas.specs.Numbering.{ShortName, woven, free_count, bound_count, number_in, AreNumbered}

counted_free : (ks : List Bool) → free_count (ks ++ true ∷ []) ≡ suc (free_count ks)
counted_free [] = refl
counted_free (true ∷ ks) = ap suc (counted_free ks)
counted_free (false ∷ ks) = counted_free ks

uncounted_free : (ks : List Bool) → bound_count (ks ++ true ∷ []) ≡ bound_count ks
uncounted_free [] = refl
uncounted_free (true ∷ ks) = uncounted_free ks
uncounted_free (false ∷ ks) = ap suc (uncounted_free ks)

counted_bound : (ks : List Bool) → bound_count (ks ++ false ∷ []) ≡ suc (bound_count ks)
counted_bound [] = refl
counted_bound (true ∷ ks) = counted_bound ks
counted_bound (false ∷ ks) = ap suc (counted_bound ks)

uncounted_bound : (ks : List Bool) → free_count (ks ++ false ∷ []) ≡ free_count ks
uncounted_bound [] = refl
uncounted_bound (true ∷ ks) = ap suc (uncounted_bound ks)
uncounted_bound (false ∷ ks) = uncounted_bound ks

-- where each variable has a name, there are as many
woven_long : (ks : List Bool) (fs : List ShortName) (bs : List (List ℕ)) → free_count ks ≡ length fs → bound_count ks ≡ length bs → length (woven ks fs bs) ≡ length ks
woven_long [] fs bs f b = refl
woven_long (true ∷ ks) [] bs f b = absurd (omega (arith, f))
woven_long (true ∷ ks) (x ∷ fs) bs f b = ap suc (woven_long ks fs bs (omega (arith, f)) b)
woven_long (false ∷ ks) fs [] f b = absurd (omega (arith, b))
woven_long (false ∷ ks) fs (x ∷ bs) f b = ap suc (woven_long ks fs bs f (omega (arith, b)))

pub length_woven : (ks : List Bool) (es : List (ShortName × ℕ)) (bs : List (List ℕ)) → AreNumbered ks es bs → length (woven ks (keys_of es) bs) ≡ length ks
length_woven ks es bs h = woven_long ks (keys_of es) bs (h.free_names ∙ sym (length-keys_of es)) h.bound_names

-- one free variable more, and one that isn't free
woven_free : (ks : List Bool) (fs : List ShortName) (bs : List (List ℕ)) (x : ShortName) → free_count ks ≡ length fs → bound_count ks ≡ length bs →
    woven (ks ++ true ∷ []) (fs ++ x ∷ []) bs ≡ woven ks fs bs ++ record { name = x.items; free = true } ∷ []
woven_free [] [] bs x f b = refl
woven_free [] (y ∷ fs) bs x f b = absurd (omega (arith, f))
woven_free (true ∷ ks) [] bs x f b = absurd (omega (arith, f))
woven_free (true ∷ ks) (y ∷ fs) bs x f b = ap (λ (l : List formulas.Variable). record { name = y.items; free = true } ∷ l) (woven_free ks fs bs x (omega (arith, f)) b)
woven_free (false ∷ ks) fs [] x f b = absurd (omega (arith, b))
woven_free (false ∷ ks) fs (y ∷ bs) x f b = ap (λ (l : List formulas.Variable). record { name = y; free = false } ∷ l) (woven_free ks fs bs x f (omega (arith, b)))

woven_bound : (ks : List Bool) (fs : List ShortName) (bs : List (List ℕ)) (x : List ℕ) → free_count ks ≡ length fs → bound_count ks ≡ length bs →
    woven (ks ++ false ∷ []) fs (bs ++ x ∷ []) ≡ woven ks fs bs ++ record { name = x; free = false } ∷ []
woven_bound [] fs [] x f b = refl
woven_bound [] fs (y ∷ bs) x f b = absurd (omega (arith, b))
woven_bound (true ∷ ks) [] bs x f b = absurd (omega (arith, f))
woven_bound (true ∷ ks) (y ∷ fs) bs x f b = ap (λ (l : List formulas.Variable). record { name = y.items; free = true } ∷ l) (woven_bound ks fs bs x (omega (arith, f)) b)
woven_bound (false ∷ ks) fs [] x f b = absurd (omega (arith, b))
woven_bound (false ∷ ks) fs (y ∷ bs) x f b = ap (λ (l : List formulas.Variable). record { name = y; free = false } ∷ l) (woven_bound ks fs bs x f (omega (arith, b)))

-- a variable that a quantifier brings is no free one
pub free_number_bound : (n : ℕ) (vs : List formulas.Variable) (x q : List ℕ) → free_number n (vs ++ record { name = x; free = false } ∷ []) q ≡ free_number n vs q
free_number_bound n [] x q = refl
free_number_bound n (v ∷ vs) x q = ap (λ (o : Option ℕ). if v.free && bytes_eq v.name q then Some n else o) (free_number_bound (suc n) vs x q)

-- texts are compared alike both ways
pub bytes_eq_both : (x y : List ℕ) → bytes_eq x y ≡ bytes_eq y x
bytes_eq_both x y = same_from_decides _ _ (bytes_eq-Decides x y) (Decides-like _ sym sym (bytes_eq-Decides y x))

some_is_none : (n : ℕ) → Some n ≡ None → ⊥
some_is_none n h = cc

same_choice : (a b : Bool) (x y z : Option ℕ) → a ≡ b → cond b x z ≡ cond a x (cond b y z)
same_choice true true x y z h = refl
same_choice false false x y z h = refl
same_choice true false x y z h = cc
same_choice false true x y z h = cc

apart_choice : (a b : Bool) (x y z : Option ℕ) → (a ≡ true → b ≡ true → ⊥) → cond b y (cond a x z) ≡ cond a x (cond b y z)
apart_choice true true x y z h = absurd (h refl refl)
apart_choice false false x y z h = refl
apart_choice true false x y z h = refl
apart_choice false true x y z h = refl

-- a new free one is found under its name
pub free_number_free : (n : ℕ) (vs : List formulas.Variable) (x q : List ℕ) → free_number n vs x ≡ None →
    free_number n (vs ++ record { name = x; free = true } ∷ []) q ≡ (if bytes_eq x q then Some (n + length vs) else free_number n vs q)
free_number_free n [] x q h = ap (λ (m : ℕ). if bytes_eq x q then Some m else None) (sym (add-zero n))
free_number_free n (v ∷ vs) x q h =
    elim (cases_Bool (v.free && bytes_eq v.name x)) [
      | inl t ↦ absurd (some_is_none n (sym (cond-true (v.free && bytes_eq v.name x) (Some n) (free_number (suc n) vs x) t) ∙ h))
      | inr t ↦ (
          let rest = free_number_free (suc n) vs x q (sym (cond-false (v.free && bytes_eq v.name x) (Some n) (free_number (suc n) vs x) t) ∙ h) in
          ap (λ (o : Option ℕ). if v.free && bytes_eq v.name q then Some n else o) rest ∙
          apart_choice (bytes_eq x q) (v.free && bytes_eq v.name q) (Some (suc n + length vs)) (Some n) (free_number (suc n) vs q)
          (λ e f. both_ways _ t (ap (λ (y : List ℕ). v.free && bytes_eq v.name y) ((bytes_eq-Decides x q).0 e) ∙ f)) ∙
          ap (λ (m : ℕ). if bytes_eq x q then Some m else (if v.free && bytes_eq v.name q then Some n else free_number (suc n) vs q)) (omega arith))
    ]

-- what stands under a name once a key has a number
pub number_put : (es : List (ShortName × ℕ)) (k : ShortName) (n : ℕ) (q : List ℕ) → number_in (insert_entry (λ u v. bytes_eq u.items v.items) es k n) q ≡ (if bytes_eq q k.items then Some n else number_in es q)
number_put [] k n q = refl
number_put (e ∷ es) k n q =
    elim (cases_Bool (bytes_eq k.items e.0.items)) [
      | inl t ↦ ap (λ (l : List (ShortName × ℕ)). number_in l q) (cond-true (bytes_eq k.items e.0.items) ((e.0, n) ∷ es) (e ∷ insert_entry (λ u v. bytes_eq u.items v.items) es k n) t) ∙
          same_choice (bytes_eq q k.items) (bytes_eq q e.0.items) (Some n) (Some e.1) (number_in es q) (ap (bytes_eq q) ((bytes_eq-Decides k.items e.0.items).0 t))
      | inr t ↦ ap (λ (l : List (ShortName × ℕ)). number_in l q) (cond-false (bytes_eq k.items e.0.items) ((e.0, n) ∷ es) (e ∷ insert_entry (λ u v. bytes_eq u.items v.items) es k n) t) ∙
          ap (λ (o : Option ℕ). cond (bytes_eq q e.0.items) (Some e.1) o) (number_put es k n q) ∙
          apart_choice (bytes_eq q k.items) (bytes_eq q e.0.items) (Some n) (Some e.1) (number_in es q)
          (λ a b. both_ways _ t ((bytes_eq-Decides k.items e.0.items).1 (sym ((bytes_eq-Decides q k.items).0 a) ∙ (bytes_eq-Decides q e.0.items).0 b)))
    ]

-- the table goes on having the free ones
pub bound_more : (ks : List Bool) (es : List (ShortName × ℕ)) (bs : List (List ℕ)) (x : List ℕ) → AreNumbered ks es bs →
    AreNumbered (ks ++ false ∷ []) es (bs ++ x ∷ []) × (woven (ks ++ false ∷ []) (keys_of es) (bs ++ x ∷ []) ≡ woven ks (keys_of es) bs ++ record { name = x; free = false } ∷ [])
bound_more ks es bs x h =
    let longer = woven_bound ks (keys_of es) bs x (h.free_names ∙ sym (length-keys_of es)) h.bound_names in (
      record {
        free_names = uncounted_bound ks ∙ h.free_names;
        bound_names = counted_bound ks ∙ ap suc h.bound_names ∙ sym (length-append bs (x ∷ []) ∙ omega arith);
        numbers = λ q. h.numbers q ∙ sym (free_number_bound 0 (woven ks (keys_of es) bs) x q) ∙ ap (λ (l : List formulas.Variable). free_number 0 l q) (sym longer);
      },
      longer,
    )

-- with a new name it has one more
put_last : (es : List (ShortName × ℕ)) (k : ShortName) (n : ℕ) → number_in es k.items ≡ None → insert_entry (λ u v. bytes_eq u.items v.items) es k n ≡ es ++ (k, n) ∷ []
put_last [] k n h = refl
put_last (e ∷ es) k n h =
    elim (cases_Bool (bytes_eq k.items e.0.items)) [
      | inl t ↦ absurd (some_is_none e.1 (sym (cond-true (bytes_eq k.items e.0.items) (Some e.1) (number_in es k.items) t) ∙ h))
      | inr t ↦ cond-false (bytes_eq k.items e.0.items) ((e.0, n) ∷ es) (e ∷ insert_entry (λ u v. bytes_eq u.items v.items) es k n) t ∙
          ap (λ (l : List (ShortName × ℕ)). e ∷ l) (put_last es k n (sym (cond-false (bytes_eq k.items e.0.items) (Some e.1) (number_in es k.items) t) ∙ h))
    ]

keys_last : (es : List (ShortName × ℕ)) (k : ShortName) (n : ℕ) → keys_of (es ++ (k, n) ∷ []) ≡ keys_of es ++ k ∷ []
keys_last [] k n = refl
keys_last (e ∷ es) k n = ap (λ (l : List ShortName). e.0 ∷ l) (keys_last es k n)

pub free_more : (ks : List Bool) (es : List (ShortName × ℕ)) (bs : List (List ℕ)) (k : ShortName) (n : ℕ) → n ≡ length ks → free_number 0 (woven ks (keys_of es) bs) k.items ≡ None → AreNumbered ks es bs →
    AreNumbered (ks ++ true ∷ []) (insert_entry (λ u v. bytes_eq u.items v.items) es k n) bs
    × (woven (ks ++ true ∷ []) (keys_of (insert_entry (λ u v. bytes_eq u.items v.items) es k n)) bs ≡ woven ks (keys_of es) bs ++ record { name = k.items; free = true } ∷ [])
free_more ks es bs k n number fresh h =
    let vs = woven ks (keys_of es) bs in
    let put = put_last es k n (h.numbers k.items ∙ fresh) in
    let keys : keys_of (insert_entry (λ u v. bytes_eq u.items v.items) es k n) ≡ keys_of es ++ k ∷ [] = ap (λ (l : List (ShortName × ℕ)). keys_of l) put ∙ keys_last es k n in
    let longer = ap (λ (l : List ShortName). woven (ks ++ true ∷ []) l bs) keys ∙ woven_free ks (keys_of es) bs k (h.free_names ∙ sym (length-keys_of es)) h.bound_names in
    let long : n ≡ 0 + length vs = number ∙ sym (length_woven ks es bs h) ∙ sym (zero-add (length vs)) in (
      record {
        free_names = counted_free ks ∙ ap suc h.free_names ∙ sym (ap length put ∙ length-append es ((k, n) ∷ []) ∙ omega arith);
        bound_names = uncounted_free ks ∙ h.bound_names;
        numbers = λ q. number_put es k n q ∙
            (λ i. if bytes_eq_both q k.items i then Some (long i) else h.numbers q i) ∙
            sym (free_number_free 0 vs k.items q fresh) ∙
            ap (λ (l : List formulas.Variable). free_number 0 l q) (sym longer);
      },
      longer,
    )

this_kind : (ks : List Bool) (i : ℕ) (k : Bool) → i < length ks → get_or ks i false ≡ k → drop i ks ≡ k ∷ drop (i + 1) ks
this_kind ks i k h e = drop_more ks i false h ∙ ap (λ (b : Bool). b ∷ drop (i + 1) ks) e

module _ (all : List (List ℕ)) (ks : List Bool) (i : ℕ) (fs rest : List ShortName) (bs left : List (List ℕ)) (ns more : List (List ℕ)) (here : i < length ks) (sofar : ns ++ names_of_variables (woven (drop i ks) fs bs) ≡ all) where
  sofar_by : (k : Bool) → get_or ks i false ≡ k → ns ++ names_of_variables (woven (k ∷ drop (i + 1) ks) fs bs) ≡ all
  sofar_by k e = ap (λ (l : List Bool). ns ++ names_of_variables (woven l fs bs)) (sym (this_kind ks i k here e)) ∙ sofar

  -- the name of a free variable more, and of one that isn't free; where none is left nothing is added
  pub free_next : (x : ShortName) (name : List ℕ) → get_or ks i false ≡ true → fs ≡ x ∷ rest → left ≡ bs → name ≡ x.items → more ≡ ns ++ name ∷ [] →
      more ++ names_of_variables (woven (drop (i + 1) ks) rest left) ≡ all
  free_next x name e f b n m =
      (λ j. (m ∙ ap (λ (t : List ℕ). ns ++ t ∷ []) n) j ++ names_of_variables (woven (drop (i + 1) ks) rest (b j))) ∙ append_assoc ns (x.items ∷ []) (names_of_variables (woven (drop (i + 1) ks) rest bs)) ∙
      ap (λ (l : List ShortName). ns ++ names_of_variables (woven (true ∷ drop (i + 1) ks) l bs)) (sym f) ∙ sofar_by true e

  pub free_over : get_or ks i false ≡ true → fs ≡ [] → rest ≡ [] → left ≡ bs → more ≡ ns → more ++ names_of_variables (woven (drop (i + 1) ks) rest left) ≡ all
  free_over e f r b m =
      (λ j. m j ++ names_of_variables (woven (drop (i + 1) ks) (r j) (b j))) ∙
      ap (λ (l : List ShortName). ns ++ names_of_variables (woven (true ∷ drop (i + 1) ks) l bs)) (sym f) ∙ sofar_by true e

  pub bound_next : (x : List ℕ) → get_or ks i false ≡ false → bs ≡ x ∷ left → rest ≡ fs → more ≡ ns ++ x ∷ [] → more ++ names_of_variables (woven (drop (i + 1) ks) rest left) ≡ all
  bound_next x e b f m =
      (λ j. m j ++ names_of_variables (woven (drop (i + 1) ks) (f j) left)) ∙ append_assoc ns (x ∷ []) (names_of_variables (woven (drop (i + 1) ks) fs left)) ∙
      ap (λ (l : List (List ℕ)). ns ++ names_of_variables (woven (false ∷ drop (i + 1) ks) fs l)) (sym b) ∙ sofar_by false e

  pub bound_over : get_or ks i false ≡ false → bs ≡ [] → left ≡ [] → rest ≡ fs → more ≡ ns → more ++ names_of_variables (woven (drop (i + 1) ks) rest left) ≡ all
  bound_over e b l f m =
      (λ j. m j ++ names_of_variables (woven (drop (i + 1) ks) (f j) (l j))) ∙ by fs ∙
      ap (λ (u : List (List ℕ)). ns ++ names_of_variables (woven (false ∷ drop (i + 1) ks) fs u)) (sym b) ∙ sofar_by false e
    where
      by : (us : List ShortName) → ns ++ names_of_variables (woven (drop (i + 1) ks) us []) ≡ ns ++ names_of_variables (woven (false ∷ drop (i + 1) ks) us [])
      by [] = refl
      by (u ∷ us) = refl

-- where no variable is left the names so far are all
pub woven_ends : (ns all : List (List ℕ)) (ks : List Bool) (fs : List ShortName) (bs : List (List ℕ)) (i : ℕ) → length ks ≤ i → ns ++ names_of_variables (woven (drop i ks) fs bs) ≡ all → ns ≡ all
woven_ends ns all ks fs bs i h e = sym (append-nil ns) ∙ ap (λ (l : List Bool). ns ++ names_of_variables (woven l fs bs)) (sym (drop_all i ks h)) ∙ e

pub on_ok_holds : {T E : Type 0} (r : Result T E) (P : Type 0) → is_ok r ≡ true → OnOk r P → P
on_ok_holds (Ok x) P e h = h
on_ok_holds (Err x) P e h = absurd (cc)
