-- Members of lists, and lists whose members differ.
use Rattle.std.proofs.Common.{◌≡◌, inl, inr, ◌⊎◌, suc, ◌+◌, ◌≤◌, List, [], ◌∷◌, ◌++◌, length, refl, sym, ap, ◌∙◌, subst, arith}
use Rattle.unify.specs.Reaches.{Differ}
use Rattle.unify.specs.Spots.{In}

pub in_front : {A : Type 0} (x : A) (xs ys : List A) → In x xs → In x (xs ++ ys)
in_front x [] ys i = absurd i
in_front x (y ∷ xs) ys (inl e) = inl e
in_front x (y ∷ xs) ys (inr i) = inr (in_front x xs ys i)

pub in_behind : {A : Type 0} (x : A) (xs ys : List A) → In x ys → In x (xs ++ ys)
in_behind x [] ys i = i
in_behind x (y ∷ xs) ys i = inr (in_behind x xs ys i)

pub in_cases : {A : Type 0} (x : A) (xs ys : List A) → In x (xs ++ ys) → In x xs ⊎ In x ys
in_cases x [] ys i = inr i
in_cases x (y ∷ xs) ys (inl e) = inl (inl e)
in_cases x (y ∷ xs) ys (inr i) = elim (in_cases x xs ys i) [ inl j ↦ inl (inr j) | inr j ↦ inr j ]

pub in_last : {A : Type 0} (x y : A) → In x (y ∷ []) → x ≡ y
in_last x y (inl e) = e
in_last x y (inr i) = absurd i

pub assoc : {A : Type 0} (xs ys zs : List A) → (xs ++ ys) ++ zs ≡ xs ++ (ys ++ zs)
assoc [] ys zs = refl
assoc (x ∷ xs) ys zs = ap (λ l. x ∷ l) (assoc xs ys zs)

pub nothing_more : {A : Type 0} (xs : List A) → xs ++ [] ≡ xs
nothing_more [] = refl
nothing_more (x ∷ xs) = ap (λ l. x ∷ l) (nothing_more xs)

pub one_longer : {A : Type 0} (xs : List A) (x : A) → length (xs ++ x ∷ []) ≡ suc (length xs)
one_longer [] x = refl
one_longer (y ∷ xs) x = ap suc (one_longer xs x)

pub differ_end : {A : Type 0} (xs : List A) (x : A) → Differ xs → ¬ In x xs → Differ (xs ++ x ∷ [])
differ_end [] x d n = ((λ i. i), tt)
differ_end (y ∷ xs) x d n = ((λ i. elim (in_cases y xs (x ∷ []) i) [ inl j ↦ d.0 j | inr j ↦ n (inl (sym (in_last y x j))) ]), differ_end xs x d.1 (λ i. n (inr i)))

taken : {A : Type 0} (x : A) (ys : List A) → In x ys → (zs : List A) × (length ys ≡ suc (length zs)) × ((z : A) → In z ys → (z ≡ x) ⊎ In z zs)
taken x [] i = absurd i
taken x (y ∷ ys) (inl e) = (ys, refl, λ z h. elim h [ inl k ↦ inl (k ∙ sym e) | inr k ↦ inr k ])
taken x (y ∷ ys) (inr i) =
    let r = taken x ys i in
    (y ∷ r.0, ap suc r.1, λ z h. elim h [ inl k ↦ inr (inl k) | inr k ↦ elim (r.2 z k) [ inl j ↦ inl j | inr j ↦ inr (inr j) ] ])

-- different members of a list are no more than it has
pub no_more : {A : Type 0} (xs ys : List A) → Differ xs → ((z : A) → In z xs → In z ys) → length xs ≤ length ys
no_more [] ys d sub = omega arith
no_more (x ∷ xs) ys d sub =
    let r = taken x ys (sub x (inl refl)) in
    let le : length xs ≤ length r.0 = no_more xs r.0 d.1 (λ z i. elim (r.2 z (sub z (inr i))) [ inl e ↦ absurd (d.0 (subst (λ w. In w xs) e i)) | inr j ↦ j ]) in
    omega (arith, r.1, le)

pub one_more : {A : Type 0} (xs ys : List A) (x : A) → Differ xs → ((z : A) → In z xs → In z ys) → ¬ In x xs → In x ys → length xs + 1 ≤ length ys
one_more xs ys x d sub fresh there =
    let le = no_more (xs ++ x ∷ []) ys (differ_end xs x d fresh) (λ z i. elim (in_cases z xs (x ∷ []) i) [ inl j ↦ sub z j | inr j ↦ subst (λ w. In w ys) (sym (in_last z x j)) there ]) in
    omega (arith, le, one_longer xs x)
