-- The variables of a clause that numbering leaves as it is are the first numbers in their order.
use Rattle.std.proofs.Common.{◌≡◌, ℕ, suc, ◌+◌, ◌≤◌, Bool, true, false, List, [], ◌∷◌, ◌++◌, length, Option, Some, None, inl, inr, refl, sym, ap, ◌∙◌, subst, append_assoc, arith}
use Rattle.std.specs.Prelude.{◌==◌, is_some, unwrap_or, if◌then◌else◌}
use Rattle.std.specs.List.{list_any}
use Rattle.std.proofs.lemmas.Bool.{cases_Bool, cond-true, cond-false, eq-eqb, or_left, or_right, both_ways}
use Rattle.std.proofs.lemmas.List.{append-nil, length-append}
use Rattle.fol_core.specs.Free.{is_in, noted, joined}
use Rattle.fol_core.specs.Literals.{ClauseTree}
use Rattle.fol_core.specs.Renumbered.{clause_variables, place_in, by_place, renumbered}
use Rattle.fol_core.specs.SymbolTable.{first_place}
use Rattle.fol_core.specs.Tree.{var}
use Rattle.fol_core.proofs.Places.{first_place-any, first_place-append, first_place-push}
use Rattle.ladr_print.proofs.Upto.{upto}
use Rattle.substitutions.proofs.Composing.{agrees_clause, substitute_variables_clause, clause_listed}
use Rattle.proof_print.proofs.ClauseReading.{clause_once}

-- each variable stands at its own place
stays_put : (c : ClauseTree) → renumbered c ≡ c → (x : ℕ) → is_in x (clause_variables c) ≡ true → place_in (clause_variables c) x ≡ x
stays_put c e x i =
    let v : var (place_in (clause_variables c) x) ≡ var x = agrees_clause (by_place (clause_variables c)) var c (e ∙ sym (substitute_variables_clause c)) x (clause_listed x c ∙ i) in
    cc

nowhere : (test : ℕ → Bool) (xs : List ℕ) → list_any test xs ≡ false → first_place test xs ≡ None
nowhere test xs h = by (first_place test xs) refl
  where
    by : (o : Option ℕ) → first_place test xs ≡ o → o ≡ None
    by None e = refl
    by (Some m) e = absurd (both_ways (list_any test xs) h (sym (first_place-any test xs) ∙ ap is_some e))

noted_length : (xs : List ℕ) (y : ℕ) → length (noted xs y) ≤ length xs + 1
noted_length xs y = by (is_in y xs)
  where
    by : (b : Bool) → length (if b then xs else xs ++ y ∷ []) ≤ length xs + 1
    by true = omega arith
    by false = omega (arith, length-append xs (y ∷ []))

joined_length : (xs ys : List ℕ) → length (joined xs ys) ≤ length xs + length ys
joined_length xs [] = omega arith
joined_length xs (y ∷ ys) = omega (arith, joined_length (noted xs y) ys, noted_length xs y)

fresh : (ys : List ℕ) (z : ℕ) (zs : List ℕ) → joined (noted ys z) zs ≡ ys ++ (z ∷ zs) → is_in z ys ≡ false
fresh ys z zs d =
    elim (cases_Bool (is_in z ys)) [
      | inl y ↦ absurd (let old : noted ys z ≡ ys = cond-true (is_in z ys) _ _ y in
          let same : joined ys zs ≡ ys ++ (z ∷ zs) = ap (λ (l : List ℕ). joined l zs) (sym old) ∙ d in
          omega (arith, ap length same, joined_length ys zs, length-append ys (z ∷ zs)))
      | inr n ↦ n
    ]

-- numbers that stand at their own places, each once, are the first ones
grow : (ys zs : List ℕ) → ys ≡ upto (length ys) → joined ys zs ≡ ys ++ zs → ((x : ℕ) → is_in x zs ≡ true → place_in (ys ++ zs) x ≡ x) → ys ++ zs ≡ upto (length (ys ++ zs))
grow ys [] e d p = subst (λ (l : List ℕ). l ≡ upto (length l)) (sym (append-nil ys)) e
grow ys (z ∷ zs) e d p =
    let out : is_in z ys ≡ false = fresh ys z zs d in
    let one : (z == z) ≡ true = eq-eqb z z refl in
    let assoc : (ys ++ z ∷ []) ++ zs ≡ ys ++ (z ∷ zs) = append_assoc ys (z ∷ []) zs in
    let at : first_place (λ y. z == y) ((ys ++ z ∷ []) ++ zs) ≡ Some (length ys) =
    first_place-append (λ y. z == y) (ys ++ z ∷ []) zs (length ys) (first_place-push (λ y. z == y) ys z (nowhere (λ y. z == y) ys out) one)
    in
    let here : z ≡ length ys =
    sym (p z (or_left (z == z) (is_in z zs) one)) ∙ ap (λ (l : List ℕ). place_in l z) (sym assoc) ∙ ap (λ (o : Option ℕ). unwrap_or o 0) at
    in
    let size : suc (length ys) ≡ length (ys ++ z ∷ []) = omega (arith, length-append ys (z ∷ [])) in
    let front : ys ++ z ∷ [] ≡ upto (length (ys ++ z ∷ [])) = (λ i. e i ++ here i ∷ []) ∙ ap upto size in
    let noted_is : noted ys z ≡ ys ++ z ∷ [] = cond-false (is_in z ys) _ _ out in
    let once : joined (ys ++ z ∷ []) zs ≡ (ys ++ z ∷ []) ++ zs = ap (λ (l : List ℕ). joined l zs) (sym noted_is) ∙ d ∙ sym assoc in
    subst (λ (l : List ℕ). l ≡ upto (length l)) assoc
    (grow (ys ++ z ∷ []) zs front once (λ x i. ap (λ (l : List ℕ). place_in l x) assoc ∙ p x (or_right (x == z) (is_in x zs) i)))

pub numbered_upto : (c : ClauseTree) → renumbered c ≡ c → clause_variables c ≡ upto (length (clause_variables c))
numbered_upto c e = grow [] (clause_variables c) refl (clause_once c) (stays_put c e)
