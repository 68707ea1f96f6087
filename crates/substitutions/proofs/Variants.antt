-- Clauses that are the same but for the numbers of their variables.
use Rattle.std.proofs.Common.{◌≡◌, ℕ, suc, Bool, true, false, ◌==◌, ◌||◌, if◌then◌else◌, IsTrue, List, [], ◌∷◌, ◌++◌, map, slice_index, Some, unwrap_or, option_map, refl, sym, ap, ap₂, ◌∙◌}
use Rattle.std.proofs.lemmas.Bool.{eqb-true, eq-eqb, or_left, or_right}
use Rattle.fol_core.specs.Free.{is_in, noted, joined, variables_of, variables_of_all}
use Rattle.fol_core.specs.Literals.{ClauseTree}
use Rattle.fol_core.specs.Renumbered.{clause_variables, by_place, renumbered}
use Rattle.fol_core.specs.SymbolTable.{first_place}
use Rattle.fol_core.specs.Substitutions.{Substitution, substitute, substitute_all}
use Rattle.fol_core.specs.Tree.{Tree, var, elem, app, Trees, none, more}
use Rattle.fol_core.proofs.Variables.{is_in_joined}
use Rattle.substitutions.specs.Instances.{substitute_clause, followed, AreVariants}
use Rattle.substitutions.specs.Occurring.{occurs_in_clause}
use Rattle.substitutions.proofs.Composing.{substitute_variables_clause, substitute_twice_clause, substitute_alike_clause, agrees_clause, clause_listed}
use Rattle.substitutions.proofs.Numbering.{at_place}

-- numbers that p renames and q names back
abbrev Named : (ℕ → ℕ) → (ℕ → ℕ) → List ℕ → Type 0
Named p q xs = (x : ℕ) → IsTrue (is_in x xs) → q (p x) ≡ x

module _ (p q : ℕ → ℕ) where
  same_test : (x y : ℕ) → q (p x) ≡ x → q (p y) ≡ y → (p x == p y) ≡ (x == y)
  same_test x y hx hy = by (p x == p y) refl (x == y) refl
    where
      by : (b : Bool) → (p x == p y) ≡ b → (c : Bool) → (x == y) ≡ c → b ≡ c
      by true e c is = sym (eq-eqb x y (sym hx ∙ ap q (eqb-true (p x) (p y) e) ∙ hy)) ∙ is
      by false e true is = sym e ∙ eq-eqb (p x) (p y) (ap p (eqb-true x y is))
      by false e false is = refl

  named_first : (y : ℕ) (ys : List ℕ) → Named p q (y ∷ ys) → q (p y) ≡ y
  named_first y ys h = h y (or_left (y == y) (is_in y ys) (eq-eqb y y refl))

  named_rest : (y : ℕ) (ys : List ℕ) → Named p q (y ∷ ys) → Named p q ys
  named_rest y ys h x i = h x (or_right (x == y) (is_in x ys) i)

  is_in_named : (x : ℕ) (xs : List ℕ) → q (p x) ≡ x → Named p q xs → is_in (p x) (map p xs) ≡ is_in x xs
  is_in_named x [] hx h = refl
  is_in_named x (y ∷ ys) hx h = ap₂ (λ a b. a || b) (same_test x y hx (named_first y ys h)) (is_in_named x ys hx (named_rest y ys h))

  place_named : (x : ℕ) (xs : List ℕ) → q (p x) ≡ x → Named p q xs → first_place (λ z. p x == z) (map p xs) ≡ first_place (λ z. x == z) xs
  place_named x [] hx h = refl
  place_named x (y ∷ ys) hx h = ap₂ (λ b o. if b then Some 0 else option_map suc o) (same_test x y hx (named_first y ys h)) (place_named x ys hx (named_rest y ys h))

  map_push : (xs : List ℕ) (x : ℕ) → map p (xs ++ x ∷ []) ≡ map p xs ++ p x ∷ []
  map_push [] x = refl
  map_push (y ∷ ys) x = ap (λ l. p y ∷ l) (map_push ys x)

  noted_named : (xs : List ℕ) (x : ℕ) → q (p x) ≡ x → Named p q xs → noted (map p xs) (p x) ≡ map p (noted xs x)
  noted_named xs x hx h = ap (λ b. if b then map p xs else map p xs ++ p x ∷ []) (is_in_named x xs hx h) ∙ by (is_in x xs)
    where
      by : (b : Bool) → (if b then map p xs else map p xs ++ p x ∷ []) ≡ map p (if b then xs else xs ++ x ∷ [])
      by true = refl
      by false = sym (map_push xs x)

  -- what is named of both lists is of the front with one more
  named_noted : (xs ys : List ℕ) (y : ℕ) → Named p q (joined xs (y ∷ ys)) → Named p q (noted xs y)
  named_noted xs ys y h x i = h x (is_in_joined x (noted xs y) ys ∙ or_left (is_in x (noted xs y)) (is_in x ys) i)

  named_left : (xs ys : List ℕ) → Named p q (joined xs ys) → Named p q xs
  named_left xs ys h x i = h x (is_in_joined x xs ys ∙ or_left (is_in x xs) (is_in x ys) i)

  named_right : (xs ys : List ℕ) → Named p q (joined xs ys) → Named p q ys
  named_right xs ys h x i = h x (is_in_joined x xs ys ∙ or_right (is_in x xs) (is_in x ys) i)

  joined_named : (xs ys : List ℕ) → Named p q (joined xs ys) → joined (map p xs) (map p ys) ≡ map p (joined xs ys)
  joined_named xs [] h = refl
  joined_named xs (y ∷ ys) h =
      ap (λ l. joined l (map p ys)) (noted_named xs y (named_first y ys (named_right xs (y ∷ ys) h)) (named_left xs (y ∷ ys) h)) ∙ joined_named (noted xs y) ys h

  mutual
    -- the variables of a renamed term are those of the term renamed
    variables_named : (t : Tree) → Named p q (variables_of t) → variables_of (substitute (λ x. var (p x)) t) ≡ map p (variables_of t)
    variables_named (var x) h = refl
    variables_named (elem k) h = refl
    variables_named (app f ts) h = variables_named_all ts h

    variables_named_all : (ts : Trees) → Named p q (variables_of_all ts) → variables_of_all (substitute_all (λ x. var (p x)) ts) ≡ map p (variables_of_all ts)
    variables_named_all none h = refl
    variables_named_all (more t ts) h =
        ap₂ joined (variables_named t (named_left (variables_of t) (variables_of_all ts) h)) (variables_named_all ts (named_right (variables_of t) (variables_of_all ts) h))
        ∙ joined_named (variables_of t) (variables_of_all ts) h

  clause_named : (c : ClauseTree) → Named p q (clause_variables c) → clause_variables (substitute_clause (λ x. var (p x)) c) ≡ map p (clause_variables c)
  clause_named [] h = refl
  clause_named (l ∷ c) h =
      ap₂ joined (variables_named l.atom (named_left (variables_of l.atom) (clause_variables c) h)) (clause_named c (named_right (variables_of l.atom) (clause_variables c) h))
      ∙ joined_named (variables_of l.atom) (clause_variables c) h

  -- a renamed clause numbered is the clause numbered
  pub renamed_same : (c : ClauseTree) → Named p q (clause_variables c) → renumbered (substitute_clause (λ x. var (p x)) c) ≡ renumbered c
  renamed_same c h =
      ap (λ xs. substitute_clause (by_place xs) (substitute_clause (λ x. var (p x)) c)) (clause_named c h)
      ∙ substitute_twice_clause (λ x. var (p x)) (by_place (map p (clause_variables c))) c
      ∙ substitute_alike_clause (followed (λ x. var (p x)) (by_place (map p (clause_variables c)))) (by_place (clause_variables c)) c
      (λ x i. ap (λ o. var (unwrap_or o 0)) (place_named x (clause_variables c) (h x (sym (clause_listed x c) ∙ i)) h))

-- the number of a variable
abbrev number_of : Tree → ℕ
number_of (var x) = x
number_of t = 0

-- what is a variable after more terms are put in was one before
was_variable : (t : Tree) (u : Substitution) (x : ℕ) → substitute u t ≡ var x → t ≡ var (number_of t)
was_variable (var y) u x h = refl
was_variable (elem k) u x h = cc
was_variable (app f ts) u x h = cc

-- a clause that comes back from an instance has that as a variant
pub variants_same : (u v : Substitution) (c : ClauseTree) → substitute_clause v (substitute_clause u c) ≡ c → renumbered (substitute_clause u c) ≡ renumbered c
variants_same u v c back =
    ap renumbered (substitute_alike_clause u (λ x. var (number_of (u x))) c (λ x i. renames x i))
    ∙ renamed_same (λ x. number_of (u x)) (λ x. number_of (v x)) c (λ x i. names_back x (clause_listed x c ∙ i))
  where
    fixed : (x : ℕ) → IsTrue (occurs_in_clause x c) → substitute v (u x) ≡ var x
    fixed x i = agrees_clause (followed u v) var c (sym (substitute_twice_clause u v c) ∙ back ∙ sym (substitute_variables_clause c)) x i

    renames : (x : ℕ) → IsTrue (occurs_in_clause x c) → u x ≡ var (number_of (u x))
    renames x i = was_variable (u x) v x (fixed x i)

    names_back : (x : ℕ) → IsTrue (occurs_in_clause x c) → number_of (v (number_of (u x))) ≡ x
    names_back x i = ap number_of (sym (ap (substitute v) (renames x i)) ∙ fixed x i)

-- clauses that are instances of each other are variants
pub instances_same : (c d : ClauseTree) (s u : Substitution) → d ≡ substitute_clause s c → c ≡ substitute_clause u d → AreVariants c d
instances_same c d s u there back = sym (ap renumbered there ∙ variants_same s u c (sym (ap (substitute_clause u) there) ∙ sym back))

-- the variables in place of their numbers
pub numbered_back : (c : ClauseTree) → substitute_clause (λ n. var (slice_index (clause_variables c) n)) (renumbered c) ≡ c
numbered_back c =
    substitute_twice_clause (by_place (clause_variables c)) (λ n. var (slice_index (clause_variables c) n)) c
    ∙ substitute_alike_clause (followed (by_place (clause_variables c)) (λ n. var (slice_index (clause_variables c) n))) var c
    (λ x i. ap var (at_place (clause_variables c) x (sym (clause_listed x c) ∙ i)))
    ∙ substitute_variables_clause c

-- a numbered clause is numbered
pub numbers_stay : (c : ClauseTree) → renumbered (renumbered c) ≡ renumbered c
numbers_stay c = variants_same (by_place (clause_variables c)) (λ n. var (slice_index (clause_variables c) n)) c (numbered_back c)

-- clauses with the same numbered clause are instances of each other
pub variants_instances : (c d : ClauseTree) → renumbered c ≡ renumbered d
    → d ≡ substitute_clause (followed (by_place (clause_variables c)) (λ n. var (slice_index (clause_variables d) n))) c
variants_instances c d same =
    sym (numbered_back d) ∙ ap (substitute_clause (λ n. var (slice_index (clause_variables d) n))) (sym same)
    ∙ substitute_twice_clause (by_place (clause_variables c)) (λ n. var (slice_index (clause_variables d) n)) c
