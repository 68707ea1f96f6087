-- Lists of variables, each once.
use Rattle.std.proofs.Common.{◌≡◌, ℕ, suc, ◌+◌, ◌<◌, ◌≤◌, length, drop, get_or, add-one, Bool, true, false, ◌==◌, ◌||◌, if◌then◌else◌, List, [], ◌∷◌, ◌++◌, refl, sym, ap, ap₂, ◌∙◌, subst, arith}
use Rattle.std.proofs.Math.Bool.{or-true, or-false, or_assoc}
use Rattle.std.proofs.lemmas.Bool.{eqb-true, or_parts}
use Rattle.std.proofs.lemmas.List.{append-nil, drop_all}
use Rattle.std.proofs.Math.Seq.{drop-cons}
use Rattle.std.proofs.lemmas.Bool.Decides.{nat_tests}
use Rattle.fol_core.specs.Tree.{Tree, var, elem, app, Trees, none, more, trees_of}
use Rattle.fol_core.specs.TermView.{tree_of, tree_list}
use Rattle.fol_core.specs.declared.term.Term.{Term}
use Rattle.fol_core.specs.Fol.{Fol, verum, falsum, equal, atom, negation, conjunction, disjunction, implication, equivalence, forall, exists}
use Rattle.fol_core.specs.Bound.{IsOnce}
use Rattle.fol_core.specs.Free.{is_in, noted, joined, without, variables_of, variables_of_all, free_vars_of, closed_over}
use Rattle.fol_core.specs.Outside.{outside}

is_in_append : (x : ℕ) (xs ys : List ℕ) → is_in x (xs ++ ys) ≡ (is_in x xs || is_in x ys)
is_in_append x [] ys = refl
is_in_append x (z ∷ zs) ys = by (x == z) (is_in x zs) (is_in_append x zs ys)
  where
    by : (b c : Bool) → is_in x (zs ++ ys) ≡ (c || is_in x ys) → (b || is_in x (zs ++ ys)) ≡ ((b || c) || is_in x ys)
    by true c rest = refl
    by false c rest = rest

step : (x y z : ℕ) (zs : List ℕ) → is_in x (without y zs) ≡ (if x == y then false else is_in x zs)
    → is_in x (if z == y then without y zs else z ∷ without y zs) ≡ (if x == y then false else (x == z || is_in x zs))
step x y z zs rest = grind (arith, nat_tests)

is_in_noted : (x : ℕ) (xs : List ℕ) (y : ℕ) → is_in x (noted xs y) ≡ (is_in x xs || x == y)
is_in_noted x xs y = by (is_in y xs) refl
  where
    by : (b : Bool) → is_in y xs ≡ b → is_in x (if b then xs else xs ++ y ∷ []) ≡ (is_in x xs || x == y)
    by true h = there (x == y) refl
      where
        there : (c : Bool) → (x == y) ≡ c → is_in x xs ≡ (is_in x xs || c)
        there true e = ap (λ z. is_in z xs) (eqb-true x y e) ∙ h ∙ sym (or-true (is_in x xs))
        there false e = sym (or-false (is_in x xs))
    by false h = is_in_append x xs (y ∷ []) ∙ ap (λ c. is_in x xs || c) (or-false (x == y))

-- a number is among those of two lists where it is in one of them
pub is_in_joined : (x : ℕ) (xs ys : List ℕ) → is_in x (joined xs ys) ≡ (is_in x xs || is_in x ys)
is_in_joined x xs [] = sym (or-false (is_in x xs))
is_in_joined x xs (y ∷ ys) = is_in_joined x (noted xs y) ys ∙ ap (λ b. b || is_in x ys) (is_in_noted x xs y) ∙ or_assoc (is_in x xs) (x == y) (is_in x ys)

-- and among those but for y where it is another one
pub is_in_without : (x y : ℕ) (xs : List ℕ) → is_in x (without y xs) ≡ (if x == y then false else is_in x xs)
is_in_without x y [] = grind arith
is_in_without x y (z ∷ zs) = step x y z zs (is_in_without x y zs)

joined_append : (f xs ys : List ℕ) → joined f (xs ++ ys) ≡ joined (joined f xs) ys
joined_append f [] ys = refl
joined_append f (x ∷ xs) ys = joined_append (noted f x) xs ys

joined_noted : (f xs : List ℕ) (y : ℕ) → joined f (noted xs y) ≡ noted (joined f xs) y
joined_noted f xs y = by (is_in y xs) refl
  where
    by : (b : Bool) → is_in y xs ≡ b → joined f (if b then xs else xs ++ y ∷ []) ≡ noted (joined f xs) y
    by true h = sym (ap (λ b. if b then joined f xs else joined f xs ++ y ∷ []) (is_in_joined y f xs ∙ ap (λ b. is_in y f || b) h ∙ or-true (is_in y f)))
    by false h = joined_append f xs (y ∷ [])

-- to join a list is to join its parts in turn
pub joined_joined : (f xs ys : List ℕ) → joined f (joined xs ys) ≡ joined (joined f xs) ys
joined_joined f xs [] = refl
joined_joined f xs (y ∷ ys) = joined_joined f (noted xs y) ys ∙ ap (λ l. joined l ys) (joined_noted f xs y)

without_append : (x : ℕ) (xs ys : List ℕ) → without x (xs ++ ys) ≡ without x xs ++ without x ys
without_append x [] ys = refl
without_append x (z ∷ zs) ys = by (z == x) (without_append x zs ys)
  where
    by : (b : Bool) → without x (zs ++ ys) ≡ without x zs ++ without x ys
        → (if b then without x (zs ++ ys) else z ∷ without x (zs ++ ys)) ≡ (if b then without x zs else z ∷ without x zs) ++ without x ys
    by true rest = rest
    by false rest = ap (λ l. z ∷ l) rest

without_noted : (x : ℕ) (xs : List ℕ) (y : ℕ) → without x (noted xs y) ≡ (if y == x then without x xs else noted (without x xs) y)
without_noted x xs y = by (is_in y xs) refl (y == x) refl
  where
    there : (y == x) ≡ false → is_in y (without x xs) ≡ is_in y xs
    there e = is_in_without y x xs ∙ ap (λ c. if c then false else is_in y xs) e

    last : (c : Bool) → (y == x) ≡ c → without x (xs ++ y ∷ []) ≡ without x xs ++ (if c then [] else y ∷ [])
    last c e = without_append x xs (y ∷ []) ∙ ap (λ c. without x xs ++ (if c then [] else y ∷ [])) e

    by : (b : Bool) → is_in y xs ≡ b → (c : Bool) → (y == x) ≡ c → without x (if b then xs else xs ++ y ∷ []) ≡ (if c then without x xs else noted (without x xs) y)
    by true h true e = refl
    by true h false e = sym (ap (λ d. if d then without x xs else without x xs ++ y ∷ []) (there e ∙ h))
    by false h true e = last true e ∙ append-nil (without x xs)
    by false h false e = last false e ∙ sym (ap (λ d. if d then without x xs else without x xs ++ y ∷ []) (there e ∙ h))

without_joined : (x : ℕ) (xs ys : List ℕ) → without x (joined xs ys) ≡ joined (without x xs) (without x ys)
without_joined x xs [] = refl
without_joined x xs (y ∷ ys) = without_joined x (noted xs y) ys ∙ ap (λ l. joined l (without x ys)) (without_noted x xs y) ∙ by (y == x)
  where
    by : (c : Bool) → joined (if c then without x xs else noted (without x xs) y) (without x ys) ≡ joined (without x xs) (if c then without x ys else y ∷ without x ys)
    by true = refl
    by false = refl

pub once_joined : (xs ys : List ℕ) → joined [] xs ≡ xs → joined [] (joined xs ys) ≡ joined xs ys
once_joined xs ys h = joined_joined [] xs ys ∙ ap (λ l. joined l ys) h

pub outside_none : (bs : List ℕ) → outside bs [] ≡ []
outside_none [] = refl
outside_none (b ∷ bs) = ap (without b) (outside_none bs)

-- one more bound variable
pub outside_push : (bs : List ℕ) (x : ℕ) (xs : List ℕ) → outside (bs ++ x ∷ []) xs ≡ outside bs (without x xs)
outside_push [] x xs = refl
outside_push (b ∷ bs) x xs = ap (without b) (outside_push bs x xs)

outside_joined : (bs xs ys : List ℕ) → outside bs (joined xs ys) ≡ joined (outside bs xs) (outside bs ys)
outside_joined [] xs ys = refl
outside_joined (b ∷ bs) xs ys = ap (without b) (outside_joined bs xs ys) ∙ without_joined b (outside bs xs) (outside bs ys)

-- the variables of two parts are those of the first and then those of the second
pub joined_outside : (f bs xs ys : List ℕ) → joined f (outside bs (joined xs ys)) ≡ joined (joined f (outside bs xs)) (outside bs ys)
joined_outside f bs xs ys = ap (joined f) (outside_joined bs xs ys) ∙ joined_joined f (outside bs xs) (outside bs ys)

outside_one : (bs : List ℕ) (x : ℕ) → outside bs (x ∷ []) ≡ (if is_in x bs then [] else x ∷ [])
outside_one [] x = refl
outside_one (b ∷ bs) x = ap (without b) (outside_one bs x) ∙ by (x == b) refl (is_in x bs)
  where
    by : (c : Bool) → (x == b) ≡ c → (d : Bool) → without b (if d then [] else x ∷ []) ≡ (if c || d then [] else x ∷ [])
    by true e true = refl
    by true e false = ap (λ c. if c then [] else x ∷ []) e
    by false e true = refl
    by false e false = ap (λ c. if c then [] else x ∷ []) e

-- one variable
pub joined_one : (f bs : List ℕ) (x : ℕ) → joined f (outside bs (x ∷ [])) ≡ (if is_in x bs then f else noted f x)
joined_one f bs x = ap (joined f) (outside_one bs x) ∙ by (is_in x bs)
  where
    by : (d : Bool) → joined f (if d then [] else x ∷ []) ≡ (if d then f else noted f x)
    by true = refl
    by false = refl

mutual
  pub once : (t : Tree) → joined [] (variables_of t) ≡ variables_of t
  once (var x) = refl
  once (elem k) = refl
  once (app f ts) = once_all ts

  once_all : (ts : Trees) → joined [] (variables_of_all ts) ≡ variables_of_all ts
  once_all none = refl
  once_all (more t ts) = once_joined (variables_of t) (variables_of_all ts) (once t)

-- each free variable is listed once
pub free_once : (f : Fol) → joined [] (free_vars_of f) ≡ free_vars_of f
free_once verum = refl
free_once falsum = refl
free_once (equal s t) = once_joined (variables_of s) (variables_of t) (once s)
free_once (atom r ts) = once_all ts
free_once (negation f) = free_once f
free_once (conjunction f g) = once_joined (free_vars_of f) (free_vars_of g) (free_once f)
free_once (disjunction f g) = once_joined (free_vars_of f) (free_vars_of g) (free_once f)
free_once (implication f g) = once_joined (free_vars_of f) (free_vars_of g) (free_once f)
free_once (equivalence f g) = once_joined (free_vars_of f) (free_vars_of g) (free_once f)
free_once (forall x f) = sym (without_joined x [] (free_vars_of f)) ∙ ap (without x) (free_once f)
free_once (exists x f) = sym (without_joined x [] (free_vars_of f)) ∙ ap (without x) (free_once f)

turned : (x y : ℕ) → (x == y) ≡ false → (y == x) ≡ false
turned x y h = grind (arith, nat_tests)

-- numbers that stand once each do so with a further one
pub noted_once : (xs : List ℕ) (x : ℕ) → IsOnce xs → is_in x xs ≡ false → IsOnce (xs ++ x ∷ [])
noted_once [] x h n = (refl, tt)
noted_once (y ∷ ys) x h n =
    let parts = or_parts (x == y) (is_in x ys) n in
    (is_in_append y ys (x ∷ []) ∙ ap₂ (λ b c. b || (c || false)) h.0 (turned x y parts.0), noted_once ys x h.1 parts.1)

joined_once : (xs ys : List ℕ) → IsOnce xs → IsOnce (joined xs ys)
joined_once xs [] h = h
joined_once xs (y ∷ ys) h = joined_once (noted xs y) ys (by (is_in y xs) refl)
  where
    by : (b : Bool) → is_in y xs ≡ b → IsOnce (if b then xs else xs ++ y ∷ [])
    by true e = h
    by false e = noted_once xs y h e

-- no variable is twice among the free ones
pub free_vars_once : (f : Fol) → IsOnce (free_vars_of f)
free_vars_once f = subst IsOnce (free_once f) (joined_once [] (free_vars_of f) tt)

-- a quantifier goes round the formula before those of the variables in front
pub closed_over_push : (xs : List ℕ) (x : ℕ) (f : Fol) → closed_over (xs ++ x ∷ []) f ≡ closed_over xs (forall x f)
closed_over_push [] x f = refl
closed_over_push (y ∷ ys) x f = ap (forall y) (closed_over_push ys x f)

-- the variables of the terms from a place on
abbrev variables_from : List Term → ℕ → List ℕ
variables_from terms i = variables_of_all (trees_of (tree_list (drop i terms)))

-- they are those of the term there and then those from the next place on
pub variables_next : (found bound : List ℕ) (terms : List Term) (i : ℕ) (term : Term) → i < length terms → term ≡ get_or terms i term
    → joined (joined found (outside bound (variables_of (tree_of term)))) (outside bound (variables_of_all (trees_of (tree_list (drop (i + 1) terms)))))
    ≡ joined found (outside bound (variables_of_all (trees_of (tree_list (drop i terms)))))
variables_next found bound terms i term within is =
    let parts : drop i terms ≡ term ∷ drop (i + 1) terms = rw (add-one, drop-cons terms i term) (ap (λ t. t ∷ drop (suc i) terms) (sym is)) in
    sym (ap (λ ts. joined found (outside bound (variables_of_all (trees_of (tree_list ts))))) parts
    ∙ joined_outside found bound (variables_of (tree_of term)) (variables_from terms (i + 1)))

-- and none past the end
pub variables_end : (found bound : List ℕ) (terms : List Term) (i : ℕ) → length terms ≤ i
    → joined found (outside bound (variables_of_all (trees_of (tree_list (drop i terms))))) ≡ found
variables_end found bound terms i past =
    ap (λ ts. joined found (outside bound (variables_of_all (trees_of (tree_list ts))))) (drop_all i terms past) ∙ ap (joined found) (outside_none bound)
