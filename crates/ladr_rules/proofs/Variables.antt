-- Variables of terms behind one another.
use Rattle.std.proofs.Common.{◌≡◌, ℕ, zero, suc, ◌+◌, ◌<◌, ◌≤◌, length, drop, get_or, Bool, true, false, ◌&&◌, ◌||◌, ◌==◌, if◌then◌else◌, List, [], ◌∷◌, ◌++◌, refl, sym, ap, ◌∙◌, arith}
use Rattle.std.proofs.Math.Bool.{and_assoc, and-true}
use Rattle.std.proofs.lemmas.Bool.{eqb-true, false≢true}
use Rattle.std.proofs.lemmas.List.{drop_all}
use Rattle.std.proofs.lemmas.List.Folds.{list_all-append}
use Rattle.std.specs.List.{list_all}
use Rattle.fol_core.specs.Tree.{Tree, trees_of}
use Rattle.fol_core.specs.TermView.{tree_of, tree_list}
use Rattle.fol_core.specs.declared.term.Term.{Term}
use Rattle.fol_core.specs.Free.{is_in, noted, joined, variables_of, variables_of_all}
use Rattle.fol_core.proofs.Variables.{joined_joined, once}

all_at : (p : ℕ → Bool) (xs : List ℕ) (y : ℕ) → is_in y xs ≡ true → list_all p xs ≡ true → p y ≡ true
all_at p [] y i h = absurd (false≢true i)
all_at p (x ∷ xs) y i h = by (y == x) (p x) refl refl i h (all_at p xs y)
  where
    by : (b c : Bool) → (y == x) ≡ b → p x ≡ c → (b || is_in y xs) ≡ true → (c && list_all p xs) ≡ true → (is_in y xs ≡ true → list_all p xs ≡ true → p y ≡ true) → p y ≡ true
    by b false e f i h rest = absurd (false≢true h)
    by true true e f i h rest = ap p (eqb-true y x e) ∙ f
    by false true e f i h rest = rest i h

all_noted : (p : ℕ → Bool) (xs : List ℕ) (y : ℕ) → list_all p (noted xs y) ≡ (list_all p xs && p y)
all_noted p xs y = by (is_in y xs) refl
  where
    same : (c : Bool) → list_all p xs ≡ c → is_in y xs ≡ true → c ≡ (c && p y)
    same true h i = sym (all_at p xs y i h)
    same false h i = refl

    by : (b : Bool) → is_in y xs ≡ b → list_all p (if b then xs else xs ++ y ∷ []) ≡ (list_all p xs && p y)
    by true i = same (list_all p xs) refl i
    by false i = list_all-append p xs (y ∷ []) ∙ ap (λ (c : Bool). list_all p xs && c) (and-true (p y))

all_joined : (p : ℕ → Bool) (xs ys : List ℕ) → list_all p (joined xs ys) ≡ (list_all p xs && list_all p ys)
all_joined p xs [] = sym (and-true (list_all p xs))
all_joined p xs (y ∷ ys) = all_joined p (noted xs y) ys ∙ ap (λ (b : Bool). b && list_all p ys) (all_noted p xs y) ∙ and_assoc (list_all p xs) (p y) (list_all p ys)

-- the variables of the terms from a place on
abbrev pub variables_from : List Term → ℕ → List ℕ
variables_from terms i = variables_of_all (trees_of (tree_list (drop i terms)))

from_next : (terms : List Term) (i : ℕ) (term : Term) → i < length terms → term ≡ get_or terms i term → variables_from terms i ≡ joined (variables_of (tree_of term)) (variables_from terms (i + 1))
from_next [] i term l e = absurd (omega arith)
from_next (t ∷ ts) zero term l e = ap (λ (u : Term). joined (variables_of (tree_of u)) (variables_from ts 0)) (sym e)
from_next (t ∷ ts) (suc i) term l e = let same : suc i + 1 ≡ suc (i + 1) = omega arith in rw same (from_next ts i term (omega arith) e)

-- they pass a test where those of the first do and those of the others do
pub all_next : (p : ℕ → Bool) (terms : List Term) (i : ℕ) (term : Term) → i < length terms → term ≡ get_or terms i term
    → list_all p (variables_from terms i) ≡ (list_all p (variables_of (tree_of term)) && list_all p (variables_from terms (i + 1)))
all_next p terms i term l e = ap (list_all p) (from_next terms i term l e) ∙ all_joined p (variables_of (tree_of term)) (variables_from terms (i + 1))

-- to join them to others is to join those of the first, then the others
pub joined_next : (found : List ℕ) (terms : List Term) (i : ℕ) (term : Term) → i < length terms → term ≡ get_or terms i term
    → joined (joined found (variables_of (tree_of term))) (variables_from terms (i + 1)) ≡ joined found (variables_from terms i)
joined_next found terms i term l e = sym (ap (joined found) (from_next terms i term l e) ∙ joined_joined found (variables_of (tree_of term)) (variables_from terms (i + 1)))

-- past the end there is none
pub none_left : (terms : List Term) (i : ℕ) → length terms ≤ i → variables_from terms i ≡ []
none_left terms i past = ap (λ (ts : List Term). variables_of_all (trees_of (tree_list ts))) (drop_all i terms past)

pub joined_end : (found : List ℕ) (terms : List Term) (i : ℕ) → length terms ≤ i → joined found (variables_from terms i) ≡ found
joined_end found terms i past = ap (joined found) (none_left terms i past)

-- the set that begins with none has those of a term
pub set_of : (empty keys : List ℕ) (t : Tree) → empty ≡ [] → keys ≡ joined empty (variables_of t) → keys ≡ variables_of t
set_of empty keys t none is = is ∙ ap (λ (xs : List ℕ). joined xs (variables_of t)) none ∙ once t
