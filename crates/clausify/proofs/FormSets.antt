-- What a negation normal form binds, and that its sides bind different variables.
use Rattle.std.proofs.Common.{◌≡◌, inl, inr, ℕ, ◌<◌, Bool, true, false, ◌==◌, ◌||◌, if◌then◌else◌, IsTrue, List, ◌∷◌, ◌++◌, refl, sym, ◌∙◌, subst, arith, ne_eqb}
use Rattle.std.proofs.lemmas.Bool.{or_left, or_right, or_from, or_cases, eqb-true, eq-eqb, true≢false, false_from_ne_true}
use Rattle.fol_core.specs.Tree.{Trees}
use Rattle.fol_core.specs.Fol.{Fol, verum, falsum, equal, atom, negation, conjunction, disjunction, implication, equivalence, forall, exists}
use Rattle.fol_core.specs.Bound.{binders_of, IsOnce, uses_symbol, have_symbol, HasSymbolsBelow}
use Rattle.fol_core.specs.Free.{is_in, joined, without, free_vars_of}
use Rattle.fol_core.specs.Literals.{equality}
use Rattle.fol_core.proofs.Variables.{is_in_joined, is_in_without}
use Rattle.clausify.specs.Forms.{nnf_of}
use Rattle.clausify.proofs.Clauses.{IsApart}
use Rattle.clausify.proofs.Sets.{Set, plus, also, In, Out, in_cases, in_left, in_right, once_left, once_right, once_apart}

abbrev pub members : List ℕ → Set
members xs y = is_in y xs

in_both : (xs ys : List ℕ) (u : Set) → In xs u → In ys u → In (xs ++ ys) u
in_both xs ys u a b y i = elim (in_cases y xs ys i) [ inl j ↦ a y j | inr j ↦ b y j ]

pair : (xs ys vs ws : List ℕ) → In xs (members vs) → In ys (members ws) → In (xs ++ ys) (members (vs ++ ws))
pair xs ys vs ws a b = in_both xs ys (members (vs ++ ws)) (λ y i. in_left y vs ws (a y i)) (λ y i. in_right y vs ws (b y i))

swapped : (xs ys vs ws : List ℕ) → In xs (members ws) → In ys (members vs) → In (xs ++ ys) (members (vs ++ ws))
swapped xs ys vs ws b a = in_both xs ys (members (vs ++ ws)) (λ y i. in_right y vs ws (b y i)) (λ y i. in_left y vs ws (a y i))

quantified : (x : ℕ) (xs vs : List ℕ) → In xs (members vs) → In (x ∷ xs) (members (x ∷ vs))
quantified x xs vs a y i = elim (or_cases (y == x) (is_in y xs) i) [ inl e ↦ or_left (y == x) (is_in y vs) e | inr j ↦ or_right (y == x) (is_in y vs) (a y j) ]

-- a negation normal form binds no variable that its formula doesn't
pub bound_form : (sign : Bool) (f : Fol) → In (binders_of (nnf_of sign f)) (members (binders_of f))
bound_form true verum = λ y i. i
bound_form true falsum = λ y i. i
bound_form true (equal s t) = λ y i. i
bound_form true (atom r ts) = λ y i. i
bound_form true (negation f) = bound_form false f
bound_form true (conjunction f g) = pair (binders_of (nnf_of true f)) (binders_of (nnf_of true g)) (binders_of f) (binders_of g) (bound_form true f) (bound_form true g)
bound_form true (disjunction f g) = pair (binders_of (nnf_of true f)) (binders_of (nnf_of true g)) (binders_of f) (binders_of g) (bound_form true f) (bound_form true g)
bound_form true (implication f g) = pair (binders_of (nnf_of false f)) (binders_of (nnf_of true g)) (binders_of f) (binders_of g) (bound_form false f) (bound_form true g)
bound_form true (equivalence f g) = in_both (binders_of (nnf_of false f) ++ binders_of (nnf_of true g)) (binders_of (nnf_of false g) ++ binders_of (nnf_of true f)) (members (binders_of f ++ binders_of g))
    (pair (binders_of (nnf_of false f)) (binders_of (nnf_of true g)) (binders_of f) (binders_of g) (bound_form false f) (bound_form true g))
    (swapped (binders_of (nnf_of false g)) (binders_of (nnf_of true f)) (binders_of f) (binders_of g) (bound_form false g) (bound_form true f))
bound_form true (forall x f) = quantified x (binders_of (nnf_of true f)) (binders_of f) (bound_form true f)
bound_form true (exists x f) = quantified x (binders_of (nnf_of true f)) (binders_of f) (bound_form true f)
bound_form false verum = λ y i. i
bound_form false falsum = λ y i. i
bound_form false (equal s t) = λ y i. i
bound_form false (atom r ts) = λ y i. i
bound_form false (negation f) = bound_form true f
bound_form false (conjunction f g) = pair (binders_of (nnf_of false f)) (binders_of (nnf_of false g)) (binders_of f) (binders_of g) (bound_form false f) (bound_form false g)
bound_form false (disjunction f g) = pair (binders_of (nnf_of false f)) (binders_of (nnf_of false g)) (binders_of f) (binders_of g) (bound_form false f) (bound_form false g)
bound_form false (implication f g) = pair (binders_of (nnf_of true f)) (binders_of (nnf_of false g)) (binders_of f) (binders_of g) (bound_form true f) (bound_form false g)
bound_form false (equivalence f g) = in_both (binders_of (nnf_of true f) ++ binders_of (nnf_of true g)) (binders_of (nnf_of false f) ++ binders_of (nnf_of false g)) (members (binders_of f ++ binders_of g))
    (pair (binders_of (nnf_of true f)) (binders_of (nnf_of true g)) (binders_of f) (binders_of g) (bound_form true f) (bound_form true g))
    (pair (binders_of (nnf_of false f)) (binders_of (nnf_of false g)) (binders_of f) (binders_of g) (bound_form false f) (bound_form false g))
bound_form false (forall x f) = quantified x (binders_of (nnf_of false f)) (binders_of f) (bound_form false f)
bound_form false (exists x f) = quantified x (binders_of (nnf_of false f)) (binders_of f) (bound_form false f)

pub joined_both : (xs ys : List ℕ) (u : Set) → In xs u → In ys u → In (joined xs ys) u
joined_both xs ys u a b y i = elim (or_cases (is_in y xs) (is_in y ys) (sym (is_in_joined y xs ys) ∙ i)) [ inl j ↦ a y j | inr j ↦ b y j ]

join : (xs ys vs ws : List ℕ) → In xs (members vs) → In ys (members ws) → In (joined xs ys) (members (joined vs ws))
join xs ys vs ws a b = joined_both xs ys (members (joined vs ws)) (λ y i. is_in_joined y vs ws ∙ or_left (is_in y vs) (is_in y ws) (a y i)) (λ y i. is_in_joined y vs ws ∙ or_right (is_in y vs) (is_in y ws) (b y i))

join_swapped : (xs ys vs ws : List ℕ) → In xs (members ws) → In ys (members vs) → In (joined xs ys) (members (joined vs ws))
join_swapped xs ys vs ws b a = joined_both xs ys (members (joined vs ws)) (λ y i. is_in_joined y vs ws ∙ or_right (is_in y vs) (is_in y ws) (b y i)) (λ y i. is_in_joined y vs ws ∙ or_left (is_in y vs) (is_in y ws) (a y i))

inside : (x : ℕ) (xs vs : List ℕ) → In xs (members vs) → In (without x xs) (members (without x vs))
inside x xs vs a y i = is_in_without y x vs ∙ by (y == x) (sym (is_in_without y x xs) ∙ i)
  where
    by : (b : Bool) → (if b then false else is_in y xs) ≡ true → (if b then false else is_in y vs) ≡ true
    by true h = h
    by false h = a y h

-- nor has it another free variable
pub free_form : (sign : Bool) (f : Fol) → In (free_vars_of (nnf_of sign f)) (members (free_vars_of f))
free_form true verum = λ y i. i
free_form true falsum = λ y i. i
free_form true (equal s t) = λ y i. i
free_form true (atom r ts) = λ y i. i
free_form true (negation f) = free_form false f
free_form true (conjunction f g) = join (free_vars_of (nnf_of true f)) (free_vars_of (nnf_of true g)) (free_vars_of f) (free_vars_of g) (free_form true f) (free_form true g)
free_form true (disjunction f g) = join (free_vars_of (nnf_of true f)) (free_vars_of (nnf_of true g)) (free_vars_of f) (free_vars_of g) (free_form true f) (free_form true g)
free_form true (implication f g) = join (free_vars_of (nnf_of false f)) (free_vars_of (nnf_of true g)) (free_vars_of f) (free_vars_of g) (free_form false f) (free_form true g)
free_form true (equivalence f g) = joined_both (joined (free_vars_of (nnf_of false f)) (free_vars_of (nnf_of true g))) (joined (free_vars_of (nnf_of false g)) (free_vars_of (nnf_of true f))) (members (joined (free_vars_of f) (free_vars_of g)))
    (join (free_vars_of (nnf_of false f)) (free_vars_of (nnf_of true g)) (free_vars_of f) (free_vars_of g) (free_form false f) (free_form true g))
    (join_swapped (free_vars_of (nnf_of false g)) (free_vars_of (nnf_of true f)) (free_vars_of f) (free_vars_of g) (free_form false g) (free_form true f))
free_form true (forall x f) = inside x (free_vars_of (nnf_of true f)) (free_vars_of f) (free_form true f)
free_form true (exists x f) = inside x (free_vars_of (nnf_of true f)) (free_vars_of f) (free_form true f)
free_form false verum = λ y i. i
free_form false falsum = λ y i. i
free_form false (equal s t) = λ y i. i
free_form false (atom r ts) = λ y i. i
free_form false (negation f) = free_form true f
free_form false (conjunction f g) = join (free_vars_of (nnf_of false f)) (free_vars_of (nnf_of false g)) (free_vars_of f) (free_vars_of g) (free_form false f) (free_form false g)
free_form false (disjunction f g) = join (free_vars_of (nnf_of false f)) (free_vars_of (nnf_of false g)) (free_vars_of f) (free_vars_of g) (free_form false f) (free_form false g)
free_form false (implication f g) = join (free_vars_of (nnf_of true f)) (free_vars_of (nnf_of false g)) (free_vars_of f) (free_vars_of g) (free_form true f) (free_form false g)
free_form false (equivalence f g) = joined_both (joined (free_vars_of (nnf_of true f)) (free_vars_of (nnf_of true g))) (joined (free_vars_of (nnf_of false f)) (free_vars_of (nnf_of false g))) (members (joined (free_vars_of f) (free_vars_of g)))
    (join (free_vars_of (nnf_of true f)) (free_vars_of (nnf_of true g)) (free_vars_of f) (free_vars_of g) (free_form true f) (free_form true g))
    (join (free_vars_of (nnf_of false f)) (free_vars_of (nnf_of false g)) (free_vars_of f) (free_vars_of g) (free_form false f) (free_form false g))
free_form false (forall x f) = inside x (free_vars_of (nnf_of false f)) (free_vars_of f) (free_form false f)
free_form false (exists x f) = inside x (free_vars_of (nnf_of false f)) (free_vars_of f) (free_form false f)

-- beside another part, whose variables are counted as taken
beside : (u : Set) (vs ws xs : List ℕ) → IsOnce (vs ++ ws) → Out (vs ++ ws) u → In xs (members ws) → Out vs (also xs u)
beside u vs ws xs once new sub y i = or_from (is_in y xs) (u y) (false_from_ne_true (is_in y xs) (λ j. true≢false (sym (sub y j) ∙ once_apart vs ws once y i))) (new y (in_left y vs ws i))

behind : (u : Set) (vs ws xs : List ℕ) → IsOnce (vs ++ ws) → Out (vs ++ ws) u → In xs (members vs) → Out ws (also xs u)
behind u vs ws xs once new sub y i = or_from (is_in y xs) (u y) (false_from_ne_true (is_in y xs) (λ j. true≢false (sym i ∙ once_apart vs ws once y (sub y j)))) (new y (in_right y vs ws i))

below : (u : Set) (x : ℕ) (vs : List ℕ) → IsOnce (x ∷ vs) → Out (x ∷ vs) u → Out vs (plus x u)
below u x vs once new y i = or_from (y == x) (u y) (false_from_ne_true (y == x) (λ e. true≢false (sym i ∙ subst (λ z. is_in z vs ≡ false) (sym (eqb-true y x e)) once.0))) (new y (or_right (y == x) (is_in y vs) i))

abbrev Symbols : Fol → Type 0
Symbols f = HasSymbolsBelow equality f

relation_apart : (r : ℕ) (ts : Trees) → Symbols (atom r ts) → (r == equality) ≡ false
relation_apart r ts h = let lt = h r (or_left (r == r) (have_symbol r ts) (eq-eqb r r refl)) in ne_eqb r equality (λ e. absurd (omega arith))

left_symbols : (f g : Fol) → ((n : ℕ) → IsTrue (uses_symbol n f || uses_symbol n g) → n < equality) → Symbols f
left_symbols f g h n i = h n (or_left (uses_symbol n f) (uses_symbol n g) i)

right_symbols : (f g : Fol) → ((n : ℕ) → IsTrue (uses_symbol n f || uses_symbol n g) → n < equality) → Symbols g
right_symbols f g h n i = h n (or_right (uses_symbol n f) (uses_symbol n g) i)

-- what is to be shown of a form
abbrev Goes : Bool → Fol → Type 0
Goes sign f = (u : Set) → IsOnce (binders_of f) → Out (binders_of f) u → Symbols f → IsApart u (nnf_of sign f)

-- and of one with two sides
abbrev Sides : (Set → Type 0) → Fol → Fol → Type 0
Sides P f g = (u : Set) → IsOnce (binders_of f ++ binders_of g) → Out (binders_of f ++ binders_of g) u → ((n : ℕ) → IsTrue (uses_symbol n f || uses_symbol n g) → n < equality) → P u

apart_both : (sign other : Bool) (f g : Fol) → Goes sign f → Goes other g → Sides (λ u. IsApart u (nnf_of sign f) × IsApart u (nnf_of other g)) f g
apart_both sign other f g one two u once new symbols = (
  one u (once_left (binders_of f) (binders_of g) once) (λ y i. new y (in_left y (binders_of f) (binders_of g) i)) (left_symbols f g symbols),
  two u (once_right (binders_of f) (binders_of g) once) (λ y i. new y (in_right y (binders_of f) (binders_of g) i)) (right_symbols f g symbols),
)

apart_either : (sign other : Bool) (f g : Fol) → Goes sign f → Goes other g
    → Sides (λ u. IsApart (also (binders_of (nnf_of other g)) u) (nnf_of sign f) × IsApart (also (binders_of (nnf_of sign f)) u) (nnf_of other g)) f g
apart_either sign other f g one two u once new symbols = (
  one (also (binders_of (nnf_of other g)) u) (once_left (binders_of f) (binders_of g) once)
      (beside u (binders_of f) (binders_of g) (binders_of (nnf_of other g)) once new (bound_form other g)) (left_symbols f g symbols),
  two (also (binders_of (nnf_of sign f)) u) (once_right (binders_of f) (binders_of g) once)
      (behind u (binders_of f) (binders_of g) (binders_of (nnf_of sign f)) once new (bound_form sign f)) (right_symbols f g symbols),
)

apart_under : (sign : Bool) (x : ℕ) (f : Fol) → Goes sign f
    → (u : Set) → IsOnce (x ∷ binders_of f) → Out (x ∷ binders_of f) u → Symbols f → (u x ≡ false) × IsApart (plus x u) (nnf_of sign f)
apart_under sign x f one u once new symbols = (new x (or_left (x == x) (is_in x (binders_of f)) (eq-eqb x x refl)), one (plus x u) once.1 (below u x (binders_of f) once new) symbols)

-- the sides of a negation normal form bind different variables
pub apart_form : (sign : Bool) (f : Fol) → Goes sign f
apart_form true verum = λ u once new symbols. tt
apart_form true falsum = λ u once new symbols. tt
apart_form true (equal s t) = λ u once new symbols. tt
apart_form true (atom r ts) = λ u once new symbols. relation_apart r ts symbols
apart_form true (negation f) = apart_form false f
apart_form true (conjunction f g) = apart_both true true f g (apart_form true f) (apart_form true g)
apart_form true (disjunction f g) = apart_either true true f g (apart_form true f) (apart_form true g)
apart_form true (implication f g) = apart_either false true f g (apart_form false f) (apart_form true g)
apart_form true (equivalence f g) = λ u once new symbols. (
  apart_either false true f g (apart_form false f) (apart_form true g) u once new symbols,
  let turned = apart_either true false f g (apart_form true f) (apart_form false g) u once new symbols in (turned.1, turned.0),
)
apart_form true (forall x f) = apart_under true x f (apart_form true f)
apart_form true (exists x f) = apart_under true x f (apart_form true f)
apart_form false verum = λ u once new symbols. tt
apart_form false falsum = λ u once new symbols. tt
apart_form false (equal s t) = λ u once new symbols. tt
apart_form false (atom r ts) = λ u once new symbols. relation_apart r ts symbols
apart_form false (negation f) = apart_form true f
apart_form false (conjunction f g) = apart_either false false f g (apart_form false f) (apart_form false g)
apart_form false (disjunction f g) = apart_both false false f g (apart_form false f) (apart_form false g)
apart_form false (implication f g) = apart_both true false f g (apart_form true f) (apart_form false g)
apart_form false (equivalence f g) = λ u once new symbols. (
  apart_either true true f g (apart_form true f) (apart_form true g) u once new symbols,
  apart_either false false f g (apart_form false f) (apart_form false g) u once new symbols,
)
apart_form false (forall x f) = apart_under false x f (apart_form false f)
apart_form false (exists x f) = apart_under false x f (apart_form false f)
