-- Room for all terms of a bank in each context.
use Rattle.std.proofs.Common.{◌≡◌, inl, inr, ◌⊎◌, ℕ, zero, suc, ◌+◌, ◌*◌, ◌≤◌, ◌<◌, List, [], ◌∷◌, ◌++◌, length, map, refl, sym, ap, ◌∙◌, subst, arith}
use Rattle.std.proofs.lemmas.Bool.{cases_lt}
use Rattle.fol_core.specs.Tree.{Tree, var, elem, app}
use Rattle.term_bank.specs.Bank.{tree_at}
use Rattle.term_bank.specs.declared.id.TermId.{TermId}
use Rattle.unify.specs.Bindings.{IsSpot, AreSpots, bound_variables}
use Rattle.unify.specs.Rooms.{IsArgument, AreFollowed, TakePart, HasBindingRoom, terms_in, terms_in_all, AreBoundWithin, FitsInContexts, RoomStays}
use Rattle.unify.specs.Spots.{spot_tree, spot, In}
use Rattle.unify.specs.declared.spot.Bound.{Bound}
use Rattle.unify.specs.declared.spot.Spot.{Spot}
use Rattle.unify.proofs.Lists.{in_front, in_behind, in_cases}

abbrev numbered : ℕ → TermId
numbered n = record { 0 = n }

-- a number below n is among the first n
last_or_before : (k n : ℕ) → k < suc n → (k ≡ n) ⊎ (k < n)
last_or_before k n l = elim (cases_lt k n) [ inl h ↦ inr h | inr h ↦ inl (omega (arith, l, h)) ]

in_context : (c n k : ℕ) → k < n → In (spot (numbered k) c) (terms_in c n)
in_context c zero k l = absurd (omega (arith, l))
in_context c (suc n) k l = elim (last_or_before k n l) [
  | inl e ↦ inl (ap (λ m. spot (numbered m) c) e)
  | inr h ↦ inr (in_context c n k h)
]

in_contexts : (cs : List ℕ) (c n k : ℕ) → In c cs → k < n → In (spot (numbered k) c) (terms_in_all cs n)
in_contexts [] c n k i l = absurd i
in_contexts (d ∷ cs) c n k (inl e) l = in_front (spot (numbered k) c) (terms_in d n) (terms_in_all cs n) (subst (λ b. In (spot (numbered k) c) (terms_in b n)) e (in_context c n k l))
in_contexts (d ∷ cs) c n k (inr i) l = in_behind (spot (numbered k) c) (terms_in d n) (terms_in_all cs n) (in_contexts cs c n k i l)

-- and nothing else is there
from_context : (c n : ℕ) (p : Spot) → In p (terms_in c n) → (p.context ≡ c) × (p.term.0 < n)
from_context c zero p i = absurd i
from_context c (suc n) p (inl e) =
    let at : p.term.0 ≡ n = ap (λ q. q.term.0) e in
    (ap (λ q. q.context) e, omega (arith, at))
from_context c (suc n) p (inr i) =
    let r = from_context c n p i in
    let l = r.1 in
    (r.0, omega (arith, l))

from_contexts : (cs : List ℕ) (n : ℕ) (p : Spot) → In p (terms_in_all cs n) → In p.context cs × (p.term.0 < n)
from_contexts [] n p i = absurd i
from_contexts (c ∷ cs) n p i = elim (in_cases p (terms_in c n) (terms_in_all cs n) i) [
  | inl j ↦ (let r = from_context c n p j in (inl r.0, r.1))
  | inr j ↦ (let r = from_contexts cs n p j in (inr r.0, r.1))
]

-- how many there are
many_in : (c n : ℕ) → length (terms_in c n) ≡ n
many_in c zero = refl
many_in c (suc n) = ap suc (many_in c n)

joined : {A : Type 0} (xs ys : List A) → length (xs ++ ys) ≡ length xs + length ys
joined [] ys = omega arith
joined (x ∷ xs) ys = let r = joined xs ys in omega (arith, r)

mapped : {A B : Type 0} (f : A → B) (xs : List A) → length (map f xs) ≡ length xs
mapped f [] = refl
mapped f (x ∷ xs) = ap suc (mapped f xs)

many_in_all : (cs : List ℕ) (n : ℕ) → length (terms_in_all cs n) ≡ length cs * n
many_in_all [] n = omega arith
many_in_all (c ∷ cs) n =
    let at = joined (terms_in c n) (terms_in_all cs n) in
    let here = many_in c n in
    let rest = many_in_all cs n in
    omega (arith, at, here, rest)

-- the variable of a term, where it is one
abbrev variable_of : Tree → ℕ
variable_of (var x) = x
variable_of (elem k) = 0
variable_of (app f ts) = 0

in_mapped : {A B : Type 0} (f : A → B) (x : A) (xs : List A) → In x xs → In (f x) (map f xs)
in_mapped f x [] i = absurd i
in_mapped f x (y ∷ xs) (inl e) = inl (ap f e)
in_mapped f x (y ∷ xs) (inr i) = inr (in_mapped f x xs i)

followed_all : (bank : List Tree) (cs : List ℕ) (bs : List Bound) → AreBoundWithin cs bs → AreSpots bank bs → AreFollowed bank (terms_in_all cs (length bank)) bs
followed_all bank cs [] w s = tt
followed_all bank cs (b ∷ bs) w s = ((λ p i e. in_contexts cs b.to.context (length bank) b.to.term.0 w.0 s.0.within), followed_all bank cs bs w.1 s.1)

abbrev whole_room : (bank : List Tree) (bs : List Bound) (cs : List ℕ) (vars nodes : ℕ) (s t : Spot) → FitsInContexts bank bs cs s t → length cs * length bank ≤ nodes
    → length cs * length bank + length bs ≤ vars → HasBindingRoom bank bs vars nodes s t
whole_room bank bs cs vars nodes s t f n v =
    let n_all = length bank in
    let parts = terms_in_all cs n_all in
    let names = map (λ p. variable_of (spot_tree bank p)) parts ++ bound_variables bs in
    let many = many_in_all cs n_all in
    record {
      parts = parts;
      names = names;
      take_part = record {
        spots = λ p i. (let r = from_contexts cs n_all p i in f.spots p r.0 r.1);
        arguments = λ p k i l a. in_contexts cs p.context n_all k.0 (from_contexts cs n_all p i).0 l;
        followed = followed_all bank cs bs f.bound f.targets;
        named = λ p x i e. in_front x (map (λ q. variable_of (spot_tree bank q)) parts) (bound_variables bs)
            (subst (λ y. In y (map (λ q. variable_of (spot_tree bank q)) parts)) (ap variable_of e) (in_mapped (λ q. variable_of (spot_tree bank q)) p parts i));
        bound = λ x i. in_behind x (map (λ q. variable_of (spot_tree bank q)) parts) (bound_variables bs) i;
      };
      left = in_contexts cs s.context n_all s.term.0 f.left.1 f.left.0.within;
      right = in_contexts cs t.context n_all t.term.0 f.right.1 f.right.0.within;
      few_parts = omega (arith, many, n);
      few_names = (let at = joined (map (λ p. variable_of (spot_tree bank p)) parts) (bound_variables bs) in
          let m = mapped (λ p. variable_of (spot_tree bank p)) parts in
          let b = mapped (λ (d : Bound). d.variable) bs in
          omega (arith, at, m, b, many, v));
    }

pub banks_have_room : (bank : List Tree) (bs : List Bound) (cs : List ℕ) (vars nodes : ℕ) (s t : Spot) → FitsInContexts bank bs cs s t → length cs * length bank ≤ nodes
    → length cs * length bank + length bs ≤ vars → HasBindingRoom bank bs vars nodes s t
banks_have_room = whole_room

bound_within : (cs : List ℕ) (bs : List Bound) (b : Bound) → AreBoundWithin cs bs → In b bs → In b.to.context cs
bound_within cs [] b w i = absurd i
bound_within cs (c ∷ bs) b w (inl e) = subst (λ (d : Bound). In d.to.context cs) (sym e) w.0
bound_within cs (c ∷ bs) b w (inr i) = bound_within cs bs b w.1 i

all_within : (cs : List ℕ) (bs : List Bound) → ((b : Bound) → In b bs → In b.to.context cs) → AreBoundWithin cs bs
all_within cs [] h = tt
all_within cs (b ∷ bs) h = (h b (inl refl), all_within cs bs (λ d i. h d (inr i)))

pub contexts_stay : (bank : List Tree) (old new : List Bound) (cs : List ℕ) (vars nodes : ℕ) (s t : Spot) → FitsInContexts bank old cs s t → length cs * length bank ≤ nodes
    → length cs * length bank + length old ≤ vars → RoomStays bank old new vars nodes s t → AreBoundWithin cs new
contexts_stay bank old new cs vars nodes s t f n v stays =
    all_within cs new (λ b i. elim ((stays (whole_room bank old cs vars nodes s t f n v)).1 b i) [
      | inl j ↦ bound_within cs old b f.bound j
      | inr j ↦ (from_contexts cs (length bank) b.to j).0
    ])
