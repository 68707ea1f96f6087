-- Terms that are put into a bank.
use Rattle.std.proofs.Common.{◌≡◌, ℕ, ◌+◌, ◌<◌, ◌≤◌, refl, sym, ap, ap₂, subst, ◌∙◌, List, [], ◌∷◌, ◌++◌, length, map, set, take, arith, inl, inr, slice_index_or, Result, Ok, Err, IfOk}
use Rattle.std.proofs.lemmas.Bool.{cases_eq}
use Rattle.std.proofs.lemmas.List.{append-nil, append_assoc, get_or-set_same, get_or-set_other, length-set, map-append, map_more, take_all, take_more}
use Rattle.fol_core.specs.Renumbered.{by_place}
use Rattle.fol_core.specs.Substitutions.{Substitution, substitute}
use Rattle.fol_core.specs.TermView.{tree_of, tree_list}
use Rattle.fol_core.specs.Tree.{Tree, app, trees_of}
use Rattle.fol_core.specs.declared.term.Term.{Term}
use Rattle.fol_core.proofs.Putting.{put_made}
use Rattle.fol_core.specs.Substitutions.{substitute_all}
use Rattle.substitutions.specs.Bindings.{Binding}
use Rattle.term_bank.specs.Bank.{Grows, IsAt, tree_at}
use Rattle.term_bank.specs.Cells.{AreNumbersBelow}
use Rattle.term_bank.specs.declared.id.TermId.{TermId}
use Rattle.term_bank.proofs.Building.{grows_refl, grows_on, grows_at, grows_length, below_more}
use Rattle.term_unifiers.specs.Classes.{AreClasses, Classes, AllIn, In, IsOrder, arguments_of, children, schema_of}
use Rattle.term_unifiers.specs.Merging.{nth}
use Rattle.term_unifiers.specs.Shapes.{application, shape_at}
use Rattle.term_unifiers.specs.Shared.{AllHeld, AreHeld, ArePut, Extends, IsHeld, IsPut, IsShared, id_at, numbers_of, of_parent}
use Rattle.term_unifiers.specs.declared.sharing.OfParent.{OfParent}
use Rattle.term_unifiers.specs.declared.sharing.Shared.{Shared}
use Rattle.term_unifiers.proofs.Advances.{schema_read}
use Rattle.term_unifiers.proofs.Entering.{made_next}
use Rattle.term_unifiers.proofs.Orders.{stands_at}
use Rattle.term_unifiers.proofs.Terms.{in_either}
use Rattle.term_unifiers.proofs.Walks.{nth_in}
use Rattle.term_unifiers.proofs.Written.{put_trees}

pub extends_refl : (xs : List ℕ) → Extends xs xs
extends_refl xs = ([], sym (append-nil xs))

pub extends_on : (a b c : List ℕ) → Extends a b → Extends b c → Extends a c
extends_on a b c g h = (g.0 ++ h.0, h.1 ∙ ap (λ l. l ++ h.0) g.1 ∙ append_assoc a g.0 h.0)

more_behind : (a b : List ℕ) (more : Extends a b) (behind : List ℕ) → a ++ (more.0 ++ behind) ≡ b ++ behind
more_behind a b more behind = sym (append_assoc a more.0 behind) ∙ ap (λ l. l ++ behind) (sym more.1)

-- what is there stays there
module _ (a b : List Tree) (ns ms : List ℕ) (grows : Grows a b) (more : Extends ns ms) where
  pub held_on : (u : Tree) (id : ℕ) → IsHeld a ns u id → IsHeld b ms u id
  held_on u id is = record {
    within = let l = grows_length a b grows in let w = is.within in omega (arith, l, w);
    term = λ behind. grows_at a b grows id is.within ∙ is.term (more.0 ++ behind) ∙ ap (λ l. substitute (by_place l) u) (more_behind ns ms more behind);
  }

  maps_grow : (ids : List ℕ) → AreNumbersBelow (length a) ids → map (tree_at b) ids ≡ map (tree_at a) ids
  maps_grow [] h = refl
  maps_grow (k ∷ ids) h = ap₂ (λ (t : Tree) (ts : List Tree). t ∷ ts) (grows_at a b grows k h.0) (maps_grow ids h.1)

  pub are_on : (us : List Tree) (ids : List ℕ) → AreHeld a ns us ids → AreHeld b ms us ids
  are_on us ids are = record {
    within = below_more (length a) (length b) (grows_length a b grows) ids are.within;
    terms = λ behind. maps_grow ids are.within ∙ are.terms (more.0 ++ behind) ∙ ap (λ l. map (substitute (by_place l)) us) (more_behind ns ms more behind);
  }

  pub all_on : (terms : Substitution) (front : List ℕ) (count : ℕ) (ids : List TermId) → AllHeld terms front count a ns ids → AllHeld terms front count b ms ids
  all_on terms front count ids all = record { as_many = all.as_many; held = λ r i. held_on (terms r) (id_at ids r) (all.held r i) }

pub put_held : (bank : List Tree) (ns : List ℕ) (u : Tree) (id : ℕ) → IsHeld bank ns u id → IsPut bank bank ns ns u id
put_held bank ns u id is = record { grows = grows_refl bank; more = extends_refl ns; held = is }

pub put_as : (a b : List Tree) (ns ms : List ℕ) (u v : Tree) (id : ℕ) → u ≡ v → IsPut a b ns ms u id → IsPut a b ns ms v id
put_as a b ns ms u v id e is = subst (λ (x : Tree). IsPut a b ns ms x id) e is

-- a class more is there
pub held_next : (terms : Substitution) (order : List ℕ) (i r count : ℕ) (a b : List Tree) (ns ms : List ℕ) (ids : List TermId) (id : TermId) → i < length order → r ≡ nth order i → r < count
    → AllHeld terms (take i order) count a ns ids → IsPut a b ns ms (terms r) id.0 → AllHeld terms (take (i + 1) order) count b ms (set ids r id)
held_next terms order i r count a b ns ms ids id h at within all is = record {
  as_many = length-set ids r id ∙ all.as_many;
  held = λ k j. elim (cases_eq k r) [
    | inl e ↦ subst (λ n. IsHeld b ms (terms n) (id_at (set ids r id) n)) (sym e)
        (subst (λ (x : TermId). IsHeld b ms (terms r) x.0) (sym (get_or-set_same ids r id record { 0 = 0 } inside)) is.held)
    | inr d ↦ elim (in_either k r (take i order) (subst (In k) more j)) [
      | inl before ↦ subst (λ (x : TermId). IsHeld b ms (terms k) x.0) (sym (get_or-set_other ids r k id record { 0 = 0 } d)) (held_on a b ns ms is.grows is.more (terms k) (id_at ids k) (all.held k before))
      | inr e ↦ absurd (d e)
    ]
  ];
}
  where
    more : take (i + 1) order ≡ take i order ++ r ∷ []
    more = take_more order i 0 h ∙ ap (λ n. take i order ++ n ∷ []) (sym at)

    inside : r < length ids
    inside = let n = all.as_many in omega (arith, within, n)

all_in : (xs ys : List ℕ) → AllIn xs ys → (x : ℕ) → In x xs → In x ys
all_in [] ys all x i = elim i [ ]
all_in (y ∷ xs) ys all x i = elim i [ inl e ↦ subst (λ n. In n ys) (sym e) all.0 | inr j ↦ all_in xs ys all.1 x j ]

-- the classes of a class's arguments are there before it
pub children_held : (c : Classes) (terms : Substitution) (order : List ℕ) (i r count : ℕ) (bank : List Tree) (ns : List ℕ) (ids : List TermId) → IsOrder c [] order → i < length order → r ≡ nth order i → AllHeld terms (take i order) count bank ns ids
    → (k : ℕ) → In k (children c r) → IsHeld bank ns (terms k) (id_at ids k)
children_held c terms order i r count bank ns ids o h at all k j =
    all.held k (all_in (children c r) (take i order) (subst (λ n. AllIn (children c n) (take i order)) (sym at) (stands_at c [] order o i 0 h).children) k j)

mapped_in : (g : ℕ → ℕ) (ks : List ℕ) (k : ℕ) → In k ks → In (g k) (map g ks)
mapped_in g [] k i = elim i [ ]
mapped_in g (j ∷ ks) k i = elim i [ inl e ↦ inl (ap g e) | inr r ↦ inr (mapped_in g ks k r) ]

-- the class of an argument is one of these
pub child_in : (c : Classes) (r schema f : ℕ) (ks : List ℕ) (i : ℕ) → AreClasses c → r < length c.shapes → schema ≡ slice_index_or c.schemas r schema → application f ks ≡ shape_at c.shapes schema → i < length ks → In (nth c.links (nth ks i)) (children c r)
child_in c r schema f ks i are within read e h =
    let shape : schema_of c r ≡ application f ks = ap (shape_at c.shapes) (sym (schema_read c r schema are within read).0) ∙ sym e in
    subst (λ s. In (nth c.links (nth ks i)) (map (nth c.links) (arguments_of s))) (sym shape) (mapped_in (nth c.links) ks (nth ks i) (nth_in ks i h))

-- terms one after the other
below_push : (n : ℕ) (ks : List ℕ) (k : ℕ) → AreNumbersBelow n ks → k < n → AreNumbersBelow n (ks ++ k ∷ [])
below_push n [] k h lt = (lt, tt)
below_push n (j ∷ ks) k h lt = (h.0, below_push n ks k h.1 lt)

pub are_next : (bank : List Tree) (ns : List ℕ) (us : List Tree) (u : Tree) (ids : List ℕ) (id : ℕ) → AreHeld bank ns us ids → IsHeld bank ns u id → AreHeld bank ns (us ++ u ∷ []) (ids ++ id ∷ [])
are_next bank ns us u ids id are is = record {
  within = below_push (length bank) ids id are.within is.within;
  terms = λ behind.
      map-append (tree_at bank) ids (id ∷ []) ∙ ap₂ (λ (x : List Tree) (y : Tree). x ++ y ∷ []) (are.terms behind) (is.term behind)
      ∙ sym (map-append (substitute (by_place (ns ++ behind))) us (u ∷ []));
}

pub puts_none : (bank : List Tree) (ns : List ℕ) → ArePut bank bank ns ns [] []
puts_none bank ns = record { grows = grows_refl bank; more = extends_refl ns; held = record { within = tt; terms = λ behind. refl } }

pub puts_next : (a b c : List Tree) (ns ms ks : List ℕ) (us : List Tree) (u : Tree) (ids : List ℕ) (id : ℕ) → ArePut a b ns ms us ids → IsPut b c ms ks u id → ArePut a c ns ks (us ++ u ∷ []) (ids ++ id ∷ [])
puts_next a b c ns ms ks us u ids id are is = record {
  grows = grows_on a b c are.grows is.grows;
  more = extends_on ns ms ks are.more is.more;
  held = are_next c ks us u ids id (are_on b c ms ks is.grows is.more us ids are.held) is.held;
}

numbers_push : (ids : List TermId) (id : TermId) → numbers_of (ids ++ id ∷ []) ≡ numbers_of ids ++ id.0 ∷ []
numbers_push [] id = refl
numbers_push (k ∷ ids) id = ap (λ l. k.0 ∷ l) (numbers_push ids id)

trees_numbered : (bank : List Tree) (ids : List TermId) → map (tree_at bank) (numbers_of ids) ≡ map (λ (k : TermId). tree_at bank k.0) ids
trees_numbered bank [] = refl
trees_numbered bank (k ∷ ids) = ap (λ l. tree_at bank k.0 ∷ l) (trees_numbered bank ids)

-- all under a symbol
pub puts_applied : (a b c : List Tree) (ns ms : List ℕ) (f : ℕ) (us : List Tree) (ids : List TermId) (id : ℕ) → ArePut a b ns ms us (numbers_of ids) → Grows b c → IsAt c id (app f (trees_of (map (λ (k : TermId). tree_at b k.0) ids))) → IsPut a c ns ms (app f (trees_of us)) id
puts_applied a b c ns ms f us ids id are grows is = record {
  grows = grows_on a b c are.grows grows;
  more = are.more;
  held = record {
    within = is.within;
    term = λ behind.
        is.tree ∙ ap (λ l. app f (trees_of l)) (sym (trees_numbered b ids) ∙ are.held.terms behind)
        ∙ ap (app f) (put_trees (by_place (ms ++ behind)) us);
  };
}

-- an argument of a class more
pub class_held : (g : ℕ → Tree) (ks : List ℕ) (i : ℕ) (bank : List Tree) (ns : List ℕ) (ids made : List TermId) (id : TermId) → i < length ks → made ≡ ids ++ id ∷ [] → AreHeld bank ns (map g (take i ks)) (numbers_of ids) → IsHeld bank ns (g (nth ks i)) id.0 → AreHeld bank ns (map g (take (i + 1) ks)) (numbers_of made)
class_held g ks i bank ns ids made id h pushed are is =
    subst (λ (l : List ℕ). AreHeld bank ns (map g (take (i + 1) ks)) l) (sym (ap numbers_of pushed ∙ numbers_push ids id))
    (subst (λ (us : List Tree). AreHeld bank ns us (numbers_of ids ++ id.0 ∷ [])) (sym (map_more g ks i 0 h)) (are_next bank ns (map g (take i ks)) (g (nth ks i)) (numbers_of ids) id.0 are is))

-- and one of a term
pub term_put : (s : Substitution) (xs : List Term) (i : ℕ) (x : Term) (a b c : List Tree) (ns ms ks : List ℕ) (ids made : List TermId) (id : TermId) → i < length xs → x ≡ slice_index_or xs i x → made ≡ ids ++ id ∷ [] → ArePut a b ns ms (map (λ y. substitute s (tree_of y)) (take i xs)) (numbers_of ids)
    → IsPut b c ms ks (substitute s (tree_of x)) id.0 → ArePut a c ns ks (map (λ y. substitute s (tree_of y)) (take (i + 1) xs)) (numbers_of made)
term_put s xs i x a b c ns ms ks ids made id h at pushed are is =
    subst (λ (l : List ℕ). ArePut a c ns ks (map (λ y. substitute s (tree_of y)) (take (i + 1) xs)) l) (sym (ap numbers_of pushed ∙ numbers_push ids id))
    (subst (λ (us : List Tree). ArePut a c ns ks us (numbers_of ids ++ id.0 ∷ [])) (made_next (substitute s) xs i x h at) (puts_next a b c ns ms ks (map (λ y. substitute s (tree_of y)) (take i xs)) (substitute s (tree_of x)) (numbers_of ids) id.0 are is))

-- the arguments of a term with terms put in
pub made_put : (s : Substitution) (f : ℕ) (a b c : List Tree) (ns ms : List ℕ) (xs ts : List Term) (us : List Tree) (made : List TermId) (i id : ℕ) → ArePut a b ns ms (map (λ t. substitute s (tree_of t)) (take i xs)) (numbers_of made) → Grows b c → IsAt c id (app f (trees_of (map (λ (k : TermId). tree_at b k.0) made)))
    → length xs ≤ i → xs ≡ ts → tree_list ts ≡ us → IsPut a c ns ms (substitute s (app f (trees_of us))) id
made_put s f a b c ns ms xs ts us made i id are grows is h same view =
    subst (λ u. IsPut a c ns ms u id)
    (ap (app f) (put_made s xs i (map (λ t. substitute s (tree_of t)) (take i xs)) h refl)
    ∙ ap (λ l. app f (substitute_all s (trees_of (tree_list l)))) same ∙ ap (λ l. app f (substitute_all s (trees_of l))) view)
    (puts_applied a b c ns ms f (map (λ t. substitute s (tree_of t)) (take i xs)) made id are grows is)

-- the same where it is told of a result
pub result_as : {E : Type 0} (r : Result TermId E) (a b : List Tree) (ns ms : List ℕ) (u v : Tree) → u ≡ v → IfOk r (λ id. IsPut a b ns ms u id.0) → IfOk r (λ id. IsPut a b ns ms v id.0)
result_as r a b ns ms u v e is = subst (λ (x : Tree). IfOk r (λ id. IsPut a b ns ms x id.0)) e is

-- what is put in at once
pub result_put : {E : Type 0} (r : Result TermId E) (a b : List Tree) (ns : List ℕ) (u : Tree) → ((s : Substitution) → substitute s u ≡ u) → Grows a b → IfOk r (λ id. IsAt b id.0 u) → IfOk r (λ id. IsPut a b ns ns u id.0)
result_put (Ok id) a b ns u same grows is = record { grows = grows; more = extends_refl ns; held = record { within = is.within; term = λ behind. is.tree ∙ sym (same (by_place (ns ++ behind))) } }
result_put (Err e) a b ns u same grows is = tt

-- and under a symbol
pub result_applied : {E : Type 0} (r : Result TermId E) (a b c : List Tree) (ns ms : List ℕ) (f : ℕ) (us : List Tree) (ids made : List TermId) → ids ≡ made → ArePut a b ns ms us (numbers_of made) → Grows b c → IfOk r (λ id. IsAt c id.0 (app f (trees_of (map (λ (k : TermId). tree_at b k.0) ids))))
    → IfOk r (λ id. IsPut a c ns ms (app f (trees_of us)) id.0)
result_applied (Ok id) a b c ns ms f us ids made e are grows is = puts_applied a b c ns ms f us made id.0 are grows (subst (λ (x : List TermId). IsAt c id.0 (app f (trees_of (map (λ (k : TermId). tree_at b k.0) x)))) e is)
result_applied (Err e) a b c ns ms f us ids made same are grows is = tt

pub result_made : {E : Type 0} (r : Result TermId E) (s : Substitution) (f : ℕ) (a b c : List Tree) (ns ms : List ℕ) (xs ts : List Term) (us : List Tree) (ids made : List TermId) (i : ℕ) → ids ≡ made → ArePut a b ns ms (map (λ t. substitute s (tree_of t)) (take i xs)) (numbers_of made) → Grows b c
    → IfOk r (λ id. IsAt c id.0 (app f (trees_of (map (λ (k : TermId). tree_at b k.0) ids)))) → length xs ≤ i → xs ≡ ts → tree_list ts ≡ us → IfOk r (λ id. IsPut a c ns ms (substitute s (app f (trees_of us))) id.0)
result_made (Ok id) s f a b c ns ms xs ts us ids made i e are grows is h same view = made_put s f a b c ns ms xs ts us made i id.0 are grows (subst (λ (x : List TermId). IsAt c id.0 (app f (trees_of (map (λ (k : TermId). tree_at b k.0) x)))) e is) h same view
result_made (Err e) s f a b c ns ms xs ts us ids made i same are grows is h eq view = tt

-- and of a class
pub class_applied : {E : Type 0} (r : Result TermId E) (g : ℕ → Tree) (f : ℕ) (ks : List ℕ) (i : ℕ) (a c : List Tree) (ns : List ℕ) (ids made : List TermId) (u : Tree) → ids ≡ made → AreHeld a ns (map g (take i ks)) (numbers_of made) → length ks ≤ i → Grows a c
    → IfOk r (λ id. IsAt c id.0 (app f (trees_of (map (λ (k : TermId). tree_at a k.0) ids)))) → app f (trees_of (map g ks)) ≡ u → IfOk r (λ id. IsPut a c ns ns u id.0)
class_applied r g f ks i a c ns ids made u e are h grows is same =
    result_as r a c ns ns (app f (trees_of (map g ks))) u same
    (result_applied r a a c ns ns f (map g ks) ids made e (record { grows = grows_refl a; more = extends_refl ns; held = subst (λ (x : List ℕ). AreHeld a ns (map g x) (numbers_of made)) (take_all i ks h) are }) grows is)

-- a parent's term more
pub parent_put : (many : ℕ) (bs : List Binding) (ts : List OfParent) (i : ℕ) (t : OfParent) (a b c : List Tree) (ns ms ks : List ℕ) (ids made : List TermId) (id : TermId) → i < length ts → t ≡ slice_index_or ts i t → made ≡ ids ++ id ∷ [] → ArePut a b ns ms (map (of_parent many bs) (take i ts)) (numbers_of ids)
    → IsPut b c ms ks (of_parent many bs t) id.0 → ArePut a c ns ks (map (of_parent many bs) (take (i + 1) ts)) (numbers_of made)
parent_put many bs ts i t a b c ns ms ks ids made id h at pushed are is =
    subst (λ (l : List ℕ). ArePut a c ns ks (map (of_parent many bs) (take (i + 1) ts)) l) (sym (ap numbers_of pushed ∙ numbers_push ids id))
    (subst (λ (us : List Tree). ArePut a c ns ks us (numbers_of ids ++ id.0 ∷ [])) (sym more) (puts_next a b c ns ms ks (map (of_parent many bs) (take i ts)) (of_parent many bs t) (numbers_of ids) id.0 are is))
  where
    more : map (of_parent many bs) (take (i + 1) ts) ≡ map (of_parent many bs) (take i ts) ++ of_parent many bs t ∷ []
    more = ap (map (of_parent many bs)) (take_more ts i t h ∙ ap (λ u. take i ts ++ u ∷ []) (sym at)) ∙ map-append (of_parent many bs) (take i ts) (t ∷ [])

pub parents_put : (many : ℕ) (bs : List Binding) (ts : List OfParent) (i : ℕ) (a b : List Tree) (ns ms : List ℕ) (ids : List ℕ) → length ts ≤ i → ArePut a b ns ms (map (of_parent many bs) (take i ts)) ids → ArePut a b ns ms (map (of_parent many bs) ts) ids
parents_put many bs ts i a b ns ms ids h are = subst (λ (us : List OfParent). ArePut a b ns ms (map (of_parent many bs) us) ids) (take_all i ts h) are

-- all of them
pub all_shared : (many : ℕ) (bs : List Binding) (ts us : List OfParent) (a b c : List Tree) (ns ms ks : List ℕ) (ids others : List TermId) (s : Shared) → ArePut a b ns ms (map (of_parent many bs) ts) (numbers_of ids) → ArePut b c ms ks (map (of_parent many bs) us) (numbers_of others)
    → s.bank ≡ c → s.terms.items ≡ ids → s.others.items ≡ others → IsShared many bs ts us s
all_shared many bs ts us a b c ns ms ks ids others s are too e f g = record {
  variables = ks;
  terms = subst (λ (x : List Tree). AreHeld x ks (map (of_parent many bs) ts) (numbers_of s.terms.items)) (sym e) (subst (λ (x : List TermId). AreHeld c ks (map (of_parent many bs) ts) (numbers_of x)) (sym f) (are_on b c ms ks too.grows too.more (map (of_parent many bs) ts) (numbers_of ids) are.held));
  others = subst (λ (x : List Tree). AreHeld x ks (map (of_parent many bs) us) (numbers_of s.others.items)) (sym e) (subst (λ (x : List TermId). AreHeld c ks (map (of_parent many bs) us) (numbers_of x)) (sym g) too.held);
}
