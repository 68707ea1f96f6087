-- What bindings and links lead to.
use Rattle.std.proofs.Common.{◌≡◌, inl, inr, ℕ, ◌==◌, Bool, true, false, if◌then◌else◌, List, [], ◌∷◌, ◌++◌, refl, sym, ap, ap₂, ◌∙◌, subst}
use Rattle.std.proofs.lemmas.Bool.{eq-eqb, eqb-true, false≢true, both_ways}
use Rattle.fol_core.specs.Substitutions.{Substitution, substitute}
use Rattle.fol_core.specs.Tree.{Tree, var}
use Rattle.term_bank.specs.declared.id.TermId.{TermId}
use Rattle.unifiers.specs.Matching.{same_tree}
use Rattle.unifiers.proofs.MatchesFound.{tree_same, same_itself}
use Rattle.unify.specs.Bindings.{Meets, bound_variables, PointsOn, AreBoundInOrder}
use Rattle.unify.specs.Rooms.{AreFollowed}
use Rattle.unify.specs.Spots.{spot_tree, In}
use Rattle.unify.specs.Steps.{stepped, walked, same_spot, linked, froms, Alike, AlikeLinks, IsLink, AreLinks}
use Rattle.unify.specs.declared.spot.Bound.{Bound}
use Rattle.unify.specs.declared.spot.Link.{Link}
use Rattle.unify.specs.declared.spot.Spot.{Spot}
use Rattle.unify.proofs.Alikes.{alike_on}
use Rattle.unify.proofs.Lists.{in_front, in_behind, in_cases, in_last, assoc, nothing_more}
use Rattle.unify.specs.Reaches.{Differ}

-- one step, by whether it is taken
step_cases : (P : Spot → Type 0) (bank : List Tree) (b : Bound) (p : Spot) → (spot_tree bank p ≡ var b.variable → P b.to) → (¬ (spot_tree bank p ≡ var b.variable) → P p) → P (stepped bank b p)
step_cases P bank b p taken other = by (same_tree (var b.variable) (spot_tree bank p)) refl
  where
    by : (c : Bool) → same_tree (var b.variable) (spot_tree bank p) ≡ c → P (if c then b.to else p)
    by true e = taken (sym (tree_same (var b.variable) (spot_tree bank p) e))
    by false e = other (λ h. both_ways (same_tree (var b.variable) (spot_tree bank p)) e (subst (λ t. same_tree (var b.variable) t ≡ true) (sym h) (same_itself (var b.variable))))

pub walked_same : (u : Substitution) (bank : List Tree) (bs : List Bound) (p : Spot) → Meets u bank bs → substitute u (spot_tree bank p) ≡ substitute u (spot_tree bank (walked bank bs p))
walked_same u bank [] p m = refl
walked_same u bank (b ∷ bs) p m =
    step_cases (λ q. substitute u (spot_tree bank p) ≡ substitute u (spot_tree bank q)) bank b p (λ e. ap (substitute u) e ∙ m.0) (λ n. refl)
    ∙ walked_same u bank bs (stepped bank b p) m.1

pub walked_in : (bank : List Tree) (ps : List Spot) (bs : List Bound) (p : Spot) → AreFollowed bank ps bs → In p ps → In (walked bank bs p) ps
walked_in bank ps [] p f i = i
walked_in bank ps (b ∷ bs) p f i = walked_in bank ps bs (stepped bank b p) f.1 (step_cases (λ q. In q ps) bank b p (λ e. f.0 p i e) (λ n. i))

pub walked_free : (bank : List Tree) (xs : List ℕ) (bs : List Bound) (p : Spot) → AreBoundInOrder bank xs bs → PointsOn bank xs p → PointsOn bank (xs ++ bound_variables bs) (walked bank bs p)
walked_free bank xs [] p o on = subst (λ ys. PointsOn bank ys p) (sym (nothing_more xs)) on
walked_free bank xs (b ∷ bs) p o on =
    subst (λ ys. PointsOn bank ys (walked bank bs (stepped bank b p))) (assoc xs (b.variable ∷ []) (bound_variables bs))
    (walked_free bank (xs ++ b.variable ∷ []) bs (stepped bank b p) o.2
    (step_cases (PointsOn bank (xs ++ b.variable ∷ [])) bank b p (λ e. o.1)
    (λ n z e i. elim (in_cases z xs (b.variable ∷ []) i) [ inl j ↦ on z e j | inr j ↦ n (e ∙ ap var (in_last z b.variable j)) ])))

spot_same : (p q : Spot) → same_spot p q ≡ true → p ≡ q
spot_same p q h = by (p.term.0 == q.term.0) refl h
  where
    by : (c : Bool) → (p.term.0 == q.term.0) ≡ c → (if c then p.context == q.context else false) ≡ true → p ≡ q
    by true e k = ap₂ (λ (i : ℕ) (j : ℕ). let t : TermId = record { 0 = i } in let r : Spot = record { term = t; context = j } in r) (eqb-true p.term.0 q.term.0 e) (eqb-true p.context q.context k)
    by false e k = absurd (false≢true k)

same_spot_itself : (p : Spot) → same_spot p p ≡ true
same_spot_itself p = ap (λ c. if c then p.context == p.context else false) (eq-eqb p.term.0 p.term.0 refl) ∙ eq-eqb p.context p.context refl

pub spot_iff : (p q : Spot) → (same_spot p q ≡ true → p ≡ q) × (p ≡ q → same_spot p q ≡ true)
spot_iff p q = (spot_same p q, λ e. subst (λ r. same_spot p r ≡ true) e (same_spot_itself p))

abbrev onward : Link → Spot → Spot
onward k p = if same_spot k.from p then k.to else p

link_cases : (P : Spot → Type 0) (k : Link) (p : Spot) → (k.from ≡ p → P k.to) → (¬ (k.from ≡ p) → P p) → P (onward k p)
link_cases P k p taken other = by (same_spot k.from p) refl
  where
    by : (c : Bool) → same_spot k.from p ≡ c → P (if c then k.to else p)
    by true e = taken (spot_same k.from p e)
    by false e = other (λ h. both_ways (same_spot k.from p) e ((spot_iff k.from p).1 h))

pub linked_alike : (n : ℕ) (u : Substitution) (bank : List Tree) (ks : List Link) (p : Spot) → AlikeLinks n u bank ks → Alike n u (spot_tree bank p) (spot_tree bank (linked ks p))
linked_alike n u bank [] p a = λ h. refl
linked_alike n u bank (k ∷ ks) p a =
    alike_on n u (spot_tree bank p) (spot_tree bank (onward k p)) (spot_tree bank (linked ks (onward k p)))
    (link_cases (λ q. Alike n u (spot_tree bank p) (spot_tree bank q)) k p (λ e. subst (λ r. Alike n u (spot_tree bank r) (spot_tree bank k.to)) e a.0) (λ e h. refl))
    (linked_alike n u bank ks (onward k p) a.1)

pub linked_in : (bank : List Tree) (ps fs : List Spot) (ks : List Link) (p : Spot) → AreLinks bank ps fs ks → In p ps → In (linked ks p) ps
linked_in bank ps fs [] p l i = i
linked_in bank ps fs (k ∷ ks) p l i = linked_in bank ps (fs ++ k.from ∷ []) ks (onward k p) l.1 (link_cases (λ q. In q ps) k p (λ e. l.0.to_in) (λ e. i))

pub linked_end : (bank : List Tree) (ps fs : List Spot) (ks : List Link) (p : Spot) → AreLinks bank ps fs ks → ¬ In p fs → ¬ In (linked ks p) (fs ++ froms ks)
linked_end bank ps fs [] p l n = subst (λ gs. ¬ In p gs) (sym (nothing_more fs)) n
linked_end bank ps fs (k ∷ ks) p l n =
    subst (λ gs. ¬ In (linked ks (onward k p)) gs) (assoc fs (k.from ∷ []) (froms ks))
    (linked_end bank ps (fs ++ k.from ∷ []) ks (onward k p) l.1
    (link_cases (λ q. ¬ In q (fs ++ k.from ∷ [])) k p (λ e. l.0.onward)
    (λ e i. elim (in_cases p fs (k.from ∷ []) i) [ inl j ↦ n j | inr j ↦ e (sym (in_last p k.from j)) ])))

pub linked_variable : (bank : List Tree) (ps fs : List Spot) (ks : List Link) (p : Spot) (x : ℕ) → AreLinks bank ps fs ks → spot_tree bank (linked ks p) ≡ var x → spot_tree bank p ≡ var x
linked_variable bank ps fs [] p x l e = e
linked_variable bank ps fs (k ∷ ks) p x l e = back (linked_variable bank ps (fs ++ k.from ∷ []) ks (onward k p) x l.1 e)
  where
    back : spot_tree bank (onward k p) ≡ var x → spot_tree bank p ≡ var x
    back = link_cases (λ q. spot_tree bank q ≡ var x → spot_tree bank p ≡ var x) k p (λ h i. absurd (l.0.no_to x i)) (λ h i. i)

pub links_end : (bank : List Tree) (ps fs : List Spot) (ks : List Link) (k : Link) → AreLinks bank ps fs ks → IsLink bank ps (fs ++ froms ks) k → AreLinks bank ps fs (ks ++ k ∷ [])
links_end bank ps fs [] k l is = (subst (λ gs. IsLink bank ps gs k) (nothing_more fs) is, tt)
links_end bank ps fs (j ∷ ks) k l is = (l.0, links_end bank ps (fs ++ j.from ∷ []) ks k l.1 (subst (λ gs. IsLink bank ps gs k) (sym (assoc fs (j.from ∷ []) (froms ks))) is))

later_differ : (bank : List Tree) (ps fs : List Spot) (ks : List Link) (p : Spot) → AreLinks bank ps fs ks → In p (froms ks) → In p fs → ⊥
later_differ bank ps fs [] p l i j = i
later_differ bank ps fs (k ∷ ks) p l (inl e) j = l.0.fresh (subst (λ q. In q fs) e j)
later_differ bank ps fs (k ∷ ks) p l (inr i) j = later_differ bank ps (fs ++ k.from ∷ []) ks p l.1 i (in_front p fs (k.from ∷ []) j)

pub froms_differ : (bank : List Tree) (ps fs : List Spot) (ks : List Link) → AreLinks bank ps fs ks → Differ (froms ks)
froms_differ bank ps fs [] l = tt
froms_differ bank ps fs (k ∷ ks) l = ((λ i. later_differ bank ps (fs ++ k.from ∷ []) ks k.from l.1 i (in_behind k.from fs (k.from ∷ []) (inl refl))), froms_differ bank ps (fs ++ k.from ∷ []) ks l.1)

pub froms_in : (bank : List Tree) (ps fs : List Spot) (ks : List Link) (p : Spot) → AreLinks bank ps fs ks → In p (froms ks) → In p ps
froms_in bank ps fs [] p l i = absurd i
froms_in bank ps fs (k ∷ ks) p l (inl e) = subst (λ q. In q ps) (sym e) l.0.from_in
froms_in bank ps fs (k ∷ ks) p l (inr i) = froms_in bank ps (fs ++ k.from ∷ []) ks p l.1 i

pub froms_both : (ks js : List Link) → froms (ks ++ js) ≡ froms ks ++ froms js
froms_both [] js = refl
froms_both (k ∷ ks) js = ap (λ l. k.from ∷ l) (froms_both ks js)
