-- What takes part stays so where more is bound and linked.
use Rattle.std.proofs.Common.{◌≡◌, inl, inr, ◌⊎◌, ℕ, ◌<◌, ◌≤◌, Bool, true, false, List, [], ◌∷◌, ◌++◌, length, get_or, refl, sym, subst, arith}
use Rattle.fol_core.specs.Tree.{Tree, var}
use Rattle.term_bank.specs.declared.id.TermId.{TermId}
use Rattle.unify.specs.Joins.{MayBind, CanLink}
use Rattle.unify.specs.Opens.{AreOpen}
use Rattle.unify.specs.Spots.{spot_tree, spot, In}
use Rattle.unify.specs.Steps.{IsShownIn, IsWork, StaysWork, VariableStays, TermsStay, IsReach}
use Rattle.unify.specs.declared.spot.Bound.{Bound}
use Rattle.unify.specs.declared.spot.Link.{Link}
use Rattle.unify.specs.declared.spot.Spot.{Spot}
use Rattle.unify.specs.declared.spot.Workspace.{Workspace}
use Rattle.unify.proofs.Classes.{argument_in, link_ends}
use Rattle.unify.proofs.Closing.{in_at}
use Rattle.unify.proofs.Lists.{in_cases, in_last}
use Rattle.unify.proofs.Pairs.{OneBound, bound_work, OneLinked, linked_work, stands, stands_in}

stays_here : (bank : List Tree) (ps : List Spot) (xs : List ℕ) (a : Workspace) → IsWork bank ps xs a → StaysWork bank ps xs a a
stays_here bank ps xs a w = record { work = w; within = λ b i. inl i }

stays_on : (bank : List Tree) (ps : List Spot) (xs : List ℕ) (a b c : Workspace) → StaysWork bank ps xs a b → StaysWork bank ps xs b c → StaysWork bank ps xs a c
stays_on bank ps xs a b c h k = record { work = k.work; within = λ d i. elim (k.within d i) [ inl j ↦ h.within d j | inr j ↦ inr j ] }

pub nothing_stays : (bank : List Tree) (a : Workspace) (p q : Spot) (made : Bool) → TermsStay bank a a p q made
nothing_stays bank a p q true = λ ps xs w i j. stays_here bank ps xs a w
nothing_stays bank a p q false = tt

-- one more binding
pub bound_stays : (bank : List Tree) (a b : Workspace) (x : ℕ) (q : Spot) (reached : List Spot) → OneBound a b x q → MayBind bank a x q → IsReach bank a.bound.items q reached → ¬ IsShownIn bank reached x
    → VariableStays bank a b x q true
bound_stays bank a b x q reached s c r hidden = λ ps xs w named inside.
    let new : Bound = record { variable = x; to = q } in
    let may : MayBind bank a x q = record { ps = ps; xs = xs; work = w; inside = inside; named = named; unbound = c.unbound; free = c.free; other = c.other; loose = c.loose } in
    record {
      work = bound_work bank a b x q s may (r.back x hidden);
      within = λ d i. elim (in_cases d a.bound.items (new ∷ []) (subst (In d) s.bound i)) [ inl j ↦ inl j | inr j ↦ inr (subst (λ (e : Bound). In e.to ps) (sym (in_last d new j)) inside) ];
    }

-- one more link
pub linked_stays : (bank : List Tree) (a b : Workspace) (p q : Spot) → OneLinked a b p q → CanLink bank a p q → ¬ (p ≡ q) → TermsStay bank a b p q true
linked_stays bank a b p q s c other = λ ps xs w i j.
    let can : CanLink bank a p q = record { join = record { ps = ps; xs = xs; work = w; left = i; right = j; left_end = c.join.left_end; right_end = c.join.right_end }; left = c.left; right = c.right } in
    record { work = linked_work bank a b p q s can other; within = λ d k. inl (subst (In d) s.bound k) }

-- a variable that stands at a spot
pub variable_stays : (bank : List Tree) (a b : Workspace) (x : ℕ) (p q : Spot) (made : Bool) → spot_tree bank p ≡ var x → VariableStays bank a b x q made → TermsStay bank a b p q made
variable_stays bank a b x p q true e h = λ ps xs w i j. h ps xs w (w.parts.named p x i e) j
variable_stays bank a b x p q false e h = tt

pub turned_stays : (bank : List Tree) (a b : Workspace) (x : ℕ) (p q : Spot) (made : Bool) → spot_tree bank q ≡ var x → VariableStays bank a b x p made → TermsStay bank a b p q made
turned_stays bank a b x p q true e h = λ ps xs w i j. h ps xs w (w.parts.named q x j e) i
turned_stays bank a b x p q false e h = tt

-- what stands for the class of a term
pub merged_stays : (bank : List Tree) (a b : Workspace) (s t p q : Spot) (made : Bool) → p ≡ stands bank a s → q ≡ stands bank a t → TermsStay bank a b p q made → TermsStay bank a b s t made
merged_stays bank a b s t p q true e f h = λ ps xs w i j.
    h ps xs w (subst (λ r. In r ps) (sym e) (stands_in bank a ps xs s w i)) (subst (λ r. In r ps) (sym f) (stands_in bank a ps xs t w j))
merged_stays bank a b s t p q false e f h = tt

-- one pair of arguments further
pub opened_stays : (bank : List Tree) (a b c : Workspace) (k : Link) (ks js : List TermId) (n : ℕ) (d e : TermId) → AreOpen bank a k ks js → n < length ks → TermsStay bank a b k.from k.to true
    → TermsStay bank b c (spot (get_or ks n d) k.from.context) (spot (get_or js n e) k.to.context) true → TermsStay bank a c k.from k.to true
opened_stays bank a b c k ks js n d e opened lt first next = λ ps xs w i j.
    let h = first ps xs w i j in
    let right : n < length js = omega (arith, lt, opened.even) in
    stays_on bank ps xs a b c h
    (next ps xs h.work (argument_in bank b.bound.items ps xs k.from opened.head ks (get_or ks n d) h.work.parts i opened.left opened.left_in (in_at ks n d lt))
    (argument_in bank b.bound.items ps xs k.to opened.head js (get_or js n e) h.work.parts j opened.right opened.right_in (in_at js n e right)))

-- one link further
pub linked_on : (bank : List Tree) (a b c : Workspace) (s t : Spot) (k : Link) → In k b.links.items → TermsStay bank a b s t true → TermsStay bank b c k.from k.to true → TermsStay bank a c s t true
linked_on bank a b c s t k there first next = λ ps xs w i j.
    let h = first ps xs w i j in
    let ends = link_ends bank ps [] b.links.items k h.work.links there in
    stays_on bank ps xs a b c h (next ps xs h.work ends.1.from_in ends.1.to_in)
