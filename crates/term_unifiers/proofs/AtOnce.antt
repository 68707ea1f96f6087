-- A class whose arguments' classes are all in the order comes last in it, with no class on the way.
use Rattle.std.proofs.Common.{◌≡◌, ℕ, ◌+◌, ◌<◌, ◌≤◌, sym, ap, subst, ◌∙◌, List, [], ◌∷◌, ◌++◌, length, set, arith, inl, inr, slice_index_or}
use Rattle.std.proofs.lemmas.Bool.{cases_eq, cases_lt}
use Rattle.std.proofs.lemmas.List.{length-set, get_or_read, length-map}
use Rattle.term_unifiers.specs.Classes.{Classes, AreClasses, In, AllIn, arguments_of, children, schema_of}
use Rattle.term_unifiers.specs.Merging.{nth}
use Rattle.term_unifiers.specs.Shapes.{shape_at}
use Rattle.term_unifiers.specs.Walking.{mark_at, IsChild, IsWalk, Rests, IsVisited}
use Rattle.term_unifiers.specs.declared.walk.Mark.{Mark}
use Rattle.term_unifiers.specs.declared.walk.Mark.TheVariants.{New, Done}
use Rattle.term_unifiers.specs.declared.walk.Walk.{Walk}
use Rattle.term_unifiers.proofs.Advances.{schema_read, argument_inside, child_read}
use Rattle.term_unifiers.proofs.Terms.{in_front, in_last, in_either}
use Rattle.term_unifiers.proofs.Walks.{mark_here, mark_there, all_by_index, order_push, not_both, not_done}

-- the first arguments' classes are in the order
abbrev pub AreIn : Classes → List ℕ → ℕ → ℕ → Type 0
AreIn c order r n = (k : ℕ) → k < n → In (nth (children c r) k) order

pub put_last : (c : Classes) (marks : List Mark) (order : List ℕ) (r : ℕ) → IsWalk c marks order [] → r < length c.shapes → mark_at marks r ≡ New → AllIn (children c r) order → IsWalk c (set marks r Done) (order ++ r ∷ []) []
put_last c marks order r is within new all = record {
  as_many = length-set marks r Done ∙ is.as_many;
  ordering = order_push c [] order r is.ordering all fresh;
  done = λ k h d. elim (cases_eq k r) [
    | inl e ↦ subst (λ j. In j (order ++ r ∷ [])) (sym e) (in_last r order)
    | inr n ↦ in_front k order (r ∷ []) (is.done k h (sym (mark_there marks r k Done n) ∙ d))
  ];
  ordered = λ k i. elim (in_either k r order i) [
    | inl j ↦ let o = is.ordered k j in (o.0, mark_there marks r k Done (λ e. fresh (subst (λ k. In k order) e j)) ∙ o.1)
    | inr e ↦ subst (λ k. (k < length c.shapes) × (mark_at (set marks r Done) k ≡ Done)) (sym e) (within, mark_here marks r Done inside)
  ];
  on_way = λ k h o. elim (cases_eq k r) [
    | inl e ↦ elim (not_both (mark_at (set marks r Done) k) o (subst (λ k. mark_at (set marks r Done) k ≡ Done) (sym e) (mark_here marks r Done inside))) [ ]
    | inr n ↦ is.on_way k h (sym (mark_there marks r k Done n) ∙ o)
  ];
  framed = λ i d h. let no_place : ⊥ = omega (arith, h) in elim no_place [ ];
  apart = is.apart;
  sinks = is.sinks;
}
  where
    inside : r < length marks
    inside = omega (arith, within, is.as_many)

    fresh : In r order → ⊥
    fresh i = not_done (mark_at marks r) (is.ordered r i).1 new

-- so it is visited
pub visited_at_once : (c : Classes) (old new : Walk) (r : ℕ) → Rests c old → r < length c.shapes → mark_at old.marks.items r ≡ New → AllIn (children c r) old.order.items → new.marks.items ≡ set old.marks.items r Done → new.order.items ≡ old.order.items ++ r ∷ [] → new.frames.items ≡ old.frames.items → IsVisited c old new r
visited_at_once c old new r rests within fresh all marks order frames =
    let empty : new.frames.items ≡ [] = frames ∙ rests.empty in
    let walk = put_last c old.marks.items old.order.items r (subst (IsWalk c old.marks.items old.order.items) rests.empty rests.walk) within fresh all in
    record {
      rests = record {
        walk = subst (λ l. IsWalk c new.marks.items new.order.items l) (sym empty) (subst (λ l. IsWalk c new.marks.items l []) (sym order) (subst (λ l. IsWalk c l (old.order.items ++ r ∷ []) []) (sym marks) walk));
        empty = empty;
      };
      kept = λ k i. subst (In k) (sym order) (in_front k old.order.items (r ∷ []) i);
      there = subst (In r) (sym order) (in_last r old.order.items);
    }

-- one argument more
pub one_more_in : (c : Classes) (marks : List Mark) (order : List ℕ) (r k x : ℕ) → IsWalk c marks order [] → IsChild c r k x → mark_at marks x ≡ Done → AreIn c order r k → AreIn c order r (k + 1)
one_more_in c marks order r k x is child done before j h = elim (cases_lt j k) [
  | inl l ↦ before j l
  | inr g ↦ let last : j ≡ k = omega (arith, h, g) in subst (λ y. In y order) (sym (ap (nth (children c r)) last ∙ child.same)) (is.done x child.within done)
]

-- the arguments of a schema that was read
read_arguments : (c : Classes) (r schema : ℕ) (ks : List ℕ) → AreClasses c → r < length c.shapes → schema ≡ slice_index_or c.schemas r schema → ks ≡ arguments_of (shape_at c.shapes schema) → ks ≡ arguments_of (schema_of c r)
read_arguments c r schema ks are within read e = e ∙ ap (λ n. arguments_of (shape_at c.shapes n)) (schema_read c r schema are within read).0

pub argument_linked : (c : Classes) (r schema k : ℕ) (ks : List ℕ) → AreClasses c → r < length c.shapes → schema ≡ slice_index_or c.schemas r schema → ks ≡ arguments_of (shape_at c.shapes schema) → k < length ks → nth ks k < length c.links
argument_linked c r schema k ks are within read e h =
    let all = read_arguments c r schema ks are within read e in
    subst (λ l. nth l k < length c.links) (sym all) (argument_inside c r k are within (subst (λ l. k < length l) all h))

pub argument_read : (c : Classes) (r schema k x : ℕ) (ks : List ℕ) → AreClasses c → r < length c.shapes → schema ≡ slice_index_or c.schemas r schema → ks ≡ arguments_of (shape_at c.shapes schema) → k < length ks → x ≡ slice_index_or c.links (nth ks k) x → IsChild c r k x
argument_read c r schema k x ks are within read e h link =
    let all = read_arguments c r schema ks are within read e in
    child_read c r k x are within (subst (λ l. k < length l) all h) (get_or_read c.links (nth ks k) x (argument_linked c r schema k ks are within read e h) link 0 ∙ ap (λ l. nth c.links (nth l k)) all)

pub all_in : (c : Classes) (order : List ℕ) (r schema n : ℕ) (ks : List ℕ) → AreClasses c → r < length c.shapes → schema ≡ slice_index_or c.schemas r schema → ks ≡ arguments_of (shape_at c.shapes schema) → length ks ≤ n → AreIn c order r n → AllIn (children c r) order
all_in c order r schema n ks are within read e h before =
    let all = read_arguments c r schema ks are within read e in
    let many = length-map (arguments_of (schema_of c r)) (nth c.links) in
    let same = ap length all in
    all_by_index (children c r) order (λ k g. before k (omega (arith, g, h, many, same)))
