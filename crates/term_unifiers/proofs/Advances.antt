-- What each step of a walk leaves.
use Rattle.std.proofs.Common.{◌≡◌, ℕ, suc, ◌+◌, ◌<◌, ◌≤◌, sym, ap, subst, ◌∙◌, List, [], ◌∷◌, ◌++◌, length, set, arith, inl, inr, slice_index_or}
use Rattle.std.proofs.lemmas.Bool.{cases_eq, cases_lt}
use Rattle.std.proofs.lemmas.List.{get_or-map, get_or_default, get_or_read, length-map}
use Rattle.term_unifiers.specs.Classes.{Classes, schema_of, arguments_of, children, AreClasses, In, IsCyclic, OrdersAll}
use Rattle.term_unifiers.specs.Merging.{nth}
use Rattle.term_unifiers.specs.Shapes.{Shape, variable, element, application, shape_at, AreBelow, HasArgumentsBelow}
use Rattle.term_unifiers.specs.Walking.{mark_at, IsChild, IsWalk, walk_left, WalksOn, Rests, IsVisited}
use Rattle.term_unifiers.specs.declared.walk.Frame.{Frame}
use Rattle.term_unifiers.specs.declared.walk.Mark.{Mark}
use Rattle.term_unifiers.specs.declared.walk.Mark.TheVariants.{New, Open, Done}
use Rattle.term_unifiers.specs.declared.walk.Walk.{Walk}
use Rattle.term_unifiers.proofs.Growing.{below_at, below_more}
use Rattle.term_unifiers.proofs.Terms.{in_front}
use Rattle.term_unifiers.proofs.Walks.{mark_here, mark_there, not_new, few_children, nth_in, finish, finish_less, later, later_less, push_frame, push_less, falls_below, leads_back}

pub schema_inside : (c : Classes) (r : ℕ) → AreClasses c → r < length c.shapes → nth c.schemas r < length c.shapes
schema_inside c r are h = let inside : r < length c.schemas = omega (arith, h, are.schemed) in below_at (length c.shapes) c.schemas are.inside r 0 inside

pub arguments_below : (n : ℕ) (s : Shape) → HasArgumentsBelow n s → AreBelow n (arguments_of s)
arguments_below n (variable x) h = tt
arguments_below n (element k) h = tt
arguments_below n (application f ks) h = h

-- a schema that was read, and its arguments
pub schema_read : (c : Classes) (r schema : ℕ) → AreClasses c → r < length c.shapes → schema ≡ slice_index_or c.schemas r schema → (schema ≡ nth c.schemas r) × (schema < length c.shapes)
schema_read c r schema are h e =
    let inside : r < length c.schemas = omega (arith, h, are.schemed) in
    let read : schema ≡ nth c.schemas r = get_or_read c.schemas r schema inside e 0 in
    (read, subst (λ i. i < length c.shapes) (sym read) (schema_inside c r are h))

pub argument_inside : (c : Classes) (r k : ℕ) → AreClasses c → r < length c.shapes → k < length (arguments_of (schema_of c r)) → nth (arguments_of (schema_of c r)) k < length c.links
argument_inside c r k are h g =
    let schema = schema_inside c r are h in
    let lower = below_at (nth c.schemas r) (arguments_of (schema_of c r)) (arguments_below (nth c.schemas r) (schema_of c r) (are.postorder (nth c.schemas r) schema)) k 0 g in
    omega (arith, lower, schema, are.linked)

-- the arguments of a node that was read
pub schema_arguments : (c : Classes) (n f : ℕ) (ks : List ℕ) → AreClasses c → n < length c.shapes → application f ks ≡ shape_at c.shapes n → AreBelow (length c.links) ks
schema_arguments c n f ks are h e =
    let short : n ≤ length c.links = let l = are.linked in omega (arith, h, l) in
    below_more n (length c.links) short ks (subst (HasArgumentsBelow n) (sym e) (are.postorder n h))

below_by_index : (n : ℕ) (ks : List ℕ) → ((k : ℕ) → k < length ks → nth ks k < n) → AreBelow n ks
below_by_index n [] h = tt
below_by_index n (k ∷ ks) h = (h 0 (omega arith), below_by_index n ks (λ i g. let inner : suc i < length (k ∷ ks) = omega (arith, g) in h (suc i) inner))

-- classes are nodes
pub links_below : (c : Classes) → AreClasses c → AreBelow (length c.shapes) c.links
links_below c are = below_by_index (length c.shapes) c.links (λ k h. let lower = are.down k h in let l = are.linked in omega (arith, lower, h, l))

-- an argument's class that was read
pub child_read : (c : Classes) (r k x : ℕ) → AreClasses c → r < length c.shapes → k < length (arguments_of (schema_of c r)) → x ≡ nth c.links (nth (arguments_of (schema_of c r)) k) → IsChild c r k x
child_read c r k x are h g e =
    let inside = argument_inside c r k are h g in
    let lower = are.down (nth (arguments_of (schema_of c r)) k) inside in
    record {
      there = let l = length-map (arguments_of (schema_of c r)) (nth c.links) in omega (arith, l, g);
      same = get_or-map (nth c.links) (arguments_of (schema_of c r)) k 0 0 g ∙ sym e;
      within = omega (arith, inside, lower, are.linked, e);
    }

pub no_child : (c : Classes) (r k : ℕ) → length (arguments_of (schema_of c r)) ≤ k → length (children c r) ≤ k
no_child c r k h = let l = length-map (arguments_of (schema_of c r)) (nth c.links) in omega (arith, l, h)

-- a mark that was read
pub mark_read : (c : Classes) (marks : List Mark) (order : List ℕ) (frames : List Frame) (x : ℕ) (m n : Mark) → IsWalk c marks order frames → x < length c.shapes → m ≡ slice_index_or marks x m → m ≡ n → mark_at marks x ≡ n
mark_read c marks order frames x m n is h e f =
    let inside : x < length marks = let a = is.as_many in omega (arith, a, h) in
    sym (e ∙ get_or_default marks x m New inside) ∙ f

mark_kept : (marks : List Mark) (r : ℕ) (m : Mark) → r < length marks → (m ≡ New → ⊥) → (k : ℕ) → (mark_at marks k ≡ New → ⊥) → mark_at (set marks r m) k ≡ New → ⊥
mark_kept marks r m h other k old new = elim (cases_eq k r) [
  | inl e ↦ other (sym (mark_here marks r m h) ∙ ap (mark_at (set marks r m)) (sym e) ∙ new)
  | inr d ↦ old (sym (mark_there marks r k m d) ∙ new)
]

walks_by : (c : Classes) (marks : List Mark) (order : List ℕ) (frames : List Frame) (ms : List Mark) (os : List ℕ) (fs : List Frame) (w : Walk) → w.marks.items ≡ ms → w.order.items ≡ os → w.frames.items ≡ fs → IsWalk c ms os fs
    → ((r : ℕ) → In r order → In r os) → ((r : ℕ) → (mark_at marks r ≡ New → ⊥) → mark_at ms r ≡ New → ⊥) → walk_left c ms fs < walk_left c marks frames → WalksOn c marks order frames w
walks_by c marks order frames ms os fs w m o f is kept marked less = record {
  walk = subst (λ l. IsWalk c w.marks.items w.order.items l) (sym f) (subst (λ l. IsWalk c w.marks.items l fs) (sym o) (subst (λ l. IsWalk c l os fs) (sym m) is));
  kept = λ r i. subst (In r) (sym o) (kept r i);
  marked = λ r n e. marked r n (sym (ap (λ l. mark_at l r) m) ∙ e);
  less = subst (λ l. walk_left c w.marks.items l < walk_left c marks frames) (sym f) (subst (λ l. walk_left c l fs < walk_left c marks frames) (sym m) less);
}

-- the innermost class is put into the order
pub ends : (c : Classes) (marks : List Mark) (order : List ℕ) (frames : List Frame) (f : Frame) (w : Walk) → IsWalk c marks order (frames ++ f ∷ []) → f.root < length c.shapes → mark_at marks f.root ≡ Open → length (children c f.root) ≤ f.next
    → w.marks.items ≡ set marks f.root Done → w.order.items ≡ order ++ f.root ∷ [] → w.frames.items ≡ frames → WalksOn c marks order (frames ++ f ∷ []) w
ends c marks order frames f w is within on_way all m o g =
    let inside : f.root < length marks = omega (arith, within, is.as_many) in
    walks_by c marks order (frames ++ f ∷ []) (set marks f.root Done) (order ++ f.root ∷ []) frames w m o g (finish c marks order frames f is all)
    (λ r i. in_front r order (f.root ∷ []) i) (mark_kept marks f.root Done inside (λ e. cc)) (finish_less c marks frames f inside on_way)

-- an argument's class that is in the order is passed
pub passes : (c : Classes) (marks : List Mark) (order : List ℕ) (frames : List Frame) (f g : Frame) (x : ℕ) (w : Walk) → AreClasses c → IsWalk c marks order (frames ++ f ∷ []) → f.root < length c.shapes → IsChild c f.root f.next x → mark_at marks x ≡ Done
    → g.root ≡ f.root → g.next ≡ f.next + 1 → w.marks.items ≡ marks → w.order.items ≡ order → w.frames.items ≡ frames ++ g ∷ [] → WalksOn c marks order (frames ++ f ∷ []) w
passes c marks order frames f g x w are is within child done root next m o l =
    let few = few_children c f.root (schema_inside c f.root are within) in
    walks_by c marks order (frames ++ f ∷ []) marks order (frames ++ g ∷ []) w m o l
    (later c marks order frames f g is root next child.there (subst (λ k. In k order) (sym child.same) (is.done x child.within done)))
    (λ r i. i) (λ r n e. n e) (later_less c marks frames f g next (omega (arith, few, child.there)))

in_children : (c : Classes) (r k x : ℕ) → IsChild c r k x → In x (children c r)
in_children c r k x child = subst (λ y. In y (children c r)) child.same (nth_in (children c r) k child.there)

-- an argument's class that wasn't looked at is on the way now
pub enters : (c : Classes) (marks : List Mark) (order : List ℕ) (frames : List Frame) (f g : Frame) (w : Walk) → AreClasses c → IsWalk c marks order (frames ++ f ∷ []) → IsChild c f.root f.next g.root → mark_at marks g.root ≡ New → g.next ≡ 0
    → w.marks.items ≡ set marks g.root Open → w.order.items ≡ order → w.frames.items ≡ (frames ++ f ∷ []) ++ g ∷ [] → WalksOn c marks order (frames ++ f ∷ []) w
enters c marks order frames f g w are is child fresh next m o l =
    let inside : g.root < length marks = omega (arith, child.within, is.as_many) in
    walks_by c marks order (frames ++ f ∷ []) (set marks g.root Open) order ((frames ++ f ∷ []) ++ g ∷ []) w m o l
    (push_frame c marks order (frames ++ f ∷ []) g is child.within fresh next (falls_below c marks order frames f g.root are is (in_children c f.root f.next g.root child)))
    (λ r i. i) (mark_kept marks g.root Open inside (λ e. cc)) (push_less c marks (frames ++ f ∷ []) g inside fresh)

-- an argument's class that is on the way leads to itself
pub closes : (c : Classes) (marks : List Mark) (order : List ℕ) (frames : List Frame) (f : Frame) (x : ℕ) → AreClasses c → IsWalk c marks order (frames ++ f ∷ []) → IsChild c f.root f.next x → mark_at marks x ≡ Open → IsCyclic c
closes c marks order frames f x are is child on_way = leads_back c marks order frames f x are is (in_children c f.root f.next x child) child.within on_way

-- the first class on the way
pub first_frame : (c : Classes) (old : Walk) (f : Frame) (fs : List Frame) → Rests c old → f.root < length c.shapes → mark_at old.marks.items f.root ≡ New → f.next ≡ 0 → fs ≡ old.frames.items ++ f ∷ [] → IsWalk c (set old.marks.items f.root Open) old.order.items fs
first_frame c old f fs rests within fresh next e =
    subst (IsWalk c (set old.marks.items f.root Open) old.order.items) (sym e)
    (push_frame c old.marks.items old.order.items old.frames.items f rests.walk within fresh next (λ label r t i h.
    let nothing : length old.frames.items ≡ 0 = ap length rests.empty in
    let no_place : ⊥ = omega (arith, h, nothing) in elim no_place [ ]))

pub first_marked : (c : Classes) (old : Walk) (r : ℕ) → Rests c old → r < length c.shapes → mark_at (set old.marks.items r Open) r ≡ New → ⊥
first_marked c old r rests within e =
    let inside : r < length old.marks.items = let m = rests.walk.as_many in omega (arith, within, m) in
    not_new (mark_at (set old.marks.items r Open) r) (mark_here old.marks.items r Open inside) e

-- the class of a node more is in the order
pub visited_more : (c : Classes) (old new : Walk) (root n : ℕ) → IsVisited c old new root → root ≡ nth c.links n → ((k : ℕ) → k < n → In (nth c.links k) old.order.items) → (k : ℕ) → k < n + 1 → In (nth c.links k) new.order.items
visited_more c old new root n is e there k h = elim (cases_lt k n) [
  | inl l ↦ is.kept (nth c.links k) (there k l)
  | inr g ↦ let last : k ≡ n = omega (arith, h, g) in subst (λ x. In x new.order.items) (e ∙ ap (nth c.links) (sym last)) is.there
]

pub ordered_all : (c : Classes) (w : Walk) (n : ℕ) → Rests c w → n ≡ length c.shapes → ((k : ℕ) → k < n → In (nth c.links k) w.order.items) → OrdersAll c w.order.items
ordered_all c w n rests e there = record {
  order = rests.walk.ordering;
  whole = λ k h. there k (subst (λ m. k < m) (sym e) h);
  within = λ r i. (rests.walk.ordered r i).0;
}
