-- Steps of a walk over classes.
use Rattle.std.proofs.Common.{◌≡◌, ℕ, zero, suc, ◌+◌, ◌-◌, ◌*◌, ◌<◌, ◌≤◌, refl, sym, ap, subst, ◌∙◌, List, [], ◌∷◌, ◌++◌, length, set, arith, inl, inr, ◌⊎◌, slice_index_or}
use Rattle.std.proofs.lemmas.Bool.{cases_eq, cases_lt}
use Rattle.std.proofs.lemmas.List.{length-set, get_or-set_same, get_or-set_other, get_or_append_left, get_or_push, get_or_default, length_push, length-map, append_assoc}
use Rattle.std.specs.List.{sum_by}
use Rattle.std.proofs.lemmas.List.Sums.{sum_by-set, sum_by_push, get_or-le-sum_by}
use Rattle.fol_core.specs.Substitutions.{Substitution}
use Rattle.fol_core.specs.Tree.{nodes}
use Rattle.term_unifiers.specs.Classes.{Classes, schema_of, arguments_of, children, AreClasses, In, AllIn, IsOrder, IsCyclic}
use Rattle.term_unifiers.specs.Merging.{nth, FitsLinks, Respects, arity, arities}
use Rattle.term_unifiers.specs.Shapes.{Shape, variable, element, application, shape_at}
use Rattle.term_unifiers.specs.Walking.{mark_at, root_at, IsFrame, IsWalk, mark_weight, walk_left}
use Rattle.term_unifiers.specs.declared.walk.Frame.{Frame}
use Rattle.term_unifiers.specs.declared.walk.Mark.{Mark}
use Rattle.term_unifiers.specs.declared.walk.Mark.TheVariants.{New, Open, Done}
use Rattle.term_unifiers.proofs.Terms.{in_front, in_last, in_either, smaller_child}

root_front : (frames : List Frame) (f : Frame) (i : ℕ) → i < length frames → root_at (frames ++ f ∷ []) i ≡ root_at frames i
root_front frames f i h = ap (λ (g : Frame). g.root) (get_or_append_left frames (f ∷ []) record { root = 0; next = 0 } i h)

root_last : (frames : List Frame) (f : Frame) (i : ℕ) → length frames ≡ i → root_at (frames ++ f ∷ []) i ≡ f.root
root_last frames f i e = ap (λ (g : Frame). g.root) (get_or_push frames f record { root = 0; next = 0 } i e)

pub mark_here : (marks : List Mark) (r : ℕ) (m : Mark) → r < length marks → mark_at (set marks r m) r ≡ m
mark_here marks r m h = get_or-set_same marks r m New h

pub mark_there : (marks : List Mark) (r k : ℕ) (m : Mark) → (k ≡ r → ⊥) → mark_at (set marks r m) k ≡ mark_at marks k
mark_there marks r k m d = get_or-set_other marks r k m New d

-- an index of a list with one more
before_or_last : {X : Type 0} (xs : List X) (x : X) (i : ℕ) → i < length (xs ++ x ∷ []) → (i < length xs) ⊎ (length xs ≡ i)
before_or_last xs x i h = elim (cases_lt i (length xs)) [
  | inl l ↦ inl l
  | inr g ↦ let e : length xs ≡ i = omega (arith, g, h, length_push xs x) in inr e
]

pub not_both : (m : Mark) → m ≡ Open → m ≡ Done → ⊥
not_both m o d = cc

pub not_new : (m : Mark) → m ≡ Open → m ≡ New → ⊥
not_new m o d = cc

pub not_done : (m : Mark) → m ≡ Done → m ≡ New → ⊥
not_done m o d = cc

-- what is known of the innermost class on the way
pub innermost : (c : Classes) (marks : List Mark) (order : List ℕ) (frames : List Frame) (f : Frame) → IsWalk c marks order (frames ++ f ∷ []) → IsFrame c marks order f
innermost c marks order frames f is =
    let inside : length frames < length (frames ++ f ∷ []) = let l = length_push frames f in omega (arith, l) in
    subst (IsFrame c marks order) (get_or_push frames f f (length frames) refl) (is.framed (length frames) f inside)

pub order_push : (c : Classes) (before order : List ℕ) (r : ℕ) → IsOrder c before order → AllIn (children c r) (before ++ order) → (In r (before ++ order) → ⊥) → IsOrder c before (order ++ r ∷ [])
order_push c before [] r o all fresh = (subst (AllIn (children c r)) (no_more before) all, (λ i. fresh (subst (In r) (sym (no_more before)) i)), tt)
  where
    no_more : (xs : List ℕ) → xs ++ [] ≡ xs
    no_more [] = refl
    no_more (x ∷ xs) = ap (λ l. x ∷ l) (no_more xs)
order_push c before (s ∷ order) r o all fresh =
    let e : (before ++ s ∷ []) ++ order ≡ before ++ s ∷ order = append_assoc before (s ∷ []) order in
    (o.0, o.1, order_push c (before ++ s ∷ []) order r o.2 (subst (AllIn (children c r)) (sym e) all) (λ i. fresh (subst (In r) e i)))

pub all_by_index : (xs ys : List ℕ) → ((k : ℕ) → k < length xs → In (nth xs k) ys) → AllIn xs ys
all_by_index [] ys h = tt
all_by_index (x ∷ xs) ys h = (h 0 (omega arith), all_by_index xs ys (λ k g. let inner : suc k < length (x ∷ xs) = omega (arith, g) in h (suc k) inner))

pub nth_in : (xs : List ℕ) (k : ℕ) → k < length xs → In (nth xs k) xs
nth_in [] k h = let no_place : ⊥ = omega (arith, h) in elim no_place [ ]
nth_in (x ∷ xs) zero h = inl refl
nth_in (x ∷ xs) (suc k) h = let inner : k < length xs = omega (arith, h) in inr (nth_in xs k inner)

few_arguments : (s : Shape) → length (arguments_of s) ≡ arity s
few_arguments (variable x) = refl
few_arguments (element k) = refl
few_arguments (application f ks) = refl

few_by_arities : (shapes : List Shape) (n : ℕ) → n < length shapes → arity (shape_at shapes n) ≤ arities shapes
few_by_arities shapes n h = get_or-le-sum_by arity shapes n (variable 0) h

pub few_children : (c : Classes) (r : ℕ) → nth c.schemas r < length c.shapes → length (children c r) ≤ arities c.shapes
few_children c r h =
    let e : length (children c r) ≡ length (arguments_of (schema_of c r)) = length-map (arguments_of (schema_of c r)) (nth c.links) in
    let f = few_arguments (schema_of c r) in
    let g = few_by_arities c.shapes (nth c.schemas r) h in
    omega (arith, e, f, g)

-- the innermost class is done
pub finish : (c : Classes) (marks : List Mark) (order : List ℕ) (frames : List Frame) (f : Frame) → IsWalk c marks order (frames ++ f ∷ []) → length (children c f.root) ≤ f.next → IsWalk c (set marks f.root Done) (order ++ f.root ∷ []) frames
finish c marks order frames f is all = record {
  as_many = length-set marks f.root Done ∙ is.as_many;
  ordering = order_push c [] order f.root is.ordering (all_by_index (children c f.root) order (λ k g. let early : k < f.next = omega (arith, g, all) in top.before k early)) fresh;
  done = λ r h d. elim (cases_eq r f.root) [
    | inl e ↦ subst (λ k. In k (order ++ f.root ∷ [])) (sym e) (in_last f.root order)
    | inr n ↦ in_front r order (f.root ∷ []) (is.done r h (sym (mark_there marks f.root r Done n) ∙ d))
  ];
  ordered = λ r i. elim (in_either r f.root order i) [
    | inl j ↦ let o = is.ordered r j in (o.0, mark_there marks f.root r Done (λ e. fresh (subst (λ k. In k order) e j)) ∙ o.1)
    | inr e ↦ subst (λ k. (k < length c.shapes) × (mark_at (set marks f.root Done) k ≡ Done)) (sym e) (top.within, mark_here marks f.root Done inside)
  ];
  on_way = λ r h o. elim (cases_eq r f.root) [
    | inl e ↦ elim (not_both (mark_at (set marks f.root Done) r) o (subst (λ k. mark_at (set marks f.root Done) k ≡ Done) (sym e) (mark_here marks f.root Done inside))) [ ]
    | inr n ↦
        let p = is.on_way r h (sym (mark_there marks f.root r Done n) ∙ o) in
        elim (before_or_last frames f p.0 p.1) [
          | inl l ↦ (p.0, l, sym (root_front frames f p.0 l) ∙ p.2)
          | inr e ↦ elim (n (sym p.2 ∙ root_last frames f p.0 e)) [ ]
        ]
  ];
  framed = λ i d h.
      let g = is.framed i d (longer i h) in
      let same : slice_index_or (frames ++ f ∷ []) i d ≡ slice_index_or frames i d = get_or_append_left frames (f ∷ []) d i h in
      framed_on (slice_index_or frames i d) (subst (IsFrame c marks order) same g) (λ e. is.apart i (length frames) h short (root_front frames f i h ∙ ap (λ (g : Frame). g.root) (get_or_default frames i record { root = 0; next = 0 } d h) ∙ e ∙ sym (root_last frames f (length frames) refl)));
  apart = λ i j l h e. is.apart i j l (longer j h) (root_front frames f i (omega (arith, l, h)) ∙ e ∙ sym (root_front frames f j h));
  sinks = λ label r t i j l h.
      let first : i < length frames = omega (arith, l, h) in
      let g = is.sinks label r t i j l (longer j h) in
      subst (λ a. nodes (label a) < nodes (label (root_at frames i))) (root_front frames f j h) (subst (λ b. nodes (label (root_at (frames ++ f ∷ []) j)) < nodes (label b)) (root_front frames f i first) g);
}
  where
    top : IsFrame c marks order f
    top = innermost c marks order frames f is

    inside : f.root < length marks
    inside = omega (arith, top.within, is.as_many)

    fresh : In f.root order → ⊥
    fresh i = not_both (mark_at marks f.root) top.marked (is.ordered f.root i).1

    short : length frames < length (frames ++ f ∷ [])
    short = let l = length_push frames f in omega (arith, l)

    longer : (i : ℕ) → i < length frames → i < length (frames ++ f ∷ [])
    longer i h = omega (arith, h, short)

    framed_on : (g : Frame) → IsFrame c marks order g → (g.root ≡ f.root → ⊥) → IsFrame c (set marks f.root Done) (order ++ f.root ∷ []) g
    framed_on g is n = record {
      within = is.within;
      marked = mark_there marks f.root g.root Done n ∙ is.marked;
      next = is.next;
      before = λ k h. in_front (nth (children c g.root) k) order (f.root ∷ []) (is.before k h);
    }

-- the next argument's class is in the order already
pub later : (c : Classes) (marks : List Mark) (order : List ℕ) (frames : List Frame) (f g : Frame) → IsWalk c marks order (frames ++ f ∷ []) → g.root ≡ f.root → g.next ≡ f.next + 1 → f.next < length (children c f.root) → In (nth (children c f.root) f.next) order
    → IsWalk c marks order (frames ++ g ∷ [])
later c marks order frames f g is root next more there = record {
  as_many = is.as_many;
  ordering = is.ordering;
  done = is.done;
  ordered = is.ordered;
  on_way = λ r h o. let p = is.on_way r h o in (p.0, same_length p.0 p.1, sym (roots p.0 p.1) ∙ p.2);
  framed = λ i d h. elim (before_or_last frames g i h) [
    | inl l ↦ subst (IsFrame c marks order) (get_or_append_left frames (f ∷ []) d i l ∙ sym (get_or_append_left frames (g ∷ []) d i l)) (is.framed i d (back i h))
    | inr e ↦ subst (IsFrame c marks order) (sym (get_or_push frames g d i e)) framed_later
  ];
  apart = λ i j l h e.
      let first : i < length (frames ++ g ∷ []) = omega (arith, l, h) in
      is.apart i j l (back j h) (roots i (back i first) ∙ e ∙ sym (roots j (back j h)));
  sinks = λ label r t i j l h.
      let first : i < length (frames ++ g ∷ []) = omega (arith, l, h) in
      subst (λ a. nodes (label a) < nodes (label (root_at (frames ++ g ∷ []) i))) (roots j (back j h)) (subst (λ b. nodes (label (root_at (frames ++ f ∷ []) j)) < nodes (label b)) (roots i (back i first)) (is.sinks label r t i j l (back j h)));
}
  where
    top : IsFrame c marks order f
    top = innermost c marks order frames f is

    same_length : (i : ℕ) → i < length (frames ++ f ∷ []) → i < length (frames ++ g ∷ [])
    same_length i h = let a = length_push frames f in let b = length_push frames g in omega (arith, h, a, b)

    back : (i : ℕ) → i < length (frames ++ g ∷ []) → i < length (frames ++ f ∷ [])
    back i h = let a = length_push frames f in let b = length_push frames g in omega (arith, h, a, b)

    roots : (i : ℕ) → i < length (frames ++ f ∷ []) → root_at (frames ++ f ∷ []) i ≡ root_at (frames ++ g ∷ []) i
    roots i h = elim (before_or_last frames f i h) [
      | inl l ↦ root_front frames f i l ∙ sym (root_front frames g i l)
      | inr e ↦ root_last frames f i e ∙ sym root ∙ sym (root_last frames g i e)
    ]

    framed_later : IsFrame c marks order g
    framed_later = record {
      within = subst (λ r. r < length c.shapes) (sym root) top.within;
      marked = ap (mark_at marks) root ∙ top.marked;
      next = subst (λ r. g.next ≤ length (children c r)) (sym root) (omega (arith, next, more));
      before = λ k h. subst (λ r. In (nth (children c r) k) order) (sym root) (elim (cases_lt k f.next) [
        | inl l ↦ top.before k l
        | inr m ↦ let e : f.next ≡ k = omega (arith, m, h, next) in subst (λ k. In (nth (children c f.root) k) order) e there
      ]);
    }

-- a class that wasn't looked at yet is on the way now
pub push_frame : (c : Classes) (marks : List Mark) (order : List ℕ) (frames : List Frame) (f : Frame) → IsWalk c marks order frames → f.root < length c.shapes → mark_at marks f.root ≡ New → f.next ≡ 0
    → ((label : Substitution) → Respects label c.shapes → FitsLinks label c.links → (i : ℕ) → i < length frames → nodes (label f.root) < nodes (label (root_at frames i)))
    → IsWalk c (set marks f.root Open) order (frames ++ f ∷ [])
push_frame c marks order frames f is within fresh next falls = record {
  as_many = length-set marks f.root Open ∙ is.as_many;
  ordering = is.ordering;
  done = λ r h d. elim (cases_eq r f.root) [
    | inl e ↦ elim (not_both (mark_at (set marks f.root Open) r) (subst (λ k. mark_at (set marks f.root Open) k ≡ Open) (sym e) (mark_here marks f.root Open inside)) d) [ ]
    | inr n ↦ is.done r h (sym (mark_there marks f.root r Open n) ∙ d)
  ];
  ordered = λ r i. let o = is.ordered r i in (o.0, mark_there marks f.root r Open (λ e. not_done (mark_at marks r) o.1 (ap (mark_at marks) e ∙ fresh)) ∙ o.1);
  on_way = λ r h o. elim (cases_eq r f.root) [
    | inl e ↦ (length frames, short, root_last frames f (length frames) refl ∙ sym e)
    | inr n ↦ let p = is.on_way r h (sym (mark_there marks f.root r Open n) ∙ o) in (p.0, longer p.0 p.1, root_front frames f p.0 p.1 ∙ p.2)
  ];
  framed = λ i d h. elim (before_or_last frames f i h) [
    | inl l ↦ subst (IsFrame c (set marks f.root Open) order) (sym (get_or_append_left frames (f ∷ []) d i l)) (framed_on (slice_index_or frames i d) (is.framed i d l))
    | inr e ↦ subst (IsFrame c (set marks f.root Open) order) (sym (get_or_push frames f d i e)) (record {
      within = within;
      marked = mark_here marks f.root Open inside;
      next = omega (arith, next);
      before = λ k g. let no_place : ⊥ = omega (arith, g, next) in elim no_place [ ];
    })
  ];
  apart = λ i j l h e. elim (before_or_last frames f j h) [
    | inl b ↦ let first : i < length frames = omega (arith, l, b) in is.apart i j l b (sym (root_front frames f i first) ∙ e ∙ root_front frames f j b)
    | inr b ↦
        let first : i < length frames = omega (arith, l, b) in
        let g = is.framed i record { root = 0; next = 0 } first in
        not_new (mark_at marks (root_at frames i)) g.marked (ap (mark_at marks) (sym (root_front frames f i first) ∙ e ∙ root_last frames f j b) ∙ fresh)
  ];
  sinks = λ label r t i j l h. elim (before_or_last frames f j h) [
    | inl b ↦
        let first : i < length frames = omega (arith, l, b) in
        subst (λ a. nodes (label a) < nodes (label (root_at (frames ++ f ∷ []) i))) (sym (root_front frames f j b)) (subst (λ a. nodes (label (root_at frames j)) < nodes (label a)) (sym (root_front frames f i first)) (is.sinks label r t i j l b))
    | inr b ↦
        let first : i < length frames = omega (arith, l, b) in
        subst (λ a. nodes (label a) < nodes (label (root_at (frames ++ f ∷ []) i))) (sym (root_last frames f j b)) (subst (λ a. nodes (label f.root) < nodes (label a)) (sym (root_front frames f i first)) (falls label r t i first))
  ];
}
  where
    inside : f.root < length marks
    inside = omega (arith, within, is.as_many)

    short : length frames < length (frames ++ f ∷ [])
    short = let l = length_push frames f in omega (arith, l)

    longer : (i : ℕ) → i < length frames → i < length (frames ++ f ∷ [])
    longer i h = omega (arith, h, short)

    framed_on : (g : Frame) → IsFrame c marks order g → IsFrame c (set marks f.root Open) order g
    framed_on g is = record {
      within = is.within;
      marked = mark_there marks f.root g.root Open (λ e. not_new (mark_at marks g.root) is.marked (ap (mark_at marks) e ∙ fresh)) ∙ is.marked;
      next = is.next;
      before = is.before;
    }

-- what an argument's class is smaller than
pub falls_below : (c : Classes) (marks : List Mark) (order : List ℕ) (frames : List Frame) (f : Frame) (x : ℕ) → AreClasses c → IsWalk c marks order (frames ++ f ∷ []) → In x (children c f.root)
    → (label : Substitution) → Respects label c.shapes → FitsLinks label c.links → (i : ℕ) → i < length (frames ++ f ∷ []) → nodes (label x) < nodes (label (root_at (frames ++ f ∷ []) i))
falls_below c marks order frames f x are is child label r t i h =
    let top = innermost c marks order frames f is in
    let less = smaller_child c label are r t f.root x top.within child in
    elim (before_or_last frames f i h) [
      | inl l ↦
          let short : length frames < length (frames ++ f ∷ []) = let n = length_push frames f in omega (arith, n) in
          let down = subst (λ a. nodes (label a) < nodes (label (root_at (frames ++ f ∷ []) i))) (root_last frames f (length frames) refl) (is.sinks label r t i (length frames) l short) in
          omega (arith, less, down)
      | inr e ↦ subst (λ a. nodes (label x) < nodes (label a)) (sym (root_last frames f i e)) less
    ]

-- an argument's class that is on the way itself
pub leads_back : (c : Classes) (marks : List Mark) (order : List ℕ) (frames : List Frame) (f : Frame) (x : ℕ) → AreClasses c → IsWalk c marks order (frames ++ f ∷ []) → In x (children c f.root) → x < length c.shapes → mark_at marks x ≡ Open → IsCyclic c
leads_back c marks order frames f x are is child within on label r t =
    let p = is.on_way x within on in
    let less = falls_below c marks order frames f x are is child label r t p.0 p.1 in
    let same : nodes (label (root_at (frames ++ f ∷ []) p.0)) ≡ nodes (label x) = ap (λ a. nodes (label a)) p.2 in
    omega (arith, less, same)

-- less is left: marks weigh more than what is left of a class on the way
fewer_marks : (a s t v w : ℕ) → s + 1 ≡ t → v < w + (a + 2) → s * (a + 2) + v < t * (a + 2) + w
fewer_marks a s t v w e h =
    let product : t * (a + 2) ≡ s * (a + 2) + (a + 2) = ap (λ n. n * (a + 2)) (sym e) ∙ omega arith in
    omega (arith, product, h)

pub finish_less : (c : Classes) (marks : List Mark) (frames : List Frame) (f : Frame) → f.root < length marks → mark_at marks f.root ≡ Open → walk_left c (set marks f.root Done) frames < walk_left c marks (frames ++ f ∷ [])
finish_less c marks frames f h o =
    let total = sum_by-set mark_weight marks f.root Done New h in
    let old : mark_weight (mark_at marks f.root) ≡ 1 = ap mark_weight o in
    let behind = sum_by_push (λ (g : Frame). arities c.shapes + 1 - g.next) frames f in
    fewer_marks (arities c.shapes) (sum_by mark_weight (set marks f.root Done)) (sum_by mark_weight marks) (sum_by (λ (g : Frame). arities c.shapes + 1 - g.next) frames) (sum_by (λ (g : Frame). arities c.shapes + 1 - g.next) (frames ++ f ∷ []))
    (omega (arith, total, old)) (omega (arith, behind))

pub later_less : (c : Classes) (marks : List Mark) (frames : List Frame) (f g : Frame) → g.next ≡ f.next + 1 → f.next < arities c.shapes + 1 → walk_left c marks (frames ++ g ∷ []) < walk_left c marks (frames ++ f ∷ [])
later_less c marks frames f g e h =
    let old = sum_by_push (λ (g : Frame). arities c.shapes + 1 - g.next) frames f in
    let new = sum_by_push (λ (g : Frame). arities c.shapes + 1 - g.next) frames g in
    omega (arith, old, new, e, h)

pub push_less : (c : Classes) (marks : List Mark) (frames : List Frame) (f : Frame) → f.root < length marks → mark_at marks f.root ≡ New → walk_left c (set marks f.root Open) (frames ++ f ∷ []) < walk_left c marks frames
push_less c marks frames f h n =
    let total = sum_by-set mark_weight marks f.root Open New h in
    let old : mark_weight (mark_at marks f.root) ≡ 2 = ap mark_weight n in
    let behind = sum_by_push (λ (g : Frame). arities c.shapes + 1 - g.next) frames f in
    fewer_marks (arities c.shapes) (sum_by mark_weight (set marks f.root Open)) (sum_by mark_weight marks) (sum_by (λ (g : Frame). arities c.shapes + 1 - g.next) (frames ++ f ∷ [])) (sum_by (λ (g : Frame). arities c.shapes + 1 - g.next) frames)
    (omega (arith, total, old)) (omega (arith, behind))

-- before anything is looked at
pub walk_none : (c : Classes) (marks : List Mark) → length marks ≡ length c.shapes → ((n : ℕ) → mark_at marks n ≡ New) → IsWalk c marks [] []
walk_none c marks len new = record {
  as_many = len;
  ordering = tt;
  done = λ r h d. elim (not_done (mark_at marks r) d (new r)) [ ];
  ordered = λ r i. elim i [ ];
  on_way = λ r h o. elim (not_new (mark_at marks r) o (new r)) [ ];
  framed = λ i d h. let no_place : ⊥ = omega (arith, h) in elim no_place [ ];
  apart = λ i j l h e. omega (arith, h);
  sinks = λ label r t i j l h. let no_place : ⊥ = omega (arith, h) in elim no_place [ ];
}
