-- Room for the pairs that come while nodes are merged, and for the classes of a walk.
use Rattle.std.proofs.Common.{◌≡◌, ℕ, zero, suc, ◌+◌, ◌<◌, ◌≤◌, ◌==◌, if◌then◌else◌, Bool, refl, sym, ap, subst, ◌∙◌, List, [], ◌∷◌, ◌++◌, length, set, arith, inl, inr}
use Rattle.std.proofs.lemmas.Bool.{cases_eq, eq-eqb, ne_eqb}
use Rattle.std.specs.List.{sum_by}
use Rattle.std.proofs.lemmas.List.{length-append, length_push}
use Rattle.std.proofs.lemmas.List.Sums.{sum_by-cons, sum_by-set}
use Rattle.term_unifiers.specs.Comparing.{Pairs, IsPassed, Compared}
use Rattle.term_unifiers.specs.Merging.{Merging, nth, Shortened, CountsUp, IsNoVariable, CanUnite, arity, arities}
use Rattle.term_unifiers.specs.Rooms.{arguments_due, sum_below, most_pairs, newness}
use Rattle.term_unifiers.specs.Shapes.{Shape, variable, element, application, shape_at}
use Rattle.term_unifiers.specs.Walking.{mark_at}
use Rattle.term_unifiers.specs.declared.work.Comparison.{Comparison}
use Rattle.term_unifiers.specs.declared.work.Comparison.TheVariants.{First, Second}
use Rattle.term_unifiers.specs.declared.walk.Mark.{Mark}
use Rattle.term_unifiers.specs.declared.walk.Mark.TheVariants.{New, Open, Done}
use Rattle.term_unifiers.proofs.Links.{set_here, set_there}
use Rattle.term_unifiers.proofs.Merges.{paired}

sum_less : (f g : ℕ → ℕ) (n : ℕ) → ((k : ℕ) → k < n → f k ≤ g k) → sum_below f n ≤ sum_below g n
sum_less f g zero h = omega arith
sum_less f g (suc n) h =
    let rest = sum_less f g n (λ k l. h k (omega (arith, l))) in
    let last = h n (omega arith) in
    omega (arith, rest, last)

-- where one number may be greater
sum_but_one : (f g : ℕ → ℕ) (i n : ℕ) → ((k : ℕ) → k < n → (k ≡ i → ⊥) → f k ≤ g k) → i < n → sum_below f n + g i ≤ sum_below g n + f i
sum_but_one f g i zero h l = absurd (omega (arith, l))
sum_but_one f g i (suc n) h l = elim (cases_eq i n) [
  | inl e ↦
      let rest = sum_less f g n (λ k m. h k (omega (arith, m)) (λ d. omega (arith, d, e, m))) in
      let ours : g i ≡ g n = ap g e in
      let theirs : f i ≡ f n = ap f e in
      omega (arith, rest, ours, theirs)
  | inr d ↦
      let before : i < n = omega (arith, d, l) in
      let rest = sum_but_one f g i n (λ k m. h k (omega (arith, m))) before in
      let last = h n (omega arith) (λ e. d (sym e)) in
      omega (arith, rest, last)
]

-- and another one
sum_but_two : (f g : ℕ → ℕ) (i j n : ℕ) → ((k : ℕ) → k < n → (k ≡ i → ⊥) → (k ≡ j → ⊥) → f k ≤ g k) → (i ≡ j → ⊥) → i < n → j < n → sum_below f n + g i + g j ≤ sum_below g n + f i + f j
sum_but_two f g i j n h d li lj =
    let mid : ℕ → ℕ = λ k. if k == i then g i else f k in
    let here : mid i ≡ g i = ap (λ (b : Bool). if b then g i else f i) (eq-eqb i i refl) in
    let there : (k : ℕ) → (k ≡ i → ⊥) → mid k ≡ f k = λ k e. ap (λ (b : Bool). if b then g i else f k) (ne_eqb k i e) in
    let first = sum_but_one f mid i n (λ k l e. let same = there k e in omega (arith, same)) li in
    let second = sum_but_one mid g j n (λ k l e. elim (cases_eq k i) [
      | inl s ↦ let a : mid k ≡ mid i = ap mid s in let b : g k ≡ g i = ap g s in omega (arith, a, b, here)
      | inr o ↦ let same = there k o in let less = h k l o e in omega (arith, same, less)
    ]) lj in
    let last = there j (λ e. d (sym e)) in
    omega (arith, first, second, here, last)

module _ (shapes : List Shape) where
  -- the least node of a class has the arguments of its schema, another node none
  due_least : (m : Merging) (n : ℕ) → nth m.links n ≡ n → arguments_due shapes m n ≡ arity (shape_at shapes (nth m.schemas n))
  due_least m n e = ap (λ (b : Bool). if b then arity (shape_at shapes (nth m.schemas n)) else 0) (eq-eqb (nth m.links n) n e)

  due_other : (m : Merging) (n : ℕ) → (nth m.links n ≡ n → ⊥) → arguments_due shapes m n ≡ 0
  due_other m n d = ap (λ (b : Bool). if b then arity (shape_at shapes (nth m.schemas n)) else 0) (ne_eqb (nth m.links n) n d)

  -- no more is due at a node that was the least of its class if it is, with the same schema
  due_less : (m n : Merging) (k : ℕ) → (nth n.links k ≡ k → nth m.links k ≡ k) → nth n.schemas k ≡ nth m.schemas k → arguments_due shapes n k ≤ arguments_due shapes m k
  due_less m n k before same = elim (cases_eq (nth n.links k) k) [
    | inl e ↦
        let a = due_least n k e in
        let b = due_least m k (before e) in
        let c : arity (shape_at shapes (nth n.schemas k)) ≡ arity (shape_at shapes (nth m.schemas k)) = ap (λ i. arity (shape_at shapes i)) same in
        omega (arith, a, b, c)
    | inr d ↦ let a = due_other n k d in omega (arith, a)
  ]

  -- links are shortened, and nothing else is done
  pub found_room : (m n : Merging) → length m.links ≡ length shapes → Shortened m.links n.links → n.schemas ≡ m.schemas → n.lefts ≡ m.lefts → most_pairs shapes n ≤ most_pairs shapes m
  found_room m n linked short schemas lefts =
      let few = sum_less (arguments_due shapes n) (arguments_due shapes m) (length shapes) (λ k l. due_less m n k (short.stood k (omega (arith, l, linked))) (ap (λ s. nth s k) schemas)) in
      let pairs : length n.lefts ≡ length m.lefts = ap length lefts in
      omega (arith, few, pairs)

  -- a pair is taken
  pub popped_room : (links schemas ls rs ks js : List ℕ) (a : ℕ) → ls ≡ ks ++ a ∷ []
      → most_pairs shapes (record { links = links; schemas = schemas; lefts = ks; rights = js }) ≤ most_pairs shapes (record { links = links; schemas = schemas; lefts = ls; rights = rs })
  popped_room links schemas ls rs ks js a e =
      let longer : length ls ≡ length ks + 1 = ap length e ∙ length_push ks a in
      omega (arith, longer)

  -- there is room for the arguments of a class that is merged away
  pub room_there : (m : Merging) (low high : ℕ) → CanUnite shapes m low high → high < length shapes → length m.lefts + arity (shape_at shapes (nth m.schemas high)) ≤ most_pairs shapes m
  room_there m low high can h =
      let own = due_least m high can.high_least in
      let all = one (arguments_due shapes m) high (length shapes) h in
      omega (arith, own, all)
    where
      one : (f : ℕ → ℕ) (i n : ℕ) → i < n → f i ≤ sum_below f n
      one f i zero l = absurd (omega (arith, l))
      one f i (suc n) l = elim (cases_eq i n) [
        | inl e ↦ let same : f i ≡ f n = ap f e in omega (arith, same)
        | inr d ↦ let before : i < n = omega (arith, d, l) in let rest = one f i n before in omega (arith, rest)
      ]

  -- the lesser one's schema stays
  pub first_room : (m n : Merging) (low high : ℕ) → CanUnite shapes m low high → high < length shapes → Pairs (length shapes) (shape_at shapes (nth m.schemas low)) (shape_at shapes (nth m.schemas high)) m.lefts m.rights n.lefts n.rights
      → n.links ≡ set m.links high low → n.schemas ≡ m.schemas → most_pairs shapes n ≤ most_pairs shapes m
  first_room m n low high can h pairs links schemas =
      let inside : high < length m.links = omega (arith, h, can.merging.linked) in
      let away : nth n.links high ≡ low = ap (λ l. nth l high) links ∙ set_here m.links high low inside in
      let gone = due_other n high (λ e. let less = can.lower in omega (arith, e, away, less)) in
      let own = due_least m high can.high_least in
      let sums = sum_but_one (arguments_due shapes n) (arguments_due shapes m) high (length shapes)
      (λ k l d. due_less m n k (λ e. sym (ap (λ l. nth l k) links ∙ set_there m.links high low k d) ∙ e) (ap (λ s. nth s k) schemas)) h in
      let longer : length n.lefts ≡ length m.lefts + length pairs.ks = ap length pairs.left ∙ length-append m.lefts pairs.ks in
      let few = pairs.few in
      omega (arith, gone, own, sums, longer, few)

  no_arity : (s : Shape) → (IsNoVariable s → ⊥) → arity s ≡ 0
  no_arity (variable x) h = refl
  no_arity (element k) h = absurd (h tt)
  no_arity (application f ks) h = absurd (h tt)

  -- the greater one's schema is taken
  pub second_room : (m n : Merging) (low high : ℕ) → CanUnite shapes m low high → low < length shapes → high < length shapes → IsPassed (shape_at shapes (nth m.schemas low)) m.lefts m.rights n.lefts n.rights
      → n.links ≡ set m.links high low → n.schemas ≡ set m.schemas low (nth m.schemas high) → most_pairs shapes n ≤ most_pairs shapes m
  second_room m n low high can g h passed links schemas =
      let inside : high < length m.links = omega (arith, h, can.merging.linked) in
      let schema_low : low < length m.schemas = omega (arith, g, can.merging.schemed) in
      let other : low ≡ high → ⊥ = λ e. let less = can.lower in omega (arith, e, less) in
      let away : nth n.links high ≡ low = ap (λ l. nth l high) links ∙ set_here m.links high low inside in
      let gone = due_other n high (λ e. let less = can.lower in omega (arith, e, away, less)) in
      let own = due_least m high can.high_least in
      let stays : nth n.links low ≡ low = ap (λ l. nth l low) links ∙ set_there m.links high low low other ∙ can.low_least in
      let new : arguments_due shapes n low ≡ arity (shape_at shapes (nth m.schemas high)) = due_least n low stays ∙ ap (λ i. arity (shape_at shapes i)) (ap (λ s. nth s low) schemas ∙ set_here m.schemas low (nth m.schemas high) schema_low) in
      let old : arguments_due shapes m low ≡ 0 = due_least m low can.low_least ∙ no_arity (shape_at shapes (nth m.schemas low)) passed.variable in
      let sums = sum_but_two (arguments_due shapes n) (arguments_due shapes m) low high (length shapes)
      (λ k l d e. due_less m n k (λ f. sym (ap (λ l. nth l k) links ∙ set_there m.links high low k e) ∙ f) (ap (λ s. nth s k) schemas ∙ set_there m.schemas low (nth m.schemas high) k d)) other g h in
      let pairs : length n.lefts ≡ length m.lefts = ap length passed.left in
      omega (arith, gone, own, new, old, sums, pairs)

  pub united_first_room : (m n : Merging) (low high kept other : ℕ) (d : Comparison) → CanUnite shapes m low high → high < length shapes → kept ≡ nth m.schemas low → other ≡ nth m.schemas high → d ≡ First → Compared shapes kept other m.lefts m.rights n.lefts n.rights d
      → n.links ≡ set m.links high low → n.schemas ≡ m.schemas → most_pairs shapes n ≤ most_pairs shapes m
  united_first_room m n low high kept other d can h k o e is links schemas = first_room m n low high can h (paired shapes m low high kept other n.lefts n.rights d k o e is) links schemas

  pub united_second_room : (m n : Merging) (low high kept other : ℕ) (d : Comparison) → CanUnite shapes m low high → low < length shapes → high < length shapes → kept ≡ nth m.schemas low → other ≡ nth m.schemas high → d ≡ Second → Compared shapes kept other m.lefts m.rights n.lefts n.rights d
      → n.links ≡ set m.links high low → n.schemas ≡ set m.schemas low other → most_pairs shapes n ≤ most_pairs shapes m
  united_second_room m n low high kept other d can g h k o e is links schemas =
      second_room m n low high can g h (subst (λ i. IsPassed (shape_at shapes i) m.lefts m.rights n.lefts n.rights) k (subst (Compared shapes kept other m.lefts m.rights n.lefts n.rights) e is)) links
      (schemas ∙ ap (set m.schemas low) o)

-- each node is a class of its own
pub begun_room : (shapes : List Shape) (m : Merging) → CountsUp m.links (length shapes) → CountsUp m.schemas (length shapes) → most_pairs shapes m ≤ length m.lefts + arities shapes
begun_room shapes m links schemas =
    let due = sum_less (arguments_due shapes m) (λ n. arity (shape_at shapes n)) (length shapes)
    (λ k l. let e = due_least shapes m k (links.own k l) in let s : arity (shape_at shapes (nth m.schemas k)) ≡ arity (shape_at shapes k) = ap (λ i. arity (shape_at shapes i)) (schemas.own k l) in omega (arith, e, s)) in
    let all = by_place shapes in
    omega (arith, due, all)
  where
    from_first : (f : ℕ → ℕ) (n : ℕ) → sum_below f (suc n) ≡ f 0 + sum_below (λ k. f (suc k)) n
    from_first f zero = omega arith
    from_first f (suc n) = let rest = from_first f n in omega (arith, rest)

    by_place : (ss : List Shape) → sum_below (λ n. arity (shape_at ss n)) (length ss) ≤ arities ss
    by_place [] = omega arith
    by_place (s ∷ ss) =
        let rest = by_place ss in
        let split = from_first (λ n. arity (shape_at (s ∷ ss) n)) (length ss) in
        let total : arities (s ∷ ss) ≡ arity s + arities ss = sum_by-cons arity s ss in
        omega (arith, rest, split, total)

-- a mark that says neither before nor after that a class is new
pub marks_same : (marks : List Mark) (r : ℕ) (m n : Mark) → r < length marks → mark_at marks r ≡ m → newness m ≡ 0 → newness n ≡ 0 → sum_by newness (set marks r n) ≡ sum_by newness marks
marks_same marks r m n h e old new =
    let total = sum_by-set newness marks r n New h in
    let was : newness (mark_at marks r) ≡ newness m = ap newness e in
    omega (arith, total, was, old, new)

-- a new class is looked at
pub marks_opened : (marks : List Mark) (r : ℕ) → r < length marks → mark_at marks r ≡ New → sum_by newness (set marks r Open) + 1 ≡ sum_by newness marks
marks_opened marks r h e =
    let total = sum_by-set newness marks r Open New h in
    let was : newness (mark_at marks r) ≡ 1 = ap newness e in
    omega (arith, total, was)

-- no class counts twice
pub few_marks : (marks : List Mark) → sum_by newness marks ≤ length marks
few_marks [] = omega arith
few_marks (m ∷ ms) =
    let total : sum_by newness (m ∷ ms) ≡ newness m + sum_by newness ms = sum_by-cons newness m ms in
    let rest = few_marks ms in
    let one = at_most m in
    omega (arith, total, rest, one)
  where
    at_most : (m : Mark) → newness m ≤ 1
    at_most New = omega arith
    at_most Open = omega arith
    at_most Done = omega arith
