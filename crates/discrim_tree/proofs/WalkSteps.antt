-- Walks, as they go on.
use Rattle.std.proofs.Common.{◌≡◌, ℕ, zero, suc, ◌+◌, ◌<◌, ◌≤◌, ◌-◌, ◌⊎◌, Bool, true, false, IsTrue, cond, inl, inr, refl, sym, ap, ap₂, subst, ◌∙◌, List, [], ◌∷◌, ◌++◌, Some, None, MatchOption, length, drop, arith, slice_get, append_assoc, append-nil, length-append}
use Rattle.std.specs.Ordering.{is_eq}
use Rattle.std.specs.Option.{option_and_then}
use Rattle.std.proofs.lemmas.Bool.{cases_eq}
use Rattle.std.proofs.lemmas.Option.{slice_get_within}
use Rattle.slab.specs.Slab.{get}
use Rattle.fol_core.specs.Tree.{Tree, var, elem, app, Trees, none, more, list_of}
use Rattle.discrim_tree.specs.Contents.{target}
use Rattle.discrim_tree.specs.Fitting.{FitAll}
use Rattle.discrim_tree.specs.Nodes.{Store, edge_cmp, branch, child, IsIn, Reaches}
use Rattle.discrim_tree.specs.Paths.{step_of, arguments, steps_of, path_of, paths_of}
use Rattle.discrim_tree.specs.Walks.{arity, GoesOn, IsFrom, IsFound, IsBehind, IsAhead, IsToSkip, Enters, StartsAt, SkipsOne, SkipsAll, SkipsEach, Waits, Follows, Passes, PassesAll, Covers}
use Rattle.discrim_tree.specs.declared.edge.Edge.{Edge}
use Rattle.discrim_tree.specs.declared.edge.Edge.TheVariants.{Any, Element, Symbol}
use Rattle.discrim_tree.specs.declared.nodes.Node.{Node}
use Rattle.discrim_tree.specs.declared.skipping.Skipping.{Skipping}
use Rattle.discrim_tree.proofs.NodeSteps.{is_same}
use Rattle.discrim_tree.proofs.Paths.{steps_begin}

some_same : {X : Type 0} (x y : X) → Some x ≡ Some y → x ≡ y
some_same x y e = cc

pub pushed_on : {X : Type 0} (xs : List X) (k : X) → GoesOn xs (xs ++ k ∷ [])
pushed_on [] k i at h = cc
pushed_on (x ∷ xs) k zero at h = h
pushed_on (x ∷ xs) k (suc i) at h = pushed_on xs k i at h

pub pushed_last : {X : Type 0} (xs : List X) (k : X) → slice_get (xs ++ k ∷ []) (length xs) ≡ Some k
pushed_last [] k = refl
pushed_last (x ∷ xs) k = pushed_last xs k

-- what stands in a list stands before its last or is that
pub last_or_before : {X : Type 0} (xs : List X) (k : X) (i : ℕ) (y : X) → slice_get (xs ++ k ∷ []) i ≡ Some y → (slice_get xs i ≡ Some y) ⊎ (k ≡ y)
last_or_before [] k zero y h = inr (some_same k y h)
last_or_before [] k (suc i) y h = inl h
last_or_before (x ∷ xs) k zero y h = inl h
last_or_before (x ∷ xs) k (suc i) y h = last_or_before xs k i y h

pub stays : {X : Type 0} (xs : List X) → GoesOn xs xs
stays xs i at h = h

pub goes_far : {X : Type 0} (a b c : List X) → GoesOn a b → GoesOn b c → GoesOn a c
goes_far a b c f g i at h = g i at (f i at h)

pub pushed_from : (xs : List ℕ) (k low : ℕ) → low ≤ length xs → IsFrom low (xs ++ k ∷ []) k
pushed_from xs k low h = (length xs, h, pushed_last xs k)

pub from_on : (low : ℕ) (a b : List ℕ) (at : ℕ) → GoesOn a b → IsFrom low a at → IsFrom low b at
from_on low a b at g h = (h.0, h.1, g h.0 at h.2)

pub from_lower : (low high : ℕ) (a : List ℕ) (at : ℕ) → low ≤ high → IsFrom high a at → IsFrom low a at
from_lower low high a at le h = let l : low ≤ h.0 = omega (arith, le, h.1) in (h.0, l, h.2)

dropped : {X : Type 0} (xs : List X) (next i : ℕ) (x : X) → next ≤ i → slice_get xs i ≡ Some x → slice_get (drop next xs) (i - next) ≡ Some x
dropped xs zero i x le h = ap (slice_get xs) (omega arith) ∙ h
dropped [] (suc next) i x le h = cc
dropped (y ∷ xs) (suc next) zero x le h = absurd (omega (arith, le))
dropped (y ∷ xs) (suc next) (suc i) x le h =
    let same : suc i - suc next ≡ i - next = omega arith in
    let lower : next ≤ i = omega (arith, le) in
    ap (slice_get (drop next xs)) same ∙ dropped xs next i x lower h

pub starts_nowhere : (low : ℕ) (walk : List ℕ) (waiting : List Skipping) → StartsAt low low walk waiting
starts_nowhere low walk waiting i at lo hi is = absurd (omega (arith, lo, hi))

-- a node more from which one term is to be skipped
pub starts_next : (low i : ℕ) (walk : List ℕ) (at : ℕ) (now new : List Skipping) → StartsAt low i walk now → slice_get walk i ≡ Some at → new ≡ now ++ record { node = at; count = 1 } ∷ [] → StartsAt low (i + 1) walk new
starts_next low i walk at now new so here is j b lo hi there = elim (cases_eq j i) [
  | inl s ↦
      let same : at ≡ b = some_same at b (sym here ∙ ap (slice_get walk) (sym s) ∙ there) in
      (length now, ap (λ xs. slice_get xs (length now)) is ∙ pushed_last now (record { node = at; count = 1 }) ∙ ap (λ k. Some (record { node = k; count = 1 })) same)
  | inr s ↦
      let old = so j b lo (omega (arith, hi, s)) there in
      (old.0, ap (λ xs. slice_get xs old.0) is ∙ pushed_on now (record { node = at; count = 1 }) old.0 (record { node = b; count = 1 }) old.1)
]

module _ (nodes : Store) where
  pub found_on : (a b : List ℕ) (n : ℕ) → GoesOn a b → IsFound nodes a n → IsFound nodes b n
  found_on a b n g h = (h.0, h.1, g h.0 h.1 h.2, h.3)

  pub waits_on : (low : ℕ) (a b : List ℕ) (path : List Edge) (n : ℕ) → GoesOn a b → Waits nodes low a path n → Waits nodes low b path n
  waits_on low a b path n g h = (h.0, from_on low a b h.0 g h.1, h.2)

  pub waits_lower : (low high : ℕ) (a : List ℕ) (path : List Edge) (n : ℕ) → low ≤ high → Waits nodes high a path n → Waits nodes low a path n
  waits_lower low high a path n le h = (h.0, from_lower low high a h.0 le h.1, h.2)

  pub none_followed : (low : ℕ) (edge : Edge) (old : List ℕ) → Follows nodes low low edge old old
  none_followed low edge old = λ i at k lo hi is c. absurd (omega (arith, lo, hi))

  -- one node more is followed
  pub follow_next : (low i : ℕ) (edge : Edge) (old now new : List ℕ) (at : ℕ) → GoesOn old now → GoesOn now new → Follows nodes low i edge old now → slice_get now i ≡ Some at
      → ((k : ℕ) → child nodes at edge ≡ Some k → IsFrom (length old) new k) → Follows nodes low (i + 1) edge old new
  follow_next low i edge old now new at f g so here kids = λ j b k lo hi is c. elim (cases_eq j i) [
    | inl s ↦
        let same : at ≡ b = some_same at b (sym here ∙ ap (slice_get now) (sym s) ∙ f j b is) in
        kids k (ap (λ a. child nodes a edge) same ∙ c)
    | inr s ↦ from_on (length old) now new k g (so j b k lo (omega (arith, hi, s)) is c)
  ]

  -- what a loop over nodes keeps as it follows one more
  pub follow_pushed : (low i : ℕ) (edge : Edge) (old now new : List ℕ) (at k : ℕ) → GoesOn old now → length old ≤ length now → Follows nodes low i edge old now → slice_get now i ≡ Some at
      → child nodes at edge ≡ Some k → new ≡ now ++ k ∷ [] → GoesOn old new × (length old ≤ length new) × Follows nodes low (i + 1) edge old new
  follow_pushed low i edge old now new at k f le so here is pushed =
      let on : GoesOn now new = subst (GoesOn now) (sym pushed) (pushed_on now k) in
      let longer : length old ≤ length new = omega (arith, le, ap length pushed, length-append now (k ∷ [])) in (
        goes_far old now new f on,
        longer,
        follow_next low i edge old now new at f on so here (λ j c. subst (IsFrom (length old) new) (some_same k j (sym is ∙ c)) (subst (λ xs. IsFrom (length old) xs k) (sym pushed) (pushed_from now k (length old) le))),
      )

  pub follow_none : (low i : ℕ) (edge : Edge) (old now new : List ℕ) (at : ℕ) → GoesOn old now → length old ≤ length now → Follows nodes low i edge old now → slice_get now i ≡ Some at
      → child nodes at edge ≡ None → new ≡ now → GoesOn old new × (length old ≤ length new) × Follows nodes low (i + 1) edge old new
  follow_none low i edge old now new at f le so here is same =
      let on : GoesOn now new = subst (GoesOn now) (sym same) (stays now) in
      let longer : length old ≤ length new = omega (arith, le, ap length same) in (
        goes_far old now new f on,
        longer,
        follow_next low i edge old now new at f on so here (λ j c. absurd (nothing j (sym is ∙ c))),
      )
    where
      nothing : (j : ℕ) → None ≡ Some j → ⊥
      nothing j e = cc

  pub nowhere : (at : ℕ) (path : List Edge) (n : ℕ) → get nodes at ≡ None → Reaches nodes at path n → ⊥
  nowhere at [] n is h = subst (λ o. MatchOption o ⊥ (λ (node : Node). IsIn n node.contents.numbers)) is h
  nowhere at (e ∷ path) n is h = let bad : None ≡ Some h.0 = ap (option_and_then (λ (node : Node). branch node e)) (sym is) ∙ h.1 in cc

  -- ---- the branches of a node that come to what is to be skipped

  -- the terms are to be skipped that are left behind a branch
  abbrev pub IsEntered : Edge → ℕ → ℕ → List Skipping → Type 0
  IsEntered edge k count waiting = (left : ℕ) × (left + 1 ≡ count + arity edge) × IsToSkip waiting k left

  pub entered_on : (edge : Edge) (k count : ℕ) (now new : List Skipping) → GoesOn now new → IsEntered edge k count now → IsEntered edge k count new
  entered_on edge k count now new g h = (h.0, h.1, (h.2.0, g h.2.0 (record { node = k; count = h.0 }) h.2.1))

  pub entered_last : (edge : Edge) (k count left : ℕ) (now new : List Skipping) → left + 1 ≡ count + arity edge → new ≡ now ++ record { node = k; count = left } ∷ [] → IsEntered edge k count new
  entered_last edge k count left now new fits is = (left, fits, (length now, ap (λ xs. slice_get xs (length now)) is ∙ pushed_last now (record { node = k; count = left })))

  -- the branches that are left, or those that came
  abbrev pub AreLeft : ℕ → List (Edge × ℕ) → ℕ → List Skipping → Type 0
  AreLeft at left count waiting =
      (e : Edge) (k : ℕ) → child nodes at e ≡ Some k → (target left e ≡ Some k) ⊎ IsEntered e k count waiting

  pub all_left : (at : ℕ) (node : Node) (left : List (Edge × ℕ)) (count : ℕ) (waiting : List Skipping) → get nodes at ≡ Some node → left ≡ node.contents.branches → AreLeft at left count waiting
  all_left at node left count waiting is same e k h =
      inl (ap (λ bs. target bs e) same ∙ ap (option_and_then (λ (x : Node). branch x e)) (sym is) ∙ h)

  pub none_left : (at : ℕ) (left : List (Edge × ℕ)) (count : ℕ) (waiting : List Skipping) → left ≡ [] → AreLeft at left count waiting → Enters nodes at count waiting
  none_left at left count waiting is so e k h = elim (so e k h) [
    | inl f ↦ let bad : None ≡ Some k = sym (ap (λ bs. target bs e) is) ∙ f in absurd (nothing k bad)
    | inr f ↦ f
  ]
    where
      nothing : (k : ℕ) → None ≡ Some k → ⊥
      nothing k e = cc

  pub branch_done : (at : ℕ) (left rest : List (Edge × ℕ)) (edge : Edge) (b count : ℕ) (now new : List Skipping) → AreLeft at left count now → left ≡ (edge, b) ∷ rest → GoesOn now new
      → IsEntered edge b count new → AreLeft at rest count new
  branch_done at left rest edge b count now new so is g done = λ e k h. elim (so e k h) [
    | inl f ↦ by e k (is_eq (edge_cmp e edge)) refl (ap (λ bs. target bs e) (sym is) ∙ f)
    | inr f ↦ inr (entered_on e k count now new g f)
  ]
    where
      by : (e : Edge) (k : ℕ) (c : Bool) → is_eq (edge_cmp e edge) ≡ c → target ((edge, b) ∷ rest) e ≡ Some k → (target rest e ≡ Some k) ⊎ IsEntered e k count new
      by e k true s h =
          let same : b ≡ k = some_same b k (sym (ap (λ c. cond c (Some b) (target rest e)) s) ∙ h) in
          inr (subst (λ i. IsEntered e i count new) same (subst (λ d. IsEntered d b count new) (sym (is_same e edge s)) done))
      by e k false s h = inl (sym (ap (λ c. cond c (Some b) (target rest e)) s) ∙ h)

  pub enters_nothing : (at count : ℕ) (waiting : List Skipping) → get nodes at ≡ None → Enters nodes at count waiting
  enters_nothing at count waiting is e k h = let bad : None ≡ Some k = ap (option_and_then (λ (node : Node). branch node e)) (sym is) ∙ h in cc

  -- ---- terms that are skipped

  pub ahead_on : (now new : List Skipping) (path : List Edge) (n : ℕ) → GoesOn now new → IsAhead nodes now path n → IsAhead nodes new path n
  ahead_on now new path n g h = (h.0, h.1, g h.0 h.1 h.2, h.3)

  -- no terms are left to be skipped
  pub skipped_here : (s : Skipping) (low : ℕ) (new : List ℕ) (waiting : List Skipping) → s.count ≡ 0 → IsFrom low new s.node → SkipsOne nodes s low new waiting
  skipped_here s low new waiting is f path n h = inl (s.node, f, nothing h.0 (h.1 ∙ is) h.2)
    where
      nothing : (ts : List Tree) → length ts ≡ 0 → Reaches nodes s.node (steps_of ts ++ path) n → Reaches nodes s.node path n
      nothing [] e r = r
      nothing (t ∷ ts) e r = absurd (omega (arith, e))

  measured : (t : Tree) → length (arguments t) ≡ arity (step_of t)
  measured (var x) = refl
  measured (elem k) = refl
  measured (app f ts) = refl

  -- a step further
  pub skipped_on : (s : Skipping) (low : ℕ) (walk : List ℕ) (waiting : List Skipping) → (s.count ≡ 0 → ⊥) → Enters nodes s.node s.count waiting → SkipsOne nodes s low walk waiting
  skipped_on s low walk waiting some so path n h = inr (by h.0 h.1 h.2)
    where
      by : (ts : List Tree) → length ts ≡ s.count → Reaches nodes s.node (steps_of ts ++ path) n → IsAhead nodes waiting path n
      by [] e r = absurd (some (sym e))
      by (t ∷ ts) e r =
          let there = subst (λ p. Reaches nodes s.node p n) (steps_begin t ts path) r in
          let way = so (step_of t) there.0 there.1 in (
            way.2.0,
            record { node = there.0; count = way.0 },
            way.2.1,
            (arguments t ++ ts, omega (arith, length-append (arguments t) ts, measured t, e, way.1), there.2),
          )

  -- what was ahead is reached, or still is
  abbrev pub SkipsOn : List Skipping → ℕ → List ℕ → List Skipping → Type 0
  SkipsOn first low walk waiting = (path : List Edge) (n : ℕ) → IsAhead nodes first path n → Waits nodes low walk path n ⊎ IsAhead nodes waiting path n

  pub skips_first : (first : List Skipping) (low : ℕ) (walk : List ℕ) → SkipsOn first low walk first
  skips_first first low walk path n h = inr h

  pub skips_next : (first waiting left after : List Skipping) (s : Skipping) (low : ℕ) (now new : List ℕ) → low ≤ length now → SkipsOn first low now waiting → waiting ≡ left ++ s ∷ [] → GoesOn now new → GoesOn left after
      → SkipsOne nodes s (length now) new after → SkipsOn first low new after
  skips_next first waiting left after s low now new le so is g others one path n h = elim (so path n h) [
    | inl w ↦ inl (waits_on low now new path n g w)
    | inr w ↦ elim (last_or_before left s w.0 w.1 (ap (λ xs. slice_get xs w.0) (sym is) ∙ w.2)) [
      | inl before ↦ inr (ahead_on left after path n others (w.0, w.1, before, w.3))
      | inr last ↦ elim (one path n (subst (λ (t : Skipping). IsBehind nodes t.node t.count path n) (sym last) w.3)) [
        | inl reached ↦ inl (waits_lower low (length now) new path n le reached)
        | inr ahead ↦ inr ahead
      ]
    ]
  ]

  pub skips_all : (first waiting : List Skipping) (low : ℕ) (walk : List ℕ) → waiting ≡ [] → SkipsOn first low walk waiting → SkipsAll nodes first low walk
  skips_all first waiting low walk ended so path n h = elim (so path n h) [
    | inl w ↦ w
    | inr w ↦ absurd (nothing w.0 w.1 (ap (λ xs. slice_get xs w.0) (sym ended) ∙ w.2))
  ]
    where
      nothing : (i : ℕ) (s : Skipping) → slice_get {X = Skipping} [] i ≡ Some s → ⊥
      nothing i s e = cc

  pub skipped_each : (low high : ℕ) (old new : List ℕ) (waiting : List Skipping) → StartsAt low high old waiting → SkipsAll nodes waiting (length old) new → SkipsEach nodes low high old new
  skipped_each low high old new waiting starts all i at lo hi is path n h =
      let start = starts i at lo hi is in
      all path n (start.0, record { node = at; count = 1 }, start.1, h)

  module _ (below above : Bool) where
    same_count : (ss ts : Trees) → FitAll below above ss ts → length (list_of ss) ≡ length (list_of ts)
    same_count none none h = refl
    same_count none (more t ts) h = absurd h
    same_count (more s ss) none h = absurd h
    same_count (more s ss) (more t ts) h = ap suc (same_count ss ts h.1)

    pub passes_nothing : (t : Tree) (low high : ℕ) (old : List ℕ) → length old ≤ low → Passes nodes below above t low old high old
    passes_nothing t low high old short s path n fit h = absurd (omega (arith, short, h.1.1, slice_get_within old h.1.0 h.0 h.1.2))

    pub passes_none : (low : ℕ) (walk : List ℕ) → PassesAll nodes below above none low walk low walk
    passes_none low walk none path n fit h = h
    passes_none low walk (more s ss) path n fit h = absurd fit

    pub passes_more : (t : Tree) (ts : Trees) (low mid high : ℕ) (a b c : List ℕ) → Passes nodes below above t low a mid b → PassesAll nodes below above ts mid b high c → PassesAll nodes below above (more t ts) low a high c
    passes_more t ts low mid high a b c one all none path n fit h = absurd fit
    passes_more t ts low mid high a b c one all (more s ss) path n fit h =
        all ss path n fit.1 (one s (paths_of ss ++ path) n fit.0 (subst (λ p. Waits nodes low a p n) (append_assoc (path_of s) (paths_of ss) path) h))

    pub passes_variable : (x low high : ℕ) (old new : List ℕ) → high ≡ length old → SkipsEach nodes low high old new → Passes nodes below above (var x) low old high new
    passes_variable x low high old new is so s path n fit h =
        let within : h.1.0 < high = omega (arith, slice_get_within old h.1.0 h.0 h.1.2, is) in
        let behind : IsBehind nodes h.0 1 path n = (s ∷ [], refl, subst (λ p. Reaches nodes h.0 (p ++ path) n) (sym (append-nil (path_of s))) h.2) in
        subst (λ l. Waits nodes l new path n) (sym is) (so h.1.0 h.0 h.1.1 within h.1.2 path n behind)

    -- a node of the walk is followed by a step
    follows : (edge : Edge) (path : List Edge) (low high : ℕ) (old now new : List ℕ) (n : ℕ) → high ≡ length old → GoesOn old now → Follows nodes low high edge now new → Waits nodes low old (edge ∷ path) n → Waits nodes (length now) new path n
    follows edge path low high old now new n is g so h =
        let within : h.1.0 < high = omega (arith, slice_get_within old h.1.0 h.0 h.1.2, is) in
        (h.2.0, so h.1.0 h.0 h.2.0 h.1.1 within (g h.1.0 h.0 h.1.2) h.2.1, h.2.2)

    pub passes_plain : (x low high : ℕ) (old new : List ℕ) → above ≡ false → high ≡ length old → Follows nodes low high Any old new → Passes nodes below above (var x) low old high new
    passes_plain x low high old new plain is so (var y) path n fit h =
        subst (λ l. Waits nodes l new path n) (sym is) (follows Any path low high old old new n is (stays old) so h)
    passes_plain x low high old new plain is so (elem m) path n fit h = let bad : true ≡ false = sym fit ∙ plain in cc
    passes_plain x low high old new plain is so (app f ss) path n fit h = let bad : true ≡ false = sym fit ∙ plain in cc

    pub passes_element : (m low high : ℕ) (old now new : List ℕ) → high ≡ length old → GoesOn old now → GoesOn now new → length old ≤ length now → Follows nodes low high (Element m) old now
        → (IsTrue below → Follows nodes low high Any now new) → Passes nodes below above (elem m) low old high new
    passes_element m low high old now new is f g longer so any (var x) path n fit h =
        waits_lower high (length now) new path n (omega (arith, is, longer)) (follows Any path low high old now new n is f (any fit) h)
    passes_element m low high old now new is f g longer so any (elem k) path n fit h =
        waits_on high now new path n g (subst (λ l. Waits nodes l now path n) (sym is)
        (follows (Element m) path low high old old now n is (stays old) so (subst (λ j. Waits nodes low old (Element j ∷ path) n) fit h)))
    passes_element m low high old now new is f g longer so any (app e ss) path n fit h = absurd fit

    pub passes_application : (f : ℕ) (ts : Trees) (low high next : ℕ) (old first now new : List ℕ) → high ≡ length old → GoesOn old first → GoesOn first now → GoesOn now new → next ≤ length now
        → Follows nodes low high (Symbol f (length (list_of ts))) old first → PassesAll nodes below above ts high first next now
        → (IsTrue below → Follows nodes low high Any now new) → Passes nodes below above (app f ts) low old next new
    passes_application f ts low high next old first now new is a b c le so all any (var x) path n fit h =
        waits_lower next (length now) new path n le (follows Any path low high old now new n is (goes_far old first now a b) (any fit) h)
    passes_application f ts low high next old first now new is a b c le so all any (elem k) path n fit h = absurd fit
    passes_application f ts low high next old first now new is a b c le so all any (app g ss) path n fit h =
        let head : Symbol g (length (list_of ss)) ≡ Symbol f (length (list_of ts)) = ap₂ Symbol fit.0 (same_count ss ts fit.1) in
        waits_on next now new path n c
        (all ss path n fit.1 (subst (λ l. Waits nodes l first (paths_of ss ++ path) n) (sym is)
        (follows (Symbol f (length (list_of ts))) (paths_of ss ++ path) low high old old first n is (stays old) so
        (subst (λ e. Waits nodes low old (e ∷ (paths_of ss ++ path)) n) head h))))

    pub covered : (t : Tree) (next : ℕ) (old new rest : List ℕ) → slice_get old 0 ≡ Some 0 → rest ≡ drop next new → Passes nodes below above t 0 old next new → Covers nodes below above t rest
    covered t next old new rest is cut so s n fit r =
        let start : IsFrom 0 old 0 = (0, omega arith, is) in
        let w = so s [] n fit (0, start, subst (λ p. Reaches nodes 0 p n) (sym (append-nil (path_of s))) r) in
        (w.1.0 - next, w.0, ap (λ xs. slice_get xs (w.1.0 - next)) cut ∙ dropped new next w.1.0 w.0 w.1.1 w.1.2, w.2)
