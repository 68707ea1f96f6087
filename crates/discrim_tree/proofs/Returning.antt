-- Walks reach nothing but what is behind terms that fit.
use Rattle.std.proofs.Common.{◌≡◌, ℕ, zero, suc, ◌+◌, ◌<◌, ◌≤◌, ◌⊎◌, Bool, true, inl, inr, refl, sym, ap, ap₂, subst, ◌∙◌, List, [], ◌∷◌, ◌++◌, Some, length, drop, get_or, arith, slice_get, append-nil}
use Rattle.std.proofs.lemmas.Bool.{cases_lt}
use Rattle.std.proofs.lemmas.Option.{slice_get_within, slice_get-get_or}
use Rattle.slab.specs.Slab.{get}
use Rattle.fol_core.specs.Tree.{Tree, var, elem, app, Trees, none, more, list_of, trees_of}
use Rattle.discrim_tree.specs.Contents.{StepsRise}
use Rattle.discrim_tree.specs.Fitting.{Fits, FitAll}
use Rattle.discrim_tree.specs.Nodes.{Store, child}
use Rattle.discrim_tree.specs.Paths.{step_of, arguments, steps_of, path_of, paths_of}
use Rattle.discrim_tree.specs.Trees.{Leads}
use Rattle.discrim_tree.specs.Walks.{arity, GoesOn, IsFrom, IsBetween, Came, CameByAny, IsPast, IsBeyond, IsSkipped, StartOnly, SkippedEach, Comes, ComesAll, AllFit}
use Rattle.discrim_tree.specs.declared.edge.Edge.{Edge}
use Rattle.discrim_tree.specs.declared.edge.Edge.TheVariants.{Any, Element, Symbol}
use Rattle.discrim_tree.specs.declared.nodes.Node.{Node}
use Rattle.discrim_tree.specs.declared.skipping.Skipping.{Skipping}
use Rattle.discrim_tree.proofs.Branches.{target_at}
use Rattle.discrim_tree.proofs.NodeSteps.{some_same, child_by}
use Rattle.discrim_tree.proofs.Paths.{list_back, steps_begin}
use Rattle.discrim_tree.proofs.Trees.{leads_joined}
use Rattle.discrim_tree.proofs.WalkSteps.{last_or_before, pushed_on, pushed_last}

-- what stands in a list that went on stood there before, or behind its end
pub before_or_came : (low : ℕ) (now new : List ℕ) (to : ℕ) → GoesOn now new → IsFrom low new to → IsFrom low now to ⊎ IsFrom (length now) new to
before_or_came low now new to g h = elim (cases_lt h.0 (length now)) [
  | inl lt ↦
      let here = slice_get-get_or now h.0 0 lt in
      inl (h.0, h.1, here ∙ ap Some (some_same (get_or now h.0 0) to (sym (g h.0 (get_or now h.0 0) here) ∙ h.2)))
  | inr le ↦ inr (h.0, le, h.2)
]

-- nothing stands behind the end
pub none_behind : (walk : List ℕ) (to : ℕ) → IsFrom (length walk) walk to → ⊥
none_behind walk to h = absurd (omega (arith, h.1, slice_get_within walk h.0 to h.2))

-- what is read at a place of before stood there
pub was_there : (old now : List ℕ) (i at : ℕ) → GoesOn old now → i < length old → slice_get now i ≡ Some at → slice_get old i ≡ Some at
was_there old now i at g lt is =
    let here = slice_get-get_or old i 0 lt in
    here ∙ ap Some (some_same (get_or old i 0) at (sym (g i (get_or old i 0) here) ∙ is))

-- one more came
pub last_came : (now new : List ℕ) (k to low : ℕ) → new ≡ now ++ k ∷ [] → IsFrom low new to → IsFrom low now to ⊎ (k ≡ to)
last_came now new k to low is h = elim (last_or_before now k h.0 to (ap (λ xs. slice_get xs h.0) (sym is) ∙ h.2)) [
  | inl before ↦ inl (h.0, h.1, before)
  | inr last ↦ inr last
]

nothing : (i : ℕ) (s : Skipping) → slice_get {X = Skipping} [] i ≡ Some s → ⊥
nothing i s e = cc

pub start_none : (low : ℕ) (walk : List ℕ) → StartOnly low walk []
start_none low walk i s is = absurd (nothing i s is)

pub start_next : (low i : ℕ) (walk : List ℕ) (at : ℕ) (now new : List Skipping) → low ≤ i → slice_get walk i ≡ Some at → StartOnly low walk now → new ≡ now ++ record { node = at; count = 1 } ∷ [] → StartOnly low walk new
start_next low i walk at now new le here so is j s there = elim (last_or_before now (record { node = at; count = 1 }) j s (ap (λ xs. slice_get xs j) (sym is) ∙ there)) [
  | inl before ↦ so j s before
  | inr last ↦ subst (λ (r : Skipping). IsFrom low walk r.node × (r.count ≡ 1)) last ((i, le, here), refl)
]

module _ (nodes : Store) where
  pub none_came : (low high : ℕ) (edge : Edge) (old : List ℕ) → Came nodes low high edge old old
  none_came low high edge old k h = absurd (none_behind old k h)

  pub none_by_any : (below : Bool) (low high : ℕ) (old : List ℕ) → CameByAny nodes below low high old old
  none_by_any below low high old k h = absurd (none_behind old k h)

  pub came_by_any : (below : Bool) (low high : ℕ) (old new : List ℕ) → below ≡ true → Came nodes low high Any old new → CameByAny nodes below low high old new
  came_by_any below low high old new is so k h = (is, so k h)

  -- one more node comes by a step
  pub came_next : (low high i : ℕ) (edge : Edge) (old now new : List ℕ) (at k : ℕ) → GoesOn old now → low ≤ i → i < high → i < length old → slice_get now i ≡ Some at → child nodes at edge ≡ Some k
      → Came nodes low high edge old now → new ≡ now ++ k ∷ [] → Came nodes low high edge old new
  came_next low high i edge old now new at k g le hi lt here is so pushed to h = elim (last_came now new k to (length old) pushed h) [
    | inl before ↦ so to before
    | inr last ↦ (at, (i, le, hi, was_there old now i at g lt here), is ∙ ap Some last)
  ]

  -- ---- the branches of a node

  abbrev pub AreBranches : ℕ → List (Edge × ℕ) → Type 0
  AreBranches at left = (i : ℕ) (e : Edge) (k : ℕ) → slice_get left i ≡ Some (e, k) → child nodes at e ≡ Some k

  pub branches_there : (at : ℕ) (node : Node) (left : List (Edge × ℕ)) → get nodes at ≡ Some node → StepsRise node.contents.branches → left ≡ node.contents.branches → AreBranches at left
  branches_there at node left is rise same i e k h =
      child_by nodes at e node is ∙ target_at node.contents.branches rise e i k (ap (λ xs. slice_get xs i) (sym same) ∙ h)

  pub branches_rest : (at : ℕ) (left rest : List (Edge × ℕ)) (b : Edge × ℕ) → left ≡ b ∷ rest → AreBranches at left → AreBranches at rest
  branches_rest at left rest b is all i e k h = all (suc i) e k (ap (λ xs. slice_get xs (suc i)) is ∙ h)

  pub branch_first : (at : ℕ) (left rest : List (Edge × ℕ)) (edge : Edge) (k : ℕ) → left ≡ (edge, k) ∷ rest → AreBranches at left → child nodes at edge ≡ Some k
  branch_first at left rest edge k is all = all 0 edge k (ap (λ xs. slice_get xs 0) is)

  -- ---- terms that are skipped

  parted : (a b : ℕ) (ts : List Tree) → length ts ≡ a + b → (us : List Tree) × (vs : List Tree) × (ts ≡ us ++ vs) × (length us ≡ a) × (length vs ≡ b)
  parted zero b ts e = ([], ts, refl, refl, e ∙ omega arith)
  parted (suc a) b [] e = absurd (omega (arith, e))
  parted (suc a) b (t ∷ ts) e =
      let rest = parted a b ts (omega (arith, e)) in
      (t ∷ rest.0, rest.1, ap (λ xs. t ∷ xs) rest.2, ap suc rest.3, rest.4)

  -- a term that begins with a step
  begun : (edge : Edge) (us : List Tree) → length us ≡ arity edge → (t : Tree) × (step_of t ≡ edge) × (arguments t ≡ us)
  begun Any [] e = (var 0, refl, refl)
  begun Any (u ∷ us) e = absurd (omega (arith, e))
  begun (Element k) [] e = (elem k, refl, refl)
  begun (Element k) (u ∷ us) e = absurd (omega (arith, e))
  begun (Symbol f n) us e = (app f (trees_of us), ap (Symbol f) (ap length (list_back us) ∙ e), list_back us)

  -- where a step leads, with the terms that are left behind it, so do as many as before
  pub step_past : (at k : ℕ) (edge : Edge) (count left to : ℕ) → 0 < count → child nodes at edge ≡ Some k → left + 1 ≡ count + arity edge → IsPast nodes k left to → IsPast nodes at count to
  step_past at k edge (suc count) left to some is fits h =
      let parts = parted (arity edge) count h.0 (omega (arith, fits, h.1)) in
      let first = begun edge parts.0 parts.3 in
      let way : Leads nodes at (edge ∷ steps_of h.0) to = (k, is, h.2) in
      let same : edge ∷ steps_of h.0 ≡ steps_of (first.0 ∷ parts.1) =
      ap₂ (λ (e : Edge) (us : List Tree). e ∷ steps_of us) (sym first.1) (parts.2 ∙ ap (λ us. us ++ parts.1) (sym first.2))
      ∙ ap (λ p. step_of first.0 ∷ p) (sym (append-nil (steps_of (arguments first.0 ++ parts.1))))
      ∙ sym (steps_begin first.0 parts.1 []) ∙ append-nil (steps_of (first.0 ∷ parts.1)) in
      (first.0 ∷ parts.1, ap suc parts.4, subst (λ p. Leads nodes at p to) same way)
  step_past at k edge zero left to some is fits h = absurd (omega (arith, some))

  pub skipped_none : (at count : ℕ) (now : List Skipping) → IsSkipped nodes at count now now
  skipped_none at count now to h = inl h

  -- a branch more comes to what is to be skipped
  pub skipped_next : (at count k left : ℕ) (edge : Edge) (old now new : List Skipping) → 0 < count → child nodes at edge ≡ Some k → left + 1 ≡ count + arity edge
      → IsSkipped nodes at count old now → new ≡ now ++ record { node = k; count = left } ∷ [] → IsSkipped nodes at count old new
  skipped_next at count k left edge old now new some is fits so pushed to h =
      elim (last_or_before now (record { node = k; count = left }) h.0 h.1 (ap (λ xs. slice_get xs h.0) (sym pushed) ∙ h.2)) [
        | inl before ↦ so to (h.0, h.1, before, h.3)
        | inr last ↦ inr (step_past at k edge count left to some is fits (subst (λ (s : Skipping). IsPast nodes s.node s.count to) (sym last) h.3))
      ]

  pub past_here : (s : Skipping) (old new : List ℕ) (to : ℕ) → s.count ≡ 0 → new ≡ old ++ s.node ∷ [] → IsFrom (length old) new to → IsPast nodes s.node s.count to
  past_here s old new to is pushed h = elim (last_came old new s.node to (length old) pushed h) [
    | inl before ↦ absurd (none_behind old to before)
    | inr last ↦ ([], sym is, last)
  ]

  pub none_past : (s : Skipping) (walk : List ℕ) (to : ℕ) → IsFrom (length walk) walk to → IsPast nodes s.node s.count to
  none_past s walk to h = absurd (none_behind walk to h)

  -- what is still to be skipped leads where all did that was
  pub beyond_next : (first waiting left after : List Skipping) (s : Skipping) → waiting ≡ left ++ s ∷ [] → ((to : ℕ) → IsBeyond nodes waiting to → IsBeyond nodes first to)
      → IsSkipped nodes s.node s.count left after → (to : ℕ) → IsBeyond nodes after to → IsBeyond nodes first to
  beyond_next first waiting left after s is so one to h = elim (one to h) [
    | inl b ↦ so to (b.0, b.1, ap (λ xs. slice_get xs b.0) is ∙ pushed_on left s b.0 b.1 b.2, b.3)
    | inr p ↦ so to (length left, s, ap (λ xs. slice_get xs (length left)) is ∙ pushed_last left s, p)
  ]

  pub reached_next : (first waiting left : List Skipping) (s : Skipping) (old now new : List ℕ) → waiting ≡ left ++ s ∷ [] → GoesOn now new → ((to : ℕ) → IsBeyond nodes waiting to → IsBeyond nodes first to)
      → ((to : ℕ) → IsFrom (length old) now to → IsBeyond nodes first to) → ((to : ℕ) → IsFrom (length now) new to → IsPast nodes s.node s.count to)
      → (to : ℕ) → IsFrom (length old) new to → IsBeyond nodes first to
  reached_next first waiting left s old now new is g so before one to h = elim (before_or_came (length old) now new to g h) [
    | inl b ↦ before to b
    | inr p ↦ so to (length left, s, ap (λ xs. slice_get xs (length left)) is ∙ pushed_last left s, one to p)
  ]

  pub skipped_back : (low : ℕ) (old new : List ℕ) (waiting : List Skipping) → StartOnly low old waiting → ((to : ℕ) → IsFrom (length old) new to → IsBeyond nodes waiting to) → SkippedEach nodes low old new
  skipped_back low old new waiting start so to h =
      let b = so to h in
      let s = start b.0 b.1 b.2 in
      (b.1.node, s.0, subst (λ c. IsPast nodes b.1.node c to) s.1 b.3)

  one_past : (at to : ℕ) → IsPast nodes at 1 to → (s : Tree) × Leads nodes at (path_of s) to
  one_past at to h = by h.0 h.1 h.2
    where
      by : (ts : List Tree) → length ts ≡ 1 → Leads nodes at (steps_of ts) to → (s : Tree) × Leads nodes at (path_of s) to
      by [] e l = absurd (omega (arith, e))
      by (s ∷ []) e l = (s, subst (λ p. Leads nodes at p to) (append-nil (path_of s)) l)
      by (s ∷ t ∷ ts) e l = absurd (omega (arith, e))

  -- ---- terms that fit

  module _ (below above : Bool) where
    fits_variable : (s : Tree) (y : ℕ) → above ≡ true → Fits below above s (var y)
    fits_variable (var x) y h = tt
    fits_variable (elem k) y h = h
    fits_variable (app f ss) y h = h

    same_length : (ss ts : Trees) → FitAll below above ss ts → length (list_of ss) ≡ length (list_of ts)
    same_length none none h = refl
    same_length none (more t ts) h = absurd h
    same_length (more s ss) none h = absurd h
    same_length (more s ss) (more t ts) h = ap suc (same_length ss ts h.1)

    pub comes_nothing : (t : Tree) (low high : ℕ) (old : List ℕ) → length old ≤ high → Comes nodes below above t low old high old
    comes_nothing t low high old short to h = absurd (omega (arith, short, h.1, slice_get_within old h.0 to h.2))

    pub comes_variable : (x low high : ℕ) (old new : List ℕ) → above ≡ true → high ≡ length old → SkippedEach nodes low old new → Comes nodes below above (var x) low old high new
    comes_variable x low high old new stands is so to h =
        let came = so to (subst (λ n. IsFrom n new to) is h) in
        let term = one_past came.0 to came.2 in
        (term.0, fits_variable term.0 x stands, (came.0, came.1, term.1))

    pub comes_plain : (x low high : ℕ) (old new : List ℕ) → high ≡ length old → Came nodes low high Any old new → Comes nodes below above (var x) low old high new
    comes_plain x low high old new is so to h =
        let came = so to (subst (λ n. IsFrom n new to) is h) in
        (var x, tt, (came.0, (came.1.0, came.1.1, came.1.3), (to, came.2, refl)))

    pub between_was : (low high : ℕ) (old now : List ℕ) (at : ℕ) → high ≡ length old → GoesOn old now → IsBetween low high now at → IsFrom low old at
    between_was low high old now at is g h =
        let lt : h.0 < length old = omega (arith, h.2, is) in
        (h.0, h.1, was_there old now h.0 at g lt h.3)

    pub comes_none : (low : ℕ) (walk : List ℕ) → ComesAll nodes below above none low walk low walk
    comes_none low walk to h = (none, tt, (to, h, refl))

    pub comes_more : (t : Tree) (ts : Trees) (low mid high : ℕ) (a b c : List ℕ) → Comes nodes below above t low a mid b → ComesAll nodes below above ts mid b high c → ComesAll nodes below above (more t ts) low a high c
    comes_more t ts low mid high a b c one all to h =
        let rest = all to h in
        let first = one rest.2.0 rest.2.1 in
        (more first.0 rest.0, (first.1, rest.1), (first.2.0, first.2.1, leads_joined nodes first.2.0 (path_of first.0) rest.2.0 (paths_of rest.0) to first.2.2 rest.2.2))

    pub comes_element : (m low high : ℕ) (old now new : List ℕ) → high ≡ length old → GoesOn old now → GoesOn now new → Came nodes low high (Element m) old now → CameByAny nodes below low high now new
        → Comes nodes below above (elem m) low old high new
    comes_element m low high old now new is f g so any to h = elim (before_or_came high now new to g h) [
      | inl b ↦
          let came = so to (subst (λ n. IsFrom n now to) is b) in
          (elem m, refl, (came.0, (came.1.0, came.1.1, came.1.3), (to, came.2, refl)))
      | inr p ↦
          let came = any to p in
          (var 0, came.0, (came.1.0, between_was low high old now came.1.0 is f came.1.1, (to, came.1.2, refl)))
    ]

    pub comes_application : (f : ℕ) (ts : Trees) (low high next : ℕ) (old first now new : List ℕ) → high ≡ length old → GoesOn old first → GoesOn first now → GoesOn now new
        → Came nodes low high (Symbol f (length (list_of ts))) old first → ComesAll nodes below above ts high first next now → CameByAny nodes below low high now new
        → Comes nodes below above (app f ts) low old next new
    comes_application f ts low high next old first now new is a b c so all any to h = elim (before_or_came next now new to c h) [
      | inl p ↦
          let rest = all to p in
          let came = so rest.2.0 (subst (λ n. IsFrom n first rest.2.0) is rest.2.1) in
          let head : Symbol f (length (list_of ts)) ≡ Symbol f (length (list_of rest.0)) = ap (Symbol f) (sym (same_length rest.0 ts rest.1)) in
          let step = subst (λ (e : Edge). child nodes came.0 e ≡ Some rest.2.0) head came.2 in
          (app f rest.0, (refl, rest.1), (came.0, (came.1.0, came.1.1, came.1.3), (rest.2.0, step, rest.2.2)))
      | inr p ↦
          let came = any to p in
          (var 0, came.0, (came.1.0, between_was low high old now came.1.0 is (λ i x e. b i x (a i x e)) came.1.1, (to, came.1.2, refl)))
    ]

    undropped : (xs : List ℕ) (next i x : ℕ) → slice_get (drop next xs) i ≡ Some x → slice_get xs (next + i) ≡ Some x
    undropped xs zero i x h = ap (slice_get xs) (omega arith) ∙ h
    undropped [] (suc next) i x h = cc
    undropped (y ∷ xs) (suc next) i x h =
        let same : suc next + i ≡ suc (next + i) = omega arith in
        ap (slice_get (y ∷ xs)) same ∙ undropped xs next i x h

    root : (old : List ℕ) (i at : ℕ) → old ≡ 0 ∷ [] → slice_get old i ≡ Some at → at ≡ 0
    root old i at is h = by i (ap (λ xs. slice_get xs i) (sym is) ∙ h)
      where
        by : (j : ℕ) → slice_get (0 ∷ []) j ≡ Some at → at ≡ 0
        by zero e = sym (some_same 0 at e)
        by (suc j) e = cc

    pub all_fit : (t : Tree) (next : ℕ) (old new rest : List ℕ) → old ≡ 0 ∷ [] → rest ≡ drop next new → Comes nodes below above t 0 old next new → AllFit nodes below above t rest
    all_fit t next old new rest is cut so i to h =
        let there : next ≤ next + i = omega arith in
        let term = so to (next + i, there, undropped new next i to (ap (λ xs. slice_get xs i) (sym cut) ∙ h)) in
        (term.0, term.1, subst (λ at. Leads nodes at (path_of term.0) to) (root old term.2.1.0 term.2.0 is term.2.1.2) term.2.2)
