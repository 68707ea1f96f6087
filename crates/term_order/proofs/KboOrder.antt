-- The Knuth-Bendix order is an order, and instances are ordered as their terms are.
use Rattle.std.proofs.Common.{◌≡◌, ℕ, zero, suc, ◌+◌, ◌-◌, ◌<◌, ◌≤◌, Bool, true, false, ◌==◌, ◌&&◌, ◌||◌, if◌then◌else◌, inl, inr, refl, sym, ap, ◌∙◌, subst, eq-eqb, eqb-true, arith}
use Rattle.std.specs.Prelude.{nat_lt}
use Rattle.std.proofs.lemmas.Bool.Decides.{nat_tests}
use Rattle.fol_core.specs.Substitutions.{Substitution, substitute, substitute_all}
use Rattle.fol_core.specs.Tree.{Tree, var, elem, app, Trees, none, more, nodes, nodes_of}
use Rattle.term_order.specs.Kbo.{times_in, times_in_all, none_oftener_all, weigh, weigh_all, kbo_greater, kbo_first}
use Rattle.term_order.specs.Laws.{IsSymbolOrder}
use Rattle.term_order.proofs.Occurrences.{HasEach, each_from, each_test, each_put, once_all, stands_all, places_in, places_in_all, total, total_both, places_grow, place_counts, times_put_all}
use Rattle.term_order.proofs.Tests.{split_and, split_or, both_and, left_or, right_or, same_from}
use Rattle.unifiers.specs.Matching.{same_tree}
use Rattle.unifiers.proofs.MatchesFound.{tree_same}

module _ (above : ℕ → ℕ → Bool) (weight : ℕ → ℕ) where
  abbrev pub Outweighs : Tree → Tree → Type 0
  Outweighs s t = kbo_greater above weight s t ≡ true

  abbrev pub weight_in : Tree → ℕ
  weight_in t = weigh weight t

  abbrev pub weights_in : Trees → ℕ
  weights_in ts = weigh_all weight ts

  abbrev pub FirstOutweighs : Trees → Trees → Type 0
  FirstOutweighs ss ts = kbo_first above weight ss ts ≡ true

  -- what decides between two applications
  pub data Decides (f : ℕ) (ss : Trees) (g : ℕ) (ts : Trees) : Type 0 where
    heavier : weight_in (app g ts) < weight_in (app f ss) → Decides f ss g ts
    by_head : weight_in (app f ss) ≡ weight_in (app g ts) → above f g ≡ true → Decides f ss g ts
    by_first : weight_in (app f ss) ≡ weight_in (app g ts) → f ≡ g → FirstOutweighs ss ts → Decides f ss g ts

  pub why : (f : ℕ) (ss : Trees) (g : ℕ) (ts : Trees) → Outweighs (app f ss) (app g ts) → HasEach ss ts × Decides f ss g ts
  why f ss g ts h =
      let p = split_and (none_oftener_all ss ts ts) _ h in (
        each_from ss ts p.0,
        elim (split_or (nat_lt (weight_in (app g ts)) (weight_in (app f ss))) _ p.1) [
          | inl i ↦ heavier (grind (arith, nat_tests, i))
          | inr i ↦ let q = split_and (weight_in (app f ss) == weight_in (app g ts)) _ i in
              let same = eqb-true (weight_in (app f ss)) (weight_in (app g ts)) q.0 in
              elim (split_or (above f g) (f == g && kbo_first above weight ss ts) q.1) [
                | inl j ↦ by_head same j
                | inr j ↦ let r = split_and (f == g) (kbo_first above weight ss ts) j in by_first same (eqb-true f g r.0) r.1
              ]
        ],
      )

  pub because : (f : ℕ) (ss : Trees) (g : ℕ) (ts : Trees) → HasEach ss ts → Decides f ss g ts → Outweighs (app f ss) (app g ts)
  because f ss g ts e d = both_and (none_oftener_all ss ts ts) _ (each_test ss ts e) (by d)
    where
      lighter : Bool
      lighter = nat_lt (weight_in (app g ts)) (weight_in (app f ss))

      equal : Bool
      equal = weight_in (app f ss) == weight_in (app g ts)

      by : Decides f ss g ts → (lighter || (equal && (above f g || (f == g && kbo_first above weight ss ts)))) ≡ true
      by (heavier i) = left_or lighter _ (grind (arith, nat_tests, i))
      by (by_head i j) = right_or lighter _ (both_and equal _ (eq-eqb (weight_in (app f ss)) (weight_in (app g ts)) i) (left_or (above f g) _ j))
      by (by_first i j k) = right_or lighter _ (both_and equal _ (eq-eqb (weight_in (app f ss)) (weight_in (app g ts)) i) (right_or (above f g) _ (both_and (f == g) _ (eq-eqb f g j) k)))

  module _ (order : IsSymbolOrder above) where
    mutual
      pub not_itself : (t : Tree) → Outweighs t t → ⊥
      not_itself (var x) h = cc
      not_itself (elem k) h = cc
      not_itself (app f ss) h = elim ((why f ss f ss h).1) [
        | heavier i ↦ (let no : ⊥ = omega (arith, i) in no)
        | by_head i j ↦ (let k = order.irreflexive f in cc)
        | by_first i j k ↦ not_first ss k
      ]

      not_first : (ss : Trees) → FirstOutweighs ss ss → ⊥
      not_first none h = cc
      not_first (more s ss) h = by (λ k. not_first ss k) (λ k. not_itself s k) (same_tree s s) h
        where
          by : (FirstOutweighs ss ss → ⊥) → (Outweighs s s → ⊥) → (b : Bool)
              → (if b then kbo_first above weight ss ss else kbo_greater above weight s s) ≡ true → ⊥
          by behind here true k = behind k
          by behind here false k = here k

    pub itself : (t : Tree) → kbo_greater above weight t t ≡ false
    itself t = by (kbo_greater above weight t t) refl
      where
        by : (b : Bool) → kbo_greater above weight t t ≡ b → b ≡ false
        by true i = elim (not_itself t i) [ ]
        by false i = refl

    first_onward : (ss ts us : Trees) → ((s t u : Tree) → nodes s ≤ nodes_of ss → Outweighs s t → Outweighs t u → Outweighs s u)
        → FirstOutweighs ss ts → FirstOutweighs ts us → FirstOutweighs ss us
    first_onward none ts us on h k = cc
    first_onward (more s ss) none us on h k = cc
    first_onward (more s ss) (more t ts) none on h k = cc
    first_onward (more s ss) (more t ts) (more u us) on h k =
        by (first_onward ss ts us (λ x y z b. on x y z (omega (arith, b)))) (same_tree s t) refl (same_tree t u) refl (same_tree s u) refl h k
      where
        by : (FirstOutweighs ss ts → FirstOutweighs ts us → FirstOutweighs ss us) → (a : Bool) → same_tree s t ≡ a → (b : Bool) → same_tree t u ≡ b
            → (c : Bool) → same_tree s u ≡ c
            → (if a then kbo_first above weight ss ts else kbo_greater above weight s t) ≡ true
            → (if b then kbo_first above weight ts us else kbo_greater above weight t u) ≡ true
            → (if c then kbo_first above weight ss us else kbo_greater above weight s u) ≡ true
        by rest true i true j true l h k = rest h k
        by rest true i true j false l h k = (let e = same_from s u (tree_same s t i ∙ tree_same t u j) in cc)
        by rest true i false j true l h k = (let e = same_from t u (sym (tree_same s t i) ∙ tree_same s u l) in cc)
        by rest true i false j false l h k = subst (λ (x : Tree). Outweighs x u) (sym (tree_same s t i)) k
        by rest false i true j true l h k = (let e = same_from s t (tree_same s u l ∙ sym (tree_same t u j)) in cc)
        by rest false i true j false l h k = subst (λ (x : Tree). Outweighs s x) (tree_same t u j) h
        by rest false i false j true l h k =
            elim (not_itself s (on s t s (omega arith) h (subst (λ (x : Tree). Outweighs t x) (sym (tree_same s u l)) k))) [ ]
        by rest false i false j false l h k = on s t u (omega arith) h k

    decides_onward : (f : ℕ) (ss : Trees) (g : ℕ) (ts : Trees) (h : ℕ) (us : Trees)
        → (FirstOutweighs ss ts → FirstOutweighs ts us → FirstOutweighs ss us) → Decides f ss g ts → Decides g ts h us → Decides f ss h us
    decides_onward f ss g ts h us on (heavier i) (heavier j) = heavier (omega (arith, i, j))
    decides_onward f ss g ts h us on (heavier i) (by_head j k) = heavier (omega (arith, i, j))
    decides_onward f ss g ts h us on (heavier i) (by_first j k l) = heavier (omega (arith, i, j))
    decides_onward f ss g ts h us on (by_head i a) (heavier j) = heavier (omega (arith, i, j))
    decides_onward f ss g ts h us on (by_head i a) (by_head j b) = by_head (i ∙ j) (order.transitive f g h a b)
    decides_onward f ss g ts h us on (by_head i a) (by_first j e l) = by_head (i ∙ j) (subst (λ (x : ℕ). above f x ≡ true) e a)
    decides_onward f ss g ts h us on (by_first i e l) (heavier j) = heavier (omega (arith, i, j))
    decides_onward f ss g ts h us on (by_first i e l) (by_head j b) = by_head (i ∙ j) (subst (λ (x : ℕ). above x h ≡ true) (sym e) b)
    decides_onward f ss g ts h us on (by_first i e l) (by_first j d k) = by_first (i ∙ j) (e ∙ d) (on l k)

    onward_by : (n : ℕ) (s t u : Tree) → nodes s < n → Outweighs s t → Outweighs t u → Outweighs s u
    onward_by zero s t u b h k = (let no : ⊥ = omega (arith, b) in elim no [ ])
    onward_by (suc n) (var x) t u b h k = cc
    onward_by (suc n) (elem x) t u b h k = cc
    onward_by (suc n) (app f ss) (var y) u b h k = cc
    onward_by (suc n) (app f ss) (elem y) u b h k = cc
    onward_by (suc n) (app f ss) (app g ts) (var z) b h k =
        let e = (why f ss g ts h).0 in let o = once_all z ts k in
        stands_all z ss (let c = e z in omega (arith, c, o))
    onward_by (suc n) (app f ss) (app g ts) (elem z) b h k = refl
    onward_by (suc n) (app f ss) (app g ts) (app i us) b h k =
        let p = why f ss g ts h in let q = why g ts i us k in
        because f ss i us (λ z. (let c = p.0 z in let d = q.0 z in omega (arith, c, d)))
        (decides_onward f ss g ts i us (first_onward ss ts us (λ x y z c l m. onward_by n x y z (omega (arith, b, c)) l m)) p.1 q.1)

    pub onward : (s t u : Tree) → Outweighs s t → Outweighs t u → Outweighs s u
    onward s t u h k = onward_by (suc (nodes s)) s t u (omega arith) h k

  -- instances, where each symbol weighs at least 1
  module _ (heavy : (f : ℕ) → 1 ≤ weight f) where
    pub weighs_one : (t : Tree) → 1 ≤ weight_in t
    weighs_one (var x) = omega arith
    weighs_one (elem k) = omega arith
    weighs_one (app f ts) = (let h = heavy f in omega (arith, h))

    module _ (p : Substitution) where
      abbrev extra : ℕ → ℕ
      extra x = weight_in (p x) - 1

      mutual
        weigh_put : (t : Tree) → weight_in (substitute p t) ≡ weight_in t + total extra (places_in t)
        weigh_put (var x) = (let h = weighs_one (p x) in omega (arith, h))
        weigh_put (elem k) = refl
        weigh_put (app f ts) = (let h = weigh_put_all ts in omega (arith, h))

        weigh_put_all : (ts : Trees) → weights_in (substitute_all p ts) ≡ weights_in ts + total extra (places_in_all ts)
        weigh_put_all none = refl
        weigh_put_all (more t ts) =
            (let h = weigh_put t in let k = weigh_put_all ts in let b = total_both extra (places_in t) (places_in_all ts) in omega (arith, h, k, b))

      has_weight : (y : ℕ) (ss : Trees) → 1 ≤ times_in_all y ss → 1 ≤ weights_in ss
      has_weight y none h = (let no : ⊥ = omega (arith, h) in elim no [ ])
      has_weight y (more s ss) h = (let k = weighs_one s in omega (arith, k))

      -- what stands for a variable of an application is below its instance
      below_instance : (f : ℕ) (ss : Trees) (y : ℕ) (u : Tree) → p y ≡ u → 1 ≤ times_in_all y ss → Outweighs (app f (substitute_all p ss)) u
      below_instance f ss y (var z) e h =
          let c = place_counts (λ x. times_in z (p x)) ss y h in let d = times_put_all p z ss in
          let own : times_in z (p y) ≡ 1 = ap (times_in z) e ∙ ap (λ (b : Bool). if b then 1 else 0) (eq-eqb z z refl) in
          stands_all z (substitute_all p ss) (omega (arith, c, d, own))
      below_instance f ss y (elem k) e h = refl
      below_instance f ss y (app g vs) e h =
          because f (substitute_all p ss) g vs (λ z. each z (place_counts (λ x. times_in z (p x)) ss y h) (times_put_all p z ss) (ap (times_in z) e))
          (heavier (by (weigh_put_all ss) (place_counts extra ss y h) (has_weight y ss h) (ap weight_in e) (heavy f) (weighs_one (p y))))
        where
          each : (z : ℕ) → times_in z (p y) ≤ total (λ x. times_in z (p x)) (places_in_all ss)
              → times_in_all z (substitute_all p ss) ≡ total (λ x. times_in z (p x)) (places_in_all ss) → times_in z (p y) ≡ times_in_all z vs
              → times_in_all z vs ≤ times_in_all z (substitute_all p ss)
          each z a b c = omega (arith, a, b, c)

          by : weights_in (substitute_all p ss) ≡ weights_in ss + total extra (places_in_all ss) → weight_in (p y) - 1 ≤ total extra (places_in_all ss)
              → 1 ≤ weights_in ss → weight_in (p y) ≡ weight_in (app g vs) → 1 ≤ weight f → 1 ≤ weight_in (p y)
              → weight_in (app g vs) < weight_in (app f (substitute_all p ss))
          by a b c d e k = omega (arith, a, b, c, d, e, k)

      first_stays : IsSymbolOrder above → (ss ts : Trees) → ((s t : Tree) → nodes s ≤ nodes_of ss → Outweighs s t → Outweighs (substitute p s) (substitute p t))
          → FirstOutweighs ss ts → FirstOutweighs (substitute_all p ss) (substitute_all p ts)
      first_stays order none ts on h = cc
      first_stays order (more s ss) none on h = cc
      first_stays order (more s ss) (more t ts) on h =
          by (first_stays order ss ts (λ x y b. on x y (omega (arith, b)))) (same_tree s t) refl (same_tree (substitute p s) (substitute p t)) refl h
        where
          by : (FirstOutweighs ss ts → FirstOutweighs (substitute_all p ss) (substitute_all p ts)) → (a : Bool) → same_tree s t ≡ a
              → (b : Bool) → same_tree (substitute p s) (substitute p t) ≡ b
              → (if a then kbo_first above weight ss ts else kbo_greater above weight s t) ≡ true
              → (if b then kbo_first above weight (substitute_all p ss) (substitute_all p ts) else kbo_greater above weight (substitute p s) (substitute p t)) ≡ true
          by rest true i true j h = rest h
          by rest true i false j h = (let e = same_from (substitute p s) (substitute p t) (ap (substitute p) (tree_same s t i)) in cc)
          by rest false i true j h =
              elim (not_itself order (substitute p s) (subst (λ (x : Tree). Outweighs (substitute p s) x) (sym (tree_same (substitute p s) (substitute p t) j)) (on s t (omega arith) h))) [ ]
          by rest false i false j h = on s t (omega arith) h

      decides_stays : (f : ℕ) (ss : Trees) (g : ℕ) (ts : Trees) → HasEach ss ts
          → (FirstOutweighs ss ts → FirstOutweighs (substitute_all p ss) (substitute_all p ts)) → Decides f ss g ts
          → Decides f (substitute_all p ss) g (substitute_all p ts)
      decides_stays f ss g ts each on d = by d (places_grow extra ss ts each) (weigh_put_all ss) (weigh_put_all ts)
        where
          sums : ℕ
          sums = total extra (places_in_all ss)

          again : (a b : ℕ) → a ≡ weight_in (app f (substitute_all p ss)) → b ≡ weight_in (app g (substitute_all p ts)) → b ≤ a
              → (a ≡ b → Decides f (substitute_all p ss) g (substitute_all p ts)) → Decides f (substitute_all p ss) g (substitute_all p ts)
          again a b i j k same = cases (b == a) refl
            where
              cases : (c : Bool) → (b == a) ≡ c → Decides f (substitute_all p ss) g (substitute_all p ts)
              cases true l = same (sym (eqb-true b a l))
              cases false l = heavier (grind (arith, nat_tests, i, j, k, l))

          by : Decides f ss g ts → total extra (places_in_all ts) ≤ total extra (places_in_all ss)
              → weights_in (substitute_all p ss) ≡ weights_in ss + total extra (places_in_all ss)
              → weights_in (substitute_all p ts) ≡ weights_in ts + total extra (places_in_all ts)
              → Decides f (substitute_all p ss) g (substitute_all p ts)
          by (heavier i) less a b = heavier (omega (arith, i, less, a, b))
          by (by_head i j) less a b =
              again (weight_in (app f (substitute_all p ss))) (weight_in (app g (substitute_all p ts))) refl refl (omega (arith, i, less, a, b)) (λ same. by_head same j)
          by (by_first i j k) less a b =
              again (weight_in (app f (substitute_all p ss))) (weight_in (app g (substitute_all p ts))) refl refl (omega (arith, i, less, a, b)) (λ same. by_first same j (on k))

      stays_by : IsSymbolOrder above → (n : ℕ) (s t : Tree) → nodes s < n → Outweighs s t → Outweighs (substitute p s) (substitute p t)
      stays_by order zero s t b h = (let no : ⊥ = omega (arith, b) in elim no [ ])
      stays_by order (suc n) (var x) t b h = cc
      stays_by order (suc n) (elem k) t b h = cc
      stays_by order (suc n) (app f ss) (var y) b h = below_instance f ss y (p y) refl (once_all y ss h)
      stays_by order (suc n) (app f ss) (elem k) b h = refl
      stays_by order (suc n) (app f ss) (app g ts) b h =
          let q = why f ss g ts h in
          because f (substitute_all p ss) g (substitute_all p ts) (each_put p ss ts q.0)
          (decides_stays f ss g ts q.0 (first_stays order ss ts (λ s t c l. stays_by order n s t (omega (arith, b, c)) l)) q.1)

      pub stays : IsSymbolOrder above → (s t : Tree) → Outweighs s t → Outweighs (substitute p s) (substitute p t)
      stays order s t h = stays_by order (suc (nodes s)) s t (omega arith) h
