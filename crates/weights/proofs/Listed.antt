-- The terms in terms, one after the other.
use Rattle.std.proofs.Common.{◌≡◌, ℕ, zero, suc, ◌+◌, ◌<◌, ◌≤◌, ◌⊎◌, inl, inr, ◌==◌, ◌||◌, ◌↔◌, IsTrue, Bool, true, false, if◌then◌else◌, List, [], ◌∷◌, ◌++◌, length, get_or, drop, map, Option, Some, None, refl, sym, ap, ap₂, subst, ◌∙◌, arith}
use Rattle.std.specs.Option.{option_and_then}
use Rattle.std.proofs.lemmas.Bool.{false_from_ne_true}
use Rattle.std.proofs.lemmas.List.{drop_all, length-append, length-map}
use Rattle.std.proofs.lemmas.Option.{none-some, same_Some}
use Rattle.fol_core.specs.Sizes.{size_of, sizes_of}
use Rattle.fol_core.specs.TermView.{tree_of, tree_list}
use Rattle.fol_core.specs.Tree.{Tree, var, elem, app, Trees, none, more, trees_of}
use Rattle.fol_core.specs.declared.term.Term.{Term}
use Rattle.substitutions.specs.Bindings.{Binding}
use Rattle.unifiers.specs.Matching.{same_tree, bound_term, bound_to, matched, matched_all}
use Rattle.unifiers.proofs.MatchesFound.{tree_same, same_itself}
use Rattle.weights.specs.Parts.{parts, parts_of, stands_among, place_among}
use Rattle.weights.proofs.Items.{next}

mutual
  pub parts_length : (t : Tree) → length (parts t) ≡ size_of t
  parts_length (var x) = refl
  parts_length (elem k) = refl
  parts_length (app f ts) = length-append (parts_of ts) (app f ts ∷ []) ∙ ap (λ n. n + 1) (parts_of_length ts)

  pub parts_of_length : (ts : Trees) → length (parts_of ts) ≡ sizes_of ts
  parts_of_length none = refl
  parts_of_length (more t ts) = length-append (parts t) (parts_of ts) ∙ ap₂ (λ m n. m + n) (parts_length t) (parts_of_length ts)

-- among some terms, and others behind them
among_first : (ps qs : List Tree) (u : Tree) → stands_among ps u ≡ true → stands_among (ps ++ qs) u ≡ true
among_first [] qs u h = cc
among_first (p ∷ ps) qs u h = by (same_tree p u) h (λ e. among_first ps qs u e)
  where
    by : (b : Bool) → (b || stands_among ps u) ≡ true → (stands_among ps u ≡ true → stands_among (ps ++ qs) u ≡ true) → (b || stands_among (ps ++ qs) u) ≡ true
    by true h rest = refl
    by false h rest = rest h

place_first : (ps qs : List Tree) (u : Tree) → stands_among ps u ≡ true → place_among (ps ++ qs) u ≡ place_among ps u
place_first [] qs u h = cc
place_first (p ∷ ps) qs u h = by (same_tree p u) h (λ e. place_first ps qs u e)
  where
    by : (b : Bool) → (b || stands_among ps u) ≡ true → (stands_among ps u ≡ true → place_among (ps ++ qs) u ≡ place_among ps u) → (if b then 0 else 1 + place_among (ps ++ qs) u) ≡ (if b then 0 else 1 + place_among ps u)
    by true h rest = refl
    by false h rest = ap (λ n. 1 + n) (rest h)

among_second : (ps qs : List Tree) (u : Tree) → stands_among ps u ≡ false → stands_among (ps ++ qs) u ≡ stands_among qs u
among_second [] qs u h = refl
among_second (p ∷ ps) qs u h = by (same_tree p u) h (λ e. among_second ps qs u e)
  where
    by : (b : Bool) → (b || stands_among ps u) ≡ false → (stands_among ps u ≡ false → stands_among (ps ++ qs) u ≡ stands_among qs u) → (b || stands_among (ps ++ qs) u) ≡ stands_among qs u
    by true h rest = cc
    by false h rest = rest h

place_second : (ps qs : List Tree) (u : Tree) → stands_among ps u ≡ false → place_among (ps ++ qs) u ≡ place_among ps u + place_among qs u
place_second [] qs u h = omega arith
place_second (p ∷ ps) qs u h = by (same_tree p u) h (λ e. place_second ps qs u e)
  where
    by : (b : Bool) → (b || stands_among ps u) ≡ false → (stands_among ps u ≡ false → place_among (ps ++ qs) u ≡ place_among ps u + place_among qs u) → (if b then 0 else 1 + place_among (ps ++ qs) u) ≡ (if b then 0 else 1 + place_among ps u) + place_among qs u
    by true h rest = cc
    by false h rest = let more : place_among (ps ++ qs) u ≡ place_among ps u + place_among qs u = rest h in omega (arith, more)

pub same_is : (b : Bool) (t u : Tree) → IsTrue b ↔ (t ≡ u) → b ≡ same_tree t u
same_is true t u h = sym (subst (λ v. IsTrue (same_tree t v)) (h.0 refl) (same_itself t))
same_is false t u h = sym (false_from_ne_true (same_tree t u) (λ e. let is = h.1 (tree_same t u e) in cc))

-- an application stands behind the terms in its arguments
pub among_arguments : (t u : Tree) (f : ℕ) (ts : Trees) → t ≡ app f ts → stands_among (parts_of ts) u ≡ true → stands_among (parts t) u ≡ true
among_arguments t u f ts is h = ap (λ v. stands_among (parts v) u) is ∙ among_first (parts_of ts) (app f ts ∷ []) u h

pub place_in_arguments : (t u : Tree) (f : ℕ) (ts : Trees) → t ≡ app f ts → stands_among (parts_of ts) u ≡ true → place_among (parts t) u ≡ place_among (parts_of ts) u
place_in_arguments t u f ts is h = ap (λ v. place_among (parts v) u) is ∙ place_first (parts_of ts) (app f ts ∷ []) u h

or_false : (b : Bool) → (b || false) ≡ b
or_false true = refl
or_false false = refl

alone : (b : Bool) → (if b then 0 else 1 + 0) ≡ (if b then 0 else 1)
alone true = refl
alone false = refl

pub among_all : (t u : Tree) (f : ℕ) (ts : Trees) → t ≡ app f ts → stands_among (parts_of ts) u ≡ false → stands_among (parts t) u ≡ same_tree t u
among_all t u f ts is h = ap (λ v. stands_among (parts v) u) is ∙ among_second (parts_of ts) (app f ts ∷ []) u h ∙ or_false (same_tree (app f ts) u) ∙ ap (λ v. same_tree v u) (sym is)

pub place_in_all : (t u : Tree) (f : ℕ) (ts : Trees) → t ≡ app f ts → stands_among (parts_of ts) u ≡ false → place_among (parts t) u ≡ place_among (parts_of ts) u + (if same_tree t u then 0 else 1)
place_in_all t u f ts is h =
    ap (λ v. place_among (parts v) u) is ∙ place_second (parts_of ts) (app f ts ∷ []) u h ∙ ap (λ n. place_among (parts_of ts) u + n) (alone (same_tree (app f ts) u) ∙ ap (λ v. if same_tree v u then 0 else 1) (sym is))

pub among_leaf : (t u : Tree) (b : Bool) → parts t ≡ t ∷ [] → b ≡ same_tree t u → b ≡ stands_among (parts t) u
among_leaf t u b is h = h ∙ sym (ap (λ ps. stands_among ps u) is ∙ or_false (same_tree t u))

pub place_leaf : (t u : Tree) (b : Bool) (old new : ℕ) → parts t ≡ t ∷ [] → b ≡ same_tree t u → new ≡ old + (if b then 0 else 1) → new ≡ old + place_among (parts t) u
place_leaf t u b old new is h e = e ∙ ap (λ n. old + n) (ap (λ d. if d then 0 else 1) h ∙ sym (ap (λ ps. place_among ps u) is ∙ alone (same_tree t u)))

-- from one term on
abbrev pub parts_from : List Term → ℕ → List Tree
parts_from ts i = parts_of (trees_of (tree_list (drop i ts)))

parts_step : (ts : List Term) (i : ℕ) (t : Term) → i < length ts → t ≡ get_or ts i t → parts_from ts i ≡ parts (tree_of t) ++ parts_from ts (i + 1)
parts_step ts i t h is = ap (λ us. parts_of (trees_of (tree_list us))) (next ts i t h is)

pub parts_end : (ts : List Term) (i : ℕ) → length ts ≤ i → parts_from ts i ≡ []
parts_end ts i h = ap (λ us. parts_of (trees_of (tree_list us))) (drop_all i ts h)

pub sizes_step : (ts : List Term) (i : ℕ) (t : Term) → i < length ts → t ≡ get_or ts i t → sizes_of (trees_of (tree_list (drop i ts))) ≡ size_of (tree_of t) + sizes_of (trees_of (tree_list (drop (i + 1) ts)))
sizes_step ts i t h is = ap (λ us. sizes_of (trees_of (tree_list us))) (next ts i t h is)

pub sizes_end : (ts : List Term) (i : ℕ) → length ts ≤ i → sizes_of (trees_of (tree_list (drop i ts))) ≡ 0
sizes_end ts i h = ap (λ us. sizes_of (trees_of (tree_list us))) (drop_all i ts h)

-- one term is no larger than all together
pub size_within : (ts : List Term) (i : ℕ) (t : Term) → i < length ts → t ≡ get_or ts i t → size_of (tree_of t) ≤ sizes_of (trees_of (tree_list ts))
size_within [] i t h is = absurd (omega (arith, h))
size_within (s ∷ ts) zero t h is = let same : size_of (tree_of t) ≡ size_of (tree_of s) = ap (λ u. size_of (tree_of u)) is in omega (arith, same)
size_within (s ∷ ts) (suc i) t h is = let rest = size_within ts i t (omega (arith, h)) is in omega (arith, rest)

module _ (ts : List Term) (i : ℕ) (t : Term) (u : Tree) (h : i < length ts) (is : t ≡ get_or ts i t) where
  pub some_here : stands_among (parts (tree_of t)) u ≡ true → stands_among (parts_from ts i) u ≡ true
  some_here e = ap (λ ps. stands_among ps u) (parts_step ts i t h is) ∙ among_first (parts (tree_of t)) (parts_from ts (i + 1)) u e

  pub place_here : stands_among (parts (tree_of t)) u ≡ true → place_among (parts_from ts i) u ≡ place_among (parts (tree_of t)) u
  place_here e = ap (λ ps. place_among ps u) (parts_step ts i t h is) ∙ place_first (parts (tree_of t)) (parts_from ts (i + 1)) u e

  pub some_behind : stands_among (parts (tree_of t)) u ≡ false → stands_among (parts_from ts i) u ≡ stands_among (parts_from ts (i + 1)) u
  some_behind e = ap (λ ps. stands_among ps u) (parts_step ts i t h is) ∙ among_second (parts (tree_of t)) (parts_from ts (i + 1)) u e

  pub place_behind : stands_among (parts (tree_of t)) u ≡ false → place_among (parts_from ts i) u ≡ place_among (parts (tree_of t)) u + place_among (parts_from ts (i + 1)) u
  place_behind e = ap (λ ps. place_among ps u) (parts_step ts i t h is) ∙ place_second (parts (tree_of t)) (parts_from ts (i + 1)) u e

at_most_size : (ps : List Tree) (u : Tree) → place_among ps u ≤ length ps
at_most_size [] u = omega arith
at_most_size (p ∷ ps) u = by (same_tree p u) (at_most_size ps u)
  where
    by : (b : Bool) → place_among ps u ≤ length ps → (if b then 0 else 1 + place_among ps u) ≤ suc (length ps)
    by true h = omega arith
    by false h = omega (arith, h)

pub places_within : (ts : Trees) (u : Tree) → place_among (parts_of ts) u ≤ sizes_of ts
places_within ts u = let most : place_among (parts_of ts) u ≤ length (parts_of ts) = at_most_size (parts_of ts) u in let same : length (parts_of ts) ≡ sizes_of ts = parts_of_length ts in omega (arith, most, same)

pub place_within : (t u : Tree) → place_among (parts t) u ≤ size_of t
place_within t u = let most : place_among (parts t) u ≤ length (parts t) = at_most_size (parts t) u in let same : length (parts t) ≡ size_of t = parts_length t in omega (arith, most, same)

-- a term among others has its weight at its place
pub listed : (f : Tree → ℕ) (ps : List Tree) (u : Tree) → stands_among ps u ≡ true → get_or (map f ps) (place_among ps u) 1 ≡ f u
listed f [] u h = cc
listed f (p ∷ ps) u h = by (same_tree p u) refl h (λ e. listed f ps u e)
  where
    by : (b : Bool) → same_tree p u ≡ b → (b || stands_among ps u) ≡ true → (stands_among ps u ≡ true → get_or (map f ps) (place_among ps u) 1 ≡ f u) → get_or (f p ∷ map f ps) (if b then 0 else 1 + place_among ps u) 1 ≡ f u
    by true e h rest = ap f (tree_same p u e)
    by false e h rest = let next : 1 + place_among ps u ≡ suc (place_among ps u) = omega arith in ap (λ n. get_or (f p ∷ map f ps) n 1) next ∙ rest h

-- what stands for a variable is a term in the arguments
among_last : (ps qs : List Tree) (u : Tree) → stands_among qs u ≡ true → stands_among (ps ++ qs) u ≡ true
among_last [] qs u h = h
among_last (p ∷ ps) qs u h = by (same_tree p u) (among_last ps qs u h)
  where
    by : (b : Bool) → stands_among (ps ++ qs) u ≡ true → (b || stands_among (ps ++ qs) u) ≡ true
    by true h = refl
    by false h = h

itself : (t : Tree) → stands_among (parts t) t ≡ true
itself (var x) = ap (λ b. b || false) (same_itself (var x))
itself (elem k) = ap (λ b. b || false) (same_itself (elem k))
itself (app f ts) = among_last (parts_of ts) (app f ts ∷ []) (app f ts) (ap (λ b. b || false) (same_itself (app f ts)))

either : (bs cs : List Binding) (x : ℕ) (u : Tree) (P : Type 0) → bound_term (bs ++ cs) x ≡ Some u → (bound_term bs x ≡ Some u → P) → (bound_term cs x ≡ Some u → P) → P
either [] cs x u P h first second = second h
either (b ∷ bs) cs x u P h first second = by (x == b.0) h first (λ e f. either bs cs x u P e f second)
  where
    by : (d : Bool) → (if d then Some b.1 else bound_term (bs ++ cs) x) ≡ Some u → ((if d then Some b.1 else bound_term bs x) ≡ Some u → P) → (bound_term (bs ++ cs) x ≡ Some u → (bound_term bs x ≡ Some u → P) → P) → P
    by true h first rest = first h
    by false h first rest = rest h first

mutual
  bound_in : (s t : Tree) (bs cs : List Binding) (x : ℕ) (u : Tree) → matched s t bs ≡ Some cs → bound_term cs x ≡ Some u → (bound_term bs x ≡ Some u) ⊎ (stands_among (parts t) u ≡ true)
  bound_in (var y) t bs cs x u e h = by (bound_term bs y) e
    where
      by : (o : Option Tree) → bound_to o y t bs ≡ Some cs → (bound_term bs x ≡ Some u) ⊎ (stands_among (parts t) u ≡ true)
      by None d =
          either bs ((y, t) ∷ []) x u ((bound_term bs x ≡ Some u) ⊎ (stands_among (parts t) u ≡ true))
          (ap (λ ds. bound_term ds x) (same_Some _ _ d) ∙ h) (λ f. inl f) (λ f. new (x == y) f)
        where
          new : (b : Bool) → (if b then Some t else None) ≡ Some u → (bound_term bs x ≡ Some u) ⊎ (stands_among (parts t) u ≡ true)
          new true f = inr (subst (λ v. stands_among (parts t) v ≡ true) (same_Some t u f) (itself t))
          new false f = absurd (none-some u f)
      by (Some v) d = old (same_tree v t) d
        where
          old : (b : Bool) → (if b then Some bs else None) ≡ Some cs → (bound_term bs x ≡ Some u) ⊎ (stands_among (parts t) u ≡ true)
          old true f = inl (ap (λ ds. bound_term ds x) (same_Some bs cs f) ∙ h)
          old false f = absurd (none-some cs f)
  bound_in (elem k) (var y) bs cs x u e h = absurd (none-some cs e)
  bound_in (elem k) (elem n) bs cs x u e h = by (k == n) e
    where
      by : (b : Bool) → (if b then Some bs else None) ≡ Some cs → (bound_term bs x ≡ Some u) ⊎ (stands_among (parts (elem n)) u ≡ true)
      by true f = inl (ap (λ ds. bound_term ds x) (same_Some bs cs f) ∙ h)
      by false f = absurd (none-some cs f)
  bound_in (elem k) (app g ts) bs cs x u e h = absurd (none-some cs e)
  bound_in (app f ss) (var y) bs cs x u e h = absurd (none-some cs e)
  bound_in (app f ss) (elem n) bs cs x u e h = absurd (none-some cs e)
  bound_in (app f ss) (app g ts) bs cs x u e h = by (f == g) e (λ d. bound_among ss ts bs cs x u d h)
    where
      within : (bound_term bs x ≡ Some u) ⊎ (stands_among (parts_of ts) u ≡ true) → (bound_term bs x ≡ Some u) ⊎ (stands_among (parts (app g ts)) u ≡ true)
      within (inl d) = inl d
      within (inr d) = inr (among_first (parts_of ts) (app g ts ∷ []) u d)

      by : (b : Bool) → (if b then matched_all ss ts bs else None) ≡ Some cs → (matched_all ss ts bs ≡ Some cs → (bound_term bs x ≡ Some u) ⊎ (stands_among (parts_of ts) u ≡ true))
          → (bound_term bs x ≡ Some u) ⊎ (stands_among (parts (app g ts)) u ≡ true)
      by true d rest = within (rest d)
      by false d rest = absurd (none-some cs d)

  bound_among : (ss ts : Trees) (bs cs : List Binding) (x : ℕ) (u : Tree) → matched_all ss ts bs ≡ Some cs → bound_term cs x ≡ Some u → (bound_term bs x ≡ Some u) ⊎ (stands_among (parts_of ts) u ≡ true)
  bound_among none none bs cs x u e h = inl (ap (λ ds. bound_term ds x) (same_Some bs cs e) ∙ h)
  bound_among none (more t ts) bs cs x u e h = absurd (none-some cs e)
  bound_among (more s ss) none bs cs x u e h = absurd (none-some cs e)
  bound_among (more s ss) (more t ts) bs cs x u e h = by (matched s t bs) e (λ ds d. bound_among ss ts ds cs x u d h) (λ ds d f. bound_in s t bs ds x u d f)
    where
      by : (o : Option (List Binding)) → option_and_then (λ ds. matched_all ss ts ds) o ≡ Some cs
          → ((ds : List Binding) → matched_all ss ts ds ≡ Some cs → (bound_term ds x ≡ Some u) ⊎ (stands_among (parts_of ts) u ≡ true))
          → ((ds : List Binding) → o ≡ Some ds → bound_term ds x ≡ Some u → (bound_term bs x ≡ Some u) ⊎ (stands_among (parts t) u ≡ true))
          → (bound_term bs x ≡ Some u) ⊎ (stands_among (parts t ++ parts_of ts) u ≡ true)
      by None d rest first = absurd (none-some cs d)
      by (Some ds) d rest first = either_way (rest ds d)
        where
          in_first : (bound_term bs x ≡ Some u) ⊎ (stands_among (parts t) u ≡ true) → (bound_term bs x ≡ Some u) ⊎ (stands_among (parts t ++ parts_of ts) u ≡ true)
          in_first (inl f) = inl f
          in_first (inr f) = inr (among_first (parts t) (parts_of ts) u f)

          either_way : (bound_term ds x ≡ Some u) ⊎ (stands_among (parts_of ts) u ≡ true) → (bound_term bs x ≡ Some u) ⊎ (stands_among (parts t ++ parts_of ts) u ≡ true)
          either_way (inl f) = in_first (first ds refl f)
          either_way (inr f) = inr (among_last (parts t) (parts_of ts) u f)

pub bound_stands : (ss ts : Trees) (cs : List Binding) (x : ℕ) (u : Tree) → matched_all ss ts [] ≡ Some cs → bound_term cs x ≡ Some u → stands_among (parts_of ts) u ≡ true
bound_stands ss ts cs x u e h = by (bound_among ss ts [] cs x u e h)
  where
    by : (bound_term [] x ≡ Some u) ⊎ (stands_among (parts_of ts) u ≡ true) → stands_among (parts_of ts) u ≡ true
    by (inl d) = absurd (none-some u d)
    by (inr d) = d

pub listed_length : (f : Tree → ℕ) (ts : Trees) → length (map f (parts_of ts)) ≡ sizes_of ts
listed_length f ts = length-map (parts_of ts) f ∙ parts_of_length ts
