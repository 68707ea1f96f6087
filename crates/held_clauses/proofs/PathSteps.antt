-- The path order on terms as they stand.
use Rattle.std.proofs.Common.{◌≡◌, ℕ, ◌+◌, ◌≤◌, Bool, true, false, ◌||◌, ◌&&◌, ◌==◌, List, [], ◌∷◌, ◌++◌, length, refl, sym, ap, ap₂, subst, ◌∙◌, arith}
use Rattle.std.proofs.lemmas.Bool.{false_from_ne_true}
use Rattle.fol_core.specs.TermView.{tree_of, tree_list}
use Rattle.fol_core.specs.Tree.{Tree, var, elem, app, Trees, trees_of, nodes, nodes_of}
use Rattle.fol_core.specs.declared.term.Term.{Term}
use Rattle.held_clauses.specs.Fronts.{DifferFirst, ArePastCommon, AreLastArguments}
use Rattle.term_order.specs.Compared.{is_greater_than_each}
use Rattle.term_order.specs.Lpo.{lpo_greater, some_at_least}
use Rattle.term_order.specs.Precedences.{stands_above}
use Rattle.term_order.specs.declared.precedence.SymbolRow.{SymbolRow}
use Rattle.term_order.proofs.Heads.{rows_order}
use Rattle.term_order.proofs.LpoOrder.{itself}
use Rattle.term_order.proofs.LpoCases.{each, above_case, below_case, short_case, long_case, other_case, greater_case}
use Rattle.unifiers.specs.Matching.{same_tree}
use Rattle.unifiers.proofs.MatchesFound.{tree_same, same_itself}

pub different : (s t : Tree) → (s ≡ t → ⊥) → same_tree s t ≡ false
different s t h = false_from_ne_true (same_tree s t) (λ e. h (tree_same s t e))

-- the front in common
differ_none : (vs : List Tree) → DifferFirst [] vs
differ_none vs = tt

differ_short : (us : List Tree) → DifferFirst us []
differ_short [] = tt
differ_short (u ∷ us) = tt

pub past_first : (ss ts : List Term) → length ss ≡ 0 → ArePastCommon (tree_list ss) (tree_list ts) (tree_list ss) (tree_list ts)
past_first [] ts e = record { front = []; first = refl; second = refl; differ = tt }
past_first (s ∷ ss) ts e = absurd (omega (arith, e))

pub past_second : (ss ts : List Term) → length ts ≡ 0 → ArePastCommon (tree_list ss) (tree_list ts) (tree_list ss) (tree_list ts)
past_second ss [] e = record { front = []; first = refl; second = refl; differ = differ_short (tree_list ss) }
past_second ss (t ∷ ts) e = absurd (omega (arith, e))

pub past_same : (ss ts us vs : List Term) (s t : Term) (xs ys : List Tree) → ss ≡ s ∷ us → ts ≡ t ∷ vs → tree_of s ≡ tree_of t → ArePastCommon (tree_list us) (tree_list vs) xs ys → ArePastCommon (tree_list ss) (tree_list ts) xs ys
past_same ss ts us vs s t xs ys is was same past = record {
  front = tree_of s ∷ past.front;
  first = ap tree_list is ∙ ap (λ rest. tree_of s ∷ rest) past.first;
  second = ap tree_list was ∙ ap₂ (λ u rest. u ∷ rest) (sym same) past.second;
  differ = past.differ;
}

pub past_other : (ss ts us vs : List Term) (s t : Term) → ss ≡ s ∷ us → ts ≡ t ∷ vs → (tree_of s ≡ tree_of t → ⊥) → ArePastCommon (tree_list ss) (tree_list ts) (tree_list ss) (tree_list ts)
past_other ss ts us vs s t is was other = record {
  front = [];
  first = refl;
  second = refl;
  differ = subst (λ xs. DifferFirst (tree_list xs) (tree_list ts)) (sym is) (subst (λ ys. DifferFirst (tree_list (s ∷ us)) (tree_list ys)) (sym was) (different (tree_of s) (tree_of t) other));
}

-- the arguments of two applications
pub last_arguments : (s t : Tree) (f g : ℕ) (ss ts us vs : List Tree) → s ≡ app f (trees_of ss) → t ≡ app g (trees_of ts) → f ≡ g → ArePastCommon ss ts us vs → AreLastArguments s us t vs
last_arguments s t f g ss ts us vs is was same past = record {
  head = f;
  front = past.front;
  first = is ∙ ap (λ xs. app f (trees_of xs)) past.first;
  second = was ∙ ap₂ (λ h xs. app h (trees_of xs)) (sym same) past.second;
  differ = past.differ;
}

-- how large parts are
pub some_nodes : (t : Tree) → 1 ≤ nodes t
some_nodes (var x) = omega arith
some_nodes (elem k) = omega arith
some_nodes (app f ts) = omega arith

pub first_nodes : (ss us : List Term) (s : Term) → ss ≡ s ∷ us → nodes (tree_of s) + nodes_of (trees_of (tree_list us)) ≡ nodes_of (trees_of (tree_list ss))
first_nodes ss us s is = sym (ap (λ xs. nodes_of (trees_of (tree_list xs))) is)

front_nodes : (front us : List Tree) → nodes_of (trees_of us) ≤ nodes_of (trees_of (front ++ us))
front_nodes [] us = omega arith
front_nodes (t ∷ front) us = let rest = front_nodes front us in omega (arith, rest)

pub left_nodes : (s t : Tree) (us vs : List Tree) → AreLastArguments s us t vs → nodes_of (trees_of us) + 2 ≤ nodes s
left_nodes s t us vs h = let size : nodes s ≡ nodes_of (trees_of (h.front ++ us)) + 2 = ap nodes h.first in let part = front_nodes h.front us in omega (arith, size, part)

pub right_nodes : (s t : Tree) (us vs : List Tree) → AreLastArguments s us t vs → nodes_of (trees_of vs) + 2 ≤ nodes t
right_nodes s t us vs h = let size : nodes t ≡ nodes_of (trees_of (h.front ++ vs)) + 2 = ap nodes h.second in let part = front_nodes h.front vs in omega (arith, size, part)

module _ (rows : List SymbolRow) where
  abbrev above : ℕ → ℕ → Bool
  above = stands_above rows

  -- whether some term is at least another one
  pub least_none : (ss : List Term) (t : Tree) → length ss ≡ 0 → false ≡ some_at_least above (trees_of (tree_list ss)) t
  least_none [] t e = refl
  least_none (s ∷ ss) t e = absurd (omega (arith, e))

  least_step : (ss us : List Term) (s : Term) (t : Tree) → ss ≡ s ∷ us
      → some_at_least above (trees_of (tree_list ss)) t ≡ ((same_tree (tree_of s) t || lpo_greater above (tree_of s) t) || some_at_least above (trees_of (tree_list us)) t)
  least_step ss us s t is = ap (λ xs. some_at_least above (trees_of (tree_list xs)) t) is

  pub least_same : (ss us : List Term) (s : Term) (t : Tree) → ss ≡ s ∷ us → tree_of s ≡ t → true ≡ some_at_least above (trees_of (tree_list ss)) t
  least_same ss us s t is same =
      let yes : same_tree (tree_of s) t ≡ true = ap (λ u. same_tree (tree_of s) u) (sym same) ∙ same_itself (tree_of s) in
      sym (least_step ss us s t is ∙ ap (λ b. (b || lpo_greater above (tree_of s) t) || some_at_least above (trees_of (tree_list us)) t) yes)

  pub least_greater : (ss us : List Term) (s : Term) (t : Tree) → ss ≡ s ∷ us → lpo_greater above (tree_of s) t ≡ true → true ≡ some_at_least above (trees_of (tree_list ss)) t
  least_greater ss us s t is h =
      sym (least_step ss us s t is ∙ ap (λ b. (same_tree (tree_of s) t || b) || some_at_least above (trees_of (tree_list us)) t) h ∙ either (same_tree (tree_of s) t))
    where
      either : (a : Bool) → ((a || true) || some_at_least above (trees_of (tree_list us)) t) ≡ true
      either true = refl
      either false = refl

  pub least_behind : (ss us : List Term) (s : Term) (t : Tree) → ss ≡ s ∷ us → (tree_of s ≡ t → ⊥) → lpo_greater above (tree_of s) t ≡ false
      → some_at_least above (trees_of (tree_list us)) t ≡ some_at_least above (trees_of (tree_list ss)) t
  least_behind ss us s t is other h =
      sym (least_step ss us s t is ∙ ap₂ (λ a b. (a || b) || some_at_least above (trees_of (tree_list us)) t) (different (tree_of s) t other) h)

  -- whether a term is greater than each of some others
  pub each_none : (s : Tree) (ts : List Term) → length ts ≡ 0 → true ≡ is_greater_than_each (lpo_greater above) s (tree_list ts)
  each_none s [] e = refl
  each_none s (t ∷ ts) e = absurd (omega (arith, e))

  each_step : (s : Tree) (ts vs : List Term) (t : Term) → ts ≡ t ∷ vs
      → is_greater_than_each (lpo_greater above) s (tree_list ts) ≡ (lpo_greater above s (tree_of t) && is_greater_than_each (lpo_greater above) s (tree_list vs))
  each_step s ts vs t is = ap (λ xs. is_greater_than_each (lpo_greater above) s (tree_list xs)) is

  pub each_here : (s : Tree) (ts vs : List Term) (t : Term) → ts ≡ t ∷ vs → lpo_greater above s (tree_of t) ≡ false → false ≡ is_greater_than_each (lpo_greater above) s (tree_list ts)
  each_here s ts vs t is h = sym (each_step s ts vs t is ∙ ap (λ b. b && is_greater_than_each (lpo_greater above) s (tree_list vs)) h)

  pub each_same : (s : Tree) (ts vs : List Term) (t : Term) → ts ≡ t ∷ vs → s ≡ tree_of t → false ≡ is_greater_than_each (lpo_greater above) s (tree_list ts)
  each_same s ts vs t is same = each_here s ts vs t is (ap (lpo_greater above s) (sym same) ∙ itself above (rows_order rows) s)

  pub each_behind : (s : Tree) (ts vs : List Term) (t : Term) → ts ≡ t ∷ vs → lpo_greater above s (tree_of t) ≡ true
      → is_greater_than_each (lpo_greater above) s (tree_list vs) ≡ is_greater_than_each (lpo_greater above) s (tree_list ts)
  each_behind s ts vs t is h = sym (each_step s ts vs t is ∙ ap (λ b. b && is_greater_than_each (lpo_greater above) s (tree_list vs)) h)

  each_is_all : (f : ℕ) (ss : Trees) (ts : List Tree) → each above (rows_order rows) f ss (trees_of ts) ≡ is_greater_than_each (lpo_greater above) (app f ss) ts
  each_is_all f ss [] = refl
  each_is_all f ss (t ∷ ts) = ap (λ b. lpo_greater above (app f ss) t && b) (each_is_all f ss ts)

  -- heads that differ
  pub above_heads : (s t : Tree) (f g : ℕ) (ss ts : List Tree) → s ≡ app f (trees_of ss) → t ≡ app g (trees_of ts) → above f g ≡ true
      → is_greater_than_each (lpo_greater above) s ts ≡ lpo_greater above s t
  above_heads s t f g ss ts is was h =
      ap (λ u. is_greater_than_each (lpo_greater above) u ts) is ∙ sym (each_is_all f (trees_of ss) ts)
      ∙ sym (above_case above (rows_order rows) f (trees_of ss) g (trees_of ts) h) ∙ sym (ap₂ (lpo_greater above) is was)

  pub below_heads : (s t : Tree) (f g : ℕ) (ss ts : List Tree) → s ≡ app f (trees_of ss) → t ≡ app g (trees_of ts) → above f g ≡ false → (f == g) ≡ false
      → some_at_least above (trees_of ss) t ≡ lpo_greater above s t
  below_heads s t f g ss ts is was h other =
      ap (some_at_least above (trees_of ss)) was ∙ sym (below_case above (rows_order rows) f (trees_of ss) g (trees_of ts) h other) ∙ sym (ap₂ (lpo_greater above) is was)

  -- one head
  pub behind_none : (s t : Tree) (us vs : List Term) → length us ≡ 0 → AreLastArguments s (tree_list us) t (tree_list vs) → false ≡ lpo_greater above s t
  behind_none s t [] vs e h = sym (ap₂ (lpo_greater above) h.first h.second ∙ long_case above (rows_order rows) h.head h.front (tree_list vs))
  behind_none s t (u ∷ us) vs e h = absurd (omega (arith, e))

  pub behind_short : (s t : Tree) (us vs : List Term) → length vs ≡ 0 → AreLastArguments s (tree_list us) t (tree_list vs) → some_at_least above (trees_of (tree_list us)) t ≡ lpo_greater above s t
  behind_short s t us [] e h =
      ap (some_at_least above (trees_of (tree_list us))) h.second
      ∙ sym (short_case above (rows_order rows) h.head h.front (tree_list us)) ∙ sym (ap₂ (lpo_greater above) h.first h.second)
  behind_short s t us (v ∷ vs) e h = absurd (omega (arith, e))

  greater_parts : (s t a b : Tree) (us vs : List Tree) → AreLastArguments s (a ∷ us) t (b ∷ vs) → lpo_greater above a b ≡ true → is_greater_than_each (lpo_greater above) s vs ≡ lpo_greater above s t
  greater_parts s t a b us vs h e =
      ap (λ u. is_greater_than_each (lpo_greater above) u vs) h.first ∙ sym (each_is_all h.head (trees_of (h.front ++ a ∷ us)) vs)
      ∙ sym (greater_case above (rows_order rows) h.head h.front a b us vs h.differ e) ∙ sym (ap₂ (lpo_greater above) h.first h.second)

  other_parts : (s t a b : Tree) (us vs : List Tree) → AreLastArguments s (a ∷ us) t (b ∷ vs) → lpo_greater above a b ≡ false → some_at_least above (trees_of us) t ≡ lpo_greater above s t
  other_parts s t a b us vs h e =
      ap (some_at_least above (trees_of us)) h.second
      ∙ sym (other_case above (rows_order rows) h.head h.front a b us vs h.differ e) ∙ sym (ap₂ (lpo_greater above) h.first h.second)

  pub behind_greater : (s t : Tree) (us vs left right : List Term) (a b : Term) → us ≡ a ∷ left → vs ≡ b ∷ right → AreLastArguments s (tree_list us) t (tree_list vs)
      → lpo_greater above (tree_of a) (tree_of b) ≡ true → is_greater_than_each (lpo_greater above) s (tree_list right) ≡ lpo_greater above s t
  behind_greater s t us vs left right a b is was h e =
      greater_parts s t (tree_of a) (tree_of b) (tree_list left) (tree_list right)
      (subst (λ xs. AreLastArguments s (tree_of a ∷ tree_list left) t (tree_list xs)) was (subst (λ xs. AreLastArguments s (tree_list xs) t (tree_list vs)) is h)) e

  pub behind_other : (s t : Tree) (us vs left right : List Term) (a b : Term) → us ≡ a ∷ left → vs ≡ b ∷ right → AreLastArguments s (tree_list us) t (tree_list vs)
      → lpo_greater above (tree_of a) (tree_of b) ≡ false → some_at_least above (trees_of (tree_list left)) t ≡ lpo_greater above s t
  behind_other s t us vs left right a b is was h e =
      other_parts s t (tree_of a) (tree_of b) (tree_list left) (tree_list right)
      (subst (λ xs. AreLastArguments s (tree_of a ∷ tree_list left) t (tree_list xs)) was (subst (λ xs. AreLastArguments s (tree_list xs) t (tree_list vs)) is h)) e
