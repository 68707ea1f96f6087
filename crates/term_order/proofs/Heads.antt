-- Terms of a bank compared by their heads.
use Rattle.std.proofs.Common.{◌≡◌, ℕ, zero, suc, ◌+◌, ◌<◌, ◌≤◌, Bool, true, false, ◌&&◌, ◌==◌, inl, inr, refl, sym, ap, ap₂, ◌∙◌, List, [], ◌∷◌, ◌++◌, length, take, drop, ◌-◌, slice_index_or, eqb-true, eq-eqb, arith}
use Rattle.std.specs.Prelude.{nat_lt}
use Rattle.std.proofs.lemmas.Bool.Decides.{nat_tests}
use Rattle.std.proofs.lemmas.List.{drop_all, drop_more, take-append-drop, take_rest}
use Rattle.fol_core.specs.Tree.{Tree, var, app, trees_of}
use Rattle.term_bank.specs.Bank.{tree_at}
use Rattle.term_bank.specs.declared.id.TermId.{TermId}
use Rattle.term_order.specs.Compared.{trees_under, is_greater_than_each, AreCommon, HaveOneHead}
use Rattle.term_order.specs.Laws.{IsSymbolOrder}
use Rattle.term_order.specs.Lpo.{lpo_greater, some_at_least}
use Rattle.term_order.specs.Precedences.{stands_above, row_at}
use Rattle.term_order.specs.declared.precedence.SymbolRow.{SymbolRow}
use Rattle.term_order.proofs.Fronts.{under_at, under_length}
use Rattle.term_order.proofs.LpoCases.{each, above_case, below_case, short_case, long_case, other_case, greater_case}
use Rattle.term_order.proofs.Tests.{split_or, split_and, left_or, right_or, both_and}
use Rattle.unifiers.specs.Matching.{same_tree}

-- the order of symbols is one
module _ (rows : List SymbolRow) where
  pub data Comes (a b x y f g : ℕ) : Type 0 where
    by_list : b < a → Comes a b x y f g
    by_arity : a ≡ b → y < x → Comes a b x y f g
    by_number : a ≡ b → x ≡ y → g < f → Comes a b x y f g

  why_above : (f g : ℕ) → stands_above rows f g ≡ true
      → Comes (row_at rows f).listed (row_at rows g).listed (row_at rows f).arity (row_at rows g).arity f g
  why_above f g h = elim (split_or (nat_lt (row_at rows g).listed (row_at rows f).listed) _ h) [
    | inl i ↦ by_list (grind (arith, nat_tests, i))
    | inr i ↦ let p = split_and ((row_at rows g).listed == (row_at rows f).listed) _ i in
        let same = sym (eqb-true (row_at rows g).listed (row_at rows f).listed p.0) in
        elim (split_or (nat_lt (row_at rows g).arity (row_at rows f).arity) _ p.1) [
          | inl j ↦ by_arity same (grind (arith, nat_tests, j))
          | inr j ↦ let q = split_and ((row_at rows g).arity == (row_at rows f).arity) (nat_lt g f) j in
              by_number same (sym (eqb-true (row_at rows g).arity (row_at rows f).arity q.0)) (let k = q.1 in grind (arith, nat_tests, k))
        ]
  ]

  pub because_comes : (f g : ℕ) → Comes (row_at rows f).listed (row_at rows g).listed (row_at rows f).arity (row_at rows g).arity f g → stands_above rows f g ≡ true
  because_comes f g (by_list h) = left_or (nat_lt (row_at rows g).listed (row_at rows f).listed) _ (grind (arith, nat_tests, h))
  because_comes f g (by_arity e h) =
      right_or (nat_lt (row_at rows g).listed (row_at rows f).listed) _
      (both_and ((row_at rows g).listed == (row_at rows f).listed) _ (eq-eqb (row_at rows g).listed (row_at rows f).listed (sym e))
      (left_or (nat_lt (row_at rows g).arity (row_at rows f).arity) _ (grind (arith, nat_tests, h))))
  because_comes f g (by_number e d h) =
      right_or (nat_lt (row_at rows g).listed (row_at rows f).listed) _
      (both_and ((row_at rows g).listed == (row_at rows f).listed) _ (eq-eqb (row_at rows g).listed (row_at rows f).listed (sym e))
      (right_or (nat_lt (row_at rows g).arity (row_at rows f).arity) _
      (both_and ((row_at rows g).arity == (row_at rows f).arity) _ (eq-eqb (row_at rows g).arity (row_at rows f).arity (sym d)) (grind (arith, nat_tests, h)))))

  comes_onward : {a b c x y z f g h : ℕ} → Comes a b x y f g → Comes b c y z g h → Comes a c x z f h
  comes_onward (by_list i) (by_list j) = by_list (omega (arith, i, j))
  comes_onward (by_list i) (by_arity j k) = by_list (omega (arith, i, j))
  comes_onward (by_list i) (by_number j k l) = by_list (omega (arith, i, j))
  comes_onward (by_arity i j) (by_list k) = by_list (omega (arith, i, k))
  comes_onward (by_arity i j) (by_arity k l) = by_arity (i ∙ k) (omega (arith, j, l))
  comes_onward (by_arity i j) (by_number k l m) = by_arity (i ∙ k) (omega (arith, j, l))
  comes_onward (by_number i j k) (by_list l) = by_list (omega (arith, i, l))
  comes_onward (by_number i j k) (by_arity l m) = by_arity (i ∙ l) (omega (arith, j, m))
  comes_onward (by_number i j k) (by_number l m n) = by_number (i ∙ l) (j ∙ m) (omega (arith, k, n))

  never_itself : {a x f : ℕ} → Comes a a x x f f → ⊥
  never_itself (by_list i) = omega (arith, i)
  never_itself (by_arity i j) = omega (arith, j)
  never_itself (by_number i j k) = omega (arith, k)

  pub rows_order : IsSymbolOrder (stands_above rows)
  rows_order = record {
    irreflexive = λ f. by f (stands_above rows f f) refl;
    transitive = λ f g h a b. because_comes f h (comes_onward (why_above f g a) (why_above g h b));
  }
    where
      by : (f : ℕ) (b : Bool) → stands_above rows f f ≡ b → b ≡ false
      by f true e = elim (never_itself (why_above f f e)) [ ]
      by f false e = refl

  abbrev above : ℕ → ℕ → Bool
  above = stands_above rows

  each_is_all : (f : ℕ) (ss : List Tree) (ts : List Tree) → each above rows_order f (trees_of ss) (trees_of ts) ≡ is_greater_than_each (lpo_greater above) (app f (trees_of ss)) ts
  each_is_all f ss [] = refl
  each_is_all f ss (t ∷ ts) = ap (λ (b : Bool). lpo_greater above (app f (trees_of ss)) t && b) (each_is_all f ss ts)

  module _ (bank : List Tree) where
    abbrev Greater : ℕ → ℕ → Bool
    Greater s t = lpo_greater above (tree_at bank s) (tree_at bank t)

    -- the first head stands above the other
    pub above_heads : (s t f g : ℕ) (ss ts : List TermId) → app f (trees_of (trees_under bank ss)) ≡ tree_at bank s → app g (trees_of (trees_under bank ts)) ≡ tree_at bank t
        → above f g ≡ true → is_greater_than_each (lpo_greater above) (tree_at bank s) (trees_under bank ts) ≡ Greater s t
    above_heads s t f g ss ts first second h =
        ap (λ (u : Tree). is_greater_than_each (lpo_greater above) u (trees_under bank ts)) (sym first)
        ∙ sym (each_is_all f (trees_under bank ss) (trees_under bank ts))
        ∙ sym (above_case above rows_order f (trees_of (trees_under bank ss)) g (trees_of (trees_under bank ts)) h)
        ∙ ap₂ (lpo_greater above) first second

    -- it doesn't, and is another
    pub below_heads : (s t f g : ℕ) (ss ts : List TermId) → app f (trees_of (trees_under bank ss)) ≡ tree_at bank s → app g (trees_of (trees_under bank ts)) ≡ tree_at bank t
        → above f g ≡ false → (f == g) ≡ false → some_at_least above (trees_of (trees_under bank ss)) (tree_at bank t) ≡ Greater s t
    below_heads s t f g ss ts first second h d =
        ap (λ (u : Tree). some_at_least above (trees_of (trees_under bank ss)) u) (sym second)
        ∙ sym (below_case above rows_order f (trees_of (trees_under bank ss)) g (trees_of (trees_under bank ts)) h d)
        ∙ ap₂ (lpo_greater above) first second

    under_drop : (ks : List TermId) (n : ℕ) → drop n (trees_under bank ks) ≡ trees_under bank (drop n ks)
    under_drop ks zero = refl
    under_drop [] (suc n) = refl
    under_drop (k ∷ ks) (suc n) = under_drop ks n

    -- what is behind a place, as the code has it
    rest : (ks : List TermId) (n : ℕ) → trees_under bank (take (length ks - n) (drop n ks)) ≡ drop n (trees_under bank ks)
    rest ks n = ap (trees_under bank) (take_rest ks n) ∙ sym (under_drop ks n)

    -- with one head
    module _ (s : ℕ) (ss : List TermId) (t : ℕ) (ts : List TermId) (n : ℕ) (heads : HaveOneHead bank s ss t ts) (common : AreCommon bank ss ts n) where
      abbrev lefts : List Tree
      lefts = trees_under bank ss

      abbrev rights : List Tree
      rights = trees_under bank ts

      abbrev front : List Tree
      front = take n lefts

      left_parts : front ++ drop n lefts ≡ lefts
      left_parts = take-append-drop n lefts

      right_parts : front ++ drop n rights ≡ rights
      right_parts = ap (λ (us : List Tree). us ++ drop n rights) common.same ∙ take-append-drop n rights

      whole : (us vs : List Tree) → front ++ us ≡ lefts → front ++ vs ≡ rights
          → lpo_greater above (app heads.head (trees_of (front ++ us))) (app heads.head (trees_of (front ++ vs))) ≡ Greater s t
      whole us vs e d =
          ap₂ (λ (xs ys : List Tree). lpo_greater above (app heads.head (trees_of xs)) (app heads.head (trees_of ys))) e d
          ∙ ap₂ (lpo_greater above) (sym heads.first) (sym heads.second)

      right_term : (vs : List Tree) → front ++ vs ≡ rights → tree_at bank t ≡ app heads.head (trees_of (front ++ vs))
      right_term vs d = heads.second ∙ ap (λ (xs : List Tree). app heads.head (trees_of xs)) (sym d)

      -- no pair of arguments differs
      pub within_long : length ss ≤ n → false ≡ Greater s t
      within_long h =
          let none : drop n lefts ≡ [] = drop_all n lefts (let l = under_length bank ss in omega (arith, l, h)) in
          let e : front ++ [] ≡ lefts = ap (λ (us : List Tree). front ++ us) (sym none) ∙ left_parts in
          sym (long_case above rows_order heads.head front (drop n rights)) ∙ whole [] (drop n rights) e right_parts

      pub within_short : length ts ≤ n → some_at_least above (trees_of (trees_under bank (take (length ss - n) (drop n ss)))) (tree_at bank t) ≡ Greater s t
      within_short h =
          let none : drop n rights ≡ [] = drop_all n rights (let l = under_length bank ts in omega (arith, l, h)) in
          let d : front ++ [] ≡ rights = ap (λ (us : List Tree). front ++ us) (sym none) ∙ right_parts in
          ap₂ (λ (us : List Tree) (u : Tree). some_at_least above (trees_of us) u) (rest ss n) (right_term [] d)
          ∙ sym (short_case above rows_order heads.head front (drop n lefts)) ∙ whole (drop n lefts) [] left_parts d

      module _ (here : n < length ss) (there : n < length ts) where
        abbrev a : Tree
        a = slice_index_or lefts n (var 0)

        abbrev b : Tree
        b = slice_index_or rights n (var 0)

        left_next : front ++ a ∷ drop (n + 1) lefts ≡ lefts
        left_next = ap (λ (us : List Tree). front ++ us) (sym (drop_more lefts n (var 0) (let l = under_length bank ss in omega (arith, l, here)))) ∙ left_parts

        right_next : front ++ b ∷ drop (n + 1) rights ≡ rights
        right_next = ap (λ (us : List Tree). front ++ us) (sym (drop_more rights n (var 0) (let l = under_length bank ts in omega (arith, l, there)))) ∙ right_parts

        differ : same_tree a b ≡ false
        differ = common.other (let l = under_length bank ss in omega (arith, l, here)) (let l = under_length bank ts in omega (arith, l, there))

        pair : (d e : TermId) → Greater (slice_index_or ss n d).0 (slice_index_or ts n e).0 ≡ lpo_greater above a b
        pair d e = ap₂ (lpo_greater above) (sym (under_at bank ss n d here)) (sym (under_at bank ts n e there))

        -- the first pair that differs decides
        pub within_greater : (d e : TermId) → Greater (slice_index_or ss n d).0 (slice_index_or ts n e).0 ≡ true
            → is_greater_than_each (lpo_greater above) (tree_at bank s) (trees_under bank (take (length ts - (n + 1)) (drop (n + 1) ts))) ≡ Greater s t
        within_greater d e h =
            ap₂ (is_greater_than_each (lpo_greater above)) (heads.first ∙ ap (λ (xs : List Tree). app heads.head (trees_of xs)) (sym left_next)) (rest ts (n + 1))
            ∙ sym (each_is_all heads.head (front ++ a ∷ drop (n + 1) lefts) (drop (n + 1) rights))
            ∙ sym (greater_case above rows_order heads.head front a b (drop (n + 1) lefts) (drop (n + 1) rights) differ (sym (pair d e) ∙ h))
            ∙ whole (a ∷ drop (n + 1) lefts) (b ∷ drop (n + 1) rights) left_next right_next

        -- or an argument behind it
        pub within_other : (d e : TermId) → Greater (slice_index_or ss n d).0 (slice_index_or ts n e).0 ≡ false
            → some_at_least above (trees_of (trees_under bank (take (length ss - (n + 1)) (drop (n + 1) ss)))) (tree_at bank t) ≡ Greater s t
        within_other d e h =
            ap₂ (λ (us : List Tree) (u : Tree). some_at_least above (trees_of us) u) (rest ss (n + 1)) (right_term (b ∷ drop (n + 1) rights) right_next)
            ∙ sym (other_case above rows_order heads.head front a b (drop (n + 1) lefts) (drop (n + 1) rights) differ (sym (pair d e) ∙ h))
            ∙ whole (a ∷ drop (n + 1) lefts) (b ∷ drop (n + 1) rights) left_next right_next
