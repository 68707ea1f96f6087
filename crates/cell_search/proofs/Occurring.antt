-- What holds of each occurrence, argument by argument and literal by literal.
use Rattle.std.proofs.Common.{◌≡◌, ℕ, suc, ◌+◌, ◌<◌, ◌≤◌, ◌==◌, Bool, true, false, MatchBool, List, [], ◌∷◌, length, map, get_or, inl, inr, refl, sym, ap, ◌∙◌, subst, arith}
use Rattle.std.proofs.lemmas.Bool.{cases_lt, eq-eqb}
use Rattle.std.proofs.lemmas.List.{get_or_default}
use Rattle.fol_core.specs.ClauseView.{literal_of}
use Rattle.fol_core.specs.Literals.{ClauseTree, equality}
use Rattle.fol_core.specs.TermView.{tree_of}
use Rattle.fol_core.specs.Tree.{Tree, var, elem, app, Trees, trees_of}
use Rattle.fol_core.specs.declared.clause.Literal.{Literal}
use Rattle.fol_core.specs.declared.symbols.Kind.{Kind}
use Rattle.fol_core.specs.declared.symbols.Kind.TheVariants.{Function, Relation}
use Rattle.fol_core.specs.declared.symbols.Sym.{Sym}
use Rattle.fol_core.specs.declared.term.Term.{Term}
use Rattle.fol_core.specs.declared.term.Term.TheVariants.{App}
use Rattle.cell_search.specs.Ways.{EachIn, EachOf, EachInAtom, EachInClause}
use Rattle.cell_search.proofs.Grouping.{each_in, each_atom}

-- so far it holds of the first arguments
abbrev pub EachBefore : (Kind → ℕ → Trees → Type 0) → List Term → ℕ → Type 0
EachBefore P items n = (k : ℕ) (t : Term) → k < n → t ≡ get_or items k t → EachIn P (tree_of t)

-- and of the first literals
abbrev pub EachLiteralBefore : (Kind → ℕ → Trees → Type 0) → List Literal → ℕ → Type 0
EachLiteralBefore P items n = (k : ℕ) (l : Literal) → k < n → l ≡ get_or items k l → EachInAtom P (tree_of l.atom)

-- and of a term itself, where it is an occurrence
abbrev pub HeadHas : (Kind → ℕ → Trees → Type 0) → Tree → Type 0
HeadHas P (var x) = Unit {0}
HeadHas P (elem k) = Unit {0}
HeadHas P (app s ts) = P Function s ts

abbrev pub AtomHas : (Kind → ℕ → Trees → Type 0) → Tree → Type 0
AtomHas P (var x) = Unit {0}
AtomHas P (elem k) = Unit {0}
AtomHas P (app r ts) = MatchBool (r == equality) (Unit {0}) (P Relation r ts)

module _ (P : Kind → ℕ → Trees → Type 0) where
  pub none_before : (items : List Term) → EachBefore P items 0
  none_before items = λ k t less is. absurd (omega (arith, less))

  pub one_before : (items : List Term) (i : ℕ) (item : Term) → i < length items → item ≡ get_or items i item → EachBefore P items i → EachIn P (tree_of item) → EachBefore P items (i + 1)
  one_before items i item inside is before has = λ k t less at. elim (cases_lt k i) [
    | inl earlier ↦ before k t earlier at
    | inr now ↦
        let same : k ≡ i = omega (arith, less, now) in
        let t_is : t ≡ item = at ∙ ap (λ (n : ℕ). get_or items n t) same ∙ get_or_default items i t item inside ∙ sym is in
        subst (λ (u : Term). EachIn P (tree_of u)) (sym t_is) has
  ]

  each_items : (items : List Term) → EachBefore P items (length items) → EachOf P (trees_of (map tree_of items))
  each_items [] h = tt
  each_items (t ∷ ts) h = (h 0 t (omega arith) refl, each_items ts (λ k u less is. h (suc k) u (omega (arith, less)) is))

  items_end : (items : List Term) (n : ℕ) (terms : List Tree) → length items ≤ n → map tree_of items ≡ terms → EachBefore P items n → EachOf P (trees_of terms)
  items_end items n terms past same before =
      subst (λ (ts : List Tree). EachOf P (trees_of ts)) same (each_items items (λ k t less is. before k t (omega (arith, less, past)) is))

  pub term_end : (term : Term) (symbol : Sym) (terms : List Tree) (items : List Term) (n : ℕ) → term ≡ App symbol terms → map tree_of items ≡ terms → length items ≤ n → HeadHas P (tree_of term) → EachBefore P items n → EachIn P (tree_of term)
  term_end term symbol terms items n is same past head before =
      subst (λ (u : Term). EachIn P (tree_of u)) (sym is) (subst (λ (u : Term). HeadHas P (tree_of u)) is head, items_end items n terms past same before)

  pub atom_first : (term : Term) (symbol : Sym) (terms : List Tree) → term ≡ App symbol terms → P Relation symbol.0 (trees_of terms) → AtomHas P (tree_of term)
  atom_first term symbol terms is has = subst (λ (u : Term). AtomHas P (tree_of u)) (sym is) (by (symbol.0 == equality))
    where
      by : (b : Bool) → MatchBool b (Unit {0}) (P Relation symbol.0 (trees_of terms))
      by true = tt
      by false = has

  pub atom_none : (term : Term) (symbol : Sym) (terms : List Tree) → term ≡ App symbol terms → symbol.0 ≡ equality → AtomHas P (tree_of term)
  atom_none term symbol terms is same =
      subst (λ (u : Term). AtomHas P (tree_of u)) (sym is) (subst (λ (b : Bool). MatchBool b (Unit {0}) (P Relation symbol.0 (trees_of terms))) (sym (eq-eqb symbol.0 equality same)) tt)

  pub atom_end : (term : Term) (symbol : Sym) (terms : List Tree) (items : List Term) (n : ℕ) → term ≡ App symbol terms → map tree_of items ≡ terms → length items ≤ n → AtomHas P (tree_of term) → EachBefore P items n → EachInAtom P (tree_of term)
  atom_end term symbol terms items n is same past head before =
      subst (λ (u : Term). EachInAtom P (tree_of u)) (sym is) (by (symbol.0 == equality) (subst (λ (u : Term). AtomHas P (tree_of u)) is head) (items_end items n terms past same before))
    where
      by : (b : Bool) → MatchBool b (Unit {0}) (P Relation symbol.0 (trees_of terms)) → EachOf P (trees_of terms) → MatchBool b (EachOf P (trees_of terms)) (P Relation symbol.0 (trees_of terms) × EachOf P (trees_of terms))
      by true head rest = rest
      by false head rest = (head, rest)

  pub no_literal_before : (items : List Literal) → EachLiteralBefore P items 0
  no_literal_before items = λ k l less is. absurd (omega (arith, less))

  pub one_literal_before : (items : List Literal) (i : ℕ) (item : Literal) → i < length items → item ≡ get_or items i item → EachLiteralBefore P items i → EachInAtom P (tree_of item.atom) → EachLiteralBefore P items (i + 1)
  one_literal_before items i item inside is before has = λ k l less at. elim (cases_lt k i) [
    | inl earlier ↦ before k l earlier at
    | inr now ↦
        let same : k ≡ i = omega (arith, less, now) in
        let l_is : l ≡ item = at ∙ ap (λ (n : ℕ). get_or items n l) same ∙ get_or_default items i l item inside ∙ sym is in
        subst (λ (u : Literal). EachInAtom P (tree_of u.atom)) (sym l_is) has
  ]

  each_literals : (items : List Literal) → EachLiteralBefore P items (length items) → EachInClause P (map literal_of items)
  each_literals [] h = tt
  each_literals (l ∷ ls) h = (h 0 l (omega arith) refl, each_literals ls (λ k u less is. h (suc k) u (omega (arith, less)) is))

  pub clause_end : (items : List Literal) (n : ℕ) (clause : ClauseTree) → length items ≤ n → map literal_of items ≡ clause → EachLiteralBefore P items n → EachInClause P clause
  clause_end items n clause past same before =
      subst (EachInClause P) same (each_literals items (λ k l less is. before k l (omega (arith, less, past)) is))

-- what holds goes on to hold, where one thing follows from another
module _ (P Q : Kind → ℕ → Trees → Type 0) (f : (kind : Kind) (s : ℕ) (ts : Trees) → P kind s ts → Q kind s ts) where
  pub before_still : (items : List Term) (n : ℕ) → EachBefore P items n → EachBefore Q items n
  before_still items n h = λ k t less is. each_in P Q f (tree_of t) (h k t less is)

  pub literals_still : (items : List Literal) (n : ℕ) → EachLiteralBefore P items n → EachLiteralBefore Q items n
  literals_still items n h = λ k l less is. each_atom P Q f (tree_of l.atom) (h k l less is)

  pub head_still : (t : Tree) → HeadHas P t → HeadHas Q t
  head_still (var x) h = tt
  head_still (elem k) h = tt
  head_still (app s ts) h = f Function s ts h

  pub atom_still : (t : Tree) → AtomHas P t → AtomHas Q t
  atom_still (var x) h = tt
  atom_still (elem k) h = tt
  atom_still (app r ts) h = by (r == equality) h
    where
      by : (b : Bool) → MatchBool b (Unit {0}) (P Relation r ts) → MatchBool b (Unit {0}) (Q Relation r ts)
      by true g = tt
      by false g = f Relation r ts g
