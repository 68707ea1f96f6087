-- A clause's term as read stands as a clause.
use Rattle.std.proofs.Common.{◌≡◌, ℕ, ◌≤◌, ◌⊎◌, Bool, true, false, List, [], ◌∷◌, length, map, inl, inr, refl, sym, ap, ◌∙◌, subst, arith}
use Rattle.std.specs.Prelude.{◌||◌, codes}
use Rattle.std.specs.List.{list_all}
use Rattle.std.specs.Str.{bytes_eq}
use Rattle.std.proofs.lemmas.Bool.{and_parts, and_from, cond-false}
use Rattle.fol_core.specs.Bound.{has_symbol}
use Rattle.fol_core.specs.Literals.{Lit, ClauseTree, literal, equality}
use Rattle.fol_core.specs.RawTree.{RawTree, named, RawTrees, no_raws, more_raws}
use Rattle.fol_core.specs.SymbolTable.{Symbol, kind_at, FindsEach}
use Rattle.fol_core.specs.Tree.{Tree, var, elem, app, Trees, none, more}
use Rattle.fol_core.specs.declared.symbols.Kind.TheVariants.{Relation}
use Rattle.ladr_formulas.specs.Formulas.{arity_of, is_denial}
use Rattle.ladr_formulas.specs.declared.styles.Style.{Style}
use Rattle.ladr_print.specs.ClauseText.{literal_raw, clause_raw}
use Rattle.ladr_print.specs.FormulaText.{denial}
use Rattle.ladr_print.specs.HasText.{many, IsSymbolOf, IsAtomOver, IsClauseOver}
use Rattle.ladr_print.specs.TermText.{Naming, clause_variable, symbol_name, term_raw, terms_raw}
use Rattle.ladr_reader.specs.Capped.{is_bar, disjuncts}
use Rattle.proof_lines.specs.Literals.{joins_formulas, reads_as_atom, is_inequation, reads_as_literal, is_false, read_as_clause}
use Rattle.proof_print.specs.Rereadable.{names_relation, clause_uses, IsAtomOfKinds, IsClauseOfKinds}
use Rattle.proof_print.proofs.ClauseReading.{AreOwn, head_own, first_own, others_own, known, arity_count, no_equality, or_false, not_true}

or_true : (a b : Bool) → b ≡ true → (a || b) ≡ true
or_true true b h = refl
or_true false b h = h

or_first : (a b : Bool) → a ≡ true → (a || b) ≡ true
or_first a b h = ap (λ (c : Bool). c || b) h

-- a term that is one disjunct, a literal
record Single (t : RawTree) : Type 0 where
  one : disjuncts t ≡ t ∷ []
  literal_is : reads_as_literal t ≡ true

-- names of relations
bar_false : (s : List ℕ) → joins_formulas s ≡ false → is_bar s ≡ false
bar_false s h =
    let a = or_false _ _ h in
    let b = or_false _ _ a.0 in
    let c = or_false _ _ b.0 in
    let d = or_false _ _ c.0 in
    let e = or_false _ _ d.0 in
    (or_false _ _ e.0).1

relation_single : (s : List ℕ) (xs : RawTrees) → names_relation s (arity_of xs) ≡ true → Single (named s xs)
relation_single s no_raws h = record { one = refl; literal_is = or_true (is_inequation (named s no_raws)) _ (and_parts _ _ h).0 }
relation_single s (more_raws t no_raws) h =
    let n : is_denial s ≡ false = not_true _ (and_parts _ _ h).0 in
    record {
      one = refl;
      literal_is = or_true (is_inequation (named s (more_raws t no_raws))) _ (ap reads_as_atom (cond-false (is_denial s) _ _ n) ∙ (and_parts _ _ h).0);
    }
relation_single s (more_raws t (more_raws u no_raws)) h =
    let n : joins_formulas s ≡ false = not_true _ (and_parts _ _ h).0 in
    record {
      one = cond-false (is_bar s) _ _ (bar_false s n);
      literal_is = or_true (is_inequation (named s (more_raws t (more_raws u no_raws)))) _ (and_parts _ _ h).0;
    }
relation_single s (more_raws t (more_raws u (more_raws w ts))) h = record { one = refl; literal_is = or_true (is_inequation (named s (more_raws t (more_raws u (more_raws w ts))))) _ (and_parts _ _ h).0 }

-- the denial of a relation
plain_denial : (s : List ℕ) (xs : RawTrees) → names_relation s (arity_of xs) ≡ true → denial (named s xs) ≡ named (codes "-") (more_raws (named s xs) no_raws)
plain_denial s no_raws h = refl
plain_denial s (more_raws t no_raws) h = refl
plain_denial s (more_raws t (more_raws u no_raws)) h = cond-false (bytes_eq s (codes "=")) _ _ (not_true _ (and_parts _ _ h).1)
plain_denial s (more_raws t (more_raws u (more_raws w ts))) h = refl

atom_named : (s : List ℕ) (xs : RawTrees) → names_relation s (arity_of xs) ≡ true → reads_as_atom (named s xs) ≡ true
atom_named s xs h = (and_parts _ _ h).0

denied_single : (s : List ℕ) (xs : RawTrees) → names_relation s (arity_of xs) ≡ true → Single (denial (named s xs))
denied_single s xs h =
    subst Single (sym (plain_denial s xs h))
    (record { one = refl; literal_is = or_true false _ (atom_named s xs h) })

module _ (st : Style) (plain : st.elements ≡ false) (T : List Symbol) (few : length T ≤ equality) (finds : FindsEach T) where
  abbrev v : Naming
  v = clause_variable st.prolog

  abbrev Own : (ℕ → Bool) → Type 0
  Own is_used = AreOwn st plain T few finds is_used

  record Singles (a : Tree) : Type 0 where
    positive : Single (term_raw T v a)
    negative : Single (denial (term_raw T v a))

  relation_singles : (r : ℕ) (ts : Trees) → IsSymbolOf T r (many ts) → kind_at T r ≡ Relation → Own (λ j. has_symbol j (app r ts)) → Singles (app r ts)
  relation_singles r ts h kind u =
      let k = known st plain T few finds r (many ts) Relation h kind (head_own st plain T few finds r ts h.0 u) in
      let xs = terms_raw T v ts in
      let may : names_relation (symbol_name T r) (arity_of xs) ≡ true =
      (λ i. names_relation (k.name i) (arity_count st plain T few finds ts i)) ∙ (λ i. names_relation k.found.name (sym k.arity i)) ∙ k.itself.relation k.kind_is
      in
      record { positive = relation_single (symbol_name T r) xs may; negative = denied_single (symbol_name T r) xs may }

  equation_singles : (ts : Trees) → many ts ≡ 2 → Singles (app equality ts)
  equation_singles none h = absurd (omega arith)
  equation_singles (more a none) h = absurd (omega arith)
  equation_singles (more a (more b none)) h = record { positive = record { one = refl; literal_is = refl }; negative = record { one = refl; literal_is = refl } }
  equation_singles (more a (more b (more c ts))) h = absurd (omega arith)

  atom_singles : (a : Tree) → IsAtomOver T a → IsAtomOfKinds T a → Own (λ j. has_symbol j a) → Singles a
  atom_singles (var x) h k u = absurd h
  atom_singles (elem j) h k u = absurd h
  atom_singles (app r ts) h k u = by h.0 k.0
    where
      by : (IsSymbolOf T r (many ts) ⊎ ((r ≡ equality) × (many ts ≡ 2))) → ((r ≡ equality) ⊎ (kind_at T r ≡ Relation)) → Singles (app r ts)
      by (inl i) (inr kind) = relation_singles r ts i kind u
      by (inl i) (inl is) = absurd (no_equality st plain T few finds r i.0 is)
      by (inr i) kinds = subst (λ (s : ℕ). Singles (app s ts)) (sym i.0) (equation_singles ts i.1)

  literal_single : (positive : Bool) (a : Tree) → IsAtomOver T a → IsAtomOfKinds T a → Own (λ j. has_symbol j a) → Single (literal_raw T v (literal positive a))
  literal_single true a h k u = (atom_singles a h k u).positive
  literal_single false a h k u = (atom_singles a h k u).negative

  -- the disjuncts are the literals
  record AllSingle (l : Lit) (ls : List Lit) : Type 0 where
    are : disjuncts (clause_raw T v (l ∷ ls)) ≡ map (literal_raw T v) (l ∷ ls)
    all : list_all reads_as_literal (map (literal_raw T v) (l ∷ ls)) ≡ true

  all_single : (l : Lit) (ls : List Lit) → IsClauseOver T (l ∷ ls) → IsClauseOfKinds T (l ∷ ls) → Own (clause_uses (l ∷ ls)) → AllSingle l ls
  all_single l [] h k u =
      let s = literal_single l.positive l.atom h.0 k.0 (first_own st plain T few finds l [] u) in
      record { are = s.one; all = and_from _ true s.literal_is refl }
  all_single l (m ∷ ls) h k u =
      let s = literal_single l.positive l.atom h.0 k.0 (first_own st plain T few finds l (m ∷ ls) u) in
      let rest = all_single m ls h.1 k.1 (others_own st plain T few finds l (m ∷ ls) u) in
      record { are = ap (λ (ts : List RawTree). literal_raw T v l ∷ ts) rest.are; all = and_from _ _ s.literal_is rest.all }

  reads_as : (l : Lit) (ls : List Lit) → list_all reads_as_literal (map (literal_raw T v) (l ∷ ls)) ≡ true → read_as_clause (map (literal_raw T v) (l ∷ ls)) ≡ true
  reads_as l [] h = or_true (is_false (literal_raw T v l)) _ (and_parts _ _ h).0
  reads_as l (m ∷ ls) h = h

  pub stands : (c : ClauseTree) → IsClauseOver T c → IsClauseOfKinds T c → Own (clause_uses c) → read_as_clause (disjuncts (clause_raw T v c)) ≡ true
  stands [] h k u = refl
  stands (l ∷ ls) h k u =
      let s = all_single l ls h k u in
      ap read_as_clause s.are ∙ reads_as l ls s.all
