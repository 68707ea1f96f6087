-- The names of a printed clause are no `#`.
use Rattle.std.proofs.Common.{◌≡◌, ℕ, zero, suc, ◌<◌, ◌≤◌, Bool, true, false, not, List, [], ◌∷◌, inl, inr, refl, sym, ap, ◌∙◌, subst, arith}
use Rattle.std.specs.Prelude.{◌||◌, ◌⊎◌, length, slice_get, Option, Some, codes}
use Rattle.std.specs.Str.{bytes_eq}
use Rattle.std.proofs.lemmas.Bool.{cases_Bool, cond-false, cond-true}
use Rattle.fol_core.specs.Bound.{has_symbol, have_symbol}
use Rattle.fol_core.specs.Literals.{Lit, ClauseTree, literal, equality}
use Rattle.fol_core.specs.RawTree.{RawTree, named, quantified, RawTrees, no_raws, more_raws}
use Rattle.fol_core.specs.SymbolTable.{Symbol, FindsEach, kind_at}
use Rattle.fol_core.specs.Tree.{Tree, var, elem, app, Trees, none, more}
use Rattle.ladr_formulas.specs.declared.styles.Style.{Style}
use Rattle.ladr_print.specs.ClauseText.{literal_raw, clause_raw}
use Rattle.ladr_print.specs.FormulaText.{denial}
use Rattle.ladr_print.specs.HasText.{many, IsSymbolOf, IsTermOver, AreOver, IsAtomOver, IsClauseOver}
use Rattle.ladr_print.specs.TermText.{Naming, clause_variable, symbol_name, term_raw, terms_raw}
use Rattle.proof_print.specs.Rereadable.{ReadsAsItself, clause_uses}
use Rattle.proof_print.proofs.ClauseReading.{AreOwn, head_own, rest_own, first_own, others_own, known}
use Rattle.proof_print.proofs.Hashless.{is_other, HasNoHash, HaveNoHash}

variable_other : (prolog : Bool) (n : ℕ) → is_other (clause_variable prolog n) ≡ true
variable_other true zero = refl
variable_other false zero = refl
variable_other true (suc zero) = refl
variable_other false (suc zero) = refl
variable_other true (suc (suc zero)) = refl
variable_other false (suc (suc zero)) = refl
variable_other true (suc (suc (suc zero))) = refl
variable_other false (suc (suc (suc zero))) = refl
variable_other true (suc (suc (suc (suc zero)))) = refl
variable_other false (suc (suc (suc (suc zero)))) = refl
variable_other true (suc (suc (suc (suc (suc n))))) = refl
variable_other false (suc (suc (suc (suc (suc n))))) = refl

-- a denial has one more name
denial_hashless : (t : RawTree) → HasNoHash t → HasNoHash (denial t)
denial_hashless (named s no_raws) h = (refl, (h, tt))
denial_hashless (named s (more_raws t no_raws)) h = (refl, (h, tt))
denial_hashless (named s (more_raws t (more_raws u no_raws))) h =
    elim (cases_Bool (bytes_eq s (codes "="))) [
      | inl y ↦ subst HasNoHash (sym (cond-true (bytes_eq s (codes "=")) _ _ y)) (refl, h.1)
      | inr n ↦ subst HasNoHash (sym (cond-false (bytes_eq s (codes "=")) _ _ n)) (refl, (h, tt))
    ]
denial_hashless (named s (more_raws t (more_raws u (more_raws w ts)))) h = (refl, (h, tt))
denial_hashless (quantified q x t) h = absurd h

module _ (st : Style) (plain : st.elements ≡ false) (T : List Symbol) (few : length T ≤ equality) (finds : FindsEach T) where
  abbrev v : Naming
  v = clause_variable st.prolog

  abbrev Owns : (ℕ → Bool) → Type 0
  Owns is_used = AreOwn st plain T few finds is_used

  left_owns : (p q : ℕ → Bool) → Owns (λ j. p j || q j) → Owns p
  left_owns p q u j h e = u j h (ap (λ (b : Bool). b || q j) e)

  right_owns : (p q : ℕ → Bool) → Owns (λ j. p j || q j) → Owns q
  right_owns p q u j h e = u j h (or_second (p j) (q j) e)
    where
      or_second : (a b : Bool) → b ≡ true → (a || b) ≡ true
      or_second true b k = refl
      or_second false b k = k

  symbol_other : (s n : ℕ) → IsSymbolOf T s n → ((x : Symbol) → slice_get T s ≡ Some x → ReadsAsItself st x) → is_other (symbol_name T s) ≡ true
  symbol_other s n h own =
      let k = known st plain T few finds s n (kind_at T s) h refl own in
      ap is_other k.name ∙ ap not k.itself.no_attribute

  mutual
    pub term_hashless : (t : Tree) → IsTermOver T t → Owns (λ s. has_symbol s t) → HasNoHash (term_raw T v t)
    term_hashless (var x) h u = (variable_other st.prolog x, tt)
    term_hashless (elem k) h u = absurd h
    term_hashless (app s ts) h u = (symbol_other s (many ts) h.0 (head_own st plain T few finds s ts h.0.0 u), terms_hashless ts h.1 (rest_own st plain T few finds s ts u))

    pub terms_hashless : (ts : Trees) → AreOver T ts → Owns (λ s. have_symbol s ts) → HaveNoHash (terms_raw T v ts)
    terms_hashless none h u = tt
    terms_hashless (more t ts) h u =
        (term_hashless t h.0 (left_owns (λ s. has_symbol s t) (λ s. have_symbol s ts) u), terms_hashless ts h.1 (right_owns (λ s. has_symbol s t) (λ s. have_symbol s ts) u))

  atom_hashless : (a : Tree) → IsAtomOver T a → Owns (λ s. has_symbol s a) → HasNoHash (term_raw T v a)
  atom_hashless (var x) h u = absurd h
  atom_hashless (elem k) h u = absurd h
  atom_hashless (app r ts) h u = (head h.0, terms_hashless ts h.1 (rest_own st plain T few finds r ts u))
    where
      head : IsSymbolOf T r (many ts) ⊎ ((r ≡ equality) × (many ts ≡ 2)) → is_other (symbol_name T r) ≡ true
      head (inl k) = symbol_other r (many ts) k (head_own st plain T few finds r ts k.0 u)
      head (inr k) = subst (λ s. is_other (symbol_name T s) ≡ true) (sym k.0) refl

  literal_hashless : (positive : Bool) (a : Tree) → IsAtomOver T a → Owns (λ s. has_symbol s a) → HasNoHash (literal_raw T v (literal positive a))
  literal_hashless true a h u = atom_hashless a h u
  literal_hashless false a h u = denial_hashless (term_raw T v a) (atom_hashless a h u)

  pub clause_hashless : (c : ClauseTree) → IsClauseOver T c → Owns (clause_uses c) → HasNoHash (clause_raw T v c)
  clause_hashless [] h u = (refl, tt)
  clause_hashless (l ∷ []) h u = literal_hashless l.positive l.atom h.0 (first_own st plain T few finds l [] u)
  clause_hashless (l ∷ m ∷ ls) h u = (
    refl,
    (literal_hashless l.positive l.atom h.0 (first_own st plain T few finds l (m ∷ ls) u), (clause_hashless (m ∷ ls) h.1 (others_own st plain T few finds l (m ∷ ls) u), tt)),
  )
