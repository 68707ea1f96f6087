-- What clauses ask, literal by literal.
use Rattle.std.proofs.Common.{◌≡◌, ℕ, zero, suc, ◌+◌, ◌<◌, ◌≤◌, ◌==◌, ◌||◌, ◌⊎◌, inl, inr, Bool, true, false, not, IsTrue, if◌then◌else◌, MatchBool, List, [], ◌∷◌, length, map, drop, get_or, Option, None, Some, refl, sym, ap, ◌∙◌, subst, arith}
use Rattle.std.proofs.Math.Seq.{drop-cons}
use Rattle.std.proofs.lemmas.Bool.{eqb-true, eqb-false, not-true}
use Rattle.std.proofs.lemmas.Bool.Decides.{nat_tests}
use Rattle.std.proofs.lemmas.List.{drop_all, get_or_default}
use Rattle.fol_core.specs.ClauseView.{literal_of}
use Rattle.fol_core.specs.Literals.{literal, equality, is_true_atom, is_true_literal, is_true_clause}
use Rattle.fol_core.specs.Meaning.{Meaning}
use Rattle.fol_core.specs.Tree.{Tree, app, Trees, none, more, trees_of}
use Rattle.fol_core.specs.Truth.{Assignment, value_of, values_of}
use Rattle.fol_core.specs.declared.clause.Literal.{Literal}
use Rattle.fol_core.specs.declared.symbols.Kind.TheVariants.{Function, Relation}
use Rattle.mace_cells.specs.World.{World, cell_of, many_cells}
use Rattle.mace_cells.specs.declared.trail.TrailEntry.{TrailEntry}
use Rattle.mace_ground.specs.Cells.{value_at}
use Rattle.cell_search.specs.Asking.{Passes, AreSides, IsAsked, AreSeenFalse}
use Rattle.cell_search.specs.Known.{seen, cell_seen, equation_seen, literal_seen}
use Rattle.cell_search.specs.Losses.{Extends}
use Rattle.cell_search.specs.declared.asks.Ask.{Ask}
use Rattle.cell_search.proofs.Sounding.{seen_so, cell_so, literal_so}

-- an equation has two sides
pub no_equation : (w : World) (es : List TrailEntry) (e : Assignment) (ts : List Tree) → (length ts ≡ 2 → ⊥) → equation_seen w es e (trees_of ts) ≡ None
no_equation w es e [] h = refl
no_equation w es e (s ∷ []) h = refl
no_equation w es e (s ∷ t ∷ []) h = absurd (h refl)
no_equation w es e (s ∷ t ∷ u ∷ us) h = refl

eqb_apart : (a b : ℕ) → (a ≡ b → ⊥) → (a == b) ≡ false
eqb_apart a b other = by (a == b) refl
  where
    by : (t : Bool) → (a == b) ≡ t → (a == b) ≡ false
    by true e = absurd (other (eqb-true a b e))
    by false e = e

eqb_same : (a : ℕ) → (a == a) ≡ true
eqb_same a = grind (arith, nat_tests)

passes_one : (p b : Bool) (v : ℕ) → v ≡ (if b then 1 else 0) → IsTrue (if p then b else not b) → MatchBool p (v ≡ 1) (v ≡ 1 → ⊥)
passes_one true true v is holds = is
passes_one true false v is holds = absurd (let h : false ≡ true = holds in cc)
passes_one false true v is holds = absurd (let h : false ≡ true = holds in cc)
passes_one false false v is holds = λ one. omega (arith, is, one)

passes_equal : (p : Bool) (a b v x : ℕ) → ((v ≡ a) × (b ≡ x)) ⊎ ((v ≡ b) × (a ≡ x)) → IsTrue (if p then a == b else not (a == b)) → MatchBool p (v ≡ x) (v ≡ x → ⊥)
passes_equal true a b v x (inl s) holds = s.0 ∙ eqb-true a b holds ∙ s.1
passes_equal true a b v x (inr s) holds = s.0 ∙ sym (eqb-true a b holds) ∙ s.1
passes_equal false a b v x (inl s) holds = λ is. eqb-false a b (not-true _ holds) (sym s.0 ∙ is ∙ sym s.1)
passes_equal false a b v x (inr s) holds = λ is. eqb-false a b (not-true _ holds) (s.1 ∙ sym is ∙ s.0)

module _ (w : World) (es : List TrailEntry) (e : Assignment) where
  pub sides_are : (s : ℕ) (ts : Trees) (other : Tree) (k v : ℕ) → k < many_cells w → Some k ≡ cell_seen w es e Function s ts → Some v ≡ seen w es e other → AreSides w es e (app s ts) other (k, v)
  sides_are s ts other k v within cell value = (within, λ m extends. (cell_so w m es e extends Function s ts k (sym cell), seen_so w m es e extends other v (sym value)))

  -- a relation's cell is asked for 1
  pub relation_asks : (positive : Bool) (r : ℕ) (ts : Trees) (k : ℕ) → (r ≡ equality → ⊥) → k < many_cells w → Some k ≡ cell_seen w es e Relation r ts
      → IsAsked w es e (literal positive (app r ts)) (record { cell = k; value = 1; positive = positive })
  relation_asks positive r ts k other within cell = (within, λ m extends holds. passes_one positive (m.relation r (values_of m e ts)) _ (cell_so w m es e extends Relation r ts k (sym cell)) (subst (λ (b : Bool). IsTrue (if positive then b else not b)) (atom_is m) holds))
    where
      atom_is : (m : Meaning) → is_true_atom m e (app r ts) ≡ m.relation r (values_of m e ts)
      atom_is m = rw (eqb_apart r equality other) refl

  -- one side's cell is asked for the value of the other
  pub equation_asks : (positive : Bool) (r : ℕ) (s t : Tree) (k v : ℕ) → r ≡ equality → AreSides w es e s t (k, v) ⊎ AreSides w es e t s (k, v)
      → IsAsked w es e (literal positive (app r (more s (more t none)))) (record { cell = k; value = v; positive = positive })
  equation_asks positive r s t k v is sides = (within sides, λ m extends holds. passes_equal positive (value_of m e s) (value_of m e t) _ v (both m extends sides) (subst (λ (b : Bool). IsTrue (if positive then b else not b)) (atom_is m) holds))
    where
      atom_is : (m : Meaning) → is_true_atom m e (app r (more s (more t none))) ≡ (value_of m e s == value_of m e t)
      atom_is m = let here : (r == equality) ≡ true = rw is (eqb_same equality) in rw here refl

      within : AreSides w es e s t (k, v) ⊎ AreSides w es e t s (k, v) → k < many_cells w
      within (inl h) = h.0
      within (inr h) = h.0

      both : (m : Meaning) → Extends w m es → AreSides w es e s t (k, v) ⊎ AreSides w es e t s (k, v)
          → ((value_at m (cell_of w k) ≡ value_of m e s) × (value_of m e t ≡ v)) ⊎ ((value_at m (cell_of w k) ≡ value_of m e t) × (value_of m e s ≡ v))
      both m extends (inl h) = inl (h.1 m extends)
      both m extends (inr h) = inr (h.1 m extends)

-- the literal that isn't known is true
abbrev pub IsUnknownTrue : Meaning → Assignment → List Literal → Option ℕ → Type 0
IsUnknownTrue m e ls None = ⊥
IsUnknownTrue m e ls (Some j) = (l : Literal) × ((l ≡ get_or ls j l) × IsTrue (is_true_literal m e (literal_of l)))

-- where an instance is true, so is a literal that is still to be looked at, or the one that isn't known
abbrev pub IsLeft : World → List TrailEntry → Assignment → List Literal → ℕ → Option ℕ → Type 0
IsLeft w es e ls i unknown =
    (m : Meaning) → Extends w m es → IsTrue (is_true_clause m e (map literal_of ls)) → IsTrue (is_true_clause m e (map literal_of (drop i ls))) ⊎ IsUnknownTrue m e ls unknown

module _ (w : World) (es : List TrailEntry) (e : Assignment) (ls : List Literal) where
  next : (m : Meaning) (i : ℕ) (l : Literal) → i < length ls → l ≡ get_or ls i l → is_true_clause m e (map literal_of (drop i ls)) ≡ (is_true_literal m e (literal_of l) || is_true_clause m e (map literal_of (drop (i + 1) ls)))
  next m i l within is =
      let same : suc i ≡ i + 1 = omega arith in
      ap (λ (ks : List Literal). is_true_clause m e (map literal_of ks)) (drop-cons ls i l within)
      ∙ ap (λ (k : Literal). is_true_literal m e (literal_of k) || is_true_clause m e (map literal_of (drop (suc i) ls))) (sym is)
      ∙ ap (λ (j : ℕ). is_true_literal m e (literal_of l) || is_true_clause m e (map literal_of (drop j ls))) same

  pub passed_false : (i : ℕ) (l : Literal) (unknown : Option ℕ) → i < length ls → l ≡ get_or ls i l → Some false ≡ literal_seen w es e (literal_of l) → IsLeft w es e ls i unknown → IsLeft w es e ls (i + 1) unknown
  passed_false i l unknown within is known left = λ m extends holds. elim (left m extends holds) [
    | inl rest ↦ inl (let no : is_true_literal m e (literal_of l) ≡ false = literal_so w m es e extends (literal_of l) false (sym known) in sym (ap (λ (b : Bool). b || is_true_clause m e (map literal_of (drop (i + 1) ls))) no) ∙ sym (next m i l within is) ∙ rest)
    | inr here ↦ inr here
  ]

  pub passed_open : (i : ℕ) (l : Literal) → i < length ls → l ≡ get_or ls i l → IsLeft w es e ls i None → IsLeft w es e ls (i + 1) (Some i)
  passed_open i l within is left = λ m extends holds. elim (left m extends holds) [
    | inl rest ↦ by m (is_true_literal m e (literal_of l)) refl (sym (next m i l within is) ∙ rest)
    | inr here ↦ absurd here
  ]
    where
      by : (m : Meaning) (b : Bool) → is_true_literal m e (literal_of l) ≡ b → IsTrue (is_true_literal m e (literal_of l) || is_true_clause m e (map literal_of (drop (i + 1) ls)))
          → IsTrue (is_true_clause m e (map literal_of (drop (i + 1) ls))) ⊎ IsUnknownTrue m e ls (Some i)
      by m true t holds = inr (l, (is, t))
      by m false t holds = inl (sym (ap (λ (b : Bool). b || is_true_clause m e (map literal_of (drop (i + 1) ls))) t) ∙ holds)

  pub all_false : (i : ℕ) (unknown : Option ℕ) → length ls ≤ i → unknown ≡ None → IsLeft w es e ls i unknown → (m : Meaning) → Extends w m es → IsTrue (is_true_clause m e (map literal_of ls)) → ⊥
  all_false i unknown past nothing left m extends holds = elim (left m extends holds) [
    | inl rest ↦ let none_left : is_true_clause m e (map literal_of (drop i ls)) ≡ false = ap (λ (ks : List Literal). is_true_clause m e (map literal_of ks)) (drop_all i ls past) in let h : false ≡ true = sym none_left ∙ rest in cc
    | inr here ↦ subst (λ (o : Option ℕ). IsUnknownTrue m e ls o) nothing here
  ]

  pub one_asks : (i j : ℕ) (unknown : Option ℕ) (l : Literal) (a : Ask) → length ls ≤ i → unknown ≡ Some j → j < length ls → l ≡ get_or ls j l → IsLeft w es e ls i unknown → IsAsked w es e (literal_of l) a
      → (a.cell < many_cells w) × ((m : Meaning) → Extends w m es → IsTrue (is_true_clause m e (map literal_of ls)) → Passes w m a)
  one_asks i j unknown l a past some within is left asked = (asked.0, λ m extends holds. asked.1 m extends (here m (left m extends holds)))
    where
      here : (m : Meaning) → IsTrue (is_true_clause m e (map literal_of (drop i ls))) ⊎ IsUnknownTrue m e ls unknown → IsTrue (is_true_literal m e (literal_of l))
      here m (inl rest) = let none_left : is_true_clause m e (map literal_of (drop i ls)) ≡ false = ap (λ (ks : List Literal). is_true_clause m e (map literal_of ks)) (drop_all i ls past) in absurd (let h : false ≡ true = sym none_left ∙ rest in cc)
      here m (inr unknown_true) =
          let o = subst (λ (p : Option ℕ). IsUnknownTrue m e ls p) some unknown_true in
          let same : o.0 ≡ l = o.1.0 ∙ get_or_default ls j o.0 l within ∙ sym is in
          subst (λ (k : Literal). IsTrue (is_true_literal m e (literal_of k))) same o.1.1

-- a literal that isn't seen to be false keeps the clause from it
pub seen_false : (w : World) (es : List TrailEntry) (e : Assignment) (ls : List Literal) (i : ℕ) (l : Literal) → i < length ls → l ≡ get_or ls i l → AreSeenFalse w es e (map literal_of ls) → literal_seen w es e (literal_of l) ≡ Some false
seen_false w es e [] i l within is h = absurd (omega (arith, within))
seen_false w es e (k ∷ ls) zero l within is h = subst (λ (x : Literal). literal_seen w es e (literal_of x) ≡ Some false) (sym is) h.0
seen_false w es e (k ∷ ls) (suc i) l within is h = seen_false w es e ls i l (omega (arith, within)) is h.1

abbrev pub IsUnseen : World → List TrailEntry → Assignment → List Literal → ℕ → Type 0
IsUnseen w es e ls j = (l : Literal) × ((l ≡ get_or ls j l) × (None ≡ literal_seen w es e (literal_of l)))

pub quiet_known : (w : World) (es : List TrailEntry) (e : Assignment) (ls : List Literal) (i : ℕ) (l : Literal) → i < length ls → l ≡ get_or ls i l → Some true ≡ literal_seen w es e (literal_of l) → AreSeenFalse w es e (map literal_of ls) → ⊥
quiet_known w es e ls i l within is known h = let both : ◌≡◌ {A = Option Bool} (Some true) (Some false) = known ∙ seen_false w es e ls i l within is h in absurd cc

pub quiet_unseen : (w : World) (es : List TrailEntry) (e : Assignment) (ls : List Literal) (i : ℕ) → i < length ls → IsUnseen w es e ls i → AreSeenFalse w es e (map literal_of ls) → ⊥
quiet_unseen w es e ls i within unseen h = let both : ◌≡◌ {A = Option Bool} None (Some false) = unseen.1.1 ∙ seen_false w es e ls i unseen.0 within unseen.1.0 h in absurd cc
