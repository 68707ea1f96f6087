-- What holds of each use holds of weaker ones, and of lists of formulas.
use Rattle.std.proofs.Common.{◌≡◌, ℕ, ◌<◌, Bool, true, ◌==◌, List, [], ◌∷◌, ◌++◌, refl, arith}
use Rattle.std.specs.List.{AllByRecursion}
use Rattle.std.proofs.lemmas.Bool.{or_left, or_right, eq-eqb}
use Rattle.cell_search.specs.Searchable.{count_of}
use Rattle.fol_core.specs.Bound.{has_symbol, have_symbol, uses_symbol}
use Rattle.fol_core.specs.Fol.{Fol, verum, falsum, equal, atom, negation, conjunction, disjunction, implication, equivalence, forall, exists}
use Rattle.fol_core.specs.Occurs.{above_elements, above_all_elements, above_numerals}
use Rattle.fol_core.specs.Tree.{Tree, var, elem, app, Trees, none, more}
use Rattle.fol_core.specs.declared.symbols.Kind.{Kind}
use Rattle.fol_core.specs.declared.symbols.Kind.TheVariants.{Function, Relation}
use Rattle.ladr_cells.specs.Uses.{Use, applies, mentions, IsTermOf, AreTermsOf, IsFormulaOf}

-- P gives Q where a test on symbols holds, and below a number for elements
abbrev pub Symbols : (Use → Type 0) → (Use → Type 0) → (ℕ → Bool) → Type 0
Symbols P Q test = (kind : Kind) (s n : ℕ) → test s ≡ true → P (applies kind s n) → Q (applies kind s n)

abbrev pub Elements : (Use → Type 0) → (Use → Type 0) → ℕ → Type 0
Elements P Q above = (k : ℕ) → k < above → P (mentions k) → Q (mentions k)

module _ (P Q : Use → Type 0) where
  mutual
    term_weaker : (t : Tree) → Symbols P Q (λ s. has_symbol s t) → Elements P Q (above_elements t) → IsTermOf P t → IsTermOf Q t
    term_weaker (var x) a b h = tt
    term_weaker (elem k) a b h = b k (omega arith) h
    term_weaker (app f ts) a b h =
        (a Function f (count_of ts) (or_left (f == f) (have_symbol f ts) (eq-eqb f f refl)) h.0, terms_weaker ts (λ kind s n e. a kind s n (or_right (s == f) (have_symbol s ts) e)) b h.1)

    terms_weaker : (ts : Trees) → Symbols P Q (λ s. have_symbol s ts) → Elements P Q (above_all_elements ts) → AreTermsOf P ts → AreTermsOf Q ts
    terms_weaker none a b h = tt
    terms_weaker (more t ts) a b h = (
      term_weaker t (λ kind s n e. a kind s n (or_left (has_symbol s t) (have_symbol s ts) e)) (λ k l. b k (omega (arith, l))) h.0,
      terms_weaker ts (λ kind s n e. a kind s n (or_right (has_symbol s t) (have_symbol s ts) e)) (λ k l. b k (omega (arith, l))) h.1,
    )

  pub formula_weaker : (f : Fol) → Symbols P Q (λ s. uses_symbol s f) → Elements P Q (above_numerals f) → IsFormulaOf P f → IsFormulaOf Q f
  formula_weaker verum a b h = tt
  formula_weaker falsum a b h = tt
  formula_weaker (equal s t) a b h = (
    term_weaker s (λ kind r n e. a kind r n (or_left (has_symbol r s) (has_symbol r t) e)) (λ k l. b k (omega (arith, l))) h.0,
    term_weaker t (λ kind r n e. a kind r n (or_right (has_symbol r s) (has_symbol r t) e)) (λ k l. b k (omega (arith, l))) h.1,
  )
  formula_weaker (atom r ts) a b h =
      (a Relation r (count_of ts) (or_left (r == r) (have_symbol r ts) (eq-eqb r r refl)) h.0, terms_weaker ts (λ kind s n e. a kind s n (or_right (s == r) (have_symbol s ts) e)) b h.1)
  formula_weaker (negation f) a b h = formula_weaker f a b h
  formula_weaker (conjunction f g) a b h = (
    formula_weaker f (λ kind s n e. a kind s n (or_left (uses_symbol s f) (uses_symbol s g) e)) (λ k l. b k (omega (arith, l))) h.0,
    formula_weaker g (λ kind s n e. a kind s n (or_right (uses_symbol s f) (uses_symbol s g) e)) (λ k l. b k (omega (arith, l))) h.1,
  )
  formula_weaker (disjunction f g) a b h = (
    formula_weaker f (λ kind s n e. a kind s n (or_left (uses_symbol s f) (uses_symbol s g) e)) (λ k l. b k (omega (arith, l))) h.0,
    formula_weaker g (λ kind s n e. a kind s n (or_right (uses_symbol s f) (uses_symbol s g) e)) (λ k l. b k (omega (arith, l))) h.1,
  )
  formula_weaker (implication f g) a b h = (
    formula_weaker f (λ kind s n e. a kind s n (or_left (uses_symbol s f) (uses_symbol s g) e)) (λ k l. b k (omega (arith, l))) h.0,
    formula_weaker g (λ kind s n e. a kind s n (or_right (uses_symbol s f) (uses_symbol s g) e)) (λ k l. b k (omega (arith, l))) h.1,
  )
  formula_weaker (equivalence f g) a b h = (
    formula_weaker f (λ kind s n e. a kind s n (or_left (uses_symbol s f) (uses_symbol s g) e)) (λ k l. b k (omega (arith, l))) h.0,
    formula_weaker g (λ kind s n e. a kind s n (or_right (uses_symbol s f) (uses_symbol s g) e)) (λ k l. b k (omega (arith, l))) h.1,
  )
  formula_weaker (forall x f) a b h = formula_weaker f a b h
  formula_weaker (exists x f) a b h = formula_weaker f a b h

pub all_weaker : {X : Type 0} (P Q : X → Type 0) → ((x : X) → P x → Q x) → (xs : List X) → AllByRecursion P xs → AllByRecursion Q xs
all_weaker P Q f [] h = tt
all_weaker P Q f (x ∷ xs) h = (f x h.0, all_weaker P Q f xs h.1)

pub all_append : {X : Type 0} (P : X → Type 0) (xs ys : List X) → AllByRecursion P xs → AllByRecursion P ys → AllByRecursion P (xs ++ ys)
all_append P [] ys h k = k
all_append P (x ∷ xs) ys h k = (h.0, all_append P xs ys h.1 k)
