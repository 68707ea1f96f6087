-- Terms by how many arguments they have.
use Rattle.std.proofs.Common.{◌≡◌, ℕ, suc, Bool, false, ◌&&◌, if◌then◌else◌, ◌==◌, ◌≤◌, List, [], ◌∷◌, length, None, refl, sym, ap, arith}
use Rattle.std.proofs.lemmas.Bool.{false≢true}
use Rattle.std.proofs.lemmas.Bool.Decides.{nat_tests}
use Rattle.std.specs.Prelude.{codes}
use Rattle.std.specs.Str.{bytes_eq}
use Rattle.fol_core.specs.NamesOnce.{is_in}
use Rattle.fol_core.specs.RawTree.{RawTree, named, raws_of}
use Rattle.ladr_formulas.specs.Formulas.{Variable}
use Rattle.ladr_formulas.proofs.TermLemmas.{arity_is_length}
use Rattle.fol_core.specs.Weights.{number}
use Rattle.ladr_rules.specs.Rules.{equation_sides, sides_of, kbo_sides, kbo_rule, single_value, is_value, weight_of_value}
use Rattle.ladr_rules.specs.Attributes.{is_label, limited_number, hint_weight}
use Rattle.ladr_rules.specs.Seen.{is_joined}

no_one : (n : ℕ) → (suc (suc n) == 1) ≡ false
no_one n = grind (arith, nat_tests)

pub no_none : (n : ℕ) → (suc n == 0) ≡ false
no_none n = grind (arith, nat_tests)

pub label_by_length : (s : List ℕ) (ts : List RawTree) → is_label (named s (raws_of ts)) ≡ (length ts == 1 && bytes_eq s (codes "label"))
label_by_length s [] = refl
label_by_length s (t ∷ []) = refl
label_by_length s (t ∷ u ∷ ts) = ap (λ (b : Bool). b && bytes_eq s (codes "label")) (sym (no_one (length ts)))

pub number_by_length : (greatest : ℕ) (s : List ℕ) (ts : List RawTree) → limited_number greatest (named s (raws_of ts)) ≡ (if length ts == 0 then limited_number greatest (named s (raws_of [])) else None)
number_by_length greatest s [] = refl
number_by_length greatest s (t ∷ ts) = ap (λ (b : Bool). if b then limited_number greatest (named s (raws_of [])) else None) (sym (no_none (length ts)))

pub no_weight : (s : List ℕ) (ts : List RawTree) → (length ts == 1) ≡ false → hint_weight (named s (raws_of ts)) ≡ None
no_weight s [] h = refl
no_weight s (t ∷ []) h = absurd (false≢true (sym h))
no_weight s (t ∷ u ∷ ts) h = refl

pub joined_by_length : (s : List ℕ) (ts : List RawTree) → is_joined (named s (raws_of ts)) ≡ (length ts == 2 && bytes_eq s (codes "#"))
joined_by_length s ts = ap (λ (n : ℕ). n == 2 && bytes_eq s (codes "#")) (arity_is_length ts)

pub no_equation : (s w : List ℕ) (ts : List RawTree) (v : RawTree) → (length ts == 1) ≡ false → equation_sides s (named w (raws_of ts)) v ≡ None
no_equation s w [] v h = refl
no_equation s w (t ∷ []) v h = absurd (false≢true (sym h))
no_equation s w (t ∷ u ∷ ts) v h = refl

pub no_sides : (s : List ℕ) (ts : List RawTree) → (length ts == 2) ≡ false → sides_of (named s (raws_of ts)) ≡ None
no_sides s [] h = refl
no_sides s (t ∷ []) h = refl
no_sides s (t ∷ u ∷ []) h = absurd (false≢true (sym h))
no_sides s (t ∷ u ∷ v ∷ ts) h = refl

pub no_kbo : (s : List ℕ) (ts : List RawTree) → (length ts == 2) ≡ false → kbo_rule (named s (raws_of ts)) ≡ None
no_kbo s [] h = refl
no_kbo s (t ∷ []) h = refl
no_kbo s (t ∷ u ∷ []) h = absurd (false≢true (sym h))
no_kbo s (t ∷ u ∷ v ∷ ts) h = refl

pub kbo_by_length : (s f : List ℕ) (ts : List RawTree) (v : RawTree) → kbo_sides s (named f (raws_of ts)) v ≡ (if length ts == 0 then kbo_sides s (named f (raws_of [])) v else None)
kbo_by_length s f [] v = refl
kbo_by_length s f (t ∷ ts) v = ap (λ (b : Bool). if b then kbo_sides s (named f (raws_of [])) v else None) (sym (no_none (length ts)))

pub single_by_length : (names : List (List ℕ)) (s x : List ℕ) (ts : List RawTree) → single_value names s (named x (raws_of ts)) ≡ (length ts == 0 && (bytes_eq s (codes "weight") && is_in x names))
single_by_length names s x [] = refl
single_by_length names s x (t ∷ ts) = ap (λ (b : Bool). b && (bytes_eq s (codes "weight") && is_in x names)) (sym (no_none (length ts)))

pub no_value : (names : List (List ℕ)) (s : List ℕ) (ts : List RawTree) → 3 ≤ length ts → is_value names (named s (raws_of ts)) ≡ false
no_value names s [] h = absurd (omega arith)
no_value names s (t ∷ []) h = absurd (omega arith)
no_value names s (t ∷ u ∷ []) h = absurd (omega arith)
no_value names s (t ∷ u ∷ v ∷ ts) h = refl

pub no_worth : (vs : List Variable) (s : List ℕ) (ts : List RawTree) → 3 ≤ length ts → weight_of_value vs (named s (raws_of ts)) ≡ number 0
no_worth vs s [] h = absurd (omega arith)
no_worth vs s (t ∷ []) h = absurd (omega arith)
no_worth vs s (t ∷ u ∷ []) h = absurd (omega arith)
no_worth vs s (t ∷ u ∷ v ∷ ts) h = refl
