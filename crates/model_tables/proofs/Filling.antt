-- Lists of least witnesses, one value after the other.
use Rattle.std.proofs.Common.{◌≡◌, inl, inr, ℕ, zero, suc, ◌+◌, ◌*◌, ◌^◌, ◌<◌, List, [], ◌∷◌, ◌++◌, length, get_or, replicate, slice_index, refl, sym, ap, ◌∙◌, subst, arith}
use Rattle.std.proofs.lemmas.Bool.{cases_lt}
use Rattle.std.proofs.lemmas.Grind.{same_number_lists}
use Rattle.std.proofs.lemmas.List.{length-replicate}
use Rattle.std.proofs.Math.Nat.{pow-zero, pow-suc}
use Rattle.fol_core.specs.Truth.{Assignment}
use Rattle.fol_core.specs.SkolemAxioms.{SkolemAxiom}
use Rattle.model_tables.specs.Digits.{AreDigits, digits_count, digits_number}
use Rattle.model_tables.specs.Expansion.{assigned, IsLeastWitness, AreLeastWitnesses, with_values, IsExpansion}
use Rattle.model_tables.specs.Size.{AllBelow}
use Rattle.model_tables.specs.Tables.{Finite, place_from}
use Rattle.model_tables.proofs.Numbers.{number_below, number_same, digits_many, digits_at}
use Rattle.model_tables.proofs.Setting.{bounds}

get_or_before : (xs : List ℕ) (x i : ℕ) → i < length xs → get_or (xs ++ x ∷ []) i 0 ≡ get_or xs i 0
get_or_before [] x i h = absurd (omega arith)
get_or_before (y ∷ ys) x zero h = refl
get_or_before (y ∷ ys) x (suc i) h = get_or_before ys x i (omega arith)

get_or_last : (xs : List ℕ) (x : ℕ) → get_or (xs ++ x ∷ []) (length xs) 0 ≡ x
get_or_last [] x = refl
get_or_last (y ∷ ys) x = get_or_last ys x

length_more : (xs : List ℕ) (x : ℕ) → length (xs ++ x ∷ []) ≡ length xs + 1
length_more [] x = refl
length_more (y ∷ ys) x = omega (arith, length_more ys x)

-- the first k values are least witnesses
abbrev pub AreFilledTo : Finite → SkolemAxiom → ℕ → List ℕ → Type 0
AreFilledTo t w k values = (length values ≡ k)
    × ((ns : List ℕ) → AreDigits (bounds t w.variables) ns → digits_number (bounds t w.variables) ns < k → IsLeastWitness t (assigned w.variables ns) w (get_or values (digits_number (bounds t w.variables) ns) 0))

pub filled_none : (t : Finite) (w : SkolemAxiom) → AreFilledTo t w 0 []
filled_none t w = (refl, λ ns d l. absurd (omega arith))

pub filled_more : (t : Finite) (w : SkolemAxiom) (k : ℕ) (values ms : List ℕ) (v : ℕ) → AreFilledTo t w k values → AreDigits (bounds t w.variables) ms
    → digits_number (bounds t w.variables) ms ≡ k → IsLeastWitness t (assigned w.variables ms) w v → AreFilledTo t w (k + 1) (values ++ v ∷ [])
filled_more t w k values ms v h digits here least = (length_more values v ∙ ap (λ (n : ℕ). n + 1) h.0, each)
  where
    bs : List ℕ
    bs = bounds t w.variables

    each : (ns : List ℕ) → AreDigits bs ns → digits_number bs ns < k + 1 → IsLeastWitness t (assigned w.variables ns) w (get_or (values ++ v ∷ []) (digits_number bs ns) 0)
    each ns d l = elim (cases_lt (digits_number bs ns) k) [
      | inl before ↦ subst (IsLeastWitness t (assigned w.variables ns) w) (sym (get_or_before values v (digits_number bs ns) (omega (arith, h.0)))) (h.1 ns d before)
      | inr now ↦ (
          let same : ms ≡ ns = number_same bs ms ns digits d (omega (arith, here)) in
          let last : digits_number bs ns ≡ length values = omega (arith, h.0) in
          subst (λ (ds : List ℕ). IsLeastWitness t (assigned w.variables ds) w (get_or (values ++ v ∷ []) (digits_number bs ns) 0)) same
          (subst (IsLeastWitness t (assigned w.variables ms) w) (sym (ap (λ (n : ℕ). get_or (values ++ v ∷ []) n 0) last ∙ get_or_last values v)) least))
    ]

count_power : (n : ℕ) (xs : List ℕ) → digits_count (replicate (length xs) n) ≡ n ^ length xs
count_power n [] = sym (pow-zero n)
count_power n (x ∷ xs) = ap (λ (k : ℕ). n * k) (count_power n xs) ∙ omega (arith, pow-suc n (length xs))

digits_of : (n : ℕ) (xs ns : List ℕ) → length ns ≡ length xs → AllBelow n ns → AreDigits (replicate (length xs) n) ns
digits_of n [] [] h below = tt
digits_of n [] (m ∷ ns) h below = absurd (omega arith)
digits_of n (x ∷ xs) [] h below = absurd (omega arith)
digits_of n (x ∷ xs) (m ∷ ns) h below = (below.0, digits_of n xs ns (omega arith) below.1)

place_number : (n : ℕ) (xs ns : List ℕ) (p : ℕ) → length ns ≡ length xs → place_from n p ns ≡ p * digits_count (replicate (length xs) n) + digits_number (replicate (length xs) n) ns
place_number n [] [] p h = omega arith
place_number n [] (m ∷ ns) p h = absurd (omega arith)
place_number n (x ∷ xs) [] p h = absurd (omega arith)
place_number n (x ∷ xs) (m ∷ ns) p h = omega (arith, place_number n xs ns (p * n + m) (omega arith))

pub filled_all : (t : Finite) (w : SkolemAxiom) (k : ℕ) (values : List ℕ) → AreFilledTo t w k values → digits_count (bounds t w.variables) ≡ k → AreLeastWitnesses t w values
filled_all t w k values h all = (h.0 ∙ sym all ∙ count_power (t.top + 1) w.variables, each)
  where
    each : (ns : List ℕ) → length ns ≡ length w.variables → AllBelow (t.top + 1) ns → IsLeastWitness t (assigned w.variables ns) w (slice_index values (place_from (t.top + 1) 0 ns))
    each ns many below =
        let d = digits_of (t.top + 1) w.variables ns many below in
        let place : place_from (t.top + 1) 0 ns ≡ digits_number (bounds t w.variables) ns = omega (arith, place_number (t.top + 1) w.variables ns 0 many) in
        subst (λ (p : ℕ). IsLeastWitness t (assigned w.variables ns) w (get_or values p 0)) (sym place) (h.1 ns d (omega (arith, number_below (bounds t w.variables) ns d, all)))

-- there is one list of least witnesses
least_once : (t : Finite) (e : Assignment) (w : SkolemAxiom) (a b : ℕ) → IsLeastWitness t e w a → IsLeastWitness t e w b → a ≡ b
least_once t e w a b (inl h) (inl k) = elim (cases_lt a b) [
  | inl lt ↦ absurd (k.2 a lt h.1)
  | inr ge ↦ elim (cases_lt b a) [ inl lt ↦ absurd (h.2 b lt k.1) | inr le ↦ omega arith ]
]
least_once t e w a b (inl h) (inr k) = absurd (k.1 a h.0 h.1)
least_once t e w a b (inr h) (inl k) = absurd (h.1 b k.0 k.1)
least_once t e w a b (inr h) (inr k) = h.0 ∙ sym k.0

below_of : (n : ℕ) (xs ns : List ℕ) → AreDigits (replicate (length xs) n) ns → AllBelow n ns
below_of n xs [] d = tt
below_of n [] (m ∷ ns) d = absurd d
below_of n (x ∷ xs) (m ∷ ns) d = (d.0, below_of n xs ns d.1)

values_once : (t : Finite) (w : SkolemAxiom) (vs us : List ℕ) → AreLeastWitnesses t w vs → AreLeastWitnesses t w us → vs ≡ us
values_once t w vs us h k = same_number_lists vs us (h.0 ∙ sym k.0) each
  where
    each : (p : ℕ) → p < length vs → get_or vs p 0 ≡ get_or us p 0
    each p less =
        let ds = digits_at (bounds t w.variables) p (omega (arith, h.0, count_power (t.top + 1) w.variables)) in
        let ns = ds.0 in
        let many : length ns ≡ length w.variables = digits_many _ _ ds.1.0 ∙ length-replicate (length w.variables) (t.top + 1) in
        let below = below_of (t.top + 1) w.variables ns ds.1.0 in
        let place : place_from (t.top + 1) 0 ns ≡ p = omega (arith, place_number (t.top + 1) w.variables ns 0 many, ds.1.1) in
        subst (λ (q : ℕ). get_or vs q 0 ≡ get_or us q 0) place (least_once t (assigned w.variables ns) w _ _ (h.1 ns many below) (k.1 ns many below))

pub one_expansion : (ws : List SkolemAxiom) (t u v : Finite) → IsExpansion t ws u → IsExpansion t ws v → u ≡ v
one_expansion [] t u v h k = h ∙ sym k
one_expansion (w ∷ ws) t u v h k =
    let same = values_once t w h.0 k.0 h.1.0 k.1.0 in
    one_expansion ws (with_values t w.symbol h.0) u v h.1.1 (subst (λ (ns : List ℕ). IsExpansion (with_values t w.symbol ns) ws v) (sym same) k.1.1)
