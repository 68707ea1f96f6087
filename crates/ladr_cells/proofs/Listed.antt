-- The values of tables at arguments that are elements.
use Rattle.std.proofs.Common.{◌≡◌, ℕ, zero, suc, ◌+◌, ◌<◌, Bool, true, false, ◌==◌, ◌||◌, not, nat_le, if◌then◌else◌, List, [], ◌∷◌, map, length, refl, sym, ap, ◌∙◌, arith}
use Rattle.std.proofs.lemmas.Bool.{false≢true}
use Rattle.std.proofs.lemmas.Bool.Decides.{nat_tests}
use Rattle.fol_core.specs.Bound.{uses_symbol}
use Rattle.fol_core.specs.Fol.{Fol}
use Rattle.fol_core.specs.Occurs.{occurs_in}
use Rattle.fol_core.specs.SkolemAxioms.{SkolemAxiom, IsApart}
use Rattle.fol_problem.specs.Stated.{Said, Stated, AreNewTo}
use Rattle.fol_core.specs.SymbolTable.{Symbol, kind_at}
use Rattle.mace_ground.proofs.Grounding.{list_below}
use Rattle.model_tables.proofs.Expanding.{used_apart}
use Rattle.model_tables.specs.Size.{bound_of, cells_for, AllBelow, AreListings, formulas_of, IsInterpretation}
use Rattle.model_tables.specs.Tables.{Listing, Finite, row_of, has, listed_value, place_from, meaning_of}

-- a symbol of some formula is apart from symbols that stand in none
pub occurring_apart : (ws : List SkolemAxiom) (ss : List Said) → AreNewTo ss ws → (s : ℕ) → occurs_in s (map (λ x. x.formula) ss) ≡ true → IsApart s ws
occurring_apart ws [] new s i = absurd (false≢true i)
occurring_apart ws (x ∷ ss) new s i = by (uses_symbol s x.formula) refl i (λ j. occurring_apart ws ss new.1 s j)
  where
    by : (b : Bool) → uses_symbol s x.formula ≡ b → (b || occurs_in s (map (λ x. x.formula) ss)) ≡ true → (occurs_in s (map (λ x. x.formula) ss) ≡ true → IsApart s ws) → IsApart s ws
    by true e j rest = used_apart ws x.formula new.0 s e
    by false e j rest = rest j

-- what an interpretation's tables have for a symbol with an entry
abbrev pub Entry : ℕ → List Fol → ℕ → List Symbol → Finite → ℕ → Type 0
Entry n fs k ss t s = (s < length ss) × (occurs_in (k + s) fs ≡ true) × AllBelow (bound_of n (kind_at ss s)) (row_of t s)

abbrev tables : ℕ → List Listing → Finite
tables top ls = record { top = top; rows = ls }

entry_at : (n : ℕ) (fs : List Fol) (k : ℕ) (ss : List Symbol) (top : ℕ) (ls : List Listing) (s : ℕ) → AreListings n fs k ss ls → has (tables top ls) s ≡ true → Entry n fs k ss (tables top ls) s
entry_at n fs k [] top [] s h i = absurd (false≢true i)
entry_at n fs k [] top (l ∷ ls) s h i = absurd h
entry_at n fs k (x ∷ ss) top [] s h i = absurd (false≢true i)
entry_at n fs k (x ∷ ss) top (l ∷ ls) zero h i = (omega arith, by (occurs_in k fs) refl, h.0.2)
  where
    same : k + zero ≡ k
    same = omega arith

    by : (b : Bool) → occurs_in k fs ≡ b → occurs_in (k + zero) fs ≡ true
    by true e = ap (λ (j : ℕ). occurs_in j fs) same ∙ e
    by false e = absurd (let many : length l.values ≡ 0 = h.0.1 ∙ ap (cells_for n x.arity) e in let none : not (length l.values == 0) ≡ false = rw many refl in false≢true (sym none ∙ i))
entry_at n fs k (x ∷ ss) top (l ∷ ls) (suc s) h i =
    let rest = entry_at n fs (suc k) ss top ls s h.1 i in
    let same : suc k + s ≡ k + suc s = omega arith in
    (omega (arith, rest.0), ap (λ (j : ℕ). occurs_in j fs) (sym same) ∙ rest.1, rest.2)

pub entry_of : (n : ℕ) (p : Stated) (t : Finite) (s : ℕ) → IsInterpretation n p t → has t s ≡ true → (s < length p.symbols) × (occurs_in s (formulas_of p) ≡ true) × AllBelow (bound_of n (kind_at p.symbols s)) (row_of t s)
entry_of n p t s is h =
    let e = entry_at n (formulas_of p) 0 p.symbols t.top t.rows s is.1 h in
    let same : 0 + s ≡ s = omega arith in
    (e.0, ap (λ (j : ℕ). occurs_in j (formulas_of p)) (sym same) ∙ e.1, e.2)

-- a listed value is below the bound of its row
pub listed_below : (t : Finite) (s b : ℕ) (xs : List ℕ) → 0 < b → AllBelow b (row_of t s) → listed_value t s xs < b
listed_below t s b xs some below = list_below b (row_of t s) (place_from (t.top + 1) 0 xs) some below

-- so a function has it, and a relation holds where it is 1
pub function_listed : (t : Finite) (s n : ℕ) (xs : List ℕ) → t.top + 1 ≡ n → listed_value t s xs < n → (meaning_of t).function s xs ≡ listed_value t s xs
function_listed t s n xs size below = by (nat_le (listed_value t s xs) t.top) refl
  where
    by : (b : Bool) → nat_le (listed_value t s xs) t.top ≡ b → (if b then listed_value t s xs else 0) ≡ listed_value t s xs
    by true e = refl
    by false e = absurd (grind (arith, nat_tests))

abbrev pub bit_of : Bool → ℕ
bit_of b = if b then 1 else 0

pub relation_listed : (a b : ℕ) → a < 2 → b < 2 → bit_of (a == 1) ≡ bit_of (b == 1) → a ≡ b
relation_listed zero zero h k e = refl
relation_listed zero (suc zero) h k e = e
relation_listed (suc zero) zero h k e = e
relation_listed (suc zero) (suc zero) h k e = refl
relation_listed (suc (suc a)) b h k e = absurd (omega (arith, h))
relation_listed zero (suc (suc b)) h k e = absurd (omega (arith, k))
relation_listed (suc zero) (suc (suc b)) h k e = absurd (omega (arith, k))
