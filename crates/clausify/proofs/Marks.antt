-- Marks tell which symbols are used.
use Rattle.std.proofs.Common.{◌≡◌, ◌<◌, ◌≤◌, ℕ, zero, suc, ◌+◌, ◌-◌, max, Bool, true, false, ◌||◌, if◌then◌else◌, List, [], ◌∷◌, ◌++◌, length, take, drop, replicate, get_or, refl, sym, ap, ◌∙◌, add-one, drop-cons, arith, append_assoc}
use Rattle.std.proofs.Math.Bool.{or_assoc, or-false}
use Rattle.std.proofs.lemmas.List.{append-nil, drop_all, take_all, take-append-le, length-replicate}
use Rattle.fol_core.specs.Bound.{uses_symbol}
use Rattle.fol_core.specs.FormulaView.{fol_of}
use Rattle.fol_core.specs.Occurs.{AreMarked, above_numerals, size_needed}
use Rattle.fol_problem.specs.Stated.{Said, all_said}
use Rattle.fol_core.specs.SymbolTable.{Symbol}
use Rattle.fol_problem.specs.declared.problem.Input.{Input}
use Rattle.clausify.specs.Input.{formulas, is_used, numbers_passing, used_symbols}
use Rattle.clausify.specs.Seen.{is_marked}

-- one more number, and none
pub passing_next : (test : ℕ → Bool) (found : List ℕ) (size i : ℕ) (b : Bool) → i < size → b ≡ test i
    → (found ++ (if b then i ∷ [] else [])) ++ numbers_passing test (i + 1) (size - (i + 1)) ≡ found ++ numbers_passing test i (size - i)
passing_next test found size i b lt is =
    let more_left : size - i ≡ suc (size - (i + 1)) = omega arith in
    append_assoc found (if b then i ∷ [] else []) (numbers_passing test (i + 1) (size - (i + 1)))
    ∙ by b ∙ ap (λ c. found ++ (if c then i ∷ numbers_passing test (i + 1) (size - (i + 1)) else numbers_passing test (i + 1) (size - (i + 1)))) is
    ∙ sym (ap (λ k. found ++ numbers_passing test i k) more_left)
  where
    by : (b : Bool) → found ++ ((if b then i ∷ [] else []) ++ numbers_passing test (i + 1) (size - (i + 1))) ≡ found ++ (if b then i ∷ numbers_passing test (i + 1) (size - (i + 1)) else numbers_passing test (i + 1) (size - (i + 1)))
    by true = refl
    by false = refl

pub passing_end : (test : ℕ → Bool) (found : List ℕ) (size i : ℕ) → size ≤ i → found ++ numbers_passing test i (size - i) ≡ found
passing_end test found size i end = let nothing_left : size - i ≡ 0 = omega arith in ap (λ k. found ++ numbers_passing test i k) nothing_left ∙ append-nil found

-- tests that agree
passing_same : (p q : ℕ → Bool) (n left : ℕ) → ((k : ℕ) → k < n + left → p k ≡ q k) → numbers_passing p n left ≡ numbers_passing q n left
passing_same p q n zero h = refl
passing_same p q n (suc left) h =
    ap (λ b. if b then n ∷ numbers_passing p (n + 1) left else numbers_passing p (n + 1) left) (h n (omega arith))
    ∙ ap (λ ns. if q n then n ∷ ns else ns) (passing_same p q (n + 1) left (λ k lt. h k (omega (arith, lt))))

unmarked : (size n : ℕ) → is_marked (replicate size false) n ≡ false
unmarked zero n = refl
unmarked (suc size) zero = refl
unmarked (suc size) (suc n) = unmarked size n

-- the marked symbols are those that are used
pub marks_are_uses : (table : List Symbol) (start marks : List Bool) (ss : List Said) → start ≡ replicate (length table) false → length marks ≡ length start → AreMarked (is_used ss) start marks
    → numbers_passing (is_marked marks) 0 (length marks) ≡ used_symbols table ss
marks_are_uses table start marks ss none_yet many marked =
    let size : length start ≡ length table = ap (λ (bs : List Bool). length bs) none_yet ∙ length-replicate (length table) false in
    ap (numbers_passing (is_marked marks) 0) (many ∙ size)
    ∙ passing_same (is_marked marks) (is_used ss) 0 (length table) (λ k lt. marked k (omega (arith, lt, size))
    ∙ ap (λ ms. is_marked ms k || is_used ss k) none_yet ∙ ap (λ b. b || is_used ss k) (unmarked (length table) k))

-- what is written back in place of a list as long
pub front : {A : Type 0} (n : ℕ) (xs ys : List A) → length xs ≡ n → take n (xs ++ drop (length xs) ys) ≡ xs
front n xs ys e = rw (take-append-le n xs (drop (length xs) ys) (omega arith)) (take_all n xs (omega arith))

next_input : (inputs : List Input) (i : ℕ) (x : Input) → i < length inputs → x ≡ get_or inputs i x → drop i inputs ≡ x ∷ drop (i + 1) inputs
next_input inputs i x lt is = rw (add-one, drop-cons inputs i x) (ap (λ s. s ∷ drop (suc i) inputs) (sym is))

-- what a further formula's symbols leave to mark
pub marks_next : (inputs : List Input) (i : ℕ) (x : Input) (first now new : List Bool) → i < length inputs → x ≡ get_or inputs i x → AreMarked (λ s. uses_symbol s (fol_of x.formula.shape)) now new
    → (s : ℕ) → s < length now → (is_marked now s || is_used (all_said (drop i inputs)) s) ≡ (is_marked first s || is_used (all_said inputs) s)
    → (is_marked new s || is_used (all_said (drop (i + 1) inputs)) s) ≡ (is_marked first s || is_used (all_said inputs) s)
marks_next inputs i x first now new l e marked s there rest =
    ap (λ b. b || is_used (all_said (drop (i + 1) inputs)) s) (marked s there)
    ∙ or_assoc (is_marked now s) (uses_symbol s (fol_of x.formula.shape)) (is_used (all_said (drop (i + 1) inputs)) s)
    ∙ ap (λ xs. is_marked now s || is_used (all_said xs) s) (sym (next_input inputs i x l e)) ∙ rest

pub marks_end : (inputs : List Input) (i : ℕ) (first now : List Bool) (s : ℕ) → length inputs ≤ i → (is_marked now s || is_used (all_said (drop i inputs)) s) ≡ (is_marked first s || is_used (all_said inputs) s)
    → is_marked now s ≡ (is_marked first s || is_used (all_said inputs) s)
marks_end inputs i first now s end h = sym (or-false (is_marked now s)) ∙ ap (λ xs. is_marked now s || is_used (all_said xs) s) (sym (drop_all i inputs end)) ∙ h

-- what is needed so far and for the formulas to come
pub needed_next : (inputs : List Input) (i : ℕ) (x : Input) (above : ℕ) → i < length inputs → x ≡ get_or inputs i x
    → max (max (above_numerals (fol_of x.formula.shape)) above) (size_needed (formulas (all_said (drop (i + 1) inputs)))) ≡ max above (size_needed (formulas (all_said (drop i inputs))))
needed_next inputs i x above l e = omega (arith, ap (λ xs. size_needed (formulas (all_said xs))) (next_input inputs i x l e))

pub needed_end : (inputs : List Input) (i above : ℕ) → length inputs ≤ i → max above (size_needed (formulas (all_said (drop i inputs)))) ≡ above
needed_end inputs i above end = omega (arith, ap (λ xs. size_needed (formulas (all_said xs))) (drop_all i inputs end))
