-- A text has one frame.
use Rattle.std.proofs.Common.{◌≡◌, inl, inr, ℕ, suc, ◌+◌, ◌==◌, not, Bool, true, false, if◌then◌else◌, List, [], ◌∷◌, ◌++◌, length, take, drop, Option, Some, None, codes, refl, sym, ap, ap₂, ◌∙◌, subst, append_assoc, arith}
use Rattle.std.specs.Prelude.{slice_get, MatchOption}
use Rattle.std.specs.List.{prefix_len}
use Rattle.std.proofs.lemmas.Bool.{true≢false, and_parts}
use Rattle.std.proofs.lemmas.Bool.Decides.{nat_tests}
use Rattle.std.proofs.lemmas.List.{length-append}
use Rattle.ladr_check.proofs.Standing.{same_line}
use Rattle.ladr_lex.proofs.Numerals.{decimal_whole}
use Rattle.ladr_lex.specs.Comments.{begins_with, is_in_line}
use Rattle.ladr_lex.specs.Numeral.{whole_number}
use Rattle.ladr_output.proofs.Standing.{is_unbroken, unbroken_append, decimal_unbroken}
use Rattle.proof_text.specs.Frame.{first_line, count_told, IsFramed, EndsInside, IsUnframed}

begun : (word line : List ℕ) → begins_with word line ≡ true → line ≡ word ++ drop (length word) line
begun [] line h = refl
begun (c ∷ cs) [] h = absurd (true≢false (sym h))
begun (c ∷ cs) (b ∷ bs) h =
    let both = and_parts (b == c) (begins_with cs bs) h in
    let first : b ≡ c = (let test = both.0 in grind (arith, nat_tests)) in
    ap₂ (λ (x : ℕ) (xs : List ℕ). x ∷ xs) first (begun cs bs both.1)

-- a line that tells a number ends nowhere before its end
told_within : (line : List ℕ) (n : ℕ) → count_told line ≡ Some n → is_unbroken line ≡ true
told_within line n tells = by (begins_with (codes "% Input ") line) refl tells
  where
    by : (b : Bool) → begins_with (codes "% Input ") line ≡ b → (if b then whole_number (drop 8 line) else None) ≡ Some n → is_unbroken line ≡ true
    by true begins told =
        let number : is_unbroken (drop 8 line) ≡ true = subst (λ (t : List ℕ). is_unbroken t ≡ true) (sym (decimal_whole (drop 8 line) n told)) (decimal_unbroken n) in
        subst (λ (t : List ℕ). is_unbroken t ≡ true) (sym (begun (codes "% Input ") line begins)) (unbroken_append (codes "% Input ") (drop 8 line) refl number)
    by false begins told = absurd cc

cancel : (l x y : List ℕ) → l ++ x ≡ l ++ y → x ≡ y
cancel [] x y e = e
cancel (a ∷ l) x y e = cancel l x y cc

split_same : (p q r s : List ℕ) → length p ≡ length q → p ++ r ≡ q ++ s → (p ≡ q) × (r ≡ s)
split_same [] [] r s n e = (refl, e)
split_same [] (y ∷ q) r s n e = absurd (omega (arith, n))
split_same (x ∷ p) [] r s n e = absurd (omega (arith, n))
split_same (x ∷ p) (y ∷ q) r s n e =
    let rest : p ++ r ≡ q ++ s = cc in
    let first : x ≡ y = cc in
    let both = split_same p q r s (omega (arith, n)) rest in
    (ap₂ (λ (z : ℕ) (zs : List ℕ). z ∷ zs) first both.0, both.1)

pub framed_once : (bytes p q r s : List ℕ) → IsFramed bytes p r → IsFramed bytes q s → (p ≡ q) × (r ≡ s)
framed_once bytes p q r s h k =
    let whole : h.line ++ (10 ∷ (p ++ (10 ∷ r))) ≡ k.line ++ (10 ∷ (q ++ (10 ∷ s))) = sym h.split ∙ k.split in
    let line : h.line ≡ k.line = same_line h.line k.line (p ++ (10 ∷ r)) (q ++ (10 ∷ s)) (told_within h.line (length p) h.tells) (told_within k.line (length q) k.tells) whole in
    let behind : 10 ∷ (p ++ (10 ∷ r)) ≡ 10 ∷ (q ++ (10 ∷ s)) = cancel k.line (10 ∷ (p ++ (10 ∷ r))) (10 ∷ (q ++ (10 ∷ s))) (ap (λ (l : List ℕ). l ++ (10 ∷ (p ++ (10 ∷ r)))) (sym line) ∙ whole) in
    let told : Some (length p) ≡ Some (length q) = sym h.tells ∙ ap count_told line ∙ k.tells in
    let long : length p ≡ length q = cc in
    let left : p ++ (10 ∷ r) ≡ q ++ (10 ∷ s) = cancel (10 ∷ []) (p ++ (10 ∷ r)) (q ++ (10 ∷ s)) behind in
    let both = split_same p q (10 ∷ r) (10 ∷ s) long left in
    (both.0, cancel (10 ∷ []) r s both.1)

in_line : (l rest : List ℕ) → is_unbroken l ≡ true → prefix_len is_in_line (l ++ (10 ∷ rest)) ≡ length l
in_line [] rest u = refl
in_line (x ∷ l) rest u =
    let both = and_parts (not (x == 10)) (is_unbroken l) u in
    let more : 1 + prefix_len is_in_line (l ++ (10 ∷ rest)) ≡ length (x ∷ l) = omega (arith, in_line l rest both.1) in
    rw both.0 more

front_of : (l rest : List ℕ) → take (length l) (l ++ rest) ≡ l
front_of [] rest = refl
front_of (x ∷ l) rest = ap (λ (xs : List ℕ). x ∷ xs) (front_of l rest)

stands_at : (l rest : List ℕ) (x : ℕ) → slice_get (l ++ (x ∷ rest)) (length l) ≡ Some x
stands_at [] rest x = refl
stands_at (y ∷ l) rest x = stands_at l rest x

-- a text that has a frame has no fault of it
pub framed_sound : (bytes p r : List ℕ) (byte : ℕ) → IsFramed bytes p r → IsUnframed bytes byte → ⊥
framed_sound bytes p r byte h un =
    let rest = p ++ (10 ∷ r) in
    let within = told_within h.line (length p) h.tells in
    let len : prefix_len is_in_line bytes ≡ length h.line = ap (prefix_len is_in_line) h.split ∙ in_line h.line rest within in
    let line : first_line bytes ≡ h.line = ap₂ (λ (n : ℕ) (bs : List ℕ). take n bs) len h.split ∙ front_of h.line (10 ∷ rest) in
    let tells : count_told (first_line bytes) ≡ Some (length p) = ap count_told line ∙ h.tells in
    let cut : EndsInside bytes (prefix_len is_in_line bytes + 1 + length p) byte = subst (λ (o : Option ℕ). MatchOption o (byte ≡ 0) (λ n. EndsInside bytes (prefix_len is_in_line bytes + 1 + n) byte)) tells un in
    let front = h.line ++ (10 ∷ p) in
    let all : bytes ≡ front ++ (10 ∷ r) = h.split ∙ sym (append_assoc h.line (10 ∷ p) (10 ∷ r)) in
    let place : prefix_len is_in_line bytes + 1 + length p ≡ length front = omega (arith, len, length-append h.line (10 ∷ p)) in
    let long : length bytes ≡ length front + suc (length r) = ap length all ∙ length-append front (10 ∷ r) in
    let there : slice_get bytes (length front) ≡ Some 10 = ap (λ (bs : List ℕ). slice_get bs (length front)) all ∙ stands_at front r 10 in
    off front long there (subst (λ (n : ℕ). EndsInside bytes n byte) place cut)
  where
    off : (front : List ℕ) → length bytes ≡ length front + suc (length r) → slice_get bytes (length front) ≡ Some 10 → EndsInside bytes (length front) byte → ⊥
    off front long there (inl short) = omega (arith, long, short.0)
    off front long there (inr other) = other.2 there
