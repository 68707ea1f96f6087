-- Bytes by their lines.
use Rattle.std.proofs.Common.{◌≡◌, ◌∙◌, ℕ, suc, ◌+◌, ◌-◌, ◌<◌, ◌≤◌, Bool, true, false, List, [], ◌∷◌, ◌++◌, length, take, drop, get_or, refl, ap, ap₂, sym, subst, arith, Some, None}
use Rattle.std.proofs.lemmas.Bool.Decides.{nat_tests}
use Rattle.std.proofs.lemmas.List.{take-append-drop, drop_more, drop-drop, drop_all, take_all, length-drop, length-take-le}
use Rattle.std.proofs.lemmas.List.Folds.{drop_split}
use Rattle.std.proofs.lemmas.List.Sums.{prefix_len_stops, prefix_len-le-length}
use Rattle.std.specs.Prelude.{slice_range}
use Rattle.std.specs.List.{prefix_len}
use Rattle.ladr_lex.specs.Comments.{is_in_line}
use Rattle.ladr_lex.specs.Places.{ends_line}
use Rattle.proof_text.specs.Blocks.{lines_in, in_front}
use Rattle.proof_text.specs.Frame.{count_told, IsFramed, EndsInside, IsUnframed}

abbrev IsFirstCut : List ℕ → Type 0
IsFirstCut bs =
    prefix_len is_in_line bs < length bs → lines_in bs ≡ take (prefix_len is_in_line bs + 1) bs ∷ lines_in (drop (prefix_len is_in_line bs + 1) bs)

first_by : (b : ℕ) (bs : List ℕ) (e : Bool) → ends_line b ≡ e → IsFirstCut bs → IsFirstCut (b ∷ bs)
first_by b bs true e whole = λ h. (rw e refl)
first_by b bs false e more = λ h.
    let n : ℕ = prefix_len is_in_line bs in
    let k : prefix_len is_in_line (b ∷ bs) ≡ 1 + n = rw e refl in
    let m : prefix_len is_in_line (b ∷ bs) + 1 ≡ suc (n + 1) = omega (arith, k) in
    let l : n < length bs = omega (arith, h, k) in
    let whole : lines_in (b ∷ bs) ≡ in_front b (lines_in bs) = rw e refl in
    let cut : take (prefix_len is_in_line (b ∷ bs) + 1) (b ∷ bs) ≡ b ∷ take (n + 1) bs = ap (λ (i : ℕ). take i (b ∷ bs)) m in
    let left : drop (prefix_len is_in_line (b ∷ bs) + 1) (b ∷ bs) ≡ drop (n + 1) bs = ap (λ (i : ℕ). drop i (b ∷ bs)) m in
    whole ∙ ap (in_front b) (more l) ∙ sym (ap₂ (λ us vs. us ∷ lines_in vs) cut left)

-- a first line with its end
pub first_cut : (bs : List ℕ) → prefix_len is_in_line bs < length bs →
    lines_in bs ≡ take (prefix_len is_in_line bs + 1) bs ∷ lines_in (drop (prefix_len is_in_line bs + 1) bs)
first_cut [] h = absurd (omega arith)
first_cut (b ∷ bs) h = first_by b bs (ends_line b) refl (first_cut bs) h

abbrev IsLastCut : List ℕ → Type 0
IsLastCut bs = 0 < length bs → prefix_len is_in_line bs ≡ length bs → lines_in bs ≡ bs ∷ []

last_by : (b : ℕ) (bs : List ℕ) (x : Bool) → ends_line b ≡ x → IsLastCut bs → IsLastCut (b ∷ bs)
last_by b bs true x more = λ h e.
    let k : prefix_len is_in_line (b ∷ bs) ≡ 0 = rw x refl in
    absurd (omega (arith, e, k))
last_by b [] false x more = λ h e. (rw x refl)
last_by b (c ∷ cs) false x more = λ h e.
    let k : prefix_len is_in_line (b ∷ (c ∷ cs)) ≡ 1 + prefix_len is_in_line (c ∷ cs) = rw x refl in
    let l : prefix_len is_in_line (c ∷ cs) ≡ length (c ∷ cs) = omega (arith, e, k) in
    let whole : lines_in (b ∷ (c ∷ cs)) ≡ in_front b (lines_in (c ∷ cs)) = rw x refl in
    whole ∙ ap (in_front b) (more (omega arith) l)

-- a last line without one
pub last_cut : (bs : List ℕ) → 0 < length bs → prefix_len is_in_line bs ≡ length bs → lines_in bs ≡ bs ∷ []
last_cut [] h e = absurd (omega arith)
last_cut (b ∷ bs) h e = last_by b bs (ends_line b) refl (last_cut bs) h e

is_ten : (b : ℕ) → is_in_line b ≡ false → b ≡ 10
is_ten b e = grind (arith, nat_tests)

pub slice_long : (bytes : List ℕ) (a b : ℕ) → a ≤ b → b ≤ length bytes → length (slice_range bytes a b) ≡ b - a
slice_long bytes a b h k = length-take-le (b - a) (drop a bytes) (omega (arith, length-drop a bytes))

-- the frame whose problem begins behind the first line, of so many bytes
pub framed_at : (bytes : List ℕ) (len end count : ℕ) → len ≡ prefix_len is_in_line bytes → count_told (take len bytes) ≡ Some count →
    end ≡ len + 1 + count → end < length bytes → get_or bytes end 0 ≡ 10 → IsFramed bytes (slice_range bytes (len + 1) end) (drop (end + 1) bytes)
framed_at bytes len end count e tells at within ten =
    let short : len < length bytes = omega (arith, at, within) in
    let stop : is_in_line (get_or bytes len 0) ≡ false = ap (λ (n : ℕ). is_in_line (get_or bytes n 0)) e ∙ prefix_len_stops is_in_line bytes 0 (omega (arith, e, short)) in
    let first : drop len bytes ≡ 10 ∷ drop (len + 1) bytes = drop_more bytes len 0 short ∙ ap (λ (b : ℕ). b ∷ drop (len + 1) bytes) (is_ten (get_or bytes len 0) stop) in
    let middle : drop (len + 1) bytes ≡ slice_range bytes (len + 1) end ++ drop end bytes = drop_split bytes (len + 1) end (omega (arith, at)) in
    let last : drop end bytes ≡ 10 ∷ drop (end + 1) bytes = drop_more bytes end 0 within ∙ ap (λ (b : ℕ). b ∷ drop (end + 1) bytes) ten in
    let long : length (slice_range bytes (len + 1) end) ≡ count = slice_long bytes (len + 1) end (omega (arith, at)) (omega (arith, within)) ∙ (omega (arith, at)) in
    record {
      line = take len bytes;
      tells = tells ∙ ap Some (sym long);
      split = sym (take-append-drop len bytes)
          ∙ ap (λ us. take len bytes ++ us) (first ∙ ap (λ (us : List ℕ). 10 ∷ us) (middle ∙ ap (λ us. slice_range bytes (len + 1) end ++ us) last));
    }

pub untold : (bytes : List ℕ) (len : ℕ) → len ≡ prefix_len is_in_line bytes → count_told (take len bytes) ≡ None → IsUnframed bytes 0
untold bytes len e none = rw (ap (λ (n : ℕ). count_told (take n bytes)) (sym e) ∙ none) refl

pub cut_off : (bytes : List ℕ) (len n byte : ℕ) → len ≡ prefix_len is_in_line bytes → count_told (take len bytes) ≡ Some n → EndsInside bytes (len + 1 + n) byte → IsUnframed bytes byte
cut_off bytes len n byte e tells off =
    rw (ap (λ (k : ℕ). count_told (take k bytes)) (sym e) ∙ tells) (subst (λ (k : ℕ). EndsInside bytes (k + 1 + n) byte) e off)

-- a line that stands at a place, with its end
pub line_at : (bytes : List ℕ) (at len end : ℕ) → len ≡ prefix_len is_in_line (drop at bytes) → len < length (drop at bytes) → end ≡ at + len + 1 →
    lines_in (drop at bytes) ≡ slice_range bytes at end ∷ lines_in (drop end bytes)
line_at bytes at len end e h place =
    let n : prefix_len is_in_line (drop at bytes) + 1 ≡ end - at = omega (arith, e, place) in
    let m : at + (prefix_len is_in_line (drop at bytes) + 1) ≡ end = omega (arith, e, place) in
    let cut = first_cut (drop at bytes) (omega (arith, e, h)) in
    cut ∙ ap₂ (λ us vs. us ∷ lines_in vs) (ap (λ (k : ℕ). take k (drop at bytes)) n) (drop-drop (prefix_len is_in_line (drop at bytes) + 1) at bytes ∙ ap (λ (k : ℕ). drop k bytes) m)

-- a last line without one
pub last_line_at : (bytes : List ℕ) (at len end : ℕ) → at < length bytes → len ≡ prefix_len is_in_line (drop at bytes) → length (drop at bytes) ≤ len → end ≡ at + len →
    lines_in (drop at bytes) ≡ slice_range bytes at end ∷ lines_in (drop end bytes)
last_line_at bytes at len end l e h place =
    let long : length (drop at bytes) ≡ length bytes - at = length-drop at bytes in
    let most : prefix_len is_in_line (drop at bytes) ≤ length (drop at bytes) = prefix_len-le-length is_in_line (drop at bytes) in
    let all : prefix_len is_in_line (drop at bytes) ≡ length (drop at bytes) = omega (arith, e, h, most) in
    let cut = last_cut (drop at bytes) (omega (arith, long, l)) all in
    let whole : take (end - at) (drop at bytes) ≡ drop at bytes = take_all (end - at) (drop at bytes) (omega (arith, e, h, place)) in
    let none : drop end bytes ≡ [] = drop_all end bytes (omega (arith, long, e, h, place, l)) in
    cut ∙ ap₂ (λ us vs. us ∷ lines_in vs) (sym whole) (sym none)
