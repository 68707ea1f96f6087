-- Comments behind their `%`.
use Rattle.std.proofs.Common.{◌≡◌, ℕ, suc, ◌≤◌, ◌<◌, Bool, true, false, List, [], ◌∷◌, ◌++◌, length, take, drop, Option, Some, None, inl, inr, refl, sym, ap, ◌∙◌, lit≤, arith}
use Rattle.std.specs.Prelude.{codes, not, if◌then◌else◌, unwrap_or, is_some}
use Rattle.std.specs.Option.{option_map}
use Rattle.std.specs.List.{prefix_len, list_all}
use Rattle.std.proofs.lemmas.Bool.{cases_Bool, cases_lt, eq-eqb}
use Rattle.std.proofs.lemmas.Bool.Decides.{nat_tests}
use Rattle.std.proofs.lemmas.List.{take-append-drop, length-append, length-take-le}
use Rattle.std.proofs.lemmas.List.Sums.{prefix_len-le-length}
use Rattle.ladr_lex.specs.Comments.{begins_with, up_to, is_just, is_open_block, is_in_line, is_comment}
use Rattle.ladr_lex.specs.Lexed.{is_block, kind_begun_by, comment_behind}
use Rattle.ladr_lex.specs.declared.bytes.TokenStart.TheVariants.{Percent}
use Rattle.ladr_lex.specs.declared.token.TokenKind.TheVariants.{Unreadable}
use Rattle.ladr_lex.proofs.Comments.{begins_more, begins_long, begins_split, up_to_length, up_to_more, up_to_behind, up_to_front}
use Rattle.ladr_lex.proofs.Kept.{run_passes, run_whole, run_grows}

abbrev end_of : List ℕ → Option ℕ
end_of bs = up_to (codes "%END") bs

-- `%BEGIN` doesn't begin with `%END`
no_end : (m : List ℕ) → is_block m ≡ true → begins_with (codes "END") m ≡ false
no_end [] h = cc
no_end (b ∷ m) h = grind (arith, nat_tests)

end_behind : (m : List ℕ) → is_block m ≡ true → end_of (37 ∷ m) ≡ option_map suc (end_of m)
end_behind m h = rw (no_end m h) refl

-- all the bytes behind a `%`, as a comment or a block without its end
pub record Told (closed : Bool) (m : List ℕ) : Type 0 where
  pub kind : kind_begun_by Percent m ≡ (if closed then None else Some Unreadable)
  pub all : comment_behind m ≡ length m

just : (o : Option ℕ) (n : ℕ) → is_just (option_map suc o) (suc n) ≡ true → o ≡ Some n
just None n h = cc
just (Some m) n h = grind (arith, nat_tests)

pub comment_told : (m : List ℕ) → is_comment (37 ∷ m) ≡ true → Told true m
comment_told m h =
    elim (cases_Bool (is_block m)) [
      | inl y ↦ (let a : is_just (option_map suc (end_of m)) (suc (length m)) ≡ true = ap (λ o. is_just o (suc (length m))) (sym (end_behind m y)) ∙ rw y at h in
          let e = just (end_of m) (length m) a in
          record { kind = rw (y, e) refl; all = rw (y, e) refl })
      | inr y ↦ (let a : list_all is_in_line m ≡ true = rw y at h in record { kind = rw y refl; all = rw y (run_whole is_in_line m a) })
    ]

pub open_told : (m : List ℕ) → is_open_block (37 ∷ m) ≡ true → Told false m
open_told m h =
    let y : is_block m ≡ true = grind arith in
    let e : end_of m ≡ None = none (end_of m) (ap (λ o. not (is_some o)) (sym (end_behind m y)) ∙ rw y at h) in
    record { kind = rw (y, e) refl; all = rw (y, e) refl }
  where
    none : (o : Option ℕ) → not (is_some (option_map suc o)) ≡ true → o ≡ None
    none None h = refl
    none (Some n) h = cc

-- more bytes behind make it no shorter
ended_grows : (m r : List ℕ) (o q : Option ℕ) → end_of m ≡ o → end_of (m ++ r) ≡ q → unwrap_or o (length m) ≤ unwrap_or q (length (m ++ r))
ended_grows m r (Some n) (Some k) e f = let same : Some k ≡ Some n = sym f ∙ up_to_more (codes "%END") m r n e in let g : k ≡ n = cc in omega arith
ended_grows m r (Some n) None e f = absurd (let g = sym f ∙ up_to_more (codes "%END") m r n e in cc)
ended_grows m r None (Some k) e f = omega (arith, up_to_behind (codes "%END") m r k (lit≤ tt) e f)
ended_grows m r None None e f = omega (arith, length-append m r)

line_grows : (m r : List ℕ) (q : Option ℕ) → is_block m ≡ false → is_block (m ++ r) ≡ true → end_of (m ++ r) ≡ q → prefix_len is_in_line m ≤ unwrap_or q (length (m ++ r))
line_grows m r None y z f = omega (arith, prefix_len-le-length is_in_line m, length-append m r)
line_grows m r (Some k) y z f =
    elim (cases_lt (length m) 5) [
      | inl short ↦ omega (arith, prefix_len-le-length is_in_line m, up_to_length (codes "%END") (m ++ r) k f)
      | inr long ↦ absurd (let w = begins_long (codes "BEGIN") m r z long in cc)
    ]

pub comment_grows : (m r : List ℕ) → comment_behind m ≤ comment_behind (m ++ r)
comment_grows m r =
    elim (cases_Bool (is_block m)) [
      | inl y ↦ rw (y, begins_more (codes "BEGIN") m r y) (ended_grows m r (end_of m) (end_of (m ++ r)) refl refl)
      | inr y ↦ elim (cases_Bool (is_block (m ++ r))) [
        | inl z ↦ rw (y, z) (line_grows m r (end_of (m ++ r)) y z refl)
        | inr z ↦ rw (y, z) (run_grows is_in_line m r)
      ]
    ]

-- what is computed is a comment, or a block without its end
pub data Behind (bs : List ℕ) : Type 0 where
  closed : kind_begun_by Percent bs ≡ None → comment_behind bs ≤ length bs → is_comment (37 ∷ take (comment_behind bs) bs) ≡ true → Behind bs
  unclosed : kind_begun_by Percent bs ≡ Some Unreadable → comment_behind bs ≡ length bs → is_open_block (37 ∷ bs) ≡ true → Behind bs

-- the first bytes of bytes that begin otherwise
other_front : (word bs : List ℕ) (n : ℕ) → begins_with word bs ≡ false → begins_with word (take n bs) ≡ false
other_front word bs n h =
    elim (cases_Bool (begins_with word (take n bs))) [
      | inl y ↦ absurd (let e = begins_more word (take n bs) (drop n bs) y in let f : begins_with word bs ≡ true = ap (begins_with word) (sym (take-append-drop n bs)) ∙ e in cc)
      | inr y ↦ y
    ]

ended : (bs : List ℕ) (o : Option ℕ) → is_block bs ≡ true → end_of bs ≡ o → Behind bs
ended bs None y e =
    unclosed (rw (y, e) refl) (rw (y, e) refl) (rw (y, end_behind bs y, e) refl)
ended bs (Some n) y e =
    let bounds = up_to_length (codes "%END") bs n e in
    let front = up_to_front (codes "%END") bs n (lit≤ tt) e in
    let long : 5 < n = up_to_behind (codes "%END") (codes "BEGIN") (drop 5 bs) n (lit≤ tt) refl (ap end_of (sym (begins_split (codes "BEGIN") bs y)) ∙ e) in
    let behind : comment_behind bs ≡ n = rw (y, e) refl in
    let still : is_block (take n bs) ≡ true = begins_long (codes "BEGIN") (take n bs) (drop n bs) (ap (begins_with (codes "BEGIN")) (take-append-drop n bs) ∙ y) (omega (arith, long, length-take-le n bs bounds.1)) in
    closed (rw (y, e) refl) (omega arith) (ap (λ (k : ℕ). is_comment (37 ∷ take k bs)) behind ∙ rw (still, end_behind (take n bs) still, front) (eq-eqb (suc n) (suc (length (take n bs))) (omega (arith, length-take-le n bs bounds.1))))

pub behind_percent : (bs : List ℕ) → Behind bs
behind_percent bs =
    elim (cases_Bool (is_block bs)) [
      | inl y ↦ ended bs (end_of bs) y refl
      | inr y ↦ (let e : comment_behind bs ≡ prefix_len is_in_line bs = rw y refl in
          closed (rw y refl) (omega (arith, prefix_len-le-length is_in_line bs))
          (ap (λ (k : ℕ). is_comment (37 ∷ take k bs)) e ∙ rw (other_front (codes "BEGIN") bs (prefix_len is_in_line bs) y) (run_passes is_in_line bs)))
    ]
