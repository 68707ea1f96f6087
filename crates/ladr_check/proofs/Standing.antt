-- Where lines stand in the report of a check.
use Rattle.std.proofs.Common.{◌≡◌, ◌⊎◌, inl, inr, ℕ, zero, suc, ◌^◌, ◌<◌, ◌≤◌, ◌==◌, not, true, List, [], ◌∷◌, ◌++◌, drop, codes, refl, sym, ap, ap₂, ◌∙◌, subst, append-nil, append_assoc, arith}
use Rattle.std.specs.Prelude.{slice_index}
use Rattle.std.specs.Fmt.{decimal}
use Rattle.std.proofs.lemmas.Bool.{and_parts}
use Rattle.std.proofs.lemmas.Bool.Decides.{nat_tests}
use Rattle.std.proofs.lemmas.Fmt.{decimal_injective}
use Rattle.derivation.specs.RowNumbers.{row_number}
use Rattle.derivation.specs.declared.row.Row.{Row}
use Rattle.ladr_check.specs.CheckReport.{accepted_line, accepted_lines, all_accepted_line, end_line, check_report}
use Rattle.ladr_check.specs.declared.ends.CheckEnd.{CheckEnd}
use Rattle.ladr_check.specs.declared.ends.CheckEnd.TheVariants.{Accepted, NotAccepted, ClauseLimit}
use Rattle.ladr_output.proofs.Standing.{heads, is_unbroken, unbroken_append, decimal_unbroken, decimal_glyphs, glyphs_end, line_off}
use Rattle.ladr_output.specs.Standing.{Stands}
use Rattle.ladr_output.specs.Telling.{as_line}

-- where two lines stand in one place, they are the same
pub same_line : (l m r s : List ℕ) → is_unbroken l ≡ true → is_unbroken m ≡ true → l ++ 10 ∷ r ≡ m ++ 10 ∷ s → l ≡ m
same_line [] [] r s u v e = refl
same_line [] (y ∷ m) r s u v e =
    let first = (heads 10 y r (m ++ 10 ∷ s) e).0 in
    let other = (and_parts (not (y == 10)) (is_unbroken m) v).0 in
    absurd (grind (arith, nat_tests))
same_line (x ∷ l) [] r s u v e =
    let first = (heads x 10 (l ++ 10 ∷ r) s e).0 in
    let other = (and_parts (not (x == 10)) (is_unbroken l) u).0 in
    absurd (grind (arith, nat_tests))
same_line (x ∷ l) (y ∷ m) r s u v e =
    let parts = heads x y (l ++ 10 ∷ r) (m ++ 10 ∷ s) e in
    ap₂ (λ (z : ℕ) (zs : List ℕ). z ∷ zs) parts.0 (same_line l m r s (and_parts (not (x == 10)) (is_unbroken l) u).1 (and_parts (not (y == 10)) (is_unbroken m) v).1 parts.1)

not_empty : (a b : List ℕ) (x : ℕ) → [] ≡ a ++ x ∷ b → ⊥
not_empty [] b x e = absurd cc
not_empty (y ∷ a) b x e = absurd cc

-- no line stands in nothing
pub none_stands : (l : List ℕ) → Stands (as_line l) [] → ⊥
none_stands l h =
    let after = h.1.1.0 in
    not_empty (h.0 ++ l) after 10 (h.1.1.1 ∙ ap (λ (t : List ℕ). h.0 ++ t) (append_assoc l (10 ∷ []) after) ∙ sym (append_assoc h.0 l (10 ∷ after)))

-- a line that stands in a front stands in the whole
pub in_front : (l front rest whole : List ℕ) → whole ≡ front ++ rest → Stands l front → Stands l whole
in_front l front rest whole e h = (
  h.0,
  (
    h.1.0,
    (
      h.1.1.0 ++ rest,
      e ∙ ap (λ (t : List ℕ). t ++ rest) h.1.1.1 ∙ append_assoc h.0 (l ++ h.1.1.0) rest ∙ ap (λ (t : List ℕ). h.0 ++ t) (append_assoc l h.1.1.0 rest),
    ),
  ),
)

-- a line that stands in a text is its first one, or stands behind it
passed : (l m rest : List ℕ) → is_unbroken l ≡ true → is_unbroken m ≡ true → Stands (as_line l) (as_line m ++ rest) → (l ≡ m) ⊎ Stands (as_line l) rest
passed l m rest u v h =
    let after = h.1.1.0 in
    let e : m ++ 10 ∷ rest ≡ h.0 ++ (as_line l ++ after) = sym (append_assoc m (10 ∷ []) rest) ∙ h.1.1.1 in
    elim (line_off m rest h.0 (as_line l ++ after) v h.1.0 e) [
      | inl none ↦ inl (sym (same_line m l rest after v u (e ∙ ap (λ (b : List ℕ). b ++ (as_line l ++ after)) none ∙ append_assoc l (10 ∷ []) after)))
      | inr r ↦ inr (r.0, (r.1, (after, r.3)))
    ]

pub only_line : (l m : List ℕ) → is_unbroken l ≡ true → is_unbroken m ≡ true → Stands (as_line l) (as_line m) → l ≡ m
only_line l m u v h =
    elim (passed l m [] u v (subst (Stands (as_line l)) (sym (append-nil (as_line m))) h)) [
      | inl e ↦ e
      | inr s ↦ absurd (none_stands l s)
    ]

-- the texts of the lines
abbrev pub accepted_text : ℕ → List ℕ
accepted_text k = codes "% Proof " ++ decimal k ++ codes " accepted."

abbrev pub exit_text : ℕ → List ℕ
exit_text n = codes "% Exit accepted " ++ decimal n ++ codes "."

between : (opening closing : List ℕ) (n : ℕ) → is_unbroken opening ≡ true → is_unbroken closing ≡ true → is_unbroken (opening ++ decimal n ++ closing) ≡ true
between opening closing n u v = unbroken_append (opening ++ decimal n) closing (unbroken_append opening (decimal n) u (decimal_unbroken n)) v

pub accepted_within : (k : ℕ) → is_unbroken (accepted_text k) ≡ true
accepted_within k = between (codes "% Proof ") (codes " accepted.") k refl refl

pub exit_within : (n : ℕ) → is_unbroken (exit_text n) ≡ true
exit_within n = between (codes "% Exit accepted ") (codes ".") n refl refl

same_accepted : (j k : ℕ) → j < 2 ^ 64 → k < 2 ^ 64 → accepted_text j ≡ accepted_text k → j ≡ k
same_accepted j k a b e =
    let cut : decimal j ++ codes " accepted." ≡ decimal k ++ codes " accepted." =
    ap (λ (l : List ℕ). drop 8 l) (sym (append_assoc (codes "% Proof ") (decimal j) (codes " accepted.")) ∙ e ∙ append_assoc (codes "% Proof ") (decimal k) (codes " accepted.")) in
    decimal_injective j k a b (glyphs_end (decimal j) (decimal k) (codes "accepted.") (codes "accepted.") 32 32 (decimal_glyphs j) (decimal_glyphs k) (omega arith) (omega arith) cut).0

same_exit : (m n : ℕ) → m < 2 ^ 64 → n < 2 ^ 64 → exit_text m ≡ exit_text n → m ≡ n
same_exit m n a b e =
    let cut : decimal m ++ codes "." ≡ decimal n ++ codes "." =
    ap (λ (l : List ℕ). drop 16 l) (sym (append_assoc (codes "% Exit accepted ") (decimal m) (codes ".")) ∙ e ∙ append_assoc (codes "% Exit accepted ") (decimal n) (codes ".")) in
    decimal_injective m n a b (glyphs_end (decimal m) (decimal n) [] [] 46 46 (decimal_glyphs m) (decimal_glyphs n) (omega arith) (omega arith) cut).0

no_exit : (k n : ℕ) → accepted_text k ≡ exit_text n → ⊥
no_exit k n e = let at : 80 ≡ 69 = ap (λ (l : List ℕ). slice_index l 2) e in absurd (omega (arith, at))

-- a line that begins with the program's name is neither
pub no_accepted : (k : ℕ) (m : List ℕ) → slice_index m 0 ≡ 108 → accepted_text k ≡ m → ⊥
no_accepted k m opens e = let at : 37 ≡ slice_index m 0 = ap (λ (l : List ℕ). slice_index l 0) e in absurd (omega (arith, at, opens))

pub no_exit_line : (n : ℕ) (m : List ℕ) → slice_index m 0 ≡ 108 → exit_text n ≡ m → ⊥
no_exit_line n m opens e = let at : 37 ≡ slice_index m 0 = ap (λ (l : List ℕ). slice_index l 0) e in absurd (omega (arith, at, opens))

abbrev refusal_of : ℕ → Row → List ℕ
refusal_of number row = codes "ladr: not accepted, line " ++ decimal number ++ codes ", cause " ++ decimal (row_number row)

refusal_within : (number : ℕ) (row : Row) → is_unbroken (refusal_of number row) ≡ true
refusal_within number row = unbroken_append (codes "ladr: not accepted, line " ++ decimal number ++ codes ", cause ") (decimal (row_number row)) (between (codes "ladr: not accepted, line ") (codes ", cause ") number refl refl) (decimal_unbroken (row_number row))

abbrev limit_of : ℕ → List ℕ
limit_of formula = codes "ladr: clause limit at formula " ++ decimal formula

limit_within : (formula : ℕ) → is_unbroken (limit_of formula) ≡ true
limit_within formula = unbroken_append (codes "ladr: clause limit at formula ") (decimal formula) refl (decimal_unbroken formula)

-- a line that stands in a report is that of an accepted proof, or the last one
in_report : (a : ℕ) (rest l : List ℕ) → is_unbroken l ≡ true → Stands (as_line l) (accepted_lines a ++ rest) → ((j : ℕ) × (1 ≤ j) × (j ≤ a) × (l ≡ accepted_text j)) ⊎ Stands (as_line l) rest
in_report zero rest l u h = inr h
in_report (suc n) rest l u h =
    elim (in_report n (accepted_line (suc n) ++ rest) l u (subst (Stands (as_line l)) (append_assoc (accepted_lines n) (accepted_line (suc n)) rest) h)) [
      | inl f ↦ inl (f.0, f.1, omega (arith, f.2), f.3)
      | inr s ↦ elim (passed l (accepted_text (suc n)) rest u (accepted_within (suc n)) s) [
        | inl e ↦ inl (suc n, omega arith, omega arith, e)
        | inr t ↦ inr t
      ]
    ]

-- the line of an accepted proof stands in a report for a proof that is accepted
pub accepted_stands : (a : ℕ) (end : CheckEnd) (k : ℕ) → a < 2 ^ 64 → k < 2 ^ 64 → Stands (accepted_line k) (check_report a end) → (1 ≤ k) × (k ≤ a)
accepted_stands a end k few small h =
    elim (in_report a (end_line end) (accepted_text k) (accepted_within k) h) [
      | inl f ↦ (
          let same : k ≡ f.0 = same_accepted k f.0 small (omega (arith, few, f.2)) f.3 in
          (omega (arith, same, f.1), omega (arith, same, f.2)))
      | inr s ↦ absurd (no_last end s)
    ]
  where
    no_last : (end : CheckEnd) → Stands (accepted_line k) (end_line end) → ⊥
    no_last (Accepted n) s = no_exit k n (only_line (accepted_text k) (exit_text n) (accepted_within k) (exit_within n) s)
    no_last (NotAccepted number row) s = no_accepted k (refusal_of number row) refl (only_line (accepted_text k) (refusal_of number row) (accepted_within k) (refusal_within number row) s)
    no_last (ClauseLimit formula) s = no_accepted k (limit_of formula) refl (only_line (accepted_text k) (limit_of formula) (accepted_within k) (limit_within formula) s)

-- the line that all proofs are accepted stands in no other report
abbrev pub IsSmallEnd : CheckEnd → Type 0
IsSmallEnd (Accepted n) = n < 2 ^ 64
IsSmallEnd end = Unit {0}

pub exit_stands : (a : ℕ) (end : CheckEnd) (n : ℕ) → IsSmallEnd end → n < 2 ^ 64 → Stands (all_accepted_line n) (check_report a end) → end ≡ Accepted n
exit_stands a end n few small h =
    elim (in_report a (end_line end) (exit_text n) (exit_within n) h) [
      | inl f ↦ absurd (no_exit f.0 n (sym f.3))
      | inr s ↦ last end few s
    ]
  where
    last : (end : CheckEnd) → IsSmallEnd end → Stands (all_accepted_line n) (end_line end) → end ≡ Accepted n
    last (Accepted m) few s = ap Accepted (same_exit m n few small (sym (only_line (exit_text n) (exit_text m) (exit_within n) (exit_within m) s)))
    last (NotAccepted number row) few s = absurd (no_exit_line n (refusal_of number row) refl (only_line (exit_text n) (refusal_of number row) (exit_within n) (refusal_within number row) s))
    last (ClauseLimit formula) few s = absurd (no_exit_line n (limit_of formula) refl (only_line (exit_text n) (limit_of formula) (exit_within n) (limit_within formula) s))
