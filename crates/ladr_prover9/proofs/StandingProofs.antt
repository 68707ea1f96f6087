-- Where the banner of a proof and the line of a verdict stand among texts of proofs.
use Rattle.std.proofs.Common.{◌≡◌, ◌≢◌, ◌⊎◌, inl, inr, ℕ, ◌≤◌, true, List, [], ◌∷◌, ◌++◌, map, get_or, codes, refl, sym, ap, ◌∙◌, subst, append_assoc, append-nil, arith}
use Rattle.std.specs.Fmt.{decimal}
use Rattle.std.specs.List.{AllByRecursion, concat}
use Rattle.ladr_output.proofs.Standing.{is_unbroken, unbroken_append, decimal_unbroken, line_off, IsPassed, passed_line, passed_both}
use Rattle.ladr_output.specs.Standing.{AreWholeLines}
use Rattle.ladr_output.specs.Telling.{as_line}
use Rattle.proof_print.specs.LineTexts.{head_text, proof_banner, end_banner}
use Rattle.proof_print.specs.declared.texts.Heads.{Heads}

abbrev pub first : List ℕ → ℕ
first text = get_or text 0 0

-- inside a proof, behind its banner: a line of its head, a numbered line, or the banner of its end
abbrev pub IsInside : List ℕ → Type 0
IsInside tail = ((32 ≤ first tail) × (first tail ≤ 57)) ⊎ ((rest : List ℕ) × (tail ≡ end_banner ++ rest))

pub banner_outside : (after : List ℕ) → IsInside (proof_banner ++ after) → ⊥
banner_outside after (inl h) = absurd (omega (arith, h.1))
banner_outside after (inr h) =
    let same : 80 ≡ 101 = ap (λ (l : List ℕ). get_or l 31 0) h.1 in
    absurd (omega (arith, same))

pub verdict_outside : (after : List ℕ) → IsInside (84 ∷ after) → ⊥
verdict_outside after (inl h) = absurd (omega (arith, h.1))
verdict_outside after (inr h) =
    let same : 84 ≡ 61 = ap first h.1 in
    absurd (omega (arith, same))

-- a line that begins with a number
pub record IsNumbered (text : List ℕ) : Type 0 where
  pub line : List ℕ
  pub is : text ≡ as_line line
  pub flat : is_unbroken line ≡ true
  pub low : 32 ≤ first line
  pub high : first line ≤ 57

passed_numbered : (text : List ℕ) → IsNumbered text → IsPassed IsInside text
passed_numbered text h = subst (IsPassed IsInside) (sym h.is) (passed_line IsInside h.line h.flat)

line_inside : (l rest : List ℕ) → 32 ≤ first l → first l ≤ 57 → IsInside (as_line l ++ rest)
line_inside [] rest low high = absurd (omega (arith, low))
line_inside (b ∷ l) rest low high = inl (low, high)

numbered_inside : (text rest : List ℕ) → IsNumbered text → IsInside (text ++ rest)
numbered_inside text rest h = subst (λ (u : List ℕ). IsInside (u ++ rest)) (sym h.is) (line_inside h.line rest h.low h.high)

-- numbered lines, and the banner of the end
abbrev body_text : List (List ℕ) → List ℕ
body_text ts = concat ts ++ end_banner

body_more : (t : List ℕ) (ts : List (List ℕ)) → t ++ body_text ts ≡ body_text (t ∷ ts)
body_more t ts = sym (append_assoc t (concat ts) end_banner)

body_inside : (ts : List (List ℕ)) (rest : List ℕ) → AllByRecursion IsNumbered ts → IsInside (body_text ts ++ rest)
body_inside [] rest h = inr (rest, refl)
body_inside (t ∷ ts) rest h = subst (λ (u : List ℕ). IsInside (u ++ rest)) (body_more t ts) (subst IsInside (sym (append_assoc t (body_text ts) rest)) (numbered_inside t (body_text ts ++ rest) h.0))

body_passed : (ts : List (List ℕ)) → AllByRecursion IsNumbered ts → IsPassed IsInside (body_text ts)
body_passed [] h = passed_line IsInside (codes "============================== end of proof ==========================") refl
body_passed (t ∷ ts) h = subst (IsPassed IsInside) (body_more t ts) (passed_both IsInside t (body_text ts) (passed_numbered t h.0) (body_passed ts h.1) (λ rest. body_inside ts rest h.1))

-- a line of a head, and what stands behind it
counted_line : List ℕ → ℕ → List ℕ
counted_line w n = w ++ (decimal n ++ 46 ∷ [])

counted_flat : (w : List ℕ) (n : ℕ) → is_unbroken w ≡ true → is_unbroken (counted_line w n) ≡ true
unfolding counted_line
counted_flat w n h = unbroken_append w (decimal n ++ 46 ∷ []) h (unbroken_append (decimal n) (46 ∷ []) (decimal_unbroken n) refl)

counted_is : (w : List ℕ) (n : ℕ) (y : List ℕ) → as_line (counted_line w n) ++ y ≡ w ++ (decimal n ++ (46 ∷ 10 ∷ y))
unfolding counted_line
counted_is w n y =
    append_assoc (w ++ (decimal n ++ 46 ∷ [])) (10 ∷ []) y
    ∙ append_assoc w (decimal n ++ 46 ∷ []) (10 ∷ y)
    ∙ ap (λ (u : List ℕ). w ++ u) (append_assoc (decimal n) (46 ∷ []) (10 ∷ y))

passed_counted : (w : List ℕ) (n : ℕ) (y : List ℕ) → is_unbroken w ≡ true → IsPassed IsInside y → ((rest : List ℕ) → IsInside (y ++ rest)) → IsPassed IsInside (w ++ (decimal n ++ (46 ∷ 10 ∷ y)))
passed_counted w n y h k opens = subst (IsPassed IsInside) (counted_is w n y) (passed_both IsInside (as_line (counted_line w n)) y (passed_line IsInside (counted_line w n) (counted_flat w n h)) k opens)

passed_last : (w : List ℕ) (n : ℕ) → is_unbroken w ≡ true → IsPassed IsInside (w ++ (decimal n ++ (46 ∷ 10 ∷ [])))
passed_last w n h = subst (IsPassed IsInside) (sym (append-nil (as_line (counted_line w n))) ∙ counted_is w n []) (passed_line IsInside (counted_line w n) (counted_flat w n h))

percent : (rest : List ℕ) → IsInside (37 ∷ rest)
percent rest = inl (omega arith, omega arith)

head_passed : (h : Heads) → IsPassed IsInside (head_text h)
head_passed h =
    passed_counted (codes "% Proof ") h.proof _ refl
    (passed_counted (codes "% Length of proof is ") h.length _ refl
    (passed_counted (codes "% Level of proof is ") h.level _ refl
    (passed_counted (codes "% Maximum clause weight is ") h.weight _ refl
    (passed_last (codes "% Given clauses ") h.given refl)
    (λ rest. percent _)) (λ rest. percent _)) (λ rest. percent _)) (λ rest. percent _)

-- proofs with their heads, by the texts of their lines
module _ {X : Type 0} (text : X → List ℕ) where
  abbrev pub Form : Type 0
  Form = Heads × List X

  abbrev pub form_text : Form → List ℕ
  form_text f = proof_banner ++ (head_text f.0 ++ (concat (map text f.1) ++ end_banner))

  abbrev pub forms_text : List Form → List ℕ
  forms_text [] = []
  forms_text (f ∷ fs) = form_text f ++ forms_text fs

  abbrev pub IsGoodForm : Form → Type 0
  IsGoodForm f = AllByRecursion IsNumbered (map text f.1)

  form_passed : (f : Form) → IsGoodForm f → IsPassed IsInside (form_text f)
  form_passed f good =
      passed_both IsInside proof_banner (head_text f.0 ++ body_text (map text f.1))
      (passed_line IsInside (codes "============================== PROOF =================================") refl)
      (passed_both IsInside (head_text f.0) (body_text (map text f.1)) (head_passed f.0) (body_passed (map text f.1) good) (λ rest. body_inside (map text f.1) rest good))
      (λ rest. percent _)

  -- a proof begins here, behind others
  pub record BeginsForm (fs : List Form) (last before tail : List ℕ) : Type 0 where
    pub front : List Form
    pub form : Form
    pub back : List Form
    pub split : fs ≡ front ++ form ∷ back
    pub before_is : before ≡ forms_text front
    pub tail_is : tail ≡ form_text form ++ (forms_text back ++ last)

  -- all proofs stand before this place
  pub record IsBehind (fs : List Form) (last before tail : List ℕ) : Type 0 where
    pub middle : List ℕ
    pub whole : AreWholeLines middle
    pub last_is : last ≡ middle ++ tail
    pub before_is : before ≡ forms_text fs ++ middle

  pub begins_or : (fs : List Form) (last before tail : List ℕ) → AllByRecursion IsGoodForm fs → AreWholeLines before → forms_text fs ++ last ≡ before ++ tail
      → IsInside tail ⊎ (BeginsForm fs last before tail ⊎ IsBehind fs last before tail)
  begins_or [] last before tail good lines e = inr (inr (record { middle = before; whole = lines; last_is = e; before_is = refl }))
  begins_or (f ∷ fs) last before tail good lines e =
      let there = sym (append_assoc (form_text f) (forms_text fs) last) ∙ e in
      elim (form_passed f good.0 (forms_text fs ++ last) before tail lines there) [
        | inl none ↦ inr (inl (record { front = []; form = f; back = fs; split = refl; before_is = none; tail_is = sym (there ∙ ap (λ (b : List ℕ). b ++ tail) none) }))
        | inr (inl inside) ↦ inl inside
        | inr (inr r) ↦ elim (begins_or fs last r.0 tail good.1 r.1 r.3) [
          | inl inside ↦ inl inside
          | inr (inl s) ↦ inr (inl (record {
            front = f ∷ s.front;
            form = s.form;
            back = s.back;
            split = ap (λ (l : List Form). f ∷ l) s.split;
            before_is = r.2 ∙ ap (λ (b : List ℕ). form_text f ++ b) s.before_is;
            tail_is = s.tail_is;
          }))
          | inr (inr s) ↦ inr (inr (record {
            middle = s.middle;
            whole = s.whole;
            last_is = s.last_is;
            before_is = r.2 ∙ ap (λ (b : List ℕ). form_text f ++ b) s.before_is ∙ sym (append_assoc (form_text f) (forms_text fs) s.middle);
          }))
        ]
      ]

-- three last lines
pub record IsSecond (c v e b tail : List ℕ) : Type 0 where
  pub before_is : b ≡ as_line c
  pub tail_is : tail ≡ as_line v ++ as_line e

-- the first byte of a line
line_first : (l rest : List ℕ) (n : ℕ) → first l ≡ n → n ≢ 0 → first (as_line l ++ rest) ≡ n
line_first [] rest n h k = absurd (k (sym h))
line_first (b ∷ l) rest n h k = h

-- a place where a line begins among the last lines
pub data InClosing (c v e b tail : List ℕ) : Type 0 where
  at_first : tail ≡ as_line c ++ (as_line v ++ as_line e) → InClosing c v e b tail
  at_second : b ≡ as_line c → tail ≡ as_line v ++ as_line e → InClosing c v e b tail
  at_third : tail ≡ as_line e → InClosing c v e b tail
  at_end : tail ≡ [] → InClosing c v e b tail

nothing_left : (b tail : List ℕ) → [] ≡ b ++ tail → tail ≡ []
nothing_left [] tail e = sym e
nothing_left (x ∷ b) tail e = absurd cc

pub in_closing : (c v e b tail : List ℕ) → is_unbroken c ≡ true → is_unbroken v ≡ true → is_unbroken e ≡ true → AreWholeLines b → as_line c ++ (as_line v ++ as_line e) ≡ b ++ tail → InClosing c v e b tail
in_closing c v e b tail fc fv fe lines h =
    elim (line_off c (as_line v ++ as_line e) b tail fc lines (sym (append_assoc c (10 ∷ []) (as_line v ++ as_line e)) ∙ h)) [
      | inl none ↦ at_first (sym (h ∙ ap (λ (u : List ℕ). u ++ tail) none))
      | inr r ↦ elim (line_off v (as_line e) r.0 tail fv r.1 (sym (append_assoc v (10 ∷ []) (as_line e)) ∙ r.3)) [
        | inl none ↦ at_second (r.2 ∙ ap (λ (u : List ℕ). c ++ 10 ∷ u) none) (sym (r.3 ∙ ap (λ (u : List ℕ). u ++ tail) none))
        | inr s ↦ elim (line_off e [] s.0 tail fe s.1 s.3) [
          | inl none ↦ at_third (sym (s.3 ∙ ap (λ (u : List ℕ). u ++ tail) none))
          | inr w ↦ at_end (nothing_left w.0 tail w.3)
        ]
      ]
    ]
