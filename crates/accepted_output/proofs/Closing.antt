-- The last lines of a search hold no proof, and tell of one only where there is one.
use Rattle.std.proofs.Common.{◌≡◌, ℕ, suc, ◌+◌, take, codes, ◌==◌, Bool, true, false, if◌then◌else◌, List, [], ◌∷◌, ◌++◌, refl, sym, ap, ap₂, ◌∙◌, subst, arith}
use Rattle.std.specs.Prelude.{not}
use Rattle.std.specs.List.{prefix_len}
use Rattle.std.specs.Str.{bytes_eq}
use Rattle.std.proofs.lemmas.Bool.{and_parts, not-true}
use Rattle.ladr_lex.specs.Comments.{is_in_line}
use Rattle.ladr_output.proofs.Standing.{is_unbroken}
use Rattle.ladr_output.specs.Standing.{AreWholeLines}
use Rattle.ladr_output.specs.Telling.{as_line}
use Rattle.ladr_prover9.proofs.Showing.{counters, counters_flat, verdict_text, verdict_flat, verdict_is, IsCause, IsOwnEnd, cause_is}
use Rattle.ladr_prover9.proofs.StandingProofs.{first, InClosing, at_first, at_second, at_third, at_end, in_closing}
use Rattle.ladr_prover9.specs.Lines.{counters_line, proved_line, cause_line, closing_lines}
use Rattle.ladr_prover9.specs.declared.ends.ProverEnd.{ProverEnd}
use Rattle.printed_proofs.specs.Printed.{HoldsNoProof}
use Rattle.proof_text.specs.Blocks.{in_front, lines_in, is_proof_banner, HasBlocks, nothing, outside}
use Rattle.prover_steps.specs.Searching.{SearchState, is_nil}

-- a line within a text
line_off : (l r : List ℕ) → is_unbroken l ≡ true → lines_in (as_line l ++ r) ≡ as_line l ∷ lines_in r
line_off [] r h = refl
line_off (b ∷ l) r h =
    let parts = and_parts (not (b == 10)) (is_unbroken l) h in
    ap (λ (c : Bool). if c then (b ∷ []) ∷ lines_in (as_line l ++ r) else in_front b (lines_in (as_line l ++ r))) (not-true (b == 10) parts.0) ∙ ap (in_front b) (line_off l r parts.1)

line_last : (l : List ℕ) → is_unbroken l ≡ true → lines_in (as_line l) ≡ as_line l ∷ []
line_last [] h = refl
line_last (b ∷ l) h =
    let parts = and_parts (not (b == 10)) (is_unbroken l) h in
    ap (λ (c : Bool). if c then (b ∷ []) ∷ lines_in (as_line l) else in_front b (lines_in (as_line l))) (not-true (b == 10) parts.0) ∙ ap (in_front b) (line_last l parts.1)

-- what begins with a percent sign is no banner
percent : (l : List ℕ) → first (as_line l) ≡ 37 → is_proof_banner (as_line l) ≡ false
percent [] e = absurd (omega (arith, e))
percent (b ∷ l) e = subst (λ (c : ℕ). is_proof_banner (c ∷ as_line l) ≡ false) (sym e) (by (prefix_len is_in_line (as_line l)))
  where
    by : (n : ℕ) → bytes_eq (take (1 + n) (37 ∷ as_line l)) (codes "============================== PROOF =================================") ≡ false
    by n =
        let more : suc n ≡ 1 + n = omega arith in
        subst (λ (k : ℕ). bytes_eq (take k (37 ∷ as_line l)) (codes "============================== PROOF =================================") ≡ false) more refl

verdict_none : (b : Bool) → is_proof_banner (as_line (verdict_text b)) ≡ false
verdict_none true = refl
verdict_none false = refl

module _ (t : SearchState) (end : ProverEnd) (mine : IsOwnEnd end) where
  cause : IsCause (cause_line end)
  cause = cause_is end mine

  abbrev verdict : List ℕ
  verdict = verdict_text (is_nil t.proofs)

  closing_is : closing_lines t end ≡ as_line (counters t) ++ (as_line verdict ++ as_line cause.line)
  closing_is = ap (λ (w : List ℕ). counters_line t ++ w) (ap₂ (λ (u v : List ℕ). u ++ v) (verdict_is (is_nil t.proofs)) cause.is)

  lines_are : lines_in (closing_lines t end) ≡ as_line (counters t) ∷ as_line verdict ∷ as_line cause.line ∷ []
  lines_are =
      ap lines_in closing_is ∙ line_off (counters t) (as_line verdict ++ as_line cause.line) (counters_flat t)
      ∙ ap (λ (ls : List (List ℕ)). as_line (counters t) ∷ ls) (line_off verdict (as_line cause.line) (verdict_flat (is_nil t.proofs))
      ∙ ap (λ (ls : List (List ℕ)). as_line verdict ∷ ls) (line_last cause.line cause.flat))

  pub closing_none : HoldsNoProof (closing_lines t end)
  closing_none i = subst (λ (ls : List (List ℕ)). HasBlocks i ls []) (sym lines_are)
      (outside (percent (counters t) refl) (outside (verdict_none (is_nil t.proofs)) (outside (percent cause.line cause.opens) nothing)))

  -- no line of the failed ones is the one that tells of a proof
  not_there : (b : Bool) → b ≡ true → 84 ≡ first (as_line (verdict_text b)) → ⊥
  not_there true e h = absurd (omega (arith, h))
  not_there false e h = absurd (cc)

  opened : (c : Bool) (rest : List ℕ) → first (as_line (verdict_text c) ++ rest) ≡ first (as_line (verdict_text c))
  opened true rest = refl
  opened false rest = refl

  refuted : (before after : List ℕ) → is_nil t.proofs ≡ true → InClosing (counters t) verdict cause.line before (proved_line ++ after) → ⊥
  refuted before after e (at_first k) = (let same : 84 ≡ 37 = ap first k in absurd (omega (arith, same)))
  refuted before after e (at_second k j) = not_there (is_nil t.proofs) e (ap first j ∙ opened (is_nil t.proofs) (as_line cause.line))
  refuted before after e (at_third k) = (let same : 84 ≡ 37 = ap first k ∙ cause.opens in absurd (omega (arith, same)))
  refuted before after e (at_end k) = (let same : 84 ≡ 0 = ap first k in absurd (omega (arith, same)))

  pub none_told : (before after : List ℕ) → AreWholeLines before → closing_lines t end ≡ before ++ (proved_line ++ after) → is_nil t.proofs ≡ true → ⊥
  none_told before after lines e none =
      refuted before after none (in_closing (counters t) verdict cause.line before (proved_line ++ after) (counters_flat t) (verdict_flat (is_nil t.proofs)) cause.flat lines (sym closing_is ∙ e))
