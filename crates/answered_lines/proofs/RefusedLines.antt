-- A line with answers is refused by no row, or by one alone.
use Rattle.std.proofs.Common.{◌≡◌, ◌⊎◌, inl, inr, ℕ, Bool, true, false, IsTrue, List, [], ◌∷◌, ◌++◌, Option, Some, None, option_map, sym, ap, ◌∙◌, subst}
use Rattle.std.specs.Option.{option_map_or}
use Rattle.std.proofs.lemmas.Bool.{false≢true, both_ways}
use Rattle.answers.specs.AnswerTrees.{Answer}
use Rattle.answered_lines.specs.Lines.{Asked, all_said_in, AnsweredRow, plain_rows, AnsweredLine, plain_lines, IsInferredWith, IsInstanceWith, IsStatedWith, IsInputWith, IsLineWith, AreLinesWith, IsRefutationWith}
use Rattle.answered_lines.specs.Refused.{StatedFailsWith, InputFailsWith, InferenceFailsWith, LineFailsWith, IsRefusedWith, IsAcceptedWith, HasFaultWith, IsFaultWith}
use Rattle.answered_lines.specs.Laws.{HaveNone, PlainFaultsStay}
use Rattle.answered_lines.proofs.PlainLines as plain
use Rattle.answered_lines.proofs.PlainLines.{inferred_plain, instance_plain, line_there, stated_plain, input_plain, none_pushed, plain_both}
use Rattle.derivation.specs.Later.{LaterWord}
use Rattle.derivation.specs.Lines.{FirstWord, assumed, wanted, clausified, denied, copied, resolved, factored, paramodulated, xx_resolved, instantiated, Inference, copy_inference, clash_inference, factor_inference, para_inference, xx_inference, ContentTree, is_formula, is_formula_at, LineTree, IsInferred, IsInstance, IsLine, is_empty_clause, ends_empty}
use Rattle.derivation.specs.Refused.{InferenceFails, InstanceFails, StatedFails, InputFails, LineFails, IsRefusedLine, IsAccepted, HasFault}
use Rattle.derivation.specs.declared.row.Row.{Row}
use Rattle.derivation.specs.declared.row.Row.TheVariants.{OtherClause}
use Rattle.derivation.proofs.Rows.{refused_none, refused_once}
use Rattle.fol_problem.specs.Stated.{Said}

-- what is refused plainly, or by its answers alone
abbrev Either : (Row → Type 0) → Type 0 → Type 0 → Row → Type 0
Either Fails Plain With row = Fails row ⊎ ((row ≡ OtherClause) × Plain × ¬ With)

either_none : (Fails : Row → Type 0) (Plain With : Type 0) (row : Row) → (With → Plain) → ((row : Row) → Fails row → ¬ Plain) → Either Fails Plain With row → ¬ With
either_none Fails Plain With row plain none (inl fails) is = none row fails (plain is)
either_none Fails Plain With row plain none (inr other) is = other.2 is

either_once : (Fails : Row → Type 0) (Plain With : Type 0) (row other : Row) → ((row : Row) → Fails row → ¬ Plain) → (Fails row → Fails other → row ≡ other) → Either Fails Plain With row → Either Fails Plain With other
    → row ≡ other
either_once Fails Plain With row other none once (inl fails) (inl again) = once fails again
either_once Fails Plain With row other none once (inl fails) (inr eight) = absurd (none row fails eight.1)
either_once Fails Plain With row other none once (inr eight) (inl fails) = absurd (none other fails eight.1)
either_once Fails Plain With row other none once (inr eight) (inr again) = eight.0 ∙ sym again.0

module _ (ss : List Asked) (goal : Bool) (ws : List LaterWord) (content : ContentTree) (asks : Option (List ℕ)) where
  stated_none : (row : Row) → StatedFailsWith goal ss ws content asks row → ¬ (IsStatedWith goal content asks ss × (ws ≡ []))
  stated_none row (inl four) is = four.1 is.0
  stated_none row (inr eight) is = eight.2 is.1

  stated_once : (row other : Row) → StatedFailsWith goal ss ws content asks row → StatedFailsWith goal ss ws content asks other → row ≡ other
  stated_once row other (inl four) (inl again) = four.0 ∙ sym again.0
  stated_once row other (inl four) (inr eight) = absurd (four.1 eight.1)
  stated_once row other (inr eight) (inl four) = absurd (four.1 eight.1)
  stated_once row other (inr eight) (inr again) = eight.0 ∙ sym again.0

module _ (ss : List Asked) (rows : List AnsweredRow) (ls : List AnsweredLine) (goal : Bool) (n : ℕ) (ws : List LaterWord) (content : ContentTree) (us : List Answer) where
  formula_there : IsInputWith ss rows ls goal n content us → IsTrue (is_formula_at (plain_lines ls) n)
  formula_there (f, asks, (l, at, is, first, own), some) =
      ap (λ o. option_map_or (λ l. is_formula l.content) o false) (line_there ls n ∙ ap (option_map (λ l. l.line)) at) ∙ ap is_formula is

  input_none : (row : Row) → InputFailsWith ss rows ls goal n ws content us row → ¬ (IsInputWith ss rows ls goal n content us × (ws ≡ []))
  input_none row (inl three) is = both_ways (is_formula_at (plain_lines ls) n) three.1 (formula_there is.0)
  input_none row (inr (inl five)) is = five.2 is.0
  input_none row (inr (inr eight)) is = eight.2 is.1

  input_once : (row other : Row) → InputFailsWith ss rows ls goal n ws content us row → InputFailsWith ss rows ls goal n ws content us other → row ≡ other
  input_once row other (inl three) (inl again) = three.0 ∙ sym again.0
  input_once row other (inl three) (inr (inl five)) = absurd (both_ways (is_formula_at (plain_lines ls) n) three.1 five.1)
  input_once row other (inl three) (inr (inr eight)) = absurd (both_ways (is_formula_at (plain_lines ls) n) three.1 (formula_there eight.1))
  input_once row other (inr (inl five)) (inl three) = absurd (both_ways (is_formula_at (plain_lines ls) n) three.1 five.1)
  input_once row other (inr (inl five)) (inr (inl again)) = five.0 ∙ sym again.0
  input_once row other (inr (inl five)) (inr (inr eight)) = absurd (five.2 eight.1)
  input_once row other (inr (inr eight)) (inl three) = absurd (both_ways (is_formula_at (plain_lines ls) n) three.1 (formula_there eight.1))
  input_once row other (inr (inr eight)) (inr (inl five)) = absurd (five.2 eight.1)
  input_once row other (inr (inr eight)) (inr (inr again)) = eight.0 ∙ sym again.0

-- the plain rows of a line that has this first word, behind no last one
module _ (ls : List AnsweredLine) (first : FirstWord) (ws : List LaterWord) (content : ContentTree) where
  abbrev plain_one : LineTree
  plain_one = record { number = 0; content = content; first = first; later = ws }

  plain_none : (row : Row) → LineFails [] [] (plain_lines ls) first ws content row → ¬ IsLine [] [] (plain_lines ls) first ws content
  plain_none row fails is = refused_none [] [] (plain_lines ls) None plain_one row (inr (tt, fails)) (tt, is)

  plain_once : (row other : Row) → LineFails [] [] (plain_lines ls) first ws content row → LineFails [] [] (plain_lines ls) first ws content other → row ≡ other
  plain_once row other fails again = refused_once [] [] (plain_lines ls) None plain_one row other (inr (tt, fails)) (inr (tt, again))

module _ (ls : List AnsweredLine) (i : Inference) (ws : List LaterWord) (content : ContentTree) (us : List Answer) where
  inference_none : ((row : Row) → InferenceFails (plain_lines ls) i ws content row → ¬ IsInferred (plain_lines ls) i ws content) → (row : Row) → InferenceFailsWith ls i ws content us row → ¬ IsInferredWith ls i ws content us
  inference_none none row = either_none (InferenceFails (plain_lines ls) i ws content) (IsInferred (plain_lines ls) i ws content) (IsInferredWith ls i ws content us) row (inferred_plain ls i ws content us) none

  inference_once : ((row : Row) → InferenceFails (plain_lines ls) i ws content row → ¬ IsInferred (plain_lines ls) i ws content) → (row other : Row)
      → (InferenceFails (plain_lines ls) i ws content row → InferenceFails (plain_lines ls) i ws content other → row ≡ other)
      → InferenceFailsWith ls i ws content us row → InferenceFailsWith ls i ws content us other → row ≡ other
  inference_once none row other = either_once (InferenceFails (plain_lines ls) i ws content) (IsInferred (plain_lines ls) i ws content) (IsInferredWith ls i ws content us) row other none

module _ (ss : List Asked) (rows : List AnsweredRow) (ls : List AnsweredLine) where
  line_none : (first : FirstWord) (ws : List LaterWord) (content : ContentTree) (asks : Option (List ℕ)) (us : List Answer) (row : Row)
      → LineFailsWith ss rows ls first ws content asks us row → ¬ IsLineWith ss rows ls first ws content asks us
  line_none assumed ws content asks us row fails = stated_none ss false ws content asks row fails
  line_none wanted ws content asks us row fails = stated_none ss true ws content asks row fails
  line_none (clausified n) ws content asks us row fails = input_none ss rows ls false n ws content us row fails
  line_none (denied n) ws content asks us row fails = input_none ss rows ls true n ws content us row fails
  line_none (copied n) ws content asks us row fails = inference_none ls (copy_inference n) ws content us (plain_none ls (copied n) ws content) row fails
  line_none (resolved n k) ws content asks us row fails = inference_none ls (clash_inference n k) ws content us (plain_none ls (resolved n k) ws content) row fails
  line_none (factored n a b) ws content asks us row fails = inference_none ls (factor_inference n a b) ws content us (plain_none ls (factored n a b) ws content) row fails
  line_none (paramodulated n a side m b path) ws content asks us row fails =
      inference_none ls (para_inference n a side m b path) ws content us (plain_none ls (paramodulated n a side m b path) ws content) row fails
  line_none (xx_resolved n a) ws content asks us row fails = inference_none ls (xx_inference n a) ws content us (plain_none ls (xx_resolved n a) ws content) row fails
  line_none (instantiated n es) ws content asks us row fails =
      either_none (InstanceFails (plain_lines ls) n es ws content) (IsInstance (plain_lines ls) n es ws content) (IsInstanceWith ls n es ws content us) row (instance_plain ls n es ws content us)
      (plain_none ls (instantiated n es) ws content) fails

  line_once : (first : FirstWord) (ws : List LaterWord) (content : ContentTree) (asks : Option (List ℕ)) (us : List Answer) (row other : Row)
      → LineFailsWith ss rows ls first ws content asks us row → LineFailsWith ss rows ls first ws content asks us other → row ≡ other
  line_once assumed ws content asks us row other fails again = stated_once ss false ws content asks row other fails again
  line_once wanted ws content asks us row other fails again = stated_once ss true ws content asks row other fails again
  line_once (clausified n) ws content asks us row other fails again = input_once ss rows ls false n ws content us row other fails again
  line_once (denied n) ws content asks us row other fails again = input_once ss rows ls true n ws content us row other fails again
  line_once (copied n) ws content asks us row other fails again =
      inference_once ls (copy_inference n) ws content us (plain_none ls (copied n) ws content) row other (plain_once ls (copied n) ws content row other) fails again
  line_once (resolved n k) ws content asks us row other fails again =
      inference_once ls (clash_inference n k) ws content us (plain_none ls (resolved n k) ws content) row other (plain_once ls (resolved n k) ws content row other) fails again
  line_once (factored n a b) ws content asks us row other fails again =
      inference_once ls (factor_inference n a b) ws content us (plain_none ls (factored n a b) ws content) row other (plain_once ls (factored n a b) ws content row other) fails again
  line_once (paramodulated n a side m b path) ws content asks us row other fails again =
      inference_once ls (para_inference n a side m b path) ws content us (plain_none ls (paramodulated n a side m b path) ws content) row other
      (plain_once ls (paramodulated n a side m b path) ws content row other) fails again
  line_once (xx_resolved n a) ws content asks us row other fails again =
      inference_once ls (xx_inference n a) ws content us (plain_none ls (xx_resolved n a) ws content) row other (plain_once ls (xx_resolved n a) ws content row other) fails again
  line_once (instantiated n es) ws content asks us row other fails again =
      either_once (InstanceFails (plain_lines ls) n es ws content) (IsInstance (plain_lines ls) n es ws content) (IsInstanceWith ls n es ws content us) row other
      (plain_none ls (instantiated n es) ws content) (plain_once ls (instantiated n es) ws content row other) fails again

  -- a refused line is no line, and is refused by one row
  pub refused_none_with : (last : Option ℕ) (l : AnsweredLine) (row : Row) → IsRefusedWith ss rows ls last l row → ¬ IsAcceptedWith ss rows ls last l
  refused_none_with last l row (inl two) is = two.1 is.0
  refused_none_with last l row (inr fails) is = line_none l.line.first l.line.later l.line.content l.asks l.answers row fails.1 is.1

  pub refused_once_with : (last : Option ℕ) (l : AnsweredLine) (row other : Row) → IsRefusedWith ss rows ls last l row → IsRefusedWith ss rows ls last l other → row ≡ other
  refused_once_with last l row other (inl two) (inl again) = two.0 ∙ sym again.0
  refused_once_with last l row other (inl two) (inr fails) = absurd (two.1 fails.0)
  refused_once_with last l row other (inr fails) (inl two) = absurd (two.1 fails.0)
  refused_once_with last l row other (inr fails) (inr again) = line_once l.line.first l.line.later l.line.content l.asks l.answers row other fails.1 again.1

module _ (ss : List Asked) (rows : List AnsweredRow) where
  fault_none : (earlier : List AnsweredLine) (last : Option ℕ) (ls : List AnsweredLine) (number : ℕ) (row : Row) → HasFaultWith ss rows earlier last ls number row
      → AreLinesWith ss rows earlier last ls → ¬ IsTrue (ends_empty (plain_lines ls))
  fault_none earlier last [] number row fault are ends = fault
  fault_none earlier last (l ∷ []) number row (is, inl refused) are ends = refused_none_with ss rows earlier last l row refused (are.0, are.1)
  fault_none earlier last (l ∷ []) number row (is, inr nine) are ends = both_ways (is_empty_clause l.line.content) nine.2 ends
  fault_none earlier last (l ∷ k ∷ ls) number row (inl refused) are ends = refused_none_with ss rows earlier last l row refused.1 (are.0, are.1)
  fault_none earlier last (l ∷ k ∷ ls) number row (inr behind) are ends = fault_none (earlier ++ l ∷ []) (Some l.line.number) (k ∷ ls) number row behind.1 are.2 ends

  fault_once : (earlier : List AnsweredLine) (last : Option ℕ) (ls : List AnsweredLine) (number : ℕ) (row : Row) (other_number : ℕ) (other : Row) → HasFaultWith ss rows earlier last ls number row
      → HasFaultWith ss rows earlier last ls other_number other → (number ≡ other_number) × (row ≡ other)
  fault_once earlier last [] number row other_number other fault again = absurd fault
  fault_once earlier last (l ∷ []) number row other_number other (is, inl refused) (was, inl more) = (is ∙ sym was, refused_once_with ss rows earlier last l row other refused more)
  fault_once earlier last (l ∷ []) number row other_number other (is, inl refused) (was, inr nine) = absurd (refused_none_with ss rows earlier last l row refused nine.0)
  fault_once earlier last (l ∷ []) number row other_number other (is, inr nine) (was, inl refused) = absurd (refused_none_with ss rows earlier last l other refused nine.0)
  fault_once earlier last (l ∷ []) number row other_number other (is, inr nine) (was, inr again) = (is ∙ sym was, nine.1 ∙ sym again.1)
  fault_once earlier last (l ∷ k ∷ ls) number row other_number other (inl refused) (inl again) = (refused.0 ∙ sym again.0, refused_once_with ss rows earlier last l row other refused.1 again.1)
  fault_once earlier last (l ∷ k ∷ ls) number row other_number other (inl refused) (inr behind) = absurd (refused_none_with ss rows earlier last l row refused.1 behind.0)
  fault_once earlier last (l ∷ k ∷ ls) number row other_number other (inr behind) (inl refused) = absurd (refused_none_with ss rows earlier last l other refused.1 behind.0)
  fault_once earlier last (l ∷ k ∷ ls) number row other_number other (inr behind) (inr again) =
      fault_once (earlier ++ l ∷ []) (Some l.line.number) (k ∷ ls) number row other_number other behind.1 again.1

-- lines that have a fault are no refutation, and have one fault
pub whole_fault_none_with : (ss : List Asked) (rows : List AnsweredRow) (ls : List AnsweredLine) (number : ℕ) (row : Row) → IsFaultWith ss rows ls number row → ¬ IsRefutationWith ss rows ls
whole_fault_none_with ss rows [] number row fault is = false≢true is.1
whole_fault_none_with ss rows (l ∷ ls) number row fault is = fault_none ss rows [] None (l ∷ ls) number row fault is.0 is.1

pub whole_fault_once_with : (ss : List Asked) (rows : List AnsweredRow) (ls : List AnsweredLine) (number : ℕ) (row : Row) (other_number : ℕ) (other : Row) → IsFaultWith ss rows ls number row
    → IsFaultWith ss rows ls other_number other → (number ≡ other_number) × (row ≡ other)
whole_fault_once_with ss rows [] number row other_number other fault again = (fault.0 ∙ sym again.0, fault.1 ∙ sym again.1)
whole_fault_once_with ss rows (l ∷ ls) number row other_number other fault again = fault_once ss rows [] None (l ∷ ls) number row other_number other fault again

-- the plain row of a line that neither asks nor has answers, behind others of which none does
module _ (ss : List Asked) (rows : List AnsweredRow) (ls : List AnsweredLine) (none : HaveNone ls) where
  abbrev said_plainly : List Said
  said_plainly = all_said_in ss

  stated_stays : (goal : Bool) (ws : List LaterWord) (content : ContentTree) (asks : Option (List ℕ)) (row : Row) → asks ≡ None → StatedFails goal said_plainly ws content row → StatedFailsWith goal ss ws content asks row
  stated_stays goal ws content asks row nothing (inl four) = inl (four.0, λ is. four.1 (stated_plain goal content asks ss is))
  stated_stays goal ws content asks row nothing (inr eight) = inr (eight.0, plain.stated_none ls none ss rows goal content asks nothing eight.1, eight.2)

  input_stays : (goal : Bool) (n : ℕ) (ws : List LaterWord) (content : ContentTree) (row : Row) → InputFails said_plainly (plain_rows rows) (plain_lines ls) goal n ws content row → InputFailsWith ss rows ls goal n ws content [] row
  input_stays goal n ws content row (inl three) = inl three
  input_stays goal n ws content row (inr (inl five)) = inr (inl (five.0, five.1, λ is. five.2 (input_plain ss rows ls goal n content [] is)))
  input_stays goal n ws content row (inr (inr eight)) = inr (inr (eight.0, plain.input_none ls none ss rows goal n content eight.1, eight.2))

  line_stays : (first : FirstWord) (ws : List LaterWord) (content : ContentTree) (asks : Option (List ℕ)) (row : Row) → asks ≡ None → LineFails said_plainly (plain_rows rows) (plain_lines ls) first ws content row
      → LineFailsWith ss rows ls first ws content asks [] row
  line_stays assumed ws content asks row nothing fails = stated_stays false ws content asks row nothing fails
  line_stays wanted ws content asks row nothing fails = stated_stays true ws content asks row nothing fails
  line_stays (clausified n) ws content asks row nothing fails = input_stays false n ws content row fails
  line_stays (denied n) ws content asks row nothing fails = input_stays true n ws content row fails
  line_stays (copied n) ws content asks row nothing fails = inl fails
  line_stays (resolved n k) ws content asks row nothing fails = inl fails
  line_stays (factored n a b) ws content asks row nothing fails = inl fails
  line_stays (paramodulated n a side m b path) ws content asks row nothing fails = inl fails
  line_stays (xx_resolved n a) ws content asks row nothing fails = inl fails
  line_stays (instantiated n es) ws content asks row nothing fails = inl fails

  refused_stays : (last : Option ℕ) (l : AnsweredLine) (row : Row) → l.asks ≡ None → l.answers ≡ [] → IsRefusedLine said_plainly (plain_rows rows) (plain_lines ls) last l.line row → IsRefusedWith ss rows ls last l row
  refused_stays last l row nothing empty (inl two) = inl two
  refused_stays last l row nothing empty (inr fails) = inr (
    fails.0,
    subst (λ us. LineFailsWith ss rows ls l.line.first l.line.later l.line.content l.asks us row) (sym empty) (line_stays l.line.first l.line.later l.line.content l.asks row nothing fails.1),
  )

  accepted_stays : (last : Option ℕ) (l : AnsweredLine) → l.asks ≡ None → l.answers ≡ [] → IsAccepted said_plainly (plain_rows rows) (plain_lines ls) last l.line → IsAcceptedWith ss rows ls last l
  accepted_stays last l nothing empty is =
      (is.0, subst (IsLineWith ss rows ls l.line.first l.line.later l.line.content l.asks) (sym empty) (plain.line_none ls none ss rows l.line.first l.line.later l.line.content l.asks nothing is.1))

module _ (ss : List Asked) (rows : List AnsweredRow) where
  fault_stays : (earlier : List AnsweredLine) (last : Option ℕ) (ls : List AnsweredLine) (number : ℕ) (row : Row) → HaveNone earlier → HaveNone ls
      → HasFault (all_said_in ss) (plain_rows rows) (plain_lines earlier) last (plain_lines ls) number row → HasFaultWith ss rows earlier last ls number row
  fault_stays earlier last [] number row before none fault = fault
  fault_stays earlier last (l ∷ []) number row before none (is, inl refused) = (is, inl (refused_stays ss rows earlier before last l row none.0 none.1 refused))
  fault_stays earlier last (l ∷ []) number row before none (is, inr nine) = (is, inr (accepted_stays ss rows earlier before last l none.0 none.1 nine.0, nine.1, nine.2))
  fault_stays earlier last (l ∷ k ∷ ls) number row before none (inl refused) = inl (refused.0, refused_stays ss rows earlier before last l row none.0 none.1 refused.1)
  fault_stays earlier last (l ∷ k ∷ ls) number row before none (inr behind) = inr (
    accepted_stays ss rows earlier before last l none.0 none.1 behind.0,
    fault_stays (earlier ++ l ∷ []) (Some l.line.number) (k ∷ ls) number row (none_pushed earlier l before none.0 none.1) none.2
        (subst (λ es. HasFault (all_said_in ss) (plain_rows rows) es (Some l.line.number) (plain_lines (k ∷ ls)) number row) (sym (plain_both earlier (l ∷ []))) behind.1),
  )

pub whole_fault_stays : PlainFaultsStay
whole_fault_stays ss rows [] number row none fault = fault
whole_fault_stays ss rows (l ∷ ls) number row none fault = fault_stays ss rows [] None (l ∷ ls) number row tt none fault
