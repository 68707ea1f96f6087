-- What stands in the output of a run shows proofs.
use Rattle.std.proofs.Common.{◌≡◌, ◌⊎◌, inl, inr, ℕ, suc, Bool, true, false, if◌then◌else◌, length, List, [], ◌∷◌, ◌++◌, map, codes, Option, Result, Ok, Err, refl, sym, ap, ap₂, ◌∙◌, subst, append_assoc, append-nil, arith}
use Rattle.std.proofs.lemmas.List.{append_cancel_left}
use Rattle.std.specs.Fmt.{decimal}
use Rattle.std.specs.List.{AllByRecursion}
use Rattle.clause_store.specs.Ancestors.{AreAncestors}
use Rattle.clause_store.specs.Lines.{PlainLine}
use Rattle.ladr_intake.specs.Command.{End, own, refused, read_fault, end_of, MayStand, EndsBy}
use Rattle.ladr_intake.specs.Refusals.{refuses, refusal_text}
use Rattle.ladr_intake.specs.declared.stops.Refused.{Refused}
use Rattle.ladr_intake.specs.declared.stops.Refused.TheVariants.{Unreadable, Misuse, TooLarge}
use Rattle.ladr_formulas.specs.declared.styles.Mode.{Mode}
use Rattle.ladr_formulas.specs.declared.styles.Mode.TheVariants.{Prover}
use Rattle.ladr_io.specs.Streams.{Inflow, Outflow, AreLastHeld}
use Rattle.ladr_io.specs.Times.{Times}
use Rattle.ladr_output.proofs.Standing.{is_unbroken, unbroken_append, decimal_unbroken, one_front}
use Rattle.ladr_output.proofs.Tellings.{cut_text}
use Rattle.ladr_output.specs.Standing.{AreWholeLines}
use Rattle.ladr_output.specs.Telling.{as_line, Tells}
use Rattle.ladr_output.specs.declared.cut.Cut.{Cut}
use Rattle.ladr_output.specs.declared.cut.Cut.TheVariants.{WriteFault, Memory}
use Rattle.ladr_problem.specs.File.{Says, Outcome}
use Rattle.ladr_prover9.proofs.OneEnd.{asks_once}
use Rattle.ladr_prover9.proofs.StandingProofs.{first, IsInside, banner_outside, verdict_outside, IsNumbered, form_text, forms_text, IsGoodForm, BeginsForm, IsBehind, begins_or, InClosing, at_first, at_second, at_third, at_end, in_closing}
use Rattle.ladr_prover9.specs.Finding.{KeepsLimits, Proves, Proving}
use Rattle.ladr_prover9.specs.Lines.{counters_line, proved_line, failed_line, proved_or_failed, cause_line, closing_lines}
use Rattle.ladr_prover9.specs.ProofTexts.{quest_text, head_of_proof, AreProofTexts}
use Rattle.ladr_prover9.specs.Quests.{Quest, asks, quest_lines, quest_seconds}
use Rattle.ladr_prover9.specs.Shown.{AreRefutingLines, LeavesNone, ShowsRefutation, HasRefutation, ShowsRefutations, ProofsShow}
use Rattle.ladr_prover9.specs.Story.{ProofsCome}
use Rattle.ladr_prover9.specs.declared.ends.ProverEnd.{ProverEnd}
use Rattle.ladr_prover9.specs.declared.ends.ProverEnd.TheVariants.{MaxProofs, SosEmpty, MaxMegs, MaxSeconds, MaxGiven, MaxKept, ClauseLimit}
use Rattle.proof_print.specs.LineTexts.{proof_banner, frame_text}
use Rattle.proof_print.specs.declared.texts.Heads.{Heads}
use Rattle.prover_setup.specs.SearchInputs.{IsReachedIn}
use Rattle.prover_steps.specs.Searching.{FoundProof, SearchState, is_nil}

-- the last lines are within a line each
module _ (t : SearchState) where
  abbrev pub counters : List ℕ
  counters =
      codes "% Given=" ++ decimal t.given ++ codes ". Generated=" ++ decimal t.generated ++ codes ". Kept=" ++ decimal t.kept ++ codes ". Large=" ++ decimal t.large ++ codes ". Proofs=" ++ decimal (length t.proofs) ++ codes "."

  -- one number more, and its end
  both : (a b : List ℕ) (n : ℕ) → is_unbroken a ≡ true → is_unbroken b ≡ true → is_unbroken (a ++ decimal n ++ b) ≡ true
  both a b n h k = unbroken_append (a ++ decimal n) b (unbroken_append a (decimal n) h (decimal_unbroken n)) k

  pub counters_flat : is_unbroken counters ≡ true
  counters_flat =
      let given = codes "% Given=" ++ decimal t.given ++ codes ". Generated=" in
      let generated = given ++ decimal t.generated ++ codes ". Kept=" in
      let kept = generated ++ decimal t.kept ++ codes ". Large=" in
      let large = kept ++ decimal t.large ++ codes ". Proofs=" in
      both large (codes ".") (length t.proofs)
      (both kept (codes ". Proofs=") t.large
      (both generated (codes ". Large=") t.kept
      (both given (codes ". Kept=") t.generated
      (both (codes "% Given=") (codes ". Generated=") t.given refl refl) refl) refl) refl) refl

abbrev pub verdict_text : Bool → List ℕ
verdict_text true = codes "SEARCH FAILED"
verdict_text false = codes "THEOREM PROVED"

pub verdict_flat : (b : Bool) → is_unbroken (verdict_text b) ≡ true
verdict_flat true = refl
verdict_flat false = refl

pub verdict_is : (b : Bool) → (if b then failed_line else proved_line) ≡ as_line (verdict_text b)
verdict_is true = refl
verdict_is false = refl

-- the line of the cause, but for a clause limit
pub record IsCause (text : List ℕ) : Type 0 where
  pub line : List ℕ
  pub is : text ≡ as_line line
  pub flat : is_unbroken line ≡ true
  pub opens : first (as_line line) ≡ 37

exit_cause : (reason : List ℕ) → is_unbroken reason ≡ true → IsCause (as_line (codes "% Exit " ++ reason ++ codes "."))
exit_cause reason h = record { line = codes "% Exit " ++ reason ++ codes "."; is = refl; flat = unbroken_append (codes "% Exit " ++ reason) (codes ".") (unbroken_append (codes "% Exit ") reason refl h) refl; opens = refl }

abbrev pub IsOwnEnd : ProverEnd → Type 0
IsOwnEnd (ClauseLimit formula) = ⊥
IsOwnEnd end = Unit {0}

pub cause_is : (end : ProverEnd) → IsOwnEnd end → IsCause (cause_line end)
cause_is MaxProofs h = exit_cause (codes "max_proofs") refl
cause_is SosEmpty h = exit_cause (codes "sos_empty") refl
cause_is MaxMegs h = exit_cause (codes "max_megs") refl
cause_is MaxGiven h = exit_cause (codes "max_given") refl
cause_is MaxKept h = exit_cause (codes "max_kept") refl
cause_is (ClauseLimit formula) h = absurd h
cause_is (MaxSeconds from to) h = record {
  line = codes "% Exit max_seconds " ++ decimal from ++ codes " " ++ decimal to ++ codes ".";
  is = refl;
  flat = unbroken_append (codes "% Exit max_seconds " ++ decimal from ++ codes " " ++ decimal to) (codes ".") (unbroken_append (codes "% Exit max_seconds " ++ decimal from ++ codes " ") (decimal to)
      (unbroken_append (codes "% Exit max_seconds " ++ decimal from) (codes " ") (unbroken_append (codes "% Exit max_seconds ") (decimal from) refl (decimal_unbroken from)) refl) (decimal_unbroken to)) refl;
  opens = refl;
}

-- lines are a refutation, and leave no countermodel within the limits
abbrev pub IsShowing : Quest → List PlainLine → Type 0
IsShowing q lines = AreRefutingLines q.search lines × (KeepsLimits q → LeavesNone q.search)

-- What is known of a quest that the bytes ask for: of the lines of each state that is reached the texts are numbered lines,
-- and the ones that a proof rests on are a refutation, which leaves no countermodel.
pub record Known (q : Quest) : Type 0 where
  pub numbered : (t : SearchState) (n : ℕ) (lines : List PlainLine) → AreAncestors (quest_lines q t) n lines → AllByRecursion IsNumbered (map (quest_text q) lines)
  pub refute : (t : SearchState) → IsReachedIn q.search t → AllByRecursion (λ p. (lines : List PlainLine) → AreAncestors (quest_lines q t) p.line lines → IsShowing q lines) t.proofs

module _ (q : Quest) (known : Known q) where
  -- the proofs of a state as forms
  abbrev AllRefute : List (Heads × List PlainLine) → Type 0
  AllRefute fs = AllByRecursion (λ f. IsShowing q f.1) fs

  record Formed (proofs : List ℕ) : Type 0 where
    forms : List (Heads × List PlainLine)
    good : AllByRecursion (IsGoodForm (quest_text q)) forms
    refute : AllRefute forms
    is : proofs ≡ forms_text (quest_text q) forms

  formed : (t : SearchState) (k : ℕ) (ps : List FoundProof) (text : List ℕ) → AllByRecursion (λ p. (lines : List PlainLine) → AreAncestors (quest_lines q t) p.line lines → IsShowing q lines) ps
      → AreProofTexts q (quest_lines q t) k ps text → Formed text
  formed t k [] text refute h = record { forms = []; good = tt; refute = tt; is = h }
  formed t k (p ∷ ps) text refute h =
      let one = h.2 in
      let rest = formed t (suc k) ps h.1 refute.1 h.3 in
      record {
        forms = (head_of_proof k p one.lines, one.lines) ∷ rest.forms;
        good = (known.numbered t p.line one.lines one.ancestors, rest.good);
        refute = (refute.0 one.lines one.ancestors, rest.refute);
        is = h.4 ∙ ap₂ (λ (u v : List ℕ). u ++ v) one.text_is rest.is;
      }

  -- there is a form where there is a proof
  some_form : (t : SearchState) (k : ℕ) (ps : List FoundProof) (text : List ℕ) (refute : AllByRecursion (λ p. (lines : List PlainLine) → AreAncestors (quest_lines q t) p.line lines → IsShowing q lines) ps)
      (h : AreProofTexts q (quest_lines q t) k ps text) → is_nil ps ≡ false → is_nil (formed t k ps text refute h).forms ≡ false
  unfolding formed
  some_form t k [] text refute h e = e
  some_form t k (p ∷ ps) text refute h e = refl

  -- a refutation among others
  refuting : (front : List (Heads × List PlainLine)) (f : Heads × List PlainLine) (back : List (Heads × List PlainLine)) → AllRefute (front ++ f ∷ back) → IsShowing q f.1
  refuting [] f back h = h.0
  refuting (x ∷ front) f back h = refuting front f back h.1

  -- the first form stands in front
  first_stands : (fs : List (Heads × List PlainLine)) (last : List ℕ) → is_nil fs ≡ false → AllRefute fs → HasRefutation q (forms_text (quest_text q) fs ++ last)
  first_stands [] last e h = absurd cc
  first_stands (f ∷ fs) last e h = record {
    head = f.0;
    lines = f.1;
    refute = h.0.0;
    stands = ([], (tt, (forms_text (quest_text q) fs ++ last, append_assoc (form_text (quest_text q) f) (forms_text (quest_text q) fs) last)));
  }

  first_leaves : (fs : List (Heads × List PlainLine)) → is_nil fs ≡ false → AllRefute fs → KeepsLimits q → LeavesNone q.search
  first_leaves [] e h within = absurd cc
  first_leaves (f ∷ fs) e h within = h.0.1 within

  -- a text of a state with what stands behind it: nothing, or the last lines
  pub data IsLast (t : SearchState) : List ℕ → Type 0 where
    no_lines : IsLast t []
    last_lines : (cause : List ℕ) → IsCause cause → IsLast t (counters_line t ++ (proved_or_failed t ++ cause))

  -- such a text
  pub record Printed (text : List ℕ) : Type 0 where
    state : SearchState
    reached : IsReachedIn q.search state
    within : KeepsLimits q
    proofs : List ℕ
    are : AreProofTexts q (quest_lines q state) 1 state.proofs proofs
    last : List ℕ
    is_last : IsLast state last
    is : text ≡ frame_text q.input ++ (proofs ++ last)

  -- where a line begins among the last lines
  last_place : (t : SearchState) (last b tail : List ℕ) → IsLast t last → AreWholeLines b → last ≡ b ++ tail
      → (first tail ≡ 0) ⊎ ((first tail ≡ 37) ⊎ ((b ≡ counters_line t) × (first tail ≡ first (as_line (verdict_text (is_nil t.proofs))))))
  last_place t _ [] tail no_lines lines e = inl (ap first (sym e))
  last_place t _ (x ∷ b) tail no_lines lines e = absurd cc
  last_place t _ b tail (last_lines cause h) lines e =
      let verdict = verdict_text (is_nil t.proofs) in
      let whole : as_line (counters t) ++ (as_line verdict ++ as_line h.line) ≡ b ++ tail =
      ap (λ (w : List ℕ). counters_line t ++ w) (ap₂ (λ (u v : List ℕ). u ++ v) (sym (verdict_is (is_nil t.proofs))) (sym h.is)) ∙ e in
      placed (in_closing (counters t) verdict h.line b tail (counters_flat t) (verdict_flat (is_nil t.proofs)) h.flat lines whole)
    where
      opened : (c : Bool) (rest : List ℕ) → first (as_line (verdict_text c) ++ rest) ≡ first (as_line (verdict_text c))
      opened true rest = refl
      opened false rest = refl

      placed : InClosing (counters t) (verdict_text (is_nil t.proofs)) h.line b tail
          → (first tail ≡ 0) ⊎ ((first tail ≡ 37) ⊎ ((b ≡ counters_line t) × (first tail ≡ first (as_line (verdict_text (is_nil t.proofs))))))
      placed (at_first k) = inr (inl (ap first k))
      placed (at_second k j) = inr (inr (k, ap first j ∙ opened (is_nil t.proofs) (as_line h.line)))
      placed (at_third k) = inr (inl (ap first k ∙ h.opens))
      placed (at_end k) = inl (ap first k)

  module _ (text written rest : List ℕ) (whole : Printed text) (parts : text ≡ written ++ rest) where
    abbrev t : SearchState
    t = whole.state

    forms : Formed whole.proofs
    forms = formed t 1 t.proofs whole.proofs (known.refute t whole.reached) whole.are

    -- what stands behind the frame
    behind_frame : (before here after : List ℕ) → written ≡ frame_text q.input ++ (before ++ (here ++ after)) → forms_text (quest_text q) forms.forms ++ whole.last ≡ before ++ (here ++ (after ++ rest))
    behind_frame before here after e =
        ap (λ (u : List ℕ). u ++ whole.last) (sym forms.is)
        ∙ append_cancel_left (frame_text q.input) (whole.proofs ++ whole.last) (before ++ (here ++ (after ++ rest)))
        (sym whole.is ∙ parts ∙ ap (λ (u : List ℕ). u ++ rest) e ∙ append_assoc (frame_text q.input) (before ++ (here ++ after)) rest
        ∙ ap (λ (u : List ℕ). frame_text q.input ++ u) (append_assoc before (here ++ after) rest ∙ ap (λ (u : List ℕ). before ++ u) (append_assoc here after rest)))

    begun : (before tail : List ℕ) → AreWholeLines before → forms_text (quest_text q) forms.forms ++ whole.last ≡ before ++ tail
        → IsInside tail ⊎ (BeginsForm (quest_text q) forms.forms whole.last before tail ⊎ IsBehind (quest_text q) forms.forms whole.last before tail)
    begun before tail lines e = begins_or (quest_text q) forms.forms whole.last before tail forms.good lines e

    in_form : (before after : List ℕ) → BeginsForm (quest_text q) forms.forms whole.last before (proof_banner ++ (after ++ rest)) → ShowsRefutation q (proof_banner ++ after) × LeavesNone q.search
    in_form before after s =
        let refute = refuting s.front s.form s.back (subst AllRefute s.split forms.refute) in (
          record {
            head = s.form.0;
            lines = s.form.1;
            refute = refute.0;
            shown = one_front (proof_banner ++ after) (form_text (quest_text q) s.form) rest (forms_text (quest_text q) s.back ++ whole.last) (append_assoc proof_banner after rest ∙ s.tail_is);
          },
          refute.1 whole.within,
        )

    no_banner : (c : Bool) → 61 ≡ first (as_line (verdict_text c)) → ⊥
    no_banner true e = absurd (omega (arith, e))
    no_banner false e = absurd (omega (arith, e))

    banner_stands : (before after : List ℕ) → AreWholeLines before → written ≡ frame_text q.input ++ (before ++ (proof_banner ++ after)) → ShowsRefutation q (proof_banner ++ after) × LeavesNone q.search
    banner_stands before after lines e =
        let tail = proof_banner ++ (after ++ rest) in
        elim (begun before tail lines (behind_frame before proof_banner after e)) [
          | inl inside ↦ absurd (banner_outside (after ++ rest) inside)
          | inr (inl s) ↦ in_form before after s
          | inr (inr s) ↦ elim (last_place t whole.last s.middle tail whole.is_last s.whole s.last_is) [
            | inl none ↦ absurd (omega (arith, none))
            | inr (inl line) ↦ absurd (omega (arith, line))
            | inr (inr k) ↦ absurd (no_banner (is_nil t.proofs) k.1)
          ]
        ]

    -- the verdict tells that there is a proof
    proof_there : (c : Bool) → 84 ≡ first (as_line (verdict_text c)) → c ≡ false
    proof_there true e = absurd (omega (arith, e))
    proof_there false e = refl

    some_there : is_nil t.proofs ≡ false → is_nil forms.forms ≡ false
    unfolding forms
    some_there e = some_form t 1 t.proofs whole.proofs (known.refute t whole.reached) whole.are e

    with_none : (before : List ℕ) → is_nil forms.forms ≡ false → HasRefutation q before → HasRefutation q before × LeavesNone q.search
    with_none before some h = (h, first_leaves forms.forms some forms.refute whole.within)

    verdict_stands : (before after : List ℕ) → AreWholeLines before → written ≡ frame_text q.input ++ (before ++ (proved_line ++ after)) → HasRefutation q before × LeavesNone q.search
    verdict_stands before after lines e =
        let tail = proved_line ++ (after ++ rest) in
        elim (begun before tail lines (behind_frame before proved_line after e)) [
          | inl inside ↦ absurd (verdict_outside _ inside)
          | inr (inl s) ↦ (let same : 84 ≡ 61 = ap first s.tail_is in absurd (omega (arith, same)))
          | inr (inr s) ↦ elim (last_place t whole.last s.middle tail whole.is_last s.whole s.last_is) [
            | inl none ↦ absurd (omega (arith, none))
            | inr (inl line) ↦ absurd (omega (arith, line))
            | inr (inr k) ↦ with_none before (some_there (proof_there (is_nil t.proofs) k.1)) (subst (HasRefutation q) (sym (s.before_is ∙ ap (λ (u : List ℕ). forms_text (quest_text q) forms.forms ++ u) k.0))
                (first_stands forms.forms (counters_line t) (some_there (proof_there (is_nil t.proofs) k.1)) forms.refute))
          ]
        ]

    shows : ShowsRefutations q written
    shows = record { proofs = banner_stands; proved = verdict_stands }

  -- what begins otherwise than a frame shows nothing
  no_frame : (text written rest more : List ℕ) → (first text ≡ 0) ⊎ (first text ≡ 108) → text ≡ written ++ rest → written ≡ frame_text q.input ++ more → ⊥
  no_frame text written rest more (inl h) e k =
      let same : first text ≡ 37 = ap first e ∙ ap (λ (u : List ℕ). first (u ++ rest)) k in
      absurd (omega (arith, same, h))
  no_frame text written rest more (inr h) e k =
      let same : first text ≡ 37 = ap first e ∙ ap (λ (u : List ℕ). first (u ++ rest)) k in
      absurd (omega (arith, same, h))

  no_text : (text written rest : List ℕ) → (first text ≡ 0) ⊎ (first text ≡ 108) → text ≡ written ++ rest → ShowsRefutations q written
  no_text text written rest h e = record {
    proofs = λ before after lines k. absurd (no_frame text written rest _ h e k);
    proved = λ before after lines k. absurd (no_frame text written rest _ h e k);
  }

  -- what a run may have printed
  pub data IsPrinted (text : List ℕ) : Type 0 where
    of_none : first text ≡ 0 → IsPrinted text
    of_refusal : first text ≡ 108 → IsPrinted text
    of_proofs : Printed text → IsPrinted text

  pub printed_shows : (text written rest : List ℕ) → IsPrinted text → text ≡ written ++ rest → ShowsRefutations q written
  printed_shows text written rest (of_none h) e = no_text text written rest (inl h) e
  printed_shows text written rest (of_refusal h) e = no_text text written rest (inr h) e
  printed_shows text written rest (of_proofs h) e = shows text written rest h e

  going_printed : (seconds : Option ℕ) (times : Times) (text : List ℕ) → Proving q seconds times text → IsPrinted text
  going_printed seconds times text (inl h) = of_none (ap first h.0)
  going_printed seconds times text (inr (within, inl h)) = of_proofs (record {
    state = h.state;
    reached = h.reached;
    within = within;
    proofs = h.prints.proofs;
    are = h.prints.are;
    last = [];
    is_last = no_lines;
    is = h.prints.text_is ∙ ap (λ (u : List ℕ). frame_text q.input ++ u) (sym (append-nil h.prints.proofs));
  })
  going_printed seconds times text (inr (within, inr (end, (t, h)))) = of_proofs (record {
    state = t;
    reached = h.reached;
    within = within;
    proofs = h.prints.proofs;
    are = h.prints.are;
    last = [];
    is_last = no_lines;
    is = h.prints.text_is ∙ ap (λ (u : List ℕ). frame_text q.input ++ u) (sym (append-nil h.prints.proofs));
  })

  abbrev ComesTo : Option ℕ → Times → ProverEnd → List ℕ → Type 0
  ComesTo seconds times end text = KeepsLimits q × ((t : SearchState) × ((front : List ℕ) × ProofsCome q seconds times end t front × (text ≡ front ++ closing_lines t end)))

  come_printed : (seconds : Option ℕ) (times : Times) (end : ProverEnd) (text : List ℕ) → IsOwnEnd end → ComesTo seconds times end text → IsPrinted text
  come_printed seconds times end text mine (within, (u, (front, h, e))) = of_proofs (record {
    state = u;
    reached = h.reached;
    within = within;
    proofs = h.prints.proofs;
    are = h.prints.are;
    last = closing_lines u end;
    is_last = last_lines (cause_line end) (cause_is end mine);
    is = e ∙ ap (λ (w : List ℕ). w ++ closing_lines u end) h.prints.text_is ∙ append_assoc (frame_text q.input) h.prints.proofs (closing_lines u end);
  })

  ends_printed : (seconds : Option ℕ) (times : Times) (end : ProverEnd) (text : List ℕ) → Proves q seconds times end text → IsPrinted text
  ends_printed seconds times MaxProofs text h = come_printed seconds times MaxProofs text tt h
  ends_printed seconds times SosEmpty text h = come_printed seconds times SosEmpty text tt h
  ends_printed seconds times MaxMegs text h = come_printed seconds times MaxMegs text tt h
  ends_printed seconds times (MaxSeconds a b) text h = come_printed seconds times (MaxSeconds a b) text tt h
  ends_printed seconds times MaxGiven text h = come_printed seconds times MaxGiven text tt h
  ends_printed seconds times MaxKept text h = come_printed seconds times MaxKept text tt h
  ends_printed seconds times (ClauseLimit formula) text h = of_refusal (ap first h.2)

refusal_first : (why : Refused) → first (refusal_text why) ≡ 108
refusal_first (Unreadable place) = refl
refusal_first (Misuse place why) = refl
refusal_first (TooLarge byte what) = refl

module _ (once : (m : Mode) (bytes : List ℕ) (o p : Outcome) → Says m bytes o → Says m bytes p → o ≡ p) (known : (bytes : List ℕ) (q : Quest) → asks bytes q → Known q) where
  module _ (word : Option ℕ) (times : Times) (a b : Inflow) (bytes : List ℕ) where
    abbrev Goes : List ℕ → Type 0
    Goes = MayStand asks (refuses Prover) (times.count ≡ 0) (λ q. Proving q (quest_seconds word q) times) (λ q. Proves q (quest_seconds word q) times) a b bytes

    abbrev Ends : End ProverEnd → List ℕ → Type 0
    Ends = EndsBy asks (refuses Prover) (times.count ≡ 0) (λ q. Proving q (quest_seconds word q) times) (λ q. Proves q (quest_seconds word q) times) a b bytes

    goes_printed : (q : Quest) (asked : asks bytes q) (text : List ℕ) → Goes text → IsPrinted q (known bytes q asked) text
    goes_printed q asked text (inl h) = of_none (ap first h.0)
    goes_printed q asked text (inr (read, (x, says, goes))) =
        going_printed q (known bytes q asked) (quest_seconds word q) times text (subst (λ (y : Quest). Proving y (quest_seconds word y) times text) (asks_once once bytes x q says asked) goes)

    end_printed : (q : Quest) (asked : asks bytes q) (e : End ProverEnd) (text : List ℕ) → Ends e text → IsPrinted q (known bytes q asked) text
    end_printed q asked (own e) text (read, (x, says, comes)) =
        ends_printed q (known bytes q asked) (quest_seconds word q) times e text (subst (λ (y : Quest). Proves y (quest_seconds word y) times e text) (asks_once once bytes x q says asked) comes)
    end_printed q asked (refused why) text h = of_refusal (ap first h.2 ∙ refusal_first why)
    end_printed q asked read_fault text h = of_refusal (ap first h.2)

    some_printed : (q : Quest) (asked : asks bytes q) (text : List ℕ) → Goes text ⊎ ((e : End ProverEnd) × Ends e text) → IsPrinted q (known bytes q asked) text
    some_printed q asked text (inl h) = goes_printed q asked text h
    some_printed q asked text (inr h) = end_printed q asked h.0 text h.1

    -- what was written is a front of such a text
    record Wrote (c d : Outflow) : Type 0 where
      written : List ℕ
      rest : List ℕ
      text : List ℕ
      may : Goes text ⊎ ((e : End ProverEnd) × Ends e text)
      parts : text ≡ written ++ rest
      wrote : AreLastHeld c.held d.held written

    told : (c d : Outflow) (r : Result (End ProverEnd) Cut) → Tells Goes Ends c d r → Wrote c d
    told c d (Ok e) h = record { written = h.0; rest = []; text = h.0; may = inr (e, h.1); parts = sym (append-nil h.0); wrote = h.2.took }
    told c d (Err WriteFault) h =
        let y = cut_text Goes Ends c d h in
        record { written = y.2.front; rest = y.2.rest; text = y.0; may = y.1; parts = y.2.parts; wrote = y.2.took }
    told c d (Err Memory) h = record { written = h.0; rest = []; text = h.0; may = inl h.1; parts = sym (append-nil h.0); wrote = h.2.took }

    wrote_shows : (q : Quest) → asks bytes q → (c d : Outflow) (w : Wrote c d) → ShowsRefutations q w.written
    wrote_shows q asked c d w = printed_shows q (known bytes q asked) w.text w.written w.rest (some_printed q asked w.text w.may) w.parts

  pub all_show : ProofsShow
  all_show word a b c d times r run =
      let w = told word times a b run.bytes c d (end_of r) run.tells in
      record { bytes = run.bytes; taken = run.taken; written = w.written; wrote = w.wrote; shows = λ q asked. wrote_shows word times a b run.bytes q asked c d w }
