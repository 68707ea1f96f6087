-- What a search in memory has printed, and what a check makes of it.
use Rattle.std.proofs.Common.{◌≡◌, ◌⊎◌, ℕ, ◌<◌, inl, inr, Bool, false, if◌then◌else◌, None, Result, Ok, Err, IfOk, List, [], ◌∷◌, ◌++◌, length, refl, sym, ap, ◌∙◌, subst, append_assoc, arith}
use Rattle.accepted_output.specs.Accepted.{AreAllAccepted, TellsProved, OutputsAreAccepted}
use Rattle.ladr_check.specs.Checking.{IsJudged}
use Rattle.ladr_check.specs.Offered.{refuses_proofs}
use Rattle.ladr_check.specs.Outcomes.{ComesOut, EndIsOne}
use Rattle.ladr_check.specs.declared.ends.CheckEnd.{CheckEnd}
use Rattle.ladr_check.specs.declared.ends.CheckEnd.TheVariants as ends
use Rattle.ladr_check.specs.Offered.{Offered}
use Rattle.ladr_intake.specs.declared.stops.Refused.{Refused}
use Rattle.ladr_io.specs.Memory.{SourceState, SinkState, inflow_of, outflow_of}
use Rattle.ladr_io.specs.Times.{Times}
use Rattle.ladr_made.proofs.Memory.{read_whole, held_whole}
use Rattle.ladr_check.specs.declared.checked.Checked.{Checked}
use Rattle.ladr_made.specs.Proving.{Finds, IsCheckOf, HasAccepted, IsAcceptable, IsToldOf, IsProved}
use Rattle.ladr_made.specs.declared.parts.Proved.{Proved}
use Rattle.ladr_output.specs.Standing.{AreWholeLines}
use Rattle.ladr_output.specs.Telling.{as_line}
use Rattle.ladr_prover9.proofs.Ending.{ends_alone}
use Rattle.ladr_prover9.proofs.Showing.{counters}
use Rattle.ladr_prover9.specs.Counting.{ComesCounted, ProvesCounted, RefutesCounted}
use Rattle.ladr_prover9.specs.Lines.{counters_line, proved_line, failed_line, cause_line, closing_lines}
use Rattle.ladr_prover9.specs.Nothing.{HasNothing}
use Rattle.ladr_prover9.specs.Quests.{Quest, asks, quest_seconds, IsHad}
use Rattle.ladr_prover9.specs.declared.ends.ProverOver.{ProverOver}
use Rattle.proof_print.specs.LineTexts.{frame_text}
use Rattle.prover_steps.specs.Searching.{FoundProof, is_nil}
use Rattle.std.specs.Prelude.{Option, Some}
use Rattle.std.specs.declared.alloc.AllocError.{AllocError}

-- lines end where the last one does
lines_ended : (xs l : List ℕ) → AreWholeLines (xs ++ as_line l)
lines_ended [] [] = refl
lines_ended [] (b ∷ []) = refl
lines_ended [] (b ∷ c ∷ l) = lines_ended [] (c ∷ l)
lines_ended (x ∷ []) [] = refl
lines_ended (x ∷ []) (b ∷ l) = lines_ended [] (b ∷ l)
lines_ended (x ∷ y ∷ xs) l = lines_ended (y ∷ xs) l

some_found : (ps : List FoundProof) → 0 < length ps → is_nil ps ≡ false
some_found [] h = absurd (omega (arith, h))
some_found (p ∷ ps) h = refl

-- where proofs are found the output says so
module _ (q : Quest) (seconds : Option ℕ) (times : Times) (over : ProverOver) (text : List ℕ) where
  come_told : ComesCounted q seconds times over text → 0 < over.proofs → TellsProved q.input text
  come_told h some =
      let t = h.state in
      let proofs = h.comes.prints.proofs in
      let found : is_nil t.proofs ≡ false = some_found t.proofs (subst (λ (n : ℕ). 0 < n) h.counts.proofs some) in
      let closed : closing_lines t over.end ≡ counters_line t ++ (proved_line ++ cause_line over.end) = ap (λ (b : Bool). counters_line t ++ ((if b then failed_line else proved_line) ++ cause_line over.end)) found in (
        proofs ++ counters_line t,
        cause_line over.end,
        lines_ended proofs (counters t),
        h.text_is ∙ ap (λ (u : List ℕ). u ++ closing_lines t over.end) h.comes.prints.text_is ∙ append_assoc (frame_text q.input) proofs (closing_lines t over.end)
            ∙ ap (λ (u : List ℕ). frame_text q.input ++ (proofs ++ u)) closed ∙ ap (λ (u : List ℕ). frame_text q.input ++ u) (sym (append_assoc proofs (counters_line t) (proved_line ++ cause_line over.end))),
      )

  pub told : ProvesCounted q seconds times over text → 0 < over.proofs → TellsProved q.input text
  told (inl h) some = (let none : over.proofs ≡ 0 = ap (λ (o : ProverOver). o.proofs) h.1 in absurd (omega (arith, some, none)))
  told (inr h) some = come_told h some

input_is : (bytes : List ℕ) (q : Quest) → asks bytes q → q.input ≡ bytes
input_is bytes q h = sym (ap (λ (x : Quest). x.input) h.2)

module _ (s s' : SourceState) (k k' : SinkState) (times : Times) (over : ProverOver) (empty : k.held ≡ []) (run : RefutesCounted None (inflow_of s) (inflow_of s') (outflow_of k) (outflow_of k') times (Ok over)) where
  bytes_are : run.bytes ≡ s.left
  bytes_are = read_whole s s' run.bytes run.tells.1.0

  text_is : run.tells.0 ≡ k'.held
  text_is = held_whole k k' run.tells.0 empty run.tells.2

  -- what the search has printed, of what its bytes ask for
  pub finds : Finds s.left over k'.held
  finds =
      let x = run.tells.1.1 in
      record {
        quest = x.0;
        asked = subst (λ (b : List ℕ). asks b x.0) bytes_are x.1;
        times = times;
        ends = subst (λ (u : List ℕ). ProvesCounted x.0 (quest_seconds None x.0) times over u) text_is x.2;
      }

  -- a check accepts it, where there are proofs
  pub accepted : OutputsAreAccepted → IsHad run.bytes ⊎ HasNothing {E = ProverOver} (outflow_of k) (outflow_of k') (Ok over) → 0 < over.proofs → (n : ℕ) × AreAllAccepted s.left k'.held n
  accepted law (inr nothing) some = absurd nothing
  accepted law (inl had) some =
      let x = run.tells.1.1 in
      let writes = law None _ _ _ _ times over.end (ends_alone None _ _ _ _ times over run) had in
      let written_is : writes.written ≡ k'.held = sym (writes.wrote ∙ ap (λ (u : List ℕ). u ++ writes.written) empty) in
      let tells = told x.0 (quest_seconds None x.0) times over run.tells.0 x.2 some in
      let tells' = subst (λ (b : List ℕ). TellsProved b run.tells.0) (input_is run.bytes x.0 x.1) tells in
      let got = writes.accepted (subst (λ (u : List ℕ). TellsProved run.bytes u) (text_is ∙ sym written_is) tells') in
      (got.0, subst (λ (b : List ℕ). AreAllAccepted b k'.held got.0) bytes_are (subst (λ (u : List ℕ). AreAllAccepted run.bytes u got.0) written_is got.1))

-- an output that is accepted comes out in no other way, and isn't refused
pub comes_out : EndIsOne → (text : List ℕ) (end : CheckEnd) (is : IsAcceptable text) → IsJudged text end → end ≡ ends.Accepted is.1.0
comes_out once text end is h =
    let all = is.1.1 in
    let n = is.1.0 in
    (once h.0 end (ends.Accepted n) h.2.0 n h.2.1 (subst (λ (x : Offered). ComesOut x (ends.Accepted n) n) (all.alone.1 h.0 h.1) all.outcome)).0

pub unrefused : (text : List ℕ) (why : Refused) → IsAcceptable text → refuses_proofs text why → ⊥
unrefused text why is h = is.1.1.alone.2 why h

-- so it is told, and that the check accepts all
pub proved_so :
    (bytes text : List ℕ) (over : ProverOver) → EndIsOne → Finds bytes over text → (0 < over.proofs → (n : ℕ) × AreAllAccepted bytes text n) → (r : Result Proved AllocError) →
    IfOk r (IsToldOf over text) → IfOk r (IsProved bytes)
proved_so bytes text over once finds all (Ok p) h =
    inr (record {
      over = over;
      text = text;
      finds = finds;
      told = h.0;
      checked = h.1;
      accepted = λ some. let got = all some in (got.0, got.1, answered p.checked h.1 some got.0 got.1);
    })
  where
    answered : (o : Option Checked) → IsCheckOf over.proofs text o → 0 < over.proofs → (n : ℕ) → AreAllAccepted bytes text n → HasAccepted o n
    answered None none some n a = absurd (omega (arith, some, none))
    answered (Some checked) is some n a = comes_out once text checked.end (bytes, (n, a)) is.1
proved_so bytes text over once found all (Err e) h = tt
