-- What is asked for comes to one end, with one text.
use Rattle.std.proofs.Common.{◌≡◌, ◌⊎◌, inl, inr, ℕ, suc, List, [], ◌∷◌, ◌++◌, Option, None, Some, is_some, refl, sym, ap, ap₂, ◌∙◌, subst}
use Rattle.clause_store.specs.Laws.{AncestorsAreOne}
use Rattle.clause_store.specs.Lines.{PlainLine}
use Rattle.ladr_formulas.specs.declared.styles.Mode.{Mode}
use Rattle.ladr_formulas.specs.declared.styles.Mode.TheVariants.{Prover}
use Rattle.ladr_intake.specs.Refusals.{clause_limit_line}
use Rattle.ladr_io.specs.Streams.{Takes}
use Rattle.ladr_io.specs.Times.{Times}
use Rattle.search_clock.specs.Watching.{time_to_stop}
use Rattle.ladr_problem.specs.File.{Says, Outcome, problem}
use Rattle.ladr_problem.specs.Sofar.{Sofar}
use Rattle.ladr_prover9.specs.Finding.{over_limit, KeepsLimits, Proves}
use Rattle.ladr_prover9.specs.Lines.{closing_lines}
use Rattle.ladr_prover9.specs.OneEnd.{AsksAreOne, IsUntimed, EndIsOne, RunsEndAlike}
use Rattle.ladr_prover9.specs.ProofTexts.{proof_text, head_of_proof, IsProofText, AreProofTexts, IsStateText}
use Rattle.ladr_prover9.specs.Quests.{Quest, quest_by, asks, quest_lines, quest_seconds}
use Rattle.ladr_prover9.specs.Story.{EndsIn, ProofsCome}
use Rattle.ladr_prover9.specs.declared.ends.ProverEnd.{ProverEnd}
use Rattle.ladr_prover9.specs.declared.ends.ProverEnd.TheVariants.{MaxProofs, SosEmpty, MaxMegs, MaxSeconds, MaxGiven, MaxKept, ClauseLimit}
use Rattle.ladr_io.specs.Watch.{IsLate}
use Rattle.proof_print.specs.LineTexts.{frame_text}
use Rattle.prover_setup.specs.SearchInputs.{setting_in, start_in}
use Rattle.prover_steps.specs.SearchLaws.{EndedStay}
use Rattle.prover_steps.specs.Searching.{Setting, Reason, proved, spent, gave_all, kept_all, filled, FoundProof, SearchState}

-- the proofs of a state have one text
module _ (one : AncestorsAreOne) (q : Quest) (all : List PlainLine) where
  proof_once : (k : ℕ) (p : FoundProof) (text other : List ℕ) → IsProofText q all k p text → IsProofText q all k p other → text ≡ other
  proof_once k p text other a b =
      let same : a.lines ≡ b.lines = one all a.lines b.lines p.line a.ancestors b.ancestors in
      a.text_is ∙ ap (λ (ls : List PlainLine). proof_text q (head_of_proof k p ls) ls) same ∙ sym b.text_is

  proofs_once : (k : ℕ) (ps : List FoundProof) (text other : List ℕ) → AreProofTexts q all k ps text → AreProofTexts q all k ps other → text ≡ other
  proofs_once k [] text other a b = a ∙ sym b
  proofs_once k (p ∷ ps) text other (first, rest, is, are, e) (first', rest', is', are', e') =
      let front : first ≡ first' = proof_once k p first first' is is' in
      let back : rest ≡ rest' = proofs_once (suc k) ps rest rest' are are' in
      e ∙ ap₂ (λ (x y : List ℕ). x ++ y) front back ∙ sym e'

-- and so has the state
state_once : AncestorsAreOne → (q : Quest) (t : SearchState) (text other : List ℕ) → IsStateText q t text → IsStateText q t other → text ≡ other
state_once one q t text other a b =
    a.text_is ∙ ap (λ (u : List ℕ). frame_text q.input ++ u) (proofs_once one q (quest_lines q t) 1 t.proofs a.proofs b.proofs a.are b.are) ∙ sym b.text_is

-- how a search ends for its own reason
abbrev end_for : Reason → ProverEnd
end_for proved = MaxProofs
end_for spent = SosEmpty
end_for gave_all = MaxGiven
end_for kept_all = MaxKept
end_for filled = MaxMegs

-- a state has ended for a reason, and this is the end for it
abbrev HasEnded : SearchState → ProverEnd → Type 0
HasEnded t end = (r : Reason) × ((t.ended ≡ Some r) × (end ≡ end_for r))

-- so it is of each end but that the time is over
never_late : (seconds : Option ℕ) (times : Times) (last : ℕ) → seconds ≡ None → IsLate (time_to_stop seconds times) times last → ⊥
never_late seconds times last e late = subst (λ (s : Option ℕ). IsLate (time_to_stop s times) times last) e late

has_ended : (st : Setting) (seconds : Option ℕ) (t : SearchState) (times : Times) (end : ProverEnd) → IsUntimed seconds end → EndsIn st seconds t times end → HasEnded t end
has_ended st seconds t times MaxProofs u h = (proved, (h.ended, refl))
has_ended st seconds t times SosEmpty u h = (spent, (h.ended, refl))
has_ended st seconds t times MaxMegs u h = (filled, (h.ended, refl))
has_ended st seconds t times (MaxSeconds a b) (inl none) h = absurd (never_late seconds times b none h.late)
has_ended st seconds t times (MaxSeconds a b) (inr other) h = absurd (other a b refl)
has_ended st seconds t times MaxGiven u h = (gave_all, (h.ended, refl))
has_ended st seconds t times MaxKept u h = (kept_all, (h.ended, refl))
has_ended st seconds t times (ClauseLimit n) u h = absurd h

one_reason : (t u : SearchState) (r r' : Reason) → t ≡ u → t.ended ≡ Some r → u.ended ≡ Some r' → r ≡ r'
one_reason t u r r' same e f = let g : Some r ≡ Some r' = sym e ∙ ap (λ (v : SearchState). v.ended) same ∙ f in cc

-- how a search comes to its end, and how nothing is searched
module _ (q : Quest) where
  abbrev Comes : Option ℕ → Times → ProverEnd → List ℕ → Type 0
  Comes seconds times end text = KeepsLimits q × ((t : SearchState) × ((front : List ℕ) × ProofsCome q seconds times end t front × (text ≡ front ++ closing_lines t end)))

  abbrev IsOver : ProverEnd → List ℕ → Type 0
  IsOver end text = (n : ℕ) × ((over_limit q ≡ Some n) × ((end ≡ ClauseLimit n) × (text ≡ clause_limit_line n)))

  either : (seconds : Option ℕ) (times : Times) (end : ProverEnd) (text : List ℕ) → Proves q seconds times end text → IsOver end text ⊎ Comes seconds times end text
  either seconds times MaxProofs text h = inr h
  either seconds times SosEmpty text h = inr h
  either seconds times MaxMegs text h = inr h
  either seconds times (MaxSeconds a b) text h = inr h
  either seconds times MaxGiven text h = inr h
  either seconds times MaxKept text h = inr h
  either seconds times (ClauseLimit n) text h = inl (n, (h.0, (refl, h.2)))

  not_both : (n : ℕ) → over_limit q ≡ Some n → KeepsLimits q → ⊥
  not_both n e within = let f : Some n ≡ None = sym e ∙ within.clauses in cc

  over_once : (end end' : ProverEnd) (text text' : List ℕ) → IsOver end text → IsOver end' text' → (end ≡ end') × (text ≡ text')
  over_once end end' text text' (n, (e, (is, text_is))) (m, (f, (is', text_is'))) =
      let same : n ≡ m = (let g : Some n ≡ Some m = sym e ∙ f in cc) in
      (is ∙ ap ClauseLimit same ∙ sym is', text_is ∙ ap clause_limit_line same ∙ sym text_is')

  come_once : EndedStay → AncestorsAreOne → (seconds seconds' : Option ℕ) (times times' : Times) (end end' : ProverEnd) (text text' : List ℕ)
      → IsUntimed seconds end → IsUntimed seconds' end' → Comes seconds times end text → Comes seconds' times' end' text' → (end ≡ end') × (text ≡ text')
  come_once stay one seconds seconds' times times' end end' text text' free free' (within, (t, (front, h, e))) (within', (u, (front', k, f))) =
      let st = setting_in q.search in
      let a = has_ended st seconds t times end free h.ends in
      let b = has_ended st seconds' u times' end' free' k.ends in
      let same : t ≡ u = stay st (start_in q.search) t u h.reached k.reached (ap is_some a.1.0) (ap is_some b.1.0) in
      let ends : end ≡ end' = a.1.1 ∙ ap end_for (one_reason t u a.0 b.0 same a.1.0 b.1.0) ∙ sym b.1.1 in
      let fronts : front ≡ front' = state_once one q u front front' (subst (λ (v : SearchState). IsStateText q v front) same h.prints) k.prints in
      let lines : closing_lines t end ≡ closing_lines u end' = ap₂ closing_lines same ends in
      (ends, e ∙ ap₂ (λ (x y : List ℕ). x ++ y) fronts lines ∙ sym f)

  by : EndedStay → AncestorsAreOne → (seconds seconds' : Option ℕ) (times times' : Times) (end end' : ProverEnd) (text text' : List ℕ)
      → IsUntimed seconds end → IsUntimed seconds' end' → IsOver end text ⊎ Comes seconds times end text → IsOver end' text' ⊎ Comes seconds' times' end' text' → (end ≡ end') × (text ≡ text')
  by stay one seconds seconds' times times' end end' text text' free free' (inl h) (inl k) = over_once end end' text text' h k
  by stay one seconds seconds' times times' end end' text text' free free' (inl h) (inr k) = absurd (not_both h.0 h.1.0 k.0)
  by stay one seconds seconds' times times' end end' text text' free free' (inr h) (inl k) = absurd (not_both k.0 k.1.0 h.0)
  by stay one seconds seconds' times times' end end' text text' free free' (inr h) (inr k) = come_once stay one seconds seconds' times times' end end' text text' free free' h k

pub ends_once : EndedStay → AncestorsAreOne → EndIsOne
ends_once stay one q seconds seconds' times times' end end' text text' free free' h k =
    by q stay one seconds seconds' times times' end end' text text' free free' (either q seconds times end text h) (either q seconds' times' end' text' k)

-- bytes say one thing, so they ask for one
abbrev problem_of : Sofar → Outcome → Sofar
problem_of s (problem t) = t
problem_of s o = s

pub asks_once : ((m : Mode) (bytes : List ℕ) (o p : Outcome) → Says m bytes o → Says m bytes p → o ≡ p) → AsksAreOne
asks_once once bytes x q a b = sym a.2 ∙ ap (λ (o : Outcome). quest_by bytes (problem_of a.0 o)) (once Prover bytes (problem a.0) (problem b.0) a.1 b.1) ∙ b.2

-- so it is of runs
pub runs_alike : AsksAreOne → EndIsOne → RunsEndAlike
runs_alike asked ends word word' from from' source source' to to' sink sink' times times' end end' run again bytes free free' =
    let (text, (read, (x, asks_x, comes)), took) = run.tells in
    let (text', (read', (y, asks_y, comes')), took') = again.tells in
    let same : y ≡ x = asked again.bytes y x asks_y (subst (λ (b : List ℕ). asks b x) bytes asks_x) in
    let both = ends x (quest_seconds word x) (quest_seconds word' x) times times' end end' text text' (free x asks_x)
    (free' x (subst (λ (b : List ℕ). asks b x) bytes asks_x)) comes (subst (λ (z : Quest). Proves z (quest_seconds word' z) times' end' text') same comes') in
    (both.0, (text, took, subst (Takes sink sink') (sym both.1) took'))
