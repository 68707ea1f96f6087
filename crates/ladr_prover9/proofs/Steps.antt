-- Texts of states, from one to the next.
use Rattle.std.proofs.Common.{◌≡◌, ◌⊎◌, ℕ, suc, ◌+◌, inl, inr, refl, sym, ap, ◌∙◌, subst, List, [], ◌∷◌, ◌++◌, length, arith, append_assoc}
use Rattle.std.specs.List.{AllByRecursion}
use Rattle.std.proofs.lemmas.List.{append-nil}
use Rattle.clause_store.specs.Laws.{AncestorsStay}
use Rattle.clause_store.specs.Lines.{PlainLine}
use Rattle.ladr_prover9.specs.Askings.{IsSoundQuest}
use Rattle.ladr_prover9.specs.Counting.{IsFirstProof}
use Rattle.ladr_prover9.specs.ProofTexts.{IsProofText, AreProofTexts, IsStateText}
use Rattle.ladr_prover9.specs.Quests.{Quest, quest_lines}
use Rattle.proof_print.specs.LineTexts.{frame_text}
use Rattle.prover_proofs.proofs.Lasting.{same_ancestors}
use Rattle.prover_setup.specs.SearchInputs.{setting_in, rows_in, start_in, IsReachedIn}
use Rattle.prover_steps.specs.SearchLaws.{all_lines, EndsEmpty, IsSoundState, ReachedAreSound}
use Rattle.prover_steps.specs.Searching.{MadeLine, FoundProof, SearchState}
use Rattle.prover_steps.specs.Starting.{problem_lines, StartsWell}

-- a proof is found behind those of an earlier state, and this is its text
pub record IsFoundBehind (q : Quest) (s t : SearchState) (text : List ℕ) : Type 0 where
  pub proof : FoundProof
  pub found : t.proofs ≡ s.proofs ++ proof ∷ []
  pub is_text : IsProofText q (quest_lines q t) (suc (length s.proofs)) proof text

-- between two states no proof is found, or one, which is printed
abbrev pub IsStepText : Quest → SearchState → SearchState → List ℕ → Type 0
IsStepText q s t text = ((t.proofs ≡ s.proofs) × (text ≡ [])) ⊎ IsFoundBehind q s t text

-- the text where a search begins
pub start_text : (q : Quest) → IsStateText q (start_in q.search) (frame_text q.input)
start_text q = record { proofs = []; are = refl; text_is = sym (append-nil (frame_text q.input)) }

-- one proof more
texts_end : (q : Quest) (all : List PlainLine) (k : ℕ) (ps : List FoundProof) (text : List ℕ) (p : FoundProof) (last : List ℕ) → AreProofTexts q all k ps text → IsProofText q all (k + length ps) p last
    → AreProofTexts q all k (ps ++ p ∷ []) (text ++ last)
texts_end q all k [] text p last h is =
    let e : k + 0 ≡ k = omega arith in
    (last, [], subst (λ (n : ℕ). IsProofText q all n p last) e is, refl, ap (λ (t : List ℕ). t ++ last) h ∙ sym (append-nil last))
texts_end q all k (o ∷ ps) text p last h is =
    let e : k + suc (length ps) ≡ suc k + length ps = omega arith in
    (h.0, h.1 ++ last, h.2, texts_end q all (suc k) ps h.1 p last h.3 (subst (λ (n : ℕ). IsProofText q all n p last) e is), ap (λ (t : List ℕ). t ++ last) h.4 ∙ append_assoc h.0 h.1 last)

module _ (stay : AncestorsStay) (starts : StartsWell) (sound : ReachedAreSound) (q : Quest) (is : IsSoundQuest q) where
  sound_at : (s : SearchState) → IsReachedIn q.search s → IsSoundState q.search.stated.formulas (rows_in q.search) (problem_lines q.search.stated.formulas (rows_in q.search)) s
  sound_at s h =
      sound q.search.stated.formulas (rows_in q.search) (problem_lines q.search.stated.formulas (rows_in q.search)) (setting_in q.search) (start_in q.search) s is.keeps
      (starts q.search.stated.formulas (rows_in q.search) is.rows) h

  -- the proofs of a state, in a later one
  texts_stay : (s t : SearchState) (more : List MadeLine) → t.lines ≡ s.lines ++ more → IsReachedIn q.search s → IsReachedIn q.search t → (k : ℕ) (ps : List FoundProof) (text : List ℕ)
      → AllByRecursion (EndsEmpty (all_lines (problem_lines q.search.stated.formulas (rows_in q.search)) s)) ps → AreProofTexts q (quest_lines q s) k ps text → AreProofTexts q (quest_lines q t) k ps text
  texts_stay s t more e r r' k [] text empty h = h
  texts_stay s t more e r r' k (p ∷ ps) text empty h = (
    h.0,
    h.1,
    record {
      lines = h.2.lines;
      ancestors = same_ancestors stay q.formulas q.search.stated.formulas (rows_in q.search) is.say s t more e (sound_at s r) (sound_at t r') p h.2.lines empty.0 h.2.ancestors;
      text_is = h.2.text_is;
      had = h.2.had;
    },
    texts_stay s t more e r r' (suc k) ps h.1 empty.1 h.3,
    h.4,
  )

  -- the first proof of a state, in a later one
  pub first_stays : (s t : SearchState) (more : List MadeLine) (many level : ℕ) → t.lines ≡ s.lines ++ more → IsReachedIn q.search s → IsReachedIn q.search t → IsFirstProof (quest_lines q s) s.proofs many level → IsFirstProof (quest_lines q t) s.proofs many level
  first_stays s t more many level e r r' h = by s.proofs (sound_at s r).proofs h
    where
      by : (ps : List FoundProof) → AllByRecursion (EndsEmpty (all_lines (problem_lines q.search.stated.formulas (rows_in q.search)) s)) ps → IsFirstProof (quest_lines q s) ps many level → IsFirstProof (quest_lines q t) ps many level
      by [] empty f = f
      by (p ∷ ps) empty f = (f.0, same_ancestors stay q.formulas q.search.stated.formulas (rows_in q.search) is.say s t more e (sound_at s r) (sound_at t r') p f.0 empty.0 f.1, f.2, f.3)

  -- the text of a state with that of a step
  pub step_text : (s t : SearchState) (more : List MadeLine) (text step : List ℕ) → t.lines ≡ s.lines ++ more → IsReachedIn q.search s → IsReachedIn q.search t → IsStepText q s t step → IsStateText q s text → IsStateText q t (text ++ step)
  step_text s t more text step e r r' (inl same) h = record {
    proofs = h.proofs;
    are = subst (λ (ps : List FoundProof). AreProofTexts q (quest_lines q t) 1 ps h.proofs) (sym same.0) (texts_stay s t more e r r' 1 s.proofs h.proofs (sound_at s r).proofs h.are);
    text_is = ap (λ (u : List ℕ). text ++ u) same.1 ∙ append-nil text ∙ h.text_is;
  }
  step_text s t more text step e r r' (inr one) h = record {
    proofs = h.proofs ++ step;
    are = subst (λ (ps : List FoundProof). AreProofTexts q (quest_lines q t) 1 ps (h.proofs ++ step)) (sym one.found)
        (texts_end q (quest_lines q t) 1 s.proofs h.proofs one.proof step (texts_stay s t more e r r' 1 s.proofs h.proofs (sound_at s r).proofs h.are) (subst (λ (n : ℕ). IsProofText q (quest_lines q t) n one.proof step) count one.is_text));
    text_is = ap (λ (u : List ℕ). u ++ step) h.text_is ∙ append_assoc (frame_text q.input) h.proofs step;
  }
    where
      count : suc (length s.proofs) ≡ 1 + length s.proofs
      count = omega arith
