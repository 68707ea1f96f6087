-- Answers of lines that are inferred, and of instances.
use Rattle.std.proofs.Common.{◌≡◌, inl, inr, ℕ, ◌+◌, ◌<◌, ◌≤◌, ◌==◌, true, false, List, [], ◌∷◌, ◌++◌, map, length, get_or, drop, Some, None, refl, arith, sym, ap, ◌∙◌, subst}
use Rattle.std.specs.List.{flat_map}
use Rattle.std.proofs.lemmas.Bool.{eqb-true, eq-eqb, false≢true}
use Rattle.std.proofs.lemmas.List.{drop_all}
use Rattle.answered_lines.specs.Laws.{AnswerNothing, NothingInferred, NothingPutIn}
use Rattle.answered_lines.specs.Lines.{AnsweredLine, plain_lines, answers_of_line, IsInferredWith, IsInstanceWith}
use Rattle.answered_lines.specs.View.{answered_lines_of}
use Rattle.answers.specs.AnswerView.{answers_of}
use Rattle.answers.specs.declared.answer.Answer.{Answer}
use Rattle.derivation.specs.Later.{LaterWord, later_parents}
use Rattle.derivation.specs.Lines.{FirstWord, Inference, inference_of, ContentTree, formula, clause, LineTree, After, IsInferred, IsInstance, instance_of}
use Rattle.derivation.specs.Refused.{all_parents, InferenceFails, InstanceFails}
use Rattle.derivation.specs.View.{later_of, lines_of}
use Rattle.derivation.specs.declared.line.Line.{Line}
use Rattle.derivation.specs.declared.row.Row.{Row}
use Rattle.derivation.specs.declared.row.Row.TheVariants as causes
use Rattle.derivation.specs.declared.words.Later.{Later}
use Rattle.fol_core.specs.Fol.{Fol}
use Rattle.fol_core.specs.Literals.{ClauseTree}
use Rattle.inference.specs.Judged.{inference_by}
use Rattle.proof_check.proofs.EarlierSteps.{plainly}
use Rattle.proof_check.proofs.InferSteps.{words_next}
use Rattle.proof_check.specs.Found.{InferredAs, InferredWithAs, InstanceAs, InstanceWithAs, words_from}
use Rattle.substitutions.specs.Bindings.{Binding}

-- whether there are answers
no_answer : (us : List Answer) → length us ≡ 0 → us ≡ []
no_answer [] h = refl
no_answer (u ∷ us) h = absurd (omega arith)

pub no_answers : (us : List Answer) (n : ℕ) → n ≡ length us → (n == 0) ≡ true → us ≡ []
no_answers us n is e = no_answer us (sym is ∙ eqb-true n 0 e)

pub some_answers : (us : List Answer) (n : ℕ) → n ≡ length us → (n == 0) ≡ false → us ≡ [] → ⊥
some_answers us n is e none = false≢true (sym e ∙ eq-eqb n 0 (is ∙ ap length none))

both_quiet : (ls : List AnsweredLine) (ns ms : List ℕ) → AnswerNothing ls ns → AnswerNothing ls ms → AnswerNothing ls (ns ++ ms)
both_quiet ls [] ms h k = k
both_quiet ls (n ∷ ns) ms h k = (h.0, both_quiet ls ns ms h.1 k)

-- where the words from one on take clauses without answers, all do
pub record Silent (ls : List AnsweredLine) (ws : List Later) (i : ℕ) : Type 0 where
  pub all : AnswerNothing ls (flat_map later_parents (words_from ws i)) → AnswerNothing ls (flat_map later_parents (map later_of ws))

pub silent_start : (ls : List AnsweredLine) (ws : List Later) → Silent ls ws 0
silent_start ls ws = record { all = λ h. h }

pub silent_next : (ls : List AnsweredLine) (ws : List Later) (i : ℕ) (w : Later) → Silent ls ws i → i < length ws → w ≡ get_or ws i w → AnswerNothing ls (later_parents (later_of w)) → Silent ls ws (i + 1)
silent_next ls ws i w silent h is none = record {
  all = λ rest. silent.all (subst (λ (us : List LaterWord). AnswerNothing ls (flat_map later_parents us)) (sym (words_next ws i w h is))
      (both_quiet ls (later_parents (later_of w)) (flat_map later_parents (words_from ws (i + 1))) none rest));
}

pub silent_end : (ls : List AnsweredLine) (ws : List Later) (i : ℕ) → Silent ls ws i → length ws ≤ i → AnswerNothing ls (flat_map later_parents (map later_of ws))
silent_end ls ws i silent h = silent.all (subst (λ (us : List Later). AnswerNothing ls (flat_map later_parents (map later_of us))) (sym (drop_all i ws h)) tt)

pub both_silent : (ls : List AnsweredLine) (i : Inference) (ws : List LaterWord) → AnswerNothing ls i.parents → AnswerNothing ls (flat_map later_parents ws) → AnswerNothing ls (all_parents i ws)
both_silent ls i ws h k = both_quiet ls i.parents (flat_map later_parents ws) h k

-- only a clause comes of words
after_clause : (ls : List LineTree) (ws : List LaterWord) (d : ClauseTree) (f : Fol) → After ls ws d (formula f) → ⊥
after_clause ls [] d f h = h
after_clause ls (w ∷ ws) d f (ps, e, are, fits, leads, after) = after_clause ls ws e f after

module _ (ls : List Line) (ws : List LaterWord) where
  abbrev all : List AnsweredLine
  all = answered_lines_of ls

  -- a rule with its words
  module _ (w : FirstWord) (content : ContentTree) (us : List Answer) where
    whole : IsInferred (lines_of ls) (inference_by w) ws content → IsInferred (plain_lines all) (inference_by w) ws content
    whole plain = subst (λ ks. IsInferred ks (inference_by w) ws content) (sym (plainly ls)) plain

    pub inferred_silent : NothingInferred → inference_of w ≡ Some (inference_by w) → IsInferred (lines_of ls) (inference_by w) ws content → AnswerNothing all (all_parents (inference_by w) ws) → us ≡ []
        → IsInferredWith all (inference_by w) ws content (answers_of us)
    inferred_silent law is plain quiet none = by content (whole plain)
      where
        by : (c : ContentTree) → IsInferred (plain_lines all) (inference_by w) ws c → IsInferredWith all (inference_by w) ws c (answers_of us)
        by (formula f) (ps, d, are, fits, concludes, after) = absurd (after_clause (plain_lines all) ws d f after)
        by (clause c) plain = (law all w (inference_by w) ws c (answers_of us) is quiet plain).1 (ap answers_of none)

    pub inferred_loud : NothingInferred → inference_of w ≡ Some (inference_by w) → IsInferred (lines_of ls) (inference_by w) ws content → AnswerNothing all (all_parents (inference_by w) ws) → (us ≡ [] → ⊥)
        → IsInferredWith all (inference_by w) ws content (answers_of us) → ⊥
    inferred_loud law is plain quiet some h = by content (whole plain) h
      where
        empty : (vs : List Answer) → answers_of vs ≡ [] → vs ≡ []
        empty [] e = refl
        empty (v ∷ vs) e = cc

        by : (c : ContentTree) → IsInferred (plain_lines all) (inference_by w) ws c → IsInferredWith all (inference_by w) ws c (answers_of us) → ⊥
        by (formula f) (ps, d, are, fits, concludes, after) h = after_clause (plain_lines all) ws d f after
        by (clause c) plain h = some (empty us ((law all w (inference_by w) ws c (answers_of us) is quiet plain).0 h))

    pub inferred_plainly : (row : Row) → InferredAs (lines_of ls) w ws content (Some row) → InferredWithAs all w ws content (answers_of us) (Some row)
    inferred_plainly row fails = inl (subst (λ ks. InferenceFails ks (inference_by w) ws content row) (sym (plainly ls)) fails)

    pub inferred_apart : IsInferred (lines_of ls) (inference_by w) ws content → (IsInferredWith all (inference_by w) ws content (answers_of us) → ⊥) → InferredWithAs all w ws content (answers_of us) (Some causes.OtherClause)
    inferred_apart plain apart = inr (refl, whole plain, apart)

  -- an instance with its words
  module _ (n : ℕ) (es : List Binding) (content : ContentTree) (us : List Answer) where
    whole_instance : IsInstance (lines_of ls) n es ws content → IsInstance (plain_lines all) n es ws content
    whole_instance plain = subst (λ ks. IsInstance ks n es ws content) (sym (plainly ls)) plain

    pub instance_silent : NothingPutIn → IsInstance (lines_of ls) n es ws content → answers_of_line all n ≡ [] → AnswerNothing all (flat_map later_parents ws) → us ≡ [] → IsInstanceWith all n es ws content (answers_of us)
    instance_silent law plain own quiet none = by content (whole_instance plain)
      where
        by : (c : ContentTree) → IsInstance (plain_lines all) n es ws c → IsInstanceWith all n es ws c (answers_of us)
        by (formula f) (c, at, after) = absurd (after_clause (plain_lines all) ws (instance_of es c) f after)
        by (clause c) plain = (law all n es ws c (answers_of us) (own, quiet) plain).1 (ap answers_of none)

    pub instance_loud : NothingPutIn → IsInstance (lines_of ls) n es ws content → answers_of_line all n ≡ [] → AnswerNothing all (flat_map later_parents ws) → (us ≡ [] → ⊥)
        → IsInstanceWith all n es ws content (answers_of us) → ⊥
    instance_loud law plain own quiet some h = by content (whole_instance plain) h
      where
        empty : (vs : List Answer) → answers_of vs ≡ [] → vs ≡ []
        empty [] e = refl
        empty (v ∷ vs) e = cc

        by : (c : ContentTree) → IsInstance (plain_lines all) n es ws c → IsInstanceWith all n es ws c (answers_of us) → ⊥
        by (formula f) (c, at, after) h = after_clause (plain_lines all) ws (instance_of es c) f after
        by (clause c) plain h = some (empty us ((law all n es ws c (answers_of us) (own, quiet) plain).0 h))

    pub instance_plainly : (row : Row) → InstanceAs (lines_of ls) n es ws content (Some row) → InstanceWithAs all n es ws content (answers_of us) (Some row)
    instance_plainly row fails = inl (subst (λ ks. InstanceFails ks n es ws content row) (sym (plainly ls)) fails)

    pub instance_apart : IsInstance (lines_of ls) n es ws content → (IsInstanceWith all n es ws content (answers_of us) → ⊥) → InstanceWithAs all n es ws content (answers_of us) (Some causes.OtherClause)
    instance_apart plain apart = inr (refl, whole_instance plain, apart)
