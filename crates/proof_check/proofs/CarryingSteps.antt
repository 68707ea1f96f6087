-- Answers carried through words, one after the other.
use Rattle.std.proofs.Common.{◌≡◌, ◌↔◌, IsTrue, ℕ, suc, ◌+◌, ◌<◌, ◌≤◌, Bool, true, false, List, [], ◌∷◌, ◌++◌, map, length, get_or, drop, take, refl, Option, Some, None, Result, Ok, Err, IfOk, unwrap_or, sym, ap, ◌∙◌, subst}
use Rattle.std.proofs.lemmas.Bool.{false≢true}
use Rattle.std.proofs.lemmas.List.{drop_all, length-map, map-append, take_all, take_more}
use Rattle.std.specs.Borrow.{Bor}
use Rattle.answered_lines.specs.Lines.{AnsweredLine, plain_lines, answers_of_line, answers_at, IsClauseWith, AfterWith, clause_put_in, answers_put_in, IsInferredWith, IsInstanceWith}
use Rattle.answered_lines.specs.View.{answered_lines_of}
use Rattle.answers.specs.AnswerTrees.{Answer}
use Rattle.answers.specs.AnswerView.{answers_of}
use Rattle.answers.specs.declared.answer.Answer as code
use Rattle.carried_answers.specs.Carried.{Carried, carried, FirstAs, LedBy, lent_answers}
use Rattle.carried_answers.specs.Leading.{FirstLeads, FirstStops, WordLeads, WordStops}
use Rattle.derivation.specs.Later.{LaterWord, later_parents}
use Rattle.derivation.specs.Lines.{FirstWord, inference_of, ContentTree, LineTree, clause_at, AreClauses}
use Rattle.derivation.specs.Refused.{are_there}
use Rattle.derivation.specs.View.{later_of, lines_of}
use Rattle.derivation.specs.declared.line.Line.{Line}
use Rattle.derivation.specs.declared.words.Later.{Later}
use Rattle.fol_core.specs.Literals.{ClauseTree}
use Rattle.inference.specs.Judged.{inference_by, parents_by}
use Rattle.inference.specs.Lent.{lent_clauses}
use Rattle.proof_check.proofs.EarlierSteps.{plainly}
use Rattle.proof_check.proofs.InferSteps.{words_next, there_of}
use Rattle.proof_check.specs.Found.{words_from}
use Rattle.substitutions.specs.Bindings.{Binding}

-- answers that are lent, one list after the other
pub answers_next : (ls : List AnsweredLine) (ns : List ℕ) (i n : ℕ) (us : List (Bor (List code.Answer))) (own : Bor (List code.Answer)) → i < length ns → n ≡ get_or ns i n → lent_answers us ≡ answers_at ls (take i ns) → answers_of own.now ≡ answers_of_line ls n
    → lent_answers (us ++ own ∷ []) ≡ answers_at ls (take (i + 1) ns)
answers_next ls ns i n us own h is so_far here =
    map-append (λ (b : Bor (List code.Answer)). answers_of b.now) us (own ∷ [])
    ∙ ap (λ vs. vs ++ answers_of own.now ∷ []) so_far
    ∙ ap (λ vs. answers_at ls (take i ns) ++ vs ∷ []) here
    ∙ sym (ap (answers_at ls) (take_more ns i n h ∙ ap (λ m. take i ns ++ m ∷ []) (sym is)) ∙ map-append (answers_of_line ls) (take i ns) (n ∷ []))

pub answers_end : (ls : List AnsweredLine) (ns : List ℕ) (i : ℕ) (us : List (List Answer)) → length ns ≤ i → us ≡ answers_at ls (take i ns) → us ≡ answers_at ls ns
answers_end ls ns i us h is = is ∙ ap (answers_at ls) (take_all i ns h)

-- as many lists of answers as clauses
as_many : (ls : List LineTree) (ns : List ℕ) (ps : List ClauseTree) → AreClauses ls ns ps → length ps ≡ length ns
as_many ls [] [] are = refl
as_many ls [] (p ∷ ps) are = absurd are
as_many ls (n ∷ ns) [] are = absurd are
as_many ls (n ∷ ns) (p ∷ ps) are = ap suc (as_many ls ns ps are.1)

pub same_lengths : (ks : List LineTree) (ls : List AnsweredLine) (ns : List ℕ) (ps : List (Bor ClauseTree)) (us : List (Bor (List code.Answer))) → AreClauses ks ns (lent_clauses ps) → lent_answers us ≡ answers_at ls ns → length us ≡ length ps
same_lengths ks ls ns ps us are is =
    sym (length-map us (λ (b : Bor (List code.Answer)). answers_of b.now))
    ∙ ap length is
    ∙ length-map ns (answers_of_line ls)
    ∙ sym (as_many ks ns (lent_clauses ps) are)
    ∙ length-map ps (λ (b : Bor ClauseTree). b.now)

module _ (ls : List Line) (content : ContentTree) (us : List Answer) where
  abbrev all : List AnsweredLine
  all = answered_lines_of ls

  -- clauses that aren't there are none
  gone : (ns : List ℕ) (ps : List ClauseTree) → are_there (lines_of ls) ns ≡ false → AreClauses (plain_lines all) ns ps → ⊥
  gone ns ps missing are = false≢true (sym missing ∙ there_of (lines_of ls) ns ps (subst (λ ks. AreClauses ks ns ps) (plainly ls) are))

  here : (ns : List ℕ) (ps : List ClauseTree) → AreClauses (lines_of ls) ns ps → AreClauses (plain_lines all) ns ps
  here ns ps are = subst (λ ks. AreClauses ks ns ps) (sym (plainly ls)) are

  abbrev pub Leads : List LaterWord → Carried → Type 0
  Leads ws a = AfterWith all ws a.clause a.answers content us

  -- the words from one on, behind what is made so far, decide
  pub record Carrying (ws : List Later) (a : Carried) (i : ℕ) (b : Carried) : Type 0 where
    pub onward : Leads (words_from ws i) b → Leads (map later_of ws) a
    pub back : Leads (map later_of ws) a → Leads (words_from ws i) b

  pub carrying_start : (ws : List Later) (a : Carried) → Carrying ws a 0 a
  carrying_start ws a = record { onward = λ h. h; back = λ h. h }

  module _ (ws : List Later) (a : Carried) (i : ℕ) (b : Carried) (w : Later) where
    next : i < length ws → w ≡ get_or ws i w → words_from ws i ≡ later_of w ∷ words_from ws (i + 1)
    next h is = words_next ws i w h is

    pub carrying_missing : Carrying ws a i b → i < length ws → w ≡ get_or ws i w → are_there (lines_of ls) (later_parents (later_of w)) ≡ false → Leads (map later_of ws) a → ⊥
    carrying_missing going h is missing after =
        let on = subst (λ (vs : List LaterWord). Leads vs b) (next h is) (going.back after) in
        gone (later_parents (later_of w)) on.0 missing on.3

    pub carrying_stops : WordStops → Carrying ws a i b → i < length ws → w ≡ get_or ws i w → (ps : List ClauseTree) (c : Carried) → AreClauses (lines_of ls) (later_parents (later_of w)) ps
        → LedBy (later_of w) b ps (answers_at all (later_parents (later_of w))) c false → Leads (map later_of ws) a → ⊥
    carrying_stops law going h is ps c are led after =
        law all (later_of w) (words_from ws (i + 1)) content us ps b c (here (later_parents (later_of w)) ps are) led (subst (λ (vs : List LaterWord). Leads vs b) (next h is) (going.back after))

    pub carrying_on : WordLeads → Carrying ws a i b → i < length ws → w ≡ get_or ws i w → (ps : List ClauseTree) (c : Carried) → AreClauses (lines_of ls) (later_parents (later_of w)) ps
        → LedBy (later_of w) b ps (answers_at all (later_parents (later_of w))) c true → Carrying ws a (i + 1) c
    carrying_on law going h is ps c are led =
        let both = law all (later_of w) (words_from ws (i + 1)) content us ps b c (here (later_parents (later_of w)) ps are) led in
        record {
          onward = λ after. going.onward (subst (λ (vs : List LaterWord). Leads vs b) (sym (next h is)) (both.1 after));
          back = λ after. both.0 (subst (λ (vs : List LaterWord). Leads vs b) (next h is) (going.back after));
        }

  pub carrying_ends : (ws : List Later) (a : Carried) (i : ℕ) (b : Carried) (t : Bool) → Carrying ws a i b → length ws ≤ i → IsTrue t ↔ IsClauseWith content us b.clause b.answers → IsTrue t ↔ Leads (map later_of ws) a
  carrying_ends ws a i b t going h is =
      let none : words_from ws i ≡ [] = ap (map later_of) (drop_all i ws h) in
      (λ yes. going.onward (subst (λ (vs : List LaterWord). Leads vs b) (sym none) (is.0 yes)), λ after. is.1 (subst (λ (vs : List LaterWord). Leads vs b) none (going.back after)))

  -- a rule on its parents
  module _ (w : FirstWord) (ws : List LaterWord) where
    pub parents_gone : are_there (lines_of ls) (parents_by w) ≡ false → IsInferredWith all (inference_by w) ws content us → ⊥
    parents_gone missing h = gone (parents_by w) h.0 missing h.3

    pub rule_stops : FirstStops → (ps : List ClauseTree) → AreClauses (lines_of ls) (parents_by w) ps → FirstAs (inference_by w).rule ps (answers_at all (parents_by w)) None
        → IsInferredWith all (inference_by w) ws content us → ⊥
    rule_stops law ps are first = law all (inference_by w) ws content us ps (here (parents_by w) ps are) first

    pub rule_leads : FirstLeads → inference_of w ≡ Some (inference_by w) → (ps : List ClauseTree) (a : Carried) (t : Bool) → AreClauses (lines_of ls) (parents_by w) ps
        → FirstAs (inference_by w).rule ps (answers_at all (parents_by w)) (Some a) → IsTrue t ↔ Leads ws a → IsTrue t ↔ IsInferredWith all (inference_by w) ws content us
    rule_leads law is ps a t are first h =
        let both = law all w (inference_by w) ws content us ps a is (here (parents_by w) ps are) first in
        (λ yes. both.1 (h.0 yes), λ inferred. h.1 (both.0 inferred))

    pub rule_told : {E : Type 0} → FirstLeads → inference_of w ≡ Some (inference_by w) → (ps : List ClauseTree) (a : Carried) (r : Result Bool E) → AreClauses (lines_of ls) (parents_by w) ps
        → FirstAs (inference_by w).rule ps (answers_at all (parents_by w)) (Some a) → IfOk r (λ t. IsTrue t ↔ Leads ws a) → IfOk r (λ t. IsTrue t ↔ IsInferredWith all (inference_by w) ws content us)
    rule_told law is ps a (Ok t) are first h = rule_leads law is ps a t are first h
    rule_told law is ps a (Err e) are first h = h

  -- an instance
  module _ (n : ℕ) (es : List Binding) (ws : List LaterWord) where
    clause_here : clause_at (plain_lines all) n ≡ clause_at (lines_of ls) n
    clause_here = ap (λ ks. clause_at ks n) (plainly ls)

    pub instance_gone : None ≡ clause_at (lines_of ls) n → IsInstanceWith all n es ws content us → ⊥
    instance_gone none h = let e : None ≡ Some h.0 = none ∙ sym clause_here ∙ h.1 in cc

    pub instance_leads : (c : ClauseTree) (a : Carried) (t : Bool) → Some c ≡ clause_at (lines_of ls) n → a ≡ carried (clause_put_in es c (answers_of_line all n)) (answers_put_in es c (answers_of_line all n))
        → IsTrue t ↔ Leads ws a → IsTrue t ↔ IsInstanceWith all n es ws content us
    instance_leads c a t is made h = (
      λ yes. (c, clause_here ∙ sym is, subst (Leads ws) made (h.0 yes)),
      λ instance.
          let same : instance.0 ≡ c = ap (λ o. unwrap_or o c) (sym instance.1 ∙ clause_here ∙ sym is) in
          h.1 (subst (Leads ws) (sym made) (subst (λ (d : ClauseTree). Leads ws (carried (clause_put_in es d (answers_of_line all n)) (answers_put_in es d (answers_of_line all n)))) same instance.2)),
    )

    pub instance_told : {E : Type 0} → (c : ClauseTree) (a : Carried) (r : Result Bool E) → Some c ≡ clause_at (lines_of ls) n → a ≡ carried (clause_put_in es c (answers_of_line all n)) (answers_put_in es c (answers_of_line all n))
        → IfOk r (λ t. IsTrue t ↔ Leads ws a) → IfOk r (λ t. IsTrue t ↔ IsInstanceWith all n es ws content us)
    instance_told c a (Ok t) is made h = instance_leads c a t is made h
    instance_told c a (Err e) is made h = h
