-- The terms of answers behind tables that have their symbols in other orders, and refutations with answers there.
use Rattle.std.proofs.Common.{◌≡◌, ℕ, ◌+◌, ◌≤◌, List, [], ◌∷◌, ◌++◌, length, map, slice_index, refl, sym, ap, ap₂, ◌∙◌, subst, arith}
use Rattle.std.proofs.lemmas.List.{map-append}
use Rattle.answers.specs.AnswerTrees.{answer, riders, whole, numbering}
use Rattle.answers.proofs.Prefix.{variables_both}
use Rattle.answered_lines.specs.Lines.{Asked, asked, with_asks, AnsweredRow, answered_row, with_terms, IsRefutationWith}
use Rattle.answered_lines.specs.Moved.{moved_asked, moved_answered_rows, moved_answered_lines, answered_rows_in_table, RefutationIsReadWith}
use Rattle.answered_lines.proofs.MovedAnswers.{refutation_moved_with}
use Rattle.clausify.specs.Asked.{asked_variables, answer_terms, first_ask, other_asks, answer_terms_from, all_answer_terms}
use Rattle.clausify.specs.Clausal.{clauses_in}
use Rattle.clausify.specs.Input.{ClauseRow, form, all_rows, clauses_in_table, skolem_numbers}
use Rattle.clausify.specs.Skolem.{somes}
use Rattle.derivation_laws.specs.Moved.{Moving, moved_terms, moved_clause, moved_formula, moved_said, moved_rows}
use Rattle.derivation_laws.proofs.MovedRows.{all_somes, all_count, all_moved, form_moved, somes_stay, clauses_in_moved, all_rows_moved}
use Rattle.derivation_laws.proofs.MovedTables.{table_moved}
use Rattle.derivation_laws.proofs.MovedTerms.{clause_variables_stay}
use Rattle.fol_core.specs.Fol.{Fol, verum, falsum, equal, atom, negation, conjunction, disjunction, implication, equivalence, forall, exists}
use Rattle.fol_core.specs.Free.{joined}
use Rattle.fol_core.specs.Literals.{ClauseTree, equality}
use Rattle.fol_core.specs.Renumbered.{clause_variables, by_place, place_in}
use Rattle.fol_core.specs.Substitutions.{substitute_all}
use Rattle.fol_core.specs.Tree.{Trees, none, more, var, trees_of}
use Rattle.fol_problem.specs.Asks.{prefix_of}
use Rattle.fol_problem.specs.Stated.{Said, said}

module _ (to : Moving) where
  prefix_stays : (f : Fol) → prefix_of (moved_formula to f) ≡ prefix_of f
  prefix_stays (exists x f) = ap (λ xs. x ∷ xs) (prefix_stays f)
  prefix_stays verum = refl
  prefix_stays falsum = refl
  prefix_stays (equal s t) = refl
  prefix_stays (atom r ts) = refl
  prefix_stays (negation f) = refl
  prefix_stays (conjunction f g) = refl
  prefix_stays (disjunction f g) = refl
  prefix_stays (implication f g) = refl
  prefix_stays (equivalence f g) = refl
  prefix_stays (forall x f) = refl

  asked_stay : (f : Fol) (places : List ℕ) → asked_variables (moved_formula to f) places ≡ asked_variables f places
  asked_stay f places = ap (λ xs. map (λ k. slice_index xs k) places) (prefix_stays f)

  -- variables by their places have no symbols
  placed_stay : (xs vs : List ℕ) → moved_terms to (substitute_all (by_place xs) (trees_of (map var vs))) ≡ substitute_all (by_place xs) (trees_of (map var vs))
  placed_stay xs [] = refl
  placed_stay xs (v ∷ vs) = ap (more (var (place_in xs v))) (placed_stay xs vs)

  terms_moved : (f : Fol) (places : List ℕ) (c : ClauseTree) → answer_terms (moved_formula to f) places (moved_clause to c) ≡ moved_terms to (answer_terms f places c)
  terms_moved f places c =
      let vs = asked_variables f places in
      let us = answer 0 (trees_of (map var vs)) ∷ [] in
      let same : clause_variables (whole (moved_clause to c) us) ≡ clause_variables (whole c us) =
      variables_both (moved_clause to c) (riders us) ∙ ap (λ xs. joined xs (clause_variables (riders us))) (clause_variables_stay to c) ∙ sym (variables_both c (riders us)) in
      ap (λ vs. substitute_all (numbering (moved_clause to c) (answer 0 (trees_of (map var vs)) ∷ [])) (trees_of (map var vs))) (asked_stay f places)
      ∙ ap (λ xs. substitute_all (by_place xs) (trees_of (map var vs))) same
      ∙ sym (placed_stay (clause_variables (whole c us)) vs)

  all_terms_moved : (f : Fol) (places : List ℕ) (cs : List ClauseTree) → map (answer_terms (moved_formula to f) places) (all_moved to cs) ≡ map (moved_terms to) (map (answer_terms f places) cs)
  all_terms_moved f places [] = refl
  all_terms_moved f places (c ∷ cs) = ap₂ (λ ts lists. ts ∷ lists) (terms_moved f places c) (all_terms_moved f places cs)

  module _ (x : to equality ≡ equality) (symbols : List ℕ) where
    terms_from_moved : (k : ℕ) (ss : List Said) (asks : List (List ℕ)) → k + all_somes ss ≤ length symbols
        → answer_terms_from (map to symbols) k (moved_said to ss) asks ≡ map (moved_terms to) (answer_terms_from symbols k ss asks)
    terms_from_moved k [] asks h = refl
    terms_from_moved k (s ∷ ss) asks h =
        let places = first_ask asks in
        let cs = clauses_in symbols k [] var (form s) in
        let first = ap (clauses_in (map to symbols) k [] var) (form_moved to s) ∙ clauses_in_moved to x symbols k [] var (form s) (omega arith) in
        let next = ap (λ f. answer_terms_from (map to symbols) (k + somes f) (moved_said to ss) (other_asks asks)) (form_moved to s)
        ∙ ap (λ n. answer_terms_from (map to symbols) (k + n) (moved_said to ss) (other_asks asks)) (somes_stay to (form s))
        ∙ terms_from_moved (k + somes (form s)) ss (other_asks asks) (omega arith) in
        ap₂ (λ a b. a ++ b) (ap (map (answer_terms (moved_formula to s.formula) places)) first ∙ all_terms_moved s.formula places cs) next
        ∙ sym (map-append (moved_terms to) (map (answer_terms s.formula places) cs) (answer_terms_from symbols (k + somes (form s)) ss (other_asks asks)))

  with_terms_moved : (rows : List ClauseRow) (lists : List Trees) → moved_answered_rows to (with_terms rows lists) ≡ with_terms (moved_rows to rows) (map (moved_terms to) lists)
  with_terms_moved [] lists = refl
  with_terms_moved (r ∷ rows) [] = ap (λ rs. answered_row (r.0, moved_clause to r.1) none ∷ rs) (with_terms_moved rows [])
  with_terms_moved (r ∷ rows) (ts ∷ lists) = ap (λ rs. answered_row (r.0, moved_clause to r.1) (moved_terms to ts) ∷ rs) (with_terms_moved rows lists)

  with_asks_moved : (ss : List Said) (asks : List (List ℕ)) → moved_asked to (with_asks ss asks) ≡ with_asks (moved_said to ss) asks
  with_asks_moved [] asks = refl
  with_asks_moved (s ∷ ss) asks = ap (λ rest. asked (said s.role (moved_formula to s.formula)) (first_ask asks) ∷ rest) (with_asks_moved ss (other_asks asks))

pub refutation_read_with : RefutationIsReadWith
refutation_read_with p asks all table well has is within =
    let moved = table_moved p all table well has is within in
    let to = moved.0 in
    let stays = moved.2.exchange.equality_stays in
    let symbols = skolem_numbers all p in
    let few : 0 + all_somes p.formulas ≤ length symbols = omega (arith, moved.5, all_count p.formulas) in
    let clauses : moved_rows to (clauses_in_table all p) ≡ clauses_in_table table p = sym (all_rows_moved to stays symbols p.formulas moved.5) ∙ ap₂ all_rows moved.4 moved.3 in
    let terms : map (moved_terms to) (all_answer_terms symbols p.formulas asks) ≡ all_answer_terms (skolem_numbers table p) p.formulas asks =
    sym (terms_from_moved to stays symbols 0 p.formulas asks few) ∙ ap₂ (λ ns ss. all_answer_terms ns ss asks) moved.4 moved.3 in
    let rows : moved_answered_rows to (answered_rows_in_table all p asks) ≡ answered_rows_in_table table p asks =
    with_terms_moved to (clauses_in_table all p) (all_answer_terms symbols p.formulas asks) ∙ ap₂ with_terms clauses terms in
    let said_same : moved_asked to (with_asks p.formulas asks) ≡ with_asks p.formulas asks = with_asks_moved to p.formulas asks ∙ ap (λ ss. with_asks ss asks) moved.3 in (
      to,
      moved.1,
      moved.2,
      λ ls h.
          let there = refutation_moved_with to moved.1 (with_asks p.formulas asks) (answered_rows_in_table all p asks) ls moved.2.exchange h in
          subst (λ (ss : List Asked). IsRefutationWith ss (answered_rows_in_table table p asks) (moved_answered_lines to ls)) said_same
          (subst (λ (rs : List AnsweredRow). IsRefutationWith (moved_asked to (with_asks p.formulas asks)) rs (moved_answered_lines to ls)) rows there),
    )
