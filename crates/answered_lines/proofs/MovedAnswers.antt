-- Answers, steps and lines with other numbers of their symbols.
use Rattle.std.proofs.Common.{◌≡◌, inl, inr, ℕ, suc, ◌+◌, ◌-◌, Bool, true, false, ◌==◌, ◌&&◌, ◌||◌, if◌then◌else◌, IsTrue, List, [], ◌∷◌, ◌++◌, map, Option, Some, None, option_map, refl, sym, ap, ap₂, ◌∙◌, subst}
use Rattle.std.specs.List.{list_any}
use Rattle.std.specs.Option.{option_map_or}
use Rattle.std.proofs.lemmas.Bool.Decides.{same_from_decides, Decides-eqb, Decides-like}
use Rattle.std.proofs.lemmas.List.{map-append}
use Rattle.answers.specs.AnswerTrees.{Answer, answer, substitute_answers, same_answer, added, all_added, each_once, literals_of, riders, whole, numbering, numbered_clause, numbered_answers, IsSame, above_all, fresh_for}
use Rattle.answered_lines.specs.Lines.{Asked, AnsweredRow, AnsweredLine, plain_lines, answered_at, answers_of_line, answers_at, IsClauseWith, AfterWith, IsInferredWith, clause_put_in, answers_put_in, IsInstanceWith, IsSome, IsSaidWith, counted, IsStatedWith, asked_at, row_answers, IsRowWith, IsFormulaWith, IsInputWith, IsLineWith, AreLinesWith}
use Rattle.answered_lines.specs.Moved.{moved_answer, moved_answers, moved_asked, moved_answered_rows, moved_answered_line, moved_answered_lines, RefutationIsMovedWith}
use Rattle.answered_lines.specs.Steps.{together, ConcludesWith, used_by, Joins, only_answers, Brings}
use Rattle.derivation.specs.Equations.{left_of, term_below}
use Rattle.derivation.specs.Later.{LaterWord, flipped, merged, reflexive, unit_deleted, rewritten, later_parents}
use Rattle.derivation.specs.Lines.{FirstWord, assumed, wanted, clausified, denied, copied, resolved, factored, paramodulated, xx_resolved, instantiated, Inference, inference_of, copy_inference, clash_inference, factor_inference, para_inference, xx_inference, ContentTree, formula, clause, clause_at, AreClauses, ends_empty}
use Rattle.derivation.specs.Places.{atom_at}
use Rattle.derivation.specs.Rule.{InferenceRule}
use Rattle.derivation.specs.Words.{only_of}
use Rattle.derivation_laws.specs.Moved.{Moving, moved_term, moved_terms, moved_clause, moved_formula, moved_content, moved_bindings, moved_first, moved_line, moved_lines, IsExchange}
use Rattle.derivation_laws.proofs.MovedLines.{clauses_moved, clause_at_moved, fits_moved, leads_moved, atom_only, bindings_moved, ends_moved}
use Rattle.derivation_laws.proofs.MovedRules.{IsMovable, word_movable, backwards, unifies_moved, unifies_back, taken_back}
use Rattle.derivation_laws.proofs.MovedTerms.{moved_terms_for, moved_put_all, clause_put, clauses_put, moved_own, instances_put, variable_stays, clause_variables_stay, append_moved, atom_moved, left_moved, term_below_moved, moved_put, terms_back, clauses_back}
use Rattle.fol_core.specs.Fol.{Fol}
use Rattle.fol_core.specs.Literals.{ClauseTree, literal}
use Rattle.fol_core.specs.Renumbered.{clause_variables, by_place}
use Rattle.fol_core.specs.Substitutions.{Substitution}
use Rattle.fol_core.specs.Tree.{Tree, var, elem, app, Trees, none, more}
use Rattle.fol_problem.specs.Stated.{said}
use Rattle.substitutions.specs.Apart.{Own, instances}
use Rattle.substitutions.specs.Bindings.{Binding, by_bindings}
use Rattle.substitutions.specs.Instances.{substitute_clause}
use Rattle.substitutions.specs.Occurring.{has_variable}
use Rattle.unifiers.specs.Matching.{same_tree, same_trees}

module _ (to : Moving) where
  -- answers with terms put in
  pub answers_put : (s : Substitution) (us : List Answer) → moved_answers to (substitute_answers s us) ≡ substitute_answers (moved_terms_for to s) (moved_answers to us)
  answers_put s [] = refl
  answers_put s (a ∷ us) = ap₂ (λ ts bs. answer a.goal ts ∷ bs) (moved_put_all to s a.terms) (answers_put s us)

  together_put : (own : Own) (answers : List (List Answer)) → moved_answers to (together own answers) ≡ together (moved_own to own) (map (moved_answers to) answers)
  together_put own [] = refl
  together_put own (us ∷ answers) =
      map-append (moved_answer to) (substitute_answers (own 0) us) (together (λ k. own (suc k)) answers) ∙ ap₂ (λ x y. x ++ y) (answers_put (own 0) us) (together_put (λ k. own (suc k)) answers)

  -- clauses with the terms of answers behind
  literals_moved : (ts : Trees) → literals_of (moved_terms to ts) ≡ moved_clause to (literals_of ts)
  literals_moved none = refl
  literals_moved (more t ts) = ap (λ c. literal true (moved_term to t) ∷ c) (literals_moved ts)

  riders_moved : (us : List Answer) → riders (moved_answers to us) ≡ moved_clause to (riders us)
  riders_moved [] = refl
  riders_moved (a ∷ us) = ap₂ (λ x y. x ++ y) (literals_moved a.terms) (riders_moved us) ∙ sym (append_moved to (literals_of a.terms) (riders us))

  whole_variables : (c : ClauseTree) (us : List Answer) → clause_variables (whole (moved_clause to c) (moved_answers to us)) ≡ clause_variables (whole c us)
  whole_variables c us = ap clause_variables (ap (λ x. moved_clause to c ++ x) (riders_moved us) ∙ sym (append_moved to c (riders us))) ∙ clause_variables_stay to (whole c us)

  pub numbered_clause_moved : (c : ClauseTree) (us : List Answer) → numbered_clause (moved_clause to c) (moved_answers to us) ≡ moved_clause to (numbered_clause c us)
  numbered_clause_moved c us = ap (λ xs. substitute_clause (by_place xs) (moved_clause to c)) (whole_variables c us) ∙ sym (clause_put to (numbering c us) c)

  pub numbered_answers_moved : (c : ClauseTree) (us : List Answer) → numbered_answers (moved_clause to c) (moved_answers to us) ≡ moved_answers to (numbered_answers c us)
  numbered_answers_moved c us = ap (λ xs. substitute_answers (by_place xs) (moved_answers to us)) (whole_variables c us) ∙ sym (answers_put (numbering c us) us)

  same_moved : (c : ClauseTree) (us : List Answer) (d : ClauseTree) (bs : List Answer) → IsSame c us d bs → IsSame (moved_clause to c) (moved_answers to us) (moved_clause to d) (moved_answers to bs)
  same_moved c us d bs same = (
    numbered_clause_moved c us ∙ ap (moved_clause to) same.0 ∙ sym (numbered_clause_moved d bs),
    numbered_answers_moved c us ∙ ap (moved_answers to) same.1 ∙ sym (numbered_answers_moved d bs),
  )

module _ (to back : Moving) (x : IsExchange to back) where
  -- the same terms stay so, and different ones stay different
  number_moved : (r s : ℕ) → (to r == to s) ≡ (r == s)
  number_moved r s =
      same_from_decides (to r == to s) (r == s) (Decides-like (to r == to s) (λ e. sym (x.there r) ∙ ap back e ∙ x.there s) (λ e. ap to e) (Decides-eqb (to r) (to s))) (Decides-eqb r s)

  mutual
    tree_moved : (s t : Tree) → same_tree (moved_term to s) (moved_term to t) ≡ same_tree s t
    tree_moved (var y) (var z) = refl
    tree_moved (var y) (elem n) = refl
    tree_moved (var y) (app g ts) = refl
    tree_moved (elem k) (var z) = refl
    tree_moved (elem k) (elem n) = refl
    tree_moved (elem k) (app g ts) = refl
    tree_moved (app f ss) (var z) = refl
    tree_moved (app f ss) (elem n) = refl
    tree_moved (app f ss) (app g ts) = ap₂ (λ a b. a && b) (number_moved f g) (trees_moved ss ts)

    trees_moved : (ss ts : Trees) → same_trees (moved_terms to ss) (moved_terms to ts) ≡ same_trees ss ts
    trees_moved none none = refl
    trees_moved none (more t ts) = refl
    trees_moved (more s ss) none = refl
    trees_moved (more s ss) (more t ts) = ap₂ (λ a b. a && b) (tree_moved s t) (trees_moved ss ts)

  among_moved : (a : Answer) (us : List Answer) → list_any (same_answer (moved_answer to a)) (moved_answers to us) ≡ list_any (same_answer a) us
  among_moved a [] = refl
  among_moved a (b ∷ us) = ap₂ (λ p q. p || q) (ap (λ p. a.goal == b.goal && p) (trees_moved a.terms b.terms)) (among_moved a us)

  added_moved : (us : List Answer) (a : Answer) → added (moved_answers to us) (moved_answer to a) ≡ moved_answers to (added us a)
  added_moved us a = ap (λ b. if b then moved_answers to us else moved_answers to us ++ moved_answer to a ∷ []) (among_moved a us) ∙ by (list_any (same_answer a) us)
    where
      by : (b : Bool) → (if b then moved_answers to us else moved_answers to us ++ moved_answer to a ∷ []) ≡ moved_answers to (if b then us else us ++ a ∷ [])
      by true = refl
      by false = sym (map-append (moved_answer to) us (a ∷ []))

  all_added_moved : (us bs : List Answer) → all_added (moved_answers to us) (moved_answers to bs) ≡ moved_answers to (all_added us bs)
  all_added_moved us [] = refl
  all_added_moved us (b ∷ bs) = ap (λ vs. all_added vs (moved_answers to bs)) (added_moved us b) ∙ all_added_moved (added us b) bs

  pub each_once_moved : (us : List Answer) → each_once (moved_answers to us) ≡ moved_answers to (each_once us)
  each_once_moved us = all_added_moved [] us

  all_back : (answers : List (List Answer)) → map (moved_answers back) (map (moved_answers to) answers) ≡ answers
  all_back [] = refl
  all_back (us ∷ answers) = ap₂ (λ x y. x ∷ y) (answers_back us) (all_back answers)
    where
      answers_back : (us : List Answer) → moved_answers back (moved_answers to us) ≡ us
      answers_back [] = refl
      answers_back (a ∷ us) = ap₂ (λ ts bs. answer a.goal ts ∷ bs) (terms_back to back x.there a.terms) (answers_back us)

-- a conclusion of moved clauses with moved answers is that of those, moved
module _ (to back : Moving) (x : IsExchange to back) (r : InferenceRule) (movable : IsMovable to r) (backward : IsMovable back r) (cs : List ClauseTree) (answers : List (List Answer)) where
  abbrev theirs : List (List Answer)
  theirs = map (moved_answers to) answers

  abbrev parents : List ClauseTree
  parents = map (moved_clause to) cs

  answers_taken_back : (other : Own) → together (moved_own back other) answers ≡ moved_answers back (together other theirs)
  answers_taken_back other = ap (together (moved_own back other)) (sym (all_back to back x answers)) ∙ sym (together_put back other theirs)

  concludes_moved_with : (c : ClauseTree) (us : List Answer) → ConcludesWith r cs answers c us → ConcludesWith r parents theirs (moved_clause to c) (moved_answers to us)
  concludes_moved_with c us (own, most, is, are) =
      let all = instances own cs in
      let both = together own answers in
      let rest : moved_clause to (r.rest all) ≡ r.rest (instances (moved_own to own) parents) = sym (movable.rest all) ∙ ap r.rest (instances_put to own cs) in
      let joined = together_put to own answers in (
        moved_own to own,
        record {
          unifies = unifies_moved to back x r movable backward cs own most.unifies;
          general = λ other u.
              let g = most.general (moved_own back other) (unifies_back to back x r movable backward cs other u) in (
                moved_terms_for to g.0,
                sym (clauses_back back to x.again (instances other parents))
                    ∙ ap (map (moved_clause to)) (sym (taken_back to back x r movable backward cs other) ∙ g.1)
                    ∙ clauses_put to g.0 all
                    ∙ ap (map (substitute_clause (moved_terms_for to g.0))) (instances_put to own cs),
                sym (one_back (together other theirs))
                    ∙ ap (moved_answers to) (sym (answers_taken_back other) ∙ g.2)
                    ∙ answers_put to g.0 both
                    ∙ ap (substitute_answers (moved_terms_for to g.0)) joined,
              );
        },
        ap (moved_clause to) is ∙ sym (numbered_clause_moved to (r.rest all) both) ∙ ap₂ numbered_clause rest joined,
        ap (moved_answers to) are ∙ sym (each_once_moved to back x (numbered_answers (r.rest all) both))
            ∙ ap each_once (sym (numbered_answers_moved to (r.rest all) both) ∙ ap₂ numbered_answers rest joined),
      )
    where
      one_back : (us : List Answer) → moved_answers to (moved_answers back us) ≡ us
      one_back [] = refl
      one_back (a ∷ us) = ap₂ (λ ts bs. answer a.goal ts ∷ bs) (terms_back back to x.again a.terms) (one_back us)

-- under other names of the same
joins_as : (general general2 special special2 : Tree) → general ≡ general2 → special ≡ special2 → (c : ClauseTree) (us bs bs2 : List Answer) → bs ≡ bs2 → (made : List Answer)
    → Joins general special c us bs made → Joins general2 special2 c us bs2 made
joins_as general general2 special special2 g s c us bs bs2 b made h =
    subst (λ vs. Joins general2 special2 c us vs made) b (subst (λ t. Joins general2 t c us bs made) s (subst (λ t. Joins t special c us bs made) g h))

module _ (to back : Moving) (x : IsExchange to back) where
  -- what is used by a match
  used_moved : (general : Tree) (s : Substitution) (fresh : ℕ) → ◌≡◌ {A = Substitution} (moved_terms_for to (used_by general s fresh)) (used_by (moved_term to general) (moved_terms_for to s) fresh)
  used_moved general s fresh = λ i y. (by y (has_variable y general) ∙ ap (λ b. if b then moved_term to (s y) else var (y + fresh)) (sym (variable_stays to y general))) i
    where
      by : (y : ℕ) (b : Bool) → moved_term to (if b then s y else var (y + fresh)) ≡ (if b then moved_term to (s y) else var (y + fresh))
      by y true = refl
      by y false = refl

  joins_moved : (general special : Tree) (c : ClauseTree) (us bs made : List Answer) → Joins general special c us bs made
      → Joins (moved_term to general) (moved_term to special) (moved_clause to c) (moved_answers to us) (moved_answers to bs) (moved_answers to made)
  joins_moved general special c us bs made (s, match, is) =
      let fresh = fresh_for c us in
      let used : moved_answers to (substitute_answers (used_by general s fresh) bs) ≡ substitute_answers (used_by (moved_term to general) (moved_terms_for to s) (fresh_for (moved_clause to c) (moved_answers to us))) (moved_answers to bs) =
      answers_put to (used_by general s fresh) bs
      ∙ ap (λ u. substitute_answers u (moved_answers to bs)) (used_moved general s fresh)
      ∙ ap (λ xs. substitute_answers (used_by (moved_term to general) (moved_terms_for to s) (above_all xs)) (moved_answers to bs)) (sym (whole_variables to c us)) in (
        moved_terms_for to s,
        sym (moved_put to s general) ∙ ap (moved_term to) match,
        ap (moved_answers to) is ∙ sym (each_once_moved to back x (us ++ substitute_answers (used_by general s fresh) bs))
            ∙ ap each_once (map-append (moved_answer to) us (substitute_answers (used_by general s fresh) bs) ∙ ap (λ vs. moved_answers to us ++ vs) used),
      )

  only_answers_moved : (answers : List (List Answer)) → only_answers (map (moved_answers to) answers) ≡ moved_answers to (only_answers answers)
  only_answers_moved [] = refl
  only_answers_moved (us ∷ []) = refl
  only_answers_moved (us ∷ vs ∷ answers) = refl

  brings_moved : (w : LaterWord) (c : ClauseTree) (us : List Answer) (ps : List ClauseTree) (answers : List (List Answer)) (made : List Answer) → Brings w c us ps answers made
      → Brings w (moved_clause to c) (moved_answers to us) (map (moved_clause to) ps) (map (moved_answers to) answers) (moved_answers to made)
  brings_moved (flipped a) c us ps answers made is = ap (moved_answers to) is
  brings_moved (merged a) c us ps answers made is = ap (moved_answers to) is
  brings_moved (reflexive a) c us ps answers made is = ap (moved_answers to) is
  brings_moved (unit_deleted a n) c us ps answers made is =
      joins_as (moved_term to (atom_at (only_of ps) 0)) (atom_at (only_of (map (moved_clause to) ps)) 0) (moved_term to (atom_at c a)) (atom_at (moved_clause to c) a) (sym (atom_only to back x ps)) (sym (atom_moved to c a))
      (moved_clause to c) (moved_answers to us) (moved_answers to (only_answers answers)) (only_answers (map (moved_answers to) answers)) (sym (only_answers_moved answers)) (moved_answers to made)
      (joins_moved (atom_at (only_of ps) 0) (atom_at c a) c us (only_answers answers) made is)
  brings_moved (rewritten n a path) c us ps answers made is =
      let rule = atom_at (only_of ps) 0 in
      joins_as (moved_term to (left_of rule)) (left_of (atom_at (only_of (map (moved_clause to) ps)) 0)) (moved_term to (term_below (atom_at c a) path)) (term_below (atom_at (moved_clause to c) a) path)
      (sym (left_moved to rule) ∙ ap left_of (sym (atom_only to back x ps))) (sym (term_below_moved to (atom_at c a) path) ∙ ap (λ t. term_below t path) (sym (atom_moved to c a)))
      (moved_clause to c) (moved_answers to us) (moved_answers to (only_answers answers)) (only_answers (map (moved_answers to) answers)) (sym (only_answers_moved answers)) (moved_answers to made)
      (joins_moved (left_of rule) (term_below (atom_at c a) path) c us (only_answers answers) made is)

module _ (to back : Moving) (x : IsExchange to back) where
  -- lines by their numbers
  line_moved : (ls : List AnsweredLine) (n : ℕ) → answered_at (moved_answered_lines to ls) n ≡ option_map (moved_answered_line to) (answered_at ls n)
  line_moved [] n = refl
  line_moved (l ∷ ls) n = by (l.line.number == n) (line_moved ls n)
    where
      by : (b : Bool) → answered_at (moved_answered_lines to ls) n ≡ option_map (moved_answered_line to) (answered_at ls n)
          → (if b then Some (moved_answered_line to l) else answered_at (moved_answered_lines to ls) n) ≡ option_map (moved_answered_line to) (if b then Some l else answered_at ls n)
      by true rest = refl
      by false rest = rest

  own_moved : (ls : List AnsweredLine) (n : ℕ) → answers_of_line (moved_answered_lines to ls) n ≡ moved_answers to (answers_of_line ls n)
  own_moved ls n = ap (λ o. option_map_or (λ l. l.answers) o []) (line_moved ls n) ∙ by (answered_at ls n)
    where
      by : (o : Option AnsweredLine) → option_map_or (λ l. l.answers) (option_map (moved_answered_line to) o) [] ≡ moved_answers to (option_map_or (λ l. l.answers) o [])
      by None = refl
      by (Some l) = refl

  all_own_moved : (ls : List AnsweredLine) (ns : List ℕ) → answers_at (moved_answered_lines to ls) ns ≡ map (moved_answers to) (answers_at ls ns)
  all_own_moved ls [] = refl
  all_own_moved ls (n ∷ ns) = ap₂ (λ us answers. us ∷ answers) (own_moved ls n) (all_own_moved ls ns)

  plain_moved : (ls : List AnsweredLine) → plain_lines (moved_answered_lines to ls) ≡ moved_lines to (plain_lines ls)
  plain_moved [] = refl
  plain_moved (l ∷ ls) = ap (λ ks. moved_line to l.line ∷ ks) (plain_moved ls)

  parents_moved : (ls : List AnsweredLine) (ns : List ℕ) (ps : List ClauseTree) → AreClauses (plain_lines ls) ns ps → AreClauses (plain_lines (moved_answered_lines to ls)) ns (map (moved_clause to) ps)
  parents_moved ls ns ps are = subst (λ ks. AreClauses ks ns (map (moved_clause to) ps)) (sym (plain_moved ls)) (clauses_moved to back x (plain_lines ls) ns ps are)

  is_clause_moved : (content : ContentTree) (us : List Answer) (d : ClauseTree) (bs : List Answer) → IsClauseWith content us d bs → IsClauseWith (moved_content to content) (moved_answers to us) (moved_clause to d) (moved_answers to bs)
  is_clause_moved (formula f) us d bs is = is
  is_clause_moved (clause c) us d bs is = same_moved to c us d bs is

  after_moved : (ls : List AnsweredLine) (ws : List LaterWord) (d : ClauseTree) (bs : List Answer) (content : ContentTree) (us : List Answer) → AfterWith ls ws d bs content us
      → AfterWith (moved_answered_lines to ls) ws (moved_clause to d) (moved_answers to bs) (moved_content to content) (moved_answers to us)
  after_moved ls [] d bs content us after = is_clause_moved content us d bs after
  after_moved ls (w ∷ ws) d bs content us (ps, e, made, are, fits, leads, brings, after) = (
    map (moved_clause to) ps,
    moved_clause to e,
    moved_answers to made,
    parents_moved ls (later_parents w) ps are,
    subst IsTrue (sym (fits_moved to back x w d ps)) fits,
    leads_moved to back x w d ps e leads,
    subst (λ answers. Brings w (moved_clause to d) (moved_answers to bs) (map (moved_clause to) ps) answers (moved_answers to made)) (sym (all_own_moved ls (later_parents w)))
        (brings_moved to back x w d bs ps (answers_at ls (later_parents w)) made brings),
    after_moved ls ws e made content us after,
  )

  inferred_moved : (ls : List AnsweredLine) (w : FirstWord) (i : Inference) → inference_of w ≡ Some i → (ws : List LaterWord) (content : ContentTree) (us : List Answer) → IsInferredWith ls i ws content us
      → IsInferredWith (moved_answered_lines to ls) i ws (moved_content to content) (moved_answers to us)
  inferred_moved ls w i is ws content us (ps, d, bs, are, fits, concludes, after) =
      let movable = word_movable to back x w i is in
      let backward = word_movable back to (backwards to back x) w i is in (
        map (moved_clause to) ps,
        moved_clause to d,
        moved_answers to bs,
        parents_moved ls i.parents ps are,
        subst IsTrue (sym (movable.fits ps)) fits,
        subst (λ answers. ConcludesWith i.rule (map (moved_clause to) ps) answers (moved_clause to d) (moved_answers to bs)) (sym (all_own_moved ls i.parents))
            (concludes_moved_with to back x i.rule movable backward ps (answers_at ls i.parents) d bs concludes),
        after_moved ls ws d bs content us after,
      )

  -- an instance by moved terms
  instance_moved : (ls : List AnsweredLine) (n : ℕ) (es : List Binding) (ws : List LaterWord) (content : ContentTree) (us : List Answer) → IsInstanceWith ls n es ws content us
      → IsInstanceWith (moved_answered_lines to ls) n (moved_bindings to es) ws (moved_content to content) (moved_answers to us)
  instance_moved ls n es ws content us (c, at, after) =
      let bs = answers_of_line ls n in
      let put = by_bindings es in
      let there = by_bindings (moved_bindings to es) in
      let same : ◌≡◌ {A = Substitution} (moved_terms_for to put) there = (λ i y. sym (bindings_moved to back x es y) i) in
      let clauses : moved_clause to (substitute_clause put c) ≡ substitute_clause there (moved_clause to c) = clause_put to put c ∙ ap (λ (s : Substitution). substitute_clause s (moved_clause to c)) same in
      let answers : moved_answers to (substitute_answers put bs) ≡ substitute_answers there (answers_of_line (moved_answered_lines to ls) n) =
      answers_put to put bs ∙ ap₂ (λ (s : Substitution) vs. substitute_answers s vs) same (sym (own_moved ls n)) in
      let first : moved_clause to (clause_put_in es c bs) ≡ clause_put_in (moved_bindings to es) (moved_clause to c) (answers_of_line (moved_answered_lines to ls) n) =
      sym (numbered_clause_moved to (substitute_clause put c) (substitute_answers put bs)) ∙ ap₂ numbered_clause clauses answers in
      let second : moved_answers to (answers_put_in es c bs) ≡ answers_put_in (moved_bindings to es) (moved_clause to c) (answers_of_line (moved_answered_lines to ls) n) =
      sym (each_once_moved to back x (numbered_answers (substitute_clause put c) (substitute_answers put bs)))
      ∙ ap each_once (sym (numbered_answers_moved to (substitute_clause put c) (substitute_answers put bs)) ∙ ap₂ numbered_answers clauses answers) in (
        moved_clause to c,
        ap (λ ks. clause_at ks n) (plain_moved ls) ∙ clause_at_moved to back x (plain_lines ls) n ∙ ap (option_map (moved_clause to)) at,
        subst (λ vs. AfterWith (moved_answered_lines to ls) ws (clause_put_in (moved_bindings to es) (moved_clause to c) (answers_of_line (moved_answered_lines to ls) n)) vs (moved_content to content) (moved_answers to us)) second
            (subst (λ d. AfterWith (moved_answered_lines to ls) ws d (moved_answers to (answers_put_in es c bs)) (moved_content to content) (moved_answers to us)) first
            (after_moved ls ws (clause_put_in es c bs) (answers_put_in es c bs) content us after)),
      )

  -- what is said and asked for, and its clauses
  abbrev one_asked : Asked → Asked
  one_asked s = record { said = said s.said.role (moved_formula to s.said.formula); places = s.places }

  said_moved : (goal : Bool) (f : Fol) (asks : Option (List ℕ)) (s : Asked) → IsSaidWith goal f asks s → IsSaidWith goal (moved_formula to f) asks (one_asked s)
  said_moved goal f None s is = (is.0, ap (moved_formula to) is.1)
  said_moved goal f (Some places) s is = ((is.0.0, ap (moved_formula to) is.0.1), is.1, is.2)

  among_said_moved : (goal : Bool) (f : Fol) (asks : Option (List ℕ)) (ss : List Asked) → IsSome (IsSaidWith goal f asks) ss → IsSome (IsSaidWith goal (moved_formula to f) asks) (moved_asked to ss)
  among_said_moved goal f asks [] is = is
  among_said_moved goal f asks (s ∷ ss) (inl here) = inl (said_moved goal f asks s here)
  among_said_moved goal f asks (s ∷ ss) (inr there) = inr (among_said_moved goal f asks ss there)

  stated_moved : (goal : Bool) (content : ContentTree) (asks : Option (List ℕ)) (ss : List Asked) → IsStatedWith goal content asks ss → IsStatedWith goal (moved_content to content) asks (moved_asked to ss)
  stated_moved goal (formula f) asks ss is = among_said_moved goal f (counted goal asks) ss is
  stated_moved goal (clause c) asks ss is = is

  asked_moved : (ss : List Asked) (n : ℕ) → asked_at (moved_asked to ss) n ≡ option_map one_asked (asked_at ss n)
  asked_moved [] n = refl
  asked_moved (s ∷ ss) n = by (n == 1) (asked_moved ss (n - 1))
    where
      by : (b : Bool) → asked_at (moved_asked to ss) (n - 1) ≡ option_map one_asked (asked_at ss (n - 1))
          → (if b then Some (one_asked s) else asked_at (moved_asked to ss) (n - 1)) ≡ option_map one_asked (if b then Some s else asked_at ss (n - 1))
      by true rest = refl
      by false rest = rest

  row_answers_moved : (asks : Option (List ℕ)) (n : ℕ) (ts : Trees) → moved_answers to (row_answers asks n ts) ≡ row_answers asks n (moved_terms to ts)
  row_answers_moved None n ts = refl
  row_answers_moved (Some places) n ts = refl

  rows_moved : (goal : Bool) (f : Fol) (asks : Option (List ℕ)) (ss : List Asked) (n : ℕ) (content : ContentTree) (us : List Answer) (rows : List AnsweredRow) → IsSome (IsRowWith goal f asks ss n content us) rows
      → IsSome (IsRowWith goal (moved_formula to f) asks (moved_asked to ss) n (moved_content to content) (moved_answers to us)) (moved_answered_rows to rows)
  rows_moved goal f asks ss n content us [] is = is
  rows_moved goal f asks ss n content us (r ∷ rows) (inl (s, at, is, same)) = inl (
    one_asked s,
    asked_moved ss r.row.0 ∙ ap (option_map one_asked) at,
    said_moved goal f asks s is,
    subst (IsClauseWith (moved_content to content) (moved_answers to us) (moved_clause to r.row.1)) (row_answers_moved asks n r.terms) (is_clause_moved content us r.row.1 (row_answers asks n r.terms) same),
  )
  rows_moved goal f asks ss n content us (r ∷ rows) (inr there) = inr (rows_moved goal f asks ss n content us rows there)

  formula_moved : (ls : List AnsweredLine) (n : ℕ) (goal : Bool) (f : Fol) (asks : Option (List ℕ)) → IsFormulaWith ls n goal f asks → IsFormulaWith (moved_answered_lines to ls) n goal (moved_formula to f) asks
  formula_moved ls n goal f asks (l, at, is, first, own) =
      (moved_answered_line to l, line_moved ls n ∙ ap (option_map (moved_answered_line to)) at, ap (moved_content to) is, ap (moved_first to) first ∙ by goal, own)
    where
      by : (b : Bool) → moved_first to (if b then wanted else assumed) ≡ (if b then wanted else assumed)
      by true = refl
      by false = refl

  module _ (ss : List Asked) (rows : List AnsweredRow) where
    input_moved : (ls : List AnsweredLine) (goal : Bool) (n : ℕ) (content : ContentTree) (us : List Answer) → IsInputWith ss rows ls goal n content us
        → IsInputWith (moved_asked to ss) (moved_answered_rows to rows) (moved_answered_lines to ls) goal n (moved_content to content) (moved_answers to us)
    input_moved ls goal n content us (f, asks, stated, some) = (moved_formula to f, asks, formula_moved ls n goal f asks stated, rows_moved goal f asks ss n content us rows some)

    is_line_moved : (ls : List AnsweredLine) (first : FirstWord) (ws : List LaterWord) (content : ContentTree) (asks : Option (List ℕ)) (us : List Answer) → IsLineWith ss rows ls first ws content asks us
        → IsLineWith (moved_asked to ss) (moved_answered_rows to rows) (moved_answered_lines to ls) (moved_first to first) ws (moved_content to content) asks (moved_answers to us)
    is_line_moved ls assumed ws content asks us h = (stated_moved false content asks ss h.0, h.1)
    is_line_moved ls wanted ws content asks us h = (stated_moved true content asks ss h.0, h.1)
    is_line_moved ls (clausified n) ws content asks us h = (input_moved ls false n content us h.0, h.1)
    is_line_moved ls (denied n) ws content asks us h = (input_moved ls true n content us h.0, h.1)
    is_line_moved ls (copied n) ws content asks us h = inferred_moved ls (copied n) (copy_inference n) refl ws content us h
    is_line_moved ls (resolved n k) ws content asks us h = inferred_moved ls (resolved n k) (clash_inference n k) refl ws content us h
    is_line_moved ls (factored n a b) ws content asks us h = inferred_moved ls (factored n a b) (factor_inference n a b) refl ws content us h
    is_line_moved ls (paramodulated n a side m b path) ws content asks us h = inferred_moved ls (paramodulated n a side m b path) (para_inference n a side m b path) refl ws content us h
    is_line_moved ls (xx_resolved n a) ws content asks us h = inferred_moved ls (xx_resolved n a) (xx_inference n a) refl ws content us h
    is_line_moved ls (instantiated n es) ws content asks us h = instance_moved ls n es ws content us h

    are_lines_moved : (earlier : List AnsweredLine) (last : Option ℕ) (ls : List AnsweredLine) → AreLinesWith ss rows earlier last ls
        → AreLinesWith (moved_asked to ss) (moved_answered_rows to rows) (moved_answered_lines to earlier) last (moved_answered_lines to ls)
    are_lines_moved earlier last [] h = tt
    are_lines_moved earlier last (l ∷ ls) h = (
      h.0,
      is_line_moved earlier l.line.first l.line.later l.line.content l.asks l.answers h.1,
      subst (λ ks. AreLinesWith (moved_asked to ss) (moved_answered_rows to rows) ks (Some l.line.number) (moved_answered_lines to ls)) (map-append (moved_answered_line to) earlier (l ∷ []))
          (are_lines_moved (earlier ++ l ∷ []) (Some l.line.number) ls h.2),
    )

pub refutation_moved_with : RefutationIsMovedWith
refutation_moved_with to back ss rows ls x h = (
  are_lines_moved to back x ss rows [] None ls h.0,
  subst (λ ks. IsTrue (ends_empty ks)) (sym (plain_moved to back x ls)) (subst IsTrue (sym (ends_moved to back x (plain_lines ls))) h.1),
)
