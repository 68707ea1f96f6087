-- What rules and words make of good clauses with answers is good.
use Rattle.std.proofs.Common.{◌≡◌, ℕ, suc, ◌+◌, true, ◌&&◌, if◌then◌else◌, IsTrue, List, [], ◌∷◌, ◌++◌, Some, unwrap_or, sym, ap, ◌∙◌, subst}
use Rattle.std.specs.List.{list_all}
use Rattle.std.proofs.lemmas.Bool.{and_parts, false≢true}
use Rattle.answers.specs.AnswerTrees.{Answer, substitute_answers, numbering, numbered_clause, numbered_answers, each_once, fresh_for}
use Rattle.answered_lines.specs.Steps.{together, ConcludesWith, used_by, only_answers, Brings}
use Rattle.answered_lines.proofs.Good.{AllFail, fail_left, fail_right, fail_each, IsGood, good_put, good_each}
use Rattle.derivation.specs.Equations.{is_equation, left_of, right_of, below, is_there}
use Rattle.derivation.specs.Later.{LaterWord, flipped, merged, reflexive, unit_deleted, rewritten, later_fits, Leads, is_unit, is_rule_equation}
use Rattle.derivation.specs.Places.{atom_at, has_literal, has_place, with_atom, are_opposite}
use Rattle.derivation.specs.Rule.{InferenceRule}
use Rattle.derivation.specs.Words.{only_of, is_one_clause}
use Rattle.derivation.proofs.Conclusions.{in_all}
use Rattle.derivation.proofs.LaterSound.{UsedIsTrue, word_sound_at, word_atoms}
use Rattle.derivation.proofs.Lawful.{IsLawfulRule}
use Rattle.derivation.proofs.RuleSound.{AllTrue, AllAtoms}
use Rattle.derivation.proofs.Values.{true_in, atom_true, inside}
use Rattle.fol_core.specs.Free.{variables_of}
use Rattle.fol_core.specs.Literals.{ClauseTree}
use Rattle.fol_core.specs.Meaning.{Meaning, IsLawful}
use Rattle.fol_core.specs.Substitutions.{Substitution, substitute}
use Rattle.fol_core.specs.Tree.{Tree, var}
use Rattle.fol_core.specs.Truth.{Assignment, IsWithin}
use Rattle.substitutions.specs.Apart.{Own, instances}
use Rattle.substitutions.specs.Instances.{substitute_clause}
use Rattle.substitutions.specs.Occurring.{has_variable}
use Rattle.substitutions.specs.Paths.{replaced}
use Rattle.substitutions.proofs.Composing.{agrees, substitute_alike, has_listed}

-- a clause is used on the matched term as the match says
pub used_term : (general : Tree) (s : Substitution) (fresh : ℕ) → substitute (used_by general s fresh) general ≡ substitute s general
used_term general s fresh = substitute_alike (used_by general s fresh) s general (λ x i. ap (λ b. if b then s x else var (x + fresh)) i)

-- a rule has each variable of its right side on its left
right_on_left : (t : Tree) → IsTrue (is_rule_equation t) → (x : ℕ) → IsTrue (has_variable x (right_of t)) → IsTrue (has_variable x (left_of t))
right_on_left t rule x i =
    let parts = and_parts (is_equation t) (list_all (λ x. has_variable x (left_of t)) (variables_of (right_of t))) rule in
    in_all (λ y. has_variable y (left_of t)) (variables_of (right_of t)) x parts.1 (sym (has_listed x (right_of t)) ∙ i)

module _ (m : Meaning) (lawful : IsLawful m) (Fails : ℕ → List ℕ → Type 0) where
  -- several clauses, each with its answers
  abbrev pub AllGood : List ClauseTree → List (List Answer) → Type 0
  AllGood [] [] = Unit {0}
  AllGood [] (us ∷ answers) = ⊥
  AllGood (c ∷ cs) [] = ⊥
  AllGood (c ∷ cs) (us ∷ answers) = IsGood m lawful Fails c us × AllGood cs answers

module _ (m : Meaning) (lawful : IsLawful m) (Fails : ℕ → List ℕ → Type 0) where
  -- where all answers of all instances fail, each instance is true
  instances_true : (own : Own) (cs : List ClauseTree) (answers : List (List Answer)) → AllGood m lawful Fails cs answers → (e : Assignment) → IsWithin m e
      → AllFail m lawful Fails e (together own answers) → AllTrue (atom_true m (inside m lawful) e) (instances own cs)
  instances_true own [] answers good e w fail = tt
  instances_true own (c ∷ cs) [] good e w fail = absurd good
  instances_true own (c ∷ cs) (us ∷ answers) good e w fail =
      let behind : Own = λ k. own (suc k) in (
        (good_put m lawful Fails (own 0) c us good.0).0 e w (fail_left m lawful Fails e (substitute_answers (own 0) us) (together behind answers) fail),
        instances_true behind cs answers good.1 e w (fail_right m lawful Fails e (substitute_answers (own 0) us) (together behind answers) fail),
      )

  instances_atoms : (own : Own) (cs : List ClauseTree) (answers : List (List Answer)) → AllGood m lawful Fails cs answers → AllAtoms (instances own cs)
  instances_atoms own [] answers good = tt
  instances_atoms own (c ∷ cs) [] good = absurd good
  instances_atoms own (c ∷ cs) (us ∷ answers) good = ((good_put m lawful Fails (own 0) c us good.0).1, instances_atoms (λ k. own (suc k)) cs answers good.1)

  -- a clause with its answers numbered, each once
  pub good_numbered : (c : ClauseTree) (us : List Answer) → IsGood m lawful Fails c us → IsGood m lawful Fails (numbered_clause c us) (each_once (numbered_answers c us))
  good_numbered c us good = good_each m lawful Fails (numbered_clause c us) (numbered_answers c us) (good_put m lawful Fails (numbering c us) c us good)

  pub concluded_good : (r : InferenceRule) → IsLawfulRule r → (cs : List ClauseTree) (answers : List (List Answer)) (d : ClauseTree) (bs : List Answer)
      → IsTrue (r.fits cs) → ConcludesWith r cs answers d bs → AllGood m lawful Fails cs answers → IsGood m lawful Fails d bs
  concluded_good r law cs answers d bs fits (own, general, is, are) good =
      let made = r.rest (instances own cs) in
      let all = together own answers in
      let fit = law.kept own cs fits in
      let whole : IsGood m lawful Fails made all = (
        λ e w fail. law.sound m (inside m lawful) e (instances own cs) fit general.unifies (instances_true own cs answers good e w fail),
        law.atoms (instances own cs) fit (instances_atoms own cs answers good),
      ) in
      subst (λ c. IsGood m lawful Fails c bs) (sym is) (subst (IsGood m lawful Fails (numbered_clause made all)) (sym are) (good_numbered made all whole))

  only_good : (ps : List ClauseTree) (answers : List (List Answer)) → IsTrue (is_one_clause ps) → AllGood m lawful Fails ps answers → IsGood m lawful Fails (only_of ps) (only_answers answers)
  only_good [] answers one good = absurd (false≢true one)
  only_good (c ∷ []) [] one good = absurd good
  only_good (c ∷ []) (us ∷ []) one good = good.0
  only_good (c ∷ []) (us ∷ bs ∷ answers) one good = absurd good.1
  only_good (c ∷ d ∷ ps) answers one good = absurd (false≢true one)

  -- a word that takes no clause
  alone_good : (w : LaterWord) (c d : ClauseTree) (us made : List Answer) (ps : List ClauseTree) → IsTrue (later_fits w c ps) → (leads : Leads w c ps d)
      → ((e : Assignment) → UsedIsTrue m (inside m lawful) e w c d ps leads) → made ≡ us → IsGood m lawful Fails c us → IsGood m lawful Fails d made
  alone_good w c d us made ps fits leads used brings good = subst (IsGood m lawful Fails d) (sym brings)
      (λ e v fail. word_sound_at m (inside m lawful) e w c d ps fits leads (good.0 e v fail) (used e), word_atoms w c d ps fits leads good.1)

  -- one that uses its clause by a substitution
  joined_good : (w : LaterWord) (c d : ClauseTree) (us made : List Answer) (ps : List ClauseTree) (answers : List (List Answer)) (u : Substitution) → IsTrue (later_fits w c ps) → (leads : Leads w c ps d)
      → ((e : Assignment) → IsTrue (true_in (atom_true m (inside m lawful) e) (substitute_clause u (only_of ps))) → UsedIsTrue m (inside m lawful) e w c d ps leads)
      → made ≡ each_once (us ++ substitute_answers u (only_answers answers)) → IsGood m lawful Fails c us → IsGood m lawful Fails (only_of ps) (only_answers answers) → IsGood m lawful Fails d made
  joined_good w c d us made ps answers u fits leads used brings good parent = subst (IsGood m lawful Fails d) (sym brings) (
    λ e v fail.
        let bs = substitute_answers u (only_answers answers) in
        let all = fail_each m lawful Fails e (us ++ bs) fail in
        word_sound_at m (inside m lawful) e w c d ps fits leads (good.0 e v (fail_left m lawful Fails e us bs all))
        (used e ((good_put m lawful Fails u (only_of ps) (only_answers answers) parent).0 e v (fail_right m lawful Fails e us bs all))),
    word_atoms w c d ps fits leads good.1,
  )

  pub word_good : (w : LaterWord) (c d : ClauseTree) (us made : List Answer) (ps : List ClauseTree) (answers : List (List Answer)) → IsTrue (later_fits w c ps) → Leads w c ps d
      → Brings w c us ps answers made → IsGood m lawful Fails c us → AllGood m lawful Fails ps answers → IsGood m lawful Fails d made
  word_good (flipped a) c d us made ps answers fits leads brings good parents = alone_good (flipped a) c d us made ps fits leads (λ e. tt) brings good
  word_good (merged a) c d us made ps answers fits leads brings good parents = alone_good (merged a) c d us made ps fits leads (λ e. tt) brings good
  word_good (reflexive a) c d us made ps answers fits leads brings good parents = alone_good (reflexive a) c d us made ps fits leads (λ e. tt) brings good
  word_good (unit_deleted a n) c d us made ps answers fits leads (s, match, are) good parents =
      let one = and_parts (is_one_clause ps) (is_unit (only_of ps) && are_opposite c a (only_of ps) 0) fits in
      let unit = atom_at (only_of ps) 0 in
      let u = used_by unit s (fresh_for c us) in
      let used : Leads (unit_deleted a n) c ps d = ((u, used_term unit s (fresh_for c us) ∙ match), leads.1) in
      joined_good (unit_deleted a n) c d us made ps answers u fits used (λ e h. h) are good (only_good ps answers one.0 parents)
  word_good (rewritten n a path) c d us made ps answers fits leads (s, match, are) good parents =
      let one = and_parts (is_one_clause ps) (is_unit (only_of ps) && (has_literal true (only_of ps) 0 && (is_rule_equation (atom_at (only_of ps) 0) && (has_place c a && is_there (below (atom_at c a) path))))) fits in
      let two = and_parts (is_unit (only_of ps)) (has_literal true (only_of ps) 0 && (is_rule_equation (atom_at (only_of ps) 0) && (has_place c a && is_there (below (atom_at c a) path)))) one.1 in
      let three = and_parts (has_literal true (only_of ps) 0) (is_rule_equation (atom_at (only_of ps) 0) && (has_place c a && is_there (below (atom_at c a) path))) two.1 in
      let four = and_parts (is_rule_equation (atom_at (only_of ps) 0)) (has_place c a && is_there (below (atom_at c a) path)) three.1 in
      let rule = atom_at (only_of ps) 0 in
      let left = left_of rule in
      let u = used_by left s (fresh_for c us) in
      let same : substitute leads.0 left ≡ substitute u left = ap (λ o. unwrap_or o (var 0)) (sym leads.1) ∙ sym match ∙ sym (used_term left s (fresh_for c us)) in
      let rights : substitute leads.0 (right_of rule) ≡ substitute u (right_of rule) = substitute_alike leads.0 u (right_of rule) (λ x i. agrees leads.0 u left same x (right_on_left rule four.0 x i)) in
      let used : Leads (rewritten n a path) c ps d = (u, leads.1 ∙ ap Some same, leads.2 ∙ ap (λ t. with_atom c a (replaced (atom_at c a) path t)) rights) in
      joined_good (rewritten n a path) c d us made ps answers u fits used (λ e h. h) are good (only_good ps answers one.0 parents)
