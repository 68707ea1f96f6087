-- The answers of a derivation's lines stay in a signature.
use Rattle.std.proofs.Common.{◌≡◌, inl, inr, ℕ, suc, ◌+◌, Bool, true, false, ◌==◌, ◌&&◌, if◌then◌else◌, IsTrue, List, [], ◌∷◌, ◌++◌, map, length, Option, Some, None, refl, sym, ap, ◌∙◌, subst}
use Rattle.std.specs.List.{AllByRecursion, list_any}
use Rattle.std.specs.Option.{option_map_or, option_and_then}
use Rattle.std.proofs.lemmas.Bool.{and_parts, or_parts, eq-eqb, false≢true}
use Rattle.answers.specs.AnswerTrees.{Answer, answer, substitute_answers, same_answer, added, all_added, each_once, numbering, numbered_answers, fresh_for}
use Rattle.answers.proofs.Prefix.{numbered_is}
use Rattle.answered_lines.specs.Laws.{AreAsMany}
use Rattle.answered_lines.specs.Lines.{Asked, all_said_in, AnsweredRow, plain_rows, AnsweredLine, plain_lines, answered_at, answers_of_line, answers_at, IsClauseWith, AfterWith, IsInferredWith, clause_put_in, answers_put_in, IsInstanceWith, IsSome, row_answers, IsRowWith, IsStatedWith, IsLineWith, AreLinesWith}
use Rattle.answered_lines.specs.Stays.{AreAnswersIn, AnsweredRowsAreIn, BothAreIn, AnsweredLinesAreIn, AnsweredLinesStayIn, RowTermsNameNot, AnsweredLinesNameWithin}
use Rattle.answered_lines.specs.Shows.{AnswersNameWithin, BothNameWithin, LinesNameWithin}
use Rattle.answered_lines.specs.Steps.{together, ConcludesWith, used_by, Joins, only_answers, Brings}
use Rattle.answered_lines.proofs.AnswerInstances.{answers_alike, answers_led, leading}
use Rattle.answered_lines.proofs.Conclusions.{concludes_plain, together_behind, interleaved_apart}
use Rattle.answered_lines.proofs.Contents.{used_alike}
use Rattle.answered_lines.proofs.PlainLines.{lines_plain}
use Rattle.derivation.specs.Equations.{left_of, below, is_there, term_below}
use Rattle.derivation.specs.Later.{LaterWord, flipped, merged, reflexive, unit_deleted, rewritten, later_parents, later_fits, is_unit, is_rule_equation}
use Rattle.derivation.specs.Lines.{FirstWord, assumed, wanted, clausified, denied, copied, resolved, factored, paramodulated, xx_resolved, instantiated, Inference, inference_of, copy_inference, clash_inference, factor_inference, para_inference, xx_inference, ContentTree, formula, clause, line_at, clause_at, content_clause, AreClauses, LineTree}
use Rattle.derivation.specs.Places.{atom_at, has_literal, has_place, are_opposite}
use Rattle.derivation.specs.Rule.{InferenceRule, AreSame}
use Rattle.derivation.specs.Words.{only_of, is_one_clause}
use Rattle.derivation.proofs.Conclusions.{pair_put, IsNatural}
use Rattle.derivation.proofs.Lawful.{IsLawfulRule}
use Rattle.derivation.proofs.Naturality.{opposite_places}
use Rattle.derivation.proofs.Rows.{word_lawful}
use Rattle.derivation.proofs.Spread.{behind_apart}
use Rattle.derivation.specs.Laws.{NamesWithin}
use Rattle.derivation_laws.specs.Elements.{NamesNot, RowsNameNot, BindingsNameNot, FirstNamesNot, FirstsNameNot}
use Rattle.derivation_laws.specs.Signatures.{Signature, IsTermIn, AreTermsIn, IsAtomIn, IsClauseIn, RowsAreIn, ContentIsIn, LinesAreIn, PutsIn, LinesPutIn}
use Rattle.derivation_laws.proofs.Erased.{erased, erased_for, erased_in, erased_atom, terms_put_in, terms_put, term_put, term_stays, all_whole, atom_put}
use Rattle.derivation_laws.proofs.Lines.{stay_in, lead_in, bindings_in}
use Rattle.derivation_laws.proofs.Places as signatures
use Rattle.derivation_laws.proofs.Places.{left_in, term_below_in, atom_in, literal_in, renumbered_in, AreClausesIn, instances_in}
use Rattle.derivation_laws.proofs.Rules.{only_in, same_erased, IsKeeping, word_keeping, conclusion_in}
use Rattle.fol_core.specs.Fol.{Fol}
use Rattle.fol_core.specs.Laws.{NamesElements, AllNameElements}
use Rattle.fol_core.specs.Meaning.{Meaning}
use Rattle.fol_core.specs.Occurs.{names_in, names_in_any}
use Rattle.fol_core.specs.Literals.{ClauseTree}
use Rattle.fol_core.specs.Substitutions.{Substitution, substitute, substitute_all}
use Rattle.fol_core.specs.Tree.{Tree, var, elem, app, Trees, none, more}
use Rattle.substitutions.specs.Apart.{Own, instances, interleaved}
use Rattle.substitutions.specs.Bindings.{Binding, by_bindings}
use Rattle.substitutions.specs.Instances.{substitute_clause, followed}
use Rattle.substitutions.specs.Occurring.{has_variable}
use Rattle.substitutions.proofs.Composing.{substitute_variables}

first_of : (a b : Answer) (us vs : List Answer) → a ∷ us ≡ b ∷ vs → a ≡ b
first_of a b us vs h = cc

rest_of : (a b : Answer) (us vs : List Answer) → a ∷ us ≡ b ∷ vs → us ≡ vs
rest_of a b us vs h = cc

module _ (g : Signature) where
  -- each list of several
  abbrev AllAnswersIn : List (List Answer) → Type 0
  AllAnswersIn answers = AllByRecursion (AreAnswersIn g) answers

  answers_both_in : (us bs : List Answer) → AreAnswersIn g us → AreAnswersIn g bs → AreAnswersIn g (us ++ bs)
  answers_both_in [] bs i j = j
  answers_both_in (a ∷ us) bs i j = (i.0, answers_both_in us bs i.1 j)

  added_in : (us : List Answer) (a : Answer) → AreAnswersIn g us → AreTermsIn g a.terms → AreAnswersIn g (added us a)
  added_in us a i j = by (list_any (same_answer a) us)
    where
      by : (b : Bool) → AreAnswersIn g (if b then us else us ++ a ∷ [])
      by true = i
      by false = answers_both_in us (a ∷ []) i (j, tt)

  all_added_in : (us bs : List Answer) → AreAnswersIn g us → AreAnswersIn g bs → AreAnswersIn g (all_added us bs)
  all_added_in us [] i j = i
  all_added_in us (b ∷ bs) i j = all_added_in (added us b) bs (added_in us b i j.0) j.1

  each_once_in : (us : List Answer) → AreAnswersIn g us → AreAnswersIn g (each_once us)
  each_once_in us i = all_added_in [] us tt i

  -- with terms of the signature put in
  answers_put_in_signature : (s : Substitution) → ((x : ℕ) → IsTermIn g (s x)) → (us : List Answer) → AreAnswersIn g us → AreAnswersIn g (substitute_answers s us)
  answers_put_in_signature s h [] i = tt
  answers_put_in_signature s h (a ∷ us) i = (terms_put_in g s h a.terms i.0, answers_put_in_signature s h us i.1)

  numbered_in : (c : ClauseTree) (us : List Answer) → AreAnswersIn g us → AreAnswersIn g (numbered_answers c us)
  numbered_in c us i = answers_put_in_signature (numbering c us) (λ x. tt) us i

  -- instances are in it where those by the erased terms are instances of them
  answers_instance : (s u : Substitution) (us : List Answer) → AreAnswersIn g us → substitute_answers (erased_for g s) us ≡ substitute_answers u (substitute_answers s us) → AreAnswersIn g (substitute_answers s us)
  answers_instance s u [] i h = tt
  answers_instance s u (a ∷ us) i h =
      let left = answer a.goal (substitute_all (erased_for g s) a.terms) in
      let right = answer a.goal (substitute_all u (substitute_all s a.terms)) in
      let lefts = substitute_answers (erased_for g s) us in
      let rights = substitute_answers u (substitute_answers s us) in (
        all_whole g u (substitute_all s a.terms) (terms_put g s a.terms i.0 ∙ ap (λ b. b.terms) (first_of left right lefts rights h)),
        answers_instance s u us i.1 (rest_of left right lefts rights h),
      )

  together_in : (own : Own) → ((k x : ℕ) → IsTermIn g (own k x)) → (answers : List (List Answer)) → AllAnswersIn answers → AreAnswersIn g (together own answers)
  together_in own h [] i = tt
  together_in own h (us ∷ answers) i =
      answers_both_in (substitute_answers (own 0) us) (together (λ k. own (suc k)) answers) (answers_put_in_signature (own 0) (h 0) us i.0) (together_in (λ k. own (suc k)) (λ k. h (suc k)) answers i.1)

  -- a conclusion: with the terms erased that the family puts in, all pairs are still the same
  concluded_in : (r : InferenceRule) → IsLawfulRule r → IsNatural r → IsKeeping g r → (cs : List ClauseTree) (answers : List (List Answer)) (c : ClauseTree) (us : List Answer) → AreAsMany cs answers → IsTrue (r.fits cs)
      → AreClausesIn g cs → AllAnswersIn answers → ConcludesWith r cs answers c us → AreAnswersIn g us
  concluded_in r law natural keeping cs answers c us many fits are their (own, most, is, those) =
      let apart = interleaved (length cs) in
      let ds = instances apart cs in
      let bs = together apart answers in
      let fit = law.kept apart cs fits in
      let by_one = interleaved_apart cs answers many own in
      let s = by_one.0 in
      let same : AreSame (map (pair_put s) (r.pairs ds)) = subst AreSame (ap r.pairs by_one.1 ∙ natural.pairs s ds fit) most.unifies in
      let also : AreSame (map (pair_put (erased_for g s)) (r.pairs ds)) = same_erased g s (r.pairs ds) (keeping.pairs ds fit (instances_in g apart (λ k x. tt) cs are)) same in
      let other : Own = λ k. followed (apart k) (erased_for g s) in
      let covered = most.general other (subst AreSame (sym (ap r.pairs (behind_apart (erased_for g s) apart cs) ∙ natural.pairs (erased_for g s) ds fit)) also) in
      let again : substitute_answers (erased_for g s) bs ≡ substitute_answers covered.0 (substitute_answers s bs) =
      sym (together_behind (erased_for g s) apart answers) ∙ covered.2 ∙ ap (substitute_answers covered.0) by_one.2 in
      let all : AreAnswersIn g (together own answers) = subst (AreAnswersIn g) (sym by_one.2) (answers_instance s covered.0 bs (together_in apart (λ k x. tt) answers their) again) in
      subst (AreAnswersIn g) (sym those) (each_once_in (numbered_answers (r.rest (instances own cs)) (together own answers)) (numbered_in (r.rest (instances own cs)) (together own answers) all))

  -- what is used by a match whose terms stay when they are erased
  joined_in : (general special : Tree) (c : ClauseTree) (us bs made : List Answer) → ((s : Substitution) → substitute s general ≡ special → substitute (erased_for g s) general ≡ special) → AreAnswersIn g us → AreAnswersIn g bs
      → Joins general special c us bs made → AreAnswersIn g made
  joined_in general special c us bs made erases i j (s, match, is) =
      let fresh = fresh_for c us in
      let u = used_by general (erased_for g s) fresh in
      let same : substitute_answers (used_by general s fresh) bs ≡ substitute_answers u bs =
      answers_alike (used_by general s fresh) u bs (λ x h. used_alike general s (erased_for g s) fresh (match ∙ sym (erases s match)) x) in
      subst (AreAnswersIn g) (sym (is ∙ ap (λ vs. each_once (us ++ vs)) same))
      (each_once_in (us ++ substitute_answers u bs) (answers_both_in us (substitute_answers u bs) i (answers_put_in_signature u (λ x. used_in x (has_variable x general) s fresh) bs j)))
    where
      used_in : (x : ℕ) (b : Bool) (s : Substitution) (fresh : ℕ) → IsTermIn g (if b then erased g (s x) else var (x + fresh))
      used_in x true s fresh = erased_in g (s x)
      used_in x false s fresh = tt

  atom_stays : (t : Tree) → IsAtomIn g t → erased_atom g t ≡ t
  atom_stays t i = ap (erased_atom g) (sym (substitute_variables t)) ∙ atom_put g var t i ∙ substitute_variables t

  only_answers_in : (answers : List (List Answer)) → AllAnswersIn answers → AreAnswersIn g (only_answers answers)
  only_answers_in [] i = tt
  only_answers_in (us ∷ []) i = i.0
  only_answers_in (us ∷ vs ∷ answers) i = tt

  brings_in : (w : LaterWord) (c : ClauseTree) (us : List Answer) (ps : List ClauseTree) (answers : List (List Answer)) (made : List Answer) → IsTrue (later_fits w c ps) → IsClauseIn g c → AreClausesIn g ps
      → AreAnswersIn g us → AllAnswersIn answers → Brings w c us ps answers made → AreAnswersIn g made
  brings_in (flipped a) c us ps answers made fits i j k l is = subst (AreAnswersIn g) (sym is) k
  brings_in (merged a) c us ps answers made fits i j k l is = subst (AreAnswersIn g) (sym is) k
  brings_in (reflexive a) c us ps answers made fits i j k l is = subst (AreAnswersIn g) (sym is) k
  brings_in (unit_deleted a n) c us ps answers made fits i j k l is =
      let one = and_parts (is_one_clause ps) (is_unit (only_of ps) && are_opposite c a (only_of ps) 0) fits in
      let two = and_parts (is_unit (only_of ps)) (are_opposite c a (only_of ps) 0) one.1 in
      let places = opposite_places c a (only_of ps) 0 two.1 in
      let unit = atom_at (only_of ps) 0 in
      joined_in unit (atom_at c a) c us (only_answers answers) made
      (λ s match. sym (atom_put g s unit (atom_in g (only_of ps) 0 places.1 (only_in g ps j))) ∙ ap (erased_atom g) match ∙ atom_stays (atom_at c a) (atom_in g c a places.0 i))
      k (only_answers_in answers l) is
  brings_in (rewritten n a path) c us ps answers made fits i j k l is =
      let one = and_parts (is_one_clause ps) (is_unit (only_of ps) && (has_literal true (only_of ps) 0 && (is_rule_equation (atom_at (only_of ps) 0) && (has_place c a && is_there (below (atom_at c a) path))))) fits in
      let two = and_parts (is_unit (only_of ps)) (has_literal true (only_of ps) 0 && (is_rule_equation (atom_at (only_of ps) 0) && (has_place c a && is_there (below (atom_at c a) path)))) one.1 in
      let three = and_parts (has_literal true (only_of ps) 0) (is_rule_equation (atom_at (only_of ps) 0) && (has_place c a && is_there (below (atom_at c a) path))) two.1 in
      let four = and_parts (is_rule_equation (atom_at (only_of ps) 0)) (has_place c a && is_there (below (atom_at c a) path)) three.1 in
      let five = and_parts (has_place c a) (is_there (below (atom_at c a) path)) four.1 in
      let rule = atom_at (only_of ps) 0 in
      let special = term_below (atom_at c a) path in
      joined_in (left_of rule) special c us (only_answers answers) made
      (λ s match. sym (term_put g s (left_of rule) (left_in g rule (literal_in g true (only_of ps) 0 three.0 (only_in g ps j)))) ∙ ap (erased g) match
      ∙ term_stays g special (term_below_in g (atom_at c a) path (atom_in g c a five.0 i)))
      k (only_answers_in answers l) is

  -- lines by their numbers
  both_clause : (content : ContentTree) (c : ClauseTree) (us : List Answer) → content_clause content ≡ Some c → BothAreIn g content us → IsClauseIn g c × AreAnswersIn g us
  both_clause (formula f) c us h i = cc
  both_clause (clause d) c us h i = let same : d ≡ c = cc in (subst (IsClauseIn g) same i.0, i.1)

  parent_in : (ls : List AnsweredLine) (n : ℕ) (c : ClauseTree) → clause_at (plain_lines ls) n ≡ Some c → AnsweredLinesAreIn g ls → IsClauseIn g c × AreAnswersIn g (answers_of_line ls n)
  parent_in [] n c h i = cc
  parent_in (l ∷ ls) n c h i = by (l.line.number == n) h (λ k. parent_in ls n c k i.1)
    where
      by : (b : Bool) → option_and_then (λ l. content_clause l.content) (if b then Some l.line else line_at (plain_lines ls) n) ≡ Some c
          → (clause_at (plain_lines ls) n ≡ Some c → IsClauseIn g c × AreAnswersIn g (answers_of_line ls n))
          → IsClauseIn g c × AreAnswersIn g (option_map_or (λ l. l.answers) (if b then Some l else answered_at ls n) [])
      by true k rest = both_clause l.line.content c l.answers k i.0
      by false k rest = rest k

  parents_in : (ls : List AnsweredLine) (ns : List ℕ) (ps : List ClauseTree) → AreClauses (plain_lines ls) ns ps → AnsweredLinesAreIn g ls → AreClausesIn g ps × AllAnswersIn (answers_at ls ns)
  parents_in ls [] [] are i = (tt, tt)
  parents_in ls [] (c ∷ ps) are i = absurd are
  parents_in ls (n ∷ ns) [] are i = absurd are
  parents_in ls (n ∷ ns) (c ∷ ps) are i =
      let here = parent_in ls n c are.0 i in
      let rest = parents_in ls ns ps are.1 i in
      ((here.0, rest.0), (here.1, rest.1))

  many_parents : (ls : List AnsweredLine) (ns : List ℕ) (ps : List ClauseTree) → AreClauses (plain_lines ls) ns ps → AreAsMany ps (answers_at ls ns)
  many_parents ls [] [] are = tt
  many_parents ls [] (c ∷ ps) are = absurd are
  many_parents ls (n ∷ ns) [] are = absurd are
  many_parents ls (n ∷ ns) (c ∷ ps) are = many_parents ls ns ps are.1

  -- the answers of a line's clause
  abbrev OwnAreIn : ContentTree → List Answer → Type 0
  OwnAreIn (formula f) us = Unit {0}
  OwnAreIn (clause c) us = AreAnswersIn g us

  both_in : (content : ContentTree) (us : List Answer) → ContentIsIn g content → OwnAreIn content us → BothAreIn g content us
  both_in (formula f) us i j = tt
  both_in (clause c) us i j = (i, j)

  same_in : (content : ContentTree) (us : List Answer) (d : ClauseTree) (bs : List Answer) → IsClauseWith content us d bs → AreAnswersIn g bs → OwnAreIn content us
  same_in (formula f) us d bs same i = tt
  same_in (clause c) us d bs same i = subst (AreAnswersIn g) (sym (answers_led c us d bs same)) (answers_put_in_signature (leading d bs c us) (λ x. tt) bs i)

  after_in : (ls : List AnsweredLine) (ws : List LaterWord) (d : ClauseTree) (bs : List Answer) (content : ContentTree) (us : List Answer) → AfterWith ls ws d bs content us → AnsweredLinesAreIn g ls → IsClauseIn g d
      → AreAnswersIn g bs → OwnAreIn content us
  after_in ls [] d bs content us after i j k = same_in content us d bs after k
  after_in ls (w ∷ ws) d bs content us (ps, e, made, are, fits, leads, brings, after) i j k =
      let parents = parents_in ls (later_parents w) ps are i in
      after_in ls ws e made content us after i (lead_in g w d ps e fits j parents.0 leads) (brings_in w d bs ps (answers_at ls (later_parents w)) made fits j parents.0 k parents.1 brings)

  inferred_in : (ls : List AnsweredLine) (w : FirstWord) (n : Inference) → inference_of w ≡ Some n → (ws : List LaterWord) (content : ContentTree) (us : List Answer) → IsInferredWith ls n ws content us → AnsweredLinesAreIn g ls
      → OwnAreIn content us
  inferred_in ls w n is ws content us (ps, d, bs, are, fits, concludes, after) i =
      let laws = word_lawful w n is in
      let parents = parents_in ls n.parents ps are i in
      let answers = answers_at ls n.parents in
      after_in ls ws d bs content us after i
      (conclusion_in g n.rule laws.0 laws.1 (word_keeping g w n is) ps d fits parents.0 (concludes_plain n.rule ps answers d bs concludes))
      (concluded_in n.rule laws.0 laws.1 (word_keeping g w n is) ps answers d bs (many_parents ls n.parents ps are) fits parents.0 parents.1 concludes)

  instance_in : (ls : List AnsweredLine) (n : ℕ) (es : List Binding) → AllByRecursion (λ e. IsTermIn g e.1) es → (ws : List LaterWord) (content : ContentTree) (us : List Answer) → IsInstanceWith ls n es ws content us
      → AnsweredLinesAreIn g ls → OwnAreIn content us
  instance_in ls n es terms ws content us (c, at, after) i =
      let bs = answers_of_line ls n in
      let put = by_bindings es in
      let within = bindings_in g es terms in
      let parent = parent_in ls n c at i in
      after_in ls ws (clause_put_in es c bs) (answers_put_in es c bs) content us after i
      (subst (IsClauseIn g) (sym (numbered_is (substitute_clause put c) (substitute_answers put bs))) (renumbered_in g (substitute_clause put c) (instance_of_clause put within c parent.0)))
      (each_once_in (numbered_answers (substitute_clause put c) (substitute_answers put bs)) (numbered_in (substitute_clause put c) (substitute_answers put bs) (answers_put_in_signature put within bs parent.1)))
    where
      instance_of_clause : (s : Substitution) → ((x : ℕ) → IsTermIn g (s x)) → (c : ClauseTree) → IsClauseIn g c → IsClauseIn g (substitute_clause s c)
      instance_of_clause s h c i = signatures.clause_put_in g s h c i

  input_in : (goal : Bool) (f : Fol) (asks : Option (List ℕ)) (ss : List Asked) (n : ℕ) (content : ContentTree) (us : List Answer) (rows : List AnsweredRow) → IsSome (IsRowWith goal f asks ss n content us) rows
      → AnsweredRowsAreIn g rows → OwnAreIn content us
  input_in goal f asks ss n content us [] is i = absurd is
  input_in goal f asks ss n content us (r ∷ rows) (inl (s, at, said, same)) i = same_in content us r.row.1 (row_answers asks n r.terms) same (by asks)
    where
      by : (asks : Option (List ℕ)) → AreAnswersIn g (row_answers asks n r.terms)
      by None = tt
      by (Some places) = (i.0.1, tt)
  input_in goal f asks ss n content us (r ∷ rows) (inr there) i = input_in goal f asks ss n content us rows there i.1

  stated_in : (goal : Bool) (content : ContentTree) (asks : Option (List ℕ)) (ss : List Asked) (us : List Answer) → IsStatedWith goal content asks ss → OwnAreIn content us
  stated_in goal (formula f) asks ss us is = tt
  stated_in goal (clause c) asks ss us is = absurd is

  lines_push : (ls : List AnsweredLine) (l : AnsweredLine) → AnsweredLinesAreIn g ls → BothAreIn g l.line.content l.answers → AnsweredLinesAreIn g (ls ++ l ∷ [])
  lines_push [] l i here = (here, tt)
  lines_push (k ∷ ls) l i here = (i.0, lines_push ls l i.1 here)

  module _ (ss : List Asked) (rows : List AnsweredRow) (inputs : AnsweredRowsAreIn g rows) where
    line_in : (ls : List AnsweredLine) (first : FirstWord) (ws : List LaterWord) (content : ContentTree) (asks : Option (List ℕ)) (us : List Answer) → PutsIn g first → IsLineWith ss rows ls first ws content asks us
        → AnsweredLinesAreIn g ls → OwnAreIn content us
    line_in ls assumed ws content asks us put h i = stated_in false content asks ss us h.0
    line_in ls wanted ws content asks us put h i = stated_in true content asks ss us h.0
    line_in ls (clausified n) ws content asks us put ((f, own, stated, some), alone) i = input_in false f own ss n content us rows some inputs
    line_in ls (denied n) ws content asks us put ((f, own, stated, some), alone) i = input_in true f own ss n content us rows some inputs
    line_in ls (copied n) ws content asks us put h i = inferred_in ls (copied n) (copy_inference n) refl ws content us h i
    line_in ls (resolved n k) ws content asks us put h i = inferred_in ls (resolved n k) (clash_inference n k) refl ws content us h i
    line_in ls (factored n a b) ws content asks us put h i = inferred_in ls (factored n a b) (factor_inference n a b) refl ws content us h i
    line_in ls (paramodulated n a side m b path) ws content asks us put h i = inferred_in ls (paramodulated n a side m b path) (para_inference n a side m b path) refl ws content us h i
    line_in ls (xx_resolved n a) ws content asks us put h i = inferred_in ls (xx_resolved n a) (xx_inference n a) refl ws content us h i
    line_in ls (instantiated n es) ws content asks us put h i = instance_in ls n es put ws content us h i

    lines_in : (earlier : List AnsweredLine) (last : Option ℕ) (ls : List AnsweredLine) → LinesPutIn g (plain_lines ls) → LinesAreIn g (plain_lines ls) → AreLinesWith ss rows earlier last ls → AnsweredLinesAreIn g earlier
        → AnsweredLinesAreIn g ls
    lines_in earlier last [] put plain are i = tt
    lines_in earlier last (l ∷ ls) put plain are i =
        let here = both_in l.line.content l.answers plain.0 (line_in earlier l.line.first l.line.later l.line.content l.asks l.answers put.0 are.1 i) in
        (here, lines_in (earlier ++ l ∷ []) (Some l.line.number) ls put.1 plain.1 are.2 (lines_push earlier l i here))

  plain_rows_in : (rows : List AnsweredRow) → AnsweredRowsAreIn g rows → RowsAreIn g (plain_rows rows)
  plain_rows_in [] i = tt
  plain_rows_in (r ∷ rows) i = (i.0.0, plain_rows_in rows i.1)

pub answers_stay : AnsweredLinesStayIn
answers_stay g ss rows ls inputs put are =
    lines_in g ss rows inputs [] None ls put (stay_in g (all_said_in ss) (plain_rows rows) (plain_lines ls) (plain_rows_in g rows inputs) put (lines_plain ss rows [] None ls are)) are tt

-- the signature that has no element
abbrev without_elements : Signature
without_elements = record { elements = λ k. false; functions = λ f n. true; relations = λ r n. true }

mutual
  term_without : (t : Tree) → ((k : ℕ) → names_in k t ≡ false) → IsTermIn without_elements t
  term_without (var x) h = tt
  term_without (elem k) h = sym (h k) ∙ eq-eqb k k refl
  term_without (app f ts) h = (refl, terms_without ts h)

  terms_without : (ts : Trees) → ((k : ℕ) → names_in_any k ts ≡ false) → AreTermsIn without_elements ts
  terms_without none h = tt
  terms_without (more t ts) h = (term_without t (λ k. (or_parts (names_in k t) (names_in_any k ts) (h k)).0), terms_without ts (λ k. (or_parts (names_in k t) (names_in_any k ts) (h k)).1))

mutual
  without_term : (m : Meaning) (t : Tree) → IsTermIn without_elements t → NamesElements m t
  without_term m (var x) i = tt
  without_term m (elem k) i = absurd (false≢true i)
  without_term m (app f ts) i = without_terms m ts i.1

  without_terms : (m : Meaning) (ts : Trees) → AreTermsIn without_elements ts → AllNameElements m ts
  without_terms m none i = tt
  without_terms m (more t ts) i = (without_term m t i.0, without_terms m ts i.1)

atom_without : (t : Tree) → ((k : ℕ) → names_in k t ≡ false) → IsAtomIn without_elements t
atom_without (var x) h = λ f n. refl
atom_without (elem k) h = sym (h k) ∙ eq-eqb k k refl
atom_without (app r ts) h = (refl, terms_without ts h)

without_atom : (m : Meaning) (t : Tree) → IsAtomIn without_elements t → NamesElements m t
without_atom m (var x) i = tt
without_atom m (elem k) i = absurd (false≢true i)
without_atom m (app r ts) i = without_terms m ts i.1

clause_without : (c : ClauseTree) → ((k : ℕ) → NamesNot k c) → IsClauseIn without_elements c
clause_without [] h = tt
clause_without (l ∷ c) h = (atom_without l.atom (λ k. (h k).0), clause_without c (λ k. (h k).1))

rows_without : (rows : List AnsweredRow) → ((k : ℕ) → RowsNameNot k (plain_rows rows)) → ((k : ℕ) → RowTermsNameNot k rows) → AnsweredRowsAreIn without_elements rows
rows_without [] h j = tt
rows_without (r ∷ rows) h j = ((clause_without r.row.1 (λ k. (h k).0), terms_without r.terms (λ k. (j k).0)), rows_without rows (λ k. (h k).1) (λ k. (j k).1))

bindings_without : (es : List Binding) → ((k : ℕ) → BindingsNameNot k es) → AllByRecursion (λ e. IsTermIn without_elements e.1) es
bindings_without [] h = tt
bindings_without (e ∷ es) h = (term_without e.1 (λ k. (h k).0), bindings_without es (λ k. (h k).1))

first_without : (w : FirstWord) → ((k : ℕ) → FirstNamesNot k w) → PutsIn without_elements w
first_without assumed h = tt
first_without wanted h = tt
first_without (clausified n) h = tt
first_without (denied n) h = tt
first_without (copied n) h = tt
first_without (resolved n ss) h = tt
first_without (factored n a b) h = tt
first_without (paramodulated n a side m b path) h = tt
first_without (xx_resolved n a) h = tt
first_without (instantiated n es) h = bindings_without es h

firsts_without : (ls : List LineTree) → ((k : ℕ) → FirstsNameNot k ls) → LinesPutIn without_elements ls
firsts_without [] h = tt
firsts_without (l ∷ ls) h = (first_without l.first (λ k. (h k).0), firsts_without ls (λ k. (h k).1))

module _ (m : Meaning) where
  clause_within : (c : ClauseTree) → IsClauseIn without_elements c → NamesWithin m c
  clause_within [] i = tt
  clause_within (l ∷ c) i = (without_atom m l.atom i.0, clause_within c i.1)

  answers_within : (us : List Answer) → AreAnswersIn without_elements us → AnswersNameWithin m us
  answers_within [] i = tt
  answers_within (a ∷ us) i = (without_terms m a.terms i.0, answers_within us i.1)

  both_within : (content : ContentTree) (us : List Answer) → BothAreIn without_elements content us → BothNameWithin m content us
  both_within (formula f) us i = tt
  both_within (clause c) us i = (clause_within c i.0, answers_within us i.1)

  lines_within : (ls : List AnsweredLine) → AnsweredLinesAreIn without_elements ls → LinesNameWithin m ls
  lines_within [] i = tt
  lines_within (l ∷ ls) i = (both_within l.line.content l.answers i.0, lines_within ls i.1)

-- lines without elements
pub answers_name_within : AnsweredLinesNameWithin
answers_name_within m ss rows ls clauses terms firsts are =
    lines_within m ls (answers_stay without_elements ss rows ls (rows_without rows clauses terms) (firsts_without (plain_lines ls) firsts) are)
