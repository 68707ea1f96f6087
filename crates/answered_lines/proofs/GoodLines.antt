-- Each clause line of a derivation with answers is good; so of the last line's answers some is true, or a goal whose line doesn't ask.
use Rattle.std.proofs.Common.{◌≡◌, inl, inr, ℕ, Bool, true, false, ◌==◌, if◌then◌else◌, IsTrue, List, [], ◌∷◌, ◌++◌, map, slice_index, Option, Some, None, refl, sym, ap, ◌∙◌, subst}
use Rattle.std.specs.Option.{option_and_then, option_map_or}
use Rattle.std.proofs.lemmas.Bool.{false≢true}
use Rattle.answers.specs.AnswerTrees.{Answer, substitute_answers, whole}
use Rattle.answered_lines.specs.Answering.{IsTrueWith, NoneIsTrue, NoUnaskedIsTrue}
use Rattle.answered_lines.specs.Lines.{Asked, AnsweredRow, AnsweredLine, plain_lines, answered_at, answers_of_line, answers_at, IsClauseWith, AfterWith, IsInferredWith, clause_put_in, answers_put_in, IsInstanceWith, IsSome, HasItems, IsStatedWith, asked_at, row_answers, IsRowWith, IsFormulaWith, IsLineWith, AreLinesWith, last_answers}
use Rattle.answered_lines.specs.Shows.{RowHolds, RowsHold, AnswersNameWithin, BothNameWithin, LinesNameWithin, AnswersAreSound}
use Rattle.answered_lines.proofs.AnswerInstances.{leading, clause_led, answers_led}
use Rattle.answered_lines.proofs.Good.{AllFail, fail_put, IsGood, good_put, good_same}
use Rattle.answered_lines.proofs.GoodSteps.{AllGood, good_numbered, concluded_good, word_good}
use Rattle.derivation.specs.Later.{LaterWord, later_parents}
use Rattle.derivation.specs.Lines.{FirstWord, assumed, wanted, clausified, denied, copied, resolved, factored, paramodulated, xx_resolved, instantiated, Inference, copy_inference, clash_inference, factor_inference, para_inference, xx_inference, ContentTree, formula, clause, line_at, clause_at, content_clause, AreClauses, is_empty_clause, ends_empty}
use Rattle.derivation.proofs.Lawful.{IsLawfulRule, copy_lawful, clash_lawful, factor_lawful, xx_lawful, para_lawful}
use Rattle.derivation.proofs.Values.{vals_are, clause_is, atoms_put}
use Rattle.fol_core.specs.Fol.{Fol}
use Rattle.fol_core.specs.Literals.{ClauseTree, is_true_clause}
use Rattle.fol_core.specs.Meaning.{Meaning, IsLawful}
use Rattle.fol_core.specs.Renumbered.{clause_variables, place_in}
use Rattle.fol_core.specs.Truth.{Assignment, IsWithin, values_of}
use Rattle.fol_problem.specs.Stated.{IsTrueIn}
use Rattle.substitutions.specs.Atoms.{AreAtoms}
use Rattle.substitutions.specs.Bindings.{Binding, by_bindings}
use Rattle.substitutions.specs.Instances.{substitute_clause, valued}
use Rattle.substitutions.proofs.Truth.{instance_clause}

-- a line that is found among lines is found where others come behind
found_on : (ls ks : List AnsweredLine) (n : ℕ) (l : AnsweredLine) → answered_at ls n ≡ Some l → answered_at (ls ++ ks) n ≡ Some l
found_on [] ks n l h = cc
found_on (k ∷ ls) ks n l h = by (k.line.number == n) h (found_on ls ks n l)
  where
    by : (b : Bool) → (if b then Some k else answered_at ls n) ≡ Some l → (answered_at ls n ≡ Some l → answered_at (ls ++ ks) n ≡ Some l) → (if b then Some k else answered_at (ls ++ ks) n) ≡ Some l
    by true h rest = h
    by false h rest = rest h

one_behind : (ls : List AnsweredLine) (l : AnsweredLine) (ks : List AnsweredLine) → (ls ++ l ∷ []) ++ ks ≡ ls ++ l ∷ ks
one_behind [] l ks = refl
one_behind (k ∷ ls) l ks = ap (λ r. k ∷ r) (one_behind ls l ks)

module _ (m : Meaning) (lawful : IsLawful m) (all : List AnsweredLine) where
  -- the goal of the line of this number, if it asks, isn't true with these elements
  abbrev Fails : ℕ → List ℕ → Type 0
  Fails n vs = (f : Fol) (places : List ℕ) → IsFormulaWith all n true f (Some places) → ¬ IsTrueWith m f places vs

  abbrev ContentGood : ContentTree → List Answer → Type 0
  ContentGood (formula f) us = Unit {0}
  ContentGood (clause c) us = IsGood m lawful Fails c us

module _ (m : Meaning) (lawful : IsLawful m) (all : List AnsweredLine) where
  abbrev LinesGood : List AnsweredLine → Type 0
  LinesGood [] = Unit {0}
  LinesGood (l ∷ ls) = ContentGood m lawful all l.line.content l.answers × LinesGood ls

module _ (m : Meaning) (lawful : IsLawful m) (all : List AnsweredLine) where
  abbrev Fail : ℕ → List ℕ → Type 0
  Fail = Fails m lawful all

  lines_push : (ls : List AnsweredLine) (l : AnsweredLine) → LinesGood m lawful all ls → ContentGood m lawful all l.line.content l.answers → LinesGood m lawful all (ls ++ l ∷ [])
  lines_push [] l good here = (here, tt)
  lines_push (k ∷ ls) l good here = (good.0, lines_push ls l good.1 here)

  content_good : (content : ContentTree) (c : ClauseTree) (us : List Answer) → content_clause content ≡ Some c → ContentGood m lawful all content us → IsGood m lawful Fail c us
  content_good (formula f) c us h good = cc
  content_good (clause d) c us h good = let same : d ≡ c = cc in subst (λ e. IsGood m lawful Fail e us) same good

  clause_good : (ls : List AnsweredLine) (n : ℕ) (c : ClauseTree) → clause_at (plain_lines ls) n ≡ Some c → LinesGood m lawful all ls → IsGood m lawful Fail c (answers_of_line ls n)
  clause_good [] n c h good = cc
  clause_good (l ∷ ls) n c h good = by (l.line.number == n) h (λ k. clause_good ls n c k good.1)
    where
      by : (b : Bool) → option_and_then (λ l. content_clause l.content) (if b then Some l.line else line_at (plain_lines ls) n) ≡ Some c
          → (clause_at (plain_lines ls) n ≡ Some c → IsGood m lawful Fail c (answers_of_line ls n))
          → IsGood m lawful Fail c (option_map_or (λ l. l.answers) (if b then Some l else answered_at ls n) [])
      by true k rest = content_good l.line.content c l.answers k good.0
      by false k rest = rest k

  parents_good : (ls : List AnsweredLine) (ns : List ℕ) (ps : List ClauseTree) → AreClauses (plain_lines ls) ns ps → LinesGood m lawful all ls → AllGood m lawful Fail ps (answers_at ls ns)
  parents_good ls [] [] are good = tt
  parents_good ls [] (c ∷ ps) are good = absurd are
  parents_good ls (n ∷ ns) [] are good = absurd are
  parents_good ls (n ∷ ns) (c ∷ ps) are good = (clause_good ls n c are.0 good, parents_good ls ns ps are.1 good)

  after_good : (ls : List AnsweredLine) (ws : List LaterWord) (d : ClauseTree) (bs : List Answer) (content : ContentTree) (us : List Answer) → AfterWith ls ws d bs content us
      → LinesGood m lawful all ls → IsGood m lawful Fail d bs → ContentGood m lawful all content us
  after_good ls [] d bs (formula f) us after lines good = tt
  after_good ls [] d bs (clause c) us after lines good = good_same m lawful Fail c us d bs after good
  after_good ls (w ∷ ws) d bs content us (ps, e, made, are, fits, leads, brings, after) lines good =
      after_good ls ws e made content us after lines
      (word_good m lawful Fail w d e bs made ps (answers_at ls (later_parents w)) fits leads brings good (parents_good ls (later_parents w) ps are lines))

  inferred_good : (ls : List AnsweredLine) (i : Inference) (ws : List LaterWord) (content : ContentTree) (us : List Answer) → IsLawfulRule i.rule → IsInferredWith ls i ws content us
      → LinesGood m lawful all ls → ContentGood m lawful all content us
  inferred_good ls i ws content us law (ps, d, bs, are, fits, concludes, after) lines =
      after_good ls ws d bs content us after lines (concluded_good m lawful Fail i.rule law ps (answers_at ls i.parents) d bs fits concludes (parents_good ls i.parents ps are lines))

  instantiated_good : (ls : List AnsweredLine) (n : ℕ) (es : List Binding) (ws : List LaterWord) (content : ContentTree) (us : List Answer) → IsInstanceWith ls n es ws content us
      → LinesGood m lawful all ls → ContentGood m lawful all content us
  instantiated_good ls n es ws content us (c, at, after) lines =
      let bs = answers_of_line ls n in
      let put = by_bindings es in
      after_good ls ws (clause_put_in es c bs) (answers_put_in es c bs) content us after lines
      (good_numbered m lawful Fail (substitute_clause put c) (substitute_answers put bs) (good_put m lawful Fail put c bs (clause_good ls n c at lines)))

module _ (m : Meaning) (lawful : IsLawful m) (all : List AnsweredLine) where
  -- where each element that is named is within, values are as they are told of
  abbrev FailTold : Assignment → List Answer → Type 0
  FailTold e [] = Unit {0}
  FailTold e (a ∷ us) = Fails m lawful all a.goal (values_of m e a.terms) × FailTold e us

module _ (m : Meaning) (lawful : IsLawful m) (all : List AnsweredLine) where
  abbrev Failing : ℕ → List ℕ → Type 0
  Failing = Fails m lawful all

  told : (e : Assignment) (us : List Answer) → AnswersNameWithin m us → AllFail m lawful Failing e us → FailTold m lawful all e us
  told e [] names h = tt
  told e (a ∷ us) names h = (subst (Failing a.goal) (vals_are m lawful e a.terms names.0) h.0, told e us names.1 h.1)

  untrue_fail : (e : Assignment) (us : List Answer) → AnswersNameWithin m us → NoneIsTrue m e all us → AllFail m lawful Failing e us
  untrue_fail e [] names h = tt
  untrue_fail e (a ∷ us) names h =
      (subst (Failing a.goal) (sym (vals_are m lawful e a.terms names.0)) (λ f places stated holds. h.0 (f, places, stated, holds)), untrue_fail e us names.1 h.1)

  -- an input clause, but for the numbers of variables
  row_good : (content : ContentTree) (us : List Answer) (d : ClauseTree) (bs : List Answer) → IsClauseWith content us d bs → BothNameWithin m content us → AnswersNameWithin m bs → AreAtoms d
      → ((e : Assignment) → IsWithin m e → FailTold m lawful all e bs → IsTrue (is_true_clause m e d)) → ContentGood m lawful all content us
  row_good (formula f) us d bs same names named atoms holds = tt
  row_good (clause c) us d bs same names named atoms holds =
      let s = leading d bs c us in (
        λ e w fail.
            clause_is m lawful e c names.0 ∙ ap (is_true_clause m e) (clause_led c us d bs same) ∙ instance_clause m e s d atoms
            ∙ holds (valued m e s) (λ x. w (slice_index (clause_variables (whole c us)) (place_in (clause_variables (whole d bs)) x)))
            (told (valued m e s) bs named (fail_put m lawful Failing e s bs (subst (AllFail m lawful Failing e) (answers_led c us d bs same) fail))),
        subst AreAtoms (sym (clause_led c us d bs same)) (atoms_put s d atoms),
      )

  some_row : (P : AnsweredRow → Type 0) (A : Type 0) (ss : List Asked) (rows : List AnsweredRow) → RowsHold m ss rows → IsSome P rows
      → ((r : AnsweredRow) → ((s : Asked) → asked_at ss r.row.0 ≡ Some s → RowHolds m s r) → P r → A) → A
  some_row P A ss [] holds is h = absurd is
  some_row P A ss (r ∷ rows) holds (inl here) h = h r holds.0 here
  some_row P A ss (r ∷ rows) holds (inr there) h = some_row P A ss rows holds.1 there h

  -- of a formula that isn't a goal, or of a goal's line that asks for nothing
  other_row : (f : Fol) (ss : List Asked) (n : ℕ) (content : ContentTree) (us : List Answer) (r : AnsweredRow) → BothNameWithin m content us
      → ((s : Asked) → asked_at ss r.row.0 ≡ Some s → RowHolds m s r) → IsRowWith false f None ss n content us r → ContentGood m lawful all content us
  other_row f ss n content us r names each (s, at, said, is) = let hold = each s at in row_good content us r.row.1 [] is names tt hold.atoms (λ e w fail. hold.other said.0 e w)

  denied_row : (f : Fol) (ss : List Asked) (n : ℕ) (content : ContentTree) (us : List Answer) (r : AnsweredRow) → BothNameWithin m content us → ¬ IsTrueIn m f
      → ((s : Asked) → asked_at ss r.row.0 ≡ Some s → RowHolds m s r) → IsRowWith true f None ss n content us r → ContentGood m lawful all content us
  denied_row f ss n content us r names untrue each (s, at, said, is) =
      let hold = each s at in row_good content us r.row.1 [] is names tt hold.atoms (λ e w fail. hold.denied said.0 (subst (λ g. ¬ IsTrueIn m g) (sym said.1) untrue) e w)

  -- and of one that asks
  asked_row : (f : Fol) (places : List ℕ) (ss : List Asked) (n : ℕ) (content : ContentTree) (us : List Answer) (r : AnsweredRow) → BothNameWithin m content us → IsFormulaWith all n true f (Some places)
      → ((s : Asked) → asked_at ss r.row.0 ≡ Some s → RowHolds m s r) → IsRowWith true f (Some places) ss n content us r → ContentGood m lawful all content us
  asked_row f places ss n content us r names stated each (s, at, said, is) =
      let hold = each s at in
      row_good content us r.row.1 (row_answers (Some places) n r.terms) is names (hold.terms, tt) hold.atoms
      (λ e w fail. hold.unanswered said.0.0 (subst HasItems (sym said.1) said.2) e w (λ holds. fail.0 f places stated
      (subst (λ ws. IsTrueWith m f ws (values_of m e r.terms)) said.1 (subst (λ g. IsTrueWith m g s.places (values_of m e r.terms)) said.0.1 holds))))

  stated_later : (ls ks : List AnsweredLine) → ls ++ ks ≡ all → (n : ℕ) (goal : Bool) (f : Fol) (asks : Option (List ℕ)) → IsFormulaWith ls n goal f asks → IsFormulaWith all n goal f asks
  stated_later ls ks split n goal f asks (l, at, is, first, own) = (l, subst (λ xs. answered_at xs n ≡ Some l) split (found_on ls ks n l at), is, first, own)

  denied_good : (asks : Option (List ℕ)) (f : Fol) (ss : List Asked) (rows : List AnsweredRow) (n : ℕ) (content : ContentTree) (us : List Answer) → BothNameWithin m content us → RowsHold m ss rows
      → NoUnaskedIsTrue m all → IsFormulaWith all n true f asks → IsSome (IsRowWith true f asks ss n content us) rows → ContentGood m lawful all content us
  denied_good None f ss rows n content us names holds unasked stated some =
      some_row (IsRowWith true f None ss n content us) (ContentGood m lawful all content us) ss rows holds some (λ r each row. denied_row f ss n content us r names (unasked n f stated) each row)
  denied_good (Some places) f ss rows n content us names holds unasked stated some =
      some_row (IsRowWith true f (Some places) ss n content us) (ContentGood m lawful all content us) ss rows holds some (λ r each row. asked_row f places ss n content us r names stated each row)

  stated_good : (goal : Bool) (content : ContentTree) (asks : Option (List ℕ)) (ss : List Asked) (us : List Answer) → IsStatedWith goal content asks ss → ContentGood m lawful all content us
  stated_good goal (formula f) asks ss us is = tt
  stated_good goal (clause c) asks ss us is = absurd is

  line_good : (ss : List Asked) (rows : List AnsweredRow) (ls ks : List AnsweredLine) → ls ++ ks ≡ all → (first : FirstWord) (ws : List LaterWord) (content : ContentTree) (asks : Option (List ℕ)) (us : List Answer)
      → IsLineWith ss rows ls first ws content asks us → BothNameWithin m content us → RowsHold m ss rows → NoUnaskedIsTrue m all → LinesGood m lawful all ls → ContentGood m lawful all content us
  line_good ss rows ls ks split assumed ws content asks us is names holds unasked good = stated_good false content asks ss us is.0
  line_good ss rows ls ks split wanted ws content asks us is names holds unasked good = stated_good true content asks ss us is.0
  line_good ss rows ls ks split (clausified n) ws content asks us ((f, own, stated, some), alone) names holds unasked good =
      some_row (IsRowWith false f own ss n content us) (ContentGood m lawful all content us) ss rows holds some
      (λ r each row. other_row f ss n content us r names each (subst (λ o. IsRowWith false f o ss n content us r) (sym stated.4) row))
  line_good ss rows ls ks split (denied n) ws content asks us ((f, own, stated, some), alone) names holds unasked good =
      denied_good own f ss rows n content us names holds unasked (stated_later ls ks split n true f own stated) some
  line_good ss rows ls ks split (copied n) ws content asks us is names holds unasked good = inferred_good m lawful all ls (copy_inference n) ws content us copy_lawful is good
  line_good ss rows ls ks split (resolved n k) ws content asks us is names holds unasked good =
      inferred_good m lawful all ls (clash_inference n k) ws content us (clash_lawful (map (λ s. (s.place, s.literal)) k)) is good
  line_good ss rows ls ks split (factored n a b) ws content asks us is names holds unasked good = inferred_good m lawful all ls (factor_inference n a b) ws content us (factor_lawful a b) is good
  line_good ss rows ls ks split (paramodulated n a side k b path) ws content asks us is names holds unasked good =
      inferred_good m lawful all ls (para_inference n a side k b path) ws content us (para_lawful a side b path) is good
  line_good ss rows ls ks split (xx_resolved n a) ws content asks us is names holds unasked good = inferred_good m lawful all ls (xx_inference n a) ws content us (xx_lawful a) is good
  line_good ss rows ls ks split (instantiated n es) ws content asks us is names holds unasked good = instantiated_good m lawful all ls n es ws content us is good

  empty_false : (e : Assignment) → IsWithin m e → (content : ContentTree) (us : List Answer) → BothNameWithin m content us → ContentGood m lawful all content us → NoneIsTrue m e all us
      → IsTrue (is_empty_clause content) → ⊥
  empty_false e w (formula f) us names good untrue h = false≢true h
  empty_false e w (clause []) us names good untrue h = false≢true (good.0 e w (untrue_fail e us names.1 untrue))
  empty_false e w (clause (l ∷ c)) us names good untrue h = false≢true h

  -- behind good lines there is no way to the empty clause with answers of which none is true
  no_way : (ss : List Asked) (rows : List AnsweredRow) (earlier ls : List AnsweredLine) → earlier ++ ls ≡ all → (last : Option ℕ) → AreLinesWith ss rows earlier last ls → LinesNameWithin m ls
      → RowsHold m ss rows → NoUnaskedIsTrue m all → LinesGood m lawful all earlier → (e : Assignment) → IsWithin m e → NoneIsTrue m e all (last_answers ls) → IsTrue (ends_empty (plain_lines ls)) → ⊥
  no_way ss rows earlier [] split last are names holds unasked good e w untrue ends = false≢true ends
  no_way ss rows earlier (k ∷ []) split last are names holds unasked good e w untrue ends =
      empty_false e w k.line.content k.answers names.0
      (line_good ss rows earlier (k ∷ []) split k.line.first k.line.later k.line.content k.asks k.answers are.1 names.0 holds unasked good)
      untrue ends
  no_way ss rows earlier (k ∷ j ∷ ls) split last are names holds unasked good e w untrue ends =
      no_way ss rows (earlier ++ k ∷ []) (j ∷ ls) (one_behind earlier k (j ∷ ls) ∙ split) (Some k.line.number) are.2 names.1 holds unasked
      (lines_push m lawful all earlier k good (line_good ss rows earlier (k ∷ j ∷ ls) split k.line.first k.line.later k.line.content k.asks k.answers are.1 names.0 holds unasked good)) e w untrue ends

pub answers_sound : (m : Meaning) → IsLawful m → AnswersAreSound m
answers_sound m lawful ss rows ls holds names is e w none = no_way m lawful ls ss rows [] ls refl None is.0 names holds none.1 tt e w none.0 is.1
