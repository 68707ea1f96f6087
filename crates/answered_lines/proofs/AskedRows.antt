-- The clauses of what is stated, with the terms of their answers, hold; so refutations show answers.
use Rattle.std.proofs.Common.{◌≡◌, ℕ, ◌+◌, ◌-◌, true, false, if◌then◌else◌, IsTrue, List, [], ◌∷◌, ◌++◌, map, length, Some, unwrap_or, refl, sym, ap, ap₂, ◌∙◌, subst, arith}
use Rattle.std.proofs.lemmas.Bool.{and_parts, ne_eqb, false≢true, true≢false}
use Rattle.answers.specs.AnswerTrees.{answer, whole}
use Rattle.answers.proofs.Prefix.{numbered_is}
use Rattle.answered_lines.specs.Answering.{IsTrueWith}
use Rattle.answered_lines.specs.Lines.{Asked, asked, with_asks, answered_row, with_terms, HasItems, asked_at}
use Rattle.answered_lines.specs.Shows.{RowHolds, RowsHold, UnansweredClausesFollow, AreLiveAsks, AreTrueButGoals, RowsFollow, AnswersAreSound, RefutationsShowAnswers}
use Rattle.std.specs.List.{AllByRecursion}
use Rattle.answered_lines.specs.Stays.{RowTermsNameNot, AskedTermsNameNothing}
use Rattle.fol_core.specs.Occurs.{names_in_any}
use Rattle.clausify.specs.Asked.{answer_terms_in_table, asked_variables, asked_terms, answer_terms, first_ask, other_asks, answer_terms_from}
use Rattle.clausify.specs.Clausal.{clauses_in}
use Rattle.clausify.specs.Forms.{nnf_of}
use Rattle.clausify.specs.Input.{ClauseRow, form, is_taken, rows_from, axioms_from, skolem_numbers, clauses_in_table}
use Rattle.clausify.specs.Skolem.{somes, skolem_axioms}
use Rattle.clausify.proofs.Claims.{picks_left, picks_right}
use Rattle.clausify.proofs.Clauses.{all_true}
use Rattle.clausify.proofs.WholeLaws.{AllTrue, role_follows}
use Rattle.derivation.specs.Lines.{is_goal}
use Rattle.derivation.proofs.RuleSound.{AllAtoms}
use Rattle.derivation.proofs.Values.{atoms_put}
use Rattle.derivation_laws.proofs.RowAtoms.{clause_atoms}
use Rattle.fol_core.specs.Bound.{BindsOnce, HasSymbolsBelow}
use Rattle.fol_core.specs.Fol.{Fol}
use Rattle.fol_core.specs.Free.{free_vars_of, closed_over}
use Rattle.fol_core.specs.Laws.{AllNameElements}
use Rattle.fol_core.specs.Literals.{ClauseTree, equality, is_true_clause}
use Rattle.fol_core.specs.Meaning.{Meaning, IsLawful}
use Rattle.fol_core.specs.Renumbered.{clause_variables, place_in, by_place, renumbered}
use Rattle.fol_core.specs.SkolemAxioms.{PicksWitnesses}
use Rattle.fol_core.specs.Substitutions.{substitute_all}
use Rattle.fol_core.specs.Tree.{Trees, var, trees_of}
use Rattle.fol_core.specs.Truth.{Assignment, IsWithin, values_of}
use Rattle.fol_problem.specs.Asks.{IsLiveOr}
use Rattle.fol_problem.specs.Stated.{Said, AreWellFormed, IsAsRoled, IsTrueIn}
use Rattle.fol_problem.specs.declared.problem.Role.{Role}
use Rattle.fol_problem.specs.declared.problem.Role.TheVariants.{Assumption, Usable, Demodulator, Goal}
use Rattle.fol_problem.proofs.Soundness.{sound_below}
use Rattle.substitutions.proofs.Numbering.{renumbered_true, renamed_clause}

-- variables by their places have the elements of these places
values_placed : (m : Meaning) (e : Assignment) (xs vs : List ℕ) → values_of m e (substitute_all (by_place xs) (trees_of (map var vs))) ≡ map (λ x. e (place_in xs x)) vs
values_placed m e xs [] = refl
values_placed m e xs (v ∷ vs) = ap (λ ns. e (place_in xs v) ∷ ns) (values_placed m e xs vs)

-- and name no element
placed_name : (m : Meaning) (xs vs : List ℕ) → AllNameElements m (substitute_all (by_place xs) (trees_of (map var vs)))
placed_name m xs [] = tt
placed_name m xs (v ∷ vs) = (tt, placed_name m xs vs)

live_closed : (f : Fol) (places : List ℕ) → HasItems places → IsLiveOr f places → free_vars_of f ≡ []
live_closed f [] some live = absurd some
live_closed f (k ∷ ks) some live = live.closed

-- a formula that isn't a goal has to be true
other_roled : (m : Meaning) (role : Role) (f : Fol) → is_goal role ≡ false → IsTrueIn m f → IsAsRoled m role f
other_roled m Assumption f other holds = holds
other_roled m Usable f other holds = holds
other_roled m Demodulator f other holds = holds
other_roled m Goal f other holds = absurd (true≢false other)

-- and a goal false
goal_roled : (m : Meaning) (role : Role) (f : Fol) → is_goal role ≡ true → ¬ IsTrueIn m f → IsAsRoled m role f
goal_roled m Assumption f goal untrue = absurd (false≢true goal)
goal_roled m Usable f goal untrue = absurd (false≢true goal)
goal_roled m Demodulator f goal untrue = absurd (false≢true goal)
goal_roled m Goal f goal untrue = untrue

goal_denied : (role : Role) → is_goal role ≡ true → is_taken role ≡ false
goal_denied Assumption goal = absurd (false≢true goal)
goal_denied Usable goal = absurd (false≢true goal)
goal_denied Demodulator goal = absurd (false≢true goal)
goal_denied Goal goal = refl

module _ (m : Meaning) (lawful : IsLawful m) where
  -- what holds of all clauses of a formula
  record AreClausesOf (s : Asked) (cs : List ClauseTree) : Type 0 where
    atoms : AllAtoms cs
    other : is_goal s.said.role ≡ false → AllTrue m cs
    denied : is_goal s.said.role ≡ true → ¬ IsTrueIn m s.said.formula → AllTrue m cs
    unanswered : is_goal s.said.role ≡ true → HasItems s.places → (e : Assignment) → IsWithin m e
        → ¬ IsTrueWith m s.said.formula s.places (map e (asked_variables s.said.formula s.places)) → all_true m e cs ≡ true

  first_true : (c : ClauseTree) (cs : List ClauseTree) → AllTrue m (c ∷ cs) → (e : Assignment) → IsWithin m e → IsTrue (is_true_clause m e c)
  first_true c cs all e w = (and_parts (is_true_clause m e c) (all_true m e cs) (all e w)).0

  others_true : (c : ClauseTree) (cs : List ClauseTree) → AllTrue m (c ∷ cs) → AllTrue m cs
  others_true c cs all e w = (and_parts (is_true_clause m e c) (all_true m e cs) (all e w)).1

  first_holds : (s : Asked) (n : ℕ) (c : ClauseTree) (cs : List ClauseTree) → AreClausesOf s (c ∷ cs) → RowHolds m s (answered_row (n, renumbered c) (answer_terms s.said.formula s.places c))
  first_holds s n c cs all =
      let f = s.said.formula in
      let us = answer 0 (asked_terms f s.places) ∷ [] in
      let xs = clause_variables (whole c us) in
      record {
        atoms = atoms_put (by_place (clause_variables c)) c all.atoms.0;
        terms = placed_name m xs (asked_variables f s.places);
        other = λ role. renumbered_true m c (first_true c cs (all.other role));
        denied = λ role untrue. renumbered_true m c (first_true c cs (all.denied role untrue));
        unanswered = λ role some e w untrue.
            let d : Assignment = λ x. e (place_in xs x) in
            ap (is_true_clause m e) (sym (numbered_is c us)) ∙ renamed_clause m e (place_in xs) c
            ∙ (and_parts (is_true_clause m d c) (all_true m d cs)
            (all.unanswered role some d (λ x. w (place_in xs x)) (subst (λ vs. ¬ IsTrueWith m f s.places vs) (values_placed m e xs (asked_variables f s.places)) untrue))).0;
      }

  others_hold : (s : Asked) (c : ClauseTree) (cs : List ClauseTree) → AreClausesOf s (c ∷ cs) → AreClausesOf s cs
  others_hold s c cs all = record {
    atoms = all.atoms.1;
    other = λ role. others_true c cs (all.other role);
    denied = λ role untrue. others_true c cs (all.denied role untrue);
    unanswered = λ role some e w untrue. (and_parts (is_true_clause m e c) (all_true m e cs) (all.unanswered role some e w untrue)).1;
  }

  -- these rows before others
  front_holds : (all : List Asked) (n : ℕ) (s : Asked) → asked_at all n ≡ Some s → (cs : List ClauseTree) (rows : List ClauseRow) (terms : List Trees) → AreClausesOf s cs → RowsHold m all (with_terms rows terms)
      → RowsHold m all (with_terms (map (λ c. (n, renumbered c)) cs ++ rows) (map (answer_terms s.said.formula s.places) cs ++ terms))
  front_holds all n s at [] rows terms hold rest = rest
  front_holds all n s at (c ∷ cs) rows terms hold rest = (
    λ t there. subst (λ x. RowHolds m x (answered_row (n, renumbered c) (answer_terms s.said.formula s.places c))) (ap (λ o. unwrap_or o s) (sym at ∙ there)) (first_holds s n c cs hold),
    front_holds all n s at cs rows terms (others_hold s c cs hold) rest,
  )

  module _ (symbols : List ℕ) where
    -- the clauses of a formula with what it asks for
    own_clauses : (k : ℕ) (s : Said) (places : List ℕ) → BindsOnce s.formula → HasSymbolsBelow equality s.formula → IsLiveOr s.formula places → PicksWitnesses m (skolem_axioms symbols k [] var (form s))
        → (is_goal s.role ≡ false → IsTrueIn m s.formula) → UnansweredClausesFollow m → AreClausesOf (asked s places) (clauses_in symbols k [] var (form s))
    own_clauses k s places once below live picks holds law = record {
      atoms = clause_atoms symbols k [] var (form s);
      other = λ role. role_follows m lawful symbols k s.role s.formula once below picks (other_roled m s.role s.formula role (holds role));
      denied = λ role untrue. role_follows m lawful symbols k s.role s.formula once below picks (goal_roled m s.role s.formula role untrue);
      unanswered = λ role some e w untrue.
          let closed = live_closed s.formula places some live in
          let is : form s ≡ nnf_of false s.formula = ap₂ (λ b xs. nnf_of b (closed_over xs s.formula)) (goal_denied s.role role) closed in
          subst (λ g. all_true m e (clauses_in symbols k [] var g) ≡ true) (sym is)
          (law symbols k s.formula places closed once below (subst (λ g. PicksWitnesses m (skolem_axioms symbols k [] var g)) is picks) e w untrue);
    }

    rows_hold : (law : UnansweredClausesFollow m) (all : List Asked) (n k : ℕ) (ss : List Said) (asks : List (List ℕ)) → AreWellFormed equality ss → AreLiveAsks ss asks → PicksWitnesses m (axioms_from symbols k ss)
        → AreTrueButGoals m ss → ((i : ℕ) → asked_at all (n + i) ≡ asked_at (with_asks ss asks) (1 + i))
        → RowsHold m all (with_terms (rows_from symbols n k ss) (answer_terms_from symbols k ss asks))
    rows_hold law all n k [] asks well_formed live picks holds places = tt
    rows_hold law all n k (s ∷ ss) asks well_formed live picks holds places =
        let own = asked s (first_ask asks) in
        let rest = with_asks ss (other_asks asks) in
        let here : asked_at all n ≡ Some own = ap (asked_at all) (omega arith) ∙ places 0 in
        let behind : (i : ℕ) → asked_at all (n + 1 + i) ≡ asked_at rest (1 + i) = λ i. ap (asked_at all) (omega arith) ∙ places (1 + i) ∙ after_first own rest i in
        front_holds all n own here (clauses_in symbols k [] var (form s)) (rows_from symbols (n + 1) (k + somes (form s)) ss) (answer_terms_from symbols (k + somes (form s)) ss (other_asks asks))
        (own_clauses k s (first_ask asks) well_formed.0 well_formed.1 live.0 (picks_left m symbols (skolem_axioms symbols k [] var (form s)) (axioms_from symbols (k + somes (form s)) ss) picks) holds.0 law)
        (rows_hold law all (n + 1) (k + somes (form s)) ss (other_asks asks) well_formed.2 live.1
        (picks_right m symbols (skolem_axioms symbols k [] var (form s)) (axioms_from symbols (k + somes (form s)) ss) picks) holds.1 behind)
      where
        after_first : (s : Asked) (ss : List Asked) (i : ℕ) → asked_at (s ∷ ss) (1 + (1 + i)) ≡ asked_at ss (1 + i)
        after_first s ss i =
            ap (λ b. if b then Some s else asked_at ss (1 + (1 + i) - 1)) (ne_eqb (1 + (1 + i)) 1 (λ h. let e : 1 + (1 + i) ≡ 1 = h in absurd (omega (arith, e)))) ∙ ap (asked_at ss) (omega arith)

pub rows_follow : ((m : Meaning) → IsLawful m → UnansweredClausesFollow m) → RowsFollow
rows_follow law m table p asks lawful well_formed few live picks holds =
    rows_hold m lawful (skolem_numbers table p) (law m lawful) (with_asks p.formulas asks) 1 0 p.formulas asks (sound_below (length p.symbols) equality p.formulas few well_formed) live picks holds (λ i. refl)

pub answers_shown : RowsFollow → ((m : Meaning) → IsLawful m → AnswersAreSound m) → RefutationsShowAnswers
answers_shown follow sound p asks rows terms ls is m table lawful well_formed few live same these names picks holds =
    sound m lawful (with_asks p.formulas asks) (with_terms rows terms) ls
    (subst (λ (r : List ClauseRow). RowsHold m (with_asks p.formulas asks) (with_terms r terms)) (sym same)
    (subst (λ (ts : List Trees). RowsHold m (with_asks p.formulas asks) (with_terms (clauses_in_table table p) ts)) (sym these) (follow m table p asks lawful well_formed few live picks holds))) names is

-- terms of which none names the element
abbrev NameNot : ℕ → List Trees → Type 0
NameNot k lists = AllByRecursion (λ ts. names_in_any k ts ≡ false) lists

placed_names_not : (k : ℕ) (xs vs : List ℕ) → names_in_any k (substitute_all (by_place xs) (trees_of (map var vs))) ≡ false
placed_names_not k xs [] = refl
placed_names_not k xs (v ∷ vs) = placed_names_not k xs vs

terms_name_not : (k : ℕ) (f : Fol) (places : List ℕ) (cs : List ClauseTree) (lists : List Trees) → NameNot k lists → NameNot k (map (answer_terms f places) cs ++ lists)
terms_name_not k f places [] lists h = h
terms_name_not k f places (c ∷ cs) lists h =
    (placed_names_not k (clause_variables (whole c (answer 0 (asked_terms f places) ∷ []))) (asked_variables f places), terms_name_not k f places cs lists h)

all_name_not : (k : ℕ) (symbols : List ℕ) (n : ℕ) (ss : List Said) (asks : List (List ℕ)) → NameNot k (answer_terms_from symbols n ss asks)
all_name_not k symbols n [] asks = tt
all_name_not k symbols n (s ∷ ss) asks =
    terms_name_not k s.formula (first_ask asks) (clauses_in symbols n [] var (form s)) (answer_terms_from symbols (n + somes (form s)) ss (other_asks asks))
    (all_name_not k symbols (n + somes (form s)) ss (other_asks asks))

rows_name_not : (k : ℕ) (rows : List ClauseRow) (lists : List Trees) → NameNot k lists → RowTermsNameNot k (with_terms rows lists)
rows_name_not k [] lists h = tt
rows_name_not k (r ∷ rows) [] h = (refl, rows_name_not k rows [] h)
rows_name_not k (r ∷ rows) (ts ∷ lists) h = (h.0, rows_name_not k rows lists h.1)

pub asked_terms_name_not : AskedTermsNameNothing
asked_terms_name_not k table p asks = rows_name_not k (clauses_in_table table p) (answer_terms_in_table table p asks) (all_name_not k (skolem_numbers table p) 0 p.formulas asks)
