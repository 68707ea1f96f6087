-- A line is refused by no row, or by one alone.
use Rattle.std.proofs.Common.{◌≡◌, ◌⊎◌, inl, inr, ℕ, Bool, true, false, IsTrue, List, [], ◌∷◌, ◌++◌, map, Option, Some, None, is_some, unwrap_or, refl, sym, ap, ◌∙◌, subst}
use Rattle.std.specs.Option.{option_map_or}
use Rattle.std.specs.List.{list_all, flat_map}
use Rattle.std.proofs.lemmas.Bool.{and_parts, and_from, false≢true, both_ways}
use Rattle.fol_core.specs.Fol.{Fol}
use Rattle.fol_core.specs.Literals.{ClauseTree}
use Rattle.fol_problem.specs.Stated.{Said}
use Rattle.derivation.specs.Later.{LaterWord, later_parents, later_fits, Leads}
use Rattle.derivation.specs.Lines.{FirstWord, assumed, wanted, clausified, denied, copied, resolved, factored, paramodulated, xx_resolved, instantiated, Inference, instance_of, IsInstance, inference_of, copy_inference, clash_inference, factor_inference, para_inference, xx_inference, ContentTree, is_formula, is_formula_at, LineTree, clause_at, AreClauses, After, IsInferred, InputRow, IsStated, IsFormulaAt, IsInputOf, IsLine, AreLines, is_empty_clause, ends_empty, IsRefutation}
use Rattle.derivation.specs.Refused.{Fails, StepFails, all_parents, are_there, InferenceFails, InstanceFails, StatedFails, InputFails, LineFails, IsRefusedLine, IsAccepted, HasFault, IsFault}
use Rattle.substitutions.specs.Apart.{Own}
use Rattle.substitutions.specs.Bindings.{Binding}
use Rattle.derivation.specs.Rule.{UnifiesFamily, Concludes}
use Rattle.derivation.specs.Words.{Clash}
use Rattle.derivation.specs.declared.row.Row.{Row}
use Rattle.derivation.specs.declared.row.Row.TheVariants.{Misplaced, Differs}
use Rattle.derivation.proofs.Conclusions.{IsNatural, copy_natural, clash_natural, factor_natural, xx_natural, para_natural, one_conclusion, one_lead}
use Rattle.derivation.proofs.Lawful.{IsLawfulRule, copy_lawful, clash_lawful, factor_lawful, xx_lawful, para_lawful}

-- what happens at a word: it doesn't fit, it leads nowhere, or what it leads to goes on
abbrev Three : Bool → (ClauseTree → Type 0) → (ClauseTree → Row → Type 0) → Row → Type 0
Three fits Lead Rest row =
    ((row ≡ Misplaced) × (fits ≡ false))
    ⊎ (((row ≡ Differs) × IsTrue fits × ((b : ClauseTree) → ¬ Lead b))
    ⊎ (IsTrue fits × ((b : ClauseTree) × Lead b × Rest b row)))

three_none : (fits : Bool) (Lead Good : ClauseTree → Type 0) (Rest : ClauseTree → Row → Type 0) (row : Row) → ((b c : ClauseTree) → IsTrue fits → Lead b → Lead c → b ≡ c)
    → ((b : ClauseTree) → Rest b row → ¬ Good b) → Three fits Lead Rest row → IsTrue fits → (b : ClauseTree) → Lead b → ¬ Good b
three_none fits Lead Good Rest row one none (inl six) there b lead good = both_ways fits six.1 there
three_none fits Lead Good Rest row one none (inr (inl seven)) there b lead good = seven.2 b lead
three_none fits Lead Good Rest row one none (inr (inr on)) there b lead good = none on.1.0 on.1.2 (subst Good (one b on.1.0 there lead on.1.1) good)

three_once : (fits : Bool) (Lead : ClauseTree → Type 0) (Rest : ClauseTree → Row → Type 0) (row other : Row) → ((b c : ClauseTree) → IsTrue fits → Lead b → Lead c → b ≡ c)
    → ((b : ClauseTree) → Rest b row → Rest b other → row ≡ other) → Three fits Lead Rest row → Three fits Lead Rest other → row ≡ other
three_once fits Lead Rest row other one once (inl six) (inl again) = six.0 ∙ sym again.0
three_once fits Lead Rest row other one once (inl six) (inr (inl seven)) = absurd (both_ways fits six.1 seven.1)
three_once fits Lead Rest row other one once (inl six) (inr (inr on)) = absurd (both_ways fits six.1 on.0)
three_once fits Lead Rest row other one once (inr (inl seven)) (inl six) = absurd (both_ways fits six.1 seven.1)
three_once fits Lead Rest row other one once (inr (inl seven)) (inr (inl again)) = seven.0 ∙ sym again.0
three_once fits Lead Rest row other one once (inr (inl seven)) (inr (inr on)) = absurd (seven.2 on.1.0 on.1.1)
three_once fits Lead Rest row other one once (inr (inr on)) (inl six) = absurd (both_ways fits six.1 on.0)
three_once fits Lead Rest row other one once (inr (inr on)) (inr (inl seven)) = absurd (seven.2 on.1.0 on.1.1)
three_once fits Lead Rest row other one once (inr (inr on)) (inr (inr goes)) =
    once on.1.0 on.1.2 (subst (λ b. Rest b other) (one goes.1.0 on.1.0 on.0 goes.1.1 on.1.1) goes.1.2)

pub clauses_once : (ls : List LineTree) (ns : List ℕ) (cs ds : List ClauseTree) → AreClauses ls ns cs → AreClauses ls ns ds → cs ≡ ds
clauses_once ls [] [] [] are were = refl
clauses_once ls [] [] (d ∷ ds) are were = absurd were
clauses_once ls [] (c ∷ cs) ds are were = absurd are
clauses_once ls (n ∷ ns) [] ds are were = absurd are
clauses_once ls (n ∷ ns) (c ∷ cs) [] are were = absurd were
clauses_once ls (n ∷ ns) (c ∷ cs) (d ∷ ds) are were =
    let first : c ≡ d = ap (λ o. unwrap_or o c) (sym are.0 ∙ were.0) in
    let rest = clauses_once ls ns cs ds are.1 were.1 in
    cc

module _ (ls : List LineTree) (content : ContentTree) where
  -- words that fail lead nowhere
  fails_none : (ws : List LaterWord) (d : ClauseTree) (row : Row) → Fails ls ws d content row → ¬ After ls ws d content
  fails_none [] d row fails after = fails.1 after
  fails_none (w ∷ ws) d row (ps, are, cases) (qs, b, were, fits, leads, after) =
      let same = clauses_once ls (later_parents w) qs ps were are in
      three_none (later_fits w d ps) (Leads w d ps) (λ b. After ls ws b content) (λ b row. Fails ls ws b content row) row
      (λ b c fits l k. one_lead w d ps b c fits l k) (λ b fails. fails_none ws b row fails) cases
      (subst (λ ps. IsTrue (later_fits w d ps)) same fits) b (subst (λ ps. Leads w d ps b) same leads) after

  -- and fail by one row
  fails_once : (ws : List LaterWord) (d : ClauseTree) (row other : Row) → Fails ls ws d content row → Fails ls ws d content other → row ≡ other
  fails_once [] d row other fails again = fails.0 ∙ sym again.0
  fails_once (w ∷ ws) d row other (ps, are, cases) (qs, were, more) =
      three_once (later_fits w d ps) (Leads w d ps) (λ b row. Fails ls ws b content row) row other
      (λ b c fits l k. one_lead w d ps b c fits l k) (λ b fails again. fails_once ws b row other fails again) cases
      (subst (λ ps. Three (later_fits w d ps) (Leads w d ps) (λ b row. Fails ls ws b content row) other) (clauses_once ls (later_parents w) qs ps were are) more)

  step_three : (i : Inference) (ws : List LaterWord) (row : Row) (ps : List ClauseTree)
      → (((row ≡ Misplaced) × (i.rule.fits ps ≡ false)) ⊎ (((row ≡ Differs) × IsTrue (i.rule.fits ps) × ((own : Own) → ¬ UnifiesFamily i.rule ps own)) ⊎ (IsTrue (i.rule.fits ps) × ((d : ClauseTree) × Concludes i.rule ps d × Fails ls ws d content row))))
      → Three (i.rule.fits ps) (Concludes i.rule ps) (λ b row. Fails ls ws b content row) row
  step_three i ws row ps (inl six) = inl six
  step_three i ws row ps (inr (inl seven)) = inr (inl (seven.0, seven.1, λ b concludes. seven.2 concludes.0 concludes.1.unifies))
  step_three i ws row ps (inr (inr on)) = inr (inr on)

  step_none : (i : Inference) → IsLawfulRule i.rule → IsNatural i.rule → (ws : List LaterWord) (row : Row) → StepFails ls i ws content row → ¬ IsInferred ls i ws content
  step_none i law natural ws row (ps, are, cases) (qs, d, were, fits, concludes, after) =
      let same = clauses_once ls i.parents qs ps were are in
      three_none (i.rule.fits ps) (Concludes i.rule ps) (λ b. After ls ws b content) (λ b row. Fails ls ws b content row) row
      (λ b c fits l k. one_conclusion i.rule law natural ps b c fits l k) (λ b fails. fails_none ws b row fails) (step_three i ws row ps cases)
      (subst (λ ps. IsTrue (i.rule.fits ps)) same fits) d (subst (λ ps. Concludes i.rule ps d) same concludes) after

  step_once : (i : Inference) → IsLawfulRule i.rule → IsNatural i.rule → (ws : List LaterWord) (row other : Row) → StepFails ls i ws content row → StepFails ls i ws content other → row ≡ other
  step_once i law natural ws row other (ps, are, cases) (qs, were, more) =
      three_once (i.rule.fits ps) (Concludes i.rule ps) (λ b row. Fails ls ws b content row) row other
      (λ b c fits l k. one_conclusion i.rule law natural ps b c fits l k) (λ b fails again. fails_once ws b row other fails again) (step_three i ws row ps cases)
      (subst (λ ps. Three (i.rule.fits ps) (Concludes i.rule ps) (λ b row. Fails ls ws b content row) other) (clauses_once ls i.parents qs ps were are) (step_three i ws other qs more))

all_append : (p : ℕ → Bool) (xs ys : List ℕ) → IsTrue (list_all p xs) → IsTrue (list_all p ys) → IsTrue (list_all p (xs ++ ys))
all_append p [] ys h k = k
all_append p (x ∷ xs) ys h k = let parts = and_parts (p x) (list_all p xs) h in and_from (p x) (list_all p (xs ++ ys)) parts.0 (all_append p xs ys parts.1 k)

clauses_there : (ls : List LineTree) (ns : List ℕ) (cs : List ClauseTree) → AreClauses ls ns cs → IsTrue (are_there ls ns)
clauses_there ls [] cs are = refl
clauses_there ls (n ∷ ns) [] are = absurd are
clauses_there ls (n ∷ ns) (c ∷ cs) are = and_from (is_some (clause_at ls n)) (are_there ls ns) (ap is_some are.0) (clauses_there ls ns cs are.1)

after_there : (ls : List LineTree) (ws : List LaterWord) (d : ClauseTree) (content : ContentTree) → After ls ws d content → IsTrue (are_there ls (flat_map later_parents ws))
after_there ls [] d content after = refl
after_there ls (w ∷ ws) d content (ps, b, are, fits, leads, after) =
    all_append (λ n. is_some (clause_at ls n)) (later_parents w) (flat_map later_parents ws) (clauses_there ls (later_parents w) ps are) (after_there ls ws b content after)

inference_none : (ls : List LineTree) (i : Inference) → IsLawfulRule i.rule → IsNatural i.rule → (ws : List LaterWord) (content : ContentTree) (row : Row)
    → InferenceFails ls i ws content row → ¬ IsInferred ls i ws content
inference_none ls i law natural ws content row (inl three) is =
    both_ways (are_there ls (all_parents i ws)) three.1 (all_append (λ n. is_some (clause_at ls n)) i.parents (flat_map later_parents ws) (clauses_there ls i.parents is.0 is.2) (after_there ls ws is.1 content is.5))
inference_none ls i law natural ws content row (inr fails) is = step_none ls content i law natural ws row fails.1 is

inference_once : (ls : List LineTree) (i : Inference) → IsLawfulRule i.rule → IsNatural i.rule → (ws : List LaterWord) (content : ContentTree) (row other : Row)
    → InferenceFails ls i ws content row → InferenceFails ls i ws content other → row ≡ other
inference_once ls i law natural ws content row other (inl three) (inl again) = three.0 ∙ sym again.0
inference_once ls i law natural ws content row other (inl three) (inr fails) = absurd (both_ways (are_there ls (all_parents i ws)) three.1 fails.0)
inference_once ls i law natural ws content row other (inr fails) (inl three) = absurd (both_ways (are_there ls (all_parents i ws)) three.1 fails.0)
inference_once ls i law natural ws content row other (inr fails) (inr again) = step_once ls content i law natural ws row other fails.1 again.1

-- an instance of the clause that is there
module _ (ls : List LineTree) (n : ℕ) (es : List Binding) (content : ContentTree) where
  one_there : (c d : ClauseTree) → clause_at ls n ≡ Some c → clause_at ls n ≡ Some d → c ≡ d
  one_there c d h k = cc

  instance_none : (ws : List LaterWord) (row : Row) → InstanceFails ls n es ws content row → ¬ IsInstance ls n es ws content
  instance_none ws row (inl three) (c, at, after) =
      both_ways (are_there ls (n ∷ flat_map later_parents ws)) three.1 (and_from (is_some (clause_at ls n)) (are_there ls (flat_map later_parents ws)) (ap is_some at) (after_there ls ws (instance_of es c) content after))
  instance_none ws row (inr (there, (c, at, fails))) (d, is, after) =
      fails_none ls content ws (instance_of es c) row fails (subst (λ b. After ls ws (instance_of es b) content) (one_there d c is at) after)

  instance_once : (ws : List LaterWord) (row other : Row) → InstanceFails ls n es ws content row → InstanceFails ls n es ws content other → row ≡ other
  instance_once ws row other (inl three) (inl again) = three.0 ∙ sym again.0
  instance_once ws row other (inl three) (inr fails) = absurd (both_ways (are_there ls (n ∷ flat_map later_parents ws)) three.1 fails.0)
  instance_once ws row other (inr fails) (inl three) = absurd (both_ways (are_there ls (n ∷ flat_map later_parents ws)) three.1 fails.0)
  instance_once ws row other (inr (there, (c, at, fails))) (inr (then, (d, is, again))) =
      fails_once ls content ws (instance_of es c) row other fails (subst (λ b. Fails ls ws (instance_of es b) content other) (one_there d c is at) again)

stated_none : (goal : Bool) (ss : List Said) (ws : List LaterWord) (content : ContentTree) (row : Row) → StatedFails goal ss ws content row → ¬ (IsStated goal content ss × (ws ≡ []))
stated_none goal ss ws content row (inl four) is = four.1 is.0
stated_none goal ss ws content row (inr eight) is = eight.2 is.1

stated_once : (goal : Bool) (ss : List Said) (ws : List LaterWord) (content : ContentTree) (row other : Row) → StatedFails goal ss ws content row → StatedFails goal ss ws content other → row ≡ other
stated_once goal ss ws content row other (inl four) (inl again) = four.0 ∙ sym again.0
stated_once goal ss ws content row other (inl four) (inr eight) = absurd (four.1 eight.1)
stated_once goal ss ws content row other (inr eight) (inl four) = absurd (four.1 eight.1)
stated_once goal ss ws content row other (inr eight) (inr again) = eight.0 ∙ sym again.0

-- the line that is taken is one of a formula
formula_there : (ls : List LineTree) (n : ℕ) (goal : Bool) (f : Fol) → IsFormulaAt ls n goal f → IsTrue (is_formula_at ls n)
formula_there ls n goal f (l, there, is, first) = ap (λ o. option_map_or (λ l. is_formula l.content) o false) there ∙ ap is_formula is

module _ (ss : List Said) (rows : List InputRow) (ls : List LineTree) (goal : Bool) (n : ℕ) where
  input_none : (ws : List LaterWord) (content : ContentTree) (row : Row) → InputFails ss rows ls goal n ws content row → ¬ (IsInputOf ss rows ls goal n content × (ws ≡ []))
  input_none ws content row (inl three) is = both_ways (is_formula_at ls n) three.1 (formula_there ls n goal is.0.0 is.0.1)
  input_none ws content row (inr (inl five)) is = five.2 is.0
  input_none ws content row (inr (inr eight)) is = eight.2 is.1

  input_once : (ws : List LaterWord) (content : ContentTree) (row other : Row) → InputFails ss rows ls goal n ws content row → InputFails ss rows ls goal n ws content other → row ≡ other
  input_once ws content row other (inl three) (inl again) = three.0 ∙ sym again.0
  input_once ws content row other (inl three) (inr (inl five)) = absurd (both_ways (is_formula_at ls n) three.1 five.1)
  input_once ws content row other (inl three) (inr (inr eight)) = absurd (both_ways (is_formula_at ls n) three.1 (formula_there ls n goal eight.1.0 eight.1.1))
  input_once ws content row other (inr (inl five)) (inl three) = absurd (both_ways (is_formula_at ls n) three.1 five.1)
  input_once ws content row other (inr (inl five)) (inr (inl again)) = five.0 ∙ sym again.0
  input_once ws content row other (inr (inl five)) (inr (inr eight)) = absurd (five.2 eight.1)
  input_once ws content row other (inr (inr eight)) (inl three) = absurd (both_ways (is_formula_at ls n) three.1 (formula_there ls n goal eight.1.0 eight.1.1))
  input_once ws content row other (inr (inr eight)) (inr (inl five)) = absurd (five.2 eight.1)
  input_once ws content row other (inr (inr eight)) (inr (inr again)) = eight.0 ∙ sym again.0

module _ (ss : List Said) (rows : List InputRow) (ls : List LineTree) where
  line_none : (first : FirstWord) (ws : List LaterWord) (content : ContentTree) (row : Row) → LineFails ss rows ls first ws content row → ¬ IsLine ss rows ls first ws content
  line_none assumed ws content row fails is = stated_none false ss ws content row fails is
  line_none wanted ws content row fails is = stated_none true ss ws content row fails is
  line_none (clausified n) ws content row fails is = input_none ss rows ls false n ws content row fails is
  line_none (denied n) ws content row fails is = input_none ss rows ls true n ws content row fails is
  line_none (copied n) ws content row fails is = inference_none ls (copy_inference n) copy_lawful copy_natural ws content row fails is
  line_none (resolved n k) ws content row fails is =
      let ks = map (λ s. (s.place, s.literal)) k in inference_none ls (clash_inference n k) (clash_lawful ks) (clash_natural ks) ws content row fails is
  line_none (factored n a b) ws content row fails is = inference_none ls (factor_inference n a b) (factor_lawful a b) (factor_natural a b) ws content row fails is
  line_none (paramodulated n a side m b path) ws content row fails is =
      inference_none ls (para_inference n a side m b path) (para_lawful a side b path) (para_natural a side b path) ws content row fails is
  line_none (xx_resolved n a) ws content row fails is = inference_none ls (xx_inference n a) (xx_lawful a) (xx_natural a) ws content row fails is
  line_none (instantiated n es) ws content row fails is = instance_none ls n es content ws row fails is

  line_once : (first : FirstWord) (ws : List LaterWord) (content : ContentTree) (row other : Row) → LineFails ss rows ls first ws content row → LineFails ss rows ls first ws content other → row ≡ other
  line_once assumed ws content row other fails again = stated_once false ss ws content row other fails again
  line_once wanted ws content row other fails again = stated_once true ss ws content row other fails again
  line_once (clausified n) ws content row other fails again = input_once ss rows ls false n ws content row other fails again
  line_once (denied n) ws content row other fails again = input_once ss rows ls true n ws content row other fails again
  line_once (copied n) ws content row other fails again = inference_once ls (copy_inference n) copy_lawful copy_natural ws content row other fails again
  line_once (resolved n k) ws content row other fails again =
      let ks = map (λ s. (s.place, s.literal)) k in inference_once ls (clash_inference n k) (clash_lawful ks) (clash_natural ks) ws content row other fails again
  line_once (factored n a b) ws content row other fails again = inference_once ls (factor_inference n a b) (factor_lawful a b) (factor_natural a b) ws content row other fails again
  line_once (paramodulated n a side m b path) ws content row other fails again =
      inference_once ls (para_inference n a side m b path) (para_lawful a side b path) (para_natural a side b path) ws content row other fails again
  line_once (xx_resolved n a) ws content row other fails again = inference_once ls (xx_inference n a) (xx_lawful a) (xx_natural a) ws content row other fails again
  line_once (instantiated n es) ws content row other fails again = instance_once ls n es content ws row other fails again

  -- a refused line is no line
  pub refused_none : (last : Option ℕ) (l : LineTree) (row : Row) → IsRefusedLine ss rows ls last l row → ¬ IsAccepted ss rows ls last l
  refused_none last l row (inl two) is = two.1 is.0
  refused_none last l row (inr fails) is = line_none l.first l.later l.content row fails.1 is.1

  -- and is refused by one row
  pub refused_once : (last : Option ℕ) (l : LineTree) (row other : Row) → IsRefusedLine ss rows ls last l row → IsRefusedLine ss rows ls last l other → row ≡ other
  refused_once last l row other (inl two) (inl again) = two.0 ∙ sym again.0
  refused_once last l row other (inl two) (inr fails) = absurd (two.1 fails.0)
  refused_once last l row other (inr fails) (inl two) = absurd (two.1 fails.0)
  refused_once last l row other (inr fails) (inr again) = line_once l.first l.later l.content row other fails.1 again.1

module _ (ss : List Said) (rows : List InputRow) where
  -- lines with a fault are no refutation
  pub fault_none : (earlier : List LineTree) (last : Option ℕ) (ls : List LineTree) (number : ℕ) (row : Row) → HasFault ss rows earlier last ls number row
      → AreLines ss rows earlier last ls → ¬ IsTrue (ends_empty ls)
  fault_none earlier last [] number row fault are ends = fault
  fault_none earlier last (l ∷ []) number row (is, inl refused) are ends = refused_none ss rows earlier last l row refused (are.0, are.1)
  fault_none earlier last (l ∷ []) number row (is, inr nine) are ends = both_ways (is_empty_clause l.content) nine.2 ends
  fault_none earlier last (l ∷ k ∷ ls) number row (inl refused) are ends = refused_none ss rows earlier last l row refused.1 (are.0, are.1)
  fault_none earlier last (l ∷ k ∷ ls) number row (inr behind) are ends = fault_none (earlier ++ l ∷ []) (Some l.number) (k ∷ ls) number row behind.1 are.2 ends

  -- and have one fault
  pub fault_once : (earlier : List LineTree) (last : Option ℕ) (ls : List LineTree) (number : ℕ) (row : Row) (other_number : ℕ) (other : Row) → HasFault ss rows earlier last ls number row
      → HasFault ss rows earlier last ls other_number other → (number ≡ other_number) × (row ≡ other)
  fault_once earlier last [] number row other_number other fault again = absurd fault
  fault_once earlier last (l ∷ []) number row other_number other (is, inl refused) (was, inl more) = (is ∙ sym was, refused_once ss rows earlier last l row other refused more)
  fault_once earlier last (l ∷ []) number row other_number other (is, inl refused) (was, inr nine) = absurd (refused_none ss rows earlier last l row refused nine.0)
  fault_once earlier last (l ∷ []) number row other_number other (is, inr nine) (was, inl refused) = absurd (refused_none ss rows earlier last l other refused nine.0)
  fault_once earlier last (l ∷ []) number row other_number other (is, inr nine) (was, inr again) = (is ∙ sym was, nine.1 ∙ sym again.1)
  fault_once earlier last (l ∷ k ∷ ls) number row other_number other (inl refused) (inl again) = (refused.0 ∙ sym again.0, refused_once ss rows earlier last l row other refused.1 again.1)
  fault_once earlier last (l ∷ k ∷ ls) number row other_number other (inl refused) (inr behind) = absurd (refused_none ss rows earlier last l row refused.1 behind.0)
  fault_once earlier last (l ∷ k ∷ ls) number row other_number other (inr behind) (inl refused) = absurd (refused_none ss rows earlier last l other refused.1 behind.0)
  fault_once earlier last (l ∷ k ∷ ls) number row other_number other (inr behind) (inr again) =
      fault_once (earlier ++ l ∷ []) (Some l.number) (k ∷ ls) number row other_number other behind.1 again.1

-- what holds of each rule of a first word
pub word_lawful : (w : FirstWord) (i : Inference) → inference_of w ≡ Some i → IsLawfulRule i.rule × IsNatural i.rule
word_lawful assumed i h = cc
word_lawful wanted i h = cc
word_lawful (clausified n) i h = cc
word_lawful (denied n) i h = cc
word_lawful (copied n) i h = let same : copy_inference n ≡ i = cc in subst (λ i. IsLawfulRule i.rule × IsNatural i.rule) same (copy_lawful, copy_natural)
word_lawful (resolved n k) i h =
    let ks : List Clash = map (λ s. (s.place, s.literal)) k in
    let same : clash_inference n k ≡ i = cc in
    subst (λ i. IsLawfulRule i.rule × IsNatural i.rule) same (clash_lawful ks, clash_natural ks)
word_lawful (factored n a b) i h = let same : factor_inference n a b ≡ i = cc in subst (λ i. IsLawfulRule i.rule × IsNatural i.rule) same (factor_lawful a b, factor_natural a b)
word_lawful (paramodulated n a side m b path) i h =
    let same : para_inference n a side m b path ≡ i = cc in subst (λ i. IsLawfulRule i.rule × IsNatural i.rule) same (para_lawful a side b path, para_natural a side b path)
word_lawful (xx_resolved n a) i h = let same : xx_inference n a ≡ i = cc in subst (λ i. IsLawfulRule i.rule × IsNatural i.rule) same (xx_lawful a, xx_natural a)
word_lawful (instantiated n es) i h = cc

pub whole_fault_none : (ss : List Said) (rows : List InputRow) (ls : List LineTree) (number : ℕ) (row : Row) → IsFault ss rows ls number row → ¬ IsRefutation ss rows ls
whole_fault_none ss rows [] number row fault is = false≢true is.1
whole_fault_none ss rows (l ∷ ls) number row fault is = fault_none ss rows [] None (l ∷ ls) number row fault is.0 is.1

pub whole_fault_once : (ss : List Said) (rows : List InputRow) (ls : List LineTree) (number : ℕ) (row : Row) (other_number : ℕ) (other : Row) → IsFault ss rows ls number row → IsFault ss rows ls other_number other
    → (number ≡ other_number) × (row ≡ other)
whole_fault_once ss rows [] number row other_number other fault again = (fault.0 ∙ sym again.0, fault.1 ∙ sym again.1)
whole_fault_once ss rows (l ∷ ls) number row other_number other fault again = fault_once ss rows [] None (l ∷ ls) number row other_number other fault again
