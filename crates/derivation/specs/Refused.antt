-- Why a line is no line of a derivation: the rows that are told.
use Rattle.std.specs.Prelude.{ℕ, ◌≡◌, Bool, true, false, IsTrue, ◌⊎◌, List, [], ◌∷◌, ◌++◌, Option, Some, None}
use Rattle.std.specs.Option.{is_some}
use Rattle.std.specs.List.{list_all, flat_map}
use Rattle.fol_core.specs.Literals.{ClauseTree}
use Rattle.fol_problem.specs.Stated.{Said}
use Rattle.derivation.specs.Later.{LaterWord, later_parents, later_fits, Leads}
use Rattle.derivation.specs.Lines.{FirstWord, assumed, wanted, clausified, denied, copied, resolved, factored, paramodulated, xx_resolved, instantiated, Inference, instance_of, copy_inference, clash_inference, factor_inference, para_inference, xx_inference, ContentTree, LineTree, clause_at, AreClauses, IsClause, InputRow, IsStated, IsInputOf, IsAbove, IsLine, is_empty_clause, is_formula_at}
use Rattle.derivation.specs.declared.row.Row.{Row}
use Rattle.derivation.specs.declared.row.Row.TheVariants.{NoLines, NotAbove, NoParent, NoFormula, NoClause, Misplaced, Differs, OtherClause, NotEmpty}
use Rattle.substitutions.specs.Apart.{Own}
use Rattle.substitutions.specs.Bindings.{Binding}
use Rattle.derivation.specs.Rule.{UnifiesFamily, Concludes}

-- The rows of the words behind a clause: a literal, path or side isn't there or isn't taken; there
-- is no match, or what has to be equal isn't; the line's clause isn't what the words lead to.
abbrev pub Fails : List LineTree → List LaterWord → ClauseTree → ContentTree → Row → Type 0
Fails ls [] d content row = (row ≡ OtherClause) × ¬ IsClause content d
Fails ls (w ∷ ws) d content row =
    (ps : List ClauseTree) × AreClauses ls (later_parents w) ps
    × (((row ≡ Misplaced) × (later_fits w d ps ≡ false))
    ⊎ (((row ≡ Differs) × IsTrue (later_fits w d ps) × ((b : ClauseTree) → ¬ Leads w d ps b))
    ⊎ (IsTrue (later_fits w d ps)
    × ((b : ClauseTree) × Leads w d ps b × Fails ls ws b content row))))

-- and of a rule with the words behind it, where there may also be no unifier
abbrev pub StepFails : List LineTree → Inference → List LaterWord → ContentTree → Row → Type 0
StepFails ls i ws content row =
    (ps : List ClauseTree) × AreClauses ls i.parents ps
    × (((row ≡ Misplaced) × (i.rule.fits ps ≡ false))
    ⊎ (((row ≡ Differs) × IsTrue (i.rule.fits ps) × ((own : Own) → ¬ UnifiesFamily i.rule ps own))
    ⊎ (IsTrue (i.rule.fits ps)
    × ((d : ClauseTree) × Concludes i.rule ps d × Fails ls ws d content row))))

-- the numbers of all clauses that a line takes
abbrev pub all_parents : Inference → List LaterWord → List ℕ
all_parents i ws = i.parents ++ flat_map later_parents ws

-- whether all of them are clauses of earlier lines
abbrev pub are_there : List LineTree → List ℕ → Bool
are_there ls ns = list_all (λ n. is_some (clause_at ls n)) ns

-- a parent isn't an earlier line, or isn't one of a clause
abbrev pub InferenceFails : List LineTree → Inference → List LaterWord → ContentTree → Row → Type 0
InferenceFails ls i ws content row =
    ((row ≡ NoParent) × (are_there ls (all_parents i ws) ≡ false))
    ⊎ (IsTrue (are_there ls (all_parents i ws)) × StepFails ls i ws content row)

-- so of an instance, which every clause has
abbrev pub InstanceFails : List LineTree → ℕ → List Binding → List LaterWord → ContentTree → Row →
    Type 0
InstanceFails ls n es ws content row =
    ((row ≡ NoParent) × (are_there ls (n ∷ flat_map later_parents ws) ≡ false))
    ⊎ (IsTrue (are_there ls (n ∷ flat_map later_parents ws))
    × ((c : ClauseTree) × (clause_at ls n ≡ Some c) × Fails ls ws (instance_of es c) content row))

-- the rows of a formula: it is none of the problem's, or words stand behind that can't
abbrev pub StatedFails : Bool → List Said → List LaterWord → ContentTree → Row → Type 0
StatedFails goal ss ws content row =
    ((row ≡ NoFormula) × ¬ IsStated goal content ss)
    ⊎ ((row ≡ OtherClause) × IsStated goal content ss × ¬ (ws ≡ []))

-- the rows of an input clause: the number is none of an earlier formula; the formula isn't
-- of the kind, or the clause none of its
abbrev pub InputFails : List Said → List InputRow → List LineTree → Bool → ℕ → List LaterWord →
    ContentTree → Row → Type 0
InputFails ss rows ls goal n ws content row =
    ((row ≡ NoParent) × (is_formula_at ls n ≡ false))
    ⊎ (((row ≡ NoClause) × IsTrue (is_formula_at ls n) × ¬ IsInputOf ss rows ls goal n content)
    ⊎ ((row ≡ OtherClause) × IsInputOf ss rows ls goal n content × ¬ (ws ≡ [])))

-- the row of a line whose number is above the last one
abbrev pub LineFails : List Said → List InputRow → List LineTree → FirstWord → List LaterWord →
    ContentTree → Row → Type 0
LineFails ss rows ls assumed ws content row = StatedFails false ss ws content row
LineFails ss rows ls wanted ws content row = StatedFails true ss ws content row
LineFails ss rows ls (clausified n) ws content row = InputFails ss rows ls false n ws content row
LineFails ss rows ls (denied n) ws content row = InputFails ss rows ls true n ws content row
LineFails ss rows ls (copied n) ws content row = InferenceFails ls (copy_inference n) ws content row
LineFails ss rows ls (resolved n k) ws content row =
    InferenceFails ls (clash_inference n k) ws content row
LineFails ss rows ls (factored n a b) ws content row =
    InferenceFails ls (factor_inference n a b) ws content row
LineFails ss rows ls (paramodulated n a side m b path) ws content row =
    InferenceFails ls (para_inference n a side m b path) ws content row
LineFails ss rows ls (xx_resolved n a) ws content row =
    InferenceFails ls (xx_inference n a) ws content row
LineFails ss rows ls (instantiated n es) ws content row = InstanceFails ls n es ws content row

-- the row by which a line is refused: that its number isn't above the last one, else that of its
-- words
abbrev pub IsRefusedLine : List Said → List InputRow → List LineTree → Option ℕ → LineTree → Row →
    Type 0
IsRefusedLine ss rows ls last l row =
    ((row ≡ NotAbove) × ¬ IsAbove last l.number)
    ⊎ (IsAbove last l.number × LineFails ss rows ls l.first l.later l.content row)

abbrev pub IsAccepted : List Said → List InputRow → List LineTree → Option ℕ → LineTree → Type 0
IsAccepted ss rows ls last l = IsAbove last l.number × IsLine ss rows ls l.first l.later l.content

-- The first line that is refused, with its row; where none is, that of the last line, which isn't
-- the empty clause.
abbrev pub HasFault : List Said → List InputRow → List LineTree → Option ℕ → List LineTree → ℕ →
    Row → Type 0
HasFault ss rows earlier last [] number row = ⊥
HasFault ss rows earlier last (l ∷ []) number row =
    (number ≡ l.number)
    × (IsRefusedLine ss rows earlier last l row
    ⊎ (IsAccepted ss rows earlier last l × (row ≡ NotEmpty) × (is_empty_clause l.content ≡ false)))
HasFault ss rows earlier last (l ∷ k ∷ ls) number row =
    ((number ≡ l.number) × IsRefusedLine ss rows earlier last l row)
    ⊎ (IsAccepted ss rows earlier last l
    × HasFault ss rows (earlier ++ l ∷ []) (Some l.number) (k ∷ ls) number row)

-- what is told of lines that are no refutation: where there are none, that of line 0
abbrev pub IsFault : List Said → List InputRow → List LineTree → ℕ → Row → Type 0
IsFault ss rows [] number row = (number ≡ 0) × (row ≡ NoLines)
IsFault ss rows (l ∷ ls) number row = HasFault ss rows [] None (l ∷ ls) number row
