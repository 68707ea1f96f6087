-- What holds of conclusions.
use Rattle.std.specs.Prelude.{◌≡◌, ◌↔◌, Bool, IsTrue, List, [], Some}
use Rattle.std.specs.List.{AllByRecursion}
use Rattle.fol_core.specs.Literals.{ClauseTree}
use Rattle.fol_problem.specs.Stated.{Said}
use Rattle.fol_core.specs.Tree.{Tree}
use Rattle.derivation.specs.Lines.{FirstWord, Inference, InputRow, LineTree, inference_of, clause, clause_at, IsLine}
use Rattle.derivation.specs.Rule.{Concludes}
use Rattle.proof_words.specs.Written.{meant}
use Rattle.prover_steps.specs.Clashing.{Held}
use Rattle.prover_steps.specs.Concluded.{Conclusion, concluded}
use Rattle.prover_steps.specs.Conclusions.{RulesInForce, conclusions_of}

-- what is worked out is what the rule concludes: each way, where it fits
abbrev pub WorksOut : Type 0
WorksOut =
    (w : FirstWord) (i : Inference) (cs : List ClauseTree) (c : ClauseTree) →
    inference_of w ≡ Some i
    → (concluded i.rule cs ≡ Some c) ↔ (IsTrue (i.rule.fits cs) × Concludes i.rule cs c)

-- the lines have the clause under its number
abbrev pub HaveClause : List LineTree → Held → Type 0
HaveClause ls h = clause_at ls h.number ≡ Some h.clause

-- a conclusion may stand behind the lines, by its word alone
abbrev pub IsStep : List Said → List InputRow → List LineTree → Conclusion → Type 0
IsStep ss rows ls n = IsLine ss rows ls (meant n.first) [] (clause n.clause)

-- each conclusion of a clause that lines have, with others that they have, is a step behind them
abbrev pub ConclusionsAreSteps : Type 0
ConclusionsAreSteps =
    (ss : List Said) (rows : List InputRow) (ls : List LineTree) (rules : RulesInForce)
    (greater : Tree → Tree → Bool) (held : List Held) (g : Held)
    → AllByRecursion (HaveClause ls) held → HaveClause ls g
    → AllByRecursion (IsStep ss rows ls) (conclusions_of rules greater held g)
