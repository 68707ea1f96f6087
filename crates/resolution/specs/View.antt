-- The conclusions of the code.
use Rattle.std.specs.Prelude.{List, map, Option, None, Some}
use Rattle.fol_core.specs.Literals.{ClauseTree}
use Rattle.fol_core.specs.Renumbered.{renumbered}
use Rattle.inference.specs.declared.rules.Judged.{Judged}
use Rattle.inference.specs.declared.rules.Judged.TheVariants as judged
use Rattle.proof_words.specs.Written.{written_first}
use Rattle.prover_steps.specs.Concluded.{Conclusion}
use Rattle.resolution.specs.declared.conclusion.Concluded.{Concluded}
use Rattle.resolution.specs.declared.conclusion.Concluded.TheVariants.{Numbered, Large}
use Rattle.resolution.specs.declared.conclusion.Conclusion as declared

-- the clause with its variables numbered
abbrev pub clause_of : Concluded → ClauseTree
clause_of (Numbered c) = c
clause_of (Large c) = renumbered c

-- that of what a rule comes to, if it is a conclusion
abbrev pub judged_clause : Judged → Option ClauseTree
judged_clause judged.Unfit = None
judged_clause judged.Apart = None
judged_clause (judged.Small c) = Some c
judged_clause (judged.Large c) = Some (renumbered c)

abbrev pub conclusion_of : declared.Conclusion → Conclusion
conclusion_of n = record { clause = clause_of n.clause; first = written_first n.first }

abbrev pub all_conclusions : List declared.Conclusion → List Conclusion
all_conclusions ns = map conclusion_of ns
