use Rattle.std.proofs.Common.{[], codes, refl, true}
use Rattle.ladr_lex.specs.declared.misuse.Misuse.TheVariants.{UnknownFlag}
use Rattle.ladr_commands.specs.declared.command.Command.TheVariants.{Flag, If, EndIf, Formulas}
use Rattle.ladr_lex.specs.Bytes.{is_blank, is_ordinary, is_special}
use Rattle.ladr_lex.specs.Starts.{start_of}
use Rattle.ladr_problem.specs.Adding.{command}
use Rattle.ladr_problem.specs.File.{ends, open_list, breaks, goes_on}
use Rattle.ladr_problem.proofs.WorkedFiles.{says}
use Rattle.ladr_problem.specs.declared.refusal.Refusal.TheVariants.{Misused}
use Rattle.ladr_problem.proofs.laws.worked.Goals as goal

pub returns-clause-nothing : goal.returns-clause-nothing
returns-clause-nothing _ = says _ [] _ refl (ends refl refl)

pub returns-clause-untested : goal.returns-clause-untested
returns-clause-untested _ = says _ [] _ refl (ends refl refl)

pub returns-clause-unknown_flag : goal.returns-clause-unknown_flag
unfolding start_of is_blank is_ordinary is_special
returns-clause-unknown_flag _ = says _ (codes "% a\nset(b).\n") _ refl (breaks (command (Flag true (codes "b"))) (Misused UnknownFlag) (refl, refl) refl)

pub returns-clause-for_another : goal.returns-clause-for_another
unfolding start_of is_blank is_ordinary is_special
returns-clause-for_another _ =
    says _ (codes "if(Prover9).\nset(b).\nend_if.\n") _ refl
    (goes_on (command (If (codes "Prover9"))) _ (refl, refl) refl (goes_on (command (Flag true (codes "b"))) _ (refl, refl) refl (goes_on (command EndIf) _ (refl, refl) refl (ends refl refl))))

pub returns-clause-not_for_another : goal.returns-clause-not_for_another
unfolding start_of is_blank is_ordinary is_special
returns-clause-not_for_another _ =
    says _ (codes "if(Prover9).\nset(b).\nend_if.\n") _ refl
    (goes_on (command (If (codes "Prover9"))) _ (refl, refl) refl (breaks (command (Flag true (codes "b"))) (Misused UnknownFlag) (refl, refl) refl))

pub returns-clause-open_list : goal.returns-clause-open_list
unfolding start_of is_blank is_ordinary is_special
returns-clause-open_list _ = says _ (codes "formulas(goals).\n") _ refl (goes_on (command (Formulas (codes "goals"))) _ (refl, refl) refl (open_list refl))
