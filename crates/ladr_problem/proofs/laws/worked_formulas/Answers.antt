use Rattle.std.proofs.Common.{[], codes, refl, lit≤}
use Rattle.ladr_lex.specs.declared.limits.TheConstants.{MOST_LEVELS}
use Rattle.ladr_lex.specs.declared.misuse.Misuse.TheVariants.{TwoKinds, UnfitHint, UnfitDemodulator, UnfitRule}
use Rattle.ladr_commands.specs.ByName.{by_name}
use Rattle.ladr_commands.specs.declared.command.Command.TheVariants.{Formulas, If, EndIf, Interpretation}
use Rattle.ladr_commands.specs.declared.command.Command.TheVariants as of_commands
use Rattle.ladr_problem.proofs.EndLemmas.{fault_of_term}
use Rattle.ladr_settings.specs.declared.lists.FormulaList.TheVariants.{Assumptions, Demodulators, Goals, Hints}
use Rattle.ladr_settings.specs.declared.lists.OpenList.TheVariants as listed
use Rattle.ladr_problem.specs.ListItem.{closing, term}
use Rattle.ladr_lex.specs.Bytes.{is_blank, is_ordinary, is_special}
use Rattle.ladr_lex.specs.Starts.{start_of}
use Rattle.ladr_lex.specs.Operators.{standard_rows}
use Rattle.ladr_problem.specs.Adding.{command, within}
use Rattle.ladr_problem.specs.File.{ends, bad, breaks, goes_on}
use Rattle.ladr_problem.specs.declared.refusal.Refusal.TheVariants.{Misused}
use Rattle.ladr_problem.proofs.WorkedFiles.{says, read}
use Rattle.ladr_problem.proofs.laws.worked_formulas.Goals as goal
use Rattle.ladr_reader.proofs.Lawful.{standard_lawful}
use Rattle.ladr_reader.proofs.Live.{table_names}
use Rattle.ladr_reader.proofs.Runs.{bad_at}
use Rattle.ladr_formulas.specs.Formulas.{named_variable}
use Rattle.ladr_reader.specs.Worked.{lexemes_of_text, constant, unary, binary, standard}
use Rattle.ladr_reader.specs.declared.fault.TermFault.TheVariants.{Bad}

pub returns-clause-listed : goal.returns-clause-listed
unfolding start_of is_blank is_ordinary is_special named_variable
returns-clause-listed _ =
    says _ (codes "formulas(sos).\np(a) # label(b).\nend_of_list.\nformulas(goals).\nq(x).\nend_of_list.\n") _ refl
    (goes_on (command (Formulas (codes "sos"))) _ (refl, refl) refl
    (goes_on (within (term (binary "#" (unary "p" (constant "a")) (unary "label" (constant "b"))))) _ (listed.Formulas Assumptions, refl, read (listed.Formulas Assumptions) (λ e. cc) 810 (λ e. cc) refl) refl
    (goes_on (within closing) _ (listed.Formulas Assumptions, refl, refl) refl
    (goes_on (command (Formulas (codes "goals"))) _ (refl, refl) refl
    (goes_on (within (term (unary "q" (constant "x")))) _ (listed.Formulas Goals, refl, read (listed.Formulas Goals) (λ e. cc) 0 (λ e. cc) refl) refl
    (goes_on (within closing) _ (listed.Formulas Goals, refl, refl) refl
    (ends refl refl)))))))

pub returns-clause-clash : goal.returns-clause-clash
unfolding start_of is_blank is_ordinary is_special named_variable
returns-clause-clash _ =
    says _ (codes "formulas(sos).\nf(a).\nf(a) = b.\nend_of_list.\n") _ refl
    (goes_on (command (Formulas (codes "sos"))) _ (refl, refl) refl
    (goes_on (within (term (unary "f" (constant "a")))) _ (listed.Formulas Assumptions, refl, read (listed.Formulas Assumptions) (λ e. cc) 0 (λ e. cc) refl) refl
    (breaks (within (term (binary "=" (unary "f" (constant "a")) (constant "b")))) (Misused TwoKinds) (listed.Formulas Assumptions, refl, read (listed.Formulas Assumptions) (λ e. cc) 700 (λ e. cc) refl) refl)))

pub returns-clause-for_another : goal.returns-clause-for_another
unfolding start_of is_blank is_ordinary is_special named_variable
returns-clause-for_another _ =
    says _ (codes "if(Mace4). formulas(sos). f(a). end_of_list. end_if. formulas(sos). f(a)=b. end_of_list.") _ refl
    (goes_on (command (If (codes "Mace4"))) _ (refl, refl) refl
    (goes_on (command (Formulas (codes "sos"))) _ (refl, refl) refl
    (goes_on (within (term (unary "f" (constant "a")))) _ (listed.Formulas Assumptions, refl, read (listed.Formulas Assumptions) (λ e. cc) 0 (λ e. cc) refl) refl
    (goes_on (within closing) _ (listed.Formulas Assumptions, refl, refl) refl
    (goes_on (command EndIf) _ (refl, refl) refl
    (goes_on (command (Formulas (codes "sos"))) _ (refl, refl) refl
    (goes_on (within (term (binary "=" (unary "f" (constant "a")) (constant "b")))) _ (listed.Formulas Assumptions, refl, read (listed.Formulas Assumptions) (λ e. cc) 700 (λ e. cc) refl) refl
    (goes_on (within closing) _ (listed.Formulas Assumptions, refl, refl) refl
    (ends refl refl)))))))))

pub returns-clause-hint : goal.returns-clause-hint
unfolding start_of is_blank is_ordinary is_special named_variable
returns-clause-hint _ =
    says _ (codes "formulas(hints).\np | -q.\np & q.\nend_of_list.\n") _ refl
    (goes_on (command (Formulas (codes "hints"))) _ (refl, refl) refl
    (goes_on (within (term (binary "|" (constant "p") (unary "-" (constant "q"))))) _ (listed.Formulas Hints, refl, read (listed.Formulas Hints) (λ e. cc) 790 (λ e. cc) refl) refl
    (breaks (within (term (binary "&" (constant "p") (constant "q")))) (Misused UnfitHint) (listed.Formulas Hints, refl, read (listed.Formulas Hints) (λ e. cc) 780 (λ e. cc) refl) refl)))

pub returns-clause-demodulator : goal.returns-clause-demodulator
unfolding start_of is_blank is_ordinary is_special named_variable
returns-clause-demodulator _ =
    says _ (codes "formulas(demodulators).\nf(x) = x.\nx = f(x).\nend_of_list.\n") _ refl
    (goes_on (command (Formulas (codes "demodulators"))) _ (refl, refl) refl
    (goes_on (within (term (binary "=" (unary "f" (constant "x")) (constant "x")))) _ (listed.Formulas Demodulators, refl, read (listed.Formulas Demodulators) (λ e. cc) 700 (λ e. cc) refl) refl
    (breaks (within (term (binary "=" (constant "x") (unary "f" (constant "x"))))) (Misused UnfitDemodulator) (listed.Formulas Demodulators, refl, read (listed.Formulas Demodulators) (λ e. cc) 700 (λ e. cc) refl) refl)))

pub returns-clause-weights : goal.returns-clause-weights
unfolding start_of is_blank is_ordinary is_special named_variable
returns-clause-weights _ =
    says _ (codes "list(kbo_weights).\nf = 2.\ng = 3.\nend_of_list.\n") _ refl
    (goes_on (command (of_commands.List (codes "kbo_weights"))) _ (refl, refl) refl
    (goes_on (within (term (binary "=" (constant "f") (constant "2")))) _ (listed.KboWeights, refl, read listed.KboWeights (λ e. cc) 700 (λ e. cc) refl) refl
    (goes_on (within (term (binary "=" (constant "g") (constant "3")))) _ (listed.KboWeights, refl, read listed.KboWeights (λ e. cc) 700 (λ e. cc) refl) refl
    (goes_on (within closing) _ (listed.KboWeights, refl, refl) refl
    (ends refl refl)))))

pub returns-clause-weighed_twice : goal.returns-clause-weighed_twice
unfolding start_of is_blank is_ordinary is_special named_variable
returns-clause-weighed_twice _ =
    says _ (codes "list(kbo_weights).\nf = 2.\nf = 3.\nend_of_list.\n") _ refl
    (goes_on (command (of_commands.List (codes "kbo_weights"))) _ (refl, refl) refl
    (goes_on (within (term (binary "=" (constant "f") (constant "2")))) _ (listed.KboWeights, refl, read listed.KboWeights (λ e. cc) 700 (λ e. cc) refl) refl
    (breaks (within (term (binary "=" (constant "f") (constant "3")))) (Misused UnfitRule) (listed.KboWeights, refl, read listed.KboWeights (λ e. cc) 700 (λ e. cc) refl) refl)))

pub returns-clause-lacking : goal.returns-clause-lacking
unfolding start_of is_blank is_ordinary is_special named_variable
returns-clause-lacking _ =
    says _ (codes "interpretation(2,[],[]).\nformulas(sos).\np.\nend_of_list.\n") _ refl
    (goes_on (command (Interpretation (by_name 2 []))) _ (refl, refl) refl
    (goes_on (command (Formulas (codes "sos"))) _ (refl, refl) refl
    (goes_on (within (term (constant "p"))) _ (listed.Formulas Assumptions, refl, read (listed.Formulas Assumptions) (λ e. cc) 0 (λ e. cc) refl) refl
    (goes_on (within closing) _ (listed.Formulas Assumptions, refl, refl) refl
    (ends refl refl)))))

pub returns-clause-not_read : goal.returns-clause-not_read
unfolding start_of is_blank is_ordinary is_special named_variable
returns-clause-not_read _ =
    says _ (codes "formulas(sos).\np(a) q.\nend_of_list.\n") _ refl
    (goes_on (command (Formulas (codes "sos"))) _ (refl, refl) refl
    (bad 4 (fault_of_term (listed.Formulas Assumptions) (λ e. cc) standard_rows refl (lexemes_of_text "p(a) q.") (λ e. cc) (Bad 4) (bad_at MOST_LEVELS standard standard_lawful (table_names standard_rows) (lexemes_of_text "p(a) q.") 4 _ _ (lit≤ tt) refl refl))))
