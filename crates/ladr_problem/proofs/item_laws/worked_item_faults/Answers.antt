-- A run of the machine of terms shows each, and a pass over names.
use Rattle.std.proofs.Common.{refl, lit≤}
use Rattle.ladr_lex.specs.declared.limits.TheConstants.{MOST_LEVELS}
use Rattle.ladr_lex.specs.Bytes.{is_blank, is_ordinary, is_special}
use Rattle.ladr_lex.specs.Starts.{start_of}
use Rattle.ladr_lex.specs.Operators.{standard_rows}
use Rattle.ladr_reader.specs.Worked.{lexemes_of_text, standard}
use Rattle.ladr_reader.specs.declared.fault.TermFault.TheVariants.{Bad}
use Rattle.ladr_reader.proofs.Lawful.{standard_lawful}
use Rattle.ladr_reader.proofs.Live.{table_names}
use Rattle.ladr_distinct.proofs.NamesPass.{names_bad}
use Rattle.ladr_reader.proofs.Runs.{bad_at, bad_end}
use Rattle.ladr_problem.specs.WorkedItems.{with_prefix}
use Rattle.ladr_problem.proofs.EndLemmas.{bad_behind, bad_word, fault_of_names, fault_of_term}
use Rattle.ladr_problem.proofs.item_laws.worked_item_faults.Goals as goal

pub returns : goal.returns
unfolding start_of is_blank is_ordinary is_special
returns c =
    record {
      cut_off = λ list of_terms. fault_of_term list of_terms standard_rows refl (lexemes_of_text "end_of_list") (λ e. cc) (Bad 1)
          (bad_end MOST_LEVELS standard standard_lawful (table_names standard_rows) (lexemes_of_text "end_of_list") 1 _ _ refl refl (λ t q e. absurd (cc)));
      operator = λ list. bad_behind list with_prefix (lexemes_of_text "end_of_list. a.") refl (lit≤ tt);
      further = λ list of_terms. fault_of_term list of_terms standard_rows refl (lexemes_of_text "end_of_list a.") (λ e. cc) (Bad 1)
          (bad_at MOST_LEVELS standard standard_lawful (table_names standard_rows) (lexemes_of_text "end_of_list a.") 1 _ _ (lit≤ tt) refl refl);
      names_cut_off = bad_word standard (lexemes_of_text "end_of_list") refl (λ e. cc);
      names_operator = bad_word with_prefix (lexemes_of_text "end_of_list a.") refl (λ e. cc);
      no_names = fault_of_names standard (lexemes_of_text "a != b.") (λ e. cc) (Bad 0) (names_bad standard refl (lexemes_of_text "a != b.") 0 _ (lit≤ tt) refl refl);
    }
