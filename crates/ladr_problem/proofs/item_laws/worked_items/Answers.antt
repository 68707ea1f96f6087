-- A run of the machine of terms shows each, and a pass over names.
use Rattle.std.proofs.Common.{refl}
use Rattle.ladr_lex.specs.Bytes.{is_blank, is_ordinary, is_special}
use Rattle.ladr_lex.specs.Starts.{start_of}
use Rattle.ladr_reader.specs.Worked.{lexemes_of_text, standard}
use Rattle.ladr_reader.proofs.Lawful.{Lawful, standard_lawful, table_lawful}
use Rattle.ladr_distinct.proofs.NamesPass.{run_item as run_names}
use Rattle.ladr_reader.proofs.Runs.{run_item}
use Rattle.ladr_problem.specs.WorkedItems.{prefix_rows, with_prefix}
use Rattle.ladr_problem.proofs.item_laws.worked_items.Goals as goal

lawful : Lawful with_prefix
unfolding is_ordinary is_special
lawful = table_lawful prefix_rows refl

pub returns : goal.returns
unfolding start_of is_blank is_ordinary is_special
returns c =
    record {
      end = λ list. refl;
      term = λ list of_terms. (of_terms, λ e. cc, run_item standard standard_lawful _ _ 0 refl);
      operator = λ list. refl;
      argument = λ list of_terms. (of_terms, λ e. cc, run_item with_prefix lawful _ _ 500 refl);
      names = (refl, run_names standard (lexemes_of_text "[a,end_of_list].") refl);
    }
