-- A run of the machine shows each.
use Rattle.std.proofs.Common.{refl, lit≤}
use Rattle.ladr_lex.specs.declared.limits.TheConstants.{MOST_LEVELS}
use Rattle.ladr_lex.specs.Bytes.{is_blank, is_ordinary, is_special}
use Rattle.ladr_lex.specs.Starts.{start_of}
use Rattle.ladr_reader.specs.Worked.{lexemes_of_text, declared_rows, with_declared}
use Rattle.ladr_reader.proofs.Lawful.{Lawful, table_lawful}
use Rattle.ladr_reader.proofs.Live.{table_names}
use Rattle.ladr_reader.proofs.Runs.{run_item, bad_at}
use Rattle.ladr_reader.proofs.laws.worked_declared.Goals as goal

lawful : Lawful with_declared
unfolding is_ordinary is_special
lawful = table_lawful declared_rows refl

pub returns : goal.returns
unfolding start_of is_blank is_ordinary is_special
returns c =
    record {
      to_the_left = run_item with_declared lawful _ _ 750 refl;
      body = run_item with_declared lawful _ _ 750 refl;
      postfix = run_item with_declared lawful _ _ 350 refl;
      below = run_item with_declared lawful _ _ 400 refl;
      not_below = bad_at MOST_LEVELS with_declared lawful (table_names declared_rows) (lexemes_of_text "~ ~ a.") 1 _ _ (lit≤ tt) refl refl;
    }
