-- A run of the machine shows each.
use Rattle.std.proofs.Common.{refl, lit≤}
use Rattle.ladr_lex.specs.declared.limits.TheConstants.{MOST_LEVELS}
use Rattle.ladr_lex.specs.Bytes.{is_blank, is_ordinary, is_special}
use Rattle.ladr_lex.specs.Starts.{start_of}
use Rattle.ladr_lex.specs.Operators.{standard_rows}
use Rattle.ladr_reader.specs.Worked.{lexemes_of_text, standard}
use Rattle.ladr_reader.proofs.Lawful.{standard_lawful}
use Rattle.ladr_reader.proofs.Live.{HasNames, table_names}
use Rattle.ladr_reader.proofs.Runs.{bad_at, bad_end}
use Rattle.ladr_reader.proofs.laws.worked_faults.Goals as goal

names : HasNames standard
names = table_names standard_rows

pub returns : goal.returns
unfolding start_of is_blank is_ordinary is_special
returns c =
    record {
      chain = bad_at MOST_LEVELS standard standard_lawful names (lexemes_of_text "a = b = c.") 3 _ _ (lit≤ tt) refl refl;
      arrows = bad_at MOST_LEVELS standard standard_lawful names (lexemes_of_text "a <-> b -> c.") 3 _ _ (lit≤ tt) refl refl;
      quantified = bad_at MOST_LEVELS standard standard_lawful names (lexemes_of_text "-all x p(x).") 1 _ _ (lit≤ tt) refl refl;
      word = bad_at MOST_LEVELS standard standard_lawful names (lexemes_of_text "all exists p.") 1 _ _ (lit≤ tt) refl refl;
      quoted_operator = bad_at MOST_LEVELS standard standard_lawful names (lexemes_of_text "a \"+\" b.") 1 _ _ (lit≤ tt) refl refl;
      quoted_variable = bad_at MOST_LEVELS standard standard_lawful names (lexemes_of_text "all \"x\" p.") 1 _ _ (lit≤ tt) refl refl;
      two_items = bad_at MOST_LEVELS standard standard_lawful names (lexemes_of_text "a. b.") 2 _ _ (lit≤ tt) refl refl;
      unclosed = bad_at MOST_LEVELS standard standard_lawful names (lexemes_of_text "p(\"a).") 2 _ _ (lit≤ tt) refl refl;
      end = bad_end MOST_LEVELS standard standard_lawful names (lexemes_of_text "p(a") 3 _ _ refl refl (λ t q e. absurd (cc));
    }
