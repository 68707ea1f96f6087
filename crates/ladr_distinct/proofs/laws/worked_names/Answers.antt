-- A pass over the tokens shows each.
use Rattle.std.proofs.Common.{refl, lit≤}
use Rattle.ladr_lex.specs.Bytes.{is_blank, is_ordinary, is_special}
use Rattle.ladr_lex.specs.Starts.{start_of}
use Rattle.ladr_reader.specs.Worked.{lexemes_of_text, standard}
use Rattle.ladr_distinct.proofs.NamesPass.{run_item, names_bad, names_end}
use Rattle.ladr_distinct.proofs.laws.worked_names.Goals as goal

pub returns : goal.returns
unfolding start_of is_blank is_ordinary is_special
returns c =
    record {
      none = run_item standard (lexemes_of_text "[].") refl;
      names = run_item standard (lexemes_of_text "[a,\"b c\",+].") refl;
      prefix = names_bad standard refl (lexemes_of_text "[-,a].") 1 _ (lit≤ tt) refl refl;
      word = names_bad standard refl (lexemes_of_text "[a,all].") 3 _ (lit≤ tt) refl refl;
      attributes = names_bad standard refl (lexemes_of_text "[#].") 1 _ (lit≤ tt) refl refl;
      before_comma = names_bad standard refl (lexemes_of_text "[,a].") 1 _ (lit≤ tt) refl refl;
      behind_comma = names_bad standard refl (lexemes_of_text "[a,].") 3 _ (lit≤ tt) refl refl;
      no_comma = names_bad standard refl (lexemes_of_text "[a b].") 2 _ (lit≤ tt) refl refl;
      arguments = names_bad standard refl (lexemes_of_text "[f(a)].") 2 _ (lit≤ tt) refl refl;
      term = names_bad standard refl (lexemes_of_text "a.") 0 _ (lit≤ tt) refl refl;
      further = names_bad standard refl (lexemes_of_text "[a]b.") 3 _ (lit≤ tt) refl refl;
      end = names_end standard refl (lexemes_of_text "[a") 2 _ refl refl (λ e. cc);
    }
