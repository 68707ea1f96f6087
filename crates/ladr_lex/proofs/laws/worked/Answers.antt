use Rattle.std.proofs.Common.{refl}
use Rattle.ladr_lex.specs.Bytes.{is_blank, is_ordinary, is_special}
use Rattle.ladr_lex.specs.Starts.{start_of}
use Rattle.ladr_lex.specs.Worked.{worked_formula, special_line, comment_lines, quoted_line, open_lines}
use Rattle.ladr_lex.proofs.Lexing.{cuts_text}
use Rattle.ladr_lex.proofs.laws.worked.Goals as goal

pub returns : goal.returns
unfolding start_of is_blank is_ordinary is_special
returns c =
    record {
      formula = cuts_text worked_formula;
      special = cuts_text special_line;
      comments = cuts_text comment_lines;
      quoted_symbols = cuts_text quoted_line;
      unclosed = cuts_text open_lines;
      line = refl;
      column = refl;
    }
