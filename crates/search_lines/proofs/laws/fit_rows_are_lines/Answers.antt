use Rattle.ladr_lex.specs.ClauseNames.{clause_variable}
use Rattle.printed_proofs.specs.Files.{full_table}
use Rattle.search_lines.proofs.Levels.{not_too_deep}
use Rattle.search_lines.proofs.laws.fit_rows_are_lines.Goals as goal

pub returns : goal.returns
returns _ = λ f c fit. record {
  over = fit.over;
  kinds = fit.kinds;
  uses = fit.uses;
  numbered = fit.numbered;
  few = fit.few;
  shallow = not_too_deep (full_table f) (clause_variable f.problem.options.prolog_style_variables) c fit.depth;
}
