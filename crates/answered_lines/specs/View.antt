-- The lines of the code with their notes, what a problem asks for, and the answers of its clauses.
use Rattle.std.specs.Prelude.{List, map, option_map}
use Rattle.answered_lines.specs.Lines.{Asked, with_asks, AnsweredRow, with_terms, AnsweredLine}
use Rattle.answers.specs.AnswerView.{answers_of}
use Rattle.derivation.specs.View.{line_tree}
use Rattle.derivation.specs.declared.line.Line.{Line}
use Rattle.fol_core.specs.Tree.{trees_of}
use Rattle.fol_core.specs.declared.clause.Clauses.{Clauses}
use Rattle.fol_problem.specs.Asks.{asks_of}
use Rattle.fol_problem.specs.Stated.{all_said}
use Rattle.fol_problem.specs.declared.problem.Problem.{Problem}

abbrev pub answered_line : Line → AnsweredLine
answered_line l =
    record {
      line = line_tree l;
      asks = option_map (λ places. places.items) l.notes.asks;
      answers = answers_of l.notes.answers.items;
    }

abbrev pub answered_lines_of : List Line → List AnsweredLine
answered_lines_of ls = map answered_line ls

abbrev pub asked_of : Problem → List Asked
asked_of p = with_asks (all_said p.inputs.items) (asks_of p)

abbrev pub answered_rows_of : Clauses → List AnsweredRow
answered_rows_of cs = with_terms cs.clauses.items (map trees_of cs.answers.items)
