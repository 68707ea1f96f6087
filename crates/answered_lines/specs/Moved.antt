-- Derivations with answers with other numbers of their symbols.
use Rattle.std.specs.Prelude.{ℕ, List, map}
use Rattle.answers.specs.AnswerTrees.{Answer, answer}
use Rattle.answered_lines.specs.Lines.{Asked, asked, with_asks, AnsweredRow, answered_row, with_terms, AnsweredLine, IsRefutationWith}
use Rattle.clausify.specs.Asked.{answer_terms_in_table}
use Rattle.clausify.specs.Input.{clauses_in_table}
use Rattle.derivation_laws.specs.Moved.{Moving, moved_terms, moved_clause, moved_formula, moved_line, IsExchange}
use Rattle.derivation_laws.specs.Tables.{IsWithinTable, LeadsTo, IsTableOf, HasSkolems}
use Rattle.fol_core.specs.SymbolTable.{Symbol}
use Rattle.fol_problem.specs.Stated.{said, Stated, IsWellFormed}

abbrev pub moved_answer : Moving → Answer → Answer
moved_answer to a = answer a.goal (moved_terms to a.terms)

abbrev pub moved_answers : Moving → List Answer → List Answer
moved_answers to us = map (moved_answer to) us

-- what is asked for are places, which stay
abbrev pub moved_asked : Moving → List Asked → List Asked
moved_asked to ss =
    map (λ s. asked (said s.said.role (moved_formula to s.said.formula)) s.places) ss

abbrev pub moved_row : Moving → AnsweredRow → AnsweredRow
moved_row to r = answered_row (r.row.0, moved_clause to r.row.1) (moved_terms to r.terms)

abbrev pub moved_answered_rows : Moving → List AnsweredRow → List AnsweredRow
moved_answered_rows to rows = map (moved_row to) rows

abbrev pub moved_answered_line : Moving → AnsweredLine → AnsweredLine
moved_answered_line to l =
    record {
      line = moved_line to l.line;
      asks = l.asks;
      answers = moved_answers to l.answers;
    }

abbrev pub moved_answered_lines : Moving → List AnsweredLine → List AnsweredLine
moved_answered_lines to ls = map (moved_answered_line to) ls

-- a refutation with answers stays one when symbols exchange their numbers in it, and in what it
-- refutes
abbrev pub RefutationIsMovedWith : Type 0
RefutationIsMovedWith =
    (to back : Moving) (ss : List Asked) (rows : List AnsweredRow) (ls : List AnsweredLine)
    → IsExchange to back → IsRefutationWith ss rows ls
    → IsRefutationWith (moved_asked to ss) (moved_answered_rows to rows)
    (moved_answered_lines to ls)

-- the clauses of what is stated, in the numbers of a table, with the terms of their answers
abbrev pub answered_rows_in_table : List Symbol → Stated → List (List ℕ) → List AnsweredRow
answered_rows_in_table table p asks =
    with_terms (clauses_in_table table p) (answer_terms_in_table table p asks)

-- refutations in the numbers of the one table are refutations in those of the other
abbrev pub KeepsRefutationsWith : Stated → List (List ℕ) → List Symbol → List Symbol → Moving →
    Type 0
KeepsRefutationsWith p asks all table to =
    (ls : List AnsweredLine)
    → IsRefutationWith (with_asks p.formulas asks) (answered_rows_in_table all p asks) ls
    → IsRefutationWith (with_asks p.formulas asks) (answered_rows_in_table table p asks)
    (moved_answered_lines to ls)

-- so behind a table of the problem's symbols with some of those of a larger one, in whatever order
abbrev pub RefutationIsReadWith : Type 0
RefutationIsReadWith =
    (p : Stated) (asks : List (List ℕ)) (all table : List Symbol) → IsWellFormed p →
    HasSkolems p all → IsTableOf p table → IsWithinTable table all
    → (to : Moving) × (back : Moving) × LeadsTo all table to back
    × KeepsRefutationsWith p asks all table to
