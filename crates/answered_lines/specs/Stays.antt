-- The elements and symbols that answers may have, and the lines of derivations with answers.
use Rattle.std.specs.Prelude.{ℕ, ◌≡◌, false, List, [], None}
use Rattle.std.specs.List.{AllByRecursion}
use Rattle.answers.specs.AnswerTrees.{Answer}
use Rattle.answered_lines.specs.Lines.{Asked, AnsweredRow, with_terms, plain_rows, AnsweredLine, plain_lines, AreLinesWith}
use Rattle.answered_lines.specs.Shows.{LinesNameWithin}
use Rattle.clausify.specs.Asked.{answer_terms_in_table}
use Rattle.clausify.specs.Input.{clauses_in_table}
use Rattle.derivation.specs.Lines.{ContentTree, formula, clause}
use Rattle.derivation_laws.specs.Elements.{RowsNameNot, FirstsNameNot}
use Rattle.derivation_laws.specs.Signatures.{Signature, AreTermsIn, IsClauseIn, LinesPutIn}
use Rattle.fol_core.specs.Meaning.{Meaning}
use Rattle.fol_core.specs.Occurs.{names_in_any}
use Rattle.fol_core.specs.SymbolTable.{Symbol}
use Rattle.fol_problem.specs.Stated.{Stated}

-- the terms of answers are in a signature
abbrev pub AreAnswersIn : Signature → List Answer → Type 0
AreAnswersIn g us = AllByRecursion (λ a. AreTermsIn g a.terms) us

-- an input clause is, with the terms of its answer
abbrev pub AnsweredRowsAreIn : Signature → List AnsweredRow → Type 0
AnsweredRowsAreIn g rows = AllByRecursion (λ r. IsClauseIn g r.row.1 × AreTermsIn g r.terms) rows

-- and a line's clause, with its answers
abbrev pub BothAreIn : Signature → ContentTree → List Answer → Type 0
BothAreIn g (formula f) us = Unit {0}
BothAreIn g (clause c) us = IsClauseIn g c × AreAnswersIn g us

abbrev pub AnsweredLinesAreIn : Signature → List AnsweredLine → Type 0
AnsweredLinesAreIn g ls = AllByRecursion (λ l. BothAreIn g l.line.content l.answers) ls

-- The clauses of a derivation's lines are, with their answers, in each signature that its input
-- clauses are in, with theirs, and the terms that its lines put in.
abbrev pub AnsweredLinesStayIn : Type 0
AnsweredLinesStayIn =
    (g : Signature) (ss : List Asked) (rows : List AnsweredRow) (ls : List AnsweredLine) →
    AnsweredRowsAreIn g rows → LinesPutIn g (plain_lines ls) → AreLinesWith ss rows [] None ls
    → AnsweredLinesAreIn g ls

-- the terms of input clauses' answers don't name the element
abbrev pub RowTermsNameNot : ℕ → List AnsweredRow → Type 0
RowTermsNameNot k rows = AllByRecursion (λ r. names_in_any k r.terms ≡ false) rows

-- those of a problem's clauses name none
abbrev pub AskedTermsNameNothing : Type 0
AskedTermsNameNothing =
    (k : ℕ) (table : List Symbol) (p : Stated) (asks : List (List ℕ)) →
    RowTermsNameNot k (with_terms (clauses_in_table table p) (answer_terms_in_table table p asks))

-- where neither these nor the clauses, nor the terms that lines put in, name an element, lines name
-- none that an interpretation hasn't
abbrev pub AnsweredLinesNameWithin : Type 0
AnsweredLinesNameWithin =
    (m : Meaning) (ss : List Asked) (rows : List AnsweredRow) (ls : List AnsweredLine) →
    ((k : ℕ) → RowsNameNot k (plain_rows rows)) → ((k : ℕ) → RowTermsNameNot k rows)
    → ((k : ℕ) → FirstsNameNot k (plain_lines ls)) → AreLinesWith ss rows [] None ls
    → LinesNameWithin m ls
