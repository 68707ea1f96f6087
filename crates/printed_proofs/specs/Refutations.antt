-- Printed refutations, and what their text is read as.
use Rattle.std.specs.Prelude.{◌≡◌, ℕ, ◌<◌, ◌^◌, false, IsTrue, List, [], ◌∷◌, ◌++◌, length, map}
use Rattle.std.specs.List.{list_any}
use Rattle.clausify.specs.Input.{clauses_in_table}
use Rattle.derivation.specs.Lines.{IsRefutation}
use Rattle.derivation.specs.View.{lines_of}
use Rattle.derivation.specs.declared.line.Content.{Content}
use Rattle.derivation.specs.declared.line.Content.TheVariants.{Formula, Clause}
use Rattle.derivation.specs.declared.line.Line.{Line}
use Rattle.fol_problem.specs.Stated.{Stated, stated_of}
use Rattle.fol_core.specs.SymbolTable.{Symbol, KeepsNumbers}
use Rattle.ladr_lex.specs.Operators.{OperatorRow, are_lawful}
use Rattle.ladr_problem.specs.declared.read.FileRead.{FileRead}
use Rattle.printed_proofs.specs.Printed.{PrintedProof, ArePrintableProofs, proofs_text}
use Rattle.proof_lines.specs.Strays.{is_stray_relation}
use Rattle.proof_print.specs.LineTexts.{frame_text}
use Rattle.proof_print.specs.Names.{AreOfClauses}
use Rattle.proof_print.specs.Reread.{CanPrint, row_tables}
use Rattle.derivation_laws.specs.Moved.{Moving, moved_clause}
use Rattle.derivation_laws.specs.Tables.{HasSkolems, LeadsTo}
use Rattle.proof_text.specs.Refused.{IsProofRead}
use Rattle.proof_text.specs.declared.text.ProofRead.{ProofRead}

-- a line with other numbers of its clause's symbols; a formula is the problem's, whose symbols keep
-- theirs
abbrev pub content_with : Moving → Content → Content
content_with to (Formula f label) = Formula f label
content_with to (Clause c) = Clause (moved_clause to c)

abbrev pub line_with : Moving → Line → Line
line_with to l = record l { content = content_with to l.content }

abbrev pub lines_with : Moving → List Line → List Line
lines_with to ls = map (line_with to) ls

-- each is a refutation of what is stated, with the clauses of it in the numbers of a table
abbrev pub AreAllRefuting : Stated → List Symbol → List (List Line) → Type 0
AreAllRefuting p table [] = Unit {0}
AreAllRefuting p table (ls ∷ ps) =
    IsRefutation p.formulas (clauses_in_table table p) (lines_of ls) × AreAllRefuting p table ps

-- Proofs of a file's problem can be printed in the symbols of this table, clauses with these
-- operators: each name is read as what it names, the Skolem symbols are there, and no relation is
-- named like one where the problem has no such name.
pub record CanPrintProofs (f : FileRead) (clauses : List OperatorRow) (table : List Symbol) : Type 0
  where
    pub lawful : IsTrue (are_lawful f.operators)
    pub of_clauses :
        AreOfClauses f.problem.options.prolog_style_variables f.operators clauses
    pub can : CanPrint clauses f.problem.options.prolog_style_variables table
    pub skolems : HasSkolems (stated_of f.problem) table
    pub no_stray : list_any (is_stray_relation f.problem.symbols) table ≡ false

abbrev pub lines_printed : List PrintedProof → List (List Line)
lines_printed ps = map (λ p. p.lines) ps

-- each has as many lines as a vector can have
abbrev pub HaveCountedLines : List (List Line) → Type 0
HaveCountedLines [] = Unit {0}
HaveCountedLines (ls ∷ ps) = (length ls < 2 ^ 63) × HaveCountedLines ps

-- and there are as many proofs
abbrev pub AreCounted : List (List Line) → Type 0
AreCounted ps = (length ps < 2 ^ 63) × HaveCountedLines ps

-- these proofs are refutations of the problem, and can be printed
pub record ArePrintableRefutations (f : FileRead) (clauses : List OperatorRow) (table : List Symbol)
    (ps : List PrintedProof) : Type 0 where
  pub can : CanPrintProofs f clauses table
  pub printable :
      ArePrintableProofs (row_tables f.operators clauses)
      f.problem.options.prolog_style_variables f.problem.symbols table ps
  pub refute : AreAllRefuting (stated_of f.problem) table (lines_printed ps)
  pub counted : AreCounted (lines_printed ps)

-- the text of a problem in its frame, of proofs, and of what stands behind them
abbrev pub whole_text : List ℕ → FileRead → List OperatorRow → List Symbol → List PrintedProof →
    List ℕ → List ℕ
whole_text input f clauses table ps tail =
    frame_text input
    ++ (proofs_text (row_tables f.operators clauses) table
    f.problem.options.prolog_style_variables ps ++ tail)

-- the lines of the proofs that the code has
abbrev pub lines_had : ProofRead → List (List Line)
lines_had r = map (λ d. d.lines.items) r.proofs.items

-- The text is read as the problem, and as the lines of these proofs but for the numbers of symbols
-- that aren't the problem's; in these numbers, too, each of them is a refutation.
pub record ReadsRefutations (bytes : List ℕ) (f : FileRead) (table : List Symbol)
    (ps : List PrintedProof) : Type 0 where
  pub read : ProofRead
  pub is_read : IsProofRead bytes read
  pub problem_is : read.problem ≡ f.problem
  pub keeps : KeepsNumbers f.problem.symbols read.symbols
  pub to : Moving
  pub back : Moving
  pub leads : LeadsTo table read.symbols to back
  pub proofs_are : lines_had read ≡ map (lines_with to) (lines_printed ps)
  pub refute : AreAllRefuting (stated_of f.problem) read.symbols (lines_had read)
