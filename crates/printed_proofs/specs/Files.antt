-- What of a file's problem can be printed.
use Rattle.std.specs.Prelude.{◌≡◌, ℕ, ◌+◌, ◌≤◌, ◌<◌, ◌^◌, Bool, false, ◌||◌, nat_le, IsTrue, List, length, slice_get, Some}
use Rattle.clausify.specs.Input.{is_used, with_skolems, axioms_in_table}
use Rattle.derivation.specs.declared.line.Content.TheVariants.{Formula}
use Rattle.fol_core.specs.Literals.{ClauseTree, equality}
use Rattle.fol_core.specs.Renumbered.{clause_variables, renumbered}
use Rattle.fol_problem.specs.Stated.{stated_of}
use Rattle.fol_core.specs.SymbolTable.{Symbol}
use Rattle.fol_problem.specs.declared.problem.Input.{Input}
use Rattle.ladr_formulas.specs.Formulas.{style_of}
use Rattle.ladr_formulas.specs.declared.styles.Mode.TheVariants.{Prover}
use Rattle.ladr_lex.specs.Operators.{OperatorRow}
use Rattle.ladr_lex.specs.ClauseNames.{clause_variable}
use Rattle.ladr_print.specs.ClauseText.{clause_raw}
use Rattle.ladr_print.specs.HasText.{IsClauseOver}
use Rattle.ladr_problem.specs.declared.read.FileRead.{FileRead}
use Rattle.ladr_reader.specs.Table.{table_of}
use Rattle.printed_proofs.specs.Refutations.{CanPrintProofs}
use Rattle.proof_lines.specs.Stated.{is_too_deep}
use Rattle.proof_print.specs.Reread.{IsPrintableClause, IsPrintableContent, row_tables}
use Rattle.proof_print.specs.Rereadable.{AreReadable, clause_uses, IsClauseOfKinds}

-- the symbols of a file's problem, with its Skolem symbols at their end
abbrev pub full_table : FileRead → List Symbol
full_table f = with_skolems f.problem.symbols (stated_of f.problem)

-- there are no more symbols of both kinds than numbers
abbrev pub HasFewSymbols : FileRead → Type 0
HasFewSymbols f =
    length f.problem.symbols + length (axioms_in_table f.problem.symbols (stated_of f.problem))
    ≤ equality

-- whether clauses of the problem may have the symbol: one of its formulas has it, or it is a Skolem
-- symbol
abbrev pub may_be_used : FileRead → ℕ → Bool
may_be_used f s =
    is_used (stated_of f.problem).formulas s || nat_le (length f.problem.symbols) s

-- the clause is one over these symbols, whatever text made it known, numbered, and not too deep for
-- a line
pub record IsClauseOfFile (f : FileRead) (c : ClauseTree) : Type 0 where
  pub over : IsClauseOver (full_table f) c
  pub kinds : IsClauseOfKinds (full_table f) c
  pub uses : (s : ℕ) → IsTrue (clause_uses c s) → s < length (full_table f)
      → IsTrue (may_be_used f s)
  pub numbered : renumbered c ≡ c
  pub few : length (clause_variables c) ≤ 2 ^ 64
  pub shallow :
      is_too_deep false (clause_raw (full_table f)
      (clause_variable f.problem.options.prolog_style_variables) c) ≡ false

-- Proofs of the problem can be printed, clauses with these operators: in its symbols with the
-- Skolem symbols, of which each that clauses may have is readable. Each clause over them can be a
-- line's content, and so can each formula of the problem with its label.
pub record CanPrintFile (f : FileRead) (clauses : List OperatorRow) : Type 0 where
  pub can : CanPrintProofs f clauses (full_table f)
  pub readable :
      AreReadable (table_of clauses) (style_of Prover f.problem.options.prolog_style_variables)
      (full_table f) (may_be_used f)
  pub each_clause :
      (c : ClauseTree) → IsClauseOfFile f c
      → IsPrintableClause (table_of clauses) f.problem.options.prolog_style_variables
      (full_table f) c
  pub each_formula :
      (k : ℕ) (i : Input) → slice_get f.problem.inputs.items k ≡ Some i
      → IsPrintableContent (row_tables f.operators clauses)
      f.problem.options.prolog_style_variables f.problem.symbols (full_table f)
      (Formula i.formula i.label)
