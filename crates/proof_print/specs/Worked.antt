-- Clauses to work out.
use Rattle.std.specs.Prelude.{ℕ, List, [], ◌∷◌, false, codes}
use Rattle.fol_core.specs.Literals.{ClauseTree}
use Rattle.fol_core.specs.SymbolTable.{Symbol, symbol}
use Rattle.fol_core.specs.declared.symbols.Kind.TheVariants.{Function, Relation}
use Rattle.derivation.specs.declared.line.Content.TheVariants.{Clause}
use Rattle.proof_lines.specs.WorkedLines.{worked_tables}
use Rattle.proof_print.specs.LineTexts.{content_text}

abbrev pub worked_symbols : List Symbol
worked_symbols = symbol (codes "man") 1 Relation ∷ symbol (codes "socrates") 0 Function ∷ []

-- the text of a clause over these symbols, with the operators at the start
abbrev pub clause_text : ClauseTree → List ℕ
clause_text c = content_text worked_tables worked_symbols false (Clause c)
