-- How far the code has read.
use Rattle.std.specs.Prelude.{◌≡◌, ◌⊎◌, ◌<◌, List, length, drop, map}
use Rattle.derivation.specs.declared.line.Derivation.{Derivation}
use Rattle.derivation.specs.declared.line.Line.{Line}
use Rattle.fol_core.specs.SymbolTable.{Symbol}
use Rattle.fol_problem.specs.declared.problem.Problem.{Problem}
use Rattle.ladr_formulas.specs.Formulas.{style_of}
use Rattle.ladr_formulas.specs.declared.styles.Mode.TheVariants.{Prover}
use Rattle.ladr_lex.specs.Cuts.{Piece}
use Rattle.ladr_problem.specs.Items.{lexemes}
use Rattle.ladr_problem.specs.declared.refusal.ReadError.{ReadError}
use Rattle.ladr_problem.specs.declared.refusal.ReadError.TheVariants.{Memory}
use Rattle.proof_lines.specs.ContentTokens.{tables_of}
use Rattle.proof_lines.specs.Faults.{IsLineFault}
use Rattle.proof_lines.specs.declared.operators.LineOperators.{LineOperators}
use Rattle.proof_text.specs.Proofs.{Reader, HasLines}
use Rattle.proof_text.specs.declared.proofs.LineStop.{LineStop}

-- what lines are read with, of the code
abbrev pub reader_in : LineOperators → Problem → Reader
reader_in o p =
    record {
      tables = tables_of o;
      style = style_of Prover p.options.prolog_style_variables;
      problem = p.symbols;
    }

-- lines are read, and then one is refused, which begins with this token
pub record IsLinesStop (g : Reader) (table : List Symbol) (ts : List Piece) (stop : LineStop) : Type
    0 where
  pub lines : List Line
  pub last : List Symbol
  pub within : stop.at < length ts
  pub read : HasLines g table ts lines last (drop stop.at ts)
  pub is_fault : IsLineFault g.tables g.style g.problem last (lexemes (drop stop.at ts)) stop.fault

-- the lines of proofs
abbrev pub lines_of_all : List Derivation → List (List Line)
lines_of_all ps = map (λ p. p.lines.items) ps

-- memory is lacking, or it is refused so
abbrev pub OrMemory : (ReadError → Type 0) → ReadError → Type 0
OrMemory Is e = (e ≡ Memory) ⊎ Is e
