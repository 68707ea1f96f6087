-- The proofs of a text: the lines of its blocks, read one behind the other.
use Rattle.std.specs.Prelude.{List, [], ◌∷◌, drop}
use Rattle.fol_core.specs.SymbolTable.{Symbol}
use Rattle.derivation.specs.declared.line.Line.{Line}
use Rattle.ladr_formulas.specs.declared.styles.Style.{Style}
use Rattle.ladr_lex.specs.Cuts.{Piece, Cuts}
use Rattle.ladr_problem.specs.Items.{lexemes}
use Rattle.proof_lines.specs.ContentTokens.{LineTables}
use Rattle.proof_lines.specs.Faults.{IsLineRead}
use Rattle.proof_lines.specs.declared.line.LineRead.{LineRead}
use Rattle.proof_text.specs.Blocks.{TextBlock, bare}

-- what lines are read with: the operators, the style of variables, and the problem's symbols
pub record Reader : Type 0 where
  pub tables : LineTables
  pub style : Style
  pub problem : List Symbol

-- tokens begin with these lines, read behind a table; the tokens behind them are left, and the
-- table is this one then
pub data HasLines (g : Reader) : List Symbol → List Piece → List Line → List Symbol → List Piece →
    Type 0 where
  no_line : {table : List Symbol} {ts : List Piece} → HasLines g table ts [] table ts
  further_line :
      {table mid last : List Symbol} {ts us : List Piece} {ls : List Line} (r : LineRead) →
      IsLineRead g.tables g.style g.problem table (lexemes ts) r mid →
      HasLines g mid (drop r.len ts) ls last us →
      HasLines g table ts (r.line ∷ ls) last us

-- the tokens of a block are these lines
abbrev pub HasBlockLines : Reader → List Symbol → TextBlock → List Line → List Symbol → Type 0
HasBlockLines g table b ls last =
    (ts : List Piece) × Cuts b.start (bare b) ts × HasLines g table ts ls last []

-- blocks have these lines, block by block
pub data HasProofs (g : Reader) : List Symbol → List TextBlock → List (List Line) → List Symbol →
    Type 0 where
  no_block : {table : List Symbol} → HasProofs g table [] [] table
  further_block :
      {table mid last : List Symbol} {b : TextBlock} {bs : List TextBlock} {ls : List Line}
      {ps : List (List Line)} →
      HasBlockLines g table b ls mid → HasProofs g mid bs ps last →
      HasProofs g table (b ∷ bs) (ls ∷ ps) last
