-- Why a text is none of proofs.
use Rattle.std.specs.Prelude.{◌≡◌, ℕ, ◌-◌, ◌<◌, Bool, true, false, List, [], ◌∷◌, ◌++◌, length, map, slice_get, if◌then◌else◌, codes}
use Rattle.std.specs.List.{list_all}
use Rattle.std.specs.Option.{option_map_or}
use Rattle.derivation.specs.declared.line.Line.{Line}
use Rattle.fol_core.specs.SymbolTable.{Symbol}
use Rattle.ladr_formulas.specs.Formulas.{style_of}
use Rattle.ladr_formulas.specs.declared.styles.Mode.TheVariants.{Prover}
use Rattle.ladr_lex.specs.Cuts.{Piece, Cuts}
use Rattle.ladr_lex.specs.Places.{line_of, column_of}
use Rattle.ladr_problem.specs.File.{Says, start_at}
use Rattle.ladr_problem.specs.File as outcome
use Rattle.ladr_problem.specs.Items.{lexemes}
use Rattle.ladr_problem.specs.Places.{shown_byte, shown, IsReadError}
use Rattle.ladr_problem.specs.Sofar.{Sofar}
use Rattle.ladr_problem.specs.Whole.{IsOf}
use Rattle.ladr_problem.specs.declared.read.FileRead.{FileRead}
use Rattle.ladr_problem.specs.declared.refusal.Limit.TheVariants as limit
use Rattle.ladr_problem.specs.declared.refusal.Place.{Place}
use Rattle.ladr_problem.specs.declared.refusal.ReadError.{ReadError}
use Rattle.ladr_problem.specs.declared.refusal.ReadError.TheVariants.{Unreadable, Misuse, TooLarge, Memory}
use Rattle.proof_lines.specs.ContentTokens.{line_tables, tables_of}
use Rattle.proof_lines.specs.Faults.{IsLineFault}
use Rattle.proof_lines.specs.declared.fault.LineFault.{LineFault}
use Rattle.proof_lines.specs.declared.fault.LineFault.TheVariants as fault
use Rattle.proof_text.specs.Blocks.{TextBlock, HasBlocks, lines_in, bare, end_of_block}
use Rattle.proof_text.specs.Frame.{IsFramed, IsUnframed}
use Rattle.proof_text.specs.Proofs.{Reader, HasLines, HasProofs}
use Rattle.proof_text.specs.declared.text.ProofRead.{ProofRead}

-- the line and the column of a byte, and this token
pub record IsPlaceOf (bytes token : List ℕ) (p : Place) : Type 0 where
  pub line : p.line ≡ line_of bytes p.byte
  pub column : p.column ≡ column_of bytes p.byte
  pub token_is : p.token ≡ token

-- one byte as it is shown; behind the last one the input ends
abbrev pub byte_shown : List ℕ → ℕ → List ℕ
byte_shown bytes byte =
    option_map_or (λ b. shown_byte b ∷ []) (slice_get bytes byte) (codes "end of input")

-- the text can't be read at this byte
abbrev pub IsUnreadableAt : List ℕ → ℕ → ReadError → Type 0
IsUnreadableAt bytes byte (Unreadable p) =
    (p.byte ≡ byte) × IsPlaceOf bytes (byte_shown bytes byte) p
IsUnreadableAt bytes byte e = ⊥

-- what is shown of a token of a block; behind the last one its banner stands, or the input ends
abbrev pub token_shown : Bool → List Piece → ℕ → List ℕ
token_shown closed ts k =
    option_map_or shown (slice_get ts k)
    (if closed then codes "====================" else codes "end of input")

-- the place of token k of those left of a block that ends at a byte
abbrev pub IsTokenPlace : List ℕ → ℕ → Bool → List Piece → ℕ → Place → Type 0
IsTokenPlace bytes end closed ts k p =
    (p.byte ≡ start_at end ts k) × IsPlaceOf bytes (token_shown closed ts k) p

-- A line that begins with these tokens of a block is refused: at the bad token, or else at its
-- first one.
abbrev pub IsLineRefused : List ℕ → ℕ → Bool → List Piece → LineFault → ReadError → Type 0
IsLineRefused bytes end closed ts (fault.Bad k) (Unreadable p) =
    IsTokenPlace bytes end closed ts k p
IsLineRefused bytes end closed ts fault.Deep (TooLarge byte what) =
    (byte ≡ start_at end ts 0) × (what ≡ limit.Nesting)
IsLineRefused bytes end closed ts (fault.Misused m) (Misuse p row) =
    IsTokenPlace bytes end closed ts 0 p × (row ≡ m)
IsLineRefused bytes end closed ts why e = ⊥

-- Lines of a block are read, and then one is refused, which begins with the tokens that are left.
pub record IsBlockRefused (g : Reader) (table : List Symbol) (bytes : List ℕ) (b : TextBlock)
    (e : ReadError) : Type 0 where
  pub tokens : List Piece
  pub cut : Cuts b.start (bare b) tokens
  pub lines : List Line
  pub last : List Symbol
  pub left : List Piece
  pub read : HasLines g table tokens lines last left
  pub some : 0 < length left
  pub why : LineFault
  pub is_fault : IsLineFault g.tables g.style g.problem last (lexemes left) why
  pub refused : IsLineRefused bytes (end_of_block b) b.closed left why e

-- the first block that is refused so
pub record HasRefusedBlock (g : Reader) (table : List Symbol) (bytes : List ℕ) (bs : List TextBlock)
    (e : ReadError) : Type 0 where
  pub before : List TextBlock
  pub block : TextBlock
  pub behind : List TextBlock
  pub split : bs ≡ before ++ (block ∷ behind)
  pub proofs : List (List Line)
  pub middle : List Symbol
  pub read : HasProofs g table before proofs middle
  pub here : IsBlockRefused g middle bytes block e

-- what the lines of a problem are read with
abbrev pub reader_of : FileRead → Reader
reader_of f = record {
  tables = line_tables f.problem.options.prolog_style_variables f.operators;
  style = style_of Prover f.problem.options.prolog_style_variables;
  problem = f.problem.symbols;
}

-- The text has a frame with a problem, and behind it these blocks.
pub record HasProblem (bytes : List ℕ) (f : FileRead) (bs : List TextBlock) : Type 0 where
  pub input : List ℕ
  pub rest : List ℕ
  pub framed : IsFramed bytes input rest
  pub sofar : Sofar
  pub says : Says Prover input (outcome.problem sofar)
  pub is_of : IsOf sofar f
  pub blocks : HasBlocks (length bytes - length rest) (lines_in rest) bs

-- The text is refused so, at the first fault of its frame, its problem, its lines or its last
-- block. Nothing is said of memory.
pub data IsProofError (bytes : List ℕ) : ReadError → Type 0 where
  frame : {e : ReadError} (byte : ℕ) → IsUnframed bytes byte → IsUnreadableAt bytes byte e →
      IsProofError bytes e
  problem : {e : ReadError} {input rest : List ℕ} → IsFramed bytes input rest →
      IsReadError Prover input e → IsProofError bytes e
  line :
      {e : ReadError} {f : FileRead} {bs : List TextBlock} → HasProblem bytes f bs →
      HasRefusedBlock (reader_of f) f.problem.symbols bytes bs e → IsProofError bytes e
  open_block :
      {e : ReadError} {f : FileRead} {bs : List TextBlock} {ps : List (List Line)}
      {last : List Symbol}
      → HasProblem bytes f bs →
      HasProofs (reader_of f) f.problem.symbols bs ps last → list_all (λ b. b.closed) bs ≡ false →
      IsUnreadableAt bytes (length bytes) e → IsProofError bytes e
  memory : IsProofError bytes Memory

-- The code has what the text says: its problem, the operators of lines, the proofs, and the symbols
-- of all.
pub record IsProofRead (bytes : List ℕ) (r : ProofRead) : Type 0 where
  pub file : FileRead
  pub blocks : List TextBlock
  pub has_problem : HasProblem bytes file blocks
  pub problem_is : r.problem ≡ file.problem
  pub operators_are : tables_of r.operators ≡ (reader_of file).tables
  pub closed : list_all (λ b. b.closed) blocks ≡ true
  pub proofs_are : HasProofs (reader_of file) file.problem.symbols blocks
      (map (λ d. d.lines.items) r.proofs.items) r.symbols
