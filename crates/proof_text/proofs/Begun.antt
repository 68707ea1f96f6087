-- The proofs of a text whose problem is read.
use Rattle.std.proofs.Common.{◌≡◌, ◌∙◌, inl, inr, ℕ, Bool, true, false, ◌&&◌, List, length, refl, ap, ap₂, sym, subst}
use Rattle.std.specs.List.{list_all}
use Rattle.derivation.specs.declared.line.Derivation.{Derivation}
use Rattle.derivation.specs.declared.line.Line.{Line}
use Rattle.fol_core.specs.SymbolTable.{Symbol}
use Rattle.fol_problem.specs.declared.problem.Problem.{Problem}
use Rattle.ladr_formulas.specs.Formulas.{style_of}
use Rattle.ladr_formulas.specs.declared.styles.Mode.TheVariants.{Prover}
use Rattle.ladr_problem.specs.declared.read.FileRead.{FileRead}
use Rattle.ladr_problem.specs.declared.refusal.ReadError.{ReadError}
use Rattle.proof_lines.specs.ContentTokens.{LineTables, tables_of}
use Rattle.proof_text.specs.Begun.{IsWithoutProofs}
use Rattle.proof_text.specs.Blocks.{TextBlock}
use Rattle.proof_text.specs.Found.{AreBlocksRead, none, further}
use Rattle.proof_text.specs.Going.{reader_in, lines_of_all, OrMemory}
use Rattle.proof_text.specs.Proofs.{Reader, HasProofs}
use Rattle.proof_text.specs.Refused.{HasProblem, HasRefusedBlock, IsUnreadableAt, IsProofRead, IsProofError, line, open_block, memory, reader_of}
use Rattle.proof_text.specs.declared.blocks.BlockRead.{BlockRead}
use Rattle.proof_text.specs.declared.text.ProofRead.{ProofRead}

-- each block has its end as the code has it
same_closed : {bs : List TextBlock} {rs : List BlockRead} → AreBlocksRead bs rs → list_all (λ (b : TextBlock). b.closed) bs ≡ list_all (λ (r : BlockRead). r.closed) rs
same_closed none = refl
same_closed (further is more) = ap₂ (λ (x y : Bool). x && y) (sym is.closed) (same_closed more)

-- lines are read with the tables, the style and the symbols of the problem
same_reader : (f : FileRead) (r : ProofRead) → IsWithoutProofs f r → reader_in r.operators r.problem ≡ reader_of f
same_reader f r begun =
    let made : LineTables → Problem → Reader = λ t p. record { tables = t; style = style_of Prover p.options.prolog_style_variables; problem = p.symbols } in
    ap₂ made begun.operators begun.problem

-- what blocks have with what the code has, they have with the problem's
as_read : (f : FileRead) (r : ProofRead) (last : List Symbol) (bs : List TextBlock) (ps : List (List Line)) → IsWithoutProofs f r
    → HasProofs (reader_in r.operators r.problem) r.symbols bs ps last → HasProofs (reader_of f) f.problem.symbols bs ps last
as_read f r last bs ps begun h =
    subst (λ (table : List Symbol). HasProofs (reader_of f) table bs ps last) begun.symbols (subst (λ (g : Reader). HasProofs g r.symbols bs ps last) (same_reader f r begun) h)

pub all_read : (bytes : List ℕ) (f : FileRead) (bs : List TextBlock) (rs : List BlockRead) (old r : ProofRead) → IsWithoutProofs f old → HasProblem bytes f bs → AreBlocksRead bs rs
    → r.problem ≡ old.problem → r.operators ≡ old.operators → list_all (λ (b : BlockRead). b.closed) rs ≡ true
    → HasProofs (reader_in old.operators old.problem) old.symbols bs (lines_of_all r.proofs.items) r.symbols → IsProofRead bytes r
all_read bytes f bs rs old r begun has read problem operators closed h = record {
  file = f;
  blocks = bs;
  has_problem = has;
  problem_is = problem ∙ begun.problem;
  operators_are = ap tables_of operators ∙ begun.operators;
  closed = same_closed read ∙ closed;
  proofs_are = as_read f old r.symbols bs (lines_of_all r.proofs.items) begun h;
}

pub line_refused : (bytes : List ℕ) (f : FileRead) (bs : List TextBlock) (r : ProofRead) (e : ReadError) → IsWithoutProofs f r → HasProblem bytes f bs
    → OrMemory (HasRefusedBlock (reader_in r.operators r.problem) r.symbols bytes bs) e → IsProofError bytes e
line_refused bytes f bs r e begun has (inl lacking) = subst (IsProofError bytes) (sym lacking) memory
line_refused bytes f bs r e begun has (inr refused) =
    line has
    (subst (λ (table : List Symbol). HasRefusedBlock (reader_of f) table bytes bs e) begun.symbols
    (subst (λ (g : Reader). HasRefusedBlock g r.symbols bytes bs e) (same_reader f r begun) refused))

pub block_open : (bytes : List ℕ) (f : FileRead) (bs : List TextBlock) (rs : List BlockRead) (r : ProofRead) (last : List Symbol) (ds : List Derivation) (e : ReadError) → IsWithoutProofs f r → HasProblem bytes f bs
    → AreBlocksRead bs rs → list_all (λ (b : BlockRead). b.closed) rs ≡ false → HasProofs (reader_in r.operators r.problem) r.symbols bs (lines_of_all ds) last
    → OrMemory (IsUnreadableAt bytes (length bytes)) e → IsProofError bytes e
block_open bytes f bs rs r last ds e begun has read shut h (inl lacking) = subst (IsProofError bytes) (sym lacking) memory
block_open bytes f bs rs r last ds e begun has read shut h (inr there) = open_block has (as_read f r last bs (lines_of_all ds) begun h) (same_closed read ∙ shut) there
