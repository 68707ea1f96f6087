-- Printed proofs as blocks of a text.
use Rattle.std.specs.Prelude.{◌≡◌, ℕ, ◌+◌, Bool, true, List, [], ◌∷◌, ◌++◌, length, map, codes}
use Rattle.std.specs.Fmt.{decimal}
use Rattle.std.specs.List.{concat, list_all}
use Rattle.derivation.specs.declared.line.Line.{Line}
use Rattle.fol_core.specs.SymbolTable.{Symbol}
use Rattle.ladr_formulas.specs.Formulas.{style_of}
use Rattle.ladr_formulas.specs.declared.styles.Mode.TheVariants.{Prover}
use Rattle.proof_lines.specs.ContentTokens.{LineTables}
use Rattle.proof_print.specs.LineTexts.{proof_bytes, proof_banner, line_text}
use Rattle.proof_print.specs.Reread.{ArePrintable}
use Rattle.proof_print.specs.declared.texts.Heads.{Heads}
use Rattle.proof_text.specs.Blocks.{TextBlock, block, HasBlocks, lines_in}
use Rattle.proof_text.specs.Proofs.{HasProofs}
use Rattle.words_print.specs.Sayable.{IsShort}

-- a proof with its head
pub record PrintedProof : Type 0 where
  pub heads : Heads
  pub lines : List Line

-- the numbers of a head are short
abbrev pub IsShortHead : Heads → Type 0
IsShortHead h =
    IsShort h.proof × IsShort h.length × IsShort h.level × IsShort h.weight × IsShort h.given

abbrev pub ArePrintableProofs :
    LineTables → Bool → List Symbol → List Symbol → List PrintedProof → Type 0
ArePrintableProofs g prolog problem table [] = Unit {0}
ArePrintableProofs g prolog problem table (p ∷ ps) =
    IsShortHead p.heads × ArePrintable g prolog problem table p.lines
    × ArePrintableProofs g prolog problem table ps

-- proofs one behind the other
abbrev pub proofs_text : LineTables → List Symbol → Bool → List PrintedProof → List ℕ
proofs_text g table prolog ps =
    concat (map (λ p. proof_bytes g table prolog p.heads p.lines) ps)

-- a line of a head, and all five
abbrev pub head_line : List ℕ → ℕ → List ℕ
head_line before n = (before ++ (decimal n ++ codes ".")) ++ codes "\n"

abbrev pub head_lines : Heads → List (List ℕ)
head_lines h =
    head_line (codes "% Proof ") h.proof ∷ head_line (codes "% Length of proof is ") h.length
    ∷ head_line (codes "% Level of proof is ") h.level
    ∷ head_line (codes "% Maximum clause weight is ") h.weight
    ∷ head_line (codes "% Given clauses ") h.given ∷ []

-- the block that a proof is, where its banner stands at place i
abbrev pub printed_block : LineTables → List Symbol → Bool → ℕ → PrintedProof → TextBlock
printed_block g table prolog i p =
    block (i + length proof_banner) (head_lines p.heads ++ map (line_text g table prolog) p.lines)
    true

-- no line of a text is the banner of a proof
abbrev pub HoldsNoProof : List ℕ → Type 0
HoldsNoProof text = (i : ℕ) → HasBlocks i (lines_in text) []

-- the text of proofs that stands at place i, with one behind it, has their blocks, all closed, and
-- these have their lines, each read behind the table, which stays
pub record ReadsProofs (g : LineTables) (prolog : Bool) (problem table : List Symbol) (i : ℕ)
    (ps : List PrintedProof) (tail : List ℕ) : Type 0 where
  pub blocks : List TextBlock
  pub found : HasBlocks i (lines_in (proofs_text g table prolog ps ++ tail)) blocks
  pub proofs :
      HasProofs (record { tables = g; style = style_of Prover prolog; problem = problem }) table
      blocks (map (λ p. p.lines) ps) table
  pub all_closed : list_all (λ b. b.closed) blocks ≡ true
