-- The texts of lines, and of a proof with its head and banners.
use Rattle.std.specs.Prelude.{ℕ, Bool, List, ◌++◌, length, map, Option, codes}
use Rattle.std.specs.Fmt.{decimal}
use Rattle.std.specs.List.{concat}
use Rattle.derivation.specs.declared.line.Content.{Content}
use Rattle.derivation.specs.declared.line.Content.TheVariants.{Formula, Clause}
use Rattle.derivation.specs.declared.line.Line.{Line}
use Rattle.fol_core.specs.Fol.{Fol}
use Rattle.fol_core.specs.FormulaView.{fol_of}
use Rattle.fol_core.specs.RawTree.{RawTree}
use Rattle.fol_core.specs.Renumbered.{renumbered}
use Rattle.fol_core.specs.SymbolTable.{Symbol}
use Rattle.ladr_print.specs.ClauseText.{clause_bytes}
use Rattle.ladr_print.specs.FormulaText.{formula_raw, with_attribute}
use Rattle.ladr_print.specs.RawText.{text_of}
use Rattle.ladr_print.specs.TermText.{name_in, clause_variable}
use Rattle.proof_lines.specs.ContentTokens.{LineTables}
use Rattle.words_print.specs.WordTokens.{words_text}
use Rattle.proof_print.specs.declared.texts.Heads.{Heads}
use Rattle.proof_words.specs.Written.{written_of}

-- the term that a formula with these names of its variables is printed as, its label behind it
abbrev pub formula_term : List Symbol → Fol → List (List ℕ) → Option RawTree → RawTree
formula_term table f names label = with_attribute label (formula_raw table (name_in names) f)

-- a formula with its label, or a clause with its variables numbered by first occurrence
abbrev pub content_text : LineTables → List Symbol → Bool → Content → List ℕ
content_text g table prolog (Formula f label) =
    text_of g.formulas (formula_term table (fol_of f.shape) f.names label)
content_text g table prolog (Clause c) =
    clause_bytes g.clauses table (clause_variable prolog) (renumbered c)

-- `number content.  [words].`, and the end of the line
abbrev pub line_text : LineTables → List Symbol → Bool → Line → List ℕ
line_text g table prolog l =
    decimal l.number
    ++ (codes " "
    ++ (content_text g table prolog l.content
    ++ (codes ".  " ++ (words_text (written_of l.just) ++ codes "\n"))))

abbrev pub lines_text : LineTables → List Symbol → Bool → List Line → List ℕ
lines_text g table prolog ls = concat (map (line_text g table prolog) ls)

-- a line of a proof's head: some words, a number, and the end of the line
abbrev pub numbered_line : List ℕ → ℕ → List ℕ → List ℕ
numbered_line before n behind = before ++ (decimal n ++ behind)

abbrev pub head_text : Heads → List ℕ
head_text h =
    numbered_line (codes "% Proof ") h.proof
    (numbered_line (codes ".\n% Length of proof is ") h.length
    (numbered_line (codes ".\n% Level of proof is ") h.level
    (numbered_line (codes ".\n% Maximum clause weight is ") h.weight
    (numbered_line (codes ".\n% Given clauses ") h.given (codes ".\n")))))

abbrev pub proof_banner : List ℕ
proof_banner = codes "============================== PROOF =================================\n"

abbrev pub end_banner : List ℕ
end_banner = codes "============================== end of proof ==========================\n"

-- a proof: its banner, its head, its lines, and the banner of its end
abbrev pub proof_bytes : LineTables → List Symbol → Bool → Heads → List Line → List ℕ
proof_bytes g table prolog h ls =
    proof_banner ++ (head_text h ++ (lines_text g table prolog ls ++ end_banner))

-- the problem's bytes behind the line that tells how many there are, with the end of a line
abbrev pub frame_text : List ℕ → List ℕ
frame_text input =
    codes "% Input " ++ (decimal (length input) ++ (codes "\n" ++ (input ++ codes "\n")))
