-- What is printed of the proofs of a search.
use Rattle.std.specs.Prelude.{ℕ, suc, ◌≡◌, ◌<◌, ◌^◌, Bool, length, List, [], ◌∷◌, ◌++◌, codes, map}
use Rattle.std.specs.Fmt.{decimal}
use Rattle.std.specs.List.{AllByRecursion, concat}
use Rattle.clause_store.specs.Ancestors.{AreAncestors}
use Rattle.clause_store.specs.Lines.{PlainContent, plain_formula, plain_clause, PlainLine, plain_line, plain_trees, AreUnnoted}
use Rattle.derivation.specs.declared.line.Line.{Line}
use Rattle.fol_core.specs.Renumbered.{renumbered}
use Rattle.fol_core.specs.SymbolTable.{Symbol}
use Rattle.ladr_lex.specs.ClauseNames.{clause_variable}
use Rattle.ladr_prover9.specs.Quests.{Quest, quest_lines}
use Rattle.ladr_print.specs.ClauseText.{clause_bytes}
use Rattle.ladr_print.specs.RawText.{text_of}
use Rattle.printed_proofs.specs.LineBounds.{IsBoundedLine}
use Rattle.printed_proofs.specs.Printed.{IsShortHead}
use Rattle.proof_lines.specs.ContentTokens.{LineTables}
use Rattle.proof_print.specs.LineTexts.{formula_term, head_text, proof_banner, end_banner, frame_text}
use Rattle.proof_print.specs.declared.texts.Heads.{Heads}
use Rattle.prover_proofs.specs.Levels.{level_in, greatest_size}
use Rattle.prover_setup.specs.SearchInputs.{symbols_in}
use Rattle.prover_steps.specs.Searching.{FoundProof, SearchState}
use Rattle.words_print.specs.WordTokens.{words_text}

-- the text of a line
abbrev pub plain_content_text : LineTables → List Symbol → Bool → PlainContent → List ℕ
plain_content_text g table prolog (plain_formula f names label) =
    text_of g.formulas (formula_term table f names label)
plain_content_text g table prolog (plain_clause c) =
    clause_bytes g.clauses table (clause_variable prolog) (renumbered c)

abbrev pub plain_text : LineTables → List Symbol → Bool → PlainLine → List ℕ
plain_text g table prolog l =
    decimal l.number
    ++ (codes " "
    ++ (plain_content_text g table prolog l.content
    ++ (codes ".  " ++ (words_text l.words ++ codes "\n"))))

-- with the operators, the symbols and the style of variables that a run is about
abbrev pub quest_text : Quest → PlainLine → List ℕ
quest_text q =
    plain_text q.operators (symbols_in q.search) q.search.options.prolog_style_variables

-- the text of a proof with such a head and such lines
abbrev pub proof_text : Quest → Heads → List PlainLine → List ℕ
proof_text q h ls =
    proof_banner ++ (head_text h ++ (concat (map (quest_text q) ls) ++ end_banner))

-- the head of proof k
abbrev pub head_of_proof : ℕ → FoundProof → List PlainLine → Heads
head_of_proof k p ls = record {
  proof = k;
  length = length ls;
  level = level_in (plain_trees ls) p.line;
  weight = greatest_size ls;
  given = p.given;
}

-- lines and a head as the code has them: with numbers below 2 ^ 64, and nothing behind a content
pub record AreHad (h : Heads) (ls : List PlainLine) : Type 0 where
  pub had : List Line
  pub are : map plain_line had ≡ ls
  pub bounded : AllByRecursion IsBoundedLine had
  pub unnoted : AreUnnoted had
  pub counted : length had < 2 ^ 63
  pub head : IsShortHead h

-- the text of proof k, of these lines in all: the ones that the proof's last line rests on
pub record IsProofText (q : Quest) (all : List PlainLine) (k : ℕ) (p : FoundProof) (text : List ℕ)
    : Type 0 where
  pub lines : List PlainLine
  pub ancestors : AreAncestors all p.line lines
  pub text_is : text ≡ proof_text q (head_of_proof k p lines) lines
  pub had : AreHad (head_of_proof k p lines) lines

-- those of some proofs, one behind the other, the first of which is proof k
abbrev pub AreProofTexts : Quest → List PlainLine → ℕ → List FoundProof → List ℕ → Type 0
AreProofTexts q all k [] text = text ≡ []
AreProofTexts q all k (p ∷ ps) text =
    (first : List ℕ) × (rest : List ℕ) × IsProofText q all k p first
    × AreProofTexts q all (suc k) ps rest × (text ≡ first ++ rest)

-- the text of a state: the input in its frame, and the proofs
pub record IsStateText (q : Quest) (t : SearchState) (text : List ℕ) : Type 0 where
  pub proofs : List ℕ
  pub are : AreProofTexts q (quest_lines q t) 1 t.proofs proofs
  pub text_is : text ≡ frame_text q.input ++ proofs
