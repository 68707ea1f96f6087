-- The text of a proof that the code has.
use Rattle.std.proofs.Common.{◌≡◌, ℕ, suc, ◌+◌, refl, sym, ap, ap₂, ◌∙◌, Bool, List, [], ◌∷◌, ◌++◌, length, map, arith, length-append}
use Rattle.std.specs.Prelude.{codes}
use Rattle.std.specs.Fmt.{decimal}
use Rattle.std.specs.List.{concat}
use Rattle.clause_store.specs.Lines.{PlainLine, plain_line, plain_trees, plain_content, plain_clause, line_under, formula_lines}
use Rattle.derivation.specs.Lines.{InputRow}
use Rattle.derivation.specs.declared.line.Content.{Content}
use Rattle.derivation.specs.declared.line.Content.TheVariants.{Formula, Clause}
use Rattle.derivation.specs.declared.line.Line.{Line}
use Rattle.fol_problem.specs.Stated.{Said, all_said}
use Rattle.fol_core.specs.SymbolTable.{Symbol}
use Rattle.fol_problem.specs.declared.problem.Input.{Input}
use Rattle.given_clause.specs.States.{made_line_of}
use Rattle.held_clauses.specs.declared.made.MadeLine.{MadeLine}
use Rattle.ladr_prover9.specs.ProofTexts.{plain_content_text, plain_text, head_of_proof, proof_text}
use Rattle.ladr_prover9.specs.Quests.{Quest}
use Rattle.proof_lines.specs.ContentTokens.{LineTables}
use Rattle.proof_print.specs.LineTexts.{content_text, line_text, lines_text, head_text, proof_banner, end_banner, proof_bytes}
use Rattle.proof_print.specs.declared.texts.Heads.{Heads}
use Rattle.proof_words.specs.Written.{written_of}
use Rattle.prover_proofs.specs.Levels.{level_in, greatest_size}
use Rattle.prover_proofs.specs.SearchLines.{clausal_lines, stated_lines, made_plain, numbered_lines, with_made}
use Rattle.prover_setup.specs.SearchInputs.{symbols_in}
use Rattle.prover_steps.specs.LineNumbers.{AreNumberedFrom}
use Rattle.prover_steps.specs.Searching.{FoundProof}
use Rattle.words_print.specs.WordTokens.{words_text}

-- lines numbered one by one are those that were made
pub numbered_made : (n : ℕ) (ls : List MadeLine) → AreNumberedFrom n (map made_line_of ls) → numbered_lines n ls ≡ map made_plain (map made_line_of ls)
numbered_made n [] h = refl
numbered_made n (l ∷ ls) h =
    ap₂ (λ (m : ℕ) (xs : List PlainLine). line_under m (plain_clause l.clause.value) (written_of l.just.value) ∷ xs) (sym h.0) (numbered_made (suc n) ls h.1)

-- the text of a line is that of what it says
content_same : (g : LineTables) (table : List Symbol) (prolog : Bool) (c : Content) → content_text g table prolog c ≡ plain_content_text g table prolog (plain_content c)
content_same g table prolog (Formula f label) = refl
content_same g table prolog (Clause c) = refl

line_same : (g : LineTables) (table : List Symbol) (prolog : Bool) (l : Line) → line_text g table prolog l ≡ plain_text g table prolog (plain_line l)
line_same g table prolog l = ap (λ (t : List ℕ). decimal l.number ++ (codes " " ++ (t ++ (codes ".  " ++ (words_text (written_of l.just) ++ codes "\n"))))) (content_same g table prolog l.content)

pub lines_same : (g : LineTables) (table : List Symbol) (prolog : Bool) (ls : List Line) → lines_text g table prolog ls ≡ concat (map (plain_text g table prolog) (map plain_line ls))
lines_same g table prolog [] = refl
lines_same g table prolog (l ∷ ls) = ap₂ (λ (x y : List ℕ). x ++ y) (line_same g table prolog l) (lines_same g table prolog ls)

-- how many lines a problem has
clausal_count : (ss : List Said) (n : ℕ) (rows : List InputRow) → length (clausal_lines ss n rows) ≡ length rows
clausal_count ss n [] = refl
clausal_count ss n (r ∷ rows) = ap suc (clausal_count ss (suc n) rows)

formula_count : (n : ℕ) (is : List Input) → length (formula_lines n is) ≡ length is
formula_count n [] = refl
formula_count n (i ∷ is) = ap suc (formula_count (suc n) is)

pub stated_count : (is : List Input) (ss : List Said) (rows : List InputRow) → suc (length (stated_lines (formula_lines 1 is) ss rows)) ≡ suc (length is + length rows)
stated_count is ss rows =
    omega (arith, length-append (formula_lines 1 is) (clausal_lines ss (suc (length (formula_lines 1 is))) rows), formula_count 1 is, clausal_count ss (suc (length (formula_lines 1 is))) rows)

-- the head of a proof by its numbers
pub head_by : (k n l w : ℕ) (given : ℕ) (p : FoundProof) (ls : List PlainLine) → n ≡ length ls → l ≡ level_in (plain_trees ls) p.line → w ≡ greatest_size ls → given ≡ p.given
    → record { proof = k; length = n; level = l; weight = w; given = given } ≡ head_of_proof k p ls
head_by k n l w given p ls e f d c =
    ap (λ (x : ℕ). head x l w given) e ∙ ap (λ (x : ℕ). head (length ls) x w given) f
    ∙ ap (λ (x : ℕ). head (length ls) (level_in (plain_trees ls) p.line) x given) d ∙ ap (λ (x : ℕ). head (length ls) (level_in (plain_trees ls) p.line) (greatest_size ls) x) c
  where
    head : ℕ → ℕ → ℕ → ℕ → Heads
    head a b m o = record { proof = k; length = a; level = b; weight = m; given = o }

-- the printed proof, by what the code has
module _ (q : Quest) (g : LineTables) (table : List Symbol) (prolog : Bool) where
  pub printed : (h : Heads) (ls : List Line) (k : ℕ) (p : FoundProof) → g ≡ q.operators → table ≡ symbols_in q.search → prolog ≡ q.search.options.prolog_style_variables → h ≡ head_of_proof k p (map plain_line ls)
      → proof_bytes g table prolog h ls ≡ proof_text q (head_of_proof k p (map plain_line ls)) (map plain_line ls)
  printed h ls k p e f d is =
      ap (λ (t : List ℕ). proof_banner ++ (head_text h ++ (t ++ end_banner))) (lines_same g table prolog ls)
      ∙ ap (λ (x : Heads). proof_banner ++ (head_text x ++ (concat (map (plain_text g table prolog) (map plain_line ls)) ++ end_banner))) is
      ∙ ap (λ (x : LineTables). whole x table prolog) e ∙ ap (λ (x : List Symbol). whole q.operators x prolog) f ∙ ap (λ (x : Bool). whole q.operators (symbols_in q.search) x) d
    where
      whole : LineTables → List Symbol → Bool → List ℕ
      whole x y z = proof_banner ++ (head_text (head_of_proof k p (map plain_line ls)) ++ (concat (map (plain_text x y z) (map plain_line ls)) ++ end_banner))

-- all lines of a search, by what the code has
pub lines_are : (has is : List Input) (told rows same : List InputRow) (made ls : List MadeLine) → has ≡ is → told ≡ rows → rows ≡ same → made ≡ ls → AreNumberedFrom (suc (length is + length rows)) (map made_line_of ls)
    → with_made (stated_lines (formula_lines 1 has) (all_said has) told) made ≡ stated_lines (formula_lines 1 is) (all_said is) same ++ map made_plain (map made_line_of ls)
lines_are has is told rows same made ls i e f d counted =
    ap (λ (js : List Input). with_made (stated_lines (formula_lines 1 js) (all_said js) told) made) i
    ∙ ap (λ (rs : List InputRow). with_made (stated_lines (formula_lines 1 is) (all_said is) rs) made) e
    ∙ ap (λ (js : List MadeLine). with_made base js) d
    ∙ ap (λ (n : ℕ). base ++ numbered_lines n ls) (stated_count is (all_said is) rows)
    ∙ ap (λ (ks : List PlainLine). base ++ ks) (numbered_made (suc (length is + length rows)) ls counted)
    ∙ ap (λ (rs : List InputRow). stated_lines (formula_lines 1 is) (all_said is) rs ++ map made_plain (map made_line_of ls)) f
  where
    base : List PlainLine
    base = stated_lines (formula_lines 1 is) (all_said is) rows
