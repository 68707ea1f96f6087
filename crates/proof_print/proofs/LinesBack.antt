-- Printed lines are read as the lines.
use Rattle.std.proofs.Common.{◌≡◌, ◌∙◌, ℕ, ◌+◌, Bool, true, false, List, [], ◌∷◌, ◌++◌, length, take, Option, None, refl, sym, ap, subst, append_assoc, arith}
use Rattle.std.specs.Prelude.{is_some, option_map, unwrap_or, codes}
use Rattle.std.specs.Fmt.{decimal}
use Rattle.std.proofs.lemmas.List.{length-append, append-nil}
use Rattle.std.proofs.Math.Seq.{take-append_seam, drop-append_seam}
use Rattle.derivation.specs.declared.line.Content.{Content}
use Rattle.derivation.specs.declared.line.Line.{Line}
use Rattle.answers.specs.AnswerView.{answers_of}
use Rattle.fol_core.specs.RawTree.{RawTree}
use Rattle.fol_core.specs.SymbolTable.{Symbol}
use Rattle.ladr_formulas.specs.Formulas.{style_of}
use Rattle.ladr_formulas.specs.declared.styles.Mode.TheVariants.{Prover}
use Rattle.ladr_formulas.specs.declared.styles.Style.{Style}
use Rattle.ladr_rules.specs.Asked.{line_asks}
use Rattle.std.proofs.lemmas.Bool.{false≢true}
use Rattle.ladr_lex.specs.Bytes.{is_blank, is_ordinary, is_special}
use Rattle.ladr_lex.specs.Cuts.{IsLongest, gap}
use Rattle.ladr_lex.specs.Starts.{start_of}
use Rattle.ladr_lex.specs.Lexeme.{Lexeme, ordinary, full_stop}
use Rattle.ladr_lex.specs.Operators.{OperatorRow, are_lawful}
use Rattle.ladr_lex.proofs.Numerals.{ordinary_decimal, whole_decimal}
use Rattle.ladr_print.proofs.Longest.{longest_front}
use Rattle.ladr_print.proofs.Writes.{Has, Alone, follow, whole_has, before_alone, space_alone, stop_alone, stop_written, symbol_written, has_none}
use Rattle.proof_lines.specs.ContentTokens.{LineTables, IsContent}
use Rattle.proof_lines.specs.Faults.{IsLineRead}
use Rattle.proof_lines.specs.Lines.{LineParts, IsProofLine}
use Rattle.proof_lines.specs.Noted.{asks_if, is_goal_word, places_kept}
use Rattle.proof_lines.specs.Stated.{line_made}
use Rattle.proof_words.specs.Written.{Written, WrittenFirst, as_assumption, as_goal, by_clausify, by_deny, by_copy, by_back_rewrite, by_back_unit_del, by_resolve, by_hyper, by_ur, by_factor, by_para, by_xx_res, by_instantiate, written_of, states_formula}
use Rattle.proof_print.specs.LineTexts.{content_text, line_text, lines_text}
use Rattle.proof_print.specs.Reread.{CanPrint, IsContentTerm, IsPrintableContent, row_tables, IsCutInto, IsPrintableLine, ArePrintable, AreLinesRead, ReadsContent, ReadsLines}
use Rattle.proof_print.proofs.ContentShown.{ShowsContent, shows_content}
use Rattle.proof_print.proofs.TidyWords.{words_written}
use Rattle.words_print.specs.Sayable.{IsSayable}
use Rattle.words_print.specs.WordTokens.{number_token, words_tokens, words_text}
use Rattle.words_print.proofs.SaidWords.{said}

newline_alone : Alone 10
unfolding is_special is_ordinary
newline_alone = record { special = refl; wordly = refl }

space_between : (r : List ℕ) → IsLongest None (32 ∷ []) r
unfolding start_of is_blank
space_between r = longest_front None 32 [] r refl refl

newline_between : (r : List ℕ) → IsLongest None (10 ∷ []) r
unfolding start_of is_blank
newline_between r = longest_front None 10 [] r refl refl

blank_has : (b : ℕ) (r : List ℕ) (us : List Lexeme) → IsLongest None (b ∷ []) r → Has r us → Has (b ∷ r) us
blank_has b r us l h i =
    let rest = h (i + 1) in
    record { pieces = rest.pieces; cuts = gap l rest.cuts; are = rest.are }

-- a formula without an attribute for it asks for nothing
goal_states : (w : WrittenFirst) → is_goal_word w ≡ true → states_formula w ≡ true
goal_states as_assumption e = refl
goal_states as_goal e = refl
goal_states (by_clausify n) e = absurd (false≢true e)
goal_states (by_deny n) e = absurd (false≢true e)
goal_states (by_copy n) e = absurd (false≢true e)
goal_states (by_back_rewrite n) e = absurd (false≢true e)
goal_states (by_back_unit_del n) e = absurd (false≢true e)
goal_states (by_resolve n s) e = absurd (false≢true e)
goal_states (by_hyper n ss) e = absurd (false≢true e)
goal_states (by_ur n ss) e = absurd (false≢true e)
goal_states (by_factor n a b) e = absurd (false≢true e)
goal_states (by_para n a b c d es) e = absurd (false≢true e)
goal_states (by_xx_res n a) e = absurd (false≢true e)
goal_states (by_instantiate n es) e = absurd (false≢true e)

asks_none : (w : WrittenFirst) (st : Style) (T : List Symbol) (t : RawTree) → (states_formula w ≡ true → line_asks t ≡ None) → asks_if (is_goal_word w) st T t ≡ None
asks_none w st T t h = by (is_goal_word w) refl
  where
    by : (b : Bool) → is_goal_word w ≡ b → asks_if b st T t ≡ None
    by true e = ap (option_map (places_kept (line_made st T true t).tree)) (h (goal_states w e))
    by false e = refl

module _ (formulas clauses : List OperatorRow) (prolog : Bool) (problem T : List Symbol) (lawful : are_lawful formulas ≡ true) (can : CanPrint clauses prolog T) where
  abbrev g : LineTables
  g = row_tables formulas clauses

  abbrev Printable : Line → Type 0
  Printable l = IsPrintableLine g prolog problem T l

  shown : (l : Line) → Printable l → ShowsContent g prolog problem T l.content
  shown l p = shows_content formulas clauses prolog problem T l.content lawful can p.content

  line_tokens : (l : Line) → Printable l → List Lexeme
  line_tokens l p = number_token l.number ∷ (((shown l p).tokens ++ full_stop ∷ []) ++ words_tokens (written_of l.just))

  -- its text is cut into its tokens, whatever is behind it
  line_has : (l : Line) (p : Printable l) (r : List ℕ) (vs : List Lexeme) → Has r vs → Has (line_text g T prolog l ++ r) (line_tokens l p ++ vs)
  unfolding line_tokens
  line_has l p r vs h =
      let s = shown l p in
      let content = content_text g T prolog l.content in
      let w = written_of l.just in
      let said_text = words_text w in
      let words = words_written w p.words in
      let end : Has (codes "\n" ++ r) vs = blank_has 10 r vs (newline_between r) h in
      let last = words.has (10 ∷ r) vs (before_alone said_text 10 r newline_alone) end in
      let rest = said_text ++ (10 ∷ r) in
      let us = words_tokens w ++ vs in
      let gaps : Has (32 ∷ 32 ∷ rest) us = blank_has 32 (32 ∷ rest) us (space_between (32 ∷ rest)) (blank_has 32 rest us (space_between rest) last) in
      let stopped = stop_written.has (32 ∷ 32 ∷ rest) us (before_alone (codes ".") 32 (32 ∷ rest) space_alone) gaps in
      let stated = s.writes.has (46 ∷ 32 ∷ 32 ∷ rest) (full_stop ∷ us) (before_alone content 46 (32 ∷ 32 ∷ rest) stop_alone) stopped in
      let spaced = blank_has 32 (content ++ (46 ∷ 32 ∷ 32 ∷ rest)) (s.tokens ++ (full_stop ∷ us)) (space_between (content ++ (46 ∷ 32 ∷ 32 ∷ rest))) stated in
      let number = symbol_written ordinary (decimal l.number) (ordinary_decimal l.number p.number) in
      let all = number.has (32 ∷ (content ++ (46 ∷ 32 ∷ 32 ∷ rest))) (s.tokens ++ (full_stop ∷ us)) (before_alone (decimal l.number) 32 (content ++ (46 ∷ 32 ∷ 32 ∷ rest)) space_alone) spaced in
      subst (λ (b : List ℕ). Has b (line_tokens l p ++ vs)) (bytes_are (decimal l.number) content said_text r)
      (subst (λ (ts : List Lexeme). Has (decimal l.number ++ (32 ∷ (content ++ (46 ∷ 32 ∷ 32 ∷ rest)))) ts) (tokens_are s.tokens (words_tokens w) vs) all)
    where
      bytes_are : (d c w r : List ℕ) → d ++ (32 ∷ (c ++ (46 ∷ 32 ∷ 32 ∷ (w ++ (10 ∷ r))))) ≡ (d ++ (codes " " ++ (c ++ (codes ".  " ++ (w ++ codes "\n"))))) ++ r
      bytes_are d c w r = simp append_assoc

      tokens_are : (ts ws vs : List Lexeme) → number_token l.number ∷ (ts ++ (full_stop ∷ (ws ++ vs))) ≡ (number_token l.number ∷ ((ts ++ full_stop ∷ []) ++ ws)) ++ vs
      tokens_are ts ws vs = simp append_assoc

  -- the tokens are the line
  line_is : (l : Line) (p : Printable l) (vs : List Lexeme) → IsLineRead g (style_of Prover prolog) problem T (line_tokens l p ++ vs) (record { line = l; len = length (line_tokens l p) }) T
  unfolding line_tokens
  line_is l p vs =
      let s = shown l p in
      let w = written_of l.just in
      let st = style_of Prover prolog in
      let ts = line_tokens l p in
      let parts : LineParts = record { number = l.number; content = s.tree; answers = []; words = w } in
      let whole : take (length ts) (ts ++ vs) ≡ ts = take-append_seam ts vs in
      let line : IsProofLine g ts parts = record {
        number = number_token l.number;
        item = s.tokens ++ full_stop ∷ [];
        words = words_tokens w;
        split = refl;
        is_number = ap is_some (whole_decimal l.number p.number);
        number_is = sym (ap (λ (o : Option ℕ). unwrap_or o 0) (whole_decimal l.number p.number));
        content = subst (λ (b : Bool). IsContent g b (s.tokens ++ full_stop ∷ []) s.tree []) (sym p.suits) s.is_content;
        says = said w p.words;
      } in
      let read = subst (λ (b : Bool). IsContentTerm st problem T b s.tree l.content) (sym p.suits) s.is_read in
      record {
        parts = parts;
        first = (omega (arith, length-append ts vs), subst (λ (us : List Lexeme). IsProofLine g us parts) (sym whole) line);
        shallow = read.shallow;
        unmisused = read.unmisused;
        line = record {
          number = refl;
          words = refl;
          content = read.means;
          asks = p.asks ∙ sym (asks_none w.first st T s.tree read.asks);
          answers = ap answers_of p.answers;
        };
        symbols = sym read.symbols;
      }

  lines_tokens : (ls : List Line) → ArePrintable g prolog problem T ls → List Lexeme
  lines_tokens [] p = []
  lines_tokens (l ∷ ls) p = line_tokens l p.0 ++ lines_tokens ls p.1

  lines_have : (ls : List Line) (p : ArePrintable g prolog problem T ls) (r : List ℕ) (vs : List Lexeme) → Has r vs → Has (lines_text g T prolog ls ++ r) (lines_tokens ls p ++ vs)
  unfolding lines_tokens
  lines_have [] p r vs h = h
  lines_have (l ∷ ls) p r vs h =
      subst (λ (b : List ℕ). Has b ((line_tokens l p.0 ++ lines_tokens ls p.1) ++ vs)) (sym (append_assoc (line_text g T prolog l) (lines_text g T prolog ls) r))
      (subst (λ (ts : List Lexeme). Has (line_text g T prolog l ++ (lines_text g T prolog ls ++ r)) ts) (sym (append_assoc (line_tokens l p.0) (lines_tokens ls p.1) vs))
      (line_has l p.0 (lines_text g T prolog ls ++ r) (lines_tokens ls p.1 ++ vs) (lines_have ls p.1 r vs h)))

  lines_are : (ls : List Line) (p : ArePrintable g prolog problem T ls) → AreLinesRead g (style_of Prover prolog) problem T (lines_tokens ls p) ls
  unfolding lines_tokens
  lines_are [] p = refl
  lines_are (l ∷ ls) p = (
    length (line_tokens l p.0),
    line_is l p.0 (lines_tokens ls p.1),
    subst (λ (ts : List Lexeme). AreLinesRead g (style_of Prover prolog) problem T ts ls) (sym (drop-append_seam (line_tokens l p.0) (lines_tokens ls p.1))) (lines_are ls p.1),
  )

-- what is cut into tokens
pub cut_at : (bytes : List ℕ) (us : List Lexeme) → Has bytes us → (i : ℕ) → IsCutInto i bytes us
cut_at bytes us h i = let a = h i in record { pieces = a.pieces; cuts = a.cuts; are = a.are }

pub words_cut : (w : Written) → IsSayable w → (i : ℕ) → IsCutInto i (words_text w) (words_tokens w)
words_cut w h = cut_at (words_text w) (words_tokens w) (whole_has (words_text w) (words_tokens w) (words_written w h))

pub content_reads : (formulas clauses : List OperatorRow) (prolog : Bool) (problem T : List Symbol) (content : Content) → are_lawful formulas ≡ true → CanPrint clauses prolog T →
    IsPrintableContent (row_tables formulas clauses) prolog problem T content → ReadsContent (row_tables formulas clauses) prolog problem T content
content_reads formulas clauses prolog problem T content l can p =
    let s = shows_content formulas clauses prolog problem T content l can p in
    let text = content_text (row_tables formulas clauses) T prolog content in
    record {
      tokens = s.tokens ++ full_stop ∷ [];
      tree = s.tree;
      cut =
          cut_at (text ++ codes ".") (s.tokens ++ full_stop ∷ [])
          (whole_has (text ++ codes ".") (s.tokens ++ full_stop ∷ []) (follow text (codes ".") s.tokens (full_stop ∷ []) s.writes stop_written (before_alone text 46 [] stop_alone)));
      is_content = s.is_content;
      is_read = s.is_read;
    }

pub lines_read : (formulas clauses : List OperatorRow) (prolog : Bool) (problem T : List Symbol) (ls : List Line) → are_lawful formulas ≡ true → CanPrint clauses prolog T →
    ArePrintable (row_tables formulas clauses) prolog problem T ls → ReadsLines (row_tables formulas clauses) prolog problem T ls
lines_read formulas clauses prolog problem T ls l can p =
    let us = lines_tokens formulas clauses prolog problem T l can ls p in
    let text = lines_text (row_tables formulas clauses) T prolog ls in
    let h : Has text us =
    subst (λ (b : List ℕ). Has b us) (append-nil text)
    (subst (λ (ts : List Lexeme). Has (text ++ []) ts) (append-nil us) (lines_have formulas clauses prolog problem T l can ls p [] [] has_none))
    in
    record { tokens = us; cut = cut_at text us h; are = lines_are formulas clauses prolog problem T l can ls p }
