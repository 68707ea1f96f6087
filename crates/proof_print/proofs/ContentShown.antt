-- The texts of contents, with their tokens, which are read as the contents.
use Rattle.std.proofs.Common.{◌≡◌, inl, ℕ, Bool, true, false, List, [], ◌∷◌, ◌++◌, length, drop, Some, None, refl, sym, ap, ◌∙◌, subst, arith}
use Rattle.std.specs.List.{list_any}
use Rattle.std.proofs.lemmas.List.{drop_all}
use Rattle.derivation.specs.declared.line.Content.{Content}
use Rattle.derivation.specs.declared.line.Content.TheVariants.{Formula, Clause}
use Rattle.fol_core.specs.Fol.{Fol}
use Rattle.fol_core.specs.FormulaView.{fol_of}
use Rattle.fol_core.specs.Literals.{ClauseTree}
use Rattle.fol_core.specs.RawTree.{RawTree}
use Rattle.fol_core.specs.Renumbered.{clause_variables, renumbered}
use Rattle.fol_core.specs.SymbolTable.{Symbol}
use Rattle.fol_core.specs.declared.raw.Quantifier.{Quantifier}
use Rattle.fol_core.specs.declared.raw.Quantifier.TheVariants.{All, Exists}
use Rattle.ladr_formulas.specs.ClauseIn.{clause_in}
use Rattle.ladr_formulas.specs.Formulas.{Reading, Made, meets, style_of}
use Rattle.ladr_formulas.specs.declared.styles.Mode.TheVariants.{Prover}
use Rattle.ladr_lex.specs.ClauseNames.{clause_variable}
use Rattle.ladr_lex.specs.Lexeme.{Lexeme, full_stop}
use Rattle.ladr_lex.specs.Operators.{OperatorRow, are_lawful}
use Rattle.ladr_lex.specs.declared.misuse.Misuse.TheVariants.{TwoKinds, UnfitAttribute}
use Rattle.ladr_print.specs.ClauseText.{clause_raw, clause_bytes}
use Rattle.ladr_print.specs.HasText.{HasText}
use Rattle.ladr_print.specs.Precedences.{precedence}
use Rattle.ladr_print.specs.RawText.{word, text_of}
use Rattle.ladr_print.proofs.Disjunctions.{clause_is}
use Rattle.ladr_print.proofs.Letters.{first_variables}
use Rattle.ladr_print.proofs.Printing.{HasWords, good}
use Rattle.ladr_print.proofs.Writes.{Writes}
use Rattle.ladr_reader.specs.Reads.{Item}
use Rattle.ladr_reader.specs.Table.{OperatorTable, table_of}
use Rattle.ladr_reader.proofs.Lawful.{table_lawful, reads_at_most}
use Rattle.proof_lines.specs.ContentTokens.{LineTables, IsContent}
use Rattle.proof_lines.specs.Strays.{brings_stray, is_stray_relation}
use Rattle.proof_lines.proofs.AnsweredClauses.{unbegun}
use Rattle.proof_lines.proofs.Clauses.{near_clause}
use Rattle.proof_lines.specs.AnswerMarks.{begins_answer}
use Rattle.std.proofs.lemmas.Bool.{false≢true}
use Rattle.proof_print.specs.LineTexts.{formula_term, content_text}
use Rattle.proof_print.specs.Reread.{CanPrint, IsPrintableClause, IsContentTerm, IsPrintableContent, states_content, row_tables}
use Rattle.proof_print.proofs.ClauseReading.{clause_read}
use Rattle.proof_print.proofs.ClauseShapes.{stands}
use Rattle.proof_print.proofs.Hashless.{plain_begun, read_plain}
use Rattle.proof_print.proofs.HashlessClauses.{clause_hashless}
use Rattle.proof_print.proofs.NamedClauses.{clause_has}
use Rattle.proof_print.proofs.Numbered.{numbered_upto}

-- a text with tokens that are the term, with a full stop behind them
pub record ShowsItem (g : OperatorTable) (bytes : List ℕ) (t : RawTree) : Type 0 where
  pub tokens : List Lexeme
  pub writes : Writes bytes tokens
  pub item : Item g (tokens ++ full_stop ∷ []) t

spelled_words : (rows : List OperatorRow) → HasWords (table_of rows)
spelled_words rows = record { spelled = λ q. word_spelled q }
  where
    word_spelled : (q : Quantifier) → (table_of rows).word (word q) ≡ Some q
    word_spelled All = refl
    word_spelled Exists = refl

pub shows_item : (rows : List OperatorRow) (t : RawTree) → are_lawful rows ≡ true → HasText (table_of rows) t → ShowsItem (table_of rows) (text_of (table_of rows) t) t
shows_item rows t l h =
    let g = table_of rows in
    let lawful = table_lawful rows l in
    let x = good g lawful (spelled_words rows) t h in
    record {
      tokens = x.tokens;
      writes = x.writes;
      item = record { tokens = x.tokens; precedence = precedence g t; reads = x.reads; bounded = reads_at_most g lawful x.reads; stops = refl };
    }

-- a table that stays brings no stray relation
pub no_strays : (problem T : List Symbol) → brings_stray problem (length T) T ≡ false
no_strays problem T = ap (list_any (is_stray_relation problem)) (drop_all (length T) T (omega arith))

-- what a clause's term is read as
clause_term : (rows : List OperatorRow) (prolog : Bool) (problem T : List Symbol) (c : ClauseTree) → CanPrint rows prolog T → IsPrintableClause (table_of rows) prolog T c →
    IsContentTerm (style_of Prover prolog) problem T false (clause_raw T (clause_variable prolog) c) (Clause c)
clause_term rows prolog problem T c can p =
    let st = style_of Prover prolog in
    let t = clause_raw T (clause_variable prolog) c in
    let r = clause_read st refl T can.few can.finds c (length (clause_variables c)) p.over p.kinds (λ s h e. (p.readable s h e).itself) p.few (numbered_upto c p.numbered) in
    let behind : Reading = record { symbols = T; variables = first_variables prolog (length (clause_variables c)); least = None; large = r.after } in
    record {
      shallow = p.shallow;
      unmisused =
          ap (λ (m : Made Fol). (meets (brings_stray problem (length T) m.reading.symbols) TwoKinds (meets false UnfitAttribute m.reading)).least) r.read
          ∙ ap (λ (b : Bool). (meets b TwoKinds behind).least) (no_strays problem T);
      asks = λ e. absurd (false≢true e);
      means = ap (λ (m : Made Fol). clause_in m.tree) r.read ∙ r.is;
      symbols = ap (λ (m : Made Fol). m.reading.symbols) r.read;
    }

-- a content's text, its tokens and its term
pub record ShowsContent (g : LineTables) (prolog : Bool) (problem table : List Symbol) (content : Content) : Type 0 where
  pub tokens : List Lexeme
  pub tree : RawTree
  pub writes : Writes (content_text g table prolog content) tokens
  pub is_content : IsContent g (states_content content) (tokens ++ full_stop ∷ []) tree []
  pub is_read : IsContentTerm (style_of Prover prolog) problem table (states_content content) tree content

pub shows_content : (formulas clauses : List OperatorRow) (prolog : Bool) (problem T : List Symbol) (content : Content) → are_lawful formulas ≡ true → CanPrint clauses prolog T →
    IsPrintableContent (row_tables formulas clauses) prolog problem T content → ShowsContent (row_tables formulas clauses) prolog problem T content
shows_content formulas clauses prolog problem T (Formula f label) l can p =
    let t = formula_term T (fol_of f.shape) f.names label in
    let s = shows_item formulas t l p.0 in
    record { tokens = s.tokens; tree = t; writes = s.writes; is_content = (s.item, refl); is_read = p.1 }
shows_content formulas clauses prolog problem T (Clause c) l can p =
    let st = style_of Prover prolog in
    let v = clause_variable prolog in
    let t = clause_raw T v c in
    let s = shows_item clauses t can.lawful (clause_has clauses can.fixed prolog can.frees T can.few c p.over (λ n h e. (p.readable n h e).named)) in
    let text : clause_bytes (table_of clauses) T v (renumbered c) ≡ text_of (table_of clauses) t = ap (clause_bytes (table_of clauses) T v) p.numbered ∙ clause_is clauses can.fixed T v c in
    record {
      tokens = s.tokens;
      tree = t;
      writes = subst (λ (b : List ℕ). Writes b s.tokens) (sym text) s.writes;
      is_content = (
        inl (s.item, near_clause t p.shallow, stands st refl T can.few can.finds c p.over p.kinds (λ n h e. (p.readable n h e).itself)),
        unbegun (table_of clauses) (s.tokens ++ full_stop ∷ [])
            (ap begins_answer s.item.stops ∙ plain_begun s.item.tokens (full_stop ∷ []) (read_plain (table_of clauses) s.item.reads (clause_hashless st refl T can.few can.finds c p.over (λ n h e. (p.readable n h e).itself)))),
      );
      is_read = clause_term clauses prolog problem T c can p;
    }
