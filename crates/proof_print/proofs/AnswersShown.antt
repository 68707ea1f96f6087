-- The text of a clause with answers is cut into tokens that are read as its term, the words and numbers of the answers being
-- marked as names.
use Rattle.std.proofs.Common.{◌≡◌, ℕ, ◌<◌, ◌^◌, Bool, true, false, not, List, [], ◌∷◌, ◌++◌, Option, Some, None, refl, sym, ap, ◌∙◌, subst, append_assoc, arith}
use Rattle.std.specs.Prelude.{codes, is_some, if◌then◌else◌}
use Rattle.std.specs.Fmt.{decimal}
use Rattle.std.specs.List.{list_any}
use Rattle.std.specs.Str.{bytes_eq}
use Rattle.std.proofs.lemmas.Bool.Decides.{nat_tests}
use Rattle.std.proofs.lemmas.List.{append-nil}
use Rattle.std.proofs.lemmas.Slice.Eq.{bytes_eq-Decides}
use Rattle.answers.specs.AnswerTrees.{Answer}
use Rattle.fol_core.specs.Literals.{Lit, ClauseTree}
use Rattle.fol_core.specs.RawTree.{RawTree, named, RawTrees, no_raws, more_raws, raws_of}
use Rattle.fol_core.specs.SymbolTable.{Symbol}
use Rattle.fol_core.specs.declared.raw.Quantifier.{Quantifier}
use Rattle.fol_core.specs.declared.raw.Quantifier.TheVariants.{All, Exists}
use Rattle.fol_core.specs.Tree.{Trees, none, more}
use Rattle.ladr_lex.specs.Bytes.{is_ordinary, is_special}
use Rattle.ladr_lex.specs.Cuts.{can_be}
use Rattle.ladr_lex.specs.Lexeme.{ordinary, quoted, special, Lexeme, open_paren, close_paren, comma, full_stop, symbol}
use Rattle.ladr_lex.specs.Numeral.{whole_number}
use Rattle.ladr_lex.specs.Operators.{OperatorRow, operator_of, are_lawful, if_prefix, if_after}
use Rattle.ladr_lex.specs.declared.operators.Operator.{Operator}
use Rattle.ladr_lex.specs.declared.operators.OperatorKind.TheVariants.{InfixRight}
use Rattle.ladr_lex.specs.declared.token.TokenKind.TheVariants.{Ordinary, Special}
use Rattle.ladr_lex.proofs.Numerals.{whole_decimal, ordinary_decimal}
use Rattle.ladr_print.specs.ClauseText.{literal_raw, clause_raw, hash, clause_in_front}
use Rattle.ladr_print.specs.FormulaText.{two}
use Rattle.ladr_print.specs.HasText.{HasText, HaveTexts}
use Rattle.ladr_print.specs.Precedences.{precedence}
use Rattle.ladr_print.specs.RawText.{further, text_of, printed_all, left_argument, printed, word}
use Rattle.ladr_print.specs.StatesAs.{KeepsFixed}
use Rattle.ladr_print.specs.TermText.{Naming, terms_raw}
use Rattle.ladr_print.proofs.Disjunctions.{clause_is}
use Rattle.ladr_print.proofs.Printing.{Shows, Good, AllGood, Listed, all_listed, Fitted, fitted, good, HasWords}
use Rattle.ladr_print.proofs.Writes.{Writes, follow, spaced_follow, symbol_written, open_written, close_written, comma_written, before_alone, behind_alone, behind_last, open_alone, close_alone, comma_alone}
use Rattle.ladr_reader.specs.Machine.{start_of_symbol}
use Rattle.ladr_reader.specs.Marks.{in_quotes}
use Rattle.ladr_reader.specs.Reads.{Reads, atom, applied, infixed, ReadsAll, single, further as one_further, Item}
use Rattle.ladr_reader.specs.Table.{OperatorTable, table_of, quantifier_of, left, right, takes, ends, tree_grows}
use Rattle.ladr_reader.proofs.Lawful.{Lawful, table_lawful, reads_at_most, up_to_room}
use Rattle.ladr_reader.proofs.Names.{name_starts}
use Rattle.proof_lines.specs.AnswerMarks.{begins_answer, marks_from, noted, noted_from}
use Rattle.proof_lines.specs.declared.marks.Spot.TheVariants.{Elsewhere, BehindHash}
use Rattle.proof_print.specs.AnsweredTexts.{answer_bytes, answers_bytes, answered_bytes, answer_raw, answers_raw, answered_raw}
use Rattle.proof_print.proofs.Hashless.{HasNoHash, HaveNoHash, are_plain, read_plain, all_plain, plain_begun, plain_noted}

-- a name in quotes is no operator before its argument
quoted_prefix : (rows : List OperatorRow) (s : List ℕ) → are_lawful rows ≡ true → if_prefix (operator_of rows (in_quotes s)) ≡ None
quoted_prefix rows s l = by (if_prefix (operator_of rows (in_quotes s))) refl
  where
    by : (o : Option Operator) → if_prefix (operator_of rows (in_quotes s)) ≡ o → o ≡ None
    by None e = refl
    by (Some o) e = absurd (let starts = name_starts rows s l in let told = ap (λ q. start_of_symbol (quantifier_of (in_quotes s)) q (in_quotes s)) (sym e) ∙ starts in cc)

-- one more in front of terms between commas
one_before : (g : OperatorTable) (n : Lexeme) (u : RawTree) → Reads g (n ∷ []) u 0 → {ts : List Lexeme} {us : List RawTree} → ReadsAll g ts us → ReadsAll g (n ∷ comma ∷ ts) (u ∷ us)
one_before g n u r (single r' m) = one_further (single r (omega arith)) r' m
one_before g n u r (one_further rs r' m) = one_further (one_before g n u r rs) r' m

-- digits are an ordinary symbol, and no `#`
digits_written : (n : ℕ) → n < 2 ^ 64 → Writes (decimal n) (symbol ordinary (decimal n) ∷ [])
digits_written n h = symbol_written ordinary (decimal n) (ordinary_decimal n h)

no_hash_number : (n : ℕ) → n < 2 ^ 64 → bytes_eq (decimal n) (codes "#") ≡ false
no_hash_number n h = by (bytes_eq (decimal n) (codes "#")) refl
  where
    by : (b : Bool) → bytes_eq (decimal n) (codes "#") ≡ b → b ≡ false
    by false e = refl
    by true e = absurd (
        let same : decimal n ≡ codes "#" = (bytes_eq-Decides (decimal n) (codes "#")).0 e in
        let none : whole_number (codes "#") ≡ Some n = sym (ap whole_number same) ∙ whole_decimal n h in
        cc)

parts_joined : (a d c t f e : List ℕ) → a ++ d ++ c ++ (t ++ f) ++ e ≡ a ++ (d ++ (c ++ t ++ f ++ e))
parts_joined a d c t f e = simp append_assoc

module _ (rows : List OperatorRow) (l : are_lawful rows ≡ true) (fixed : KeepsFixed rows) where
  abbrev g : OperatorTable
  g = table_of rows

  lawful : Lawful g
  lawful = table_lawful rows l

  -- tokens behind a `#` that are written so, and read as the term once they are marked
  record Noted (bytes : List ℕ) (t : RawTree) (p : ℕ) : Type 0 where
    tokens : List Lexeme
    marked : List Lexeme
    writes : Writes bytes tokens
    notes : (us : List Lexeme) → noted_from BehindHash (tokens ++ us) ≡ marked ++ noted_from Elsewhere us
    begun : (us : List Lexeme) → list_any (λ m. m) (marks_from BehindHash (tokens ++ us)) ≡ true
    reads : Reads g marked t p

  -- one answer
  answer_noted : (table : List Symbol) (v : Naming) (n : ℕ) (t : RawTree) (ts : List RawTree) → n < 2 ^ 64 → Listed g (text_of g t ++ further (printed_all g (raws_of ts))) (t ∷ ts) →
      HaveNoHash (raws_of (t ∷ ts)) →
      Noted (codes "answer(" ++ (decimal n ++ (further (printed_all g (raws_of (t ∷ ts))) ++ codes ")")))
      (named (in_quotes (codes "answer")) (more_raws (named (in_quotes (decimal n)) no_raws) (raws_of (t ∷ ts)))) 0
  unfolding is_ordinary
  answer_noted table v n t ts h x plain =
      let inside = text_of g t ++ further (printed_all g (raws_of ts)) in
      let name : Reads g (symbol quoted (in_quotes (decimal n)) ∷ []) (named (in_quotes (decimal n)) no_raws) 0 = atom quoted (in_quotes (decimal n)) refl (quoted_prefix rows (decimal n) l) in
      let no = all_plain g x.reads plain in
      let word = symbol ordinary (codes "answer") in
      let number = symbol ordinary (decimal n) in
      let front : Writes (codes "answer" ++ codes "(") (word ∷ open_paren ∷ []) =
      follow (codes "answer") (codes "(") (word ∷ []) (open_paren ∷ []) (symbol_written ordinary (codes "answer") refl) open_written (before_alone (codes "answer") 40 [] open_alone)
      in
      let counted : Writes (codes "answer(" ++ decimal n) (word ∷ open_paren ∷ number ∷ []) =
      follow (codes "answer(") (decimal n) (word ∷ open_paren ∷ []) (number ∷ []) front (digits_written n h) (behind_last (codes "answer") 40 (decimal n) open_alone)
      in
      let parted : Writes ((codes "answer(" ++ decimal n) ++ codes ",") (word ∷ open_paren ∷ number ∷ comma ∷ []) =
      follow (codes "answer(" ++ decimal n) (codes ",") (word ∷ open_paren ∷ number ∷ []) (comma ∷ []) counted comma_written (before_alone (codes "answer(" ++ decimal n) 44 [] comma_alone)
      in
      let filled : Writes (((codes "answer(" ++ decimal n) ++ codes ",") ++ inside) (word ∷ open_paren ∷ number ∷ comma ∷ x.tokens) =
      follow ((codes "answer(" ++ decimal n) ++ codes ",") inside (word ∷ open_paren ∷ number ∷ comma ∷ []) x.tokens parted x.writes (behind_last (codes "answer(" ++ decimal n) 44 inside comma_alone)
      in
      let closed : Writes ((((codes "answer(" ++ decimal n) ++ codes ",") ++ inside) ++ codes ")") (word ∷ open_paren ∷ number ∷ comma ∷ (x.tokens ++ close_paren ∷ [])) =
      follow (((codes "answer(" ++ decimal n) ++ codes ",") ++ inside) (codes ")") (word ∷ open_paren ∷ number ∷ comma ∷ x.tokens) (close_paren ∷ []) filled close_written
      (before_alone (((codes "answer(" ++ decimal n) ++ codes ",") ++ inside) 41 [] close_alone)
      in
      let text : (((codes "answer(" ++ decimal n) ++ codes ",") ++ inside) ++ codes ")" ≡ codes "answer(" ++ (decimal n ++ (further (printed_all g (raws_of (t ∷ ts))) ++ codes ")")) =
      parts_joined (codes "answer(") (decimal n) (codes ",") (text_of g t) (further (printed_all g (raws_of ts))) (codes ")")
      in
      record {
        tokens = word ∷ open_paren ∷ number ∷ comma ∷ (x.tokens ++ close_paren ∷ []);
        marked = symbol quoted (in_quotes (codes "answer")) ∷ open_paren ∷ (symbol quoted (in_quotes (decimal n)) ∷ comma ∷ x.tokens ++ close_paren ∷ []);
        writes = subst (λ b. Writes b (word ∷ open_paren ∷ number ∷ comma ∷ (x.tokens ++ close_paren ∷ []))) text closed;
        notes = λ us.
            rw (ap is_some (whole_decimal n h), no_hash_number n h)
            (ap (λ vs. symbol quoted (in_quotes (codes "answer")) ∷ open_paren ∷ symbol quoted (in_quotes (decimal n)) ∷ comma ∷ vs)
            (ap (noted_from Elsewhere) (append_assoc x.tokens (close_paren ∷ []) us) ∙ plain_noted x.tokens (close_paren ∷ us) no ∙ sym (append_assoc x.tokens (close_paren ∷ []) (noted_from Elsewhere us))));
        begun = λ us. refl;
        reads = applied quoted (in_quotes (codes "answer")) refl (quoted_prefix rows (codes "answer") l) (one_before g (symbol quoted (in_quotes (decimal n))) (named (in_quotes (decimal n)) no_raws) name x.reads);
      }

  is_hash_op : operator_of rows (codes "#") ≡ Some hash
  is_hash_op = fixed (codes "#") refl ∙ refl

  hash_written : Writes (codes "#") (symbol special (codes "#") ∷ [])
  unfolding is_ordinary is_special
  hash_written = symbol_written special (codes "#") refl

  words : HasWords g
  words = record { spelled = λ q. spelled q }
    where
      spelled : (q : Quantifier) → g.word (word q) ≡ Some q
      spelled All = refl
      spelled Exists = refl

  goods : (ts : List RawTree) → HaveTexts g (raws_of ts) → AllGood g ts
  goods [] h = tt
  goods (t ∷ ts) h = (good g lawful words t h.0, goods ts h.1)

  -- an answer that can be shown: its number is short, and it has a term at least, each with a text
  pub record CanShow (table : List Symbol) (v : Naming) (a : Answer) : Type 0 where
    pub short : a.goal < 2 ^ 64
    pub first : RawTree
    pub others : List RawTree
    pub are : terms_raw table v a.terms ≡ raws_of (first ∷ others)
    pub texts : HaveTexts g (raws_of (first ∷ others))
    pub plain : HaveNoHash (raws_of (first ∷ others))

  abbrev pub CanShowAll : List Symbol → Naming → List Answer → Type 0
  CanShowAll table v [] = Unit {0}
  CanShowAll table v (a ∷ us) = CanShow table v a × CanShowAll table v us

  shown : (table : List Symbol) (v : Naming) (a : Answer) → CanShow table v a → Noted (answer_bytes g table v a) (answer_raw table v a) 0
  shown table v a h =
      let t = h.first in
      let ts = h.others in
      let start : Listed g (text_of g t) (t ∷ []) =
      (let x = good g lawful words t h.texts.0 in record { tokens = x.tokens; writes = x.writes; reads = single x.reads (reads_at_most g lawful x.reads) })
      in
      let x = all_listed g lawful (text_of g t) (t ∷ []) ts start (goods ts h.texts.1) in
      let made = answer_noted table v a.goal t ts h.short x h.plain in
      subst (λ us. Noted (codes "answer(" ++ (decimal a.goal ++ (further (printed_all g us) ++ codes ")"))) (named (in_quotes (codes "answer")) (more_raws (named (in_quotes (decimal a.goal)) no_raws) us)) 0)
      (sym h.are) made

  -- what stands behind a `#` may
  record Behind (bytes : List ℕ) (t : RawTree) : Type 0 where
    own : ℕ
    noted : Noted bytes t own
    fits : ends (right InfixRight) 810 own (tree_grows g t) ≡ true

  after_hash : if_after (operator_of rows (codes "#")) ≡ Some hash
  after_hash = rw is_hash_op refl

  behind : (table : List Symbol) (v : Naming) (a : Answer) (us : List Answer) → CanShow table v a → CanShowAll table v us →
      Behind (answer_bytes g table v a ++ answers_bytes g table v us) (answers_raw table v a us)
  behind table v a [] h k =
      record {
        own = 0;
        noted = subst (λ b. Noted b (answer_raw table v a) 0) (sym (append-nil (answer_bytes g table v a))) (shown table v a h);
        fits = up_to_room 810 (tree_grows g (answer_raw table v a)) (omega arith);
      }
  behind table v a (b ∷ us) h k =
      let x = shown table v a h in
      let y = behind table v b us k.0 k.1 in
      let one = answer_bytes g table v a in
      let other = answer_bytes g table v b ++ answers_bytes g table v us in
      let sign = symbol special (codes "#") in
      let joined : Writes (one ++ codes " " ++ codes "#" ++ codes " " ++ other) ((x.tokens ++ sign ∷ []) ++ y.noted.tokens) =
      spaced_follow (one ++ codes " " ++ codes "#") other (x.tokens ++ sign ∷ []) y.noted.tokens
      (spaced_follow one (codes "#") x.tokens (sign ∷ []) x.writes hash_written) y.noted.writes
      in
      let text : one ++ codes " " ++ codes "#" ++ codes " " ++ other ≡ one ++ (codes " # " ++ other) = simp append_assoc in
      record {
        own = 810;
        noted = record {
          tokens = x.tokens ++ sign ∷ y.noted.tokens;
          marked = x.marked ++ sign ∷ y.noted.marked;
          writes =
              subst (λ (c : List ℕ). Writes c (x.tokens ++ sign ∷ y.noted.tokens)) text
              (subst (Writes (one ++ codes " " ++ codes "#" ++ codes " " ++ other)) (append_assoc x.tokens (sign ∷ []) y.noted.tokens) joined);
          notes = λ vs.
              ap (noted_from BehindHash) (append_assoc x.tokens (sign ∷ y.noted.tokens) vs) ∙ x.notes (sign ∷ (y.noted.tokens ++ vs))
              ∙ ap (λ (ws : List Lexeme). x.marked ++ sign ∷ ws) (y.noted.notes vs) ∙ sym (append_assoc x.marked (sign ∷ y.noted.marked) (noted_from Elsewhere vs));
          begun = λ vs. ap (λ (ws : List Lexeme). list_any (λ m. m) (marks_from BehindHash ws)) (append_assoc x.tokens (sign ∷ y.noted.tokens) vs) ∙ x.begun (sign ∷ (y.noted.tokens ++ vs));
          reads = infixed special (codes "#") hash after_hash x.reads refl y.noted.reads y.fits;
        };
        fits = rw is_hash_op refl;
      }

  front_is : (table : List Symbol) (v : Naming) (c : ClauseTree) → clause_in_front g table v c ≡ left_argument hash (printed g (clause_raw table v c))
  front_is table v [] = empty
    where
      empty : codes "$F" ≡ left_argument hash (printed g (clause_raw table v []))
      empty = rw (fixed (codes "$F") refl) refl
  front_is table v (l ∷ []) = refl
  front_is table v (l ∷ m ∷ ls) = clause_is rows fixed table v (l ∷ m ∷ ls) ∙ sym whole
    where
      whole : left_argument hash (printed g (clause_raw table v (l ∷ m ∷ ls))) ≡ text_of g (clause_raw table v (l ∷ m ∷ ls))
      whole = rw (fixed (codes "|") refl) refl

  -- a text with tokens that are the term once they are marked, with a full stop behind them; an answer begins in them
  pub record ShowsNoted (bytes : List ℕ) (t : RawTree) : Type 0 where
    pub tokens : List Lexeme
    pub writes : Writes bytes tokens
    pub item : Item g (noted (tokens ++ full_stop ∷ [])) t
    pub begun : begins_answer (tokens ++ full_stop ∷ []) ≡ true

  pub answered_shown : (table : List Symbol) (v : Naming) (c : ClauseTree) (a : Answer) (us : List Answer) → HasText g (clause_raw table v c) → HasNoHash (clause_raw table v c) → CanShow table v a → CanShowAll table v us →
      ShowsNoted (answered_bytes g table v c (a ∷ us)) (answered_raw table v c (a ∷ us))
  answered_shown table v c a us h plain can all =
      let f = fitted g (clause_raw table v c) (takes (left InfixRight) 810) refl (good g lawful words (clause_raw table v c) h) in
      let y = behind table v a us can all in
      let one = left_argument hash (printed g (clause_raw table v c)) in
      let other = answer_bytes g table v a ++ answers_bytes g table v us in
      let sign = symbol special (codes "#") in
      let joined : Writes (one ++ codes " " ++ codes "#" ++ codes " " ++ other) ((f.shows.tokens ++ sign ∷ []) ++ y.noted.tokens) =
      spaced_follow (one ++ codes " " ++ codes "#") other (f.shows.tokens ++ sign ∷ []) y.noted.tokens
      (spaced_follow one (codes "#") f.shows.tokens (sign ∷ []) f.shows.writes hash_written) y.noted.writes
      in
      let spaces : one ++ codes " " ++ codes "#" ++ codes " " ++ other ≡ one ++ (codes " # " ++ other) = simp append_assoc in
      let text : one ++ codes " " ++ codes "#" ++ codes " " ++ other ≡ clause_in_front g table v c ++ (codes " # " ++ other) =
      spaces ∙ ap (λ (b : List ℕ). b ++ (codes " # " ++ other)) (sym (front_is table v c))
      in
      let read : Reads g (f.shows.tokens ++ sign ∷ y.noted.marked) (answered_raw table v c (a ∷ us)) 810 = infixed special (codes "#") hash after_hash f.shows.reads f.fits y.noted.reads y.fits in
      record {
        tokens = f.shows.tokens ++ sign ∷ y.noted.tokens;
        writes =
            subst (λ (b : List ℕ). Writes b (f.shows.tokens ++ sign ∷ y.noted.tokens)) text
            (subst (Writes (one ++ codes " " ++ codes "#" ++ codes " " ++ other)) (append_assoc f.shows.tokens (sign ∷ []) y.noted.tokens) joined);
        item = record {
          tokens = f.shows.tokens ++ sign ∷ y.noted.marked;
          precedence = 810;
          reads = read;
          bounded = reads_at_most g lawful read;
          stops =
              ap noted (append_assoc f.shows.tokens (sign ∷ y.noted.tokens) (full_stop ∷ []))
              ∙ plain_noted f.shows.tokens (sign ∷ (y.noted.tokens ++ full_stop ∷ [])) (read_plain g f.shows.reads plain)
              ∙ ap (λ (ws : List Lexeme). f.shows.tokens ++ sign ∷ ws) (y.noted.notes (full_stop ∷ [])) ∙ sym (append_assoc f.shows.tokens (sign ∷ y.noted.marked) (full_stop ∷ []));
        };
        begun =
            ap begins_answer (append_assoc f.shows.tokens (sign ∷ y.noted.tokens) (full_stop ∷ []))
            ∙ plain_begun f.shows.tokens (sign ∷ (y.noted.tokens ++ full_stop ∷ [])) (read_plain g f.shows.reads plain) ∙ y.noted.begun (full_stop ∷ []);
      }
