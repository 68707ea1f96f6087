-- A printed proof is a block, whose lines are read as the proof's.
use Rattle.std.proofs.Common.{◌≡◌, ℕ, zero, suc, ◌+◌, ◌<◌, ◌^◌, Bool, true, false, List, [], ◌∷◌, ◌++◌, length, take, drop, map, None, refl, sym, ap, ◌∙◌, subst, append_assoc}
use Rattle.std.specs.Prelude.{◌==◌, ◌&&◌, ◌||◌, not, if◌then◌else◌, codes}
use Rattle.std.specs.Fmt.{decimal}
use Rattle.std.specs.List.{list_all, list_any, concat, prefix_len}
use Rattle.std.specs.Str.{bytes_eq}
use Rattle.std.proofs.Math.Numerals.{one-add}
use Rattle.std.proofs.lemmas.Bool.{and_parts, eqb-true, cond-true, cond-false, both_ways}
use Rattle.derivation.specs.declared.line.Line.{Line}
use Rattle.fol_core.specs.SymbolTable.{Symbol}
use Rattle.ladr_formulas.specs.Formulas.{style_of}
use Rattle.ladr_formulas.specs.declared.styles.Mode.TheVariants.{Prover}
use Rattle.ladr_lex.specs.Bytes.{is_blank, is_ordinary}
use Rattle.ladr_lex.specs.Comments.{begins_with, is_in_line}
use Rattle.ladr_lex.specs.Cuts.{Piece, IsLongest, gap, is_run}
use Rattle.ladr_lex.specs.Starts.{start_of}
use Rattle.ladr_lex.specs.Lexeme.{Lexeme, lexeme}
use Rattle.ladr_lex.specs.Operators.{OperatorRow, are_lawful}
use Rattle.ladr_lex.specs.Places.{ends_line}
use Rattle.ladr_lex.proofs.Numerals.{ordinary_decimal, whole_decimal}
use Rattle.ladr_print.proofs.Longest.{longest_front}
use Rattle.ladr_problem.specs.Items.{lexemes}
use Rattle.ladr_reader.specs.Worked.{lexemes_in}
use Rattle.proof_lines.specs.ContentTokens.{LineTables}
use Rattle.proof_lines.specs.Faults.{IsLineRead}
use Rattle.proof_print.specs.LineTexts.{content_text, line_text, lines_text, head_text, proof_banner, end_banner, proof_bytes, frame_text}
use Rattle.proof_print.specs.Reread.{CanPrint, IsCutInto, IsPrintableLine, ArePrintable, AreLinesRead, row_tables}
use Rattle.proof_print.specs.declared.texts.Heads.{Heads}
use Rattle.proof_print.proofs.LinesBack.{lines_read}
use Rattle.proof_print.proofs.TidyWords.{words_tidy}
use Rattle.proof_text.specs.Blocks.{HasBlocks, closed, in_front, lines_in, is_end_banner, blank, bared}
use Rattle.proof_text.specs.Frame.{IsFramed}
use Rattle.proof_text.specs.Proofs.{Reader, HasLines, no_line, further_line, HasBlockLines, no_block, further_block}
use Rattle.proof_words.specs.Written.{written_of}
use Rattle.words_print.specs.WordTokens.{words_tokens, words_text}
use Rattle.printed_proofs.specs.Printed.{PrintedProof, IsShortHead, ArePrintableProofs, proofs_text, head_line, head_lines, printed_block, HoldsNoProof, ReadsProofs}
use Rattle.printed_proofs.proofs.InLine.{InLine, ordinary_in, in_append, decimal_in, content_in, joint_in}

-- a text without the end of a line, with it, is the first line
first_line_is : (l r : List ℕ) → InLine l → lines_in (l ++ (10 ∷ r)) ≡ (l ++ 10 ∷ []) ∷ lines_in r
first_line_is [] r h = refl
first_line_is (b ∷ l) r h =
    let parts = and_parts (is_in_line b) (list_all is_in_line l) h in
    let inside : ends_line b ≡ false = not_ends (ends_line b) parts.0 in
    cond-false (ends_line b) _ _ inside ∙ ap (in_front b) (first_line_is l r parts.1)
  where
    not_ends : (e : Bool) → not e ≡ true → e ≡ false
    not_ends true k = absurd (cc)
    not_ends false k = refl

-- comment lines are white space
blank_before : (b : ℕ) (bytes : List ℕ) (us : List Lexeme) → ((r : List ℕ) → IsLongest None (b ∷ []) r) → ((i : ℕ) → IsCutInto i bytes us) → (i : ℕ) → IsCutInto i (b ∷ bytes) us
blank_before b bytes us l h i =
    let rest = h (i + 1) in
    record { pieces = rest.pieces; cuts = gap (l bytes) rest.cuts; are = rest.are }

space_alone : (r : List ℕ) → IsLongest None (32 ∷ []) r
unfolding start_of is_blank
space_alone r = longest_front None 32 [] r refl refl

end_alone : (r : List ℕ) → IsLongest None (10 ∷ []) r
unfolding start_of is_blank
end_alone r = longest_front None 10 [] r refl refl

blank_is : (b : ℕ) (r : List ℕ) → IsLongest None (blank b ∷ []) r
blank_is b r = by (ends_line b) refl
  where
    by : (e : Bool) → ends_line b ≡ e → IsLongest None ((if e then b else 32) ∷ []) r
    by true e = subst (λ (c : ℕ). IsLongest None (c ∷ []) r) (sym (eqb-true b 10 e)) (end_alone r)
    by false e = space_alone r

blanks_before : (line bytes : List ℕ) (us : List Lexeme) → ((i : ℕ) → IsCutInto i bytes us) → (i : ℕ) → IsCutInto i (map blank line ++ bytes) us
blanks_before [] bytes us h = h
blanks_before (b ∷ line) bytes us h = blank_before (blank b) (map blank line ++ bytes) us (blank_is b) (blanks_before line bytes us h)

-- pieces without their places
same_lexemes : (ts : List Piece) → lexemes ts ≡ lexemes_in ts
same_lexemes [] = refl
same_lexemes (t ∷ ts) = ap (λ (us : List Lexeme). lexeme t.kind t.text ∷ us) (same_lexemes ts)

drop_lexemes : (n : ℕ) (ts : List Piece) → lexemes (drop n ts) ≡ drop n (lexemes ts)
drop_lexemes zero ts = refl
drop_lexemes (suc n) [] = refl
drop_lexemes (suc n) (t ∷ ts) = drop_lexemes n ts

none_left : (ts : List Piece) → lexemes ts ≡ [] → ts ≡ []
none_left [] e = refl
none_left (t ∷ ts) e = absurd (cc)

module _ (formulas clauses : List OperatorRow) (prolog : Bool) (problem T : List Symbol) (lawful : are_lawful formulas ≡ true) (can : CanPrint clauses prolog T) where
  abbrev g : LineTables
  g = row_tables formulas clauses

  abbrev reader : Reader
  reader = record { tables = g; style = style_of Prover prolog; problem = problem }

  has_lines : (ls : List Line) (us : List Lexeme) (ts : List Piece) → lexemes ts ≡ us → AreLinesRead g (style_of Prover prolog) problem T us ls → HasLines reader T ts ls T []
  has_lines [] us ts e a = subst (λ (xs : List Piece). HasLines reader T xs [] T []) (sym (none_left ts (e ∙ a))) no_line
  has_lines (l ∷ ls) us ts e a =
      further_line (record { line = l; len = a.0 }) (subst (λ (vs : List Lexeme). IsLineRead g (style_of Prover prolog) problem T vs (record { line = l; len = a.0 }) T) (sym e) a.1)
      (has_lines ls (drop a.0 us) (drop a.0 ts) (drop_lexemes a.0 ts ∙ ap (drop a.0) e) a.2)

  -- the text of a line before its end
  line_front : Line → List ℕ
  line_front l = decimal l.number ++ (codes " " ++ (content_text g T prolog l.content ++ (codes ".  " ++ words_text (written_of l.just))))

  line_split : (l : Line) → line_text g T prolog l ≡ line_front l ++ codes "\n"
  unfolding line_front
  line_split l = by (decimal l.number) (content_text g T prolog l.content) (words_text (written_of l.just))
    where
      by : (d c w : List ℕ) → d ++ (codes " " ++ (c ++ (codes ".  " ++ (w ++ codes "\n")))) ≡ (d ++ (codes " " ++ (c ++ (codes ".  " ++ w)))) ++ codes "\n"
      by d c w = simp append_assoc

  front_in : (l : Line) → IsPrintableLine g prolog problem T l → InLine (line_front l)
  unfolding line_front
  front_in l p =
      let w = words_text (written_of l.just) in
      let content = content_text g T prolog l.content in
      in_append (decimal l.number) (codes " " ++ (content ++ (codes ".  " ++ w))) (decimal_in l.number p.number)
      (in_append (codes " ") (content ++ (codes ".  " ++ w)) refl
      (in_append content (codes ".  " ++ w) (content_in formulas clauses prolog problem T l.content can p.content)
      (in_append (codes ".  ") w refl (joint_in (words_tokens (written_of l.just)) (words_tidy (written_of l.just) p.words)))))

  -- the lines of lines
  lines_are_lines : (ls : List Line) → ArePrintable g prolog problem T ls → (r : List ℕ) → lines_in (lines_text g T prolog ls ++ r) ≡ map (line_text g T prolog) ls ++ lines_in r
  lines_are_lines [] p r = refl
  lines_are_lines (l ∷ ls) p r =
      let rest = lines_text g T prolog ls ++ r in
      let front = line_front l in
      ap lines_in (append_assoc (line_text g T prolog l) (lines_text g T prolog ls) r ∙ ap (λ (b : List ℕ). b ++ rest) (line_split l) ∙ append_assoc front (codes "\n") rest)
      ∙ first_line_is front rest (front_in l p.0)
      ∙ (λ i. sym (line_split l) i ∷ lines_are_lines ls p.1 r i)

  -- a line begins with a byte of a symbol
  record Begins (l : Line) : Type 0 where
    byte : ℕ
    others : List ℕ
    is_ordinary_one : is_ordinary byte ≡ true
    text : line_text g T prolog l ≡ byte ∷ others

  begins : (l : Line) → IsPrintableLine g prolog problem T l → Begins l
  begins l p = by (decimal l.number) refl (ordinary_decimal l.number p.number)
    where
      by : (d : List ℕ) → decimal l.number ≡ d → is_run is_ordinary d ≡ true → Begins l
      by [] e h = absurd (cc)
      by (b ∷ bs) e h = record {
        byte = b;
        others = bs ++ (codes " " ++ (content_text g T prolog l.content ++ (codes ".  " ++ (words_text (written_of l.just) ++ codes "\n"))));
        is_ordinary_one = (and_parts (is_ordinary b) (list_all is_ordinary bs) h).0;
        text = ap (λ (d : List ℕ). d ++ (codes " " ++ (content_text g T prolog l.content ++ (codes ".  " ++ (words_text (written_of l.just) ++ codes "\n"))))) e;
      }

  no_percent : (b : ℕ) → is_ordinary b ≡ true → (b == 37) ≡ false
  unfolding is_ordinary
  no_percent b h = by (b == 37) refl
    where
      by : (e : Bool) → (b == 37) ≡ e → e ≡ false
      by true e = absurd (both_ways (is_ordinary 37) refl (sym (ap is_ordinary (eqb-true b 37 e)) ∙ h))
      by false e = refl

  no_sign : (b : ℕ) → is_ordinary b ≡ true → (b == 61) ≡ false
  unfolding is_ordinary
  no_sign b h = by (b == 61) refl
    where
      by : (e : Bool) → (b == 61) ≡ e → e ≡ false
      by true e = absurd (both_ways (is_ordinary 61) refl (sym (ap is_ordinary (eqb-true b 61 e)) ∙ h))
      by false e = refl

  bared_line : (l : Line) → IsPrintableLine g prolog problem T l → bared (line_text g T prolog l) ≡ line_text g T prolog l
  bared_line l p =
      let b = begins l p in
      let none : begins_with (codes "%") (line_text g T prolog l) ≡ false = ap (begins_with (codes "%")) b.text ∙ ap (λ (e : Bool). e && true) (no_percent b.byte b.is_ordinary_one) in
      cond-false (begins_with (codes "%") (line_text g T prolog l)) _ _ none

  bared_lines : (ls : List Line) → ArePrintable g prolog problem T ls → concat (map bared (map (line_text g T prolog) ls)) ≡ lines_text g T prolog ls
  bared_lines [] p = refl
  bared_lines (l ∷ ls) p = (λ i. bared_line l p.0 i ++ bared_lines ls p.1 i)

  -- no line but the last is the banner of an end
  no_banner : (b : ℕ) (bs : List ℕ) → is_in_line b ≡ true → (b == 61) ≡ false → is_end_banner (b ∷ bs) ≡ false
  no_banner b bs h k =
      let n : prefix_len is_in_line (b ∷ bs) ≡ suc (prefix_len is_in_line bs) = cond-true (is_in_line b) _ _ h ∙ one-add (prefix_len is_in_line bs) in
      ap (λ (m : ℕ). bytes_eq (take m (b ∷ bs)) (codes "============================== end of proof ==========================")) n
      ∙ ap (λ (e : Bool). e && bytes_eq (take (prefix_len is_in_line bs) bs) (codes "============================= end of proof ==========================")) k

  no_end : (l : Line) → IsPrintableLine g prolog problem T l → is_end_banner (line_text g T prolog l) ≡ false
  no_end l p =
      let b = begins l p in
      ap is_end_banner b.text ∙ no_banner b.byte b.others (ordinary_in b.byte b.is_ordinary_one) (no_sign b.byte b.is_ordinary_one)

  no_ends : (ls : List Line) → ArePrintable g prolog problem T ls → list_any is_end_banner (map (line_text g T prolog) ls) ≡ false
  no_ends [] p = refl
  no_ends (l ∷ ls) p = ap (λ (e : Bool). e || list_any is_end_banner (map (line_text g T prolog) ls)) (no_end l p.0) ∙ no_ends ls p.1

  head_no_end : (before : List ℕ) (n : ℕ) → is_end_banner (37 ∷ ((before ++ (decimal n ++ codes ".")) ++ codes "\n")) ≡ false
  head_no_end before n = no_banner 37 ((before ++ (decimal n ++ codes ".")) ++ codes "\n") refl refl

  inner_no_end : (h : Heads) (ls : List Line) → ArePrintable g prolog problem T ls → list_any is_end_banner (head_lines h ++ map (line_text g T prolog) ls) ≡ false
  inner_no_end h ls p =
      (λ i. head_no_end (codes " Proof ") h.proof i || (head_no_end (codes " Length of proof is ") h.length i || (head_no_end (codes " Level of proof is ") h.level i
      || (head_no_end (codes " Maximum clause weight is ") h.weight i || (head_no_end (codes " Given clauses ") h.given i || no_ends ls p i)))))

  -- the lines of a head
  head_step : (before : List ℕ) (n : ℕ) (rest : List ℕ) → InLine before → n < 2 ^ 64 → lines_in (before ++ (decimal n ++ (46 ∷ 10 ∷ rest))) ≡ head_line before n ∷ lines_in rest
  head_step before n rest h k =
      ap lines_in (by before (decimal n) rest)
      ∙ first_line_is (before ++ (decimal n ++ codes ".")) rest (in_append before (decimal n ++ codes ".") h (in_append (decimal n) (codes ".") (decimal_in n k) refl))
    where
      by : (b d r : List ℕ) → b ++ (d ++ (46 ∷ 10 ∷ r)) ≡ (b ++ (d ++ codes ".")) ++ (10 ∷ r)
      by b d r = simp append_assoc

  heads_more : (a b c d e r : List ℕ) →
      (codes "% Proof " ++ (a ++ (codes ".\n% Length of proof is " ++ (b ++ (codes ".\n% Level of proof is " ++ (c ++ (codes ".\n% Maximum clause weight is " ++ (d ++ (codes ".\n% Given clauses " ++ (e ++ codes ".\n")))))))))) ++ r
      ≡ codes "% Proof " ++ (a ++ (codes ".\n% Length of proof is " ++ (b ++ (codes ".\n% Level of proof is " ++ (c ++ (codes ".\n% Maximum clause weight is " ++ (d ++ (codes ".\n% Given clauses " ++ (e ++ (codes ".\n" ++ r))))))))))
  heads_more a b c d e r = simp append_assoc

  head_is_lines : (h : Heads) → IsShortHead h → (r : List ℕ) → lines_in (head_text h ++ r) ≡ head_lines h ++ lines_in r
  head_is_lines h k r =
      let r5 = r in
      let r4 = codes "% Given clauses " ++ (decimal h.given ++ (46 ∷ 10 ∷ r5)) in
      let r3 = codes "% Maximum clause weight is " ++ (decimal h.weight ++ (46 ∷ 10 ∷ r4)) in
      let r2 = codes "% Level of proof is " ++ (decimal h.level ++ (46 ∷ 10 ∷ r3)) in
      let r1 = codes "% Length of proof is " ++ (decimal h.length ++ (46 ∷ 10 ∷ r2)) in
      let a = head_line (codes "% Proof ") h.proof in
      let b = head_line (codes "% Length of proof is ") h.length in
      let c = head_line (codes "% Level of proof is ") h.level in
      let d = head_line (codes "% Maximum clause weight is ") h.weight in
      ap lines_in (heads_more (decimal h.proof) (decimal h.length) (decimal h.level) (decimal h.weight) (decimal h.given) r)
      ∙ head_step (codes "% Proof ") h.proof r1 refl k.0
      ∙ ap (λ (ls : List (List ℕ)). a ∷ ls) (head_step (codes "% Length of proof is ") h.length r2 refl k.1
      ∙ ap (λ (ls : List (List ℕ)). b ∷ ls) (head_step (codes "% Level of proof is ") h.level r3 refl k.2
      ∙ ap (λ (ls : List (List ℕ)). c ∷ ls) (head_step (codes "% Maximum clause weight is ") h.weight r4 refl k.3
      ∙ ap (λ (ls : List (List ℕ)). d ∷ ls) (head_step (codes "% Given clauses ") h.given r5 refl k.4))))

  -- a block
  block_lines : (i : ℕ) (p : PrintedProof) → ArePrintable g prolog problem T p.lines → HasBlockLines reader T (printed_block g T prolog i p) p.lines T
  block_lines i p k =
      let r = lines_read formulas clauses prolog problem T p.lines lawful can k in
      let h = p.heads in
      let start = i + length proof_banner in
      let cut = blanks_before (head_line (codes "% Proof ") h.proof) _ r.tokens
      (blanks_before (head_line (codes "% Length of proof is ") h.length) _ r.tokens
      (blanks_before (head_line (codes "% Level of proof is ") h.level) _ r.tokens
      (blanks_before (head_line (codes "% Maximum clause weight is ") h.weight) _ r.tokens
      (blanks_before (head_line (codes "% Given clauses ") h.given) (concat (map bared (map (line_text g T prolog) p.lines))) r.tokens
      (λ j. subst (λ (b : List ℕ). IsCutInto j b r.tokens) (sym (bared_lines p.lines k)) (r.cut j)))))) start
      in
      (cut.pieces, cut.cuts, has_lines p.lines r.tokens cut.pieces (same_lexemes cut.pieces ∙ cut.are) r.are)

  proof_lines_in : (p : PrintedProof) → IsShortHead p.heads → ArePrintable g prolog problem T p.lines → (r : List ℕ) →
      lines_in (proof_bytes g T prolog p.heads p.lines ++ r) ≡ proof_banner ∷ ((head_lines p.heads ++ map (line_text g T prolog) p.lines) ++ (end_banner ∷ lines_in r))
  proof_lines_in p k q r =
      let ls = lines_text g T prolog p.lines in
      let last = end_banner ++ r in
      ap lines_in (by proof_banner (head_text p.heads) ls end_banner r)
      ∙ first_line_is (codes "============================== PROOF =================================") (head_text p.heads ++ (ls ++ last)) refl
      ∙ ap (λ (xs : List (List ℕ)). proof_banner ∷ xs) (head_is_lines p.heads k (ls ++ last)
      ∙ ap (λ (xs : List (List ℕ)). head_lines p.heads ++ xs) (lines_are_lines p.lines q last
      ∙ ap (λ (xs : List (List ℕ)). map (line_text g T prolog) p.lines ++ xs) (first_line_is (codes "============================== end of proof ==========================") r refl))
      ∙ sym (append_assoc (head_lines p.heads) (map (line_text g T prolog) p.lines) (end_banner ∷ lines_in r)))
    where
      by : (a b c d r : List ℕ) → (a ++ (b ++ (c ++ d))) ++ r ≡ a ++ (b ++ (c ++ (d ++ r)))
      by a b c d r = simp append_assoc

  -- all blocks of a text that goes on without one
  pub are_blocks : (ps : List PrintedProof) → ArePrintableProofs g prolog problem T ps → (tail : List ℕ) → HoldsNoProof tail → (i : ℕ) → ReadsProofs g prolog problem T i ps tail
  are_blocks [] k tail none i = record { blocks = []; found = none i; proofs = no_block; all_closed = refl }
  are_blocks (p ∷ ps) k tail none i =
      let text = proof_bytes g T prolog p.heads p.lines in
      let rest = proofs_text g T prolog ps ++ tail in
      let inner = head_lines p.heads ++ map (line_text g T prolog) p.lines in
      let more = are_blocks ps k.2 tail none (i + length proof_banner + length (concat inner) + length end_banner) in
      let here : HasBlocks i (proof_banner ∷ (inner ++ (end_banner ∷ lines_in rest))) (printed_block g T prolog i p ∷ more.blocks) =
      closed end_banner refl (inner_no_end p.heads p.lines k.1) refl more.found
      in
      record {
        blocks = printed_block g T prolog i p ∷ more.blocks;
        found =
            subst (λ (ls : List (List ℕ)). HasBlocks i ls (printed_block g T prolog i p ∷ more.blocks))
            (sym (ap lines_in (append_assoc text (proofs_text g T prolog ps) tail) ∙ proof_lines_in p k.0 k.1 rest)) here;
        proofs = further_block (block_lines i p k.1) more.proofs;
        all_closed = more.all_closed;
      }

pub framed : (input rest : List ℕ) → length input < 2 ^ 64 → IsFramed (frame_text input ++ rest) input rest
framed input rest h = record {
  line = codes "% Input " ++ decimal (length input);
  tells = whole_decimal (length input) h;
  split = by (decimal (length input)) input rest;
}
  where
    by : (d a r : List ℕ) → (codes "% Input " ++ (d ++ (codes "\n" ++ (a ++ codes "\n")))) ++ r ≡ (codes "% Input " ++ d) ++ (10 ∷ (a ++ (10 ∷ r)))
    by d a r = simp append_assoc

pub proofs_read : (formulas clauses : List OperatorRow) (prolog : Bool) (problem T : List Symbol) (ps : List PrintedProof) (tail : List ℕ) (i : ℕ) → are_lawful formulas ≡ true → CanPrint clauses prolog T →
    ArePrintableProofs (row_tables formulas clauses) prolog problem T ps → HoldsNoProof tail → ReadsProofs (row_tables formulas clauses) prolog problem T i ps tail
proofs_read formulas clauses prolog problem T ps tail i lawful can k none = are_blocks formulas clauses prolog problem T lawful can ps k tail none i
