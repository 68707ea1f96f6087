-- A text has one reading: its blocks, and the lines of each.
use Rattle.std.proofs.Common.{◌≡◌, ℕ, suc, ◌+◌, ◌<◌, Bool, true, false, List, [], ◌∷◌, ◌++◌, length, map, take, drop, Some, refl, sym, ap, ap₂, ◌∙◌, subst, arith}
use Rattle.std.specs.List.{list_any, concat}
use Rattle.std.proofs.lemmas.Bool.{true≢false, or_parts}
use Rattle.std.proofs.lemmas.List.{length-take-le}
use Rattle.answered_lines.specs.Lines.{AnsweredLine}
use Rattle.answered_lines.specs.View.{answered_line, answered_lines_of}
use Rattle.answers.specs.AnswerView.{answers_of}
use Rattle.derivation.specs.Lines.{LineTree, formula, clause}
use Rattle.derivation.specs.View.{first_word_of, content_of, line_tree, lines_of}
use Rattle.derivation.specs.declared.line.Content.{Content}
use Rattle.derivation.specs.declared.line.Content.TheVariants.{Formula, Clause}
use Rattle.derivation.specs.declared.line.Line.{Line}
use Rattle.derivation.specs.declared.words.First.{First}
use Rattle.derivation.specs.declared.words.First.TheVariants as first
use Rattle.fol_core.specs.Fol.{Fol}
use Rattle.fol_core.specs.RawTree.{RawTree}
use Rattle.fol_core.specs.SymbolTable.{Symbol}
use Rattle.ladr_formulas.specs.Formulas.{Made}
use Rattle.ladr_formulas.specs.declared.styles.Style.{Style}
use Rattle.ladr_lex.proofs.Unique.{cut_once}
use Rattle.ladr_lex.specs.Cuts.{Piece, Cuts}
use Rattle.ladr_lex.specs.Lexeme.{Lexeme}
use Rattle.ladr_problem.specs.Items.{lexemes}
use Rattle.proof_lines.specs.ContentTokens.{LineTables}
use Rattle.proof_lines.specs.Faults.{IsLineRead}
use Rattle.proof_lines.specs.Lines.{LineParts, IsFirstLine}
use Rattle.proof_lines.specs.Noted.{asks_in, IsLineOf}
use Rattle.proof_lines.specs.Stated.{IsContentOf, line_made, symbols_behind}
use Rattle.proof_lines.specs.declared.line.LineRead.{LineRead}
use Rattle.proof_text.specs.Blocks.{TextBlock, block, HasBlocks, nothing, outside, closed, still_open, is_proof_banner, is_end_banner, bare}
use Rattle.proof_text.specs.Proofs.{Reader, HasLines, no_line, further_line, HasProofs, no_block, further_block}
use Rattle.proof_words.specs.Written.{Written, written_first, written_of, states_formula, meant}

abbrev Lines : Type 0
Lines = List (List ℕ)

pub heads : {A : Type 0} (x y : A) (xs ys : List A) → x ∷ xs ≡ y ∷ ys → (x ≡ y) × (xs ≡ ys)
heads x y xs ys e = (cc, cc)

pub no_line_there : {A : Type 0} (x : A) (xs : List A) → [] ≡ x ∷ xs → ⊥
no_line_there x xs e = (let l : 0 ≡ length (x ∷ xs) = ap length e in omega (arith, l))

-- the first line that is the banner of an end
ends_once : (a b : Lines) (x y : List ℕ) (r s : Lines) → list_any is_end_banner a ≡ false → list_any is_end_banner b ≡ false → is_end_banner x ≡ true → is_end_banner y ≡ true
    → a ++ (x ∷ r) ≡ b ++ (y ∷ s) → (a ≡ b) × (x ≡ y) × (r ≡ s)
ends_once [] [] x y r s h k u v e = (refl, (heads x y r s e).0, (heads x y r s e).1)
ends_once [] (q ∷ b) x y r s h k u v e =
    let same = (heads x q r (b ++ (y ∷ s)) e).0 in
    absurd (true≢false (sym u ∙ ap is_end_banner same ∙ (or_parts (is_end_banner q) (list_any is_end_banner b) k).0))
ends_once (p ∷ a) [] x y r s h k u v e =
    let same = (heads p y (a ++ (x ∷ r)) s e).0 in
    absurd (true≢false (sym v ∙ ap is_end_banner (sym same) ∙ (or_parts (is_end_banner p) (list_any is_end_banner a) h).0))
ends_once (p ∷ a) (q ∷ b) x y r s h k u v e =
    let parts = heads p q (a ++ (x ∷ r)) (b ++ (y ∷ s)) e in
    let rest = ends_once a b x y r s (or_parts (is_end_banner p) (list_any is_end_banner a) h).1 (or_parts (is_end_banner q) (list_any is_end_banner b) k).1 u v parts.1 in
    (ap₂ (λ (l : List ℕ) (ls : Lines). l ∷ ls) parts.0 rest.0, rest.1, rest.2)

no_end_in : (a : Lines) (x : List ℕ) (r : Lines) → is_end_banner x ≡ true → list_any is_end_banner (a ++ (x ∷ r)) ≡ false → ⊥
no_end_in [] x r u h = true≢false (sym u ∙ (or_parts (is_end_banner x) (list_any is_end_banner r) h).0)
no_end_in (p ∷ a) x r u h = no_end_in a x r u (or_parts (is_end_banner p) (list_any is_end_banner (a ++ (x ∷ r))) h).1

abbrev block_at : ℕ → List ℕ → Lines → Bool → TextBlock
block_at i line inner shut = block (i + length line) inner shut

same_start : (i j : ℕ) (line other : List ℕ) (inner others : Lines) (shut : Bool) → i ≡ j → line ≡ other → inner ≡ others → block_at i line inner shut ≡ block_at j other others shut
same_start i j line other inner others shut at e f = λ k. block_at (at k) (e k) (f k) shut

not_plain : (line other : List ℕ) → is_proof_banner line ≡ false → is_proof_banner other ≡ true → line ≡ other → ⊥
not_plain line other n y e = true≢false (sym y ∙ ap is_proof_banner (sym e) ∙ n)

pub blocks_once : {i j : ℕ} {ls ms : Lines} {bs cs : List TextBlock} → HasBlocks i ls bs → HasBlocks j ms cs → i ≡ j → ls ≡ ms → bs ≡ cs
blocks_once nothing nothing at e = refl
blocks_once nothing (outside n k) at e = absurd (no_line_there _ _ e)
blocks_once nothing (closed end y n ends k) at e = absurd (no_line_there _ _ e)
blocks_once nothing (still_open y n) at e = absurd (no_line_there _ _ e)
blocks_once (outside n h) nothing at e = absurd (no_line_there _ _ (sym e))
blocks_once (outside {i} {line} n h) (outside {i = j} {line = other} m k) at e =
    let parts = heads _ _ _ _ e in
    blocks_once h k (ap₂ (λ (a : ℕ) (l : List ℕ). a + length l) at parts.0) parts.1
blocks_once (outside n h) (closed end y m ends k) at e = absurd (not_plain _ _ n y (heads _ _ _ _ e).0)
blocks_once (outside n h) (still_open y m) at e = absurd (not_plain _ _ n y (heads _ _ _ _ e).0)
blocks_once (closed end y n ends h) nothing at e = absurd (no_line_there _ _ (sym e))
blocks_once (closed end y n ends h) (outside m k) at e = absurd (not_plain _ _ m y (sym (heads _ _ _ _ e).0))
blocks_once (closed {i} {line} {inner} {lines} end y n ends h) (closed {i = j} {line = other} {inner = others} {lines = more} last z m lasts k) at e =
    let parts = heads line other (inner ++ (end ∷ lines)) (others ++ (last ∷ more)) e in
    let same = ends_once inner others end last lines more n m ends lasts parts.1 in
    let place : i + length line + length (concat inner) + length end ≡ j + length other + length (concat others) + length last =
    omega (arith, at, ap length parts.0, ap (λ (ls : Lines). length (concat ls)) same.0, ap length same.1) in
    ap₂ (λ (b : TextBlock) (bs : List TextBlock). b ∷ bs) (same_start i j line other inner others true at parts.0 same.0) (blocks_once h k place same.2)
blocks_once (closed {i} {line} {inner} {lines} end y n ends h) (still_open {i = j} {line = other} {inner = others} z m) at e =
    let parts = heads line other (inner ++ (end ∷ lines)) others e in
    absurd (no_end_in inner end lines ends (ap (list_any is_end_banner) parts.1 ∙ m))
blocks_once (still_open y n) nothing at e = absurd (no_line_there _ _ (sym e))
blocks_once (still_open y n) (outside m k) at e = absurd (not_plain _ _ m y (sym (heads _ _ _ _ e).0))
blocks_once (still_open {i} {line} {inner} y n) (closed {i = j} {line = other} {inner = others} {lines = more} last z m lasts k) at e =
    let parts = heads line other inner (others ++ (last ∷ more)) e in
    absurd (no_end_in others last more lasts (ap (list_any is_end_banner) (sym parts.1) ∙ n))
blocks_once (still_open {i} {line} {inner} y n) (still_open {i = j} {line = other} {inner = others} z m) at e =
    let parts = heads line other inner others e in
    ap (λ (b : TextBlock). b ∷ []) (same_start i j line other inner others false at parts.0 parts.1)

-- words mean what they are written for
means : (w : First) → meant (written_first w) ≡ first_word_of w
means first.Assumption = refl
means first.Goal = refl
means (first.Clausify n) = refl
means (first.Deny n) = refl
means (first.Copy n) = refl
means (first.BackRewrite n) = refl
means (first.BackUnitDel n) = refl
means (first.Resolve n s) = refl
means (first.Hyper n ss) = refl
means (first.Ur n ss) = refl
means (first.Factor n a b) = refl
means (first.Para p) = refl
means (first.XxRes n a) = refl
means (first.Instantiate n s) = refl

contents_once : (by_formula : Bool) (t : RawTree) (m : Made Fol) (a b : Content) → IsContentOf by_formula t m a → IsContentOf by_formula t m b → content_of a ≡ content_of b
contents_once true t m (Formula f label) (Formula g other) h k = ap formula (h.0 ∙ sym k.0)
contents_once true t m (Clause c) b h k = absurd h
contents_once true t m a (Clause d) h k = absurd k
contents_once false t m (Clause c) (Clause d) h k = ap clause (let e : Some c ≡ Some d = sym h ∙ k in cc)
contents_once false t m (Formula f label) b h k = absurd h
contents_once false t m a (Formula g other) h k = absurd k

line_once : (st : Style) (table : List Symbol) (l : LineParts) (a b : Line) → IsLineOf st table l a → IsLineOf st table l b → answered_line a ≡ answered_line b
line_once st table l a b h k =
    let words : written_of a.just ≡ written_of b.just = h.words ∙ sym k.words in
    let number : a.number ≡ b.number = h.number ∙ sym k.number in
    let content : content_of a.content ≡ content_of b.content =
    contents_once (states_formula l.words.first) l.content (line_made st table (states_formula l.words.first) l.content) a.content b.content h.content k.content in
    let first : first_word_of a.just.first ≡ first_word_of b.just.first = sym (means a.just.first) ∙ ap (λ (w : Written). meant w.first) words ∙ means b.just.first in
    let tree : line_tree a ≡ line_tree b = (λ i. record { number = number i; content = content i; first = first i; later = (words i).later }) in
    let asks : asks_in a.notes ≡ asks_in b.notes = h.asks ∙ sym k.asks in
    let answers : answers_of a.notes.answers.items ≡ answers_of b.notes.answers.items = h.answers ∙ sym k.answers in
    λ i. record { line = tree i; asks = asks i; answers = answers i }

abbrev pub OneLine : Type 0
OneLine = (g : LineTables) (ts : List Lexeme) (l m : LineParts) (i j : ℕ) → IsFirstLine g ts l i → IsFirstLine g ts m j → (l ≡ m) × (i ≡ j)

line_some : (g : LineTables) (ts : List Lexeme) (l : LineParts) (n : ℕ) → IsFirstLine g ts l n → 0 < length ts
line_some g ts l n h =
    let some : length (take n ts) ≡ suc (length (h.1.item ++ h.1.words)) = ap length h.1.split in
    omega (arith, some, length-take-le n ts h.0, h.0)

module _ (one : OneLine) (g : Reader) where
  pub read_once : (table mid other : List Symbol) (ts : List Lexeme) (r q : LineRead) → IsLineRead g.tables g.style g.problem table ts r mid → IsLineRead g.tables g.style g.problem table ts q other
      → (r.len ≡ q.len) × (answered_line r.line ≡ answered_line q.line) × (mid ≡ other)
  read_once table mid other ts r q h k =
      let same = one g.tables ts h.parts k.parts r.len q.len h.first k.first in (
        same.1,
        line_once g.style table k.parts r.line q.line (subst (λ (l : LineParts). IsLineOf g.style table l r.line) same.0 h.line) k.line,
        h.symbols ∙ ap (λ (l : LineParts). symbols_behind g.style table (states_formula l.words.first) l.content l.answers) same.0 ∙ sym k.symbols,
      )

  pub none_read : (ts : List Piece) (table mid : List Symbol) (r : LineRead) → ts ≡ [] → IsLineRead g.tables g.style g.problem table (lexemes ts) r mid → ⊥
  none_read ts table mid r e h =
      let some : 0 < length (lexemes ts) = line_some g.tables (lexemes ts) h.parts r.len h.first in
      let none : length (lexemes ts) ≡ 0 = ap (λ (us : List Piece). length (lexemes us)) e in
      omega (arith, some, none)

  pub lines_once : {table other last end : List Symbol} {ts us vs ws : List Piece} {ls ms : List Line} → HasLines g table ts ls last vs → HasLines g other us ms end ws → table ≡ other → ts ≡ us → vs ≡ [] → ws ≡ []
      → (lines_of ls ≡ lines_of ms) × (last ≡ end) × (answered_lines_of ls ≡ answered_lines_of ms)
  lines_once no_line no_line t e v w = (refl, t, refl)
  lines_once {table} {other} {last} {end} {ts} {us} no_line (further_line r is k) t e v w = absurd (none_read us other _ r (sym e ∙ v) is)
  lines_once {table} {other} {last} {end} {ts} {us} (further_line r is h) no_line t e v w = absurd (none_read ts table _ r (e ∙ w) is)
  lines_once {table} {other} {last} {end} {ts} {us} (further_line {mid = mid} r is h) (further_line {mid = next} q so k) t e v w =
      let moved = subst (λ (x : List Symbol). IsLineRead g.tables g.style g.problem x (lexemes us) r mid) t (subst (λ (x : List Piece). IsLineRead g.tables g.style g.problem table (lexemes x) r mid) e is) in
      let same = read_once other mid next (lexemes us) r q moved so in
      let rest = lines_once h k same.2 (ap₂ (λ (n : ℕ) (x : List Piece). drop n x) same.0 e) v w in
      (ap₂ (λ (l : LineTree) (xs : List LineTree). l ∷ xs) (ap (λ (l : AnsweredLine). l.line) same.1) rest.0, rest.1, ap₂ (λ (l : AnsweredLine) (xs : List AnsweredLine). l ∷ xs) same.1 rest.2)

  pub proofs_once : {table other last end : List Symbol} {bs cs : List TextBlock} {ps qs : List (List Line)} → HasProofs g table bs ps last → HasProofs g other cs qs end → table ≡ other → bs ≡ cs
      → (map lines_of ps ≡ map lines_of qs) × (last ≡ end) × (map answered_lines_of ps ≡ map answered_lines_of qs)
  proofs_once no_block no_block t e = (refl, t, refl)
  proofs_once no_block (further_block h k) t e = absurd (no_line_there _ _ e)
  proofs_once (further_block h k) no_block t e = absurd (no_line_there _ _ (sym e))
  proofs_once {table} {other} (further_block {b = b} here h) (further_block {b = c} there k) t e =
      let parts = heads b c _ _ e in
      let cut = subst (λ (x : TextBlock). Cuts x.start (bare x) here.0) parts.0 here.1 in
      let tokens : here.0 ≡ there.0 = cut_once c.start (bare c) here.0 there.0 cut there.1 in
      let same = lines_once here.2 there.2 t tokens refl refl in
      let rest = proofs_once h k same.1 parts.1 in
      (ap₂ (λ (l : List LineTree) (xs : List (List LineTree)). l ∷ xs) same.0 rest.0, rest.1, ap₂ (λ (l : List AnsweredLine) (xs : List (List AnsweredLine)). l ∷ xs) same.2 rest.2)
