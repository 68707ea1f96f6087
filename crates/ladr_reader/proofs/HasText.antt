-- A term that written tokens read as has a text, and so are the tokens of a text.
use Rattle.std.proofs.Common.{◌≡◌, ℕ, Bool, true, false, List, [], ◌∷◌, ◌++◌, Option, Some, None, refl, sym, ap, ◌∙◌, subst, rules}
use Rattle.std.specs.List.{list_all}
use Rattle.std.proofs.lemmas.Bool.{and_parts, and_from}
use Rattle.std.proofs.lemmas.List.Folds.{list_all-append}
use Rattle.fol_core.specs.RawTree.{RawTree, RawTrees, no_raws, more_raws, raws_of}
use Rattle.ladr_lex.specs.Cuts.{Piece, can_be, Cuts, nothing, gap, token}
use Rattle.ladr_lex.specs.Lexeme.{Lexeme, open_paren, close_paren, open_square, close_square, comma, full_stop, symbol, unreadable, lexeme}
use Rattle.ladr_lex.specs.Operators.{is_prefix, if_prefix, if_after}
use Rattle.ladr_lex.specs.declared.operators.Operator.{Operator}
use Rattle.ladr_lex.specs.declared.operators.OperatorKind.{OperatorKind}
use Rattle.ladr_lex.specs.declared.operators.OperatorKind.TheVariants.{Infix, InfixLeft, InfixRight, Prefix, PrefixParen, Postfix, PostfixParen}
use Rattle.ladr_lex.specs.declared.token.TokenKind.{TokenKind}
use Rattle.ladr_lex.specs.declared.token.TokenKind.TheVariants.{Open, Close, LeftSquare, RightSquare, Comma, Stop, Ordinary, Quoted, Special, Unreadable}
use Rattle.ladr_reader.specs.HasText.{is_infix, kind_of, plain, before, behind, between, HasText, HaveTexts}
use Rattle.ladr_reader.specs.Reads.{Reads, atom, applied, group, bound, prefixed, postfixed, infixed, ReadsAll, single, further}
use Rattle.ladr_reader.specs.Table.{OperatorTable, right, ends, tree_grows}
use Rattle.ladr_reader.specs.Worked.{lexemes_in}
use Rattle.ladr_reader.proofs.Lawful.{prefix_is, after_is}

-- between two, as it has one on the right and stands behind the other
pub infix_two : (k : OperatorKind) (p q : ℕ) (b : Bool) → is_prefix k ≡ false → ends (right k) p q b ≡ true → is_infix k ≡ true
infix_two Infix p q b h e = refl
infix_two InfixLeft p q b h e = refl
infix_two InfixRight p q b h e = refl
infix_two Prefix p q b h e = cc
infix_two PrefixParen p q b h e = cc
infix_two Postfix p q b h e = cc
infix_two PostfixParen p q b h e = cc

-- what stands behind or between is no prefix operator
pub after_kind : (o : Option Operator) (p : Operator) → if_after o ≡ Some p → is_prefix p.kind ≡ false
after_kind None p h = cc
after_kind (Some o) p h = by (is_prefix o.kind) refl h
  where
    by : (b : Bool) → is_prefix o.kind ≡ b → if_after (Some o) ≡ Some p → is_prefix p.kind ≡ false
    by true e h = absurd (let f : None ≡ Some p = rw e at h in cc)
    by false e h = let f : Some o ≡ Some p = rw e at h in let same : o ≡ p = cc in rw (sym same) e

pub prefix_kind : (o : Option Operator) (p : Operator) → if_prefix o ≡ Some p → is_prefix p.kind ≡ true
prefix_kind None p h = cc
prefix_kind (Some o) p h = search rules

-- a symbol's token has a text of its sort
abbrev pub is_written : Lexeme → Bool
is_written open_paren = true
is_written close_paren = true
is_written open_square = true
is_written close_square = true
is_written comma = true
is_written full_stop = true
is_written (symbol k s) = can_be (Some (kind_of k)) s
is_written unreadable = true

pub written_parts : (ts us : List Lexeme) → list_all is_written (ts ++ us) ≡ true → (list_all is_written ts ≡ true) × (list_all is_written us ≡ true)
written_parts ts us h = and_parts _ _ (sym (list_all-append is_written ts us) ∙ h)

have_texts_last : (g : OperatorTable) (ks : List RawTree) (t : RawTree) → HaveTexts g (raws_of ks) → HasText g t → HaveTexts g (raws_of (ks ++ t ∷ []))
have_texts_last g [] t a x = (x, tt)
have_texts_last g (k ∷ ks) t a x = (a.0, have_texts_last g ks t a.1 x)

-- what tokens are is
mutual
  pub has_text : (g : OperatorTable) {ts : List Lexeme} {t : RawTree} {p : ℕ} → Reads g ts t p → list_all is_written ts ≡ true → HasText g t
  has_text g (atom k s none pre) w = (record { sort = k; written = (and_parts _ _ w).0; allowed = plain none pre }, tt)
  has_text g (applied {ts} {us} k s none pre rs) w =
      let parts = and_parts (can_be (Some (kind_of k)) s) (list_all is_written (open_paren ∷ (ts ++ close_paren ∷ []))) w in
      (record { sort = k; written = parts.0; allowed = plain none pre }, have_texts g rs (written_parts ts (close_paren ∷ []) parts.1).0)
  has_text g (group {ts} r) w = has_text g r (written_parts ts (close_paren ∷ []) w).0
  has_text g (bound {ts} {t} k j q s x e v r fits) w =
      let outer = and_parts (can_be (Some (kind_of k)) s) (list_all is_written (symbol j x ∷ ts)) w in
      let parts = and_parts (can_be (Some (kind_of j)) x) (list_all is_written ts) outer.1 in
      (record { sort = j; written = parts.0; allowed = v }, has_text g r parts.1)
  has_text g (prefixed {ts} {t} k s o none e r fits) w =
      let parts = and_parts (can_be (Some (kind_of k)) s) (list_all is_written ts) w in
      (record { sort = k; written = parts.0; allowed = before o none (prefix_is (g.op s) o e) (prefix_kind (g.op s) o e) refl }, (has_text g r parts.1, tt))
  has_text g (postfixed {ts} {t} k s o e n r takes_it) w =
      let parts = written_parts ts (symbol k s ∷ []) w in
      (record { sort = k; written = (and_parts _ _ parts.1).0; allowed = behind o (after_is (g.op s) o e) (after_kind (g.op s) o e) n refl }, (has_text g r parts.0, tt))
  has_text g (infixed {ts} {us} {t} {u} {p} {q} k s o e r takes_it r' fits) w =
      let parts = written_parts ts (symbol k s ∷ us) w in
      let inner = and_parts (can_be (Some (kind_of k)) s) (list_all is_written us) parts.1 in (
        record { sort = k; written = inner.0; allowed = between o (after_is (g.op s) o e) (infix_two o.kind o.precedence q (tree_grows g u) (after_kind (g.op s) o e) fits) refl },
        (has_text g r parts.0, (has_text g r' inner.1, tt)),
      )

  pub have_texts : (g : OperatorTable) {ts : List Lexeme} {us : List RawTree} → ReadsAll g ts us → list_all is_written ts ≡ true → HaveTexts g (raws_of us)
  have_texts g (single r m) w = (has_text g r w, tt)
  have_texts g (further {ts} {us} {ks} {t} rs r m) w =
      let parts = written_parts ts (comma ∷ us) w in
      have_texts_last g ks t (have_texts g rs parts.0) (has_text g r parts.1)

-- the tokens of a text are written so
piece_written : (k : TokenKind) (s : List ℕ) → can_be (Some k) s ≡ true → is_written (lexeme k s) ≡ true
piece_written Open s h = refl
piece_written Close s h = refl
piece_written LeftSquare s h = refl
piece_written RightSquare s h = refl
piece_written Comma s h = refl
piece_written Stop s h = refl
piece_written Ordinary s h = h
piece_written Quoted s h = h
piece_written Special s h = h
piece_written Unreadable s h = refl

pub cuts_written : {i : ℕ} {bytes : List ℕ} {ps : List Piece} → Cuts i bytes ps → list_all is_written (lexemes_in ps) ≡ true
cuts_written nothing = refl
cuts_written (gap l c) = cuts_written c
cuts_written (token {i} {text} {rest} k l c) = and_from _ _ (piece_written k text l.fits) (cuts_written c)
