-- A term that is read has no more names than its tokens, which are no more than the bytes of their text.
use Rattle.std.proofs.Common.{◌≡◌, ℕ, ◌+◌, ◌≤◌, true, false, List, [], ◌∷◌, ◌++◌, length, Some, refl, sym, ◌∙◌, arith}
use Rattle.std.proofs.lemmas.Bool.{false≢true}
use Rattle.std.proofs.lemmas.List.{length-append}
use Rattle.fol_core.specs.RawTree.{RawTree, raws_of}
use Rattle.ladr_lex.specs.Cuts.{Piece, Cuts, nothing, gap, token, can_be}
use Rattle.ladr_lex.specs.Lexeme.{Lexeme, close_paren, comma, symbol as lexeme_symbol}
use Rattle.ladr_lex.specs.declared.token.TokenKind.{TokenKind}
use Rattle.ladr_lex.specs.declared.token.TokenKind.TheVariants.{Open, Close, LeftSquare, RightSquare, Comma, Stop, Ordinary, Quoted, Special, Unreadable}
use Rattle.ladr_reader.specs.Counts.{names_count, names_count_of}
use Rattle.ladr_reader.specs.Reads.{Reads, atom, applied, group, bound, prefixed, postfixed, infixed, ReadsAll, single, further}
use Rattle.ladr_reader.specs.Table.{OperatorTable}

count_more : (us : List RawTree) (t : RawTree) → names_count_of (raws_of (us ++ t ∷ [])) ≡ names_count_of (raws_of us) + names_count t
count_more [] t = omega arith
count_more (u ∷ us) t = omega (arith, count_more us t)

mutual
  pub reads_count : (g : OperatorTable) (ts : List Lexeme) (t : RawTree) (p : ℕ) → Reads g ts t p → names_count t ≤ length ts
  reads_count g _ _ _ (atom k s w o) = omega arith
  reads_count g _ _ _ (applied {ts} {us} k s w o all) = omega (arith, reads_all_count g ts us all, length-append ts (close_paren ∷ []))
  reads_count g _ t _ (group {ts} {p} r) = omega (arith, reads_count g ts t p r, length-append ts (close_paren ∷ []))
  reads_count g _ _ _ (bound {ts} {t} {p} k j w s x word variable r e) = omega (arith, reads_count g ts t p r)
  reads_count g _ _ _ (prefixed {ts} {t} {p} k s o w op r e) = omega (arith, reads_count g ts t p r)
  reads_count g _ _ _ (postfixed {ts} {t} {p} k s o op none r e) = omega (arith, reads_count g ts t p r, length-append ts (lexeme_symbol k s ∷ []))
  reads_count g _ _ _ (infixed {ts} {us} {t} {u} {p} {q} k s o op r e r' e') =
      omega (arith, reads_count g ts t p r, reads_count g us u q r', length-append ts (lexeme_symbol k s ∷ us))

  reads_all_count : (g : OperatorTable) (ts : List Lexeme) (us : List RawTree) → ReadsAll g ts us → names_count_of (raws_of us) ≤ length ts
  reads_all_count g ts _ (single {t} {p} r e) = omega (arith, reads_count g ts t p r)
  reads_all_count g _ _ (further {ts} {us} {ks} {t} {p} all r e) = omega (arith, reads_all_count g ts ks all, reads_count g us t p r, count_more ks t, length-append ts (comma ∷ us))

-- no token is empty
not_empty : (kind : TokenKind) → can_be (Some kind) [] ≡ false
not_empty Open = refl
not_empty Close = refl
not_empty LeftSquare = refl
not_empty RightSquare = refl
not_empty Comma = refl
not_empty Stop = refl
not_empty Ordinary = refl
not_empty Quoted = refl
not_empty Special = refl
not_empty Unreadable = refl

has_bytes : (kind : TokenKind) (text : List ℕ) → can_be (Some kind) text ≡ true → 1 ≤ length text
has_bytes kind [] h = absurd (false≢true (sym (not_empty kind) ∙ h))
has_bytes kind (b ∷ bs) h = omega arith

pub cuts_count : (i : ℕ) (bytes : List ℕ) (ts : List Piece) → Cuts i bytes ts → length ts ≤ length bytes
cuts_count i _ [] nothing = omega arith
cuts_count i _ ts (gap {text} {rest} longest more) = omega (arith, cuts_count _ rest ts more, length-append text rest)
cuts_count i _ (t ∷ ts) (token {text} {rest} kind longest more) = omega (arith, has_bytes kind text longest.fits, cuts_count _ rest ts more, length-append text rest)
