-- Texts with their tokens, put together.
use Rattle.std.proofs.Common.{◌≡◌, ℕ, ◌+◌, true, false, List, [], ◌∷◌, ◌++◌, length, Option, Some, None, inl, inr, refl, sym, ap, ◌∙◌, subst, append_assoc, arith}
use Rattle.std.specs.Prelude.{codes}
use Rattle.std.proofs.lemmas.Bool.{cases_Bool}
use Rattle.std.proofs.lemmas.List.{append-nil}
use Rattle.ladr_lex.specs.Bytes.{is_blank, is_ordinary, is_special}
use Rattle.ladr_lex.specs.Cuts.{Piece, can_be, IsLongest, Cuts, nothing, gap, token}
use Rattle.ladr_lex.specs.Starts.{start_of}
use Rattle.ladr_lex.specs.Lexeme.{Sort, ordinary, quoted, special, Lexeme, lexeme, open_paren, close_paren, comma, full_stop, symbol}
use Rattle.ladr_lex.specs.declared.token.TokenKind.{TokenKind}
use Rattle.ladr_lex.specs.declared.token.TokenKind.TheVariants.{Open, Close, Comma, Stop, Ordinary, Quoted, Special}
use Rattle.ladr_reader.specs.Worked.{lexemes_in}
use Rattle.ladr_print.specs.HasText.{kind_of}
use Rattle.ladr_print.specs.Spacing.{is_wordly, first_byte, last_of, both_join, runs_into, kept_apart}
use Rattle.ladr_print.proofs.Longest.{longest_front, ordinary_longest, quoted_longest, special_longest}

-- from any place on the bytes are cut into these tokens
pub record HasAt (i : ℕ) (bytes : List ℕ) (us : List Lexeme) : Type 0 where
  pub pieces : List Piece
  pub cuts : Cuts i bytes pieces
  pub are : lexemes_in pieces ≡ us

abbrev pub Has : List ℕ → List Lexeme → Type 0
Has bytes us = (i : ℕ) → HasAt i bytes us

pub has_none : Has [] []
has_none i = record { pieces = []; cuts = nothing; are = refl }

has_token : (k : TokenKind) (s r : List ℕ) (us : List Lexeme) → IsLongest (Some k) s r → Has r us → Has (s ++ r) (lexeme k s ∷ us)
has_token k s r us l h i =
    let rest = h (i + length s) in
    record {
      pieces = record { kind = k; text = s; start = i } ∷ rest.pieces;
      cuts = token k l rest.cuts;
      are = ap (λ (ts : List Lexeme). lexeme k s ∷ ts) rest.are;
    }

has_gap : (s r : List ℕ) (us : List Lexeme) → IsLongest None s r → Has r us → Has (s ++ r) us
has_gap s r us l h i =
    let rest = h (i + length s) in
    record { pieces = rest.pieces; cuts = gap l rest.cuts; are = rest.are }

-- the bytes are cut into these tokens, whatever is behind them that they don't run into
pub record Writes (bytes : List ℕ) (us : List Lexeme) : Type 0 where
  pub first : ℕ
  pub others : List ℕ
  pub some : bytes ≡ first ∷ others
  pub has : (r : List ℕ) (vs : List Lexeme) → runs_into bytes r ≡ false → Has r vs → Has (bytes ++ r) (us ++ vs)

-- punctuation and spaces run into nothing
apart_left : (a : Option ℕ) (c : ℕ) → is_special c ≡ false → is_wordly c ≡ false → both_join a (Some c) ≡ false
apart_left None c h k = refl
apart_left (Some a) c h k = grind arith

apart_right : (c : ℕ) (a : Option ℕ) → is_special c ≡ false → is_wordly c ≡ false → both_join (Some c) a ≡ false
apart_right c None h k = refl
apart_right c (Some a) h k = grind arith

-- bytes that join no others
pub record Alone (c : ℕ) : Type 0 where
  pub special : is_special c ≡ false
  pub wordly : is_wordly c ≡ false

pub before_alone : (a : List ℕ) (c : ℕ) (r : List ℕ) → Alone c → runs_into a (c ∷ r) ≡ false
before_alone a c r l = apart_left (last_of a) c l.special l.wordly

pub behind_alone : (c : ℕ) (r : List ℕ) → Alone c → runs_into (c ∷ []) r ≡ false
behind_alone c r l = apart_right c (first_byte r) l.special l.wordly

pub open_alone : Alone 40
unfolding is_special is_ordinary
open_alone = record { special = refl; wordly = refl }

pub close_alone : Alone 41
unfolding is_special is_ordinary
close_alone = record { special = refl; wordly = refl }

pub comma_alone : Alone 44
unfolding is_special is_ordinary
comma_alone = record { special = refl; wordly = refl }

pub stop_alone : Alone 46
unfolding is_special is_ordinary
stop_alone = record { special = refl; wordly = refl }

pub space_alone : Alone 32
unfolding is_special is_ordinary
space_alone = record { special = refl; wordly = refl }

-- what is last and first in two texts
last_behind : (a : List ℕ) (c : ℕ) (cs : List ℕ) → last_of (a ++ c ∷ cs) ≡ last_of (c ∷ cs)
last_behind [] c cs = refl
last_behind (x ∷ []) c cs = refl
last_behind (x ∷ y ∷ ys) c cs = last_behind (y ∷ ys) c cs

pub behind_last : (a : List ℕ) (c : ℕ) (r : List ℕ) → Alone c → runs_into (a ++ c ∷ []) r ≡ false
behind_last a c r l = ap (λ (o : Option ℕ). both_join o (first_byte r)) (last_behind a c []) ∙ behind_alone c r l

-- a text behind another
pub follow : (a b : List ℕ) (us vs : List Lexeme) → Writes a us → Writes b vs → runs_into a b ≡ false → Writes (a ++ b) (us ++ vs)
follow a b us vs v w n =
    record {
      first = v.first;
      others = v.others ++ b;
      some = ap (λ (l : List ℕ). l ++ b) v.some;
      has = λ r ws m h.
          let end : last_of (a ++ b) ≡ last_of b =
          ap (λ (l : List ℕ). last_of (a ++ l)) w.some ∙ last_behind a w.first w.others ∙ sym (ap last_of w.some)
          in
          let front : first_byte (b ++ r) ≡ first_byte b = ap (λ (l : List ℕ). first_byte (l ++ r)) w.some ∙ sym (ap first_byte w.some) in
          let back : runs_into b r ≡ false = sym (ap (λ (o : Option ℕ). both_join o (first_byte r)) end) ∙ m in
          let joint : runs_into a (b ++ r) ≡ false = ap (both_join (last_of a)) front ∙ n in
          let all = v.has (b ++ r) (vs ++ ws) joint (w.has r ws back h) in
          subst (λ (l : List ℕ). Has l ((us ++ vs) ++ ws)) (sym (append_assoc a b r))
          (subst (λ (ts : List Lexeme). Has (a ++ (b ++ r)) ts) (sym (append_assoc us vs ws)) all);
    }

-- one byte that is a token
mark : (k : TokenKind) (c : ℕ) → ((r : List ℕ) → IsLongest (Some k) (c ∷ []) r) → Writes (c ∷ []) (lexeme k (c ∷ []) ∷ [])
mark k c l = record { first = c; others = []; some = refl; has = λ r vs n h. has_token k (c ∷ []) r vs (l r) h }

pub open_written : Writes (codes "(") (open_paren ∷ [])
unfolding start_of is_special is_ordinary is_blank
open_written = mark Open 40 (λ r. longest_front (Some Open) 40 [] r refl refl)

pub close_written : Writes (codes ")") (close_paren ∷ [])
unfolding start_of is_special is_ordinary is_blank
close_written = mark Close 41 (λ r. longest_front (Some Close) 41 [] r refl refl)

pub comma_written : Writes (codes ",") (comma ∷ [])
unfolding start_of is_special is_ordinary is_blank
comma_written = mark Comma 44 (λ r. longest_front (Some Comma) 44 [] r refl refl)

pub stop_written : Writes (codes ".") (full_stop ∷ [])
unfolding start_of is_special is_ordinary is_blank
stop_written = mark Stop 46 (λ r. longest_front (Some Stop) 46 [] r refl refl)

space_longest : (r : List ℕ) → IsLongest None (32 ∷ []) r
unfolding start_of is_blank
space_longest r = longest_front None 32 [] r refl refl

-- a space behind a text
pub spaced : (a : List ℕ) (us : List Lexeme) → Writes a us → Writes (a ++ codes " ") us
spaced a us w =
    record {
      first = w.first;
      others = w.others ++ codes " ";
      some = ap (λ (l : List ℕ). l ++ codes " ") w.some;
      has = λ r vs m h.
          subst (λ (l : List ℕ). Has l (us ++ vs)) (sym (append_assoc a (codes " ") r))
          (w.has (32 ∷ r) vs (before_alone a 32 r space_alone) (has_gap (32 ∷ []) r vs (space_longest r) h));
    }

spaced_apart : (a b : List ℕ) → runs_into (a ++ codes " ") b ≡ false
spaced_apart a b = behind_last a 32 b space_alone

pub spaced_follow : (a b : List ℕ) (us vs : List Lexeme) → Writes a us → Writes b vs → Writes (a ++ codes " " ++ b) (us ++ vs)
spaced_follow a b us vs v w = follow (a ++ codes " ") b us vs (spaced a us v) w (spaced_apart a b)

pub beside_written : (a b : List ℕ) (us vs : List Lexeme) → Writes a us → Writes b vs → Writes (kept_apart a b) (us ++ vs)
beside_written a b us vs v w =
    elim (cases_Bool (runs_into a b)) [
      | inl y ↦ rw y (spaced_follow a b us vs v w)
      | inr n ↦ rw n (subst (λ (l : List ℕ). Writes (l ++ b) (us ++ vs)) (sym (append-nil a)) (follow a b us vs v w n))
    ]

symbol_of : (k : TokenKind) (s : List ℕ) (l : Lexeme) → lexeme k s ≡ l → can_be (Some k) s ≡ true →
    ((r : List ℕ) → runs_into s r ≡ false → IsLongest (Some k) s r) → (b : ℕ) (m : List ℕ) → s ≡ b ∷ m → Writes s (l ∷ [])
symbol_of k s l e c longest b m some =
    record {
      first = b;
      others = m;
      some = some;
      has = λ r vs n h. subst (λ (x : Lexeme). Has (s ++ r) (x ∷ vs)) e (has_token k s r vs (longest r n) h);
    }

pub symbol_written : (k : Sort) (s : List ℕ) → can_be (Some (kind_of k)) s ≡ true → Writes s (symbol k s ∷ [])
symbol_written ordinary [] h = absurd (cc)
symbol_written ordinary (b ∷ m) h = symbol_of Ordinary (b ∷ m) (symbol ordinary (b ∷ m)) refl h (λ r n. ordinary_longest (b ∷ m) r h n) b m refl
symbol_written quoted [] h = absurd (cc)
symbol_written quoted (b ∷ m) h = symbol_of Quoted (b ∷ m) (symbol quoted (b ∷ m)) refl h (λ r n. quoted_longest (b ∷ m) r h) b m refl
symbol_written special [] h = absurd (cc)
symbol_written special (b ∷ m) h = symbol_of Special (b ∷ m) (symbol special (b ∷ m)) refl h (λ r n. special_longest (b ∷ m) r h n) b m refl

-- nothing is behind the last text
ends_alone : (o : Option ℕ) → both_join o None ≡ false
ends_alone None = refl
ends_alone (Some a) = refl

pub whole_has : (bytes : List ℕ) (us : List Lexeme) → Writes bytes us → Has bytes us
whole_has bytes us w =
    subst (λ (l : List ℕ). Has l us) (append-nil bytes)
    (subst (λ (ts : List Lexeme). Has (bytes ++ []) ts) (append-nil us) (w.has [] [] (ends_alone (last_of bytes)) has_none))
