-- Tokens side by side are cut apart again.
use Rattle.std.proofs.Common.{◌≡◌, ℕ, ◌+◌, Bool, true, false, List, [], ◌∷◌, ◌++◌, Some, ◌⊎◌, inl, inr, refl, sym, ap, subst}
use Rattle.std.proofs.lemmas.List.{append-nil}
use Rattle.std.specs.Prelude.{codes}
use Rattle.ladr_lex.specs.Bytes.{is_blank, is_ordinary, is_special}
use Rattle.ladr_lex.specs.Cuts.{IsLongest, is_run, token}
use Rattle.ladr_lex.specs.Starts.{start_of}
use Rattle.ladr_lex.specs.Lexeme.{Lexeme, lexeme, ordinary, open_paren, close_paren, open_square, close_square, comma, full_stop, symbol, unreadable}
use Rattle.ladr_lex.specs.declared.token.TokenKind.{TokenKind}
use Rattle.ladr_lex.specs.declared.token.TokenKind.TheVariants.{LeftSquare, RightSquare}
use Rattle.ladr_print.specs.Spacing.{runs_into}
use Rattle.ladr_print.proofs.Longest.{longest_front}
use Rattle.ladr_print.proofs.Writes.{Writes, Alone, before_alone, behind_alone, open_alone, close_alone, comma_alone, stop_alone, follow, open_written, close_written, comma_written, stop_written, symbol_written}
use Rattle.words_print.specs.WordTokens.{token_text, joint_text}

square_alone : Alone 91
unfolding is_special is_ordinary
square_alone = record { special = refl; wordly = refl }

end_square_alone : Alone 93
unfolding is_special is_ordinary
end_square_alone = record { special = refl; wordly = refl }

single : (k : TokenKind) (c : ℕ) → ((r : List ℕ) → IsLongest (Some k) (c ∷ []) r) → Writes (c ∷ []) (lexeme k (c ∷ []) ∷ [])
single k c l =
    record {
      first = c;
      others = [];
      some = refl;
      has = λ r vs n h i.
          let rest = h (i + 1) in
          record {
            pieces = record { kind = k; text = c ∷ []; start = i } ∷ rest.pieces;
            cuts = token k (l r) rest.cuts;
            are = ap (λ (ts : List Lexeme). lexeme k (c ∷ []) ∷ ts) rest.are;
          };
    }

square_written : Writes (codes "[") (open_square ∷ [])
unfolding start_of is_special is_ordinary is_blank
square_written = single LeftSquare 91 (λ r. longest_front (Some LeftSquare) 91 [] r refl refl)

end_square_written : Writes (codes "]") (close_square ∷ [])
unfolding start_of is_special is_ordinary is_blank
end_square_written = single RightSquare 93 (λ r. longest_front (Some RightSquare) 93 [] r refl refl)

-- a token that runs into nothing
abbrev pub is_mark : Lexeme → Bool
is_mark (symbol s text) = false
is_mark unreadable = false
is_mark t = true

abbrev pub marked : List Lexeme → Bool
marked [] = true
marked (t ∷ ts) = is_mark t

-- a token may stand in front of others: it is such a one, or an ordinary symbol with such a one behind it
abbrev pub Stands : Lexeme → List Lexeme → Type 0
Stands t ts = (is_mark t ≡ true) ⊎ ((s : List ℕ) × (t ≡ symbol ordinary s) × (is_run is_ordinary s ≡ true) × (marked ts ≡ true))

abbrev pub Tidy : List Lexeme → Type 0
Tidy [] = Unit {0}
Tidy (t ∷ ts) = Stands t ts × Tidy ts

mark_written : (t : Lexeme) → is_mark t ≡ true → Writes (token_text t) (t ∷ [])
mark_written open_paren h = open_written
mark_written close_paren h = close_written
mark_written open_square h = square_written
mark_written close_square h = end_square_written
mark_written comma h = comma_written
mark_written full_stop h = stop_written
mark_written (symbol s text) h = absurd (cc)
mark_written unreadable h = absurd (cc)

behind_mark : (t : Lexeme) (r : List ℕ) → is_mark t ≡ true → runs_into (token_text t) r ≡ false
behind_mark open_paren r h = behind_alone 40 r open_alone
behind_mark close_paren r h = behind_alone 41 r close_alone
behind_mark open_square r h = behind_alone 91 r square_alone
behind_mark close_square r h = behind_alone 93 r end_square_alone
behind_mark comma r h = behind_alone 44 r comma_alone
behind_mark full_stop r h = behind_alone 46 r stop_alone
behind_mark (symbol s text) r h = absurd (cc)
behind_mark unreadable r h = absurd (cc)

before_mark : (a : List ℕ) (t : Lexeme) (r : List ℕ) → is_mark t ≡ true → runs_into a (token_text t ++ r) ≡ false
before_mark a open_paren r h = before_alone a 40 r open_alone
before_mark a close_paren r h = before_alone a 41 r close_alone
before_mark a open_square r h = before_alone a 91 r square_alone
before_mark a close_square r h = before_alone a 93 r end_square_alone
before_mark a comma r h = before_alone a 44 r comma_alone
before_mark a full_stop r h = before_alone a 46 r stop_alone
before_mark a (symbol s text) r h = absurd (cc)
before_mark a unreadable r h = absurd (cc)

token_written : (t : Lexeme) (ts : List Lexeme) → Stands t ts → Writes (token_text t) (t ∷ [])
token_written t ts (inl m) = mark_written t m
token_written t ts (inr w) = subst (λ (u : Lexeme). Writes (token_text u) (u ∷ [])) (sym w.1) (symbol_written ordinary w.0 w.2)

apart : (t u : Lexeme) (us : List Lexeme) → Stands t (u ∷ us) → runs_into (token_text t) (joint_text (u ∷ us)) ≡ false
apart t u us (inl m) = behind_mark t (joint_text (u ∷ us)) m
apart t u us (inr w) = before_mark (token_text t) u (joint_text us) w.3

pub tidy_written : (t : Lexeme) (ts : List Lexeme) → Tidy (t ∷ ts) → Writes (joint_text (t ∷ ts)) (t ∷ ts)
tidy_written t [] h = subst (λ (b : List ℕ). Writes b (t ∷ [])) (sym (append-nil (token_text t))) (token_written t [] h.0)
tidy_written t (u ∷ us) h = follow (token_text t) (joint_text (u ∷ us)) (t ∷ []) (u ∷ us) (token_written t (u ∷ us) h.0) (tidy_written u us h.1) (apart t u us h.0)

marked_append : (xs ys : List Lexeme) → marked xs ≡ true → marked ys ≡ true → marked (xs ++ ys) ≡ true
marked_append [] ys h m = m
marked_append (x ∷ xs) ys h m = h

stands_append : (x : Lexeme) (xs ys : List Lexeme) → Stands x xs → marked ys ≡ true → Stands x (xs ++ ys)
stands_append x xs ys (inl h) m = inl h
stands_append x xs ys (inr w) m = inr (w.0, w.1, w.2, marked_append xs ys w.3 m)

pub tidy_append : (xs ys : List Lexeme) → Tidy xs → Tidy ys → marked ys ≡ true → Tidy (xs ++ ys)
tidy_append [] ys a b m = b
tidy_append (x ∷ xs) ys a b m = (stands_append x xs ys a.0 m, tidy_append xs ys a.1 b m)

-- an ordinary symbol in front of tokens
pub word_tidy : (s : List ℕ) (ts : List Lexeme) → is_run is_ordinary s ≡ true → marked ts ≡ true → Tidy ts → Tidy (symbol ordinary s ∷ ts)
word_tidy s ts r m d = (inr (s, refl, r, m), d)
