-- What a form goes through is what spells its command: the tokens of each class.
use Rattle.std.proofs.Common.{◌≡◌, ℕ, ◌≤◌, Bool, true, false, IsTrue, if◌then◌else◌, List, [], ◌∷◌, ◌++◌, length, Option, Some, None, is_some, refl, sym, ap, subst, ◌∙◌, append_assoc, codes}
use Rattle.std.proofs.lemmas.Bool.{false≢true}
use Rattle.ladr_lex.specs.Lexeme.{Sort, Lexeme, ordinary, open_paren, close_paren, open_square, close_square, comma, full_stop, symbol}
use Rattle.ladr_lex.specs.Numeral.{is_numeral}
use Rattle.ladr_commands.specs.Commands.{behind_first_token, behind_word, commands, tester_commands, interpretation}
use Rattle.ladr_commands.specs.Form.{Form, ends, token, reads, stops, closed, stopped, SaysCommand}
use Rattle.ladr_commands.specs.Wanted.{fits, is_open, is_close, is_open_square, is_comma, is_stop, is_symbol, is_number, is_interpretation, word_of}
use Rattle.ladr_commands.specs.declared.command.Command.{Command}
use Rattle.ladr_commands.specs.declared.wanted.Wanted.{Wanted}
use Rattle.ladr_commands.specs.declared.wanted.Wanted.TheVariants.{Open, Close, OpenSquare, Comma, Stop, Symbol, Numeral, CommandWord, TesterWord, CommaOrCloseSquare, CommaOrClose, CommaOrOpen}
use Rattle.ladr_commands.specs.declared.word.Word.{Word}
use Rattle.ladr_commands.proofs.Forms.{no_stop, read_of}
use Rattle.ladr_commands.proofs.Words.{text_of, text_of-word, behind_first, word_is}

-- whatever a form reads is so
abbrev pub Gives : Form → (List Lexeme → Command → Type 0) → Type 0
Gives f G = (ts : List Lexeme) (c : Command) → SaysCommand f ts c → G ts c

-- so behind these tokens
abbrev pub behind : List Lexeme → (List Lexeme → Command → Type 0) → List Lexeme → Command → Type 0
behind us G ts c = G (us ++ ts) c

-- so if there are so many tokens at most
abbrev pub within : ℕ → (List Lexeme → Command → Type 0) → List Lexeme → Command → Type 0
within n G ts c = length ts ≤ n → G ts c

pub none_read : (us : List Lexeme) (c : Command) → stops us ≡ reads c → ⊥
none_read us c e = no_stop c us (sym e)

-- tokens behind tokens
pub joined : (xs ys : List Lexeme) (G : List Lexeme → Command → Type 0) (f : Form) → Gives f (behind (xs ++ ys) G) → Gives f (behind ys (behind xs G))
joined xs ys G f h ts c e = subst (λ us. G us c) (append_assoc xs ys ts) (h ts c e)

pub parts_of : (xs ys zs rest : List Lexeme) → ((xs ++ ys) ++ zs) ++ rest ≡ xs ++ (ys ++ (zs ++ rest))
parts_of xs ys zs rest = append_assoc (xs ++ ys) zs rest ∙ append_assoc xs ys (zs ++ rest)

pub three_joined : (xs ys zs : List Lexeme) (G : List Lexeme → Command → Type 0) (f : Form) → Gives f (behind ((xs ++ ys) ++ zs) G) → Gives f (λ ts c. G (xs ++ (ys ++ (zs ++ ts))) c)
three_joined xs ys zs G f h ts c e = subst (λ us. G us c) (parts_of xs ys zs ts) (h ts c e)

-- a token of a class
pub on_token : (w : Wanted) (onward : Lexeme → Form) (G : List Lexeme → Command → Type 0) → ((t : Lexeme) → fits w t ≡ true → Gives (onward t) (behind (t ∷ []) G)) → Gives (token w onward) G
on_token w onward G h [] c e = absurd (none_read [] c e)
on_token w onward G h (t ∷ ts) c e = by (fits w t) refl
  where
    by : (b : Bool) → fits w t ≡ b → G (t ∷ ts) c
    by true i = h t i ts c (rw i at e)
    by false i = absurd (none_read (t ∷ ts) c (rw i at e))

open_is : (t : Lexeme) → is_open t ≡ true → open_paren ≡ t
open_is open_paren i = refl
open_is t i = absurd (false≢true i)

close_is : (t : Lexeme) → is_close t ≡ true → close_paren ≡ t
close_is close_paren i = refl
close_is t i = absurd (false≢true i)

open_square_is : (t : Lexeme) → is_open_square t ≡ true → open_square ≡ t
open_square_is open_square i = refl
open_square_is t i = absurd (false≢true i)

comma_is : (t : Lexeme) → is_comma t ≡ true → comma ≡ t
comma_is comma i = refl
comma_is t i = absurd (false≢true i)

stop_is : (t : Lexeme) → is_stop t ≡ true → full_stop ≡ t
stop_is full_stop i = refl
stop_is t i = absurd (false≢true i)

-- the token is just this one
pub on_this : (w : Wanted) (this : Lexeme) (f : Form) (G : List Lexeme → Command → Type 0) → ((t : Lexeme) → fits w t ≡ true → this ≡ t) → Gives f (behind (this ∷ []) G) → Gives (token w (λ _. f)) G
on_this w this f G is h = on_token w (λ _. f) G (λ t i. subst (λ u. Gives f (behind (u ∷ []) G)) (is t i) h)

pub on_open : (f : Form) (G : List Lexeme → Command → Type 0) → Gives f (behind (open_paren ∷ []) G) → Gives (token Open (λ _. f)) G
on_open f G h = on_this Open open_paren f G open_is h

pub on_close : (f : Form) (G : List Lexeme → Command → Type 0) → Gives f (behind (close_paren ∷ []) G) → Gives (token Close (λ _. f)) G
on_close f G h = on_this Close close_paren f G close_is h

pub on_open_square : (f : Form) (G : List Lexeme → Command → Type 0) → Gives f (behind (open_square ∷ []) G) → Gives (token OpenSquare (λ _. f)) G
on_open_square f G h = on_this OpenSquare open_square f G open_square_is h

pub on_comma : (f : Form) (G : List Lexeme → Command → Type 0) → Gives f (behind (comma ∷ []) G) → Gives (token Comma (λ _. f)) G
on_comma f G h = on_this Comma comma f G comma_is h

-- a symbol, and a numeral
pub on_symbol : (onward : Lexeme → Form) (G : List Lexeme → Command → Type 0) → ((k : Sort) (s : List ℕ) → Gives (onward (symbol k s)) (behind (symbol k s ∷ []) G)) → Gives (token Symbol onward) G
on_symbol onward G h = on_token Symbol onward G by
  where
    by : (t : Lexeme) → is_symbol t ≡ true → Gives (onward t) (behind (t ∷ []) G)
    by (symbol k s) i = h k s
    by t i = absurd (false≢true i)

pub on_number :
    (onward : Lexeme → Form) (G : List Lexeme → Command → Type 0) → ((d : List ℕ) → IsTrue (is_numeral d) → Gives (onward (symbol ordinary d)) (behind (symbol ordinary d ∷ []) G))
    → Gives (token Numeral onward) G
on_number onward G h = on_token Numeral onward G by
  where
    by : (t : Lexeme) → is_number t ≡ true → Gives (onward t) (behind (t ∷ []) G)
    by (symbol ordinary d) i = h d i
    by t i = absurd (false≢true i)

-- a comma, and then one form, or `]`, and then the other
pub on_comma_or_close_square :
    (f g : Form) (G : List Lexeme → Command → Type 0) → Gives f (behind (comma ∷ []) G) → Gives g (behind (close_square ∷ []) G)
    → Gives (token CommaOrCloseSquare (λ t. if is_comma t then f else g)) G
on_comma_or_close_square f g G h i = on_token CommaOrCloseSquare (λ t. if is_comma t then f else g) G by
  where
    by : (t : Lexeme) → fits CommaOrCloseSquare t ≡ true → Gives (if is_comma t then f else g) (behind (t ∷ []) G)
    by comma j = h
    by close_square j = i
    by t j = absurd (false≢true j)

-- a comma so, or a parenthesis
pub on_comma_or_close : (f g : Form) (G : List Lexeme → Command → Type 0) → Gives f (behind (comma ∷ []) G) → Gives g (behind (close_paren ∷ []) G) → Gives (token CommaOrClose (λ t. if is_comma t then f else g)) G
on_comma_or_close f g G h i = on_token CommaOrClose (λ t. if is_comma t then f else g) G by
  where
    by : (t : Lexeme) → fits CommaOrClose t ≡ true → Gives (if is_comma t then f else g) (behind (t ∷ []) G)
    by comma j = h
    by close_paren j = i
    by t j = absurd (false≢true j)

pub on_comma_or_open : (f g : Form) (G : List Lexeme → Command → Type 0) → Gives f (behind (comma ∷ []) G) → Gives g (behind (open_paren ∷ []) G) → Gives (token CommaOrOpen (λ t. if is_comma t then f else g)) G
on_comma_or_open f g G h i = on_token CommaOrOpen (λ t. if is_comma t then f else g) G by
  where
    by : (t : Lexeme) → fits CommaOrOpen t ≡ true → Gives (if is_comma t then f else g) (behind (t ∷ []) G)
    by comma j = h
    by open_paren j = i
    by t j = absurd (false≢true j)

-- the end; a full stop, and the end; `)` before these
pub on_end : (d : Command) (G : List Lexeme → Command → Type 0) → G [] d → Gives (ends d) G
on_end d G h [] c e = subst (G []) (ap (read_of d) e) h
on_end d G h (t ∷ ts) c e = absurd (none_read (t ∷ ts) c e)

pub on_stopped : (d : Command) (G : List Lexeme → Command → Type 0) → G (full_stop ∷ []) d → Gives (stopped d) G
on_stopped d G h = on_this Stop full_stop (ends d) G stop_is (on_end d (behind (full_stop ∷ []) G) h)

pub on_closed : (d : Command) (G : List Lexeme → Command → Type 0) → G (close_paren ∷ full_stop ∷ []) d → Gives (closed d) G
on_closed d G h = on_close (stopped d) G (on_stopped d (behind (close_paren ∷ []) G) h)

-- a command's word; the word of an interpretation
word_behind : (k : Sort) (s : List ℕ) (G : List Lexeme → Command → Type 0) → IsTrue (is_some (word_of s)) → ((w : Word) → Gives (behind_word w) (behind (symbol k (text_of w) ∷ []) G)) → Gives (behind_first_token (symbol k s)) (behind (symbol k s ∷ []) G)
word_behind k s G i h = by (word_of s) refl
  where
    told : (w : Word) → Gives (behind_first_token (symbol k (text_of w))) (behind (symbol k (text_of w) ∷ []) G)
    told w = subst (λ f. Gives f (behind (symbol k (text_of w) ∷ []) G)) (sym (behind_first k w)) (h w)

    by : (o : Option Word) → word_of s ≡ o → Gives (behind_first_token (symbol k s)) (behind (symbol k s ∷ []) G)
    by (Some w) e = subst (λ t. Gives (behind_first_token (symbol k t)) (behind (symbol k t ∷ []) G)) (sym (text_of-word s w e)) (told w)
    by None e = absurd (false≢true (sym (ap is_some e) ∙ i))

pub on_command_word : (G : List Lexeme → Command → Type 0) → ((k : Sort) (w : Word) → Gives (behind_word w) (behind (symbol k (text_of w) ∷ []) G)) → Gives commands G
on_command_word G h = on_token CommandWord behind_first_token G by
  where
    by : (t : Lexeme) → fits CommandWord t ≡ true → Gives (behind_first_token t) (behind (t ∷ []) G)
    by (symbol k s) i = word_behind k s G i (h k)
    by t i = absurd (false≢true i)

pub on_tester_word :
    (G : List Lexeme → Command → Type 0) → ((k : Sort) (w : Word) → Gives (behind_word w) (behind (symbol k (text_of w) ∷ []) G))
    → Gives interpretation (behind (symbol ordinary (codes "interpretation") ∷ []) G) → Gives tester_commands G
on_tester_word G h j = on_token TesterWord behind_first_token G by
  where
    here : Gives (behind_first_token (symbol ordinary (codes "interpretation"))) (behind (symbol ordinary (codes "interpretation") ∷ []) G)
    here = j

    told : (t : Lexeme) (b : Bool) → is_interpretation t ≡ b → fits TesterWord t ≡ true → Gives (behind_first_token t) (behind (t ∷ []) G)
    told t true e i = subst (λ u. Gives (behind_first_token u) (behind (u ∷ []) G)) (sym (word_is (codes "interpretation") t e)) here
    told (symbol k s) false e i = word_behind k s G (rw e at i) (h k)
    told t false e i = absurd (false≢true i)

    by : (t : Lexeme) → fits TesterWord t ≡ true → Gives (behind_first_token t) (behind (t ∷ []) G)
    by t i = told t (is_interpretation t) refl i
