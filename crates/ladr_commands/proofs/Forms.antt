-- Where a form goes on, some item of it begins; where it stops, none goes on.
use Rattle.std.proofs.Common.{◌≡◌, ℕ, suc, ◌+◌, ◌-◌, ◌≤◌, ◌<◌, true, List, [], ◌∷◌, ◌++◌, Option, Some, None, length, take, refl, ap, ap₂, ◌∙◌, sym, subst, append_assoc, arith, codes}
use Rattle.std.proofs.lemmas.List.{length-append}
use Rattle.std.proofs.Math.Seq.{take-append_seam}
use Rattle.ladr_lex.specs.Lexeme.{Lexeme, lexemes_of, ordinary, special, open_paren, close_paren, open_square, close_square, comma, full_stop, symbol}
use Rattle.ladr_lex.specs.declared.token.Token.{Token}
use Rattle.fol_core.specs.declared.symbols.Kind.TheVariants.{Function}
use Rattle.ladr_commands.specs.ByName.{NamedTable, table, by_name}
use Rattle.ladr_commands.specs.declared.command.Command.TheVariants.{Interpretation}
use Rattle.ladr_commands.specs.Faults.{BeginsCommand, IsBadCommandToken}
use Rattle.ladr_commands.specs.Form.{Form, ends, token, members, values, places, comments, comment, entries, entry, form_after, behind_member, behind_number, behind_place, number_said, form_outcome, FormOutcome, reads, stops, SaysCommand}
use Rattle.ladr_commands.specs.Wanted.{fits, symbol_text, kind_said}
use Rattle.ladr_commands.specs.declared.command.Command.{Command}
use Rattle.ladr_commands.specs.declared.wanted.Wanted.{Wanted}
use Rattle.ladr_commands.specs.declared.wanted.Wanted.TheVariants.{Open, Close, OpenSquare, CloseSquare, Comma, Stop, Symbol, Numeral, CommandWord, CommaOrCloseSquare, SymbolOrOpenSquare, NumeralOrClose, TesterWord, InterpretationWord, Equality, Place, CommaOrOpen, CommaOrClose, SymbolOrCloseSquare, KindWord, KindWordOrCloseSquare}

-- a token of each class
abbrev pub example : Wanted → Lexeme
example Open = open_paren
example Close = close_paren
example OpenSquare = open_square
example CloseSquare = close_square
example Comma = comma
example Stop = full_stop
example Symbol = symbol ordinary (codes "a")
example Numeral = symbol ordinary (codes "0")
example CommandWord = symbol ordinary (codes "set")
example CommaOrCloseSquare = close_square
example SymbolOrOpenSquare = symbol ordinary (codes "a")
example NumeralOrClose = symbol ordinary (codes "0")
example TesterWord = symbol ordinary (codes "set")
example InterpretationWord = symbol ordinary (codes "interpretation")
example Equality = symbol special (codes "=")
example Place = symbol ordinary (codes "_")
example CommaOrOpen = comma
example CommaOrClose = close_paren
example SymbolOrCloseSquare = close_square
example KindWord = symbol ordinary (codes "function")
example KindWordOrCloseSquare = close_square

pub example_fits : (w : Wanted) → fits w (example w) ≡ true
example_fits Open = refl
example_fits Close = refl
example_fits OpenSquare = refl
example_fits CloseSquare = refl
example_fits Comma = refl
example_fits Stop = refl
example_fits Symbol = refl
example_fits Numeral = refl
example_fits CommandWord = refl
example_fits CommaOrCloseSquare = refl
example_fits SymbolOrOpenSquare = refl
example_fits NumeralOrClose = refl
example_fits TesterWord = refl
example_fits InterpretationWord = refl
example_fits Equality = refl
example_fits Place = refl
example_fits CommaOrOpen = refl
example_fits CommaOrClose = refl
example_fits SymbolOrCloseSquare = refl
example_fits KindWord = refl
example_fits KindWordOrCloseSquare = refl

-- some tokens of a form
pub record Filled (f : Form) : Type 0 where
  pub tokens : List Lexeme
  pub command : Command
  pub says : SaysCommand f tokens command

pub filled : (f : Form) → Filled f
filled (ends c) = record { tokens = []; command = c; says = refl }
filled (token w onward) =
    let more = filled (onward (example w)) in
    record { tokens = example w ∷ more.tokens; command = more.command; says = rw (example_fits w) more.says }
filled (members w read onward) =
    let more = filled (onward (read ++ symbol_text (example w) ∷ [])) in
    record { tokens = example w ∷ close_square ∷ more.tokens; command = more.command; says = rw (example_fits w) more.says }
filled (values read onward) =
    let more = filled (onward (read ++ 0 ∷ [])) in
    record { tokens = symbol ordinary (codes "0") ∷ close_square ∷ more.tokens; command = more.command; says = more.says }
filled (places n onward) =
    let more = filled (onward (n + 1)) in
    record { tokens = symbol ordinary (codes "_") ∷ close_paren ∷ more.tokens; command = more.command; says = more.says }
filled (comments f) =
    let more = filled f in
    record {
      tokens = symbol ordinary (codes "a") ∷ symbol special (codes "=") ∷ symbol ordinary (codes "0") ∷ close_square ∷ more.tokens;
      command = more.command;
      says = more.says;
    }
filled (entries n es) = record {
  tokens =
      symbol ordinary (codes "function") ∷ open_paren ∷ symbol ordinary (codes "a") ∷ comma ∷ open_square ∷ symbol ordinary (codes "0") ∷ close_square ∷ close_paren
      ∷ close_square ∷ close_paren ∷ full_stop ∷ [];
  command = Interpretation (by_name n (es ++ table Function (codes "a") 0 (0 ∷ []) ∷ []));
  says = refl;
}

-- a form stops in the tokens with these left: those before lead to a form that the next one can't begin
pub record Stopped (f : Form) (ts us : List Lexeme) : Type 0 where
  pub front : List Lexeme
  pub split : ts ≡ front ++ us
  pub form : Form
  pub leads : (more : List Lexeme) → form_outcome f (front ++ more) ≡ form_outcome form more
  pub here : (u : Lexeme) (rest : List Lexeme) → us ≡ u ∷ rest → form_after form u ≡ None

pub at_once : (f : Form) (us : List Lexeme) → ((u : Lexeme) (rest : List Lexeme) → us ≡ u ∷ rest → form_after f u ≡ None) → Stopped f us us
at_once f us h = record { front = []; split = refl; form = f; leads = λ more. refl; here = h }

-- what reads doesn't stop
abbrev Reads : FormOutcome → Type 0
Reads (reads c) = Unit {0}
Reads (stops us) = ⊥

pub no_stop : (c : Command) (us : List Lexeme) → reads c ≡ stops us → ⊥
no_stop c us e = subst Reads e tt

abbrev left_of : FormOutcome → List Lexeme
left_of (reads c) = []
left_of (stops us) = us

abbrev first_of : Lexeme → List Lexeme → Lexeme
first_of u [] = u
first_of u (t ∷ ts) = t

nothing_is : (u : Lexeme) (rest : List Lexeme) → [] ≡ u ∷ rest → ⊥
nothing_is u rest i = omega (arith, ap length i)

at_end : (f : Form) (us : List Lexeme) → form_outcome f [] ≡ stops us → Stopped f [] us
at_end (ends c) us e = absurd (no_stop c us e)
at_end (token w onward) us e = let h : [] ≡ us = ap left_of e in subst (λ vs. Stopped (token w onward) [] vs) h (at_once (token w onward) [] (λ u rest i. absurd (nothing_is u rest i)))
at_end (members w read onward) us e = let h : [] ≡ us = ap left_of e in subst (λ vs. Stopped (members w read onward) [] vs) h (at_once (members w read onward) [] (λ u rest i. absurd (nothing_is u rest i)))
at_end (values read onward) us e = let h : [] ≡ us = ap left_of e in subst (λ vs. Stopped (values read onward) [] vs) h (at_once (values read onward) [] (λ u rest i. absurd (nothing_is u rest i)))
at_end (places n onward) us e = let h : [] ≡ us = ap left_of e in subst (λ vs. Stopped (places n onward) [] vs) h (at_once (places n onward) [] (λ u rest i. absurd (nothing_is u rest i)))
at_end (comments f) us e = let h : [] ≡ us = ap left_of e in subst (λ vs. Stopped (comments f) [] vs) h (at_once (comments f) [] (λ u rest i. absurd (nothing_is u rest i)))
at_end (entries n es) us e = let h : [] ≡ us = ap left_of e in subst (λ vs. Stopped (entries n es) [] vs) h (at_once (entries n es) [] (λ u rest i. absurd (nothing_is u rest i)))

-- a form that a token can't begin stops before it
at_token : (f : Form) (t : Lexeme) (ts us : List Lexeme) → form_after f t ≡ None → form_outcome f (t ∷ ts) ≡ stops us → Stopped f (t ∷ ts) us
at_token f t ts us a e =
    let h : t ∷ ts ≡ us = ap left_of (rw a at e) in
    subst (λ vs. Stopped f (t ∷ ts) vs) h (at_once f (t ∷ ts) (λ u rest i. rw (← ap (first_of u) i) a))

-- a token that can stand there goes before
one_more : (f g : Form) (t : Lexeme) (ts us : List Lexeme) → form_after f t ≡ Some g → Stopped g ts us → Stopped f (t ∷ ts) us
one_more f g t ts us a s =
    record { front = t ∷ s.front; split = ap (λ vs. t ∷ vs) s.split; form = s.form; leads = λ more. rw a (s.leads more); here = s.here }

behind_token :
    (f : Form) (t : Lexeme) (ts us : List Lexeme) (o : Option Form) → ((g : Form) → form_outcome g ts ≡ stops us → Stopped g ts us) → form_after f t ≡ o
    → form_outcome f (t ∷ ts) ≡ stops us → Stopped f (t ∷ ts) us
behind_token f t ts us None h a e = at_token f t ts us a e
behind_token f t ts us (Some g) h a e = one_more f g t ts us a (h g (rw a at e))

pub stopped : (f : Form) (ts us : List Lexeme) → form_outcome f ts ≡ stops us → Stopped f ts us
stopped f [] us e = at_end f us e
stopped f (t ∷ ts) us e = behind_token f t ts us (form_after f t) (λ g i. stopped g ts us i) refl e

-- as many tokens stand for themselves
pub length-lexemes_of : (ts : List Token) → length (lexemes_of ts) ≡ length ts
length-lexemes_of [] = refl
length-lexemes_of (t ∷ ts) = ap suc (length-lexemes_of ts)

pub take_further : (xs : List Lexeme) (y : Lexeme) (ys : List Lexeme) → take (suc (length xs)) (xs ++ (y ∷ ys)) ≡ xs ++ y ∷ []
take_further [] y ys = refl
take_further (x ∷ xs) y ys = ap (λ zs. x ∷ zs) (take_further xs y ys)

-- some item begins with the tokens in front
begun : (f : Form) (ts us : List Lexeme) (s : Stopped f ts us) → BeginsCommand f s.front
begun f ts us s = let more = filled s.form in record { more = more.tokens; command = more.command; says = s.leads more.tokens ∙ more.says }

-- and none with one more
no_further : (f : Form) (ts : List Lexeme) (u : Lexeme) (rest : List Lexeme) (s : Stopped f ts (u ∷ rest)) → ¬ BeginsCommand f (s.front ++ u ∷ [])
no_further f ts u rest s b =
    let e : form_outcome f (s.front ++ (u ∷ b.more)) ≡ reads b.command = rw (append_assoc s.front (u ∷ []) b.more) at b.says in
    let h : stops (u ∷ b.more) ≡ form_outcome s.form (u ∷ b.more) = rw (s.here u rest refl) refl in
    no_stop b.command (u ∷ b.more) (sym (h ∙ sym (s.leads (u ∷ b.more)) ∙ e))

none_further : (f : Form) (ts us : List Lexeme) (s : Stopped f ts us) → length s.front < length ts → ¬ BeginsCommand f (take (length s.front + 1) ts)
none_further f ts [] s l = (let n : length ts ≡ length s.front + 0 = ap length s.split ∙ length-append s.front [] in absurd (omega arith))
none_further f ts (u ∷ rest) s l =
    let m : length s.front + 1 ≡ suc (length s.front) = omega arith in
    let e : take (length s.front + 1) ts ≡ s.front ++ u ∷ [] = ap₂ take m s.split ∙ take_further s.front u rest in
    rw e (no_further f ts u rest s)

bad_at : (f : Form) (ts us : List Lexeme) (s : Stopped f ts us) → IsBadCommandToken f ts (length s.front)
bad_at f ts us s =
    let n : length ts ≡ length s.front + length us = ap length s.split ∙ length-append s.front us in
    let e : take (length s.front) ts ≡ s.front = ap (take (length s.front)) s.split ∙ take-append_seam s.front us in
    record { within = omega arith; before = rw e (begun f ts us s); here = none_further f ts us s }

-- where the form stops, there the first bad token is
pub first_bad : (f : Form) (ts us : List Lexeme) → form_outcome f ts ≡ stops us → IsBadCommandToken f ts (length ts - length us) × ((c : Command) → ¬ SaysCommand f ts c)
first_bad f ts us e =
    let s = stopped f ts us e in
    let n : length ts ≡ length s.front + length us = ap length s.split ∙ length-append s.front us in
    let m : length s.front ≡ length ts - length us = omega arith in
    (subst (λ k. IsBadCommandToken f ts k) m (bad_at f ts us s), λ c i. no_stop c us (sym i ∙ e))

-- no more is left than there was
pub left_within : (f : Form) (ts us : List Lexeme) → form_outcome f ts ≡ stops us → length us ≤ length ts
left_within f ts us e =
    let s = stopped f ts us e in
    let n : length ts ≡ length s.front + length us = ap length s.split ∙ length-append s.front us in
    omega arith

-- a member of a list begins with a token
pub as_token : (w : Wanted) (read : List (List ℕ)) (onward : List (List ℕ) → Form) (ts : List Lexeme)
    → form_outcome (members w read onward) ts ≡ form_outcome (token w (λ t. token CommaOrCloseSquare (behind_member w (read ++ symbol_text t ∷ []) onward))) ts
as_token w read onward [] = refl
as_token w read onward (t ∷ ts) = refl

pub as_number : (read : List ℕ) (onward : List ℕ → Form) (ts : List Lexeme)
    → form_outcome (values read onward) ts ≡ form_outcome (token Numeral (λ t. token CommaOrCloseSquare (behind_number (read ++ number_said t ∷ []) onward))) ts
as_number read onward [] = refl
as_number read onward (t ∷ ts) = refl

pub as_place : (n : ℕ) (onward : ℕ → Form) (ts : List Lexeme) → form_outcome (places n onward) ts ≡ form_outcome (token Place (λ _. token CommaOrClose (behind_place (n + 1) onward))) ts
as_place n onward [] = refl
as_place n onward (t ∷ ts) = refl

-- nothing is left for a place
pub no_place : (n : ℕ) (onward : ℕ → Form) (ts : List Lexeme) → length ts ≤ 0 → form_outcome (places n onward) ts ≡ stops ts
no_place n onward [] h = refl
no_place n onward (t ∷ ts) h = absurd (omega arith)

pub as_comment : (f : Form) (ts : List Lexeme) → form_outcome (comments f) ts ≡ form_outcome (token Symbol (λ _. comment f)) ts
as_comment f [] = refl
as_comment f (t ∷ ts) = refl

pub as_entry : (n : ℕ) (es : List NamedTable) (ts : List Lexeme) → form_outcome (entries n es) ts ≡ form_outcome (token KindWord (λ t. entry n es (kind_said t))) ts
as_entry n es [] = refl
as_entry n es (t ∷ ts) = refl

-- the command that was read, and this one where none was
abbrev pub read_of : Command → FormOutcome → Command
read_of c (reads d) = d
read_of c (stops us) = c
