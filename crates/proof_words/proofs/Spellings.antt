-- Where a spelling goes on, some words begin so; where it stops, none do.
use Rattle.std.proofs.Common.{◌≡◌, ℕ, suc, ◌+◌, ◌-◌, ◌≤◌, ◌<◌, ◌⊎◌, inl, inr, true, List, [], ◌∷◌, ◌++◌, Option, Some, None, length, take, drop, refl, ap, ap₂, ◌∙◌, sym, subst, append_assoc, arith, codes}
use Rattle.std.proofs.lemmas.List.{length-append, length-drop, take-append-drop}
use Rattle.std.proofs.Math.Seq.{take-append_seam}
use Rattle.std.specs.Option.{option_map_or}
use Rattle.derivation.specs.Later.{LaterWord, rewritten}
use Rattle.derivation.specs.declared.words.Satellite.{Satellite}
use Rattle.ladr_lex.specs.Lexeme.{Lexeme, lexemes_of, ordinary, open_paren, close_paren, open_square, close_square, comma, full_stop, symbol}
use Rattle.ladr_lex.specs.declared.token.Token.{Token}
use Rattle.proof_words.specs.Classes.{is_of}
use Rattle.proof_words.specs.Faults.{BeginsWords, AreFirstWords, HoldsNoWords, IsBadWordToken}
use Rattle.proof_words.specs.Spelling.{Spelling, complete, wants, satellites, path, rewritings, words, number_then, satellite_then, subterm_then, behind_satellites, behind_path, behind_rewritings, more_or, one_more, no_more, spelling_after, spelling_at_end, words_outcome, WordsOutcome, reads, stops, SaysWords}
use Rattle.proof_words.specs.Written.{Written, WrittenFirst, written, satellite}
use Rattle.proof_words.specs.declared.names.ContentKind.TheVariants.{Formula, Clause, Either}
use Rattle.proof_words.specs.declared.class.TokenClass.{TokenClass}
use Rattle.proof_words.specs.declared.class.TokenClass.TheVariants.{Open, Close, OpenSquare, CloseSquare, Comma, Stop, Number, LiteralName, FirstWord, StepWord, CommaOrClose, CommaOrCloseSquare}

-- a token of each class
abbrev pub example : TokenClass → Lexeme
example Open = open_paren
example Close = close_paren
example OpenSquare = open_square
example CloseSquare = close_square
example Comma = comma
example Stop = full_stop
example Number = symbol ordinary (codes "0")
example LiteralName = symbol ordinary (codes "a")
example (FirstWord Formula) = symbol ordinary (codes "goal")
example (FirstWord Clause) = symbol ordinary (codes "copy")
example (FirstWord Either) = symbol ordinary (codes "goal")
example StepWord = symbol ordinary (codes "xx")
example CommaOrClose = close_paren
example CommaOrCloseSquare = close_square

pub example_is : (c : TokenClass) → is_of c (example c) ≡ true
example_is Open = refl
example_is Close = refl
example_is OpenSquare = refl
example_is CloseSquare = refl
example_is Comma = refl
example_is Stop = refl
example_is Number = refl
example_is LiteralName = refl
example_is (FirstWord Formula) = refl
example_is (FirstWord Clause) = refl
example_is (FirstWord Either) = refl
example_is StepWord = refl
example_is CommaOrClose = refl
example_is CommaOrCloseSquare = refl

-- some words of a spelling
pub record Filled (f : Spelling) : Type 0 where
  pub tokens : List Lexeme
  pub words : Written
  pub says : SaysWords f tokens words

abbrev zero_token : Lexeme
zero_token = symbol ordinary (codes "0")

abbrev name_token : Lexeme
name_token = symbol ordinary (codes "a")

pub filled : (f : Spelling) → Filled f
filled (complete w) = record { tokens = []; words = w; says = refl }
filled (wants c onward) =
    let more = filled (onward (example c)) in
    record { tokens = example c ∷ more.tokens; words = more.words; says = rw (example_is c) more.says }
filled (satellites read onward) =
    let more = filled (onward (read ++ satellite 0 0 0 ∷ [])) in
    record {
      tokens = name_token ∷ comma ∷ zero_token ∷ comma ∷ name_token ∷ close_paren ∷ more.tokens;
      words = more.words;
      says = more.says;
    }
filled (path read onward) =
    let more = filled (onward (read ++ 0 ∷ [])) in
    record { tokens = zero_token ∷ close_paren ∷ more.tokens; words = more.words; says = more.says }
filled (rewritings w read) = record {
  tokens = zero_token ∷ open_paren ∷ name_token ∷ comma ∷ zero_token ∷ close_paren ∷ close_square ∷ close_paren ∷ close_square ∷ full_stop ∷ [];
  words = written w (read ++ rewritten 0 0 (0 ∷ []) ∷ []);
  says = refl;
}
filled (words w read) = record { tokens = close_square ∷ full_stop ∷ []; words = written w read; says = refl }

-- a spelling is complete, or the next token decides
abbrev IsOpen : Spelling → Type 0
IsOpen f = ((t : Lexeme) (ts : List Lexeme) → words_outcome f (t ∷ ts) ≡ option_map_or (λ g. words_outcome g ts) (spelling_after f t) (stops (t ∷ ts))) × (spelling_at_end f ≡ stops [])

goes : (f : Spelling) → ((w : Written) × (f ≡ complete w)) ⊎ IsOpen f
goes (complete w) = inl (w, refl)
goes (wants c onward) = inr ((λ t ts. refl), refl)
goes (satellites read onward) = inr ((λ t ts. refl), refl)
goes (path read onward) = inr ((λ t ts. refl), refl)
goes (rewritings w read) = inr ((λ t ts. refl), refl)
goes (words w read) = inr ((λ t ts. refl), refl)

pub as_complete : (w : Written) (ts : List Lexeme) → words_outcome (complete w) ts ≡ reads w ts
as_complete w [] = refl
as_complete w (t ∷ ts) = refl

-- what reads doesn't stop
abbrev Reads : WordsOutcome → Type 0
Reads (reads w r) = Unit {0}
Reads (stops us) = ⊥

pub no_stop : (w : Written) (r us : List Lexeme) → reads w r ≡ stops us → ⊥
no_stop w r us e = subst Reads e tt

abbrev left_of : WordsOutcome → List Lexeme
left_of (reads w r) = r
left_of (stops us) = us

abbrev words_of : Written → WordsOutcome → Written
words_of v (reads w r) = w
words_of v (stops us) = v

-- What is behind complete words is left as it is.
complete_longer : (v w : Written) (ts more r : List Lexeme) → words_outcome (complete v) ts ≡ reads w r → words_outcome (complete v) (ts ++ more) ≡ reads w (r ++ more)
complete_longer v w ts more r e =
    let i : reads v ts ≡ reads w r = sym (as_complete v ts) ∙ e in
    as_complete v (ts ++ more) ∙ ap₂ reads (ap (words_of v) i) (ap (λ us. us ++ more) (ap left_of i))

longer_behind : (f : Spelling) (t : Lexeme) (ts more r : List Lexeme) (w : Written) → ((v : Written) × (f ≡ complete v)) ⊎ IsOpen f → (o : Option Spelling)
    → ((g : Spelling) → words_outcome g ts ≡ reads w r → words_outcome g (ts ++ more) ≡ reads w (r ++ more))
    → spelling_after f t ≡ o → words_outcome f (t ∷ ts) ≡ reads w r → words_outcome f (t ∷ (ts ++ more)) ≡ reads w (r ++ more)
longer_behind f t ts more r w (inl i) o ih a e = rw (i.1) (complete_longer i.0 w (t ∷ ts) more r (rw (i.1) at e))
longer_behind f t ts more r w (inr h) None ih a e = absurd (no_stop w r (t ∷ ts) (sym e ∙ h.0 t ts ∙ ap (λ o. option_map_or (λ g. words_outcome g ts) o (stops (t ∷ ts))) a))
longer_behind f t ts more r w (inr h) (Some g) ih a e =
    h.0 t (ts ++ more) ∙ ap (λ o. option_map_or (λ g. words_outcome g (ts ++ more)) o (stops (t ∷ (ts ++ more)))) a
    ∙ ih g (sym (h.0 t ts ∙ ap (λ o. option_map_or (λ g. words_outcome g ts) o (stops (t ∷ ts))) a) ∙ e)

longer_start : (f : Spelling) (more r : List Lexeme) (w : Written) → ((v : Written) × (f ≡ complete v)) ⊎ IsOpen f → words_outcome f [] ≡ reads w r → words_outcome f more ≡ reads w (r ++ more)
longer_start f more r w (inl i) e = rw (i.1) (complete_longer i.0 w [] more r (rw (i.1) at e))
longer_start f more r w (inr h) e = absurd (no_stop w r [] (sym e ∙ h.1))

-- further tokens behind words are left
pub longer : (f : Spelling) (ts more r : List Lexeme) (w : Written) → words_outcome f ts ≡ reads w r → words_outcome f (ts ++ more) ≡ reads w (r ++ more)
longer f [] more r w e = longer_start f more r w (goes f) e
longer f (t ∷ ts) more r w e = longer_behind f t ts more r w (goes f) (spelling_after f t) (λ g i. longer g ts more r w i) refl e

-- the tokens in front of what is left are the words
pub record Front (f : Spelling) (ts : List Lexeme) (w : Written) (r : List Lexeme) : Type 0 where
  pub front : List Lexeme
  pub split : ts ≡ front ++ r
  pub says : SaysWords f front w

complete_front : (v w : Written) (ts r : List Lexeme) → words_outcome (complete v) ts ≡ reads w r → Front (complete v) ts w r
complete_front v w ts r e =
    let i : reads v ts ≡ reads w r = sym (as_complete v ts) ∙ e in
    record { front = []; split = ap left_of i; says = ap (λ u. reads u []) (ap (words_of v) i) }

front_behind : (f : Spelling) (t : Lexeme) (ts r : List Lexeme) (w : Written) → ((v : Written) × (f ≡ complete v)) ⊎ IsOpen f → (o : Option Spelling)
    → ((g : Spelling) → words_outcome g ts ≡ reads w r → Front g ts w r) → spelling_after f t ≡ o → words_outcome f (t ∷ ts) ≡ reads w r → Front f (t ∷ ts) w r
front_behind f t ts r w (inl i) o ih a e = subst (λ g. Front g (t ∷ ts) w r) (sym (i.1)) (complete_front i.0 w (t ∷ ts) r (rw (i.1) at e))
front_behind f t ts r w (inr h) None ih a e = absurd (no_stop w r (t ∷ ts) (sym e ∙ h.0 t ts ∙ ap (λ o. option_map_or (λ g. words_outcome g ts) o (stops (t ∷ ts))) a))
front_behind f t ts r w (inr h) (Some g) ih a e =
    let more = ih g (sym (h.0 t ts ∙ ap (λ o. option_map_or (λ g. words_outcome g ts) o (stops (t ∷ ts))) a) ∙ e) in
    record {
      front = t ∷ more.front;
      split = ap (λ us. t ∷ us) more.split;
      says = h.0 t more.front ∙ ap (λ o. option_map_or (λ g. words_outcome g more.front) o (stops (t ∷ more.front))) a ∙ more.says;
    }

front_start : (f : Spelling) (r : List Lexeme) (w : Written) → ((v : Written) × (f ≡ complete v)) ⊎ IsOpen f → words_outcome f [] ≡ reads w r → Front f [] w r
front_start f r w (inl i) e = subst (λ g. Front g [] w r) (sym (i.1)) (complete_front i.0 w [] r (rw (i.1) at e))
front_start f r w (inr h) e = absurd (no_stop w r [] (sym e ∙ h.1))

pub front_of : (f : Spelling) (ts r : List Lexeme) (w : Written) → words_outcome f ts ≡ reads w r → Front f ts w r
front_of f [] r w e = front_start f r w (goes f) e
front_of f (t ∷ ts) r w e = front_behind f t ts r w (goes f) (spelling_after f t) (λ g i. front_of g ts r w i) refl e

-- a spelling stops in the tokens with these left: those before lead to a spelling that the next one can't begin
pub record Stopped (f : Spelling) (ts us : List Lexeme) : Type 0 where
  pub front : List Lexeme
  pub split : ts ≡ front ++ us
  pub form : Spelling
  pub leads : (more : List Lexeme) → words_outcome f (front ++ more) ≡ words_outcome form more
  pub open_still : IsOpen form
  pub here : (u : Lexeme) (rest : List Lexeme) → us ≡ u ∷ rest → spelling_after form u ≡ None

nothing_is : (u : Lexeme) (rest : List Lexeme) → [] ≡ u ∷ rest → ⊥
nothing_is u rest i = omega (arith, ap length i)

abbrev head_or : Lexeme → List Lexeme → Lexeme
head_or u [] = u
head_or u (t ∷ ts) = t

stopped_start : (f : Spelling) (us : List Lexeme) → ((v : Written) × (f ≡ complete v)) ⊎ IsOpen f → words_outcome f [] ≡ stops us → Stopped f [] us
stopped_start f us (inl i) e = absurd (no_stop i.0 [] us (rw (i.1) at e))
stopped_start f us (inr h) e =
    let k : [] ≡ us = ap left_of (sym h.1 ∙ e) in
    subst (λ vs. Stopped f [] vs) k (record { front = []; split = refl; form = f; leads = λ more. refl; open_still = h; here = λ u rest i. absurd (nothing_is u rest i) })

stopped_behind : (f : Spelling) (t : Lexeme) (ts us : List Lexeme) → ((v : Written) × (f ≡ complete v)) ⊎ IsOpen f → (o : Option Spelling)
    → ((g : Spelling) → words_outcome g ts ≡ stops us → Stopped g ts us) → spelling_after f t ≡ o → words_outcome f (t ∷ ts) ≡ stops us → Stopped f (t ∷ ts) us
stopped_behind f t ts us (inl i) o ih a e = absurd (no_stop i.0 (t ∷ ts) us (rw (i.1) at e))
stopped_behind f t ts us (inr h) None ih a e =
    let k : t ∷ ts ≡ us = ap left_of (sym (h.0 t ts ∙ ap (λ o. option_map_or (λ g. words_outcome g ts) o (stops (t ∷ ts))) a) ∙ e) in
    subst (λ vs. Stopped f (t ∷ ts) vs) k (record { front = []; split = refl; form = f; leads = λ more. refl; open_still = h; here = λ u rest i. rw (← ap (head_or u) i) a })
stopped_behind f t ts us (inr h) (Some g) ih a e =
    let s = ih g (sym (h.0 t ts ∙ ap (λ o. option_map_or (λ g. words_outcome g ts) o (stops (t ∷ ts))) a) ∙ e) in
    record {
      front = t ∷ s.front;
      split = ap (λ vs. t ∷ vs) s.split;
      form = s.form;
      leads = λ more. h.0 t (s.front ++ more) ∙ ap (λ o. option_map_or (λ g. words_outcome g (s.front ++ more)) o (stops (t ∷ (s.front ++ more)))) a ∙ s.leads more;
      open_still = s.open_still;
      here = s.here;
    }

pub stopped : (f : Spelling) (ts us : List Lexeme) → words_outcome f ts ≡ stops us → Stopped f ts us
stopped f [] us e = stopped_start f us (goes f) e
stopped f (t ∷ ts) us e = stopped_behind f t ts us (goes f) (spelling_after f t) (λ g i. stopped g ts us i) refl e

-- as many tokens stand for themselves
pub length-lexemes_of : (ts : List Token) → length (lexemes_of ts) ≡ length ts
length-lexemes_of [] = refl
length-lexemes_of (t ∷ ts) = ap suc (length-lexemes_of ts)

take_further : (xs : List Lexeme) (y : Lexeme) (ys : List Lexeme) → take (suc (length xs)) (xs ++ (y ∷ ys)) ≡ xs ++ y ∷ []
take_further [] y ys = refl
take_further (x ∷ xs) y ys = ap (λ zs. x ∷ zs) (take_further xs y ys)

-- some words begin with the tokens in front
begun : (f : Spelling) (ts us : List Lexeme) (s : Stopped f ts us) → BeginsWords f s.front
begun f ts us s = let more = filled s.form in record { more = more.tokens; words = more.words; says = s.leads more.tokens ∙ more.says }

-- and none with one more
no_further : (f : Spelling) (ts : List Lexeme) (u : Lexeme) (rest : List Lexeme) (s : Stopped f ts (u ∷ rest)) → ¬ BeginsWords f (s.front ++ u ∷ [])
no_further f ts u rest s b =
    let e : words_outcome f (s.front ++ (u ∷ b.more)) ≡ reads b.words [] = rw (append_assoc s.front (u ∷ []) b.more) at b.says in
    let h : words_outcome s.form (u ∷ b.more) ≡ stops (u ∷ b.more) = s.open_still.0 u b.more ∙ ap (λ o. option_map_or (λ g. words_outcome g b.more) o (stops (u ∷ b.more))) (s.here u rest refl) in
    no_stop b.words [] (u ∷ b.more) (sym e ∙ s.leads (u ∷ b.more) ∙ h)

none_further : (f : Spelling) (ts us : List Lexeme) (s : Stopped f ts us) → length s.front < length ts → ¬ BeginsWords f (take (length s.front + 1) ts)
none_further f ts [] s l = (let n : length ts ≡ length s.front + 0 = ap length s.split ∙ length-append s.front [] in absurd (omega arith))
none_further f ts (u ∷ rest) s l =
    let m : length s.front + 1 ≡ suc (length s.front) = omega arith in
    let e : take (length s.front + 1) ts ≡ s.front ++ u ∷ [] = ap₂ take m s.split ∙ take_further s.front u rest in
    rw e (no_further f ts u rest s)

-- no front of the tokens is words
none_there : (f : Spelling) (ts us : List Lexeme) → words_outcome f ts ≡ stops us → HoldsNoWords f ts
none_there f ts us e = λ front rest w split says. no_stop w rest us (sym (longer f front rest [] w says) ∙ ap (words_outcome f) (sym split) ∙ e)

bad_at : (f : Spelling) (ts us : List Lexeme) (s : Stopped f ts us) → words_outcome f ts ≡ stops us → IsBadWordToken f ts (length s.front)
bad_at f ts us s o =
    let n : length ts ≡ length s.front + length us = ap length s.split ∙ length-append s.front us in
    let e : take (length s.front) ts ≡ s.front = ap (take (length s.front)) s.split ∙ take-append_seam s.front us in
    record { within = omega arith; before = rw e (begun f ts us s); here = none_further f ts us s; none = none_there f ts us o }

-- where the spelling stops, there the first bad token is
pub first_bad : (f : Spelling) (ts us : List Lexeme) → words_outcome f ts ≡ stops us → IsBadWordToken f ts (length ts - length us)
first_bad f ts us e =
    let s = stopped f ts us e in
    let n : length ts ≡ length s.front + length us = ap length s.split ∙ length-append s.front us in
    let m : length s.front ≡ length ts - length us = omega arith in
    subst (λ k. IsBadWordToken f ts k) m (bad_at f ts us s e)

-- no more is left than there was
pub left_within : (f : Spelling) (ts us : List Lexeme) → words_outcome f ts ≡ stops us → length us ≤ length ts
left_within f ts us e =
    let s = stopped f ts us e in
    let n : length ts ≡ length s.front + length us = ap length s.split ∙ length-append s.front us in
    omega arith

pub read_within : (f : Spelling) (ts r : List Lexeme) (w : Written) → words_outcome f ts ≡ reads w r → length r ≤ length ts
read_within f ts r w e =
    let s = front_of f ts r w e in
    let n : length ts ≡ length s.front + length r = ap length s.split ∙ length-append s.front r in
    omega arith

-- where words are read, they are the first tokens
pub first_words : (f : Spelling) (ts r : List Lexeme) (w : Written) → words_outcome f ts ≡ reads w r → AreFirstWords f ts w (length ts - length r)
first_words f ts r w e =
    let s = front_of f ts r w e in
    let n : length ts ≡ length s.front + length r = ap length s.split ∙ length-append s.front r in
    let m : length s.front ≡ length ts - length r = omega arith in
    let k : take (length s.front) ts ≡ s.front = ap (take (length s.front)) s.split ∙ take-append_seam s.front r in
    subst (λ (j : ℕ). AreFirstWords f ts w j) m (omega arith, ap (words_outcome f) k ∙ s.says)

-- a satellite, a number of a path, a rewriting and a word begin with a token
pub as_satellite : (read : List Satellite) (onward : List Satellite → Spelling) (ts : List Lexeme)
    → words_outcome (satellites read onward) ts ≡ words_outcome (satellite_then (λ s. behind_satellites (read ++ s ∷ []) onward)) ts
as_satellite read onward [] = refl
as_satellite read onward (t ∷ ts) = refl

pub as_step : (read : List ℕ) (onward : List ℕ → Spelling) (ts : List Lexeme)
    → words_outcome (path read onward) ts ≡ words_outcome (number_then (λ n. behind_path (read ++ n ∷ []) onward)) ts
as_step read onward [] = refl
as_step read onward (t ∷ ts) = refl

pub as_rewriting : (w : WrittenFirst) (read : List LaterWord) (ts : List Lexeme)
    → words_outcome (rewritings w read) ts ≡ words_outcome (subterm_then (λ n a p. behind_rewritings w (read ++ rewritten n a p ∷ []))) ts
as_rewriting w read [] = refl
as_rewriting w read (t ∷ ts) = refl

pub as_words : (w : WrittenFirst) (read : List LaterWord) (ts : List Lexeme) → words_outcome (words w read) ts ≡ words_outcome (wants CommaOrCloseSquare (more_or (one_more w read) (no_more w read))) ts
as_words w read [] = refl
as_words w read (t ∷ ts) = refl

-- what is cut off in front of a list and what is left are the list
cut : (n : ℕ) (ts : List Lexeme) → ts ≡ take n ts ++ drop n ts
cut n ts = sym (take-append-drop n ts)

-- tokens begin with one line's words at most
pub one_front : (f : Spelling) (ts : List Lexeme) (w v : Written) (n m : ℕ) → AreFirstWords f ts w n → AreFirstWords f ts v m → (w ≡ v) × (n ≡ m)
one_front f ts w v n m h i =
    let a : words_outcome f ts ≡ reads w (drop n ts) = ap (words_outcome f) (cut n ts) ∙ longer f (take n ts) (drop n ts) [] w h.1 in
    let b : words_outcome f ts ≡ reads v (drop m ts) = ap (words_outcome f) (cut m ts) ∙ longer f (take m ts) (drop m ts) [] v i.1 in
    let e : reads w (drop n ts) ≡ reads v (drop m ts) = sym a ∙ b in
    let l : length (drop n ts) ≡ length (drop m ts) = ap length (ap left_of e) in
    (ap (words_of w) e, omega (arith, l, length-drop n ts, length-drop m ts, h.0, i.0))
