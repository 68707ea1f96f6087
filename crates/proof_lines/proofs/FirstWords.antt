-- Which first words may stand behind content of a kind.
use Rattle.std.proofs.Common.{◌≡◌, ◌∙◌, ℕ, Bool, true, false, not, List, [], ◌∷◌, Option, Some, None, if◌then◌else◌, refl, ap, sym, subst, unwrap_or}
use Rattle.std.proofs.lemmas.Bool.{false≢true}
use Rattle.std.specs.Option.{option_map_or}
use Rattle.derivation.specs.Later.{LaterWord}
use Rattle.derivation.specs.declared.words.Satellite.{Satellite}
use Rattle.ladr_commands.specs.Wanted.{is_comma}
use Rattle.ladr_lex.specs.Lexeme.{Lexeme}
use Rattle.proof_words.specs.Classes.{is_of, first_name, first_named, later_named, word_text, names_formula, may_begin}
use Rattle.proof_words.specs.Spelling.{Spelling, complete, wants, satellites, path, rewritings, words, named, line_words, one_more, no_more, behind_step_name, spelling_after, words_outcome, WordsOutcome, reads, stops}
use Rattle.proof_words.specs.Written.{Written, WrittenFirst, written, states_formula, suits}
use Rattle.proof_words.specs.declared.class.TokenClass.TheVariants.{OpenSquare, FirstWord}
use Rattle.proof_words.specs.declared.names.ContentKind.{ContentKind}
use Rattle.proof_words.specs.declared.names.ContentKind.TheVariants.{Formula, Clause, Either}
use Rattle.proof_words.specs.declared.names.FirstName.{FirstName}
use Rattle.proof_words.specs.declared.names.FirstName.TheVariants as first
use Rattle.proof_words.specs.declared.names.LaterName.{LaterName}
use Rattle.proof_words.specs.declared.names.LaterName.TheVariants as later
use Rattle.proof_words.proofs.Spellings.{no_stop}

-- what is said of all words that a spelling may read
abbrev AllSay : (Written → Type 0) → Spelling → Type 0
AllSay P (complete w) = P w
AllSay P (wants c onward) = (t : Lexeme) → AllSay P (onward t)
AllSay P (satellites read onward) = (ss : List Satellite) → AllSay P (onward ss)
AllSay P (path read onward) = (ns : List ℕ) → AllSay P (onward ns)
AllSay P (rewritings w read) = (ls : List LaterWord) → P (written w ls)
AllSay P (words w read) = (ls : List LaterWord) → P (written w ls)

some_is : (f g : Spelling) → Some f ≡ Some g → f ≡ g
some_is f g e = ap (λ o. option_map_or (λ h. h) o f) e

either_says : (P : Written → Type 0) (b : Bool) (f g : Spelling) → AllSay P f → AllSay P g → AllSay P (if b then f else g)
either_says P true f g h k = h
either_says P false f g h k = k

taken : (P : Written → Type 0) (b : Bool) (f g : Spelling) → AllSay P f → (if b then Some f else None) ≡ Some g → AllSay P g
taken P true f g h e = subst (AllSay P) (some_is f g e) h
taken P false f g h e = absurd cc

further_says : (P : Written → Type 0) (w : WrittenFirst) (read : List LaterWord) (n : LaterName) → ((ls : List LaterWord) → P (written w ls)) → AllSay P (behind_step_name w read n)
further_says P w read later.Rewrite h = λ a b ls. h ls
further_says P w read later.Flip h = λ a b c ls. h ls
further_says P w read later.Merge h = λ a b c ls. h ls
further_says P w read later.Xx h = λ a b c ls. h ls
further_says P w read later.UnitDel h = λ a b c d e ls. h ls

all_after : (P : Written → Type 0) (f g : Spelling) (t : Lexeme) → AllSay P f → spelling_after f t ≡ Some g → AllSay P g
all_after P (complete w) g t h e = absurd cc
all_after P (wants c onward) g t h e = taken P (is_of c t) (onward t) g (h t) e
all_after P (satellites read onward) g t h e =
    taken P _ _ g (λ a b c d x. either_says P (is_comma x) (satellites _ onward) (onward _) h (h _)) e
all_after P (path read onward) g t h e = taken P _ _ g (λ x. either_says P (is_comma x) (path _ onward) (onward _) h (h _)) e
all_after P (rewritings w read) g t h e =
    taken P _ _ g (λ a b c ns x. either_says P (is_comma x) (rewritings w _) _ h (λ y ls. h ls)) e
all_after P (words w read) g t h e = taken P _ (if is_comma t then one_more w read else no_more w read) g (either_says P (is_comma t) (one_more w read) (no_more w read) (λ u. further_says P w read (later_named u) h) (λ u. h read)) e

abbrev words_of : Written → WordsOutcome → Written
words_of v (reads w r) = w
words_of v (stops us) = v

says_behind : (P : Written → Type 0) (f : Spelling) (t : Lexeme) (ts r : List Lexeme) (w : Written) (o : Option Spelling) → AllSay P f
    → ((g : Spelling) → AllSay P g → words_outcome g ts ≡ reads w r → P w)
    → spelling_after f t ≡ o → option_map_or (λ g. words_outcome g ts) o (stops (t ∷ ts)) ≡ reads w r → P w
says_behind P f t ts r w None h ih a e = absurd (no_stop w r (t ∷ ts) (sym e))
says_behind P f t ts r w (Some g) h ih a e = ih g (all_after P f g t h a) e

says_so : (P : Written → Type 0) (f : Spelling) (ts r : List Lexeme) (w : Written) → AllSay P f → words_outcome f ts ≡ reads w r → P w
says_so P (complete v) [] r w h e = subst P (ap (words_of v) e) h
says_so P (wants c onward) [] r w h e = absurd (no_stop w r [] (sym e))
says_so P (satellites read onward) [] r w h e = absurd (no_stop w r [] (sym e))
says_so P (path read onward) [] r w h e = absurd (no_stop w r [] (sym e))
says_so P (rewritings v read) [] r w h e = absurd (no_stop w r [] (sym e))
says_so P (words v read) [] r w h e = absurd (no_stop w r [] (sym e))
says_so P (complete v) (t ∷ ts) r w h e = subst P (ap (words_of v) e) h
says_so P (wants c onward) (t ∷ ts) r w h e = says_behind P (wants c onward) t ts r w (spelling_after (wants c onward) t) h (λ g k i. says_so P g ts r w k i) refl e
says_so P (satellites read onward) (t ∷ ts) r w h e = says_behind P (satellites read onward) t ts r w (spelling_after (satellites read onward) t) h (λ g k i. says_so P g ts r w k i) refl e
says_so P (path read onward) (t ∷ ts) r w h e = says_behind P (path read onward) t ts r w (spelling_after (path read onward) t) h (λ g k i. says_so P g ts r w k i) refl e
says_so P (rewritings v read) (t ∷ ts) r w h e = says_behind P (rewritings v read) t ts r w (spelling_after (rewritings v read) t) h (λ g k i. says_so P g ts r w k i) refl e
says_so P (words v read) (t ∷ ts) r w h e = says_behind P (words v read) t ts r w (spelling_after (words v read) t) h (λ g k i. says_so P g ts r w k i) refl e

-- a name leads to words of its sort
named_sort : (n : FirstName) → AllSay (λ w. states_formula w.first ≡ names_formula n) (named n)
named_sort first.Assumption = λ t u. refl
named_sort first.Goal = λ t u. refl
named_sort first.Clausify = λ a b c d u. refl
named_sort first.Deny = λ a b c d u. refl
named_sort first.Copy = λ a b c ls. refl
named_sort first.BackRewrite = λ a b c ls. refl
named_sort first.BackUnitDel = λ a b c ls. refl
named_sort first.Resolve = λ a b c d e f g h i ls. refl
named_sort first.Hyper = λ a b c ss ls. refl
named_sort first.Ur = λ a b c ss ls. refl
named_sort first.Factor = λ a b c d e f g ls. refl
named_sort first.Para = λ a b c d e f g h i j k l ns m ls. refl
named_sort first.XxRes = λ a b c d e ls. refl

-- words behind content of a kind begin so
pub record Opened (kind : ContentKind) (ts r : List Lexeme) (w : Written) : Type 0 where
  pub square : Lexeme
  pub name : Lexeme
  pub rest : List Lexeme
  pub is : ts ≡ square ∷ (name ∷ rest)
  pub opens : is_of OpenSquare square ≡ true
  pub fits : is_of (FirstWord kind) name ≡ true
  pub reads_on : words_outcome (named (first_named name)) rest ≡ reads w r

opened_two : (kind : ContentKind) (t u : Lexeme) (us r : List Lexeme) (w : Written) (a b : Bool) → is_of OpenSquare t ≡ a → is_of (FirstWord kind) u ≡ b →
    words_outcome (line_words kind) (t ∷ (u ∷ us)) ≡ reads w r → Opened kind (t ∷ (u ∷ us)) r w
opened_two kind t u us r w true true i j e =
    record { square = t; name = u; rest = us; is = refl; opens = i; fits = j; reads_on = rw (i, j) at e }
opened_two kind t u us r w true false i j e = absurd (no_stop w r (u ∷ us) (sym (rw (i, j) at e)))
opened_two kind t u us r w false b i j e = absurd (no_stop w r (t ∷ (u ∷ us)) (sym (rw i at e)))

opened_one : (kind : ContentKind) (t : Lexeme) (r : List Lexeme) (w : Written) (a : Bool) → is_of OpenSquare t ≡ a → words_outcome (line_words kind) (t ∷ []) ≡ reads w r → ⊥
opened_one kind t r w true i e = no_stop w r [] (sym (rw i at e))
opened_one kind t r w false i e = no_stop w r (t ∷ []) (sym (rw i at e))

pub opened : (kind : ContentKind) (ts r : List Lexeme) (w : Written) → words_outcome (line_words kind) ts ≡ reads w r → Opened kind ts r w
opened kind [] r w e = absurd (no_stop w r [] (sym e))
opened kind (t ∷ []) r w e = absurd (opened_one kind t r w (is_of OpenSquare t) refl e)
opened kind (t ∷ u ∷ us) r w e = opened_two kind t u us r w (is_of OpenSquare t) (is_of (FirstWord kind) u) refl refl e

pub closed_up : (kind : ContentKind) (ts r : List Lexeme) (w : Written) → Opened kind ts r w → words_outcome (line_words kind) ts ≡ reads w r
closed_up kind ts r w o = ap (words_outcome (line_words kind)) o.is ∙ (rw (o.opens, o.fits) o.reads_on)

fits_any : (kind : ContentKind) (o : Option FirstName) → option_map_or (may_begin kind) o false ≡ true → option_map_or (may_begin Either) o false ≡ true
fits_any kind None h = absurd (false≢true h)
fits_any kind (Some n) h = refl

fits_kind : (kind : ContentKind) (o : Option FirstName) → option_map_or (may_begin Either) o false ≡ true → may_begin kind (unwrap_or o first.Assumption) ≡ true
    → option_map_or (may_begin kind) o false ≡ true
fits_kind kind None h k = absurd (false≢true h)
fits_kind kind (Some n) h k = k

begins_so : (kind : ContentKind) (n : FirstName) (w : Written) → states_formula w.first ≡ names_formula n → suits kind w.first ≡ true → may_begin kind n ≡ true
begins_so Formula n w e h = sym e ∙ h
begins_so Clause n w e h = ap not (sym e) ∙ h
begins_so Either n w e h = refl

-- words behind content of a kind are words behind any
pub wider : (kind : ContentKind) (ts r : List Lexeme) (w : Written) → words_outcome (line_words kind) ts ≡ reads w r → words_outcome (line_words Either) ts ≡ reads w r
wider kind ts r w e =
    let o = opened kind ts r w e in
    closed_up Either ts r w (record {
      square = o.square;
      name = o.name;
      rest = o.rest;
      is = o.is;
      opens = o.opens;
      fits = fits_any kind (first_name (word_text o.name)) o.fits;
      reads_on = o.reads_on;
    })

-- and the other way, where the first one suits
pub narrower : (kind : ContentKind) (ts r : List Lexeme) (w : Written) → suits kind w.first ≡ true → words_outcome (line_words Either) ts ≡ reads w r
    → words_outcome (line_words kind) ts ≡ reads w r
narrower kind ts r w h e =
    let o = opened Either ts r w e in
    let n = first_named o.name in
    let sort = says_so (λ v. states_formula v.first ≡ names_formula n) (named n) o.rest r w (named_sort n) o.reads_on in
    closed_up kind ts r w (record {
      square = o.square;
      name = o.name;
      rest = o.rest;
      is = o.is;
      opens = o.opens;
      fits = fits_kind kind (first_name (word_text o.name)) o.fits (begins_so kind n w sort h);
      reads_on = o.reads_on;
    })
