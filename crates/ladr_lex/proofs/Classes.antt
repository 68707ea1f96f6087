-- The classes of bytes lie apart, and a byte's class tells what begins with it.
use Rattle.std.proofs.Common.{◌≡◌, ℕ, Bool, true, false, List, [], ◌∷◌, refl, arith}
use Rattle.std.specs.Prelude.{not, ◌||◌, ◌==◌, if◌then◌else◌, codes}
use Rattle.std.specs.List.{list_any, list_all}
use Rattle.std.proofs.lemmas.Bool.Decides.{nat_tests}
use Rattle.ladr_lex.specs.Bytes.{is_blank, is_punctuation, is_ordinary, is_special, is_quote}
use Rattle.ladr_lex.specs.Cuts.{is_stray, is_special_run}
use Rattle.ladr_lex.specs.Starts.{start_of}
use Rattle.ladr_lex.specs.declared.bytes.TokenStart.TheVariants.{Blank, Word, Sign, Quote, Percent, Single}
use Rattle.ladr_lex.specs.declared.token.TokenKind.TheVariants.{Unreadable}

-- what holds of each byte of a list holds of a byte that is in it
of_each : (p : ℕ → Bool) (b : ℕ) (cs : List ℕ) → list_all p cs ≡ true → list_any (λ c. b == c) cs ≡ true → p b ≡ true
of_each p b [] all any = cc
of_each p b (c ∷ cs) all any = grind (arith, nat_tests, of_each p b cs)

pub special_apart : (b : ℕ) → is_special b ≡ true → not (is_blank b || is_ordinary b) ≡ true
unfolding is_special is_blank is_ordinary
special_apart b h = of_each (λ c. not (is_blank c || is_ordinary c)) b (codes "+-*/\\^<>=~?@&|!#;`") refl h

pub ordinary_apart : (b : ℕ) → is_ordinary b ≡ true → is_blank b ≡ false
unfolding is_blank is_ordinary
ordinary_apart b h = grind (arith, nat_tests)

-- what begins with a byte of a class
pub blank_start : (b : ℕ) → is_blank b ≡ true → start_of b ≡ Blank
unfolding start_of
blank_start b h = rw h refl

pub ordinary_start : (b : ℕ) → is_ordinary b ≡ true → start_of b ≡ Word
unfolding start_of
ordinary_start b h = rw (ordinary_apart b h, h) refl

pub special_start : (b : ℕ) → is_special b ≡ true → start_of b ≡ Sign
unfolding start_of
special_start b h = let e = special_apart b h in grind arith

pub stray_start : (b : ℕ) → is_stray b ≡ true → start_of b ≡ (if is_quote b then Quote else Single Unreadable)
unfolding start_of is_stray is_punctuation
stray_start b h = grind (arith, nat_tests)

pub quote_begins : start_of 34 ≡ Quote
unfolding start_of is_special is_ordinary is_blank
quote_begins = refl

pub percent_begins : start_of 37 ≡ Percent
unfolding start_of is_special is_ordinary is_blank
percent_begins = refl

pub special_first : (b : ℕ) (bs : List ℕ) → is_special_run (b ∷ bs) ≡ true → is_special b ≡ true
special_first b [] h = grind arith
special_first b (c ∷ cs) h = grind arith

-- the class of a byte with which something begins
pub start_blank : (b : ℕ) → start_of b ≡ Blank → is_blank b ≡ true
unfolding start_of
start_blank b h = grind arith

pub start_ordinary : (b : ℕ) → start_of b ≡ Word → is_ordinary b ≡ true
unfolding start_of
start_ordinary b h = grind arith

pub start_special : (b : ℕ) → start_of b ≡ Sign → is_special b ≡ true
unfolding start_of
start_special b h = grind arith

pub start_quote : (b : ℕ) → start_of b ≡ Quote → b ≡ 34
unfolding start_of
start_quote b h = grind (arith, nat_tests)

pub start_percent : (b : ℕ) → start_of b ≡ Percent → b ≡ 37
unfolding start_of
start_percent b h = grind (arith, nat_tests)
