-- The tokens of words can be told apart in their text.
use Rattle.std.proofs.Common.{◌≡◌, ℕ, Bool, true, false, List, [], ◌∷◌, ◌++◌, inl, refl}
use Rattle.std.specs.Prelude.{codes}
use Rattle.std.specs.Fmt.{decimal}
use Rattle.derivation.specs.Later.{LaterWord, flipped, merged, reflexive, unit_deleted, rewritten}
use Rattle.derivation.specs.declared.words.Satellite.{Satellite}
use Rattle.ladr_lex.specs.Bytes.{is_ordinary}
use Rattle.ladr_lex.specs.Cuts.{is_run}
use Rattle.ladr_lex.specs.Lexeme.{Lexeme, ordinary, open_paren, close_paren, open_square, comma, symbol}
use Rattle.ladr_lex.proofs.Numerals.{ordinary_decimal}
use Rattle.ladr_print.proofs.Writes.{Writes}
use Rattle.proof_words.specs.Written.{Written, WrittenFirst, as_assumption, as_goal, by_clausify, by_deny, by_copy, by_back_rewrite, by_back_unit_del, by_resolve, by_hyper, by_ur, by_factor, by_para, by_xx_res, by_instantiate}
use Rattle.words_print.specs.Sayable.{IsShort, AreShort, AreShortSatellites, IsSayableFirst, IsSayableLater, AreSayable, IsSayable}
use Rattle.words_print.specs.WordTokens.{literal_name, number_token, literal_token, in_parens, further_numbers, further_satellites, subterm_tokens, first_tokens, is_rewriting, later_tokens, between_words, further_tokens, words_tokens, words_text}
use Rattle.proof_print.proofs.Joined.{Tidy, marked, tidy_append, tidy_written, word_tidy}
use Rattle.words_print.proofs.LetterNames.{literal_run}

number_tidy : (n : ℕ) (ts : List Lexeme) → IsShort n → marked ts ≡ true → Tidy ts → Tidy (number_token n ∷ ts)
number_tidy n ts h m d = word_tidy (decimal n) ts (ordinary_decimal n h) m d

place_tidy : (a : ℕ) (ts : List Lexeme) → marked ts ≡ true → Tidy ts → Tidy (literal_token a ∷ ts)
place_tidy a ts m d = word_tidy (literal_name a) ts (literal_run a) m d

parens_tidy : (ts : List Lexeme) → Tidy ts → Tidy (in_parens ts)
parens_tidy ts d = (inl refl, tidy_append ts (close_paren ∷ []) d (inl refl, tt) refl)

call_tidy : (s : List ℕ) (ts : List Lexeme) → is_run is_ordinary s ≡ true → Tidy ts → Tidy (symbol ordinary s ∷ in_parens ts)
call_tidy s ts r d = word_tidy s (in_parens ts) r refl (parens_tidy ts d)

numbers_marked : (ns : List ℕ) → marked (further_numbers ns) ≡ true
numbers_marked [] = refl
numbers_marked (n ∷ ns) = refl

numbers_tidy : (ns : List ℕ) → AreShort ns → Tidy (further_numbers ns)
numbers_tidy [] h = tt
numbers_tidy (n ∷ ns) h = (inl refl, number_tidy n (further_numbers ns) h.0 (numbers_marked ns) (numbers_tidy ns h.1))

satellites_marked : (ss : List Satellite) → marked (further_satellites ss) ≡ true
satellites_marked [] = refl
satellites_marked (s ∷ ss) = refl

satellites_tidy : (ss : List Satellite) → AreShortSatellites ss → Tidy (further_satellites ss)
satellites_tidy [] h = tt
satellites_tidy (s ∷ ss) h =
    let last = place_tidy s.literal (further_satellites ss) (satellites_marked ss) (satellites_tidy ss h.1) in
    let middle = number_tidy s.clause (comma ∷ literal_token s.literal ∷ further_satellites ss) h.0.1 refl (inl refl, last) in
    (inl refl, place_tidy s.place (comma ∷ number_token s.clause ∷ comma ∷ literal_token s.literal ∷ further_satellites ss) refl (inl refl, middle))

subterm_tidy : (n a : ℕ) (p : List ℕ) → IsShort n → AreShort p → Tidy (subterm_tokens n a p)
subterm_tidy n a p h k = number_tidy n (in_parens (literal_token a ∷ further_numbers p)) h refl (parens_tidy (literal_token a ∷ further_numbers p) (place_tidy a (further_numbers p) (numbers_marked p) (numbers_tidy p k)))

one_number_tidy : (n : ℕ) → IsShort n → Tidy (number_token n ∷ [])
one_number_tidy n h = number_tidy n [] h refl tt

one_place_tidy : (a : ℕ) → Tidy (literal_token a ∷ [])
one_place_tidy a = place_tidy a [] refl tt

clash_tidy : (n : ℕ) (ss : List Satellite) → IsShort n → AreShortSatellites ss → Tidy (number_token n ∷ further_satellites ss)
clash_tidy n ss h k = number_tidy n (further_satellites ss) h (satellites_marked ss) (satellites_tidy ss k)

para_tidy : (n a side m b : ℕ) (p : List ℕ) → IsShort n → IsShort side → IsShort m → AreShort p →
    Tidy (number_token n ∷ (in_parens (literal_token a ∷ comma ∷ number_token side ∷ []) ++ (comma ∷ subterm_tokens m b p)))
para_tidy n a side m b p h i j k =
    let into : Tidy (comma ∷ subterm_tokens m b p) = (inl refl, subterm_tidy m b p j k) in
    let from = parens_tidy (literal_token a ∷ comma ∷ number_token side ∷ []) (place_tidy a (comma ∷ number_token side ∷ []) refl (inl refl, one_number_tidy side i)) in
    number_tidy n (in_parens (literal_token a ∷ comma ∷ number_token side ∷ []) ++ (comma ∷ subterm_tokens m b p)) h refl
    (tidy_append (in_parens (literal_token a ∷ comma ∷ number_token side ∷ [])) (comma ∷ subterm_tokens m b p) from into refl)

first_tidy : (w : WrittenFirst) → IsSayableFirst w → Tidy (first_tokens w)
unfolding is_ordinary
first_tidy as_assumption h = word_tidy (codes "assumption") [] refl refl tt
first_tidy as_goal h = word_tidy (codes "goal") [] refl refl tt
first_tidy (by_clausify n) h = call_tidy (codes "clausify") (number_token n ∷ []) refl (one_number_tidy n h)
first_tidy (by_deny n) h = call_tidy (codes "deny") (number_token n ∷ []) refl (one_number_tidy n h)
first_tidy (by_copy n) h = call_tidy (codes "copy") (number_token n ∷ []) refl (one_number_tidy n h)
first_tidy (by_back_rewrite n) h = call_tidy (codes "back_rewrite") (number_token n ∷ []) refl (one_number_tidy n h)
first_tidy (by_back_unit_del n) h = call_tidy (codes "back_unit_del") (number_token n ∷ []) refl (one_number_tidy n h)
first_tidy (by_resolve n s) h = call_tidy (codes "resolve") (number_token n ∷ further_satellites (s ∷ [])) refl (clash_tidy n (s ∷ []) h.0 (h.1, tt))
first_tidy (by_hyper n ss) h = call_tidy (codes "hyper") (number_token n ∷ further_satellites ss) refl (clash_tidy n ss h.0 h.2)
first_tidy (by_ur n ss) h = call_tidy (codes "ur") (number_token n ∷ further_satellites ss) refl (clash_tidy n ss h.0 h.2)
first_tidy (by_factor n a b) h =
    call_tidy (codes "factor") (number_token n ∷ comma ∷ literal_token a ∷ comma ∷ literal_token b ∷ []) refl
    (number_tidy n (comma ∷ literal_token a ∷ comma ∷ literal_token b ∷ []) h.0 refl (inl refl, place_tidy a (comma ∷ literal_token b ∷ []) refl (inl refl, one_place_tidy b)))
first_tidy (by_para n a side m b p) h =
    call_tidy (codes "para") (number_token n ∷ (in_parens (literal_token a ∷ comma ∷ number_token side ∷ []) ++ (comma ∷ subterm_tokens m b p))) refl
    (para_tidy n a side m b p h.0 h.2 h.3 h.5.1)
first_tidy (by_xx_res n a) h =
    call_tidy (codes "xx_res") (number_token n ∷ comma ∷ literal_token a ∷ []) refl (number_tidy n (comma ∷ literal_token a ∷ []) h.0 refl (inl refl, one_place_tidy a))
first_tidy (by_instantiate n es) h = absurd h

later_tidy : (l : LaterWord) → IsSayableLater l → Tidy (later_tokens l)
unfolding is_ordinary
later_tidy (flipped a) h = call_tidy (codes "flip") (literal_token a ∷ []) refl (one_place_tidy a)
later_tidy (merged a) h = call_tidy (codes "merge") (literal_token a ∷ []) refl (one_place_tidy a)
later_tidy (reflexive a) h = call_tidy (codes "xx") (literal_token a ∷ []) refl (one_place_tidy a)
later_tidy (unit_deleted a n) h =
    call_tidy (codes "unit_del") (literal_token a ∷ comma ∷ number_token n ∷ []) refl (place_tidy a (comma ∷ number_token n ∷ []) refl (inl refl, one_number_tidy n h.1))
later_tidy (rewritten n a p) h = subterm_tidy n a p h.0 h.2.1

between_tidy : (inside next : Bool) (ts : List Lexeme) → Tidy ts → Tidy (between_words inside next ++ ts)
unfolding is_ordinary
between_tidy false false ts d = (inl refl, d)
between_tidy false true ts d = (inl refl, word_tidy (codes "rewrite") (open_paren ∷ open_square ∷ ts) refl refl (inl refl, (inl refl, d)))
between_tidy true false ts d = (inl refl, (inl refl, (inl refl, d)))
between_tidy true true ts d = (inl refl, d)

between_marked : (inside next : Bool) (ts : List Lexeme) → marked (between_words inside next ++ ts) ≡ true
between_marked false false ts = refl
between_marked false true ts = refl
between_marked true false ts = refl
between_marked true true ts = refl

further_marked : (inside : Bool) (ls : List LaterWord) → marked (further_tokens inside ls) ≡ true
further_marked false [] = refl
further_marked true [] = refl
further_marked inside (l ∷ ls) = between_marked inside (is_rewriting l) (later_tokens l ++ further_tokens (is_rewriting l) ls)

further_tidy : (inside : Bool) (ls : List LaterWord) → AreSayable ls → Tidy (further_tokens inside ls)
further_tidy false [] h = (inl refl, (inl refl, tt))
further_tidy true [] h = (inl refl, (inl refl, (inl refl, (inl refl, tt))))
further_tidy inside (l ∷ ls) h =
    between_tidy inside (is_rewriting l) (later_tokens l ++ further_tokens (is_rewriting l) ls)
    (tidy_append (later_tokens l) (further_tokens (is_rewriting l) ls) (later_tidy l h.0) (further_tidy (is_rewriting l) ls h.1) (further_marked (is_rewriting l) ls))

pub words_tidy : (w : Written) → IsSayable w → Tidy (words_tokens w)
words_tidy w h = (inl refl, tidy_append (first_tokens w.first) (further_tokens false w.later) (first_tidy w.first h.first) (further_tidy false w.later h.later) (further_marked false w.later))

pub words_written : (w : Written) → IsSayable w → Writes (words_text w) (words_tokens w)
words_written w h = tidy_written _ (first_tokens w.first ++ further_tokens false w.later) (words_tidy w h)
