-- The tokens that a line's words are printed as, and their text.
use Rattle.std.specs.Prelude.{ℕ, zero, suc, ◌+◌, ◌/◌, ◌%◌, Bool, true, false, List, [], ◌∷◌, ◌++◌, codes}
use Prim.Native.String.{String}
use Rattle.std.specs.Fmt.{decimal}
use Rattle.derivation.specs.Later.{LaterWord, flipped, merged, reflexive, unit_deleted, rewritten}
use Rattle.derivation.specs.declared.words.Satellite.{Satellite}
use Rattle.ladr_lex.specs.Lexeme.{Lexeme, ordinary, open_paren, close_paren, open_square, close_square, comma, full_stop, symbol, unreadable}
use Rattle.proof_words.specs.Written.{Written, WrittenFirst, as_assumption, as_goal, by_clausify, by_deny, by_copy, by_back_rewrite, by_back_unit_del, by_resolve, by_hyper, by_ur, by_factor, by_para, by_xx_res, by_instantiate}

-- a number's letters, as digits of 26 that count from 1, in so many steps at most
abbrev pub letters_within : ℕ → ℕ → List ℕ
letters_within zero n = []
letters_within (suc steps) zero = []
letters_within (suc steps) (suc a) = letters_within steps (a / 26) ++ (97 + a % 26) ∷ []

-- the name of the literal at a place: `a` to `z`, then `aa`, `ab`, ..
abbrev pub literal_name : ℕ → List ℕ
literal_name a = letters_within (suc a) (suc a)

abbrev pub word_token : String → Lexeme
word_token name = symbol ordinary (codes name)

abbrev pub number_token : ℕ → Lexeme
number_token n = symbol ordinary (decimal n)

abbrev pub literal_token : ℕ → Lexeme
literal_token a = symbol ordinary (literal_name a)

-- `(..)`, and a word in front of it
abbrev pub in_parens : List Lexeme → List Lexeme
in_parens ts = open_paren ∷ (ts ++ close_paren ∷ [])

abbrev pub word_with : String → List Lexeme → List Lexeme
word_with name ts = word_token name ∷ in_parens ts

-- `,n` for each number, and `,a,m,b` for each satellite
abbrev pub further_numbers : List ℕ → List Lexeme
further_numbers [] = []
further_numbers (n ∷ ns) = comma ∷ number_token n ∷ further_numbers ns

abbrev pub further_satellites : List Satellite → List Lexeme
further_satellites [] = []
further_satellites (s ∷ ss) =
    comma ∷ literal_token s.place ∷ comma ∷ number_token s.clause ∷ comma ∷ literal_token s.literal
    ∷ further_satellites ss

-- `n(a,path)`
abbrev pub subterm_tokens : ℕ → ℕ → List ℕ → List Lexeme
subterm_tokens n a path = number_token n ∷ in_parens (literal_token a ∷ further_numbers path)

-- the first word; its terms have no text yet, so that `instantiate` is no word that can be said
abbrev pub first_tokens : WrittenFirst → List Lexeme
first_tokens as_assumption = word_token "assumption" ∷ []
first_tokens as_goal = word_token "goal" ∷ []
first_tokens (by_clausify n) = word_with "clausify" (number_token n ∷ [])
first_tokens (by_deny n) = word_with "deny" (number_token n ∷ [])
first_tokens (by_copy n) = word_with "copy" (number_token n ∷ [])
first_tokens (by_back_rewrite n) = word_with "back_rewrite" (number_token n ∷ [])
first_tokens (by_back_unit_del n) = word_with "back_unit_del" (number_token n ∷ [])
first_tokens (by_resolve n s) = word_with "resolve" (number_token n ∷ further_satellites (s ∷ []))
first_tokens (by_hyper n ss) = word_with "hyper" (number_token n ∷ further_satellites ss)
first_tokens (by_ur n ss) = word_with "ur" (number_token n ∷ further_satellites ss)
first_tokens (by_factor n a b) =
    word_with "factor" (number_token n ∷ comma ∷ literal_token a ∷ comma ∷ literal_token b ∷ [])
first_tokens (by_para n a side m b path) =
    word_with "para"
    (number_token n
    ∷ (in_parens (literal_token a ∷ comma ∷ number_token side ∷ [])
    ++ (comma ∷ subterm_tokens m b path)))
first_tokens (by_xx_res n a) = word_with "xx_res" (number_token n ∷ comma ∷ literal_token a ∷ [])
first_tokens (by_instantiate n es) = word_with "instantiate" (number_token n ∷ [])

abbrev pub is_rewriting : LaterWord → Bool
is_rewriting (rewritten n a path) = true
is_rewriting w = false

-- a word behind the first; of a rewriting its entry between `rewrite([` and `])`
abbrev pub later_tokens : LaterWord → List Lexeme
later_tokens (rewritten n a path) = subterm_tokens n a path
later_tokens (flipped a) = word_with "flip" (literal_token a ∷ [])
later_tokens (merged a) = word_with "merge" (literal_token a ∷ [])
later_tokens (reflexive a) = word_with "xx" (literal_token a ∷ [])
later_tokens (unit_deleted a n) =
    word_with "unit_del" (literal_token a ∷ comma ∷ number_token n ∷ [])

-- What stands in front of a word, and behind the last one, by whether the one before is a
-- rewriting, and whether the next is: rewritings side by side share one `rewrite([..])`.
abbrev pub between_words : Bool → Bool → List Lexeme
between_words false false = comma ∷ []
between_words false true = comma ∷ word_token "rewrite" ∷ open_paren ∷ open_square ∷ []
between_words true false = close_square ∷ close_paren ∷ comma ∷ []
between_words true true = comma ∷ []

abbrev pub behind_words : Bool → List Lexeme
behind_words false = close_square ∷ full_stop ∷ []
behind_words true = close_square ∷ close_paren ∷ close_square ∷ full_stop ∷ []

-- the words behind one that is a rewriting or not, with `].`
abbrev pub further_tokens : Bool → List LaterWord → List Lexeme
further_tokens inside [] = behind_words inside
further_tokens inside (w ∷ ws) =
    between_words inside (is_rewriting w)
    ++ (later_tokens w ++ further_tokens (is_rewriting w) ws)

-- all words of a line
abbrev pub words_tokens : Written → List Lexeme
words_tokens w = open_square ∷ (first_tokens w.first ++ further_tokens false w.later)

abbrev pub token_text : Lexeme → List ℕ
token_text open_paren = codes "("
token_text close_paren = codes ")"
token_text open_square = codes "["
token_text close_square = codes "]"
token_text comma = codes ","
token_text full_stop = codes "."
token_text (symbol sort text) = text
token_text unreadable = []

-- tokens without anything between them
abbrev pub joint_text : List Lexeme → List ℕ
joint_text [] = []
joint_text (t ∷ ts) = token_text t ++ joint_text ts

-- the text of a line's words
abbrev pub words_text : Written → List ℕ
words_text w = joint_text (words_tokens w)
