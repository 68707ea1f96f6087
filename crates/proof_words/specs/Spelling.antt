-- How the words of a line are spelled: which tokens may stand one behind the other, and what they
-- say.
use Rattle.std.specs.Prelude.{◌≡◌, ℕ, Bool, true, false, if◌then◌else◌, List, [], ◌∷◌, ◌++◌, Option, Some, None}
use Rattle.std.specs.Option.{option_map_or}
use Rattle.derivation.specs.Later.{LaterWord, flipped, merged, reflexive, unit_deleted, rewritten}
use Rattle.derivation.specs.declared.words.Satellite.{Satellite}
use Rattle.ladr_commands.specs.Wanted.{is_comma}
use Rattle.ladr_lex.specs.Lexeme.{Lexeme}
use Rattle.proof_words.specs.Classes.{is_of, token_number, literal_place, first_named, later_named}
use Rattle.proof_words.specs.Written.{Written, WrittenFirst, written, satellite, as_assumption, as_goal, by_clausify, by_deny, by_copy, by_back_rewrite, by_back_unit_del, by_resolve, by_hyper, by_ur, by_factor, by_para, by_xx_res}
use Rattle.proof_words.specs.declared.class.TokenClass.{TokenClass}
use Rattle.proof_words.specs.declared.class.TokenClass.TheVariants.{Open, Close, OpenSquare, CloseSquare, Comma, Stop, Number, LiteralName, FirstWord, StepWord, CommaOrClose, CommaOrCloseSquare}
use Rattle.proof_words.specs.declared.names.ContentKind.{ContentKind}
use Rattle.proof_words.specs.declared.names.FirstName.{FirstName}
use Rattle.proof_words.specs.declared.names.FirstName.TheVariants as first
use Rattle.proof_words.specs.declared.names.LaterName.{LaterName}
use Rattle.proof_words.specs.declared.names.LaterName.TheVariants as later

-- The words are complete; a token of a class, and then what it decides; and what may stand there
-- any number of times, with commas between, and then what it says: further satellites up to `)`,
-- behind these; further numbers of a path up to `)`, behind these; further rewritings up to `])`,
-- and further words up to `].`, behind the first one and these.
pub data Spelling : Type 0 where
  complete : Written → Spelling
  wants : TokenClass → (Lexeme → Spelling) → Spelling
  satellites : List Satellite → (List Satellite → Spelling) → Spelling
  path : List ℕ → (List ℕ → Spelling) → Spelling
  rewritings : WrittenFirst → List LaterWord → Spelling
  words : WrittenFirst → List LaterWord → Spelling

-- a token that says nothing more; a number; the name of a literal
abbrev pub passed_then : TokenClass → Spelling → Spelling
passed_then c f = wants c (λ _. f)

abbrev pub number_then : (ℕ → Spelling) → Spelling
number_then onward = wants Number (λ t. onward (token_number t))

abbrev pub place_then : (ℕ → Spelling) → Spelling
place_then onward = wants LiteralName (λ t. onward (literal_place t))

-- `(n)` and `(a)`
abbrev pub one_number : (ℕ → Spelling) → Spelling
one_number onward = passed_then Open (number_then (λ n. passed_then Close (onward n)))

abbrev pub one_place : (ℕ → Spelling) → Spelling
one_place onward = passed_then Open (place_then (λ a. passed_then Close (onward a)))

-- `a,m,b`
abbrev pub satellite_then : (Satellite → Spelling) → Spelling
satellite_then onward =
    place_then
    (λ a. passed_then Comma
    (number_then (λ m. passed_then Comma (place_then (λ b. onward (satellite a m b))))))

-- `n(a,path)`
abbrev pub subterm_then : (ℕ → ℕ → List ℕ → Spelling) → Spelling
subterm_then onward =
    number_then
    (λ n. passed_then Open (place_then (λ a. passed_then Comma (path [] (λ p. onward n a p)))))

-- behind a part that may come again: a comma and one more, or what ends them
abbrev pub more_or : Spelling → Spelling → Lexeme → Spelling
more_or more ended mark = if is_comma mark then more else ended

abbrev pub behind_satellites : List Satellite → (List Satellite → Spelling) → Spelling
behind_satellites read onward = wants CommaOrClose (more_or (satellites read onward) (onward read))

abbrev pub behind_path : List ℕ → (List ℕ → Spelling) → Spelling
behind_path read onward = wants CommaOrClose (more_or (path read onward) (onward read))

abbrev pub behind_rewritings : WrittenFirst → List LaterWord → Spelling
behind_rewritings w read =
    wants CommaOrCloseSquare (more_or (rewritings w read) (passed_then Close (words w read)))

-- a word behind these
abbrev pub behind_step_name : WrittenFirst → List LaterWord → LaterName → Spelling
behind_step_name w read later.Rewrite =
    passed_then Open (passed_then OpenSquare (rewritings w read))
behind_step_name w read later.Flip = one_place (λ a. words w (read ++ flipped a ∷ []))
behind_step_name w read later.Merge = one_place (λ a. words w (read ++ merged a ∷ []))
behind_step_name w read later.Xx = one_place (λ a. words w (read ++ reflexive a ∷ []))
behind_step_name w read later.UnitDel =
    passed_then Open
    (place_then
    (λ a. passed_then Comma
    (number_then (λ n. passed_then Close (words w (read ++ unit_deleted a n ∷ []))))))

-- one more word behind these, or none
abbrev pub one_more : WrittenFirst → List LaterWord → Spelling
one_more w read = wants StepWord (λ t. behind_step_name w read (later_named t))

abbrev pub no_more : WrittenFirst → List LaterWord → Spelling
no_more w read = passed_then Stop (complete (written w read))

-- `].`, where no word may follow
abbrev pub alone : WrittenFirst → Spelling
alone w = passed_then CloseSquare (no_more w [])

-- `(n,a,m,b)` and `(n,a1,m1,b1,..)`
abbrev pub one_clash : (ℕ → Satellite → Spelling) → Spelling
one_clash onward =
    passed_then Open
    (number_then (λ n. passed_then Comma (satellite_then (λ s. passed_then Close (onward n s)))))

abbrev pub clash : (ℕ → List Satellite → Spelling) → Spelling
clash onward =
    passed_then Open (number_then (λ n. passed_then Comma (satellites [] (λ ss. onward n ss))))

-- `(n,a,b)` and `(n,a)`
abbrev pub two_places : (ℕ → ℕ → ℕ → Spelling) → Spelling
two_places onward =
    passed_then Open
    (number_then
    (λ n. passed_then Comma
    (place_then (λ a. passed_then Comma (place_then (λ b. passed_then Close (onward n a b)))))))

abbrev pub number_and_place : (ℕ → ℕ → Spelling) → Spelling
number_and_place onward =
    passed_then Open
    (number_then (λ n. passed_then Comma (place_then (λ a. passed_then Close (onward n a)))))

-- `n(a,s)`, and with `(` before it and `,m(b,path))` behind it
abbrev pub equation_then : (ℕ → ℕ → ℕ → Spelling) → Spelling
equation_then onward =
    number_then
    (λ n. passed_then Open
    (place_then (λ a. passed_then Comma (number_then (λ s. passed_then Close (onward n a s))))))

abbrev pub paramodulation : (ℕ → ℕ → ℕ → ℕ → ℕ → List ℕ → Spelling) → Spelling
paramodulation onward =
    passed_then Open
    (equation_then
    (λ n a s. passed_then Comma (subterm_then (λ m b p. passed_then Close (onward n a s m b p)))))

-- whether words may follow: not behind those of formulas and input clauses
abbrev pub takes_steps : WrittenFirst → Bool
takes_steps as_assumption = false
takes_steps as_goal = false
takes_steps (by_clausify n) = false
takes_steps (by_deny n) = false
takes_steps w = true

-- what stands behind the first word with its numbers
abbrev pub behind_first_word : WrittenFirst → Spelling
behind_first_word w = if takes_steps w then words w [] else alone w

-- what stands behind the name of the first word
abbrev pub named : FirstName → Spelling
named first.Assumption = behind_first_word as_assumption
named first.Goal = behind_first_word as_goal
named first.Clausify = one_number (λ n. behind_first_word (by_clausify n))
named first.Deny = one_number (λ n. behind_first_word (by_deny n))
named first.Copy = one_number (λ n. behind_first_word (by_copy n))
named first.BackRewrite = one_number (λ n. behind_first_word (by_back_rewrite n))
named first.BackUnitDel = one_number (λ n. behind_first_word (by_back_unit_del n))
named first.Resolve = one_clash (λ n s. behind_first_word (by_resolve n s))
named first.Hyper = clash (λ n ss. behind_first_word (by_hyper n ss))
named first.Ur = clash (λ n ss. behind_first_word (by_ur n ss))
named first.Factor = two_places (λ n a b. behind_first_word (by_factor n a b))
named first.Para = paramodulation (λ n a s m b p. behind_first_word (by_para n a s m b p))
named first.XxRes = number_and_place (λ n a. behind_first_word (by_xx_res n a))

-- the words behind content of a kind
abbrev pub behind_content : ContentKind → Spelling
behind_content kind = wants (FirstWord kind) (λ t. named (first_named t))

abbrev pub line_words : ContentKind → Spelling
line_words kind = passed_then OpenSquare (behind_content kind)

-- what may stand behind a token, if it may stand here
abbrev pub spelling_after : Spelling → Lexeme → Option Spelling
spelling_after (complete w) t = None
spelling_after (wants c onward) t = if is_of c t then Some (onward t) else None
spelling_after (satellites read onward) t =
    if is_of LiteralName t
    then Some
    (passed_then Comma
    (number_then
    (λ m. passed_then Comma
    (place_then
    (λ b. behind_satellites (read ++ satellite (literal_place t) m b ∷ []) onward)))))
    else None
spelling_after (path read onward) t =
    if is_of Number t then Some (behind_path (read ++ token_number t ∷ []) onward) else None
spelling_after (rewritings w read) t =
    if is_of Number t
    then Some
    (passed_then Open
    (place_then
    (λ a. passed_then Comma
    (path [] (λ p. behind_rewritings w (read ++ rewritten (token_number t) a p ∷ []))))))
    else None
spelling_after (words w read) t =
    if is_of CommaOrCloseSquare t then Some (more_or (one_more w read) (no_more w read) t) else None

-- the tokens begin with these words, and those behind them are left; or they are left from the
-- first one on that can't stand there, the end being the last
pub data WordsOutcome : Type 0 where
  reads : Written → List Lexeme → WordsOutcome
  stops : List Lexeme → WordsOutcome

abbrev pub spelling_at_end : Spelling → WordsOutcome
spelling_at_end (complete w) = reads w []
spelling_at_end (wants c onward) = stops []
spelling_at_end (satellites read onward) = stops []
spelling_at_end (path read onward) = stops []
spelling_at_end (rewritings w read) = stops []
spelling_at_end (words w read) = stops []

-- nothing is taken of what stands behind complete words
abbrev pub unless_complete : Spelling → List Lexeme → WordsOutcome → WordsOutcome
unless_complete (complete w) ts o = reads w ts
unless_complete (wants c onward) ts o = o
unless_complete (satellites read onward) ts o = o
unless_complete (path read onward) ts o = o
unless_complete (rewritings w read) ts o = o
unless_complete (words w read) ts o = o

abbrev pub words_outcome : Spelling → List Lexeme → WordsOutcome
words_outcome f [] = spelling_at_end f
words_outcome f (t ∷ ts) =
    unless_complete f (t ∷ ts)
    (option_map_or (λ g. words_outcome g ts) (spelling_after f t) (stops (t ∷ ts)))

-- the tokens are these words
abbrev pub SaysWords : Spelling → List Lexeme → Written → Type 0
SaysWords f ts w = words_outcome f ts ≡ reads w []
