-- Which tokens of a clause are read as names, whatever an operator made of them, because an answer
-- begins there: in `# answer ( n` the word and the number. A mark looks back alone.
use Rattle.std.specs.Prelude.{Bool, true, false, is_some, if◌then◌else◌, List, [], ◌∷◌, codes}
use Rattle.std.specs.List.{list_any}
use Rattle.std.specs.Str.{bytes_eq}
use Rattle.ladr_lex.specs.Lexeme.{Lexeme, open_paren, symbol, ordinary, quoted}
use Rattle.ladr_lex.specs.Numeral.{whole_number}
use Rattle.ladr_reader.specs.Marks.{marked}
use Rattle.proof_lines.specs.declared.marks.Spot.{Spot}
use Rattle.proof_lines.specs.declared.marks.Spot.TheVariants.{Elsewhere, BehindHash, BehindWord, BehindOpen}

abbrev pub is_hash : Lexeme → Bool
is_hash (symbol k s) = bytes_eq s (codes "#")
is_hash t = false

abbrev pub is_open : Lexeme → Bool
is_open open_paren = true
is_open t = false

-- the word of an answer; a name in quotes is marked too, so that as it is read none is the word
abbrev pub is_answer_word : Lexeme → Bool
is_answer_word (symbol ordinary s) = bytes_eq s (codes "answer")
is_answer_word (symbol quoted s) = true
is_answer_word t = false

-- the number of a goal's line; likewise in quotes
abbrev pub is_goal_number : Lexeme → Bool
is_goal_number (symbol ordinary s) = is_some (whole_number s)
is_goal_number (symbol quoted s) = true
is_goal_number t = false

-- whether a token that stands there is marked
abbrev pub is_name_at : Spot → Lexeme → Bool
is_name_at Elsewhere t = false
is_name_at BehindHash t = is_answer_word t
is_name_at BehindWord t = false
is_name_at BehindOpen t = is_goal_number t

-- where the token behind one stands that is no `#`
abbrev pub spot_after : Spot → Lexeme → Spot
spot_after Elsewhere t = Elsewhere
spot_after BehindHash t =
    if is_open t then BehindHash else (if is_answer_word t then BehindWord else Elsewhere)
spot_after BehindWord t = if is_open t then BehindOpen else Elsewhere
spot_after BehindOpen t = if is_open t then BehindOpen else Elsewhere

abbrev pub spot_behind : Spot → Lexeme → Spot
spot_behind spot t = if is_hash t then BehindHash else spot_after spot t

-- the marks of tokens of which the first stands there
abbrev pub marks_from : Spot → List Lexeme → List Bool
marks_from spot [] = []
marks_from spot (t ∷ ts) = is_name_at spot t ∷ marks_from (spot_behind spot t) ts

abbrev pub answer_marks : List Lexeme → List Bool
answer_marks ts = marks_from Elsewhere ts

-- whether an answer begins somewhere
abbrev pub begins_answer : List Lexeme → Bool
begins_answer ts = list_any (λ m. m) (answer_marks ts)

-- the tokens as they are read
abbrev pub noted_from : Spot → List Lexeme → List Lexeme
noted_from spot ts = marked (marks_from spot ts) ts

abbrev pub noted : List Lexeme → List Lexeme
noted ts = noted_from Elsewhere ts
