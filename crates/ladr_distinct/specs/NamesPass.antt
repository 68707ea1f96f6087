-- One pass over the tokens of an item of names.
use Rattle.std.specs.Prelude.{ℕ, List, [], ◌∷◌, ◌++◌, Option, Some, None, if◌then◌else◌}
use Rattle.ladr_lex.specs.Lexeme.{Lexeme, open_square, close_square, comma, full_stop, symbol}
use Rattle.ladr_distinct.specs.Names.{may_be_listed}
use Rattle.ladr_reader.specs.Table.{OperatorTable}
use Rattle.ladr_distinct.specs.declared.bracketed.NamesPlace.{NamesPlace}
use Rattle.ladr_distinct.specs.declared.bracketed.NamesPlace.TheVariants.{AtStart, BehindOpening, BehindName, BehindComma, BehindClosing, BehindStop}
use Rattle.ladr_distinct.specs.declared.bracketed.NamesToken.{NamesToken}
use Rattle.ladr_distinct.specs.declared.bracketed.NamesToken.TheVariants.{Opens, Closes, Separates, Stops, Names, Unfit}

-- what a token is there
abbrev pub names_token : OperatorTable → Lexeme → NamesToken
names_token g open_square = Opens
names_token g close_square = Closes
names_token g comma = Separates
names_token g full_stop = Stops
names_token g (symbol k s) = if may_be_listed g s then Names else Unfit
names_token g _ = Unfit

-- where the reader stands behind it
abbrev pub place_behind : NamesPlace → NamesToken → Option NamesPlace
place_behind AtStart Opens = Some BehindOpening
place_behind BehindOpening Closes = Some BehindClosing
place_behind BehindOpening Names = Some BehindName
place_behind BehindName Separates = Some BehindComma
place_behind BehindName Closes = Some BehindClosing
place_behind BehindComma Names = Some BehindName
place_behind BehindClosing Stops = Some BehindStop
place_behind _ _ = None

abbrev pub names_next : OperatorTable → Option NamesPlace → Lexeme → Option NamesPlace
names_next g None x = None
names_next g (Some p) x = place_behind p (names_token g x)

-- behind all these tokens; nowhere where no item begins so
abbrev pub names_run : OperatorTable → Option NamesPlace → List Lexeme → Option NamesPlace
names_run g p [] = p
names_run g p (x ∷ xs) = names_run g (names_next g p x) xs

-- the name that a token is, and those of all of them
abbrev pub name_in : NamesToken → List ℕ → List (List ℕ)
name_in Names s = s ∷ []
name_in _ s = []

abbrev pub names_at : OperatorTable → Lexeme → List (List ℕ)
names_at g (symbol k s) = if may_be_listed g s then s ∷ [] else []
names_at g _ = []

abbrev pub names_in : OperatorTable → List Lexeme → List (List ℕ)
names_in g [] = []
names_in g (x ∷ xs) = names_at g x ++ names_in g xs
