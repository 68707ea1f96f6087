-- What decides which tokens may come, of where the reader stands and of what waits: no names and
-- no trees.
use Rattle.std.specs.Prelude.{ℕ, Bool, true, false, ◌&&◌, List, [], ◌∷◌, Option, Some, None, if◌then◌else◌}
use Rattle.std.specs.Option.{is_some}
use Rattle.ladr_lex.specs.Lexeme.{Lexeme}
use Rattle.ladr_reader.specs.Machine.{start_of, follow_of, variable_of}
use Rattle.ladr_reader.specs.Table.{OperatorTable, left, right, takes, grows, ends}
use Rattle.ladr_reader.specs.declared.recognizing.Place.{Place}
use Rattle.ladr_reader.specs.declared.recognizing.Place.TheVariants.{BeforeOperand, BehindName, BehindWord, BehindTerm, BehindItem}
use Rattle.ladr_reader.specs.declared.recognizing.Turn.{Turn}
use Rattle.ladr_reader.specs.declared.recognizing.Turn.TheVariants.{Opening, Closing, Separating, Stopping, Operating, Unfit}
use Rattle.ladr_reader.specs.declared.roles.Follow.{Follow}
use Rattle.ladr_reader.specs.declared.roles.Follow.TheVariants.{Applies, Closes, Separates, Stops, Operates, FollowsNot}
use Rattle.ladr_reader.specs.declared.roles.TermStart.{TermStart}
use Rattle.ladr_reader.specs.declared.roles.TermStart.TheVariants.{Opens, Quantifies, Precedes, Names, StartsNot}
use Rattle.ladr_reader.specs.declared.sides.Side.{Side}
use Rattle.ladr_reader.specs.declared.sides.Side.TheVariants.{Nothing, Below, UpTo}
use Rattle.ladr_reader.specs.declared.waits.Wait.{Wait}
use Rattle.ladr_reader.specs.declared.waits.Wait.TheVariants.{Parenthesis, Arguments, Last}

-- where the reader stands, and what waits, the innermost first
pub record Control : Type 0 where
  pub place : Place
  pub waits : List Wait

abbrev pub at : Option Place → List Wait → Option Control
at None ws = None
at (Some place) ws = Some (record { place = place; waits = ws })

abbrev pub innermost_of : List Wait → Option Wait
innermost_of [] = None
innermost_of (w ∷ ws) = Some w

-- a token behind a term without its name
abbrev pub turn_of : Follow → Turn
turn_of Applies = Opening
turn_of Closes = Closing
turn_of Separates = Separating
turn_of Stops = Stopping
turn_of (Operates s o) = Operating o
turn_of FollowsNot = Unfit

-- whether a term of precedence q may stand on top of what waits
abbrev pub waits_allow : List Wait → ℕ → Bool → Bool
waits_allow [] q growing = true
waits_allow (Parenthesis ∷ ws) q growing = true
waits_allow (Arguments ∷ ws) q growing = true
waits_allow (Last side p ∷ ws) q growing = ends side p q growing

-- whether a token ends the last argument of what waits to be a term of precedence p
abbrev pub ends_terms : Turn → ℕ → Bool
ends_terms Opening p = false
ends_terms Closing p = true
ends_terms Separating p = true
ends_terms Stopping p = true
ends_terms (Operating o) p = takes (left o.kind) o.precedence p
ends_terms Unfit p = false

-- before an operand
abbrev pub start : TermStart → List Wait → Option Control
start Opens ws = at (Some BeforeOperand) (Parenthesis ∷ ws)
start (Quantifies w) ws = if waits_allow ws 750 false then at (Some BehindWord) ws else None
start (Precedes s o) ws =
    if waits_allow ws o.precedence false
    then at (Some BeforeOperand) (Last (right o.kind) o.precedence ∷ ws)
    else None
start (Names s) ws = at (Some BehindName) ws
start StartsNot ws = None

-- behind a quantifier's word
abbrev pub bind_variable : Bool → List Wait → Option Control
bind_variable false ws = None
bind_variable true ws = at (Some BeforeOperand) (Last UpTo 750 ∷ ws)

-- behind a term and an operator of precedence p with this right side
abbrev pub turn_operator : Side → ℕ → List Wait → Option Control
turn_operator Nothing p ws = at (Some (BehindTerm p)) ws
turn_operator Below p ws = at (Some BeforeOperand) (Last Below p ∷ ws)
turn_operator UpTo p ws = at (Some BeforeOperand) (Last UpTo p ∷ ws)

-- behind a term and a closing parenthesis, a comma, a full stop
abbrev pub turn_close : List Wait → Option Control
turn_close [] = None
turn_close (Parenthesis ∷ ws) = at (Some (BehindTerm 0)) ws
turn_close (Arguments ∷ ws) = at (Some (BehindTerm 0)) ws
turn_close (Last side p ∷ ws) = None

abbrev pub turn_comma : List Wait → Option Control
turn_comma [] = None
turn_comma (Parenthesis ∷ ws) = None
turn_comma (Arguments ∷ ws) = at (Some BeforeOperand) (Arguments ∷ ws)
turn_comma (Last side p ∷ ws) = None

abbrev pub turn_stop : List Wait → Option Control
turn_stop [] = at (Some BehindItem) []
turn_stop (w ∷ ws) = None

-- what a token does behind a term of precedence q, once it has ended what it may
abbrev pub turn_act : Turn → ℕ → List Wait → Option Control
turn_act Opening q ws = None
turn_act Closing q ws = turn_close ws
turn_act Separating q ws = turn_comma ws
turn_act Stopping q ws = turn_stop ws
turn_act (Operating o) q ws =
    if takes (left o.kind) o.precedence q && waits_allow ws o.precedence (grows o.kind)
    then turn_operator (right o.kind) o.precedence ws
    else None
turn_act Unfit q ws = None

-- behind a term of precedence q: the token ends what waits as far as it may, and acts then
abbrev pub turn_behind : Turn → ℕ → List Wait → Option Control
turn_behind f q [] = turn_act f q []
turn_behind f q (Parenthesis ∷ ws) = turn_act f q (Parenthesis ∷ ws)
turn_behind f q (Arguments ∷ ws) = turn_act f q (Arguments ∷ ws)
turn_behind f q (Last side p ∷ ws) =
    if ends_terms f p then turn_behind f p ws else turn_act f q (Last side p ∷ ws)

-- behind a symbol: its arguments begin, or it is an atom
abbrev pub turn_behind_name : Turn → List Wait → Option Control
turn_behind_name Opening ws = at (Some BeforeOperand) (Arguments ∷ ws)
turn_behind_name f ws = turn_behind f 0 ws

-- one token more
abbrev pub control_step : OperatorTable → Place → List Wait → Lexeme → Option Control
control_step g BeforeOperand ws x = start (start_of g x) ws
control_step g BehindName ws x = turn_behind_name (turn_of (follow_of g x)) ws
control_step g BehindWord ws x = bind_variable (is_some (variable_of g.variable x)) ws
control_step g (BehindTerm q) ws x = turn_behind (turn_of (follow_of g x)) q ws
control_step g BehindItem ws x = None
