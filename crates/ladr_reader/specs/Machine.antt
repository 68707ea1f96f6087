-- One pass over the tokens, with a stack of what waits for more of them.
use Rattle.std.specs.Prelude.{ℕ, Bool, true, false, ◌&&◌, List, [], ◌∷◌, Option, Some, None, if◌then◌else◌}
use Rattle.fol_core.specs.RawTree.{RawTree, named, no_raws}
use Rattle.fol_core.specs.declared.raw.Quantifier.{Quantifier}
use Rattle.ladr_lex.specs.Lexeme.{Sort, Lexeme, open_paren, close_paren, comma, full_stop, symbol}
use Rattle.ladr_lex.specs.Operators.{if_prefix, if_after}
use Rattle.ladr_lex.specs.declared.operators.Operator.{Operator}
use Rattle.ladr_reader.specs.Capped.{with_last_argument, quantification, whole_of, single, disjuncts_within, finished}
use Rattle.ladr_reader.specs.Table.{OperatorTable, left, right, takes, grows, ends}
use Rattle.ladr_reader.specs.declared.roles.Follow.{Follow}
use Rattle.ladr_reader.specs.declared.roles.Follow.TheVariants.{Applies, Closes, Separates, Stops, Operates, FollowsNot}
use Rattle.ladr_reader.specs.declared.roles.TermStart.{TermStart}
use Rattle.ladr_reader.specs.declared.roles.TermStart.TheVariants.{Opens, Quantifies, Precedes, Names, StartsNot}
use Rattle.ladr_reader.specs.declared.sides.Side.{Side}
use Rattle.ladr_reader.specs.declared.sides.Side.TheVariants.{Nothing, Below, UpTo}
use Rattle.ladr_reader.specs.declared.stack.Frame.{Frame}
use Rattle.ladr_reader.specs.declared.stack.Frame.TheVariants.{Group, Applied, Waiting}
use Rattle.ladr_reader.specs.declared.stack.Part.{Part}
use Rattle.ladr_reader.specs.declared.stack.Part.TheVariants.{Prefix, Infix, Quantified}

-- where the machine stands: before an operand, behind a symbol that may get arguments, behind a
-- quantifier's word, behind a term of this precedence, or behind the full stop of an item, which is
-- this term of this precedence
pub data Standing : Type 0 where
  Operand : Standing
  Named : List ℕ → Standing
  Word : Quantifier → Standing
  Term : Option (List RawTree) → ℕ → Standing
  Done : Option (List RawTree) → ℕ → Standing

-- where the machine stands, and what waits, the innermost first
pub record State : Type 0 where
  pub place : Standing
  pub stack : List Frame

abbrev pub standing : Option Standing → List Frame → Option State
standing None fs = None
standing (Some place) fs = Some (record { place = place; stack = fs })

-- what a token is before an operand
abbrev pub start_of_symbol : Option Quantifier → Option Operator → List ℕ → TermStart
start_of_symbol (Some w) o s = Quantifies w
start_of_symbol None None s = Names s
start_of_symbol None (Some o) s = Precedes s o

abbrev pub start_of : OperatorTable → Lexeme → TermStart
start_of g open_paren = Opens
start_of g (symbol k s) = start_of_symbol (g.word s) (if_prefix (g.op s)) s
start_of g _ = StartsNot

-- what a token is behind a term
abbrev pub follow_of_symbol : Option Operator → List ℕ → Follow
follow_of_symbol None s = FollowsNot
follow_of_symbol (Some o) s = Operates s o

abbrev pub follow_of : OperatorTable → Lexeme → Follow
follow_of g open_paren = Applies
follow_of g close_paren = Closes
follow_of g comma = Separates
follow_of g full_stop = Stops
follow_of g (symbol k s) = follow_of_symbol (if_after (g.op s)) s
follow_of g _ = FollowsNot

-- the variable that a token is behind a quantifier's word
abbrev pub variable_of : (Sort → List ℕ → Bool) → Lexeme → Option (List ℕ)
variable_of may_be (symbol k s) = if may_be k s then Some s else None
variable_of may_be _ = None

-- whether a term of precedence q may stand on top of what waits
abbrev pub may_stand_on : List Frame → ℕ → Bool → Bool
may_stand_on [] q growing = true
may_stand_on (Group ∷ fs) q growing = true
may_stand_on (Applied s us ∷ fs) q growing = true
may_stand_on (Waiting part side p ∷ fs) q growing = ends side p q growing

-- whether a token ends the last argument of what waits to be a term of precedence p
abbrev pub closes : Follow → ℕ → Bool
closes Applies p = false
closes Closes p = true
closes Separates p = true
closes Stops p = true
closes (Operates s o) p = takes (left o.kind) o.precedence p
closes FollowsNot p = false

-- whether it ends the last argument of what is innermost
abbrev pub last_is_closed : Follow → List Frame → Bool
last_is_closed f [] = false
last_is_closed f (Group ∷ fs) = false
last_is_closed f (Applied s us ∷ fs) = false
last_is_closed f (Waiting part side p ∷ fs) = closes f p

-- Terms stand here as the machine builds them: by their disjuncts, or nothing where one has more
-- than n levels.

-- the term that a part becomes with its last argument
abbrev pub whole : ℕ → Part → Option (List RawTree) → Option (List RawTree)
whole n (Prefix s) t = finished n s (Some []) t
whole n (Infix s u) t = finished n s (with_last_argument (Some []) u) t
whole n (Quantified q x) t = single (quantification n q x (whole_of n t))

-- before an operand
abbrev pub begin : TermStart → List Frame → Option State
begin Opens fs = standing (Some Operand) (Group ∷ fs)
begin (Quantifies w) fs = if may_stand_on fs 750 false then standing (Some (Word w)) fs else None
begin (Precedes s o) fs =
    if may_stand_on fs o.precedence false
    then standing (Some Operand) (Waiting (Prefix s) (right o.kind) o.precedence ∷ fs)
    else None
begin (Names s) fs = standing (Some (Named s)) fs
begin StartsNot fs = None

-- behind a quantifier's word
abbrev pub bind : Quantifier → Option (List ℕ) → List Frame → Option State
bind w None fs = None
bind w (Some x) fs = standing (Some Operand) (Waiting (Quantified w x) UpTo 750 ∷ fs)

-- behind a term and an operator with this right side
abbrev pub behind_operator : ℕ → Side → List ℕ → Operator → Option (List RawTree) → List Frame →
    Option State
behind_operator n Nothing s o t fs =
    standing (Some (Term (finished n s (Some []) t) o.precedence)) fs
behind_operator n Below s o t fs =
    standing (Some Operand) (Waiting (Infix s (whole_of n t)) Below o.precedence ∷ fs)
behind_operator n UpTo s o t fs =
    standing (Some Operand) (Waiting (Infix s (whole_of n t)) UpTo o.precedence ∷ fs)

-- behind a term and a closing parenthesis
abbrev pub behind_close : ℕ → Option (List RawTree) → List Frame → Option State
behind_close n t [] = None
behind_close n t (Group ∷ fs) = standing (Some (Term t 0)) fs
behind_close n t (Applied s us ∷ fs) = standing (Some (Term (finished n s us t) 0)) fs
behind_close n t (Waiting part side p ∷ fs) = None

-- behind a term and a comma
abbrev pub behind_comma : ℕ → Option (List RawTree) → List Frame → Option State
behind_comma n t [] = None
behind_comma n t (Group ∷ fs) = None
behind_comma n t (Applied s us ∷ fs) =
    standing (Some Operand) (Applied s (with_last_argument us (whole_of n t)) ∷ fs)
behind_comma n t (Waiting part side p ∷ fs) = None

-- behind a term and a full stop
abbrev pub behind_stop : Option (List RawTree) → ℕ → List Frame → Option State
behind_stop t q [] = standing (Some (Done t q)) []
behind_stop t q (f ∷ fs) = None

-- what a token does behind a term of precedence q, once it has ended what it may
abbrev pub act : ℕ → Follow → Option (List RawTree) → ℕ → List Frame → Option State
act n Applies t q fs = None
act n Closes t q fs = behind_close n t fs
act n Separates t q fs = behind_comma n t fs
act n Stops t q fs = behind_stop t q fs
act n (Operates s o) t q fs =
    if takes (left o.kind) o.precedence q && may_stand_on fs o.precedence (grows o.kind)
    then behind_operator n (right o.kind) s o t fs
    else None
act n FollowsNot t q fs = None

-- behind a term of precedence q: the token ends what waits as far as it may, and acts then
abbrev pub behind_term : ℕ → Follow → Option (List RawTree) → ℕ → List Frame → Option State
behind_term n f t q [] = act n f t q []
behind_term n f t q (Group ∷ fs) = act n f t q (Group ∷ fs)
behind_term n f t q (Applied s us ∷ fs) = act n f t q (Applied s us ∷ fs)
behind_term n f t q (Waiting part side p ∷ fs) =
    if closes f p then behind_term n f (whole n part t) p fs
    else act n f t q (Waiting part side p ∷ fs)

-- behind a symbol: its arguments begin, or it is an atom
abbrev pub behind_symbol_name : ℕ → Follow → List ℕ → List Frame → Option State
behind_symbol_name n Applies s fs = standing (Some Operand) (Applied s (Some []) ∷ fs)
behind_symbol_name n f s fs = behind_term n f (disjuncts_within n (named s no_raws)) 0 fs

-- one token more
abbrev pub step : ℕ → OperatorTable → Standing → List Frame → Lexeme → Option State
step n g Operand fs x = begin (start_of g x) fs
step n g (Named s) fs x = behind_symbol_name n (follow_of g x) s fs
step n g (Word w) fs x = bind w (variable_of g.variable x) fs
step n g (Term t q) fs x = behind_term n (follow_of g x) t q fs
step n g (Done t q) fs x = None

abbrev pub next : ℕ → OperatorTable → Option State → Lexeme → Option State
next n g None x = None
next n g (Some s) x = step n g s.place s.stack x

-- all these tokens more; nothing where no term begins so
abbrev pub go : ℕ → OperatorTable → Option State → List Lexeme → Option State
go n g s [] = s
go n g s (x ∷ xs) = go n g (next n g s x) xs
