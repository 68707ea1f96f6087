-- Forms of items: which tokens may stand one behind the other, and what they say.
use Rattle.std.specs.Prelude.{◌≡◌, ℕ, ◌+◌, Bool, if◌then◌else◌, List, [], ◌∷◌, ◌++◌, Option, Some, None}
use Rattle.std.specs.Option.{option_map_or}
use Rattle.fol_core.specs.declared.symbols.Kind.{Kind}
use Rattle.ladr_lex.specs.Lexeme.{Lexeme}
use Rattle.ladr_lex.specs.Numeral.{limited_number_of}
use Rattle.ladr_commands.specs.ByName.{NamedTable, table, by_name}
use Rattle.ladr_commands.specs.Wanted.{fits, is_comma, symbol_text, kind_said}
use Rattle.ladr_commands.specs.declared.command.Command.{Command}
use Rattle.ladr_commands.specs.declared.command.Command.TheVariants.{Interpretation}
use Rattle.ladr_commands.specs.declared.wanted.Wanted.{Wanted}
use Rattle.ladr_commands.specs.declared.wanted.Wanted.TheVariants.{Open, Close, OpenSquare, Comma, Stop, Symbol, Numeral, CommaOrCloseSquare, Equality, Place, CommaOrOpen, CommaOrClose, KindWord}

-- Nothing more, and the command that was read; a token of a class, and then what it decides; and
-- what may stand there any number of times, once at least and with commas between, and then what it
-- says: further symbols of a list up to `]`, behind those with these texts; further numbers up to
-- `]`, behind these; further `_` up to `)`, behind so many; `name = number` up to `]`; entries of
-- an interpretation of a size, behind these.
pub data Form : Type 0 where
  ends : Command → Form
  token : Wanted → (Lexeme → Form) → Form
  members : Wanted → List (List ℕ) → (List (List ℕ) → Form) → Form
  values : List ℕ → (List ℕ → Form) → Form
  places : ℕ → (ℕ → Form) → Form
  comments : Form → Form
  entries : ℕ → List NamedTable → Form

-- `.`, `).`, and a form behind `(`
abbrev pub stopped : Command → Form
stopped c = token Stop (λ _. ends c)

abbrev pub closed : Command → Form
closed c = token Close (λ _. stopped c)

abbrev pub opened : Form → Form
opened f = token Open (λ _. f)

abbrev pub number_said : Lexeme → ℕ
number_said t = limited_number_of (symbol_text t)

-- behind a member: a comma and one more, or `]`
abbrev pub behind_member : Wanted → List (List ℕ) → (List (List ℕ) → Form) → Lexeme → Form
behind_member w read onward mark = if is_comma mark then members w read onward else onward read

-- `[t, .., t]`, with one member or more
abbrev pub list : Wanted → (List (List ℕ) → Form) → Form
list w onward = token OpenSquare (λ _. members w [] onward)

-- behind a value: a comma and one more, or `]`
abbrev pub behind_number : List ℕ → (List ℕ → Form) → Lexeme → Form
behind_number read onward mark = if is_comma mark then values read onward else onward read

-- behind a place: a comma and one more, or `)`
abbrev pub behind_place : ℕ → (ℕ → Form) → Lexeme → Form
behind_place n onward mark = if is_comma mark then places n onward else onward n

-- `= number` behind a name, and then a comma and one more, or `]`
abbrev pub behind_comment : Form → Lexeme → Form
behind_comment f mark = if is_comma mark then comments f else f

abbrev pub comment : Form → Form
comment f = token Equality (λ _. token Numeral (λ _. token CommaOrCloseSquare (behind_comment f)))

-- behind an entry: a comma and one more, or `]).`
abbrev pub behind_entry : ℕ → List NamedTable → Lexeme → Form
behind_entry n es mark =
    if is_comma mark then entries n es else closed (Interpretation (by_name n es))

-- `[v, .., v])` of an entry, and what stands behind it
abbrev pub entry_values : ℕ → List NamedTable → Kind → List ℕ → ℕ → Form
entry_values n es kind name arity =
    token OpenSquare
    (λ _. values []
    (λ vs. token Close
    (λ _. token CommaOrCloseSquare (behind_entry n (es ++ table kind name arity vs ∷ [])))))

-- behind the name of an entry: its values, or places for arguments before them
abbrev pub behind_entry_name : ℕ → List NamedTable → Kind → List ℕ → Lexeme → Form
behind_entry_name n es kind name mark =
    if is_comma mark then entry_values n es kind name 0
    else places 0 (λ arity. token Comma (λ _. entry_values n es kind name arity))

-- `(head, [v, .., v])`, a head being a name, or a name and `(_, .., _)`
abbrev pub entry : ℕ → List NamedTable → Kind → Form
entry n es kind =
    opened (token Symbol
    (λ name. token CommaOrOpen (behind_entry_name n es kind (symbol_text name))))

-- what may stand behind a token, if it may stand here
abbrev pub form_after : Form → Lexeme → Option Form
form_after (ends c) t = None
form_after (token w onward) t = if fits w t then Some (onward t) else None
form_after (members w read onward) t =
    if fits w t
    then Some (token CommaOrCloseSquare (behind_member w (read ++ symbol_text t ∷ []) onward))
    else None
form_after (values read onward) t =
    if fits Numeral t
    then Some (token CommaOrCloseSquare (behind_number (read ++ number_said t ∷ []) onward))
    else None
form_after (places n onward) t =
    if fits Place t then Some (token CommaOrClose (behind_place (n + 1) onward)) else None
form_after (comments f) t = if fits Symbol t then Some (comment f) else None
form_after (entries n es) t = if fits KindWord t then Some (entry n es (kind_said t)) else None

-- the tokens are a command, or they are left from the first one on that can't stand there, the end
-- being the last
pub data FormOutcome : Type 0 where
  reads : Command → FormOutcome
  stops : List Lexeme → FormOutcome

abbrev pub form_at_end : Form → FormOutcome
form_at_end (ends c) = reads c
form_at_end (token w onward) = stops []
form_at_end (members w read onward) = stops []
form_at_end (values read onward) = stops []
form_at_end (places n onward) = stops []
form_at_end (comments f) = stops []
form_at_end (entries n es) = stops []

abbrev pub form_outcome : Form → List Lexeme → FormOutcome
form_outcome f [] = form_at_end f
form_outcome f (t ∷ ts) = option_map_or (λ g. form_outcome g ts) (form_after f t) (stops (t ∷ ts))

-- the tokens are this command
abbrev pub SaysCommand : Form → List Lexeme → Command → Type 0
SaysCommand f ts c = form_outcome f ts ≡ reads c

-- behind the text of a member of a list of symbols
abbrev pub behind_text : List (List ℕ) → Lexeme → (List (List ℕ) → Form) → Form
behind_text read t onward =
    token CommaOrCloseSquare (behind_member Symbol (read ++ symbol_text t ∷ []) onward)

-- a member of a list of symbols is passed, and behind it `]` if it is the last one, else a comma
abbrev pub IsMember : List Lexeme → List ℕ → Bool → List Lexeme → Type 0
IsMember ts name last rest =
    (read : List (List ℕ)) (onward : List (List ℕ) → Form)
    → form_outcome (members Symbol read onward) ts
    ≡ form_outcome
    (if last then onward (read ++ name ∷ []) else members Symbol (read ++ name ∷ []) onward) rest

-- a value, and behind it `]` if it is the last one, else a comma
abbrev pub IsValue : List Lexeme → ℕ → Bool → List Lexeme → Type 0
IsValue ts v last rest =
    (read : List ℕ) (onward : List ℕ → Form)
    → form_outcome (values read onward) ts
    ≡ form_outcome (if last then onward (read ++ v ∷ []) else values (read ++ v ∷ []) onward) rest

-- a place for an argument, and behind it `)` if it is the last one, else a comma
abbrev pub IsPlaceholder : List Lexeme → Bool → List Lexeme → Type 0
IsPlaceholder ts last rest =
    (n : ℕ) (onward : ℕ → Form) →
    form_outcome (places n onward) ts
    ≡ form_outcome (if last then onward (n + 1) else places (n + 1) onward) rest

-- an entry behind its kind's word, and behind it a comma, if more follow
abbrev pub IsEntry : List Lexeme → Kind → NamedTable → Bool → List Lexeme → Type 0
IsEntry ts kind t last rest =
    (n : ℕ) (es : List NamedTable) →
    form_outcome (entry n es kind) ts
    ≡ form_outcome
    (if last then closed (Interpretation (by_name n (es ++ t ∷ []))) else entries n (es ++ t ∷ []))
    rest
