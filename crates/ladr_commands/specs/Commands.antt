-- The commands that stand outside lists, and which tokens they are.
use Rattle.std.specs.Prelude.{Bool, ℕ, true, false, if◌then◌else◌, unwrap_or, List, [], ◌∷◌, codes}
use Rattle.std.specs.Str.{bytes_eq}
use Rattle.ladr_lex.specs.Lexeme.{Lexeme}
use Rattle.ladr_lex.specs.Numeral.{whole_number}
use Rattle.ladr_commands.specs.ByName.{by_name}
use Rattle.ladr_commands.specs.Form.{Form, token, members, list, stopped, closed, opened, number_said, comment, entry}
use Rattle.ladr_commands.specs.Wanted.{symbol_text, word_of, is_number, is_close, is_open_square, is_close_square, is_interpretation, kind_said}
use Rattle.ladr_commands.specs.declared.command.Command.{Command}
use Rattle.ladr_commands.specs.declared.command.Value.{Value}
use Rattle.ladr_commands.specs.declared.command.Value.TheVariants as value
use Rattle.ladr_commands.specs.declared.wanted.Wanted.TheVariants.{OpenSquare, Comma, Symbol, Numeral, CommandWord, SymbolOrOpenSquare, NumeralOrClose, TesterWord, InterpretationWord, SymbolOrCloseSquare, KindWordOrCloseSquare}
use Rattle.ladr_commands.specs.declared.word.Word.{Word}
use Rattle.ladr_commands.specs.declared.word.Word.TheVariants as word
use Rattle.ladr_commands.specs.declared.command.Command.TheVariants as command

-- the number of a numeral, where one above 18,446,744,073,709,551,615 counts as this
abbrev pub whole_in : Lexeme → ℕ
whole_in t = unwrap_or (whole_number (symbol_text t)) 18446744073709551615

-- `name).`
abbrev pub name_form : (List ℕ → Command) → Form
name_form command = token Symbol (λ name. closed (command (symbol_text name)))

-- `-` that is a value of its own, where `)` follows, or stands before a number
abbrev pub behind_dash : List ℕ → Lexeme → Form
behind_dash name t =
    if is_close t then stopped (command.Assign name (value.Symbol (codes "-")))
    else closed (command.Assign name (value.Number true (whole_in t)))

abbrev pub value_named : Lexeme → Value
value_named t =
    if is_number t then value.Number false (whole_in t) else value.Symbol (symbol_text t)

abbrev pub behind_value : List ℕ → Lexeme → Form
behind_value name t =
    if bytes_eq (symbol_text t) (codes "-") then token NumeralOrClose (behind_dash name)
    else closed (command.Assign name (value_named t))

-- `name, value).`, a value being a symbol, or a number with or without `-` before it
abbrev pub assign_form : Form
assign_form =
    token Symbol (λ name. token Comma (λ _. token Symbol (behind_value (symbol_text name))))

-- one symbol, or a list of them
abbrev pub behind_type : ℕ → List ℕ → Lexeme → Form
behind_type p type t =
    if is_open_square t then members Symbol [] (λ names. closed (command.Op p type names))
    else closed (command.Op p type (symbol_text t ∷ []))

-- `number, type, symbols).`
abbrev pub declaration : Form
declaration =
    token Numeral
    (λ p. token Comma
    (λ _. token Symbol
    (λ type. token Comma
    (λ _. token SymbolOrOpenSquare (behind_type (number_said p) (symbol_text type))))))

-- `[name, .., name]).`
abbrev pub names_form : (List (List ℕ) → Command) → Form
names_form command = list Symbol (λ names. closed (command names))

-- behind a word: `(` and what it asks; `end_if` has no arguments
abbrev pub behind_word : Word → Form
behind_word word.Set = opened (name_form (command.Flag true))
behind_word word.Clear = opened (name_form (command.Flag false))
behind_word word.Assign = opened assign_form
behind_word word.Op = opened declaration
behind_word word.FunctionOrder = opened (names_form command.FunctionOrder)
behind_word word.PredicateOrder = opened (names_form command.PredicateOrder)
behind_word word.Formulas = opened (name_form command.Formulas)
behind_word word.List = opened (name_form command.List)
behind_word word.If = opened (name_form command.If)
behind_word word.EndIf = stopped command.EndIf

-- `name = number, .., name = number]`, or `]` alone
abbrev pub comments_or : Form → Lexeme → Form
comments_or f t = if is_close_square t then f else comment f

-- `entry, .., entry]).`, or `]).` alone
abbrev pub entries_or : ℕ → Lexeme → Form
entries_or n t =
    if is_close_square t then closed (command.Interpretation (by_name n []))
    else entry n [] (kind_said t)

-- `[entry, ..]).`
abbrev pub entry_list : ℕ → Form
entry_list n = token OpenSquare (λ _. token KindWordOrCloseSquare (entries_or n))

-- `, [entry, ..]).`
abbrev pub behind_comments : ℕ → Form
behind_comments n = token Comma (λ _. entry_list n)

-- `[name = number, ..]`, and the entries behind it
abbrev pub comment_list : ℕ → Form
comment_list n = token OpenSquare (λ _. token SymbolOrCloseSquare (comments_or (behind_comments n)))

-- `(n, [name = number, ..], [entry, ..]).`
abbrev pub interpretation : Form
interpretation = opened (token Numeral (λ n. token Comma (λ _. comment_list (number_said n))))

abbrev pub behind_first_token : Lexeme → Form
behind_first_token t =
    if is_interpretation t then interpretation
    else behind_word (unwrap_or (word_of (symbol_text t)) word.EndIf)

-- a command of the program that tests interpretations, and one of another program
abbrev pub tester_commands : Form
tester_commands = token TesterWord behind_first_token

abbrev pub commands : Form
commands = token CommandWord behind_first_token

-- the commands of a program
abbrev pub commands_of : Bool → Form
commands_of tester = if tester then tester_commands else commands

-- an interpretation
abbrev pub interpretation_item : Form
interpretation_item = token InterpretationWord (λ _. interpretation)
