-- The parts of commands, and which tokens spell them.
use Rattle.std.specs.Prelude.{◌≡◌, ℕ, true, false, IsTrue, List, [], ◌∷◌, ◌++◌, length, codes}
use Rattle.fol_core.specs.declared.symbols.Kind.{Kind}
use Rattle.fol_core.specs.declared.symbols.Kind.TheVariants.{Function, Relation}
use Rattle.ladr_lex.specs.Lexeme.{Sort, Lexeme, ordinary, special, open_paren, close_paren, open_square, close_square, comma, symbol}
use Rattle.ladr_lex.specs.Numeral.{is_numeral, limited_number_of}
use Rattle.ladr_commands.specs.ByName.{NamedTable, table}
use Rattle.ladr_commands.specs.Commands.{whole_in}
use Rattle.ladr_commands.specs.Wanted.{is_number}
use Rattle.ladr_commands.specs.declared.command.Value.{Value}
use Rattle.ladr_commands.specs.declared.command.Value.TheVariants as value

-- `(ts)` and `[ts]`
abbrev pub in_parens : List Lexeme → List Lexeme
in_parens ts = open_paren ∷ (ts ++ close_paren ∷ [])

abbrev pub in_square : List Lexeme → List Lexeme
in_square ts = open_square ∷ (ts ++ close_square ∷ [])

-- items, one or more, with commas between
pub data Separated {A : Type 0} (Item : List Lexeme → A → Type 0) :
    List Lexeme → List A → Type 0 where
  one : {ts : List Lexeme} {x : A} → Item ts x → Separated Item ts (x ∷ [])
  more :
      {ts us : List Lexeme} {x : A} {xs : List A} → Item ts x → Separated Item us xs →
      Separated Item (ts ++ comma ∷ us) (x ∷ xs)

-- such items in square brackets, or none
pub data Listed {A : Type 0} (Item : List Lexeme → A → Type 0) :
    List Lexeme → List A → Type 0 where
  none : Listed Item (in_square []) []
  some : {ts : List Lexeme} {xs : List A} → Separated Item ts xs → Listed Item (in_square ts) xs

-- a name: a symbol of any sort
pub data SpellsName : List Lexeme → List ℕ → Type 0 where
  named : (k : Sort) (text : List ℕ) → SpellsName (symbol k text ∷ []) text

-- a number: a numeral, where one above 4,294,967,295 counts as this
pub data SpellsNumber : List Lexeme → ℕ → Type 0 where
  numbered :
      (text : List ℕ) → IsTrue (is_numeral text) →
      SpellsNumber (symbol ordinary text ∷ []) (limited_number_of text)

-- a value of a parameter: a symbol that is no numeral, `-` among them; a numeral; `-` and a numeral
pub data SpellsValue : List Lexeme → Value → Type 0 where
  word :
      (k : Sort) (text : List ℕ) → is_number (symbol k text) ≡ false →
      SpellsValue (symbol k text ∷ []) (value.Symbol text)
  numeral :
      (text : List ℕ) → IsTrue (is_numeral text) →
      SpellsValue (symbol ordinary text ∷ []) (value.Number false (whole_in (symbol ordinary text)))
  negative :
      (k : Sort) (text : List ℕ) → IsTrue (is_numeral text) →
      SpellsValue (symbol k (codes "-") ∷ symbol ordinary text ∷ [])
      (value.Number true (whole_in (symbol ordinary text)))

-- the symbols of operators: one, or `[s, .., s]`
pub data SpellsOperators : List Lexeme → List (List ℕ) → Type 0 where
  single : {ts : List Lexeme} {name : List ℕ} → SpellsName ts name → SpellsOperators ts (name ∷ [])
  several :
      {ts : List Lexeme} {names : List (List ℕ)} → Separated SpellsName ts names →
      SpellsOperators (in_square ts) names

-- what a comment says: `name = number`
pub data SpellsComment : List Lexeme → List ℕ × ℕ → Type 0 where
  says :
      {ts us : List Lexeme} {name : List ℕ} {n : ℕ} → SpellsName ts name → SpellsNumber us n →
      SpellsComment (ts ++ symbol special (codes "=") ∷ us) (name, n)

-- a place for an argument: `_`
pub data SpellsPlace : List Lexeme → Unit {0} → Type 0 where
  place : SpellsPlace (symbol ordinary (codes "_") ∷ []) tt

-- the head of an entry, with its arity: `name`, or `name(_, .., _)`
pub data SpellsHead : List Lexeme → List ℕ → ℕ → Type 0 where
  bare : {ts : List Lexeme} {name : List ℕ} → SpellsName ts name → SpellsHead ts name 0
  applied :
      {ts us : List Lexeme} {name : List ℕ} {places : List (Unit {0})} → SpellsName ts name →
      Separated SpellsPlace us places → SpellsHead (ts ++ in_parens us) name (length places)

-- the word of a kind
abbrev pub kind_word : Kind → Lexeme
kind_word Function = symbol ordinary (codes "function")
kind_word Relation = symbol ordinary (codes "relation")

-- an entry: `function(head, [n, .., n])` or `relation(head, [n, .., n])`
pub data SpellsEntry : List Lexeme → NamedTable → Type 0 where
  entry :
      {ts us : List Lexeme} {name : List ℕ} {arity : ℕ} {values : List ℕ} (kind : Kind) →
      SpellsHead ts name arity → Separated SpellsNumber us values →
      SpellsEntry (kind_word kind ∷ in_parens (ts ++ comma ∷ in_square us))
      (table kind name arity values)
