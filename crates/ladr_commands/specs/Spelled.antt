-- Which tokens spell which command.
use Rattle.std.specs.Prelude.{◌≡◌, ℕ, Bool, true, false, List, [], ◌∷◌, ◌++◌, codes}
use Prim.Native.String.{String}
use Rattle.ladr_lex.specs.Lexeme.{Sort, Lexeme, ordinary, open_paren, close_paren, comma, full_stop, symbol}
use Rattle.ladr_commands.specs.ByName.{ByName, NamedTable, by_name}
use Rattle.ladr_commands.specs.SpelledParts.{Separated, Listed, SpellsName, SpellsNumber, SpellsValue, SpellsOperators, SpellsComment, SpellsEntry, in_square}
use Rattle.ladr_commands.specs.declared.command.Command.{Command}
use Rattle.ladr_commands.specs.declared.command.Command.TheVariants.{Flag, Assign, Op, FunctionOrder, PredicateOrder, Formulas, List as ListOf, If, EndIf, Interpretation}
use Rattle.ladr_commands.specs.declared.command.Value.{Value}
use Rattle.ladr_commands.specs.declared.fault.CommandFault.{CommandFault}
use Rattle.ladr_commands.specs.declared.fault.CommandFault.TheVariants.{Bad, Memory}

-- `word(ts).`, the word being a symbol of this sort
abbrev pub sentence : Sort → String → List Lexeme → List Lexeme
sentence k word ts = symbol k (codes word) ∷ open_paren ∷ (ts ++ close_paren ∷ full_stop ∷ [])

-- `interpretation(n, [name = number, ..], [entry, ..]).`, where either list may be empty
pub data SpellsInterpretation : List Lexeme → ByName → Type 0 where
  interpretation :
      {ts us vs : List Lexeme} {n : ℕ} {comments : List (List ℕ × ℕ)} {entries : List NamedTable} →
      SpellsNumber ts n → Listed SpellsComment us comments → Listed SpellsEntry vs entries →
      SpellsInterpretation
      (sentence ordinary "interpretation" (ts ++ comma ∷ (us ++ comma ∷ vs))) (by_name n entries)

-- The tokens spell this command, whose word may be a symbol of any sort; an interpretation is a
-- command of the program that tests interpretations alone.
pub data Spells (tester : Bool) : List Lexeme → Command → Type 0 where
  -- `set(name).`
  sets :
      {ts : List Lexeme} {name : List ℕ} (k : Sort) → SpellsName ts name →
      Spells tester (sentence k "set" ts) (Flag true name)
  -- `clear(name).`
  clears :
      {ts : List Lexeme} {name : List ℕ} (k : Sort) → SpellsName ts name →
      Spells tester (sentence k "clear" ts) (Flag false name)
  -- `assign(name, value).`
  assigns :
      {ts us : List Lexeme} {name : List ℕ} {v : Value} (k : Sort) → SpellsName ts name →
      SpellsValue us v → Spells tester (sentence k "assign" (ts ++ comma ∷ us)) (Assign name v)
  -- `op(precedence, type, symbols).`
  declares :
      {ts us vs : List Lexeme} {p : ℕ} {type : List ℕ} {names : List (List ℕ)} (k : Sort) →
      SpellsNumber ts p → SpellsName us type → SpellsOperators vs names →
      Spells tester (sentence k "op" (ts ++ comma ∷ (us ++ comma ∷ vs))) (Op p type names)
  -- `function_order([name, .., name]).`
  orders_functions :
      {ts : List Lexeme} {names : List (List ℕ)} (k : Sort) → Separated SpellsName ts names →
      Spells tester (sentence k "function_order" (in_square ts)) (FunctionOrder names)
  -- `predicate_order([name, .., name]).`
  orders_predicates :
      {ts : List Lexeme} {names : List (List ℕ)} (k : Sort) → Separated SpellsName ts names →
      Spells tester (sentence k "predicate_order" (in_square ts)) (PredicateOrder names)
  -- `formulas(name).`
  opens_formulas :
      {ts : List Lexeme} {name : List ℕ} (k : Sort) → SpellsName ts name →
      Spells tester (sentence k "formulas" ts) (Formulas name)
  -- `list(name).`
  opens_list :
      {ts : List Lexeme} {name : List ℕ} (k : Sort) → SpellsName ts name →
      Spells tester (sentence k "list" ts) (ListOf name)
  -- `if(name).`
  begins_block :
      {ts : List Lexeme} {name : List ℕ} (k : Sort) → SpellsName ts name →
      Spells tester (sentence k "if" ts) (If name)
  -- `end_if.`
  ends_block : (k : Sort) → Spells tester (symbol k (codes "end_if") ∷ full_stop ∷ []) EndIf
  -- `interpretation(..).`
  interprets :
      {ts : List Lexeme} {it : ByName} → tester ≡ true → SpellsInterpretation ts it →
      Spells tester ts (Interpretation it)

-- where a token is bad, the tokens spell nothing of the kind; nothing is said of memory
abbrev pub SpellsNone : {A : Type 0} → (A → Type 0) → CommandFault → Type 0
SpellsNone {A = A} IsSpelled (Bad k) = (x : A) → ¬ IsSpelled x
SpellsNone IsSpelled Memory = Unit {0}
