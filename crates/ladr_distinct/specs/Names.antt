-- Items of names in square brackets, and why tokens are none.
use Rattle.std.specs.Prelude.{ℕ, ◌+◌, ◌<◌, ◌≤◌, Bool, not, ◌&&◌, IsTrue, List, [], ◌∷◌, ◌++◌, length, take, is_none, codes}
use Rattle.std.specs.Str.{bytes_eq}
use Rattle.ladr_lex.specs.Lexeme.{Sort, Lexeme, open_square, close_square, comma, full_stop, symbol}
use Rattle.ladr_lex.specs.Operators.{if_prefix}
use Rattle.ladr_reader.specs.Table.{OperatorTable}
use Rattle.ladr_reader.specs.declared.fault.TermFault.{TermFault}
use Rattle.ladr_reader.specs.declared.fault.TermFault.TheVariants.{Bad, Deep, Memory}

-- whether a symbol may be among the names: it is no word of a quantifier, no operator that stands
-- before its argument, and not `#`
abbrev pub may_be_listed : OperatorTable → List ℕ → Bool
may_be_listed g s =
    is_none (g.word s) && is_none (if_prefix (g.op s)) && not (bytes_eq s (codes "#"))

-- the tokens are these names, one or more, between commas
pub data AreNames (g : OperatorTable) : List Lexeme → List (List ℕ) → Type 0 where
  one :
      (k : Sort) (s : List ℕ) → IsTrue (may_be_listed g s) →
      AreNames g (symbol k s ∷ []) (s ∷ [])
  further :
      {ts : List Lexeme} {ns : List (List ℕ)} (k : Sort) (s : List ℕ) →
      IsTrue (may_be_listed g s) → AreNames g ts ns →
      AreNames g (symbol k s ∷ comma ∷ ts) (s ∷ ns)

-- the tokens are these names in square brackets, and then a full stop
pub data NamesItem (g : OperatorTable) : List Lexeme → List (List ℕ) → Type 0 where
  empty : NamesItem g (open_square ∷ close_square ∷ full_stop ∷ []) []
  filled :
      {ts : List Lexeme} {ns : List (List ℕ)} → AreNames g ts ns →
      NamesItem g (open_square ∷ (ts ++ close_square ∷ full_stop ∷ [])) ns

-- some item of names begins with these tokens
pub record BeginsNames (g : OperatorTable) (ts : List Lexeme) : Type 0 where
  pub more : List Lexeme
  pub names : List (List ℕ)
  pub item : NamesItem g (ts ++ more) names

-- Token k is the first that goes on with no item of names, or the tokens end there too early: some
-- item begins with the k tokens before it, and none with it as well.
pub record IsBadNamesToken (g : OperatorTable) (ts : List Lexeme) (k : ℕ) : Type 0 where
  pub within : k ≤ length ts
  pub before : BeginsNames g (take k ts)
  pub here : k < length ts → ¬ BeginsNames g (take (k + 1) ts)

-- The tokens are no item of names, and this one is the first bad one; nothing is said of memory.
abbrev pub IsNamesFault : OperatorTable → List Lexeme → TermFault → Type 0
IsNamesFault g ts (Bad k) =
    IsBadNamesToken g ts k × ((ns : List (List ℕ)) → ¬ NamesItem g ts ns)
IsNamesFault g ts Deep = ⊥
IsNamesFault g ts Memory = Unit {0}
