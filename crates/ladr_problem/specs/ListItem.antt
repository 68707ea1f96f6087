-- What stands in a list that is open: its end, or a term, or names that are to differ.
use Rattle.std.specs.Prelude.{◌≡◌, ℕ, ◌+◌, ◌<◌, ◌≤◌, List, [], ◌∷◌, ◌++◌, length, take, codes}
use Rattle.fol_core.specs.RawTree.{RawTree}
use Rattle.ladr_lex.specs.declared.limits.TheConstants.{MOST_LEVELS}
use Rattle.ladr_lex.specs.Lexeme.{Lexeme, ordinary, symbol, full_stop}
use Rattle.ladr_distinct.specs.Names.{NamesItem}
use Rattle.ladr_reader.specs.Nesting.{nesting}
use Rattle.ladr_reader.specs.Reads.{Item}
use Rattle.ladr_reader.specs.Table.{OperatorTable}
use Rattle.ladr_reader.specs.declared.fault.TermFault.{TermFault}
use Rattle.ladr_reader.specs.declared.fault.TermFault.TheVariants.{Bad, Deep, Memory}
use Rattle.ladr_settings.specs.declared.lists.OpenList.{OpenList}
use Rattle.ladr_settings.specs.declared.lists.OpenList.TheVariants.{Distinct}

pub data ListItem : Type 0 where
  closing : ListItem
  term : RawTree → ListItem
  names : List (List ℕ) → ListItem

-- `end_of_list.`
abbrev pub closing_tokens : List Lexeme
closing_tokens = symbol ordinary (codes "end_of_list") ∷ full_stop ∷ []

-- The tokens are this item of the list. `end_of_list.` ends the list also where `end_of_list` is an
-- operator, and is no term there. A list of names that are to differ has items of names alone, and
-- each other list terms alone.
abbrev pub IsListItem : OpenList → OperatorTable → List Lexeme → ListItem → Type 0
IsListItem list g ts closing = ts ≡ closing_tokens
IsListItem list g ts (term t) = (¬ list ≡ Distinct) × (¬ ts ≡ closing_tokens) × Item g ts t
IsListItem list g ts (names ns) = (list ≡ Distinct) × NamesItem g ts ns

-- a term that is nested no deeper than its limit, or another item
abbrev pub IsShallow : List Lexeme → ListItem → Type 0
IsShallow ts closing = Unit {0}
IsShallow ts (term t) = nesting ts t ≤ MOST_LEVELS
IsShallow ts (names ns) = Unit {0}

-- some item of the list begins with these tokens
pub record BeginsListItem (list : OpenList) (g : OperatorTable) (ts : List Lexeme) : Type 0 where
  pub more : List Lexeme
  pub item : ListItem
  pub read : IsListItem list g (ts ++ more) item

-- Token k is the first that goes on with no item of the list, or the tokens end there too early:
-- some item begins with the k tokens before it, and none with it as well.
pub record IsBadListToken (list : OpenList) (g : OperatorTable) (ts : List Lexeme) (k : ℕ) : Type 0
  where
    pub within : k ≤ length ts
    pub before : BeginsListItem list g (take k ts)
    pub here : k < length ts → ¬ BeginsListItem list g (take (k + 1) ts)

-- The tokens are no item of the list, and this one is the first bad one; they are a term that is
-- nested deeper; nothing is said of memory.
abbrev pub IsItemFault : OpenList → OperatorTable → List Lexeme → TermFault → Type 0
IsItemFault list g ts (Bad k) =
    IsBadListToken list g ts k × ((i : ListItem) → ¬ IsListItem list g ts i)
IsItemFault list g ts Deep =
    (t : RawTree) × IsListItem list g ts (term t) × (MOST_LEVELS < nesting ts t)
IsItemFault list g ts Memory = Unit {0}
