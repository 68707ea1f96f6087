-- Why tokens have no term.
use Rattle.std.specs.Prelude.{◌≡◌, ℕ, ◌<◌, List, Option}
use Rattle.fol_core.specs.RawTree.{RawTree}
use Rattle.ladr_lex.specs.declared.limits.TheConstants.{MOST_LEVELS}
use Rattle.ladr_lex.specs.Lexeme.{Lexeme}
use Rattle.ladr_reader.specs.Capped.{disjuncts_within}
use Rattle.ladr_reader.specs.Nesting.{nesting, most_open}
use Rattle.ladr_reader.specs.Reads.{Item, IsBadToken}
use Rattle.ladr_reader.specs.Table.{OperatorTable}
use Rattle.ladr_reader.specs.declared.fault.TermFault.{TermFault}
use Rattle.ladr_reader.specs.declared.fault.TermFault.TheVariants.{Bad, Deep, Memory}

-- The tokens are no item, and this one is the first bad one; they are one whose term is too deep;
-- nothing is said of memory.
abbrev pub IsFaultWhere : (RawTree → Type 0) → OperatorTable → List Lexeme → TermFault → Type 0
IsFaultWhere IsDeep g ts (Bad k) = IsBadToken g ts k × ((t : RawTree) → ¬ Item g ts t)
IsFaultWhere IsDeep g ts Deep = (t : RawTree) × Item g ts t × IsDeep t
IsFaultWhere IsDeep g ts Memory = Unit {0}

-- a term of an item is too deep where it is nested deeper than its limit
abbrev pub IsTermFault : OperatorTable → List Lexeme → TermFault → Type 0
IsTermFault g ts fault = IsFaultWhere (λ t. MOST_LEVELS < nesting ts t) g ts fault

-- the tokens are an item, of whose term this is built, and so many parentheses are open at once
pub record IsTermRead (n : ℕ) (g : OperatorTable) (ts : List Lexeme) (term : Option (List RawTree))
    (most : ℕ) : Type 0 where
  pub tree : RawTree
  pub item : Item g ts tree
  pub term_is : term ≡ disjuncts_within n tree
  pub most_is : most ≡ most_open 0 ts
