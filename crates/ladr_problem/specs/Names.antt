-- Names of symbols.
use Rattle.std.specs.Prelude.{ℕ, Bool, ◌||◌, IsTrue, List}
use Rattle.std.specs.List.{list_all}
use Rattle.fol_core.specs.SymbolTable.{Symbol, FindsEach}
use Rattle.ladr_lex.specs.Cuts.{is_plain_symbol, is_quoted}

-- a name that is one symbol of the language: an ordinary or special one, or one in quotes
abbrev pub is_name : List ℕ → Bool
is_name name = is_plain_symbol name || is_quoted name

-- each of the symbols has such a name
abbrev pub are_named : List Symbol → Bool
are_named symbols = list_all (λ s. is_name s.name) symbols

-- The language can tell these symbols apart: no name and arity stands twice, and each name is one
-- symbol of the language.
pub record AreTellable (symbols : List Symbol) : Type 0 where
  pub different : FindsEach symbols
  pub named : IsTrue (are_named symbols)
