-- What the text of an interpretation reads as.
use Rattle.std.specs.Prelude.{◌≡◌, ℕ, ◌+◌, ◌≤◌, ◌<◌, ◌^◌, Bool, IsTrue, List, [], ◌∷◌}
use Rattle.fol_core.specs.SymbolTable.{Symbol}
use Rattle.ladr_commands.specs.ByName.{ByName}
use Rattle.ladr_commands.specs.Commands.{tester_commands, interpretation_item}
use Rattle.ladr_commands.specs.Form.{SaysCommand}
use Rattle.ladr_commands.specs.declared.command.Command.{Command}
use Rattle.ladr_commands.specs.declared.command.Command.TheVariants.{Interpretation}
use Rattle.ladr_lex.specs.Cuts.{Piece, Cuts}
use Rattle.ladr_lex.specs.Lexeme.{Lexeme}
use Rattle.ladr_interpretations.specs.Good.{is_good, tables_for}
use Rattle.ladr_problem.specs.Names.{AreTellable}
use Rattle.ladr_reader.specs.Worked.{lexemes_in}
use Rattle.model_tables.specs.Size.{IsListing}
use Rattle.model_tables.specs.Tables.{Listing, Finite}

-- a symbol's row, which has its kind: a value for each list of arguments, none too great; or no
-- value, where it has no entry
abbrev pub IsRow : ℕ → Symbol → Listing → Type 0
IsRow n s l = (entry : Bool) × IsListing n s entry l

-- a row for each of the symbols
abbrev pub AreRows : ℕ → List Symbol → List Listing → Type 0
AreRows n [] [] = Unit {0}
AreRows n [] (l ∷ ls) = ⊥
AreRows n (s ∷ ss) [] = ⊥
AreRows n (s ∷ ss) (l ∷ ls) = IsRow n s l × AreRows n ss ls

-- Tables of at most 200 elements that are printed as model number k, for symbols that can be told
-- apart: whatever values they have. The text's number is no part of what is read, and may be any
-- that the code can print.
pub record IsPrintable (n k : ℕ) (symbols : List Symbol) (t : Finite) : Type 0 where
  pub most : n ≤ 200
  pub number : k < 2 ^ 64
  pub tellable : AreTellable symbols
  pub size : t.top + 1 ≡ n
  pub rows : AreRows n symbols t.rows

-- The tokens are an interpretation by names and nothing else, also among the commands of the
-- program that tests interpretations; it is one, and its tables for the symbols are t.
pub record SayTables (tokens : List Lexeme) (symbols : List Symbol) (t : Finite) : Type 0 where
  pub read : ByName
  pub says : SaysCommand interpretation_item tokens (Interpretation read)
  pub only : (c : Command) → SaysCommand interpretation_item tokens c → c ≡ Interpretation read
  pub command : SaysCommand tester_commands tokens (Interpretation read)
  pub good : IsTrue (is_good read)
  pub tables : tables_for read symbols ≡ t

-- The tokens are this interpretation by names and nothing else, also among the commands of the
-- program that tests interpretations; it is one.
pub record SayNamed (tokens : List Lexeme) (it : ByName) : Type 0 where
  pub says : SaysCommand interpretation_item tokens (Interpretation it)
  pub only : (c : Command) → SaysCommand interpretation_item tokens c → c ≡ Interpretation it
  pub command : SaysCommand tester_commands tokens (Interpretation it)
  pub good : IsTrue (is_good it)

-- The text is cut into tokens, in one way, and these say the interpretation.
pub record ReadsAs (text : List ℕ) (it : ByName) : Type 0 where
  pub pieces : List Piece
  pub cuts : Cuts 0 text pieces
  pub only : (others : List Piece) → Cuts 0 text others → others ≡ pieces
  pub say : SayNamed (lexemes_in pieces) it

-- The text is cut into tokens, in one way, and these say the tables.
pub record ReadsBack (text : List ℕ) (symbols : List Symbol) (t : Finite) : Type 0 where
  pub pieces : List Piece
  pub cuts : Cuts 0 text pieces
  pub only : (others : List Piece) → Cuts 0 text others → others ≡ pieces
  pub say : SayTables (lexemes_in pieces) symbols t
