-- The entries of a text, as an interpretation by names has them.
use Rattle.std.proofs.Common.{◌≡◌, ℕ, ◌<◌, ◌==◌, Bool, true, false, if◌then◌else◌, List, [], ◌∷◌, length, map, refl, ap}
use Rattle.fol_core.specs.SymbolTable.{Symbol}
use Rattle.ladr_commands.specs.ByName.{NamedTable, table}
use Rattle.ladr_interpretations.specs.NamedText.{table_text}
use Rattle.ladr_problem.specs.Names.{is_name}
use Rattle.model_tables.specs.ModelText.{entries_of}
use Rattle.model_tables.specs.Size.{AllBelow}
use Rattle.model_tables.specs.Tables.{Listing}

-- those of the symbols that have values
abbrev pub named : List Symbol → List Listing → List NamedTable
named [] ls = []
named (s ∷ ss) [] = []
named (s ∷ ss) (l ∷ ls) = if length l.values == 0 then named ss ls else table l.kind s.name s.arity l.values ∷ named ss ls

texts_step : (empty : Bool) (e : NamedTable) (es : List NamedTable) (bs : List (List ℕ)) → bs ≡ map table_text es
    → (if empty then bs else table_text e ∷ bs) ≡ map table_text (if empty then es else e ∷ es)
texts_step true e es bs h = h
texts_step false e es bs h = ap (λ (cs : List (List ℕ)). table_text e ∷ cs) h

pub texts_are : (ss : List Symbol) (ls : List Listing) → entries_of ss ls ≡ map table_text (named ss ls)
texts_are [] ls = refl
texts_are (s ∷ ss) [] = refl
texts_are (s ∷ ss) (l ∷ ls) = texts_step (length l.values == 0) (table l.kind s.name s.arity l.values) (named ss ls) (entries_of ss ls) (texts_are ss ls)

-- an entry that can be printed: its name is a symbol, and it has values, each below a billion
pub record IsPlain (e : NamedTable) : Type 0 where
  pub name : is_name e.head.name ≡ true
  pub some : 0 < length e.values
  pub small : AllBelow 1000000000 e.values

abbrev pub ArePlain : List NamedTable → Type 0
ArePlain [] = Unit {0}
ArePlain (e ∷ es) = IsPlain e × ArePlain es
