-- Which clauses are read again from their texts, behind the table of their symbols.
use Rattle.std.specs.Prelude.{◌≡◌, ◌⊎◌, ◌<◌, ℕ, Bool, true, false, not, ◌&&◌, ◌||◌, ◌==◌, IsTrue, List, [], ◌∷◌, Some, length, slice_get, codes}
use Rattle.std.specs.Str.{bytes_eq}
use Rattle.fol_core.specs.Bound.{has_symbol}
use Rattle.fol_core.specs.Literals.{ClauseTree, equality}
use Rattle.fol_core.specs.SymbolTable.{Symbol, name_at, arity_at, kind_at}
use Rattle.fol_core.specs.Tree.{Tree, var, elem, app, Trees, none, more}
use Rattle.fol_core.specs.declared.symbols.Kind.TheVariants.{Function, Relation}
use Rattle.ladr_formulas.specs.Formulas.{is_free_name}
use Rattle.ladr_formulas.specs.declared.styles.Style.{Style}
use Rattle.ladr_print.specs.HasText.{CanName}
use Rattle.ladr_reader.specs.Table.{OperatorTable}
use Rattle.proof_lines.specs.Literals.{names_atom}

-- whether a relation with so many arguments may have the name: it is no equation, and stands for no
-- formula made of others
abbrev pub names_relation : List ℕ → ℕ → Bool
names_relation name arity = names_atom name arity && not (arity == 2 && bytes_eq name (codes "="))

-- a symbol's name is read as the symbol: it isn't `#`, without arguments it is no variable's, and
-- one of a relation is no connective's
pub record ReadsAsItself (st : Style) (x : Symbol) : Type 0 where
  pub no_attribute : bytes_eq x.name (codes "#") ≡ false
  pub no_variable : x.arity ≡ 0 → is_free_name st x.name ≡ false
  pub relation : x.kind ≡ Relation → names_relation x.name x.arity ≡ true

-- with these operators and in this style a symbol of a table can have its name, which is read as it
pub record IsReadableSymbol (g : OperatorTable) (st : Style) (table : List Symbol) (s : ℕ) : Type 0
  where
    pub named : CanName g (name_at table s) (arity_at table s)
    pub itself : (x : Symbol) → slice_get table s ≡ Some x → ReadsAsItself st x

-- each symbol of a table is such a one that this test says to be used
abbrev pub AreReadable : OperatorTable → Style → List Symbol → (ℕ → Bool) → Type 0
AreReadable g st table is_used =
    (s : ℕ) → s < length table → IsTrue (is_used s) → IsReadableSymbol g st table s

-- whether a clause has the symbol
abbrev pub clause_uses : ClauseTree → ℕ → Bool
clause_uses [] s = false
clause_uses (l ∷ ls) s = has_symbol s l.atom || clause_uses ls s

-- the symbols of terms are functions
abbrev mutual
  pub HasFunctions : List Symbol → Tree → Type 0
  HasFunctions table (var x) = Unit {0}
  HasFunctions table (elem k) = Unit {0}
  HasFunctions table (app s ts) = (kind_at table s ≡ Function) × HaveFunctions table ts

  pub HaveFunctions : List Symbol → Trees → Type 0
  HaveFunctions table none = Unit {0}
  HaveFunctions table (more t ts) = HasFunctions table t × HaveFunctions table ts

-- an atom is an equation, or its symbol is a relation
abbrev pub IsAtomOfKinds : List Symbol → Tree → Type 0
IsAtomOfKinds table (var x) = Unit {0}
IsAtomOfKinds table (elem k) = Unit {0}
IsAtomOfKinds table (app r ts) =
    ((r ≡ equality) ⊎ (kind_at table r ≡ Relation)) × HaveFunctions table ts

abbrev pub IsClauseOfKinds : List Symbol → ClauseTree → Type 0
IsClauseOfKinds table [] = Unit {0}
IsClauseOfKinds table (l ∷ ls) = IsAtomOfKinds table l.atom × IsClauseOfKinds table ls
