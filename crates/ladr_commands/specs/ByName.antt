-- Interpretations by the names of their symbols, and how the logic stores them.
use Rattle.std.specs.Prelude.{ℕ, List, refl}
use Rattle.std.specs.Coded.{Coded, code_by, coded×, coded_ℕ, coded_list}
use Rattle.fol_problem.specs.StatedCodes.{coded_symbol}
use Rattle.fol_core.specs.SymbolTable.{Symbol, symbol}
use Rattle.fol_core.specs.declared.symbols.Kind.{Kind}

-- the symbol that an entry is for, with its values: the last argument runs fastest
pub record NamedTable : Type 0 where
  pub head : Symbol
  pub values : List ℕ

-- how many elements, and the entries in the order read
pub record ByName : Type 0 where
  pub size : ℕ
  pub entries : List NamedTable

-- the entry for the symbol of this name, arity and kind with these values
abbrev pub table : Kind → List ℕ → ℕ → List ℕ → NamedTable
table kind name arity values = record { head = symbol name arity kind; values = values }

abbrev pub by_name : ℕ → List NamedTable → ByName
by_name n es = record { size = n; entries = es }

abbrev pub coded_table : Coded NamedTable
coded_table =
    code_by (Symbol × List ℕ) (coded× coded_symbol (coded_list coded_ℕ)) (λ t. (t.head, t.values))
    (λ p. record { head = p.0; values = p.1 }) (λ _. refl)

abbrev pub coded_by_name : Coded ByName
coded_by_name =
    code_by (ℕ × List NamedTable) (coded× coded_ℕ (coded_list coded_table))
    (λ b. (b.size, b.entries)) (λ p. by_name p.0 p.1) (λ _. refl)
