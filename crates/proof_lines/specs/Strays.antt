-- Relations that are named like Skolem symbols, where the problem has no such name.
use Rattle.std.specs.Prelude.{◌≡◌, ℕ, Bool, false, not, ◌&&◌, ◌||◌, ◌==◌, List, [], ◌∷◌, drop}
use Rattle.std.specs.List.{list_any}
use Rattle.std.specs.Str.{bytes_eq}
use Rattle.fol_core.specs.SymbolTable.{Symbol, is_same_kind}
use Rattle.fol_core.specs.declared.symbols.Kind.TheVariants.{Relation}
use Rattle.ladr_lex.specs.Numeral.{is_numeral}
use Rattle.proof_lines.specs.declared.strays.ProblemNames.{ProblemNames}

-- `c` or `f` with a number
abbrev pub is_skolem_name : List ℕ → Bool
is_skolem_name [] = false
is_skolem_name (b ∷ bs) = (b == 99 || b == 102) && is_numeral bs

-- whether a symbol of the table has the name, whatever its arity
abbrev pub has_name : List Symbol → List ℕ → Bool
has_name table name = list_any (λ s. bytes_eq name s.name) table

-- whether the code has the name
abbrev pub is_kept : ProblemNames → List ℕ → Bool
is_kept names name = list_any (λ v. bytes_eq name v.items) names.names.keys

-- it has the names of the table's symbols, and no others
abbrev pub AreNamesOf : List Symbol → ProblemNames → Type 0
AreNamesOf table names = (name : List ℕ) → is_kept names name ≡ has_name table name

-- a relation named `c` or `f` with a number, where the name isn't taken
abbrev pub is_stray : (List ℕ → Bool) → Symbol → Bool
is_stray is_taken s =
    is_same_kind s.kind Relation && (is_skolem_name s.name && not (is_taken s.name))

-- where no symbol of the problem has it
abbrev pub is_stray_relation : List Symbol → Symbol → Bool
is_stray_relation problem s = is_stray (has_name problem) s

-- whether one stands behind the first n symbols
abbrev pub strays_behind : (List ℕ → Bool) → ℕ → List Symbol → Bool
strays_behind is_taken n table = list_any (is_stray is_taken) (drop n table)

abbrev pub brings_stray : List Symbol → ℕ → List Symbol → Bool
brings_stray problem n table = strays_behind (has_name problem) n table
