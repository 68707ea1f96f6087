-- One symbol after the other.
use Rattle.std.proofs.Common.{◌≡◌, ◌∙◌, ℕ, ◌+◌, ◌<◌, Bool, ◌||◌, List, [], ◌∷◌, length, drop, get_or, Some, refl, ap}
use Rattle.std.proofs.lemmas.List.{drop_more}
use Rattle.std.proofs.lemmas.Option.{slice_get-get_or}
use Rattle.std.specs.List.{list_any}
use Rattle.std.specs.Prelude.{slice_get}
use Rattle.fol_core.specs.SymbolTable.{Symbol, symbol, name_at, arity_at, kind_at}
use Rattle.fol_core.specs.declared.symbols.Kind.TheVariants.{Function}
use Rattle.proof_lines.specs.Strays.{is_kept, AreNamesOf, is_stray, strays_behind, brings_stray}
use Rattle.proof_lines.specs.declared.strays.ProblemNames.{ProblemNames}

some_symbol : Symbol
some_symbol = symbol [] 0 Function

symbol_at : (table : List Symbol) (n : ℕ) → n < length table → get_or table n some_symbol ≡ symbol (name_at table n) (arity_at table n) (kind_at table n)
symbol_at table n h =
    let e : slice_get table n ≡ Some (get_or table n some_symbol) = slice_get-get_or table n some_symbol h in
    rw e refl

pub stray_step : (is_taken : List ℕ → Bool) (table : List Symbol) (n : ℕ) → n < length table →
    strays_behind is_taken n table
    ≡ (is_stray is_taken (symbol (name_at table n) (arity_at table n) (kind_at table n)) || strays_behind is_taken (n + 1) table)
stray_step is_taken table n h =
    ap (list_any (is_stray is_taken)) (drop_more table n some_symbol h ∙ ap (λ s. s ∷ drop (n + 1) table) (symbol_at table n h))

-- where the names are a problem's, its strays are told
pub strays_told : (problem : List Symbol) (names : ProblemNames) (n : ℕ) (table : List Symbol) → AreNamesOf problem names → strays_behind (is_kept names) n table ≡ brings_stray problem n table
strays_told problem names n table are = ap (λ (is_taken : List ℕ → Bool). strays_behind is_taken n table) (λ i name. are name i)
