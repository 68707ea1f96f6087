-- The term as read that a term is printed as.
use Rattle.std.specs.Prelude.{ℕ, ◌==◌, List, [], slice_get, unwrap_or, if◌then◌else◌, codes}
use Rattle.std.specs.Fmt.{decimal}
use Rattle.fol_core.specs.Literals.{equality}
use Rattle.fol_core.specs.RawTree.{RawTree, named, RawTrees, no_raws, more_raws}
use Rattle.fol_core.specs.SymbolTable.{Symbol, name_at}
pub use Rattle.ladr_lex.specs.ClauseNames.{letters, clause_variable}
use Rattle.ladr_print.specs.declared.terms.Variables.{Variables}
use Rattle.ladr_print.specs.declared.terms.Variables.TheVariants.{Named, Numbered}
use Rattle.fol_core.specs.Tree.{Tree, var, elem, app, Trees, none, more}

-- the names of variables, by their numbers
abbrev pub Naming : Type 0
Naming = ℕ → List ℕ

-- those of a formula, which it has with it
abbrev pub name_in : List (List ℕ) → Naming
name_in names n = unwrap_or (slice_get names n) []

-- equality's name, or a symbol's
abbrev pub symbol_name : List Symbol → ℕ → List ℕ
symbol_name table s = if s == equality then codes "=" else name_at table s

-- what the code is given for names
abbrev pub naming_of : Variables → Naming
naming_of (Named names) = name_in names.now
naming_of (Numbered prolog) = clause_variable prolog

abbrev mutual
  -- elements are printed as numerals
  pub term_raw : List Symbol → Naming → Tree → RawTree
  term_raw table v (var x) = named (v x) no_raws
  term_raw table v (elem k) = named (decimal k) no_raws
  term_raw table v (app s ts) = named (symbol_name table s) (terms_raw table v ts)

  pub terms_raw : List Symbol → Naming → Trees → RawTrees
  terms_raw table v none = no_raws
  terms_raw table v (more t ts) = more_raws (term_raw table v t) (terms_raw table v ts)
