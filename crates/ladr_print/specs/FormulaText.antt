-- The term as read that a formula is printed as.
use Rattle.std.specs.Prelude.{ℕ, List, Option, Some, None, if◌then◌else◌, codes}
use Rattle.std.specs.Str.{bytes_eq}
use Rattle.fol_core.specs.Fol.{Fol, verum, falsum, equal, atom, negation, conjunction, disjunction, implication, equivalence, forall, exists}
use Rattle.fol_core.specs.RawTree.{RawTree, named, quantified, no_raws, more_raws}
use Rattle.fol_core.specs.SymbolTable.{Symbol}
use Rattle.fol_core.specs.declared.raw.Quantifier.TheVariants.{All, Exists}
use Rattle.ladr_print.specs.TermText.{Naming, symbol_name, term_raw, terms_raw}

abbrev pub two : List ℕ → RawTree → RawTree → RawTree
two name t u = named name (more_raws t (more_raws u no_raws))

-- a denial; that of an equation is written with `!=`
abbrev pub denial : RawTree → RawTree
denial (named name (more_raws t (more_raws u no_raws))) =
    if bytes_eq name (codes "=") then two (codes "!=") t u
    else named (codes "-") (more_raws (two name t u) no_raws)
denial t = named (codes "-") (more_raws t no_raws)

abbrev pub formula_raw : List Symbol → Naming → Fol → RawTree
formula_raw table v verum = named (codes "$T") no_raws
formula_raw table v falsum = named (codes "$F") no_raws
formula_raw table v (equal s t) = two (codes "=") (term_raw table v s) (term_raw table v t)
formula_raw table v (atom r ts) = named (symbol_name table r) (terms_raw table v ts)
formula_raw table v (negation f) = denial (formula_raw table v f)
formula_raw table v (conjunction f g) =
    two (codes "&") (formula_raw table v f) (formula_raw table v g)
formula_raw table v (disjunction f g) =
    two (codes "|") (formula_raw table v f) (formula_raw table v g)
formula_raw table v (implication f g) =
    two (codes "->") (formula_raw table v f) (formula_raw table v g)
formula_raw table v (equivalence f g) =
    two (codes "<->") (formula_raw table v f) (formula_raw table v g)
formula_raw table v (forall x f) = quantified All (v x) (formula_raw table v f)
formula_raw table v (exists x f) = quantified Exists (v x) (formula_raw table v f)

-- with its attribute behind it, if it has one
abbrev pub with_attribute : Option RawTree → RawTree → RawTree
with_attribute None t = t
with_attribute (Some label) t = two (codes "#") t label
