-- How terms, formulas and clauses use symbols.
use Rattle.std.specs.Prelude.{ℕ}
use Rattle.cell_search.specs.Searchable.{count_of}
use Rattle.fol_core.specs.Fol.{Fol, verum, falsum, equal, atom, negation, conjunction, disjunction, implication, equivalence, forall, exists}
use Rattle.fol_core.specs.Tree.{Tree, var, elem, app, Trees, none, more}
use Rattle.fol_core.specs.declared.symbols.Kind.{Kind}
use Rattle.fol_core.specs.declared.symbols.Kind.TheVariants.{Function, Relation}

-- a symbol, by its number, is applied as a function or a relation to so many arguments; or an
-- element is named
pub data Use : Type 0 where
  applies : Kind → ℕ → ℕ → Use
  mentions : ℕ → Use

abbrev mutual
  -- each use in a term is such a one
  pub IsTermOf : (Use → Type 0) → Tree → Type 0
  IsTermOf P (var x) = Unit {0}
  IsTermOf P (elem k) = P (mentions k)
  IsTermOf P (app s ts) = P (applies Function s (count_of ts)) × AreTermsOf P ts

  pub AreTermsOf : (Use → Type 0) → Trees → Type 0
  AreTermsOf P none = Unit {0}
  AreTermsOf P (more t ts) = IsTermOf P t × AreTermsOf P ts

-- and each in a formula
abbrev pub IsFormulaOf : (Use → Type 0) → Fol → Type 0
IsFormulaOf P verum = Unit {0}
IsFormulaOf P falsum = Unit {0}
IsFormulaOf P (equal s t) = IsTermOf P s × IsTermOf P t
IsFormulaOf P (atom r ts) = P (applies Relation r (count_of ts)) × AreTermsOf P ts
IsFormulaOf P (negation f) = IsFormulaOf P f
IsFormulaOf P (conjunction f g) = IsFormulaOf P f × IsFormulaOf P g
IsFormulaOf P (disjunction f g) = IsFormulaOf P f × IsFormulaOf P g
IsFormulaOf P (implication f g) = IsFormulaOf P f × IsFormulaOf P g
IsFormulaOf P (equivalence f g) = IsFormulaOf P f × IsFormulaOf P g
IsFormulaOf P (forall x f) = IsFormulaOf P f
IsFormulaOf P (exists x f) = IsFormulaOf P f
