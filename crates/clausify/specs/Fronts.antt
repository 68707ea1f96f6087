-- A negation normal form with the quantifiers of its free variables in front.
use Rattle.std.specs.Prelude.{ℕ, Bool, true, false, List}
use Rattle.fol_core.specs.EntryView.{some_over}
use Rattle.fol_core.specs.Fol.{Fol}
use Rattle.fol_core.specs.FormulaView.{fol_of}
use Rattle.fol_core.specs.Free.{closed_over}
use Rattle.clausify.specs.declared.normal.Normal.{Normal}

-- universal quantifiers, or existential ones where a formula is denied
abbrev pub quantified : Bool → List ℕ → Fol → Fol
quantified true xs f = closed_over xs f
quantified false xs f = some_over xs f

-- the form that the code keeps in parts
abbrev pub normal_of : Normal → Fol
normal_of n = quantified n.plain n.variables.items (fol_of n.shape)
