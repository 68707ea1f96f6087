-- The plain forms of substitutions of the code.
use Rattle.std.specs.Prelude.{ℕ}
use Rattle.fol_core.specs.TermView.{tree_of}
use Rattle.fol_core.specs.declared.term.Term.{Term}
use Rattle.substitutions.specs.Bindings.{Binding}

abbrev pub binding_of : ℕ × Term → Binding
binding_of b = (b.0, tree_of b.1)
