-- What hints and demodulators are to be.
use Rattle.std.specs.Prelude.{Bool, true, false, not, ◌&&◌}
use Rattle.std.specs.List.{list_all}
use Rattle.fol_core.specs.Fol.{Fol, equal, atom, negation, disjunction}
use Rattle.fol_core.specs.Free.{is_in, variables_of}
use Rattle.fol_core.specs.Tree.{Tree, var, elem, app}

abbrev pub is_atom : Fol → Bool
is_atom (equal s t) = true
is_atom (atom r ts) = true
is_atom f = false

-- literals, each an atom or one denial of one, joined by `|`; another formula in a list of hints is
-- row 13
abbrev pub is_hint : Fol → Bool
is_hint (disjunction f g) = is_hint f && is_hint g
is_hint (negation f) = is_atom f
is_hint f = is_atom f

abbrev pub is_variable_tree : Tree → Bool
is_variable_tree (var x) = true
is_variable_tree (elem k) = false
is_variable_tree (app f ts) = false

-- an equation whose left side is no variable and has each variable of the right; another formula in
-- a list of demodulators is row 14
abbrev pub is_demodulator : Fol → Bool
is_demodulator (equal s t) =
    not (is_variable_tree s) && list_all (λ x. is_in x (variables_of s)) (variables_of t)
is_demodulator f = false
