-- The interpretation with one element.
use Rattle.std.specs.Prelude.{◌==◌, false, refl}
use Rattle.fol_core.specs.Meaning.{Meaning, IsLawful}

-- the element is 0, each function has it, and no relation holds
abbrev pub one : Meaning
one = record { within = λ x. x == 0; function = λ f xs. 0; relation = λ r xs. false }

pub one_is_lawful : IsLawful one
one_is_lawful = record { element = (0, refl); closed = λ f xs h. refl }
