-- The bytes of a name, wherever they stand.
use Rattle.std.specs.Prelude.{ℕ, ◌≤◌, ⊤, List, take}
use Rattle.fol_core.specs.declared.name.NameBytes.{NameBytes}
use Rattle.fol_core.specs.declared.name.NameBytes.TheVariants.{Short, Long}

abbrev pub name_bytes : NameBytes → List ℕ
name_bytes (Short bytes count) = take count bytes
name_bytes (Long bytes) = bytes.items

-- no more of the sixteen places are told than there are
abbrev pub HasRoom : NameBytes → Type 0
HasRoom (Short bytes count) = count ≤ 16
HasRoom (Long bytes) = ⊤
