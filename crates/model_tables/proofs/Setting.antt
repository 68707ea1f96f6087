-- The bounds of the elements of variables.
use Rattle.std.proofs.Common.{ℕ, ◌+◌, List, length, replicate}
use Rattle.model_tables.specs.Tables.{Finite}

-- below what each element of some variables is
abbrev pub bounds : Finite → List ℕ → List ℕ
bounds t xs = replicate (length xs) (t.top + 1)
