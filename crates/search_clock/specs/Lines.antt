-- The lines that tell why a search ended.
use Rattle.std.specs.Prelude.{ℕ, List, ◌++◌, codes}
use Rattle.std.specs.Fmt.{decimal}
use Rattle.ladr_output.specs.Telling.{as_line}

-- its reason
abbrev pub exit_line : List ℕ → List ℕ
exit_line reason = as_line (codes "% Exit " ++ reason ++ codes ".")

-- the clock's first reading and its last
abbrev pub seconds_line : ℕ → ℕ → List ℕ
seconds_line first last =
    as_line (codes "% Exit max_seconds " ++ decimal first ++ codes " " ++ decimal last ++ codes ".")
