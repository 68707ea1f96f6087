-- The numbers of the lines that the code's words take.
use Rattle.std.specs.Prelude.{ℕ, ◌++◌, List, map}
use Rattle.std.specs.List.{flat_map}
use Rattle.derivation.specs.Later.{later_parents}
use Rattle.derivation.specs.View.{first_word_of, later_of}
use Rattle.derivation.specs.declared.line.Just.{Just}
use Rattle.derivation.specs.declared.words.Later.{Later}
use Rattle.clause_store.specs.Ancestors.{first_parents}

abbrev pub steps_parents : List Later → List ℕ
steps_parents ws = flat_map later_parents (map later_of ws)

abbrev pub just_parents : Just → List ℕ
just_parents j = first_parents (first_word_of j.first) ++ steps_parents j.steps.items
