-- the line and the column of the bytes so far
use Rattle.std.proofs.Common.{◌≡◌, ◌+◌, ◌≤◌, take}
use Rattle.std.specs.Prelude.{count_by, not}
use Rattle.std.specs.List.{suffix_len}
use Rattle.ladr_lex.specs.Places.{ends_line}
use Rattle.ladr_lex.proofs.places.place_of.Given as goal

abbrev pub invariant-loop-before : goal.invariant-loop-before
invariant-loop-before l =
    (l.line ≡ 1 + count_by ends_line (take l.before-index l.before-items)) × (l.column ≡ 1 + suffix_len (λ b. not (ends_line b)) (take l.before-index l.before-items)) × (l.column ≤ 1 + l.before-index)
