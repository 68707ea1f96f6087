-- the end that is looked for is ahead
use Rattle.std.proofs.Common.{◌≡◌, ◌≤◌, ◌+◌, ◌-◌, drop, codes}
use Rattle.std.specs.Option.{option_map}
use Rattle.ladr_lex.specs.Comments.{up_to}
use Rattle.ladr_lex.proofs.scan.to_block_end.Given as goal

abbrev pub invariant-loop-at : goal.invariant-loop-at
invariant-loop-at l =
    (l.fn.from ≤ l.at) × (option_map (λ n. l.at - l.fn.from + n) (up_to (codes "%END") (drop l.at l.bytes)) ≡ up_to (codes "%END") (drop l.fn.from l.bytes))
