-- each slot is as it was, an added one being empty
use Rattle.std.proofs.Common.{◌≡◌, ℕ, suc, ◌-◌, None, length, get_or}
use Rattle.mace_ground.proofs.blocks.make_room.Given as goal

abbrev pub invariant-loop-symbol : goal.invariant-loop-symbol
invariant-loop-symbol l = (s : ℕ) → get_or l.spans.items s None ≡ get_or l.fn.spans.items s None

abbrev pub decreases-loop-symbol : goal.decreases-loop-symbol
decreases-loop-symbol l = suc l.symbol.0 - length l.spans.items
