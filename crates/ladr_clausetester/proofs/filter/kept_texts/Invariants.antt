-- the texts so far and those to come are those of all
use Rattle.std.proofs.Common.{◌≡◌, ◌+◌, ◌++◌, drop}
use Rattle.ladr_clausetester.specs.Filtering.{kept_texts}
use Rattle.ladr_clausetester.proofs.filter.kept_texts.Given as goal

abbrev pub invariant-loop-place : goal.invariant-loop-place
invariant-loop-place l = l.out.items ++ kept_texts (l.place + 1) (drop l.place l.its) (drop l.place l.kept) ≡ kept_texts 1 l.its l.kept
