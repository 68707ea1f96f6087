use Rattle.std.proofs.Common.{◌++◌, ap, ◌∙◌, List, ℕ}
use Rattle.std.proofs.Common.{append_assoc}
use Rattle.std.specs.Fmt.{decimal}
use Rattle.search_clock.proofs.lines.first_reading.Goals as goal

pub returns : goal.returns
returns c = c.in_ok-decimal.ensures ∙ ap (λ (l : List ℕ). l ++ decimal c.args.first) c.in_ok-text.ensures ∙ append_assoc c.args.out.now.items _ _
