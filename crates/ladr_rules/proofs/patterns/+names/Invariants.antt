-- what the rest adds makes up what all add
use Rattle.std.proofs.Common.{◌≡◌}
use Rattle.ladr_rules.specs.KeptNames.{names_of}
use Rattle.fol_core.specs.RawTree.{raws_of}
use Rattle.ladr_rules.specs.Rules.{all_names}
use Rattle.ladr_rules.specs.Seen.{with_names}
use Rattle.ladr_rules.proofs.Parts.{raws_from}
use Rattle.ladr_rules.proofs.patterns.+names.Given as goal

abbrev pub invariant-add_names-loop-raw : goal.invariant-add_names-loop-raw
invariant-add_names-loop-raw l =
    with_names (names_of l.found.keys) (all_names l.style (raws_from l.raw-items l.raw-index)) ≡ with_names (names_of l.initial.found.keys) (all_names l.style (raws_of l.raws))
