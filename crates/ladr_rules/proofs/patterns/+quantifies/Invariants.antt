-- no quantifier stands in the terms so far: the rest decides
use Rattle.std.proofs.Common.{◌≡◌}
use Rattle.fol_core.specs.RawTree.{raws_of}
use Rattle.ladr_rules.specs.Rules.{some_quantifies}
use Rattle.ladr_rules.proofs.Parts.{raws_from}
use Rattle.ladr_rules.proofs.patterns.+quantifies.Given as goal

abbrev pub invariant-some_quantifies-loop-raw : goal.invariant-some_quantifies-loop-raw
invariant-some_quantifies-loop-raw l = some_quantifies (raws_from l.raw-items l.raw-index) ≡ some_quantifies (raws_of l.raws)
