-- no numeral of the terms so far is too great: the rest decides
use Rattle.std.proofs.Common.{◌≡◌}
use Rattle.fol_core.specs.RawTree.{raws_of}
use Rattle.ladr_rules.specs.Rules.{some_too_great}
use Rattle.ladr_rules.proofs.Parts.{raws_from}
use Rattle.ladr_rules.proofs.patterns.+great.Given as goal

abbrev pub invariant-some_too_great-loop-raw : goal.invariant-some_too_great-loop-raw
invariant-some_too_great-loop-raw l = some_too_great l.style (raws_from l.raw-items l.raw-index) ≡ some_too_great l.style (raws_of l.raws)
