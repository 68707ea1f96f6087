use Rattle.std.proofs.Common.{◌∙◌, ap}
use Rattle.ladr_rules.specs.KeptNames.{names_of}
use Rattle.fol_core.specs.RawTree.{raws_of}
use Rattle.fol_core.specs.RawView.{raw_of}
use Rattle.ladr_rules.specs.Rules.{all_names}
use Rattle.ladr_rules.proofs.Names.{value_with}
use Rattle.ladr_rules.proofs.patterns.has_value.Goals as goal

pub returns : goal.returns
returns c =
    c.is_value.ensures
    ∙ value_with (names_of c.new-names.result.keys) (names_of c.add_names.new.found.keys) (all_names c.args.style (raws_of c.args.parts.now)) (raw_of c.args.value.now)
    (ap names_of c.new-names.ensures.empty) c.in_ok-add_names.ensures
