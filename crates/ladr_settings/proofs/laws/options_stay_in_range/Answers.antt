use Rattle.ladr_settings.proofs.Ranges.{after_in_range}
use Rattle.ladr_settings.proofs.laws.options_stay_in_range.Goals as goal

pub returns-clause-after : goal.returns-clause-after
returns-clause-after c = after_in_range
