use Rattle.ladr_options.proofs.Ranges.{flagged_in_range, numbered_in_range, symbolized_in_range}
use Rattle.ladr_options.proofs.laws.options_stay_in_range.Goals as goal

pub returns-clause-flags : goal.returns-clause-flags
returns-clause-flags c = flagged_in_range

pub returns-clause-numbers : goal.returns-clause-numbers
returns-clause-numbers c = numbered_in_range

pub returns-clause-symbols : goal.returns-clause-symbols
returns-clause-symbols c = symbolized_in_range
