use Rattle.ladr_distinct.specs.Different.{distinct_reading}
use Rattle.ladr_distinct.specs.Formula.{distinct_formula}
use Rattle.ladr_distinct.proofs.Meaning.{means_different}
use Rattle.ladr_distinct.proofs.laws.distinct_means_different.Goals as goal
use Rattle.ladr_formulas.specs.VariablesMet.{variables_in}

pub returns : goal.returns
returns c = λ M lawful e st table names none least.
    let read = c.readings_mean.ensures.means st table (distinct_formula names) least in
    means_different st (distinct_reading st table names).reading.symbols (variables_in st (distinct_formula names)) M e names none (distinct_reading st table names).tree read.means
