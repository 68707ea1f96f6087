-- There is room for all variables.
use Rattle.std.proofs.Common.{arith}
use Rattle.fol_core.specs.TermView.{tree_of}
use Rattle.term_matches.proofs.Counting.{met_few}
use Rattle.term_matches.proofs.matches.Matches.match_onto.Goals as goal

pub returns-in-Full-clause-matches : goal.returns-in-Full-clause-matches
returns-in-Full-clause-matches c =
    let full = c.try_onto.ensures.full c.in-Full.is in
    let few = met_few (tree_of c.args.general.now) (tree_of c.args.special.now) in
    absurd (omega (arith, full, few, c.requires))
