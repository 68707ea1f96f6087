use Rattle.tree_tests.proofs.chance.Chance.+term.Given as goal

abbrev pub decreases-term : goal.decreases-term
decreases-term l = l.depth
