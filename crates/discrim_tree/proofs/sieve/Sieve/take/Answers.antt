use Rattle.discrim_tree.specs.Paths.{path_of}
use Rattle.discrim_tree.specs.Sieves.{IsUnder}
use Rattle.discrim_tree.proofs.sieve.Sieve.take.Goals as goal

pub returns-clause-others : goal.returns-clause-others
unfolding IsUnder
returns-clause-others c = λ t n apart h. c.take_term.ensures.others 0 (path_of t) n apart h

pub returns-clause-gone : goal.returns-clause-gone
unfolding IsUnder
returns-clause-gone c = c.take_term.ensures.gone
