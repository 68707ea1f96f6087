use Rattle.clausify.specs.Input.{all_rows}
use Rattle.derivation_laws.proofs.RowAtoms.{all_atoms}
use Rattle.derivation_laws.proofs.laws.no_countermodel.Goals as goal

pub returns : goal.returns
returns c = λ m lawful symbols ss ls well_formed is names picks counter.
    c.refutation_is_sound.ensures m lawful ss (all_rows symbols ss) ls (all_atoms symbols ss) names is (c.clauses_follow.ensures m lawful symbols ss well_formed picks counter)
