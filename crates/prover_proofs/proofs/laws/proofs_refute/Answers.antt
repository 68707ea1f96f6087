-- The proofs of sound states.
use Rattle.prover_proofs.proofs.Refuting.{sound_refute, found_refute}
use Rattle.prover_proofs.proofs.laws.proofs_refute.Goals as goal

pub returns-clause-sound : goal.returns-clause-sound
returns-clause-sound c = sound_refute c.ancestors_derive.ensures.refute

pub returns-clause-found : goal.returns-clause-found
returns-clause-found c = found_refute c.ancestors_derive.ensures.refute c.searches_start_well.ensures c.searches_are_sound.ensures
