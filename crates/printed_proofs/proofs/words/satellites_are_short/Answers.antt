use Rattle.std.proofs.lemmas.List.Elements.{All-more}
use Rattle.words_print.specs.Sayable.{IsShortSatellite}
use Rattle.printed_proofs.proofs.BoundedLists.{all, satellites_all}
use Rattle.printed_proofs.proofs.words.satellites_are_short.Goals as goal

pub loop-satellite-preserved : goal.loop-satellite-preserved
loop-satellite-preserved c =
    All-more IsShortSatellite c.args.satellites.now c.loop-satellite.satellite-index (record { place = 0; clause = 0; literal = 0 }) c.loop-satellite-test.true c.loop-satellite.invariant c.satellite_is_short.ensures

pub returns : goal.returns
returns c = satellites_all c.args.satellites.now (all IsShortSatellite c.args.satellites.now c.loop-satellite.satellite-index c.loop-satellite-test.false c.loop-satellite.invariant)
