-- Where nothing was read, nothing was searched.
use Rattle.std.specs.Prelude.{[]}
use Rattle.std.specs.declared.result.Result.{Result}
use Rattle.std.specs.declared.result.Result.TheVariants.{Ok, Err}
use Rattle.ladr_intake.specs.declared.stops.Stop.{Stop}
use Rattle.ladr_intake.specs.declared.stops.Stop.TheVariants.{Refused, ReadFault, WriteFault, Memory}
use Rattle.ladr_io.specs.Streams.{Outflow, Takes}

-- the run came to no end of its own, and where memory was lacking, nothing was printed
abbrev pub HasNothing : {E : Type 0} → Outflow → Outflow → Result E Stop → Type 0
HasNothing old new (Ok end) = ⊥
HasNothing old new (Err (Refused why)) = Unit {0}
HasNothing old new (Err ReadFault) = Unit {0}
HasNothing old new (Err WriteFault) = Unit {0}
HasNothing old new (Err Memory) = Takes old new []
