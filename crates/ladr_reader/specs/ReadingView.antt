-- Where the reader stands, from the code's parts.
use Rattle.std.specs.Prelude.{ℕ, Bool, true, false, List, Option, Some, None}
use Rattle.fol_core.specs.RawTree.{RawTree}
use Rattle.ladr_reader.specs.Machine.{Standing, Operand, Named, Word, Term, Done, State, standing}
use Rattle.ladr_reader.specs.declared.place.Spot.{Spot}
use Rattle.ladr_reader.specs.declared.place.Spot.TheVariants.{AtOperand, AtSymbol, AtWord, AtTerm, AtStop}
use Rattle.ladr_reader.specs.declared.place.Reading.{Reading}
use Rattle.ladr_reader.specs.declared.stack.Frame.{Frame}

-- a spot with the symbol or the term there
abbrev pub at_spot : Spot → List ℕ → Option (List RawTree) → Standing
at_spot AtOperand s t = Operand
at_spot AtSymbol s t = Named s
at_spot (AtWord w) s t = Word w
at_spot (AtTerm q) s t = Term t q
at_spot (AtStop q) s t = Done t q

abbrev pub standing_of : Reading → Standing
standing_of r = at_spot r.spot r.name r.term

-- where the machine stands, if a term begins so
abbrev pub goes_on : Bool → Reading → List Frame → Option State
goes_on false r fs = None
goes_on true r fs = standing (Some (standing_of r)) fs
