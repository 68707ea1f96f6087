-- The sides of a rule, of the code.
use Rattle.fol_core.specs.RawTree.{raws_of}
use Rattle.fol_core.specs.RawView.{raw_of}
use Rattle.ladr_rules.specs.Rules as rules
use Rattle.ladr_rules.specs.declared.sides.Sides.{Sides}

abbrev pub sides_view : Sides → rules.Sides
sides_view r = record { head = r.head.now; parts = raws_of r.parts.now; value = raw_of r.value.now }
