-- A place that is there has a literal, and its atom.
use Rattle.std.proofs.Common.{sym, ap, ◌∙◌}
use Rattle.std.specs.Option.{option_map}
use Rattle.fol_core.specs.ClauseView.{literal_of}
use Rattle.derivation.proofs.PlaceSteps.{atom_got}
use Rattle.inference.proofs.ClashSteps.{got, place_within, some_of}
use Rattle.inference.proofs.fitting.atom.Goals as goal

pub unwrap-requires : goal.unwrap-requires
unwrap-requires c = some_of (λ l. literal_of l.now) c.literal_at.result _ c.literal_at.ensures (got c.args.clause.now c.args.place (place_within c.args.clause.now c.args.place c.requires))

pub returns : goal.returns
returns c = atom_got c.args.clause.now c.args.place c.unwrap.result.now (sym (ap (option_map (λ l. literal_of l.now)) c.unwrap.ensures) ∙ c.literal_at.ensures)
