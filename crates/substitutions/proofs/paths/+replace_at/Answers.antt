use Rattle.std.proofs.Common.{◌∙◌, ap, sym}
use Rattle.std.specs.Option.{option_map}
use Rattle.fol_core.specs.TermView.{tree_of}
use Rattle.substitutions.proofs.PathLemmas.{replaced_next}
use Rattle.substitutions.proofs.paths.+replace_at.Goals as goal

pub returns-in_ok-with_part-in-Some-2 : goal.returns-in_ok-with_part-in-Some-2
returns-in_ok-with_part-in-Some-2 t c =
    replaced_next (tree_of c.args.term.now) c.args.path.now c.in-Some.number.now c.in-Some.rest.now (tree_of c.args.new.now) (tree_of c.in-Some-part.next.now) (tree_of c.in-Some-2.changed) (tree_of c.in_ok-with_part-in-Some-2.field-0)
    (c.in-Some.ensures.cases.0) (sym (c.in-Some-part.ensures)) (ap (option_map tree_of) (sym c.in-Some-2.is) ∙ c.in_ok-changed.ensures) c.in_ok-with_part-in-Some-2.ensures
