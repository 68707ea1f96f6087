use Rattle.std.proofs.Common.{subst}
use Rattle.ladr_cells.specs.Fitting.{FitsTable}
use Rattle.ladr_formulas.specs.declared.styles.Mode.TheVariants.{Mace}
use Rattle.ladr_intake.specs.Posed.{poses}
use Rattle.ladr_intake.specs.Refusals.{refuses}
use Rattle.ladr_mace4.proofs.Showing.{searches_show}
use Rattle.ladr_mace4.proofs.laws.searches_show.Goals as goal

pub returns-clause-show : goal.returns-clause-show
returns-clause-show c =
    searches_show (record { behind = c.skolems_stand_behind.ensures; back = c.texts_read_back.ensures.text; models = c.leaves_are_models.ensures.models; cover = c.leaves_are_models.ensures.cover }) (poses Mace) (refuses Mace) (c.files_are_a_language.ensures Mace)
    (λ bytes x posed. subst FitsTable posed.2 (c.problems_fit.ensures Mace posed.0 (c.problems_grow.ensures Mace bytes posed.0 posed.1)))
