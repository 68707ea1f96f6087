use Rattle.cell_search.proofs.Crossing.{crossed_view}
use Rattle.cell_search.proofs.Viewing.{assigned_view, view_has_values}
use Rattle.cell_search.proofs.laws.tables_are_partial.Goals as goal

pub returns-clause-values : goal.returns-clause-values
returns-clause-values c = view_has_values

pub returns-clause-assigns : goal.returns-clause-assigns
returns-clause-assigns c = assigned_view

pub returns-clause-crosses : goal.returns-clause-crosses
returns-clause-crosses c = λ w t k v cells few stride within blank. crossed_view w t k v cells few stride within blank
