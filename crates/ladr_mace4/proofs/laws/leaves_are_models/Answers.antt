use Rattle.ladr_mace4.proofs.Known.{facts_of}
use Rattle.ladr_mace4.proofs.Leaves.{models_shown, models_cover}
use Rattle.ladr_mace4.proofs.laws.leaves_are_models.Goals as goal

pub returns-clause-models : goal.returns-clause-models
returns-clause-models c = λ p n way sense.
    let facts = facts_of c.skolems_stand_behind.ensures c.axioms_are_in_order.ensures.order c.axioms_are_in_order.ensures.new c.solutions_are_models.ensures.says c.solutions_are_models.ensures.each c.isomorphisms_are_carried.ensures c.cells_for_all.ensures p way n sense in
    models_shown c.leaves_are_solutions.ensures.solve c.leaves_are_solutions.ensures.differ c.leaves_are_solutions.ensures.cover p way n facts

pub returns-clause-cover : goal.returns-clause-cover
returns-clause-cover c = λ p n way sense.
    let facts = facts_of c.skolems_stand_behind.ensures c.axioms_are_in_order.ensures.order c.axioms_are_in_order.ensures.new c.solutions_are_models.ensures.says c.solutions_are_models.ensures.each c.isomorphisms_are_carried.ensures c.cells_for_all.ensures p way n sense in
    models_cover c.leaves_are_solutions.ensures.solve c.leaves_are_solutions.ensures.differ c.leaves_are_solutions.ensures.cover p way n facts
