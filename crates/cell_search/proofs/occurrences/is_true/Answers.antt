use Rattle.std.proofs.Common.{Bool, false, Option, sym, ap, ◌∙◌, unwrap_or}
use Rattle.fol_core.specs.ClauseView.{literal_of}
use Rattle.mace_ground.specs.Instances.{assigned_by}
use Rattle.cell_search.proofs.Counted.{any_at}
use Rattle.cell_search.specs.Counted.{true_seen}
use Rattle.cell_search.proofs.occurrences.is_true.Goals as goal

pub returns-then-unwrap_or : goal.returns-then-unwrap_or
returns-then-unwrap_or c =
    any_at literal_of (true_seen c.args.setup.now c.args.trail.now.entries (assigned_by c.args.env.now)) c.args.literals.now c.loop-literal.literal-index c.literal-item.result c.loop-literal-test.true c.literal-item.is
    (sym (ap (λ (o : Option Bool). unwrap_or o false) c.truth.ensures) ∙ sym c.unwrap_or.ensures ∙ c.if-unwrap_or.true)
