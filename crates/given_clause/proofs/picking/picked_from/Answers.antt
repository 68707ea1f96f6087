use Rattle.std.proofs.Common.{sym, ap, ◌∙◌}
use Rattle.std.specs.Option.{option_map}
use Rattle.std.specs.Borrow.{Bor}
use Rattle.given_clause.specs.Guides.{setting_of}
use Rattle.given_clause.proofs.Turning.{pick_one, run_passed}
use Rattle.prover_steps.specs.Clashing.{Held}
use Rattle.given_clause.proofs.picking.picked_from.Goals as goal

pub loop-left-preserved : goal.loop-left-preserved
loop-left-preserved c =
    c.loop-left.invariant
    ∙ run_passed c.args.guide.now.options (setting_of c.args.guide.now).weight c.args.waiting.now.held c.run_from.result c.min-run.result c.loop-left.left c.loop-left.n c.place_behind-n.result
    c.run_from.ensures c.loop-left-test.true c.min-run.ensures
    (sym c.picked_at.ensures ∙ ap (option_map (λ (h : Bor Held). h.now)) c.in-None.is)
    c.place_behind-n.ensures

pub returns-in-Some : goal.returns-in-Some
returns-in-Some c =
    pick_one c.args.guide.now.options (setting_of c.args.guide.now).weight c.args.waiting.now.held c.loop-left.left c.loop-left.n c.place_behind-turn.result c.in-Some.held.now c.loop-left-test.true
    (sym c.picked_at.ensures ∙ ap (option_map (λ (h : Bor Held). h.now)) c.in-Some.is) c.place_behind-turn.ensures
    ∙ sym c.loop-left.invariant
