use Rattle.std.proofs.Common.{◌+◌, ◌-◌, ap, sym, ◌∙◌, arith}
use Rattle.cell_ranks.specs.Tournaments.{winner, winner_from}
use Rattle.cell_ranks.proofs.Winning.{first_taken, last_taken, halved}
use Rattle.cell_ranks.proofs.tournament.first_of.Goals as goal

pub loop-from-preserved-then-from-eq1 : goal.loop-from-preserved-then-from-eq1
loop-from-preserved-then-from-eq1 c =
    let at = c.loop-from in
    record {
      order = omega (arith, c.loop-from-test.true);
      some = λ more. omega arith;
      to = at.invariant.to;
      best =
          at.invariant.best ∙ first_taken c.args.scores.now c.args.nodes.now at.best at.from at.to c.loop-from-test.true
          ∙ ap (λ o. winner c.args.scores.now o (winner_from c.args.scores.now c.args.nodes.now (at.from + 1) (at.to - (at.from + 1)))) (sym c.winner-best.ensures);
    }

pub loop-from-preserved-then-to-eq1 : goal.loop-from-preserved-then-to-eq1
loop-from-preserved-then-to-eq1 c =
    let at = c.loop-from in
    record {
      order = omega (arith, c.loop-from-test.true);
      some = λ more. at.invariant.some c.loop-from-test.true;
      to = omega (arith, at.invariant.to);
      best =
          at.invariant.best ∙ last_taken c.args.scores.now c.args.nodes.now at.best at.from at.to c.loop-from-test.true
          ∙ ap (λ o. winner c.args.scores.now o (winner_from c.args.scores.now c.args.nodes.now at.from (at.to - 1 - at.from))) (sym c.winner-best-then-to-eq1.ensures);
    }

pub loop-from-preserved : goal.loop-from-preserved
loop-from-preserved c =
    let at = c.loop-from in
    record {
      order = omega (arith, at.invariant.order);
      some = λ more. omega (arith, c.if-from-eq1.false, at.invariant.some c.loop-from-test.true);
      to = omega (arith, at.invariant.to);
      best =
          at.invariant.best
          ∙ halved c.args.scores.now c.args.nodes.now at.best at.from at.to c.args.places c.requires.won c.loop-from-test.true (at.invariant.some c.loop-from-test.true) at.invariant.to (λ e. omega (arith, c.if-from-eq1.false, e)) (λ e. omega (arith, c.if-to-eq1.false, e));
    }
