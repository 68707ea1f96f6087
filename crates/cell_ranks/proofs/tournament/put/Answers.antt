use Rattle.std.proofs.Common.{◌∙◌, ◌/◌, arith}
use Rattle.std.proofs.lemmas.List.{length-set}
use Rattle.cell_ranks.proofs.Winning.{all_won, won_up, put_still}
use Rattle.cell_ranks.proofs.tournament.put.Goals as goal

pub returns-then-stands-clause-won : goal.returns-then-stands-clause-won
returns-then-stands-clause-won c =
    let at = c.loop-at.invariant in
    all_won c.args.scores.now c.loop-at.nodes.items c.args.places at.length c.loop-at.at c.loop-at-test.true at.to at.won c.winner_above-won.result c.winner_above-won.ensures c.if-stands.ensures

pub loop-at-preserved : goal.loop-at-preserved
loop-at-preserved c =
    let at = c.loop-at.invariant in
    record {
      length = length-set c.loop-at.nodes.items (c.loop-at.at / 2) c.winner_above-won.result ∙ at.length;
      from = omega (arith, c.loop-at-test.true);
      to = omega (arith, at.to);
      won = won_up c.args.scores.now c.loop-at.nodes.items c.args.places at.length c.loop-at.at c.loop-at-test.true at.to at.won c.winner_above-won.result c.winner_above-won.ensures;
      put = put_still c.args.scores.now c.loop-at.nodes.items c.args.places at.length c.loop-at.at c.loop-at-test.true at.to at.won c.winner_above-won.result c.winner_above-won.ensures c.args.nodes.now.items c.args.place c.args.cell at.put;
    }
