-- What stands for the terms is made the same.
use Rattle.unify.proofs.Pairs.{can_join_at, merged_at}
use Rattle.unify.proofs.Staying.{merged_stays}
use Rattle.unify.proofs.joining.merge.Goals as goal

pub join-requires : goal.join-requires
join-requires c = can_join_at c.args.bank.now c.args.work.now c.args.s c.args.t c.stand-p.result c.stand-q.result c.requires c.stand-p.ensures c.stand-q.ensures

pub returns-clause-joins : goal.returns-clause-joins
returns-clause-joins c =
    merged_at c.args.bank.now c.args.work.now c.join.new.work c.args.s c.args.t c.stand-p.result c.stand-q.result c.join.result c.join.ensures.goes c.stand-p.ensures c.stand-q.ensures c.join.ensures.joins

pub returns-clause-stays : goal.returns-clause-stays
returns-clause-stays c =
    merged_stays c.args.bank.now c.args.work.now c.join.new.work c.args.s c.args.t c.stand-p.result c.stand-q.result c.join.result c.stand-p.ensures c.stand-q.ensures c.join.ensures.stays
