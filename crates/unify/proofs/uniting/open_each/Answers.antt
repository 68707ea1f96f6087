-- One pair of arguments further.
use Rattle.std.proofs.Common.{◌<◌, ◌≤◌, length, arith}
use Rattle.term_bank.specs.declared.id.TermId.{TermId}
use Rattle.unify.proofs.Classes.{works_at, argument_equal, each_more, all_opened, goes_on}
use Rattle.unify.proofs.Pairs.{meets_before, alike_before}
use Rattle.unify.proofs.Staying.{opened_stays}
use Rattle.unify.proofs.uniting.open_each.Goals as goal

pub merge-requires : goal.merge-requires
merge-requires c =
    let zero : TermId = record { 0 = 0 } in
    let lt : c.loop-k.k < length c.args.left.now = omega (arith, c.loop-k-test.true) in
    works_at c.args.bank.now c.args.work.now c.loop-k.work c.args.link c.args.left.now c.args.right.now c.loop-k.k zero zero c.requires c.loop-k.invariant.goes c.loop-k.invariant.works lt

pub returns-then-not-merge-clause-joins : goal.returns-then-not-merge-clause-joins
returns-then-not-merge-clause-joins c =
    let zero : TermId = record { 0 = 0 } in
    let lt : c.loop-k.k < length c.args.left.now = omega (arith, c.loop-k-test.true) in
    λ u f e. c.if-not-merge.ensures.joins u (c.loop-k.invariant.every u f e) (argument_equal c.args.bank.now c.args.work.now c.args.link c.args.left.now c.args.right.now c.loop-k.k zero zero u c.requires lt e)

pub loop-k-preserved : goal.loop-k-preserved
loop-k-preserved c =
    let zero : TermId = record { 0 = 0 } in
    let lt : c.loop-k.k < length c.args.left.now = omega (arith, c.loop-k-test.true) in
    let j = c.if-not-merge.ensures.joins in
    record {
      works = j.works;
      goes = goes_on c.args.work.now c.loop-k.work c.merge.new.work c.loop-k.invariant.goes c.merge.ensures.goes;
      stays = opened_stays c.args.bank.now c.args.work.now c.loop-k.work c.merge.new.work c.args.link c.args.left.now c.args.right.now c.loop-k.k zero zero c.requires lt c.loop-k.invariant.stays c.if-not-merge.ensures.stays;
      every = λ u f e. j.every u (c.loop-k.invariant.every u f e) (argument_equal c.args.bank.now c.args.work.now c.args.link c.args.left.now c.args.right.now c.loop-k.k zero zero u c.requires lt e);
      alike = λ n u m l.
          each_more n u c.args.bank.now c.args.link.from.context c.args.link.to.context c.loop-k.k c.args.left.now c.args.right.now zero zero lt c.requires.even
          (c.loop-k.invariant.alike n u (meets_before u c.args.bank.now c.loop-k.work c.merge.new.work c.merge.ensures.goes m) (alike_before n u c.args.bank.now c.loop-k.work c.merge.new.work c.merge.ensures.goes l))
          (j.alike n u m l);
    }

pub returns-clause-joins : goal.returns-clause-joins
returns-clause-joins c =
    let le : length c.args.left.now ≤ c.loop-k.k = omega (arith, c.loop-k-test.false) in
    record {
      works = c.loop-k.invariant.works;
      every = c.loop-k.invariant.every;
      alike = λ n u m l. all_opened n c.loop-k.k u c.args.bank.now c.args.work.now c.args.link c.args.left.now c.args.right.now c.requires le (c.loop-k.invariant.alike n u m l);
    }
