-- What the word comes to.
use Rattle.std.proofs.Common.{[], map, arith}
use Rattle.std.proofs.lemmas.Grind.{common_steps}
use Rattle.derivation.specs.View.{later_of}
use Rattle.demodulate.proofs.Worded.{merge_done, merge_misplaced, merge_differs}
use Rattle.demodulate.proofs.ordering.merge_at.Goals as goal

pub returns-in_ok-push-in-Done : goal.returns-in_ok-push-in-Done
returns-in_ok-push-in-Done c =
    merge_done c.args.clause.now (map later_of c.args.words.now.items) c.args.place c.requires c.merge.new.clause (map later_of c.push.new.self.items) (c.in-Done.ensures.follows []) (grind (arith, common_steps, c.in_ok-push-in-Done.ensures.items))

pub returns-in-Misplaced : goal.returns-in-Misplaced
returns-in-Misplaced c = merge_misplaced c.args.clause.now (map later_of c.args.words.now.items) c.args.place c.requires c.merge.new.clause (c.in-Misplaced.ensures.follows [])

pub returns-in-Differs : goal.returns-in-Differs
returns-in-Differs c = merge_differs c.args.clause.now (map later_of c.args.words.now.items) c.args.place c.requires c.merge.new.clause (c.in-Differs.ensures.follows [])
