-- No words lead to it, by its size.
use Rattle.std.proofs.Common.{Some, map}
use Rattle.derivation.specs.View.{content_of, later_of, lines_of}
use Rattle.derivation.specs.declared.row.Row.TheVariants.{OtherClause}
use Rattle.proof_check.proofs.Alike.{after_numbered}
use Rattle.proof_check.proofs.instancing.after_large.Goals as goal

pub returns-then-not-may_lead : goal.returns-then-not-may_lead
returns-then-not-may_lead c =
    after_numbered (lines_of c.args.earlier.now) (map later_of c.args.words.now) c.args.large.now (content_of c.args.content.now) (Some OtherClause)
    (c.may_lead.ensures c.if-not-may_lead.true c.args.large.now c.measure.ensures (lines_of c.args.earlier.now))
