-- One argument further.
use Rattle.std.proofs.Common.{◌≡◌, true, slice_index_or}
use Rattle.term_bank.specs.declared.id.TermId.{TermId}
use Rattle.unify.proofs.Becoming.{theirs_more, theirs_lack}
use Rattle.unify.proofs.Closing.{in_at}
use Rattle.unify.proofs.instancing.gather.Goals as goal
use Rattle.unify.proofs.instancing.gather.Goals.{in-Some+in_ok-push-in-Some, in-None}

pub image_or_wait-requires-clause-argument : goal.image_or_wait-requires-clause-argument
image_or_wait-requires-clause-argument c =
    let zero : TermId = record { 0 = 0 } in
    c.requires.arguments (slice_index_or c.args.arguments.now c.loop-term.term-index zero) (in_at c.args.arguments.now c.loop-term.term-index zero c.loop-term-test.true)

pub loop-term-preserved : goal.loop-term-preserved
loop-term-preserved c =
    let zero : TermId = record { 0 = 0 } in
    record {
      loose = c.in_ok-id.ensures.loose;
      theirs = elim c.match-branch-2.branch [
        | in-Some+in_ok-push-in-Some w ↦ (let e : c.match-branch-2.ids.items ≡ w.push.new.self.items = cc in
            theirs_more c.args.bank.now c.args.bound.now.items c.args.context c.loop-term.term-index c.args.arguments.now c.loop-term.ids.items c.match-branch-2.ids.items zero w.in-Some.id c.loop-term.lacks c.match-branch-2.lacks
            c.loop-term-test.true c.loop-term.invariant.theirs (rw w.in-Some.is at c.in_ok-id.ensures.image) (cc (e, w.in_ok-push-in-Some.ensures.items)) w.lacks-is)
        | in-None w ↦ theirs_lack c.args.bank.now c.args.bound.now.items c.args.context _ c.match-branch-2.ids.items c.match-branch-2.lacks w.lacks-is
      ];
    }
