use Rattle.std.proofs.Common.{◌∙◌, sym}
use Rattle.discrim_tree.proofs.Trees.{key_with, less_alike, pruned_less, used_apart, used_filled, used_less, used_unlinked}
use Rattle.discrim_tree.proofs.nodes.Nodes.prune.Goals as goal

pub returns-then-not-is_empty_at-clause-stays : goal.returns-then-not-is_empty_at-clause-stays
returns-then-not-is_empty_at-clause-stays c = λ no tree used.
    used_filled c.args.self.now.items c.args.at tree (c.is_empty_at.ensures.no c.if-not-is_empty_at.true) used

pub returns-in_err-above-clause-stays : goal.returns-in_err-above-clause-stays
returns-in_err-above-clause-stays c = λ no tree used.
    used_unlinked c.args.self.now.items c.args.at tree (sym c.above.ensures ∙ c.in_err-above.was) used

pub returns-in_err-edge-clause-stays : goal.returns-in_err-edge-clause-stays
returns-in_err-edge-clause-stays c = λ no tree used.
    used_apart c.args.self.now.items c.args.at c.in_ok-above.above tree (sym c.above.ensures ∙ c.in_ok-above.was) (c.step_to.ensures.none c.in_err-edge.was) used

pub returns-clause-alike : goal.returns-clause-alike
returns-clause-alike c =
    let more = c.args.self.now.items in
    let less = c.release.new.self.items in
    let above = c.in_ok-above.above in
    let edge = c.in_ok-edge.edge in
    let hung = c.in_ok-edge.ensures.step in
    let one = pruned_less above edge c.args.at more c.cut.new.self.items less hung (c.is_empty_at.ensures.yes c.if-not-is_empty_at.false) (c.cut.ensures.others (key_with more above edge c.args.at hung)) c.cut.ensures.gone c.release.ensures.updates in
    less_alike above edge c.args.at less more one

pub returns-clause-pruned : goal.returns-clause-pruned
returns-clause-pruned c = λ tree used.
    let more = c.args.self.now.items in
    let less = c.release.new.self.items in
    let above = c.in_ok-above.above in
    let edge = c.in_ok-edge.edge in
    let hung = c.in_ok-edge.ensures.step in
    let one = pruned_less above edge c.args.at more c.cut.new.self.items less hung (c.is_empty_at.ensures.yes c.if-not-is_empty_at.false) (c.cut.ensures.others (key_with more above edge c.args.at hung)) c.cut.ensures.gone c.release.ensures.updates in
    used_less above edge c.args.at less more one tree used
