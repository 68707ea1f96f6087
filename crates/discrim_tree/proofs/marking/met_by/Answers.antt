use Rattle.std.proofs.Common.{◌∙◌, sym, subst, ℕ}
use Rattle.discrim_tree.specs.Marking.{MeetsBehind}
use Rattle.discrim_tree.proofs.Marked.{same_mark}
use Rattle.discrim_tree.proofs.marking.met_by.Goals as goal

pub returns-in-Symbol : goal.returns-in-Symbol
returns-in-Symbol c = λ rise m e.
    subst (λ (k : ℕ). MeetsBehind c.args.marks.now c.args.met k c.met_behind.result) (same_mark c.in-Symbol.mark m c.in-Symbol.field-1 (sym c.in-Symbol.is ∙ e)) (c.met_behind.ensures rise)
