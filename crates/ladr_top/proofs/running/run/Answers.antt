use Rattle.std.proofs.Common.{◌≡◌, ◌∙◌, [], true, false, Err, Some, refl, sym, ap, subst}
use Rattle.ladr_intake.specs.declared.stops.Stop.TheVariants as stops
use Rattle.ladr_io.proofs.StreamLaws.{Takes-none}
use Rattle.ladr_output.specs.declared.cut.Cut.TheVariants as cuts
use Rattle.ladr_top.proofs.Checked.{checked_by, none_checked, so_far_by, none_so_far}
use Rattle.ladr_top.proofs.Ended.{ran, ranged, only_made}
use Rattle.ladr_top.proofs.Lacking.{lacking, none_shown, none_accepted, none_refuted}
use Rattle.ladr_top.specs.Runs.{ReadNothing, RefusesWords}
use Rattle.ladr_words.specs.declared.task.Task.TheVariants as task
use Rattle.ladr_top.proofs.running.run.Goals as goal

pub returns-in-Ok-clause-untouched : goal.returns-in-Ok-clause-untouched
returns-in-Ok-clause-untouched g c = λ h.
    let made = only_made c.in-Ok.task (subst ReadNothing c.in-Ok.ensures.task h) in
    c.ended.ensures.untouched made.0 made.1

pub returns-in-Ok-clause-check : goal.returns-in-Ok-clause-check
returns-in-Ok-clause-check g c = λ e. ran _ c.in-Ok.task (task.Check) c.in-Ok.ensures.task e _ _ _ _ (g.C.Clock.times c.ended.new.clock) _ _ c.exit.ensures.cause c.ended.ensures.runs

pub returns-in-Ok-clause-proofs : goal.returns-in-Ok-clause-proofs
returns-in-Ok-clause-proofs g c = λ e.
    let run = ran _ c.in-Ok.task (task.Check) c.in-Ok.ensures.task e _ _ _ _ (g.C.Clock.times c.ended.new.clock) _ _ c.exit.ensures.cause c.ended.ensures.runs in
    c.checks_show.ensures.show _ _ _ _ run.0 run.1

pub returns-in-Ok-clause-clausetester : goal.returns-in-Ok-clause-clausetester
returns-in-Ok-clause-clausetester g c = λ e. ran _ c.in-Ok.task (task.Clausetester false) c.in-Ok.ensures.task e _ _ _ _ (g.C.Clock.times c.ended.new.clock) _ _ c.exit.ensures.cause c.ended.ensures.runs

pub returns-in-Ok-clause-filter : goal.returns-in-Ok-clause-filter
returns-in-Ok-clause-filter g c = λ e. ran _ c.in-Ok.task (task.Clausetester true) c.in-Ok.ensures.task e _ _ _ _ (g.C.Clock.times c.ended.new.clock) _ _ c.exit.ensures.cause c.ended.ensures.runs

pub returns-in-Ok-clause-mace4 : goal.returns-in-Ok-clause-mace4
returns-in-Ok-clause-mace4 g c = λ o e. ran _ c.in-Ok.task (task.Mace4 o) c.in-Ok.ensures.task e _ _ _ _ (g.C.Clock.times c.ended.new.clock) _ _ c.exit.ensures.cause c.ended.ensures.runs

pub returns-in-Ok-clause-models : goal.returns-in-Ok-clause-models
returns-in-Ok-clause-models g c = λ o e.
    let run = ran _ c.in-Ok.task (task.Mace4 o) c.in-Ok.ensures.task e _ _ _ _ (g.C.Clock.times c.ended.new.clock) _ _ c.exit.ensures.cause c.ended.ensures.runs in
    c.searches_show.ensures.show o (ranged _ c.in-Ok.task (task.Mace4 o) c.in-Ok.ensures.task e c.in-Ok.ensures.ranges) _ _ _ _ (g.C.Clock.times c.ended.new.clock) run.0 run.1

pub returns-in-Ok-clause-made : goal.returns-in-Ok-clause-made
returns-in-Ok-clause-made g c = λ n e. ran _ c.in-Ok.task (task.Made n) c.in-Ok.ensures.task e _ _ _ _ (g.C.Clock.times c.ended.new.clock) _ _ c.exit.ensures.cause c.ended.ensures.runs

pub returns-in-Ok-clause-prover9 : goal.returns-in-Ok-clause-prover9
returns-in-Ok-clause-prover9 g c = λ t e.
    let run = ran _ c.in-Ok.task (task.Prover9 t) c.in-Ok.ensures.task e _ _ _ _ (g.C.Clock.times c.ended.new.clock) _ _ c.exit.ensures.cause c.ended.ensures.runs in
    (run.0, run.1.0, run.2)

pub returns-in-Ok-clause-refutations : goal.returns-in-Ok-clause-refutations
returns-in-Ok-clause-refutations g c = λ t e.
    let run = ran _ c.in-Ok.task (task.Prover9 t) c.in-Ok.ensures.task e _ _ _ _ (g.C.Clock.times c.ended.new.clock) _ _ c.exit.ensures.cause c.ended.ensures.runs in
    c.proofs_show.ensures.show _ _ _ _ _ (g.C.Clock.times c.ended.new.clock) run.0 run.1.0

pub returns-in-Ok-clause-accepted : goal.returns-in-Ok-clause-accepted
returns-in-Ok-clause-accepted g c = λ t e.
    let run = ran _ c.in-Ok.task (task.Prover9 t) c.in-Ok.ensures.task e _ _ _ _ (g.C.Clock.times c.ended.new.clock) _ _ c.exit.ensures.cause c.ended.ensures.runs in
    checked_by c.outputs_are_accepted.ensures.accepted t _ _ _ _ (g.C.Clock.times c.ended.new.clock) run.0 _ run.1 run.2

pub returns-in-Ok-clause-accepted_so_far : goal.returns-in-Ok-clause-accepted_so_far
returns-in-Ok-clause-accepted_so_far g c = λ t e.
    let run = ran _ c.in-Ok.task (task.Prover9 t) c.in-Ok.ensures.task e _ _ _ _ (g.C.Clock.times c.ended.new.clock) _ _ c.exit.ensures.cause c.ended.ensures.runs in
    so_far_by c.outputs_are_accepted.ensures.so_far t _ _ _ _ (g.C.Clock.times c.ended.new.clock) run.0 _ run.1 run.2

pub returns-in-Ok-clause-clock : goal.returns-in-Ok-clause-clock
returns-in-Ok-clause-clock g c = λ m p. c.ended.ensures.clock (λ o e. m o (c.in-Ok.ensures.task ∙ ap Some e)) (λ t e. p t (c.in-Ok.ensures.task ∙ ap Some e))

pub returns-in-Err-NoCommand-clause-words : goal.returns-in-Err-NoCommand-clause-words
returns-in-Err-NoCommand-clause-words g c = λ e. subst (RefusesWords (g.K.Sink.outflow c.args.sink.now) (g.K.Sink.outflow c.refuse.new.sink)) (sym c.exit-in-Err-NoCommand.ensures.cause) c.refuse.ensures

pub returns-in-Err-Memory-clause-words : goal.returns-in-Err-Memory-clause-words
returns-in-Err-Memory-clause-words g c = λ e. (Err cuts.Memory, Takes-none _, c.exit-in-Err-Memory.ensures.cause)

pub returns-in-Err-Memory-clause-check : goal.returns-in-Err-Memory-clause-check
returns-in-Err-Memory-clause-check g c = λ e. (Err stops.Memory, lacking _ _ _ _ _ _ _ tt, c.exit-in-Err-Memory.ensures.cause)

pub returns-in-Err-Memory-clause-proofs : goal.returns-in-Err-Memory-clause-proofs
returns-in-Err-Memory-clause-proofs g c = λ e. none_accepted _ _

pub returns-in-Err-Memory-clause-clausetester : goal.returns-in-Err-Memory-clause-clausetester
returns-in-Err-Memory-clause-clausetester g c = λ e. (Err stops.Memory, lacking _ _ _ _ _ _ _ tt, c.exit-in-Err-Memory.ensures.cause)

pub returns-in-Err-Memory-clause-filter : goal.returns-in-Err-Memory-clause-filter
returns-in-Err-Memory-clause-filter g c = λ e. (Err stops.Memory, lacking _ _ _ _ _ _ _ tt, c.exit-in-Err-Memory.ensures.cause)

pub returns-in-Err-Memory-clause-mace4 : goal.returns-in-Err-Memory-clause-mace4
returns-in-Err-Memory-clause-mace4 g c = λ o e. (Err stops.Memory, lacking _ _ _ _ _ _ _ c.requires.unread, c.exit-in-Err-Memory.ensures.cause)

pub returns-in-Err-Memory-clause-models : goal.returns-in-Err-Memory-clause-models
returns-in-Err-Memory-clause-models g c = λ o e. none_shown o _ _ c.requires.source

pub returns-in-Err-Memory-clause-made : goal.returns-in-Err-Memory-clause-made
returns-in-Err-Memory-clause-made g c = λ n e. (Err cuts.Memory, ([], refl, Takes-none _), c.exit-in-Err-Memory.ensures.cause)

pub returns-in-Err-Memory-clause-prover9 : goal.returns-in-Err-Memory-clause-prover9
returns-in-Err-Memory-clause-prover9 g c = λ t e. (Err stops.Memory, lacking _ _ _ _ _ _ _ c.requires.unread, c.exit-in-Err-Memory.ensures.cause)

pub returns-in-Err-Memory-clause-refutations : goal.returns-in-Err-Memory-clause-refutations
returns-in-Err-Memory-clause-refutations g c = λ t e. none_refuted _ _

pub returns-in-Err-Memory-clause-accepted : goal.returns-in-Err-Memory-clause-accepted
returns-in-Err-Memory-clause-accepted g c = λ t e. none_checked _ _ _ _ _ c.exit-in-Err-Memory.ensures.cause

pub returns-in-Err-Memory-clause-accepted_so_far : goal.returns-in-Err-Memory-clause-accepted_so_far
returns-in-Err-Memory-clause-accepted_so_far g c = λ t e. none_so_far _ _ _
