use Rattle.std.proofs.Common.{◌++◌, map, ap, ◌∙◌}
use Rattle.std.specs.Option.{option_to_list}
use Rattle.given_clause.specs.States.{entry_of, state_of}
use Rattle.given_clause.proofs.stepping.step.Goals as goal

pub process_under_limits-requires-clause-unused : goal.process_under_limits-requires-clause-unused
process_under_limits-requires-clause-unused c =
    (c.steps_keep_order.ensures.queue (state_of c.args.search.now) (entry_of c.in-Some.queued) (map entry_of c.pop_front.new.self.items)
    (ap (map entry_of) (c.pop_front.ensures.items ∙ ap (λ o. option_to_list o ++ c.pop_front.new.self.items) c.in-Some.is)) c.requires.ordered).1
