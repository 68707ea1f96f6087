use Rattle.std.proofs.Common.{ap, ◌∙◌}
use Rattle.clause_index.specs.Sets.{all_in}
use Rattle.fol_core.specs.Renumbered.{renumbered}
use Rattle.held_clauses.specs.Order.{greater_of}
use Rattle.demodulate.proofs.Smaller.{tidied_small}
use Rattle.prover_steps.specs.Searching.{is_too_large}
use Rattle.prover_steps.specs.Shortening.{followed_by, put_in_order}
use Rattle.demodulate.proofs.tidying.tidy.Goals as goal

pub returns-clause-small : goal.returns-clause-small
returns-clause-small c = λ h.
    ap is_too_large (c.in_ok-clause-2.ensures ∙ ap (λ s. renumbered s.clause) c.in_ok-clause.ensures.ordered
    ∙ ap (λ s. renumbered (followed_by s (put_in_order (greater_of c.args.precedence.now) c.args.options.now.unit_deletion (all_in c.args.held.now))).clause) c.in_ok-rewritten.ensures.normal)
    ∙ tidied_small (greater_of c.args.precedence.now) c.args.options.now.unit_deletion c.args.rules.now (all_in c.args.held.now) c.args.options.now.demod_step_limit c.args.clause h
