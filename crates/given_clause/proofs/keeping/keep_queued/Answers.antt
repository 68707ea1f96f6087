use Rattle.std.proofs.Common.{ℕ, subst, sym, ap, ◌∙◌}
use Rattle.given_clause.specs.States.{queued_of, state_of}
use Rattle.prover_steps.specs.Clashing.{Held}
use Rattle.prover_steps.specs.HeldOrder.{numbers_of, IsNoneOf, IsUnusedIn}
use Rattle.prover_steps.specs.Searching.{SearchState, number_for}
use Rattle.given_clause.proofs.keeping.keep_queued.Goals as goal

pub keep-requires-clause-not_waiting : goal.keep-requires-clause-not_waiting
keep-requires-clause-not_waiting c =
    let s = state_of c.args.search.now in
    let q = queued_of c.args.queued in
    subst (λ (n : ℕ). IsNoneOf n (numbers_of c.keep_line.new.search.waiting.held)) (sym (ap (λ (h : Held). h.number) (c.in_ok-copy.ensures ∙ c.in_ok-held.ensures.held)))
    (subst (λ (t : SearchState). IsUnusedIn t (number_for s q)) (sym c.in_ok-held.ensures.state) (c.steps_keep_order.ensures.line s q c.requires.ordered c.requires.unused).1).not_waiting

pub keep-requires-clause-not_usable : goal.keep-requires-clause-not_usable
keep-requires-clause-not_usable c =
    let s = state_of c.args.search.now in
    let q = queued_of c.args.queued in
    subst (λ (n : ℕ). IsNoneOf n (numbers_of c.keep_line.new.search.usable)) (sym (ap (λ (h : Held). h.number) (c.in_ok-copy.ensures ∙ c.in_ok-held.ensures.held)))
    (subst (λ (t : SearchState). IsUnusedIn t (number_for s q)) (sym c.in_ok-held.ensures.state) (c.steps_keep_order.ensures.line s q c.requires.ordered c.requires.unused).1).not_usable
