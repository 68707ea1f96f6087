use Rattle.std.proofs.Common.{◌≡◌, OnOk, [], ◌∷◌, subst, sym, ap, ◌∙◌}
use Rattle.std.specs.List.{AllByRecursion}
use Rattle.given_clause.specs.Guides.{setting_of}
use Rattle.given_clause.specs.Noted.{AreNoted}
use Rattle.given_clause.specs.States.{queued_of, state_of}
use Rattle.prover_steps.specs.HeldOrder.{IsInOrder, IsUnusedIn, input_numbers}
use Rattle.prover_steps.specs.Searching.{settled}
use Rattle.given_clause.proofs.Settling.{processes_small}
use Rattle.given_clause.proofs.processing.process_built.Goals as goal

pub settle-requires-clause-ordered : goal.settle-requires-clause-ordered
settle-requires-clause-ordered c = subst IsInOrder (sym c.tidied.ensures.state) c.requires.ordered

pub settle-requires-clause-unused : goal.settle-requires-clause-unused
settle-requires-clause-unused c =
    subst (λ t. AllByRecursion (IsUnusedIn t) (input_numbers (queued_of c.in_ok-queued.queued ∷ []))) (sym c.tidied.ensures.state)
    (subst (λ q. AllByRecursion (IsUnusedIn (state_of c.args.search.now)) (input_numbers (q ∷ []))) (sym c.in_ok-queued.ensures.tidied) c.requires.unused)

pub settle-requires-clause-noted : goal.settle-requires-clause-noted
settle-requires-clause-noted c = subst (AreNoted (setting_of c.args.guide.now)) (sym c.tidied.ensures.waiting) c.requires.noted

pub returns-clause-state : goal.returns-clause-state
returns-clause-state c =
    let st = setting_of c.args.guide.now in
    let s = state_of c.args.search.now in
    subst (λ t. OnOk c.settle.result (state_of c.settle.new.search ≡ t))
    (ap (λ t. settled st t (queued_of c.in_ok-queued.queued)) c.tidied.ensures.state
    ∙ ap (settled st s) c.in_ok-queued.ensures.tidied ∙ sym (processes_small st s (queued_of c.args.queued) (sym c.is_too_large.ensures ∙ c.if-is_too_large.false)))
    c.settle.ensures.state
