use Rattle.std.proofs.Common.{◌≡◌, OnOk, [], ◌∷◌, subst, sym, ap, ap₂, ◌∙◌}
use Rattle.std.specs.List.{AllByRecursion}
use Rattle.given_clause.specs.Guides.{setting_of}
use Rattle.given_clause.specs.Noted.{AreNoted}
use Rattle.given_clause.specs.States.{queued_of, state_of}
use Rattle.prover_steps.specs.HeldOrder.{IsInOrder, IsUnusedIn, input_numbers}
use Rattle.prover_steps.specs.Searching.{after_kept, held_for, keeps, with_line}
use Rattle.given_clause.proofs.Settling.{kept_in_order, settles_kept}
use Rattle.given_clause.proofs.processing.settle.Goals as goal

pub keep_queued-requires-clause-ordered : goal.keep_queued-requires-clause-ordered
keep_queued-requires-clause-ordered c = subst IsInOrder (sym c.is_no_use.ensures.state) c.requires.ordered

pub keep_queued-requires-clause-unused : goal.keep_queued-requires-clause-unused
keep_queued-requires-clause-unused c = subst (λ t. AllByRecursion (IsUnusedIn t) (input_numbers (queued_of c.args.queued ∷ []))) (sym c.is_no_use.ensures.state) c.requires.unused

pub keep_queued-requires-clause-noted : goal.keep_queued-requires-clause-noted
keep_queued-requires-clause-noted c = subst (AreNoted (setting_of c.args.guide.now)) (sym c.is_no_use.ensures.waiting) c.requires.noted

pub after_kept-requires-clause-ordered : goal.after_kept-requires-clause-ordered
after_kept-requires-clause-ordered c =
    let same = sym c.is_no_use.ensures.state in
    (kept_in_order c.steps_keep_order.ensures.line c.steps_keep_order.ensures.keeping (state_of c.is_no_use.new.search) (state_of c.keep_queued.new.search) (queued_of c.args.queued) c.in_ok-held.held
    (subst IsInOrder same c.requires.ordered) (subst (λ t. AllByRecursion (IsUnusedIn t) (input_numbers (queued_of c.args.queued ∷ []))) same c.requires.unused) c.in_ok-held.ensures.held c.in_ok-held.ensures.kept).0

pub after_kept-requires-clause-no_rule : goal.after_kept-requires-clause-no_rule
after_kept-requires-clause-no_rule c =
    let same = sym c.is_no_use.ensures.state in
    (kept_in_order c.steps_keep_order.ensures.line c.steps_keep_order.ensures.keeping (state_of c.is_no_use.new.search) (state_of c.keep_queued.new.search) (queued_of c.args.queued) c.in_ok-held.held
    (subst IsInOrder same c.requires.ordered) (subst (λ t. AllByRecursion (IsUnusedIn t) (input_numbers (queued_of c.args.queued ∷ []))) same c.requires.unused) c.in_ok-held.ensures.held c.in_ok-held.ensures.kept).1

pub returns-clause-state : goal.returns-clause-state
returns-clause-state c =
    let st = setting_of c.args.guide.now in
    let s = state_of c.args.search.now in
    let q = queued_of c.args.queued in
    subst (λ t. OnOk c.after_kept.result (state_of c.after_kept.new.search ≡ t))
    (ap₂ (after_kept st) c.in_ok-held.ensures.kept c.in_ok-held.ensures.held
    ∙ ap (λ t. after_kept st (keeps (with_line t q) (held_for t q) q.usable) (held_for t q)) c.is_no_use.ensures.state
    ∙ sym (settles_kept st s q (λ e. c.if-len-eq0.false (c.len.ensures ∙ e)) (sym c.in_ok-is_no_use.ensures.no_use ∙ c.if-branch.false)))
    c.after_kept.ensures.state
