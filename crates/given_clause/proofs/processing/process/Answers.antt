-- What was built is processed, and what wasn't is too large.
use Rattle.std.proofs.Common.{◌≡◌, OnOk, [], ◌∷◌, subst, sym}
use Rattle.std.specs.List.{AllByRecursion}
use Rattle.given_clause.specs.Guides.{setting_of}
use Rattle.given_clause.specs.States.{entry_of, state_of}
use Rattle.prover_steps.specs.HeldOrder.{IsUnusedIn, input_numbers}
use Rattle.prover_steps.specs.Searching.{processed}
use Rattle.given_clause.proofs.Settling.{processes_large}
use Rattle.given_clause.proofs.processing.process.Goals as goal

pub process_built-requires-clause-unused : goal.process_built-requires-clause-unused
process_built-requires-clause-unused c = subst (λ e. AllByRecursion (IsUnusedIn (state_of c.args.search.now)) (input_numbers (entry_of e ∷ []))) c.in-Built.is c.requires.unused

pub returns-in-Built-clause-state : goal.returns-in-Built-clause-state
returns-in-Built-clause-state c =
    let st = setting_of c.args.guide.now in
    let s = state_of c.args.search.now in
    subst (λ e. OnOk c.process_built.result (state_of c.process_built.new.search ≡ processed st s (entry_of e))) (sym c.in-Built.is) c.process_built.ensures.state

pub returns-clause-state : goal.returns-clause-state
returns-clause-state c =
    processes_large (setting_of c.args.guide.now) (state_of c.args.search.now) c.args.entry c.in-Large.clause c.in-Large.field-1 c.counted_on-search.result c.in-Large.is c.exceeds_limits.ensures
    c.counted_on-search.ensures
