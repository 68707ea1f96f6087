use Rattle.std.proofs.Common.{◌≡◌, Bool, IfOk, subst, sym, ap, ◌∙◌}
use Rattle.std.specs.List.{list_any}
use Rattle.clause_index.specs.Subsumers.{is_long_above}
use Rattle.given_clause.proofs.Subsumed.{found_long, none_long}
use Rattle.given_clause.proofs.processing.is_subsumed_by_long.Goals as goal

pub returns-then-is_short : goal.returns-then-is_short
returns-then-is_short c = sym (none_long c.args.set.now c.args.clause.now (sym c.is_short.ensures ∙ c.if-is_short.true))

pub returns : goal.returns
returns c =
    subst (λ (x : Bool). IfOk c.has_long_above.result (λ b. b ≡ x))
    (ap (list_any (λ h. is_long_above c.args.clause.now h.now)) c.as_slice.ensures.value ∙ found_long c.args.clause.now c.args.set.now c.in_ok-held.held.items c.in_ok-held.ensures.found)
    c.has_long_above.ensures
