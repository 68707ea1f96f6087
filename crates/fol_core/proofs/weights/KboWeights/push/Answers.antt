-- The row of a new name goes last.
use Rattle.std.proofs.Common.{◌≡◌, true, false, not, ◌++◌, [], ◌∷◌, sym, ap, ap₂, ◌∙◌}
use Rattle.std.specs.List.{zip}
use Rattle.fol_core.specs.KboRows.{is_weighed, with_weight}
use Rattle.fol_core.specs.NamesOnce.{is_in}
use Rattle.fol_core.proofs.KboLemmas.{weighed_in, row_put, there_stays, is_there, is_absent}
use Rattle.fol_core.proofs.NamesOnceLemmas as names
use Rattle.fol_core.proofs.weights.KboWeights.push.Goals as goal

pub returns-then-not-branch-clause-is_new : goal.returns-then-not-branch-clause-is_new
returns-then-not-branch-clause-is_new c =
    let there : is_in c.args.name.now c.self.inside.names ≡ true = is_there _ _ c.in_ok-push.ensures.is_new c.if-not-branch.true in
    sym (ap not (sym (ap (is_weighed c.args.name.now) c.self.view_is) ∙ weighed_in c.args.name.now c.self.inside.names c.self.inside.weights.items c.self.invariant ∙ there))

pub returns-then-not-branch-clause-ok : goal.returns-then-not-branch-clause-ok
returns-then-not-branch-clause-ok c =
    let there : is_in c.args.name.now c.self.inside.names ≡ true = is_there _ _ c.in_ok-push.ensures.is_new c.if-not-branch.true in
    let weighed : is_weighed c.args.name.now c.args.self.now ≡ true = sym (ap (is_weighed c.args.name.now) c.self.view_is) ∙ weighed_in c.args.name.now c.self.inside.names c.self.inside.weights.items c.self.invariant ∙ there in
    ap₂ zip (c.in_ok-push.ensures.ok ∙ sym (names.there_stays c.args.name.now c.self.inside.names there)) c.in_ok-reserve.ensures.items ∙ c.self.view_is
    ∙ there_stays c.args.name.now c.args.weight c.args.self.now weighed

pub returns-clause-is_new : goal.returns-clause-is_new
returns-clause-is_new c =
    let absent : is_in c.args.name.now c.self.inside.names ≡ false = is_absent _ _ c.in_ok-push.ensures.is_new c.if-not-branch.false in
    sym (ap not (sym (ap (is_weighed c.args.name.now) c.self.view_is) ∙ weighed_in c.args.name.now c.self.inside.names c.self.inside.weights.items c.self.invariant ∙ absent))

pub returns-clause-ok : goal.returns-clause-ok
returns-clause-ok c =
    let absent : is_in c.args.name.now c.self.inside.names ≡ false = is_absent _ _ c.in_ok-push.ensures.is_new c.if-not-branch.false in
    ap₂ zip c.in_ok-push.ensures.ok (c.push_reserved.ensures.items ∙ ap (λ l. l ++ c.args.weight ∷ []) c.in_ok-reserve.ensures.items)
    ∙ row_put c.self.inside.names c.self.inside.weights.items c.args.name.now c.args.weight c.self.invariant absent ∙ ap (with_weight c.args.name.now c.args.weight) c.self.view_is
