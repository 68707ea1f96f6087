-- A name that is one of those before it refuses the order.
use Rattle.std.proofs.Common.{◌≡◌, true, false, if◌then◌else◌, Some, None, [], ◌∷◌, ◌++◌, sym, ap, ◌∙◌, subst, take}
use Rattle.fol_core.specs.NamesOnce.{is_in, with_name, are_apart}
use Rattle.ladr_settings.proofs.OrderLemmas.{next_taken, next_new, next_twice, not_new, is_new}
use Rattle.ladr_settings.proofs.symbols.order_of.Goals as goal

pub returns-then-not-branch : goal.returns-then-not-branch
returns-then-not-branch c =
    let names = c.args.names.now in
    let name = c.name-item.result in
    let i = c.loop-name.name-index in
    let answered = not_new c.in_ok-push.field-0 (is_in c.bytes.result.now c.loop-name.order) c.in_ok-push.ensures.is_new c.if-not-branch.true in
    let there : is_in name (take i names) ≡ true = subst (λ l. is_in name l ≡ true) c.loop-name.invariant.0 (subst (λ n. is_in n c.loop-name.order ≡ true) c.bytes.ensures answered) in
    sym (ap (λ b. if b then Some names else None) (next_twice names i name c.loop-name-test.true c.name-item.is there))

pub loop-name-preserved : goal.loop-name-preserved
loop-name-preserved c =
    let names = c.args.names.now in
    let name = c.name-item.result in
    let i = c.loop-name.name-index in
    let order = c.loop-name.order in
    let answered = is_new c.in_ok-push.field-0 (is_in c.bytes.result.now order) c.in_ok-push.ensures.is_new c.if-not-branch.false in
    let new : is_in name order ≡ false = subst (λ n. is_in n order ≡ false) c.bytes.ensures answered in
    let put = c.in_ok-push.ensures.ok in
    let grown = put ∙ ap (λ n. with_name n order) c.bytes.ensures ∙ ap (λ b. if b then order else order ++ name ∷ []) new ∙ ap (λ l. l ++ name ∷ []) c.loop-name.invariant.0 ∙ next_taken names i name c.loop-name-test.true c.name-item.is in
    (grown, ap are_apart grown ∙ next_new names i name c.loop-name-test.true c.name-item.is (sym (ap are_apart c.loop-name.invariant.0) ∙ c.loop-name.invariant.1) (sym (ap (is_in name) c.loop-name.invariant.0) ∙ new))
