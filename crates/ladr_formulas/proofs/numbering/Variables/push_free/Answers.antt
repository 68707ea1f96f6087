use Rattle.std.proofs.Common.{◌≡◌, ◌∙◌, ◌++◌, ◌∷◌, [], List, ℕ, Bool, None, true, sym, ap, subst, arith}
use Rattle.std.specs.Map.{keys_of}
use Rattle.std.specs.Prelude.{not}
use Rattle.ladr_formulas.proofs.NumberingLemmas.{free_more, on_ok_holds}
use Rattle.ladr_formulas.specs.Formulas.{free_number}
use Rattle.ladr_formulas.specs.Numbering.{ShortName, woven, AreNumbered}
use Rattle.ladr_formulas.proofs.numbering.Variables.push_free.Goals as goal

-- the table has the new name under the number of the new variable
pub invariant_of-self-else-is_err : goal.invariant_of-self-else-is_err
invariant_of-self-else-is_err c =
    let ks = c.self.inside.are_free.items in
    let es = c.self.inside.free.entries in
    let bs = c.self.inside.bound.items in
    let put = on_ok_holds _ _ (c.is_err.ensures.negation ∙ ap not c.if-is_err.false) c.insert.ensures.entries in
    let fresh : free_number 0 (woven ks (keys_of es) bs) c.in_ok-key.key.items ≡ None = (λ i. free_number 0 (c.self.view_is i) (c.in_ok-key.ensures.ok i)) ∙ c.requires in
    subst (λ (us : List Bool). AreNumbered us c.insert.new.self.entries bs) (sym c.in_ok-push.ensures.items)
    (subst (λ (us : List (ShortName × ℕ)). AreNumbered (ks ++ true ∷ []) us bs) (sym put)
    (free_more ks es bs c.in_ok-key.key c.len-number.result (omega (arith, c.self.inside.are_free.ok.0)) fresh c.self.invariant).0)

pub returns : goal.returns
returns c =
    let ks = c.self.inside.are_free.items in
    let es = c.self.inside.free.entries in
    let bs = c.self.inside.bound.items in
    let put = on_ok_holds _ _ (c.is_err.ensures.negation ∙ ap not c.if-is_err.false) c.insert.ensures.entries in
    let fresh : free_number 0 (woven ks (keys_of es) bs) c.in_ok-key.key.items ≡ None = (λ i. free_number 0 (c.self.view_is i) (c.in_ok-key.ensures.ok i)) ∙ c.requires in
    (λ i. woven (c.in_ok-push.ensures.items i) (keys_of (put i)) bs) ∙
    (free_more ks es bs c.in_ok-key.key c.len-number.result (omega (arith, c.self.inside.are_free.ok.0)) fresh c.self.invariant).1 ∙
    (λ i. c.self.view_is i ++ record { name = c.in_ok-key.ensures.ok i; free = true } ∷ [])
