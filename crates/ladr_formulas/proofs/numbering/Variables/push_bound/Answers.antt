use Rattle.std.proofs.Common.{◌∙◌, ◌++◌, ◌∷◌, [], List, ℕ, Bool, false, sym, ap, subst}
use Rattle.std.specs.Map.{keys_of}
use Rattle.std.specs.Prelude.{not}
use Rattle.std.proofs.lemmas.Bool.{cond-true}
use Rattle.ladr_formulas.proofs.NumberingLemmas.{bound_more}
use Rattle.ladr_formulas.specs.Formulas.{Variable}
use Rattle.ladr_formulas.specs.Numbering.{woven, AreNumbered}
use Rattle.ladr_formulas.proofs.numbering.Variables.push_bound.Goals as goal

pub invariant_of-self-else-is_err : goal.invariant_of-self-else-is_err
invariant_of-self-else-is_err c =
    let ks = c.self.inside.are_free.items in
    let es = c.self.inside.free.entries in
    let bs = c.self.inside.bound.items in
    let put = c.push-2.ensures.items ∙ cond-true _ _ _ (c.is_err.ensures.negation ∙ ap not c.if-is_err.false) in
    subst (λ (us : List Bool). AreNumbered us es c.push-2.new.self.items) (sym c.in_ok-push.ensures.items)
    (subst (λ (us : List (List ℕ)). AreNumbered (ks ++ false ∷ []) es us) (sym put) (bound_more ks es bs c.args.name c.self.invariant).0)

pub returns : goal.returns
returns c =
    let es = c.self.inside.free.entries in
    let put = c.push-2.ensures.items ∙ cond-true _ _ _ (c.is_err.ensures.negation ∙ ap not c.if-is_err.false) in
    (λ i. woven (c.in_ok-push.ensures.items i) (keys_of es) (put i)) ∙ (bound_more c.self.inside.are_free.items es c.self.inside.bound.items c.args.name c.self.invariant).1 ∙
    ap (λ (l : List Variable). l ++ record { name = c.args.name; free = false } ∷ []) c.self.view_is
