use Rattle.std.proofs.Common.{ℕ, List, length, ◌∙◌, ap, subst, sym}
use Rattle.std.specs.Prelude.{◌≡◌, IfOk}
use Rattle.std.proofs.lemmas.List.{length-map}
use Rattle.fol_core.specs.RawTree.{RawTree}
use Rattle.fol_core.specs.RawView.{raw_of, raw_list}
use Rattle.ladr_distinct.specs.Formula.{halved, distinct_formula}
use Rattle.ladr_distinct.proofs.formula.distinct_formula.Goals as goal

pub returns : goal.returns
unfolding distinct_formula
returns c =
    let items = c.in_ok-parts.parts.items in
    subst (λ (x : RawTree). IfOk c.halved.result (λ raw. raw_of raw ≡ x))
    (ap (λ (n : ℕ). halved n (raw_list items)) (sym (length-map items raw_of)) ∙ ap (λ (ts : List RawTree). halved (length ts) ts) c.in_ok-parts.ensures)
    c.halved.ensures
