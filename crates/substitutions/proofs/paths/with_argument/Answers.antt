use Rattle.std.proofs.Common.{◌≡◌, ◌∙◌, ◌+◌, ◌-◌, ◌<◌, ◌++◌, ◌∷◌, [], ap, arith, length, take, drop}
use Rattle.std.proofs.lemmas.Result.{IfOk-weaker}
use Rattle.fol_core.specs.Tree.{trees_of}
use Rattle.fol_core.specs.TermView.{tree_of, tree_list}
use Rattle.substitutions.specs.Paths.{with_argument}
use Rattle.substitutions.proofs.PathLemmas.{with_argument_made, behind}
use Rattle.substitutions.proofs.paths.with_argument.Goals as goal

pub returns : goal.returns
returns c =
    let all = c.as_slice-all.result.now in
    let k = c.args.number in
    let above : 0 < k = omega arith in
    IfOk-weaker c.between.result
    (λ made. made ≡ (tree_list (take (k - 1) all) ++ tree_of c.args.new ∷ []) ++ tree_list (take (length all - (k - 1 + 1)) (drop (k - 1 + 1) all)))
    (λ made. trees_of made ≡ with_argument (λ _. tree_of c.args.new) (trees_of c.args.terms.now) k)
    (λ made is. with_argument_made (tree_of c.args.new) all k made above c.if-number-all.false
    (is ∙ ap (λ ts. (tree_list (take (k - 1) all) ++ tree_of c.args.new ∷ []) ++ tree_list ts) (behind all k above))
    ∙ ap (λ ts. with_argument (λ _. tree_of c.args.new) (trees_of ts) k) c.as_slice-all.ensures.trees)
    c.between.ensures
