use Rattle.std.proofs.Common.{List, [], ◌∷◌, ◌++◌, ap, ◌∙◌}
use Rattle.fol_core.specs.RawTree.{RawTree, named, raws_of}
use Rattle.fol_core.specs.RawView.{raw_of}
use Rattle.ladr_reader.proofs.Disjunctions.{nested_more}
use Rattle.ladr_reader.proofs.disjuncts.nested.Goals as goal

pub loop-disjunct-preserved : goal.loop-disjunct-preserved
loop-disjunct-preserved c =
    let arguments = c.in_ok-push-2.ensures.ok ∙ ap (λ (ts : List RawTree). ts ++ raw_of c.loop-disjunct.tree ∷ []) (c.in_ok-push.ensures.ok ∙ ap (λ (ts : List RawTree). ts ++ raw_of c.in-Some.disjunct ∷ []) c.new-arguments.ensures) in
    nested_more c.loop-disjunct.yielded c.in-Some.disjunct (raw_of c.args.last) (raw_of c.loop-disjunct.tree) _ c.loop-disjunct.invariant
    (λ i. named (c.in_ok-from_slice.ensures i) (raws_of (arguments i)))
