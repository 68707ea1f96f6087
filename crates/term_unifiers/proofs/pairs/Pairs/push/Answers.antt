-- The pairs with one more; or none, where there is no memory.
use Rattle.std.proofs.Common.{◌++◌, ◌∷◌, [], ap, ◌∙◌}
use Rattle.fol_core.specs.Substitutions.{substitute}
use Rattle.fol_core.specs.TermView.{tree_of}
use Rattle.substitutions.specs.Apart.{interleaved}
use Rattle.term_unifiers.specs.Renamed.{Equated}
use Rattle.term_unifiers.proofs.pairs.Pairs.push.Goals as goal

pub invariant_of-self-in-Err : goal.invariant_of-self-in-Err
invariant_of-self-in-Err c = c.no_pairs.ensures.even

pub returns-in-Ok-clause-many : goal.returns-in-Ok-clause-many
returns-in-Ok-clause-many c = ap (λ (e : Equated). e.many) c.self.view_is

pub returns-in-Err-clause-many : goal.returns-in-Err-clause-many
returns-in-Err-clause-many c = ap (λ (e : Equated). e.many) c.self.view_is

pub returns-in-Ok-clause-pairs : goal.returns-in-Ok-clause-pairs
returns-in-Ok-clause-pairs c =
    c.in-Ok.ensures.pairs
    ∙ ap (λ (e : Equated). e.pairs ++ (substitute (interleaved e.many c.args.i) (tree_of c.args.s.now), substitute (interleaved e.many c.args.j) (tree_of c.args.t.now)) ∷ []) c.self.view_is
