use Rattle.std.proofs.Common.{List, refl, sym, subst, ◌∙◌}
use Rattle.std.specs.List.{Contains}
use Rattle.clause_index.specs.Filing.{HasAllSuch}
use Rattle.discrim_tree.specs.Seeking.{passes}
use Rattle.fol_core.specs.TermView.{tree_of}
use Rattle.prover_steps.specs.Clashing.{Held}
use Rattle.prover_steps.specs.HeldOrder.{numbers_of}
use Rattle.clause_index.proofs.Filed.{all_covered, all_numbers}
use Rattle.clause_index.proofs.Subsumers.{ok_so}
use Rattle.clause_index.proofs.held_set.HeldSet.near_terms.Goals as goal

pub returns-then-keeps-clause-found : goal.returns-then-keeps-clause-found
returns-then-keeps-clause-found c =
    let passing = passes c.args.sought.now (tree_of c.args.t.now) in
    ok_so c.numbers.result _ (λ ns. HasAllSuch c.args.part.now passing c.args.self.now ns.items)
    (λ ns found. subst (λ (hs : List Held). HasAllSuch c.args.part.now passing hs ns.items) c.self.view_is
    (all_covered c.self.inside.finder c.args.part.now passing ns.items c.self.inside.listed c.requires found c.self.invariant))
    c.numbers.ensures.found

pub returns-clause-found : goal.returns-clause-found
returns-clause-found c =
    let numbers = c.in_ok-numbers.numbers.items in
    all_numbers c.args.part.now (passes c.args.sought.now (tree_of c.args.t.now)) c.args.self.now (numbers_of c.args.self.now) numbers refl
    (λ n there. c.in_ok-numbers.ensures.all n (subst (λ (hs : List Held). Contains (numbers_of hs) n) (sym (c.as_slice.ensures.clauses ∙ c.self.view_is)) there))
