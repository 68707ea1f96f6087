use Rattle.std.proofs.Common.{ℕ, ◌++◌, List, sym, ap, subst, ◌∙◌}
use Rattle.std.specs.List.{Contains}
use Rattle.std.proofs.lemmas.List.Elements.{Contains-append_left, Contains-append_right}
use Rattle.clause_index.specs.Filing.{HasAllSuch}
use Rattle.clause_index.specs.declared.parts.Part.TheVariants.{Atoms}
use Rattle.discrim_tree.specs.Seeking.{passes}
use Rattle.fol_core.specs.TermView.{tree_of}
use Rattle.prover_steps.specs.Clashing.{Held}
use Rattle.clause_index.proofs.Filed.{atoms_covered}
use Rattle.clause_index.proofs.held_set.HeldSet.near_atoms.Goals as goal

pub returns-clause-found : goal.returns-clause-found
returns-clause-found c =
    let passing = passes c.args.sought.now (tree_of c.args.t.now) in
    let long = c.in_ok-long.long.items in
    let short = c.in_ok-numbers.numbers.items in
    let is = c.in_ok-extend_from_slice.ensures.items ∙ ap (λ (ns : List ℕ). short ++ ns) c.as_slice.ensures.value in
    let numbers = c.put_in_order.new.numbers.items in
    subst (λ (hs : List Held). HasAllSuch (Atoms c.args.sign) passing hs numbers) c.self.view_is
    (atoms_covered c.self.inside.finder c.args.sign passing short long numbers c.self.inside.listed
    (λ n there. c.put_in_order.ensures.kept n (subst (λ (ns : List ℕ). Contains ns n) (sym is) (Contains-append_left short long n there)))
    (λ n there. c.put_in_order.ensures.kept n (subst (λ (ns : List ℕ). Contains ns n) (sym is) (Contains-append_right short long n there)))
    c.in_ok-numbers.ensures.found c.in_ok-long.ensures.found c.self.invariant)
