use Rattle.std.proofs.Common.{◌++◌, List, ℕ, ap, ◌∙◌}
use Rattle.discrim_tree.specs.Seeking.{passes}
use Rattle.fol_core.specs.TermView.{tree_of}
use Rattle.clause_index.proofs.Filed.{all_near}
use Rattle.clause_index.proofs.held_set.HeldSet.add_near.Goals as goal

pub returns : goal.returns
returns c =
    let passing = passes c.args.sought.now (tree_of c.args.t.now) in
    let found = c.in_ok-found.found.items in
    record {
      added = found;
      behind = c.in_ok-extend_from_slice.ensures.items ∙ ap (λ (ns : List ℕ). c.args.numbers.now.items ++ ns) c.as_slice.ensures.value;
      all = all_near c.args.part.now passing found c.args.self.now c.in_ok-found.ensures.found;
    }
