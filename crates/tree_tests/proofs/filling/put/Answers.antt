use Rattle.std.proofs.Common.{◌∙◌, ◌≤◌, ◌<◌, ap, arith}
use Rattle.fol_core.specs.TermView.{tree_of}
use Rattle.discrim_tree.specs.Entries.{has_number}
use Rattle.tree_tests.proofs.Free.{free_on, not_less, next_above}
use Rattle.tree_tests.proofs.filling.put.Goals as goal

pub insert-requires : goal.insert-requires
insert-requires c = c.requires c.args.number (not_less c.args.number)

pub returns : goal.returns
returns c = λ n h.
    ap (has_number n) c.in_ok-insert.ensures.ok
    ∙ free_on c.args.number (tree_of c.args.term.now) c.args.index.now n (next_above c.args.number n h) (c.requires n (omega (arith, h)))
