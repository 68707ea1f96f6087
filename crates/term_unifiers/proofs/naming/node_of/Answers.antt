-- It is one of the first variables, or not.
use Rattle.std.specs.BTreeMap.{is_at}
use Rattle.std.specs.Map.{lookup}
use Rattle.std.specs.Ordering.{nat_cmp}
use Rattle.std.proofs.Common.{◌≡◌, ◌∙◌, ap, Some, None}
use Rattle.term_unifiers.proofs.Looking.{found_first, found_behind}
use Rattle.term_unifiers.proofs.naming.node_of.Goals as goal

pub returns-in-Some : goal.returns-in-Some
returns-in-Some c =
    let among : Some c.in-Some.n ≡ lookup (is_at (nat_cmp c.args.x)) c.args.variables.now.few.items = c.in-Some.ensures ∙ ap (lookup (is_at (nat_cmp c.args.x))) c.as_slice.ensures.value in
    found_first c.args.x c.in-Some.n c.args.variables.now.few.items c.args.variables.now.others.entries among

pub returns-in-None : goal.returns-in-None
returns-in-None c =
    let among : None ≡ lookup (is_at (nat_cmp c.args.x)) c.args.variables.now.few.items = c.in-None.ensures ∙ ap (lookup (is_at (nat_cmp c.args.x))) c.as_slice.ensures.value in
    c.copied.ensures ∙ c.get.ensures.value ∙ found_behind c.args.x c.args.variables.now.few.items c.args.variables.now.others.entries among
