-- The copy of a new name goes last.
use Rattle.std.proofs.Common.{◌≡◌, false, sym, ap, ◌∙◌}
use Rattle.fol_core.specs.NamesOnce.{is_in, with_name}
use Rattle.ladr_rules.specs.KeptNames.{names_of}
use Rattle.fol_core.proofs.NamesOnceLemmas.{there_stays}
use Rattle.ladr_rules.proofs.Keeping.{is_among, name_put}
use Rattle.ladr_rules.proofs.patterns.add_name.Goals as goal

pub returns-in_ok-insert : goal.returns-in_ok-insert
returns-in_ok-insert c =
    let names = names_of c.args.found.now.keys in
    let new : is_in c.args.name.now names ≡ false = sym (is_among c.args.name.now c.args.found.now.keys) ∙ sym c.contains.ensures ∙ c.if-not-contains.true in
    let put = name_put c.args.found.now.keys c.in_ok-from_slice.field-0 (ap (λ name. is_in name names) c.in_ok-from_slice.ensures.items ∙ new) in
    ap names_of c.in_ok-insert.ensures.keys ∙ put ∙ ap (λ name. with_name name names) c.in_ok-from_slice.ensures.items

pub returns-else-not-contains : goal.returns-else-not-contains
returns-else-not-contains c =
    there_stays c.args.name.now (names_of c.args.found.now.keys) (sym (is_among c.args.name.now c.args.found.now.keys) ∙ sym c.contains.ensures ∙ c.if-not-contains.false)
