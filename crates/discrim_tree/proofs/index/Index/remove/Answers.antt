use Rattle.std.proofs.Common.{◌≡◌, ◌∙◌, ◌<◌, ap, sym, subst, length, arith}
use Rattle.discrim_tree.specs.Entries.{without_entry}
use Rattle.discrim_tree.specs.View.{all_indexed}
use Rattle.discrim_tree.specs.declared.entry.IndexEntry.{IndexEntry}
use Rattle.discrim_tree.proofs.Told.{told_out}
use Rattle.discrim_tree.proofs.Only.{only_out}
use Rattle.discrim_tree.proofs.Ordered.{reached_out}
use Rattle.discrim_tree.proofs.Placing.{count_below, entry_out, none_past, none_to_take, rise_out}
use Rattle.discrim_tree.proofs.index.Index.remove.Goals as goal

pub invariant_of-self : goal.invariant_of-self
invariant_of-self c =
    let place = c.place_of-place in
    let es = c.self.inside.entries.items in
    let left = c.take_out.new.entries.items in
    let old = c.self.inside.nodes.items in
    let new = c.take_packed.new.self.items in
    let so = c.self.invariant in
    let entry = c.index-entry.result.now in
    let at = place.ensures ∙ ap (count_below c.args.number) c.deref.ensures.value in
    let within : c.place_of-place.result < length c.self.inside.entries.items = omega (arith, c.if-place-len.true, c.len.ensures) in
    let here = sym (ap (λ (e : IndexEntry). e.number) c.index-entry.ensures) ∙ c.if-entry-number.true in (
      rise_out c.args.number es place.result entry left c.take_out.ensures so.0 at within c.index-entry.ensures c.if-entry-number.true,
      reached_out c.args.number old new es left place.result c.take_out.ensures (ap all_indexed c.take_out.ensures ∙ entry_out c.args.number es place.result entry so.0 at within here)
          c.take_packed.ensures.others so.1,
      only_out old new es left place.result c.args.number entry c.take_out.ensures within c.index-entry.ensures c.if-entry-number.true c.take_packed.ensures.fewer c.take_packed.ensures.gone so.2,
      c.take_packed.ensures.tree so.3,
      c.take_packed.ensures.used so.3 so.4,
      told_out es left place.result c.take_out.ensures so.5,
    )

pub returns-else-entry-number : goal.returns-else-entry-number
returns-else-entry-number c =
    let place = c.place_of-place in
    subst (λ es. es ≡ without_entry c.args.number es) c.self.view_is
    (none_to_take c.args.number c.self.inside.entries.items place.result c.index-entry.result.now c.self.invariant.0 (place.ensures ∙ ap (count_below c.args.number) c.deref.ensures.value)
    (λ l s. c.if-entry-number.false (ap (λ (e : IndexEntry). e.number) c.index-entry.ensures ∙ s)))

pub returns-else-place-len : goal.returns-else-place-len
returns-else-place-len c =
    let place = c.place_of-place in
    subst (λ es. es ≡ without_entry c.args.number es) c.self.view_is
    (none_past c.args.number c.self.inside.entries.items place.result c.self.invariant.0 (place.ensures ∙ ap (count_below c.args.number) c.deref.ensures.value) (omega (arith, c.if-place-len.false, c.len.ensures)))
