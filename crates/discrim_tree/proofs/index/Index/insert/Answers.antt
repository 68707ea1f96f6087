use Rattle.std.proofs.Common.{◌∙◌, ap, ap₂, subst, sym, arith, List}
use Rattle.std.specs.List.{insert}
use Rattle.fol_core.specs.Tree.{Tree}
use Rattle.discrim_tree.specs.Entries.{Indexed, NumbersRise, indexed, has_number, with_entry}
use Rattle.discrim_tree.specs.Linear.{IsTold, AreTold}
use Rattle.discrim_tree.specs.Nodes.{Reaches}
use Rattle.discrim_tree.specs.Paths.{path_of}
use Rattle.discrim_tree.specs.Seeking.{AreOnly, AreReached}
use Rattle.discrim_tree.specs.Trees.{AllUsed, IsTree}
use Rattle.discrim_tree.specs.View.{all_indexed}
use Rattle.discrim_tree.specs.declared.edge.Edge.{Edge}
use Rattle.discrim_tree.specs.declared.entry.IndexEntry.{IndexEntry}
use Rattle.discrim_tree.proofs.Told.{told_placed}
use Rattle.discrim_tree.proofs.Only.{only_on, only_placed}
use Rattle.discrim_tree.proofs.Ordered.{reached_on, reached_placed}
use Rattle.discrim_tree.proofs.Placing.{count_below, count_within, entry_placed, rise_placed}
use Rattle.discrim_tree.proofs.index.Index.insert.Goals as goal

pub insert-requires : goal.insert-requires
insert-requires c = omega (arith, c.place_of-place.ensures, count_within c.args.number c.deref.result.now, c.deref.ensures.len, c.in_ok-reserve.ensures.len)

pub invariant_of-self-in_err-put : goal.invariant_of-self-in_err-put
invariant_of-self-in_err-put c =
    let old = c.self.inside.nodes.items in
    let new = c.put.new.self.items in
    let so = c.self.invariant in
    subst (λ (es : List IndexEntry). NumbersRise (all_indexed es) × AreReached new es × AreOnly new es × IsTree new × AllUsed new × AreTold es) (sym c.in_ok-reserve.ensures.items) (
      so.0,
      reached_on old new c.self.inside.entries.items c.put.ensures.kept so.1,
      only_on old new c.self.inside.entries.items c.in_err-put.ensures.err so.2,
      c.put.ensures.tree so.3,
      c.put.ensures.used so.3 so.4,
      so.5,
    )

pub invariant_of-self-2 : goal.invariant_of-self-2
invariant_of-self-2 c =
    let old = c.self.inside.nodes.items in
    let new = c.put.new.self.items in
    let es = c.self.inside.entries.items in
    let place = c.place_of-place.result in
    let so = c.self.invariant in
    let entry : IndexEntry = record { number = c.args.number; tree = c.in_ok-tree.tree; told = c.in_ok-told.told } in
    let path = c.deref-2.ensures.value ∙ c.in_ok-path.ensures ∙ ap path_of (sym c.in_ok-tree.ensures) in
    let is = c.in_ok-insert.ensures.items ∙ ap (λ (xs : List IndexEntry). insert xs place entry) c.in_ok-reserve.ensures.items in (
      rise_placed es entry place c.insert.new.self.items is so.0
          (ap (has_number c.args.number) c.self.view_is ∙ c.requires) (c.place_of-place.ensures ∙ ap (count_below c.args.number) c.deref.ensures.value),
      reached_placed new es c.insert.new.self.items place entry is (reached_on old new es c.put.ensures.kept so.1)
          (subst (λ (p : List Edge). Reaches new 0 p c.args.number) path c.in_ok-put.ensures.reached),
      only_placed old new es c.insert.new.self.items place entry c.deref-2.result.now is path (c.in_ok-put.ensures.only so.3) so.2,
      c.put.ensures.tree so.3,
      c.put.ensures.used so.3 so.4,
      told_placed es c.insert.new.self.items place entry is (subst (λ (t : Tree). IsTold t c.in_ok-told.told) (sym c.in_ok-tree.ensures) c.in_ok-told.ensures) so.5,
    )

pub returns-clause-ok : goal.returns-clause-ok
returns-clause-ok c =
    let place = c.place_of-place.result in
    let entry : IndexEntry = record { number = c.args.number; tree = c.in_ok-tree.tree; told = c.in_ok-told.told } in
    ap all_indexed (c.in_ok-insert.ensures.items ∙ ap (λ (xs : List IndexEntry). insert xs place entry) c.in_ok-reserve.ensures.items)
    ∙ entry_placed c.self.inside.entries.items entry place c.self.invariant.0
    (ap (has_number c.args.number) c.self.view_is ∙ c.requires) (c.place_of-place.ensures ∙ ap (count_below c.args.number) c.deref.ensures.value)
    ∙ ap₂ (λ (t : Tree) (es : List Indexed). with_entry (indexed c.args.number t) es) c.in_ok-tree.ensures c.self.view_is
