use Rattle.std.proofs.Common.{◌≡◌, ◌∙◌, ap, sym, arith, length, slice_index_or}
use Rattle.std.proofs.lemmas.Bool.{false≢true, both_ways}
use Rattle.fol_core.specs.Tree.{app, trees_of}
use Rattle.fol_core.specs.TermView.{tree_of, tree_list}
use Rattle.substitutions.proofs.Elements.{arguments_back, length_same, element_same}
use Rattle.substitutions.proofs.sameness.+same.Goals as goal

pub returns-then-len : goal.returns-then-len
returns-then-len t c = (
  λ f. absurd (false≢true f),
  λ h. absurd (c.if-len.true (
      let same : tree_list c.ls.inside.items.items ≡ tree_list c.rs.inside.items.items =
      arguments_back c.in-App-App.f.0 c.in-App-App.g.0 (tree_list c.ls.inside.items.items) (tree_list c.rs.inside.items.items)
      (ap (λ ts. app c.in-App-App.f.0 (trees_of ts)) c.ls.view_is ∙ ap tree_of (sym c.in-App-App.is-0) ∙ h ∙ ap tree_of c.in-App-App.is-1 ∙ ap (λ ts. app c.in-App-App.g.0 (trees_of ts)) (sym c.rs.view_is)) in
      let lengths = length_same tree_of c.ls.inside.items.items c.rs.inside.items.items same in
      omega arith)),
)

pub returns-then-not-same : goal.returns-then-not-same
returns-then-not-same t c = (
  λ f. absurd (false≢true f),
  λ h. absurd (both_ways c.same.result c.if-not-same.true (c.same.ensures.1 (
      let same : tree_list c.ls.inside.items.items ≡ tree_list c.rs.inside.items.items =
      arguments_back c.in-App-App.f.0 c.in-App-App.g.0 (tree_list c.ls.inside.items.items) (tree_list c.rs.inside.items.items)
      (ap (λ ts. app c.in-App-App.f.0 (trees_of ts)) c.ls.view_is ∙ ap tree_of (sym c.in-App-App.is-0) ∙ h ∙ ap tree_of c.in-App-App.is-1 ∙ ap (λ ts. app c.in-App-App.g.0 (trees_of ts)) (sym c.rs.view_is)) in
      let lengths = length_same tree_of c.ls.inside.items.items c.rs.inside.items.items same in
      let value : c.deref-l-items.result.now ≡ c.ls.inside.items.items = c.deref-l-items.ensures.value in
      let there : c.l-item.result ≡ slice_index_or c.ls.inside.items.items c.loop-i.i c.l-item.result = c.l-item.is ∙ ap (λ xs. slice_index_or xs c.loop-i.i c.l-item.result) value in
      ap tree_of there ∙ element_same tree_of c.ls.inside.items.items c.rs.inside.items.items c.loop-i.i c.l-item.result c.index.result.now (omega (arith, ap length value)) same ∙ ap tree_of (sym c.index.ensures)))),
)
