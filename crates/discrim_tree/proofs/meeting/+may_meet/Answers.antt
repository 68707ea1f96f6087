use Rattle.std.proofs.Common.{◌≡◌, ◌∙◌, ap, sym, arith, length, slice_index_or}
use Rattle.fol_core.specs.Substitutions.{substitute}
use Rattle.fol_core.specs.TermView.{tree_of, tree_list}
use Rattle.fol_core.specs.Tree.{app, trees_of}
use Rattle.discrim_tree.proofs.Meetings.{apart_lengths, apart_arguments}
use Rattle.discrim_tree.proofs.meeting.+may_meet.Goals as goal

pub returns-then-len : goal.returns-then-len
returns-then-len t c = λ f u v same.
    let ls = c.ls.inside.items.items in
    let rs = c.rs.inside.items.items in
    let whole : substitute u (app c.in-App-App.f.0 (trees_of (tree_list ls))) ≡ substitute v (app c.in-App-App.g.0 (trees_of (tree_list rs))) =
    ap (λ ts. substitute u (app c.in-App-App.f.0 (trees_of ts))) c.ls.view_is ∙ ap (λ r. substitute u (tree_of r)) (sym c.in-App-App.is-0) ∙ same
    ∙ ap (λ r. substitute v (tree_of r)) c.in-App-App.is-1 ∙ ap (λ ts. substitute v (app c.in-App-App.g.0 (trees_of ts))) (sym c.rs.view_is) in
    apart_lengths c.in-App-App.f.0 c.in-App-App.g.0 ls rs (λ e. c.if-len.true (omega arith)) u v whole

pub returns-then-not-may_meet : goal.returns-then-not-may_meet
returns-then-not-may_meet t c = λ f u v same.
    let ls = c.ls.inside.items.items in
    let rs = c.rs.inside.items.items in
    let whole : substitute u (app c.in-App-App.f.0 (trees_of (tree_list ls))) ≡ substitute v (app c.in-App-App.g.0 (trees_of (tree_list rs))) =
    ap (λ ts. substitute u (app c.in-App-App.f.0 (trees_of ts))) c.ls.view_is ∙ ap (λ r. substitute u (tree_of r)) (sym c.in-App-App.is-0) ∙ same
    ∙ ap (λ r. substitute v (tree_of r)) c.in-App-App.is-1 ∙ ap (λ ts. substitute v (app c.in-App-App.g.0 (trees_of ts))) (sym c.rs.view_is) in
    let value : c.deref-l-items.result.now ≡ ls = c.deref-l-items.ensures.value in
    let there : c.l-item.result ≡ slice_index_or ls c.loop-i.i c.l-item.result = c.l-item.is ∙ ap (λ xs. slice_index_or xs c.loop-i.i c.l-item.result) value in
    apart_arguments c.in-App-App.f.0 c.in-App-App.g.0 ls rs c.loop-i.i c.l-item.result c.index.result.now (omega (arith, ap length value)) (omega (arith, ap length value)) there c.index.ensures
    (c.may_meet.ensures c.if-not-may_meet.true) u v whole
