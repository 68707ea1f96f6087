use Rattle.std.proofs.Common.{◌≡◌, ◌∙◌, ◌+◌, ap, sym, subst, drop, length, arith}
use Rattle.std.proofs.lemmas.List.{drop_all}
use Rattle.fol_core.specs.Tree.{trees_of}
use Rattle.fol_core.specs.TermView.{tree_of, tree_list}
use Rattle.fol_core.specs.declared.term.Term.{Term}
use Rattle.discrim_tree.specs.Paths.{step_of}
use Rattle.discrim_tree.specs.Walks.{Passes, PassesAll, Follows, Came, Comes, ComesAll}
use Rattle.discrim_tree.specs.declared.edge.Edge.{Edge}
use Rattle.discrim_tree.proofs.Paths.{next_tree}
use Rattle.discrim_tree.proofs.Returning.{comes_variable, comes_plain, comes_element, comes_application, comes_none, comes_more}
use Rattle.discrim_tree.proofs.WalkSteps.{stays, goes_far, passes_variable, passes_plain, passes_element, passes_application, passes_none, passes_more}
use Rattle.discrim_tree.proofs.nodes.Nodes.+pass.Goals as goal

pub returns-then-above-clause-passes : goal.returns-then-above-clause-passes
returns-then-above-clause-passes t c =
    let old = c.args.walk.now.items in
    let new = c.skip_each.new.walk.items in
    let all : c.len-high.result ≡ length c.args.walk.now.items = omega (arith, c.len-high.ensures, c.args.walk.now.ok.0) in
    subst (λ (u : Term). Passes c.args.self.now.items c.args.below c.args.above (tree_of u) c.args.low old c.len-high.result new) (sym c.in-Var.is)
    (passes_variable c.args.self.now.items c.args.below c.args.above c.in-Var.field-0 c.args.low c.len-high.result old new all c.in_ok-skip_each-in-Var.ensures.skips)

pub returns-in_ok-follow-in-Var-clause-passes : goal.returns-in_ok-follow-in-Var-clause-passes
returns-in_ok-follow-in-Var-clause-passes t c =
    let old = c.args.walk.now.items in
    let new = c.follow.new.walk.items in
    let all : c.len-high.result ≡ length c.args.walk.now.items = omega (arith, c.len-high.ensures, c.args.walk.now.ok.0) in
    subst (λ (u : Term). Passes c.args.self.now.items c.args.below c.args.above (tree_of u) c.args.low old c.len-high.result new) (sym c.in-Var.is)
    (passes_plain c.args.self.now.items c.args.below c.args.above c.in-Var.field-0 c.args.low c.len-high.result old new c.if-above.false all c.in_ok-follow-in-Var.ensures.follows)

pub returns-in_ok-follow_any-in-Elem-clause-passes : goal.returns-in_ok-follow_any-in-Elem-clause-passes
returns-in_ok-follow_any-in-Elem-clause-passes t c =
    let nodes = c.args.self.now.items in
    let old = c.args.walk.now.items in
    let now = c.follow-in-Elem.new.walk.items in
    let new = c.follow_any.new.walk.items in
    let all : c.len-high.result ≡ length c.args.walk.now.items = omega (arith, c.len-high.ensures, c.args.walk.now.ok.0) in
    let edge = c.step_of.ensures ∙ ap (λ (u : Term). step_of (tree_of u)) c.in-Elem.is in
    subst (λ (u : Term). Passes nodes c.args.below c.args.above (tree_of u) c.args.low old c.len-high.result new) (sym c.in-Elem.is)
    (passes_element nodes c.args.below c.args.above c.in-Elem.field-0 c.args.low c.len-high.result old now new all c.in_ok-follow-in-Elem.ensures.goes_on c.in_ok-follow_any-in-Elem.ensures.goes_on c.in_ok-follow-in-Elem.ensures.longer
    (subst (λ (e : Edge). Follows nodes c.args.low c.len-high.result e old now) edge c.in_ok-follow-in-Elem.ensures.follows) c.in_ok-follow_any-in-Elem.ensures.follows)

pub loop-term-preserved : goal.loop-term-preserved
loop-term-preserved t c =
    let nodes = c.args.self.now.items in
    let so = c.loop-term.invariant in
    let step = c.in_ok-next-in-App.ensures in
    let items = c.deref-term-items.result.now in
    let first = c.follow-in-App.new.walk.items in
    let now = c.loop-term.walk.items in
    let after = c.pass.new.walk.items in
    record {
      on = goes_far first now after so.on step.goes_on;
      longer = omega (arith, so.longer, step.longer);
      within = step.within;
      comes = λ last new rest. so.comes last new
          (subst (λ us. ComesAll nodes c.args.below c.args.above (trees_of us) c.loop-term.next now last new) (sym (next_tree items c.loop-term.term-index c.term-item.result c.loop-term-test.true c.term-item.is))
          (comes_more nodes c.args.below c.args.above (tree_of c.term-item.result) (trees_of (tree_list (drop (c.loop-term.term-index + 1) items))) c.loop-term.next c.in_ok-next-in-App.next last now after new step.comes rest));
      passes = λ low new g rest. so.passes low new (goes_far now after new step.goes_on g)
          (subst (λ us. PassesAll nodes c.args.below c.args.above (trees_of us) c.loop-term.next now low new) (sym (next_tree items c.loop-term.term-index c.term-item.result c.loop-term-test.true c.term-item.is))
          (passes_more nodes c.args.below c.args.above (tree_of c.term-item.result) (trees_of (tree_list (drop (c.loop-term.term-index + 1) items))) c.loop-term.next c.in_ok-next-in-App.next low now after new step.passes rest));
    }

pub returns-in_ok-follow_any-in-App-clause-passes : goal.returns-in_ok-follow_any-in-App-clause-passes
returns-in_ok-follow_any-in-App-clause-passes t c =
    let nodes = c.args.self.now.items in
    let so = c.loop-term.invariant in
    let items = c.deref-term-items.result.now in
    let old = c.args.walk.now.items in
    let first = c.follow-in-App.new.walk.items in
    let now = c.loop-term.walk.items in
    let new = c.follow_any-in-App.new.walk.items in
    let high = c.len-high.result in
    let next = c.loop-term.next in
    let all : c.len-high.result ≡ length c.args.walk.now.items = omega (arith, c.len-high.ensures, c.args.walk.now.ok.0) in
    let edge = c.step_of-in-App.ensures ∙ ap (λ (u : Term). step_of (tree_of u)) c.in-App.is in
    let trees = ap tree_list c.deref-term-items.ensures.value ∙ c.terms.view_is in
    let end = subst (λ us. PassesAll nodes c.args.below c.args.above (trees_of (tree_list us)) next now next now) (sym (drop_all c.loop-term.term-index items c.loop-term-test.false)) (passes_none nodes c.args.below c.args.above next now) in
    subst (λ (u : Term). Passes nodes c.args.below c.args.above (tree_of u) c.args.low old next new) (sym c.in-App.is)
    (passes_application nodes c.args.below c.args.above c.in-App.field-0.0 (trees_of c.in-App.terms) c.args.low high next old first now new all c.in_ok-follow-in-App.ensures.goes_on so.on c.in_ok-follow_any-in-App.ensures.goes_on so.within
    (subst (λ (e : Edge). Follows nodes c.args.low high e old first) edge c.in_ok-follow-in-App.ensures.follows)
    (subst (λ us. PassesAll nodes c.args.below c.args.above (trees_of us) high first next now) trees (so.passes next now (stays now) end))
    c.in_ok-follow_any-in-App.ensures.follows)

pub returns-then-above-clause-comes : goal.returns-then-above-clause-comes
returns-then-above-clause-comes t c =
    let old = c.args.walk.now.items in
    let new = c.skip_each.new.walk.items in
    let all : c.len-high.result ≡ length c.args.walk.now.items = omega (arith, c.len-high.ensures, c.args.walk.now.ok.0) in
    subst (λ (u : Term). Comes c.args.self.now.items c.args.below c.args.above (tree_of u) c.args.low old c.len-high.result new) (sym c.in-Var.is)
    (comes_variable c.args.self.now.items c.args.below c.args.above c.in-Var.field-0 c.args.low c.len-high.result old new c.if-above.true all c.in_ok-skip_each-in-Var.ensures.behind)

pub returns-in_ok-follow-in-Var-clause-comes : goal.returns-in_ok-follow-in-Var-clause-comes
returns-in_ok-follow-in-Var-clause-comes t c =
    let old = c.args.walk.now.items in
    let new = c.follow.new.walk.items in
    let all : c.len-high.result ≡ length c.args.walk.now.items = omega (arith, c.len-high.ensures, c.args.walk.now.ok.0) in
    subst (λ (u : Term). Comes c.args.self.now.items c.args.below c.args.above (tree_of u) c.args.low old c.len-high.result new) (sym c.in-Var.is)
    (comes_plain c.args.self.now.items c.args.below c.args.above c.in-Var.field-0 c.args.low c.len-high.result old new all c.in_ok-follow-in-Var.ensures.came)

pub returns-in_ok-follow_any-in-Elem-clause-comes : goal.returns-in_ok-follow_any-in-Elem-clause-comes
returns-in_ok-follow_any-in-Elem-clause-comes t c =
    let nodes = c.args.self.now.items in
    let old = c.args.walk.now.items in
    let now = c.follow-in-Elem.new.walk.items in
    let new = c.follow_any.new.walk.items in
    let all : c.len-high.result ≡ length c.args.walk.now.items = omega (arith, c.len-high.ensures, c.args.walk.now.ok.0) in
    let edge = c.step_of.ensures ∙ ap (λ (u : Term). step_of (tree_of u)) c.in-Elem.is in
    subst (λ (u : Term). Comes nodes c.args.below c.args.above (tree_of u) c.args.low old c.len-high.result new) (sym c.in-Elem.is)
    (comes_element nodes c.args.below c.args.above c.in-Elem.field-0 c.args.low c.len-high.result old now new all c.in_ok-follow-in-Elem.ensures.goes_on c.in_ok-follow_any-in-Elem.ensures.goes_on
    (subst (λ (e : Edge). Came nodes c.args.low c.len-high.result e old now) edge c.in_ok-follow-in-Elem.ensures.came) c.in_ok-follow_any-in-Elem.ensures.came)

pub returns-in_ok-follow_any-in-App-clause-comes : goal.returns-in_ok-follow_any-in-App-clause-comes
returns-in_ok-follow_any-in-App-clause-comes t c =
    let nodes = c.args.self.now.items in
    let so = c.loop-term.invariant in
    let items = c.deref-term-items.result.now in
    let old = c.args.walk.now.items in
    let first = c.follow-in-App.new.walk.items in
    let now = c.loop-term.walk.items in
    let new = c.follow_any-in-App.new.walk.items in
    let high = c.len-high.result in
    let next = c.loop-term.next in
    let all : c.len-high.result ≡ length c.args.walk.now.items = omega (arith, c.len-high.ensures, c.args.walk.now.ok.0) in
    let edge = c.step_of-in-App.ensures ∙ ap (λ (u : Term). step_of (tree_of u)) c.in-App.is in
    let trees = ap tree_list c.deref-term-items.ensures.value ∙ c.terms.view_is in
    let end = subst (λ us. ComesAll nodes c.args.below c.args.above (trees_of (tree_list us)) next now next now) (sym (drop_all c.loop-term.term-index items c.loop-term-test.false)) (comes_none nodes c.args.below c.args.above next now) in
    subst (λ (u : Term). Comes nodes c.args.below c.args.above (tree_of u) c.args.low old next new) (sym c.in-App.is)
    (comes_application nodes c.args.below c.args.above c.in-App.field-0.0 (trees_of c.in-App.terms) c.args.low high next old first now new all c.in_ok-follow-in-App.ensures.goes_on so.on c.in_ok-follow_any-in-App.ensures.goes_on
    (subst (λ (e : Edge). Came nodes c.args.low high e old first) edge c.in_ok-follow-in-App.ensures.came)
    (subst (λ us. ComesAll nodes c.args.below c.args.above (trees_of us) high first next now) trees (so.comes next now end))
    c.in_ok-follow_any-in-App.ensures.came)
