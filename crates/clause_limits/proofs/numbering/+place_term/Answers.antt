-- One more argument is changed, and then all are.
use Rattle.std.proofs.Common.{◌<◌, ◌≤◌, ◌∙◌, sym, ap, arith, length, List}
use Rattle.fol_core.specs.Renumbered.{by_place}
use Rattle.fol_core.specs.Substitutions.{Substitution, substitute, substitute_all}
use Rattle.fol_core.specs.TermView.{tree_of}
use Rattle.fol_core.specs.Tree.{Tree, app, trees_of}
use Rattle.fol_core.specs.declared.term.Term.{Term}
use Rattle.fol_core.proofs.Putting.{put_each}
use Rattle.clause_limits.proofs.Changing.{changed_next, still_long, still_unvisited, all_changed}
use Rattle.clause_limits.proofs.numbering.+place_term.Goals as goal

pub loop-i-preserved : goal.loop-i-preserved
loop-i-preserved t c =
    let σ : Substitution = by_place c.args.variables.now in
    let xs : List Term = c.loop-i.terms-inside.items.items in
    let ys : List Term = c.terms.inside.items.items in
    let x = c.place_term.new.term in
    let d = c.index_mut.result.now in
    let i = c.loop-i.i in
    let inv = c.loop-i.invariant in
    let within : i < length ys = omega (arith, c.loop-i-test.true, c.len-i-end.ensures) in
    let here : i ≤ i = omega arith in
    record {
      changed = changed_next (λ s. substitute σ (tree_of s)) tree_of xs ys i x d within inv.changed (c.place_term.ensures ∙ ap (λ s. substitute σ (tree_of s)) (c.index_mut.ensures.value ∙ inv.unvisited i d here));
      long = still_long xs ys i x inv.long;
      unvisited = still_unvisited xs ys i x inv.unvisited;
    }

pub returns-after-loop-i : goal.returns-after-loop-i
returns-after-loop-i t c =
    let σ : Substitution = by_place c.args.variables.now in
    let ys : List Term = c.terms.inside.items.items in
    let past : length ys ≤ c.loop-i.i = omega (arith, c.loop-i-test.false, c.len-i-end.ensures) in
    ap (app c.in-App.field-0.0) (ap trees_of (c.loop-i.invariant.changed ∙ all_changed (λ s. substitute σ (tree_of s)) tree_of ys c.loop-i.i past)
    ∙ put_each σ ys ∙ ap (λ (ts : List Tree). substitute_all σ (trees_of ts)) c.terms.view_is)
    ∙ ap (λ s. substitute σ (tree_of s)) (sym c.in-App.is)
