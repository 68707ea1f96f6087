-- One more literal is changed, and then all are.
use Rattle.std.proofs.Common.{◌<◌, ◌≤◌, ◌∙◌, ap, arith, length, map, List}
use Rattle.fol_core.specs.ClauseView.{literal_of}
use Rattle.fol_core.specs.Literals.{Lit, literal}
use Rattle.fol_core.specs.Renumbered.{by_place}
use Rattle.fol_core.specs.Substitutions.{Substitution, substitute}
use Rattle.fol_core.specs.TermView.{tree_of}
use Rattle.fol_core.specs.declared.clause.Literal.{Literal}
use Rattle.clause_limits.proofs.Changing.{changed_next, still_long, still_unvisited, all_changed, map_twice}
use Rattle.clause_limits.proofs.numbering.place_clause.Goals as goal

pub loop-i-preserved : goal.loop-i-preserved
loop-i-preserved c =
    let σ : Substitution = by_place c.args.variables.now in
    let xs : List Literal = c.loop-i.clause-inside.literals.items in
    let ys : List Literal = c.clause.inside.literals.items in
    let d : Literal = c.index_mut.result.now in
    let x : Literal = record { positive = d.positive; atom = c.place_term.new.term } in
    let i = c.loop-i.i in
    let inv = c.loop-i.invariant in
    let within : i < length ys = omega (arith, c.loop-i-test.true, c.len-i-end.ensures) in
    let here : i ≤ i = omega arith in
    record {
      changed = changed_next (λ (k : Literal). literal k.positive (substitute σ (tree_of k.atom))) literal_of xs ys i x d within inv.changed
          (ap (literal d.positive) c.place_term.ensures ∙ ap (λ (k : Literal). literal k.positive (substitute σ (tree_of k.atom))) (c.index_mut.ensures.value ∙ inv.unvisited i d here));
      long = still_long xs ys i x inv.long;
      unvisited = still_unvisited xs ys i x inv.unvisited;
    }

pub returns : goal.returns
returns c =
    let σ : Substitution = by_place c.args.variables.now in
    let ys : List Literal = c.clause.inside.literals.items in
    let past : length ys ≤ c.loop-i.i = omega (arith, c.loop-i-test.false, c.len-i-end.ensures) in
    c.loop-i.invariant.changed
    ∙ all_changed (λ (k : Literal). literal k.positive (substitute σ (tree_of k.atom))) literal_of ys c.loop-i.i past
    ∙ map_twice (λ (l : Lit). literal l.positive (substitute σ l.atom)) literal_of ys
    ∙ ap (map (λ (l : Lit). literal l.positive (substitute σ l.atom))) c.clause.view_is
