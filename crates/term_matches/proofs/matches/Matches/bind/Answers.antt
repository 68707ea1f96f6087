-- A variable with a term, or without.
use Rattle.std.proofs.Common.{sym, ap, ◌∙◌, arith}
use Rattle.std.specs.Option.{option_map}
use Rattle.std.proofs.lemmas.Grind.{common_steps}
use Rattle.fol_core.specs.TermView.{tree_of}
use Rattle.term_matches.proofs.Fronts.{bind_same, bind_new}
use Rattle.term_matches.proofs.matches.Matches.bind.Goals as goal

pub returns-in-Some-clause-tried : goal.returns-in-Some-clause-tried
returns-in-Some-clause-tried c =
    c.found_if.ensures.tried _ _ _
    (bind_same c.same.result c.args.self.now.bindings c.args.x (tree_of c.args.term.now) (tree_of c.in-Some.old.now)
    (sym c.given.ensures ∙ ap (option_map (λ t. tree_of t.now)) c.in-Some.is) c.same.ensures)

pub returns-then-len-capacity-clause-tried : goal.returns-then-len-capacity-clause-tried
returns-then-len-capacity-clause-tried c =
    bind_new c.args.self.now.bindings _ c.args.x (tree_of c.args.term.now)
    (sym c.given.ensures ∙ ap (option_map (λ t. tree_of t.now)) c.in-None.is)
    (grind (arith, common_steps, c.push_reserved.ensures.items, c.self.view_is))
