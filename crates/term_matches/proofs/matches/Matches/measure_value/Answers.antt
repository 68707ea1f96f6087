-- A variable is given a term, or not.
use Rattle.std.proofs.Common.{◌∙◌, ap, sym}
use Rattle.std.specs.Option.{option_map}
use Rattle.clause_limits.specs.Sizes.{measured}
use Rattle.fol_core.specs.TermView.{tree_of}
use Rattle.term_matches.proofs.Fronts.{bound_is}
use Rattle.term_matches.proofs.matches.Matches.measure_value.Goals as goal

pub returns-in-Some : goal.returns-in-Some
returns-in-Some c =
    c.of.ensures ∙ ap measured (sym (bound_is c.args.self.now.bindings c.args.x _ (sym c.given.ensures ∙ ap (option_map (λ t. tree_of t.now)) c.in-Some.is)))

pub returns-in-None : goal.returns-in-None
returns-in-None c = c.one.ensures ∙ ap measured (sym (bound_is c.args.self.now.bindings c.args.x _ (sym c.given.ensures ∙ ap (option_map (λ t. tree_of t.now)) c.in-None.is)))
