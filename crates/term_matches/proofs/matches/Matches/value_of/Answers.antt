-- A variable is given a term, or not.
use Rattle.std.proofs.Common.{◌∙◌, ap, sym}
use Rattle.std.proofs.lemmas.Result.{IfOk-weaker}
use Rattle.std.specs.Option.{option_map}
use Rattle.fol_core.specs.TermView.{tree_of}
use Rattle.term_matches.proofs.Fronts.{bound_is}
use Rattle.term_matches.proofs.matches.Matches.value_of.Goals as goal

pub returns-in-Some : goal.returns-in-Some
returns-in-Some c =
    let given = bound_is c.args.self.now.bindings c.args.x _ (sym c.given.ensures ∙ ap (option_map (λ t. tree_of t.now)) c.in-Some.is) in
    IfOk-weaker c.copy.result _ _ (λ copy same. ap tree_of same ∙ sym given) c.copy.ensures

pub returns-in-None : goal.returns-in-None
returns-in-None c = sym (bound_is c.args.self.now.bindings c.args.x _ (sym c.given.ensures ∙ ap (option_map (λ t. tree_of t.now)) c.in-None.is))
