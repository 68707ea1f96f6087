use Rattle.std.proofs.Common.{◌∙◌, ℕ, List, ap}
use Rattle.std.specs.List.{list_all}
use Rattle.fol_core.specs.Free.{is_in, variables_of}
use Rattle.fol_core.specs.TermView.{tree_of}
use Rattle.ladr_rules.proofs.Variables.{set_of}
use Rattle.ladr_rules.proofs.shapes.has_variables.Goals as goal

pub returns : goal.returns
returns c =
    c.are_found.ensures ∙ ap (λ (xs : List ℕ). list_all (λ x. is_in x xs) (variables_of (tree_of c.args.other.now)))
    (set_of c.new-found.result.keys c.add_variables.new.found.keys (tree_of c.args.term.now) c.new-found.ensures.empty c.in_ok-add_variables.ensures)
