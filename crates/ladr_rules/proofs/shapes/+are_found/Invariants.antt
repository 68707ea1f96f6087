-- the terms so far have no other variable: the rest decides
use Rattle.std.proofs.Common.{◌≡◌}
use Rattle.std.specs.List.{list_all}
use Rattle.fol_core.specs.Free.{is_in, variables_of}
use Rattle.fol_core.specs.TermView.{tree_of}
use Rattle.ladr_rules.proofs.Variables.{variables_from}
use Rattle.ladr_rules.proofs.shapes.+are_found.Given as goal

abbrev pub invariant-loop-part : goal.invariant-loop-part
invariant-loop-part l =
    list_all (λ x. is_in x l.found.keys) (variables_from l.part-items l.part-index) ≡ list_all (λ x. is_in x l.found.keys) (variables_of (tree_of l.term))
