-- The arguments so far are those of the first terms.
use Rattle.std.proofs.Common.{◌≡◌, take, map}
use Rattle.fol_core.specs.TermView.{tree_of}
use Rattle.ladr_print.specs.TermText.{naming_of, term_raw}
use Rattle.ladr_print.proofs.terms.terms_raw.Given as goal

abbrev pub invariant-loop-term : goal.invariant-loop-term
invariant-loop-term l = l.args ≡ map (λ t. term_raw l.symbols (naming_of l.variables) (tree_of t)) (take l.term-index l.term-items)
