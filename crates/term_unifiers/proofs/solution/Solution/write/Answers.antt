-- What is found is seen as bindings.
use Rattle.std.proofs.Common.{◌≡◌, ℕ, ◌++◌, List, IfOk, OnOk, subst}
use Rattle.fol_core.specs.Free.{joined, variables_of}
use Rattle.fol_core.specs.Renumbered.{by_place}
use Rattle.fol_core.specs.Substitutions.{substitute}
use Rattle.fol_core.specs.TermView.{tree_of}
use Rattle.substitutions.specs.Bindings.{Binding, by_bindings}
use Rattle.term_unifiers.specs.Renamed.{own_among}
use Rattle.term_unifiers.specs.Solutions.{bindings_of}
use Rattle.term_unifiers.proofs.Written.{written_numbers, written_term}
use Rattle.term_unifiers.proofs.solution.Solution.write.Goals as goal

pub returns-clause-numbers : goal.returns-clause-numbers
returns-clause-numbers c =
    subst (λ (bs : List Binding). OnOk c.write_among.result (c.write_among.new.numbers ≡ joined c.args.numbers.now (variables_of (substitute (own_among c.args.many (by_bindings bs) c.args.parent) (tree_of c.args.term.now))))) c.self.view_is
    (written_numbers c.write_among.result c.args.numbers.now c.write_among.new.numbers (substitute (own_among c.args.many (by_bindings (bindings_of c.self.inside.found)) c.args.parent) (tree_of c.args.term.now)) c.write_among.ensures)

pub returns-clause-term : goal.returns-clause-term
returns-clause-term c =
    subst (λ (bs : List Binding). IfOk c.write_among.result (λ made. (behind : List ℕ) → tree_of made ≡ substitute (by_place (c.write_among.new.numbers ++ behind)) (substitute (own_among c.args.many (by_bindings bs) c.args.parent) (tree_of c.args.term.now)))) c.self.view_is
    (written_term c.write_among.result c.args.numbers.now c.write_among.new.numbers (substitute (own_among c.args.many (by_bindings (bindings_of c.self.inside.found)) c.args.parent) (tree_of c.args.term.now)) c.write_among.ensures)
