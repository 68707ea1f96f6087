-- The term of its class, or the variable.
use Rattle.std.proofs.Common.{sym}
use Rattle.fol_core.specs.Tree.{var}
use Rattle.substitutions.specs.Bindings.{by_bindings}
use Rattle.term_unifiers.specs.Classes.{class_terms}
use Rattle.term_unifiers.specs.Solutions.{bindings_of, classes_in}
use Rattle.term_unifiers.proofs.Written.{written_as}
use Rattle.term_unifiers.proofs.writing.write_variable.Goals as goal

pub returns-in-Some : goal.returns-in-Some
returns-in-Some c =
    written_as c.write_class.result c.args.numbers.now c.write_class.new.numbers (class_terms (classes_in c.args.found.now) var c.args.found.now.order.items c.in-Some.root) (by_bindings (bindings_of c.args.found.now) c.args.x)
    (sym c.in-Some.ensures.bound) c.write_class.ensures

pub returns-in-None : goal.returns-in-None
returns-in-None c =
    written_as c.numbered.result c.args.numbers.now c.numbered.new.numbers (var c.args.x) (by_bindings (bindings_of c.args.found.now) c.args.x) (sym c.in-None.ensures) c.numbered.ensures
