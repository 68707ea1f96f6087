-- What is kept of the variable's class.
use Rattle.std.proofs.Common.{◌<◌, ◌∙◌, length, ap, sym, arith}
use Rattle.std.proofs.lemmas.List.{get_or_read}
use Rattle.clause_limits.specs.Sizes.{measured}
use Rattle.term_unifiers.proofs.Bindings.{class_measured}
use Rattle.term_unifiers.proofs.sizes.measure_variable.Goals as goal

pub index-requires : goal.index-requires
index-requires c = omega (arith, c.in-Some.ensures.within, c.requires.measured.as_many, c.args.found.now.measures.ok.0)

pub returns-in-Some : goal.returns-in-Some
returns-in-Some c =
    let inside : c.in-Some.root < length c.args.found.now.measures.items = omega (arith, c.in-Some.ensures.within, c.requires.measured.as_many) in
    class_measured c.args.found.now c.args.x c.in-Some.root c.index.result.now c.requires c.in-Some.ensures
    (get_or_read c.args.found.now.measures.items c.in-Some.root c.index.result.now inside c.index.ensures (record { size = 0; depth = 0 }))

pub returns-in-None : goal.returns-in-None
returns-in-None c = c.one.ensures ∙ sym (ap measured c.in-None.ensures)
