use Rattle.std.proofs.Common.{◌≡◌, ◌≤◌, List, length, map, refl, sym, ap, subst, arith}
use Rattle.std.proofs.lemmas.List.{length-map}
use Rattle.fol_core.specs.EntryView.{skolem_axiom_of}
use Rattle.fol_core.specs.Literals.{equality}
use Rattle.fol_problem.specs.Stated.{Stated, stated_of, IsWellFormed, AreNewTo}
use Rattle.fol_core.specs.SymbolTable.{Symbol, KeepsNumbers}
use Rattle.fol_core.specs.SkolemAxioms.{AreInOrder}
use Rattle.fol_core.specs.declared.clause.Entry.{Entry}
use Rattle.clausify.specs.Input.{axioms_in_table}
use Rattle.clausify.proofs.Fresh.{all_in_order}
use Rattle.clausify.proofs.problem.made.Goals as goal

-- what is noted is in order, and new to the formulas
noted : (table : List Symbol) (p : Stated) (es : List Entry) → length es ≤ equality → map skolem_axiom_of es ≡ axioms_in_table table p → length p.symbols ≤ equality → IsWellFormed p → KeepsNumbers p.symbols table
    → AreInOrder (map skolem_axiom_of es) × AreNewTo p.formulas (map skolem_axiom_of es)
noted table p es few told small well_formed keeps =
    let all = all_in_order p.symbols table p.formulas small well_formed keeps (omega (arith, few, length-map es skolem_axiom_of, ap length told)) in
    (subst AreInOrder (sym told) all.0, subst (AreNewTo p.formulas) (sym told) all.1)

pub returns-clause-order : goal.returns-clause-order
returns-clause-order c =
    let entries = c.in_ok-rows.rows.skolem in
    (noted c.args.symbols.now (stated_of c.args.problem.now) entries.items (omega (arith, entries.ok.0, entries.ok.1, entries.small))
    (rw (c.in_ok-rows.ensures.witnesses, c.deref-4.ensures.value, c.in_ok-numbers.ensures.numbers, c.deref-3.ensures.value, c.in_ok-arities.ensures, c.deref-2.ensures.value, c.deref-5.ensures.value, c.in_ok-normals.ensures.forms, c.deref.ensures.value) refl)
    c.requires.small c.requires.well_formed c.requires.table).0

pub returns-clause-new : goal.returns-clause-new
returns-clause-new c =
    let entries = c.in_ok-rows.rows.skolem in
    (noted c.args.symbols.now (stated_of c.args.problem.now) entries.items (omega (arith, entries.ok.0, entries.ok.1, entries.small))
    (rw (c.in_ok-rows.ensures.witnesses, c.deref-4.ensures.value, c.in_ok-numbers.ensures.numbers, c.deref-3.ensures.value, c.in_ok-arities.ensures, c.deref-2.ensures.value, c.deref-5.ensures.value, c.in_ok-normals.ensures.forms, c.deref.ensures.value) refl)
    c.requires.small c.requires.well_formed c.requires.table).1
