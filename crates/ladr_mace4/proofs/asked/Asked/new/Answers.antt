use Rattle.std.proofs.Common.{◌≡◌, List, map, length, ap, ◌∙◌, arith}
use Rattle.std.proofs.lemmas.List.{length-map}
use Rattle.clausify.specs.Input.{with_skolems, clauses_in_table, axioms_in_table}
use Rattle.fol_core.specs.EntryView.{skolem_axiom_of}
use Rattle.fol_core.specs.SkolemAxioms.{SkolemAxiom}
use Rattle.fol_problem.specs.Stated.{stated_of}
use Rattle.fol_core.specs.SymbolTable.{Symbol}
use Rattle.ladr_mace4.specs.Skolems.{all_axioms}
use Rattle.ladr_mace4.proofs.asked.Asked.new.Goals as goal

pub invariant_of-result : goal.invariant_of-result
invariant_of-result c =
    let p = stated_of c.args.problem.now in
    let made = c.in_ok-clauses.ensures in
    let entries = c.in_ok-clauses.clauses.skolem.items in
    let copy : c.in_ok-symbols.symbols ≡ c.args.problem.now.symbols = c.in_ok-symbols.ensures in
    let witnesses : map skolem_axiom_of entries ≡ all_axioms p = made.skolem ∙ ap (λ (t : List Symbol). axioms_in_table t p) copy in
    let many = ap (λ (ws : List SkolemAxiom). length ws) witnesses in
    record {
      symbols = made.entered ∙ ap (λ (t : List Symbol). with_skolems t p) copy;
      clauses = made.clauses ∙ ap (λ (t : List Symbol). clauses_in_table t p) copy;
      witnesses = witnesses;
      used = made.symbols;
      numeral = made.numeral;
      well_formed = c.requires.well_formed;
      fits = c.requires.fits;
      few = c.few_symbols.ensures;
      few_witnesses = omega (arith, c.few_entries.ensures, many, length-map entries skolem_axiom_of);
    }
