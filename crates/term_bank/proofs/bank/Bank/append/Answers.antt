-- The new cell stands behind the others, and its term behind theirs.
use Rattle.std.proofs.Common.{◌≡◌, ◌∙◌, ap, sym, subst, List, [], ◌∷◌, ◌++◌, length}
use Rattle.fol_core.specs.Tree.{Tree}
use Rattle.indexmap.specs.IndexMap.{insert_entry}
use Rattle.term_bank.proofs.Entering.{insert_entry-apart}
use Rattle.term_bank.specs.Bank.{IsAt}
use Rattle.term_bank.specs.Cells.{tree_in, trees_built, IsNewTerm, IsCell, AreCells}
use Rattle.term_bank.specs.declared.cell.TermCell.{TermCell}
use Rattle.term_bank.specs.declared.cell.Measures.{Measures}
use Rattle.term_bank.proofs.Building.{built_end, cells_end, apart_where_new, at_end, full_length}
use Rattle.term_bank.proofs.Same.{equal_cells}
use Rattle.term_bank.proofs.bank.Bank.append.Goals as goal

-- the entries behind, where the term is new
behind : (cs new : List (TermCell × Measures)) (bank : List Tree) (c : TermCell) (m : Measures) → AreCells [] cs → trees_built [] cs ≡ bank → IsNewTerm bank (tree_in bank c)
    → new ≡ insert_entry equal_cells cs c m → new ≡ cs ++ (c, m) ∷ []
behind cs new bank c m are view is_new e =
    e ∙ insert_entry-apart equal_cells c m cs (apart_where_new cs are c (subst (λ b. IsNewTerm b (tree_in b c)) (sym view) is_new))

grown : (cs new : List (TermCell × Measures)) (bank : List Tree) (c : TermCell) (m : Measures) → trees_built [] cs ≡ bank → new ≡ cs ++ (c, m) ∷ [] → trees_built [] new ≡ bank ++ tree_in bank c ∷ []
grown cs new bank c m view e = ap (trees_built []) e ∙ built_end [] cs (c, m) ∙ ap (λ b. b ++ tree_in b c ∷ []) view

pub invariant_of-self-2 : goal.invariant_of-self-2
invariant_of-self-2 c =
    let cs = c.self.inside.cells.entries in
    let m = c.in_ok-measures.measures in
    let is : IsCell c.args.self.now (c.args.cell, m) = record { arguments = c.requires.arguments; is_new = c.requires.new; measured = c.in_ok-measures.ensures } in
    let e = behind cs c.insert.new.self.entries c.args.self.now c.args.cell m c.self.invariant c.self.view_is c.requires.new c.in_ok-insert.ensures.entries in
    subst (AreCells []) (sym e) (cells_end [] cs (c.args.cell, m) c.self.invariant (subst (λ b. IsCell b (c.args.cell, m)) (sym c.self.view_is) is))

pub returns-clause-grows : goal.returns-clause-grows
returns-clause-grows c =
    let cs = c.self.inside.cells.entries in
    let m = c.in_ok-measures.measures in
    let e = behind cs c.insert.new.self.entries c.args.self.now c.args.cell m c.self.invariant c.self.view_is c.requires.new c.in_ok-insert.ensures.entries in
    (tree_in c.args.self.now c.args.cell ∷ [], grown cs c.insert.new.self.entries c.args.self.now c.args.cell m c.self.view_is e)

pub returns-clause-term : goal.returns-clause-term
returns-clause-term c =
    let cs = c.self.inside.cells.entries in
    let m = c.in_ok-measures.measures in
    let t = tree_in c.args.self.now c.args.cell in
    let e = behind cs c.insert.new.self.entries c.args.self.now c.args.cell m c.self.invariant c.self.view_is c.requires.new c.in_ok-insert.ensures.entries in
    let g = grown cs c.insert.new.self.entries c.args.self.now c.args.cell m c.self.view_is e in
    let place : length c.args.self.now ≡ c.len-place.result = ap length (sym c.self.view_is) ∙ full_length cs ∙ sym c.len-place.ensures.len in
    subst (λ b. IsAt b c.len-place.result t) (sym g) (subst (λ n. IsAt (c.args.self.now ++ t ∷ []) n t) place (at_end c.args.self.now t))
