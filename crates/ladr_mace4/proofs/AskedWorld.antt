-- What a search is about, by the clauses that were made.
use Rattle.std.proofs.Common.{◌≡◌, ℕ, zero, suc, ◌+◌, List, [], ◌∷◌, ◌++◌, map, refl, ap, ap₂, ◌∙◌}
use Rattle.cell_search.specs.Courses.{world_of, above_numeral}
use Rattle.clausify.specs.Input.{before, formulas, numeral_of, used_symbols, clauses_in_table}
use Rattle.fol_core.specs.EntryView.{skolem_axiom_of}
use Rattle.fol_core.specs.Literals.{ClauseTree}
use Rattle.fol_core.specs.Occurs.{size_needed}
use Rattle.fol_problem.specs.Stated.{Stated}
use Rattle.fol_core.specs.SymbolTable.{Symbol}
use Rattle.fol_core.specs.SkolemAxioms.{SkolemAxiom}
use Rattle.fol_core.specs.declared.clause.Clauses.{Clauses}
use Rattle.fol_core.specs.declared.clause.Entry.{Entry}
use Rattle.ladr_cells.specs.Worlds.{clauses_for, blocks_for, world_for, ground_size}
use Rattle.ladr_mace4.specs.Skolems.{all_symbols, all_axioms}
use Rattle.mace_cells.specs.declared.way.Way.{Way}
use Rattle.mace_ground.specs.Cells.{Block, blocks_of, cells_in}
use Rattle.mace_ground.specs.Count.{blocks_in, clause_trees, ground_count}
use Rattle.mace_ground.specs.Instances.{ground_literals}

numbers_same : (es : List Entry) → map (λ e. e.symbol.0) es ≡ map (λ w. w.symbol) (map skolem_axiom_of es)
numbers_same [] = refl
numbers_same (e ∷ es) = ap (λ (ks : List ℕ). e.symbol.0 ∷ ks) (numbers_same es)

above_before : (n : ℕ) → above_numeral (before n) ≡ n
above_before zero = refl
above_before (suc n) = refl

module _ (p : Stated) (table : List Symbol) (c : Clauses) (n : ℕ) (symbols : table ≡ all_symbols p) (clauses : c.clauses.items ≡ clauses_in_table p.symbols p) (witnesses : map skolem_axiom_of c.skolem.items ≡ all_axioms p) (used : map (λ s. s.0) c.symbols.items ≡ used_symbols p.symbols p.formulas) where
  blocks_same : blocks_in table c ≡ blocks_for p
  blocks_same =
      let skolem : map (λ e. e.symbol.0) c.skolem.items ≡ map (λ w. w.symbol) (all_axioms p) = numbers_same c.skolem.items ∙ ap (λ (ws : List SkolemAxiom). map (λ w. w.symbol) ws) witnesses in
      ap₂ (λ (t : List Symbol) (ks : List ℕ). blocks_of t ks) symbols (ap₂ (λ (ks js : List ℕ). ks ++ js) used skolem)

  clauses_same : clause_trees c ≡ clauses_for p
  clauses_same = ap (λ (rows : List (ℕ × ClauseTree)). map (λ row. row.1) rows) clauses

  pub ground_is : ground_count n table c ≡ ground_size n p
  ground_is = ap₂ (λ (bs : List Block) (cs : List ClauseTree). cells_in n bs + ground_literals n cs) blocks_same clauses_same

  pub world_is : (way : Way) → c.numeral ≡ numeral_of p.formulas → world_of table c n way ≡ world_for p n way
  world_is way numeral =
      let fixed : above_numeral c.numeral ≡ size_needed (formulas p.formulas) = ap above_numeral numeral ∙ above_before (size_needed (formulas p.formulas)) in
      λ i. record { size = n; fixed = fixed i; clauses = clauses_same i; blocks = blocks_same i; way = way }
