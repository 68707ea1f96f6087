-- The solutions of the clauses are the models of what is stated.
use Rattle.std.proofs.Common.{◌≡◌, ℕ, ◌+◌, ◌≤◌, length, ap, sym, subst, ◌∙◌, arith}
use Rattle.std.proofs.lemmas.Bool.Decides.{nat_tests}
use Rattle.clausify.specs.Input.{skolem_numbers, axioms_in_table}
use Rattle.clausify.specs.Laws.{ClausesSuffice, ClausesFollow}
use Rattle.fol_problem.proofs.Soundness.{sound_below}
use Rattle.fol_core.specs.Literals.{equality}
use Rattle.fol_core.specs.Meaning.{Meaning, IsLawful}
use Rattle.fol_core.specs.SkolemAxioms.{AreInOrder}
use Rattle.fol_problem.specs.Stated.{Stated, IsWellFormed, IsCountermodel, AreNewTo}
use Rattle.ladr_cells.specs.Worlds.{world_for}
use Rattle.mace_cells.specs.World.{Solves}
use Rattle.mace_search.specs.Models.{IsModel}
use Rattle.model_tables.proofs.Decided.{some_expansion}
use Rattle.mace_cells.specs.declared.way.Way.{Way}
use Rattle.model_tables.proofs.Expanding.{same_top, kept_countermodel, expansion_picks}
use Rattle.model_tables.specs.Expansion.{IsExpansion}
use Rattle.model_tables.specs.Tables.{Finite, meaning_of}
use Rattle.model_tables.specs.TablesLaws.{tables_lawful}

module _ (p : Stated) (n : ℕ) (way : Way) (well_formed : IsWellFormed p) (few : length p.symbols ≤ equality) where
  -- each assumption is true and each goal false
  pub solution_says : ((m : Meaning) → IsLawful m → ClausesSuffice m) → (m : Meaning) → Solves (world_for p n way) m → IsCountermodel m p.formulas
  solution_says suffice m solves = suffice m solves.lawful (skolem_numbers p.symbols p) p.formulas (sound_below (length p.symbols) equality p.formulas few well_formed) solves.holds

  -- a model of the problem's symbols has an expansion that is a solution
  pub model_solves :
      ((m : Meaning) → IsLawful m → ClausesFollow m) → AreInOrder (axioms_in_table p.symbols p) → AreNewTo p.formulas (axioms_in_table p.symbols p)
      → (t : Finite) → IsModel p n t → (e : Finite) × (IsExpansion t (axioms_in_table p.symbols p) e × Solves (world_for p n way) (meaning_of e))
  model_solves follow order new t model =
      let ws = axioms_in_table p.symbols p in
      let e = some_expansion t ws in
      let says : IsCountermodel (meaning_of e.0) p.formulas = subst (λ (T : Type 0). T) (sym (kept_countermodel ws t e.0 e.1 p.formulas new)) model.1 in
      let top : e.0.top + 1 ≡ n = ap (λ (k : ℕ). k + 1) (same_top ws t e.0 e.1) ∙ model.0.0 in (
        e.0,
        (
          e.1,
          record {
            size = λ x. grind (arith, nat_tests, top);
            lawful = tables_lawful e.0;
            holds = follow (meaning_of e.0) (tables_lawful e.0) (skolem_numbers p.symbols p) p.formulas (sound_below (length p.symbols) equality p.formulas few well_formed) (expansion_picks ws t e.0 order e.1) says;
          },
        ),
      )
