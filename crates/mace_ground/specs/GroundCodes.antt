-- How the logic stores instances.
use Rattle.std.specs.Prelude.{ℕ, List, refl}
use Rattle.std.specs.Coded.{Coded, code_by, coded×, coded_ℕ, coded_list}
use Rattle.fol_core.specs.LitCodes.{coded_clause}
use Rattle.fol_core.specs.Literals.{ClauseTree}
use Rattle.fol_problem.specs.StatedCodes.{coded_kind}
use Rattle.fol_core.specs.declared.symbols.Kind.{Kind}
use Rattle.mace_ground.specs.Cells.{Block}
use Rattle.mace_ground.specs.Instances.{Instances}

abbrev pub coded_block : Coded Block
coded_block =
    code_by (Kind × (ℕ × ℕ)) (coded× coded_kind (coded× coded_ℕ coded_ℕ))
    (λ b. (b.kind, (b.symbol, b.arity))) (λ p. record { kind = p.0; symbol = p.1.0; arity = p.1.1 })
    (λ _. refl)

abbrev pub coded_instances : Coded Instances
coded_instances =
    code_by (ℕ × (List Block × List ClauseTree))
    (coded× coded_ℕ (coded× (coded_list coded_block) (coded_list coded_clause)))
    (λ g. (g.size, (g.blocks, g.clauses)))
    (λ p. record { size = p.0; blocks = p.1.0; clauses = p.1.1 }) (λ _. refl)
