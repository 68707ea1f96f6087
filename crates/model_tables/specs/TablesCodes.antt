-- How the logic stores tables.
use Rattle.std.specs.Prelude.{ℕ, List, refl}
use Rattle.std.specs.Coded.{Coded, code_by, coded×, coded_ℕ, coded_list}
use Rattle.fol_problem.specs.StatedCodes.{coded_kind}
use Rattle.fol_core.specs.declared.symbols.Kind.{Kind}
use Rattle.model_tables.specs.Tables.{Listing, Finite, listing}

abbrev pub coded_listing : Coded Listing
coded_listing =
    code_by (Kind × List ℕ) (coded× coded_kind (coded_list coded_ℕ)) (λ l. (l.kind, l.values))
    (λ p. listing p.0 p.1) (λ _. refl)

abbrev pub coded_finite : Coded Finite
coded_finite =
    code_by (ℕ × List Listing) (coded× coded_ℕ (coded_list coded_listing)) (λ t. (t.top, t.rows))
    (λ p. record { top = p.0; rows = p.1 }) (λ _. refl)
