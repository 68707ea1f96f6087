-- Bindings with room for more.
use Rattle.std.specs.Prelude.{ℕ, List, refl}
use Rattle.std.specs.Coded.{Coded, code_by, coded×, coded_ℕ}
use Rattle.substitutions.specs.Bindings.{Binding, coded_bindings}

-- bindings, and for how many there is room
pub record Matching : Type 0 where
  pub bindings : List Binding
  pub room : ℕ

abbrev pub coded_matching : Coded Matching
coded_matching =
    code_by (List Binding × ℕ) (coded× coded_bindings coded_ℕ) (λ m. (m.bindings, m.room))
    (λ p. record { bindings = p.0; room = p.1 }) (λ _. refl)
