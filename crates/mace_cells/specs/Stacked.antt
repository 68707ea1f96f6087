-- A stack of fixed room.
use Rattle.std.specs.Prelude.{ℕ, ◌≡◌, List, [], ◌∷◌, ◌++◌, length, refl}
use Rattle.std.specs.Coded.{Coded, code_by, coded×, coded_ℕ, coded_list}

-- how many items there is room for, and the items, the latest first
pub record Stacked (X : Type 0) : Type 0 where
  pub room : ℕ
  pub list : List X

abbrev pub stacked : {X : Type 0} → ℕ → List X → Stacked X
stacked room list = record { room = room; list = list }

abbrev pub coded_stacked : {X : Type 0} → Coded X → Coded (Stacked X)
coded_stacked {X = X} code =
    code_by (ℕ × List X) (coded× coded_ℕ (coded_list code)) (λ s. (s.room, s.list))
    (λ p. record { room = p.0; list = p.1 }) (λ _. refl)

-- this item stands there, the latest first, with so many behind it that are earlier
abbrev pub IsItemAt : {X : Type 0} → List X → ℕ → X → Type 0
IsItemAt {X = X} xs at x =
    (later : List X)
    × ((earlier : List X) × (xs ≡ later ++ x ∷ earlier) × (length earlier ≡ at))

-- all but the latest
abbrev pub rest_of : {X : Type 0} → List X → List X
rest_of [] = []
rest_of (x ∷ xs) = xs
