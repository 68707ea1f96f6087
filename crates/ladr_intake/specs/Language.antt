-- The languages in which a problem can be posed.
use Rattle.std.specs.Prelude.{◌≡◌, ℕ, List}
use Rattle.ladr_intake.specs.Posed.{Posed}
use Rattle.ladr_intake.specs.declared.stops.Refused.{Refused}
use Rattle.ladr_problem.specs.Proper.{IsProper}

-- Which bytes pose what, and which are refused why: what bytes pose is a proper problem, and one
-- alone, and then they aren't refused.
pub record IsLanguage (says : List ℕ → Posed → Type 0) (refuses : List ℕ → Refused → Type 0) : Type
    0 where
  pub proper : (bytes : List ℕ) (x : Posed) → says bytes x → IsProper x.stated x.options
  pub once : (bytes : List ℕ) (x y : Posed) → says bytes x → says bytes y → x ≡ y
  pub unrefused : (bytes : List ℕ) (x : Posed) (why : Refused) → says bytes x → refuses bytes why →
      ⊥
