-- Tables are an interpretation.
use Rattle.std.specs.Prelude.{ℕ, ◌≡◌, nat_le, IsTrue, refl, Bool, true, false, if◌then◌else◌}
use Rattle.std.proofs.Common.{rules, tests}
use Rattle.fol_core.specs.Meaning.{IsLawful}
use Rattle.model_tables.specs.Tables.{Finite, listed_value, element, meaning_of}

zero_within : (t : Finite) → IsTrue (nat_le 0 t.top)
zero_within t = search (rules, tests)

if_within : (t : Finite) (x : ℕ) (b : Bool) → nat_le x t.top ≡ b →
    IsTrue (nat_le (if b then x else 0) t.top)
if_within t x true h = h
if_within t x false h = zero_within t

pub element_within : (t : Finite) (x : ℕ) → IsTrue (nat_le (element t x) t.top)
element_within t x = if_within t x _ refl

-- every element that a function has is one
pub tables_lawful : (t : Finite) → IsLawful (meaning_of t)
tables_lawful t =
    record {
      element = (0, zero_within t);
      closed = λ f xs h. element_within t (listed_value t f xs);
    }
