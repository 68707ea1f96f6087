-- Terms of a bank for variables.
use Rattle.std.specs.Prelude.{ℕ, ◌≡◌, Bool, true, false, List, length, map, Option, Some, None}
use Rattle.fol_core.specs.Tree.{Tree}
use Rattle.substitutions.specs.Bindings.{Binding}
use Rattle.term_bank.specs.Bank.{tree_at}
use Rattle.term_bank.specs.Cells.{AreNumbersBelow}
use Rattle.term_bank.specs.declared.id.TermId.{TermId}

abbrev pub binding_in : List Tree → ℕ × TermId → Binding
binding_in bank b = (b.0, tree_at bank b.1.0)

abbrev pub bound_in : List Tree → List (ℕ × TermId) → List Binding
bound_in bank bs = map (binding_in bank) bs

-- their numbers are below this one
abbrev pub AreBoundBelow : ℕ → List (ℕ × TermId) → Type 0
AreBoundBelow n bs = AreNumbersBelow n (map (λ b. b.1.0) bs)

-- bindings are found, and these; or none are
abbrev pub IsMatched : Option (List Binding) → List Tree → List (ℕ × TermId) → Bool → Type 0
IsMatched o bank bs true = (o ≡ Some (bound_in bank bs)) × AreBoundBelow (length bank) bs
IsMatched o bank bs false = o ≡ None

-- the terms of bindings are there
pub record AreBoundTo (bank : List Tree) (es : List Binding) (bs : List (ℕ × TermId)) : Type 0 where
  pub within : AreBoundBelow (length bank) bs
  pub same : bound_in bank bs ≡ es
