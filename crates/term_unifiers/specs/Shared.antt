-- Terms in a bank, whose variables have the places of their numbers in a list.
use Rattle.std.specs.Prelude.{ℕ, ◌<◌, ◌≡◌, List, ◌++◌, length, map}
use Rattle.std.specs.List.{slice_index_or}
use Rattle.fol_core.specs.Renumbered.{by_place}
use Rattle.fol_core.specs.Substitutions.{Substitution, substitute}
use Rattle.fol_core.specs.TermView.{tree_of}
use Rattle.fol_core.specs.Tree.{Tree}
use Rattle.substitutions.specs.Bindings.{Binding, by_bindings}
use Rattle.term_bank.specs.Bank.{Grows, tree_at}
use Rattle.term_bank.specs.Cells.{AreNumbersBelow}
use Rattle.term_bank.specs.declared.id.TermId.{TermId}
use Rattle.term_unifiers.specs.Classes.{In}
use Rattle.term_unifiers.specs.Renamed.{own_among}
use Rattle.term_unifiers.specs.declared.sharing.OfParent.{OfParent}
use Rattle.term_unifiers.specs.declared.sharing.Shared.{Shared}

-- a term is there under a number, and stays right where the list of variables grows
pub record IsHeld (bank : List Tree) (variables : List ℕ) (u : Tree) (id : ℕ) : Type 0 where
  pub within : id < length bank
  pub term : (behind : List ℕ) → tree_at bank id ≡ substitute (by_place (variables ++ behind)) u

pub record AreHeld (bank : List Tree) (variables : List ℕ) (us : List Tree) (ids : List ℕ) : Type 0
  where
    pub within : AreNumbersBelow (length bank) ids
    pub terms : (behind : List ℕ)
        → map (tree_at bank) ids ≡ map (substitute (by_place (variables ++ behind))) us

-- a list has others behind it
abbrev pub Extends : List ℕ → List ℕ → Type 0
Extends old new = (others : List ℕ) × (new ≡ old ++ others)

-- a term is put in, and several are
pub record IsPut (old new : List Tree) (before after : List ℕ) (u : Tree) (id : ℕ) : Type 0 where
  pub grows : Grows old new
  pub more : Extends before after
  pub held : IsHeld new after u id

pub record ArePut (old new : List Tree) (before after : List ℕ) (us : List Tree) (ids : List ℕ)
    : Type 0 where
  pub grows : Grows old new
  pub more : Extends before after
  pub held : AreHeld new after us ids

abbrev pub id_at : List TermId → ℕ → ℕ
id_at ids n = (slice_index_or ids n record { 0 = 0 }).0

abbrev pub numbers_of : List TermId → List ℕ
numbers_of ids = map (λ id. id.0) ids

-- the terms of these classes are there, by node
pub record AllHeld (terms : Substitution) (front : List ℕ) (count : ℕ) (bank : List Tree)
    (variables : List ℕ) (ids : List TermId) : Type 0 where
  pub as_many : length ids ≡ count
  pub held : (r : ℕ) → In r front → IsHeld bank variables (terms r) (id_at ids r)

-- a clause's term under bindings of so many clauses renamed apart
abbrev pub of_parent : ℕ → List Binding → OfParent → Tree
of_parent many bs p = substitute (own_among many (by_bindings bs) p.parent) (tree_of p.term.now)

-- the terms and others are there, by one list of variables
pub record IsShared (many : ℕ) (bs : List Binding) (ts us : List OfParent) (s : Shared) : Type 0
  where
    pub variables : List ℕ
    pub terms : AreHeld s.bank variables (map (of_parent many bs) ts) (numbers_of s.terms.items)
    pub others : AreHeld s.bank variables (map (of_parent many bs) us) (numbers_of s.others.items)
