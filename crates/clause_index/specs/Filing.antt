-- Clauses whose numbers stand under their terms and marks.
use Rattle.std.specs.Prelude.{ℕ, ◌≡◌, Bool, true, false, IsTrue, not, ◌&&◌, List}
use Rattle.std.specs.List.{AllByRecursion, Contains}
use Rattle.std.specs.List.Sorted.{IsStrictlyIncreasing}
use Rattle.clause_index.specs.Entries.{is_short, is_short_of, first_atom}
use Rattle.clause_index.specs.Marks.{marks_of}
use Rattle.clause_index.specs.Subsumers.{is_long_above, is_below}
use Rattle.clause_index.specs.Finding.{has_part_such, has_such_below, has_side_such, has_atom_such, has_inside_such, has_equation_such}
use Rattle.clause_index.specs.declared.finder.Finder.{Finder}
use Rattle.clause_index.specs.declared.parts.Part.{Part}
use Rattle.clause_index.specs.declared.parts.Part.TheVariants.{Atoms, Inside, Sides}
use Rattle.derivation.specs.Places.{same_sign}
use Rattle.discrim_tree.specs.Marks.{IsMarked, StayMarked, OthersStayMarked}
use Rattle.discrim_tree.specs.Sieves.{IsUnder, StayUnder, OthersStay}
use Rattle.discrim_tree.specs.declared.marks.MarkSieve.{MarkSieve}
use Rattle.discrim_tree.specs.declared.sieve.Sieve.{Sieve}
use Rattle.discrim_tree.specs.Terms.{has_instance}
use Rattle.fol_core.specs.Literals.{Lit, ClauseTree}
use Rattle.fol_core.specs.Tree.{Tree}
use Rattle.prover_steps.specs.Clashing.{Held}

-- whatever the test, a number stands under a term that passes, if there is to be one
abbrev pub Shows : Sieve → ℕ → ((Tree → Bool) → Bool) → Type 0
Shows sieve n has =
    (test : Tree → Bool) → IsTrue (has test)
    → (s : Tree) × IsTrue (test s) × IsUnder sieve s n

-- the marks of a clause, each once, rising
pub record AreMarksOf (ms : List ℕ) (c : ClauseTree) : Type 0 where
  pub rise : IsStrictlyIncreasing ms
  pub all : (m : ℕ) → Contains (marks_of c) m → Contains ms m
  pub only : (m : ℕ) → Contains ms m → Contains (marks_of c) m

-- a number stands under the marks of a clause, if that has two literals or more
abbrev pub IsUnderMarks : MarkSieve → Held → Type 0
IsUnderMarks sieve h =
    is_short h.clause ≡ false
    → (ms : List ℕ) × AreMarksOf ms h.clause × IsMarked sieve ms h.number

-- numbers stay under their terms and marks
pub record AllStay (old new : Finder) : Type 0 where
  pub positives : StayUnder old.positives new.positives
  pub negatives : StayUnder old.negatives new.negatives
  pub kept : old.keeps_inside ≡ new.keeps_inside
  pub inside : StayUnder old.inside new.inside
  pub sides : StayUnder old.sides new.sides
  pub long : StayMarked old.long new.long

-- those but for one do
pub record AllOthersStay (n : ℕ) (old new : Finder) : Type 0 where
  pub positives : OthersStay n old.positives new.positives
  pub negatives : OthersStay n old.negatives new.negatives
  pub kept : old.keeps_inside ≡ new.keeps_inside
  pub inside : OthersStay n old.inside new.inside
  pub sides : OthersStay n old.sides new.sides
  pub long : OthersStayMarked n old.long new.long

-- a number stands under the terms of a literal, under its atom only in a clause of two literals or
-- more, and under those below its atom only where they are kept
pub record IsFiledLiteral (long : Bool) (f : Finder) (n : ℕ) (l : Lit) : Type 0 where
  pub positives :
      long ≡ true → Shows f.positives n (λ test. same_sign true l.positive && test l.atom)
  pub negatives :
      long ≡ true → Shows f.negatives n (λ test. same_sign false l.positive && test l.atom)
  pub inside : f.keeps_inside ≡ true → Shows f.inside n (λ test. has_such_below test l.atom)
  pub sides : Shows f.sides n (λ test. has_side_such test l)

-- a clause's number stands under its terms and marks likewise
pub record IsFiled (f : Finder) (h : Held) : Type 0 where
  pub positives :
      is_short h.clause ≡ false → Shows f.positives h.number (λ test. has_atom_such test true h)
  pub negatives :
      is_short h.clause ≡ false → Shows f.negatives h.number (λ test. has_atom_such test false h)
  pub inside : f.keeps_inside ≡ true → Shows f.inside h.number (λ test. has_inside_such test h)
  pub sides : Shows f.sides h.number (λ test. has_equation_such test h)
  pub long : IsUnderMarks f.long h

-- those of all clauses do
abbrev pub AreFiled : Finder → List Held → Type 0
AreFiled f hs = AllByRecursion (IsFiled f) hs

-- whether the numbers of clauses are kept that have a term there
abbrev pub is_kept : Part → Finder → Bool
is_kept (Atoms sign) f = true
is_kept Inside f = f.keeps_inside
is_kept Sides f = true

-- whether a clause is found by such terms: one of one literal is not found by its atom
abbrev pub is_sought : Part → Held → Bool
is_sought (Atoms sign) h = not (is_short h.clause)
is_sought Inside h = true
is_sought Sides h = true

-- where the numbers of clauses stand that have a term there
abbrev pub sieve_of : Part → Finder → Sieve
sieve_of (Atoms true) f = f.positives
sieve_of (Atoms false) f = f.negatives
sieve_of Inside f = f.inside
sieve_of Sides f = f.sides

-- of the clauses that are filed and found by such terms none is left out that has one that passes
abbrev pub LeavesOutNoClause : Finder → Part → (Tree → Bool) → List ℕ → Type 0
LeavesOutNoClause f part test ns =
    (h : Held) → IsFiled f h → IsTrue (is_sought part h) → IsTrue (has_part_such part test h)
    → Contains ns h.number

-- of some clauses none is left out that has one
abbrev pub HasAllSuch : Part → (Tree → Bool) → List Held → List ℕ → Type 0
HasAllSuch part test hs ns =
    AllByRecursion (λ h. IsTrue (has_part_such part test h) → Contains ns h.number) hs

-- of those of one literal none is left out that has a sign and an atom that passes
abbrev pub HasAllShort : Bool → (Tree → Bool) → List Held → List ℕ → Type 0
HasAllShort sign test hs ns =
    AllByRecursion (λ h. IsTrue (is_short_of sign h && test (first_atom h)) → Contains ns h.number)
    hs

-- none is left out of those of two literals or more that subsume a clause
abbrev pub LeavesOutNoSubsumer : Finder → ClauseTree → List ℕ → Type 0
LeavesOutNoSubsumer f c ns =
    (h : Held) → IsFiled f h → IsTrue (is_long_above c h) → Contains ns h.number

-- and none of those that one of two literals or more subsumes
abbrev pub LeavesOutNoSubsumed : Finder → ClauseTree → List ℕ → Type 0
LeavesOutNoSubsumed f c ns =
    is_short c ≡ false → (h : Held) → IsFiled f h → IsTrue (is_below c h) → Contains ns h.number

-- numbers come to others, and none is left out of those of clauses of two literals or more with one
-- of which another is an instance
pub record AddsGeneral (f : Finder) (k : Lit) (old new : List ℕ) : Type 0 where
  pub kept : (n : ℕ) → Contains old n → Contains new n
  pub added :
      (h : Held) → IsFiled f h → is_short h.clause ≡ false
      → IsTrue (has_atom_such (λ s. has_instance s k.atom) k.positive h)
      → Contains new h.number
