-- Truth and atoms of clauses by the places of their literals.
use Rattle.std.proofs.Common.{◌≡◌, ◌⊎◌, inl, inr, ℕ, zero, suc, Bool, true, false, not, ◌&&◌, ◌||◌, if◌then◌else◌, IsTrue, [], ◌∷◌, ◌++◌, Option, Some, None, slice_get, refl, sym, ap, ◌∙◌, subst}
use Rattle.std.proofs.lemmas.Bool.{or_left, or_right, or_cases, and_parts, false≢true}
use Rattle.std.proofs.lemmas.List.Folds.{list_any-append}
use Rattle.fol_core.specs.Tree.{Tree}
use Rattle.fol_core.specs.Literals.{Lit, ClauseTree}
use Rattle.substitutions.specs.Atoms.{IsAtom, AreAtoms}
use Rattle.derivation.specs.Places.{same_sign, has_literal, has_place, atom_at, others, with_atom, are_alike, are_opposite}
use Rattle.derivation.proofs.Values.{holds, true_in}

-- whether the literal at a place is true
abbrev pub true_at : (Tree → Bool) → ClauseTree → ℕ → Bool
true_at A [] a = false
true_at A (l ∷ c) zero = holds A l
true_at A (l ∷ c) (suc a) = true_at A c a

abbrev pub signed : Bool → Bool → Bool
signed sign b = if sign then b else not b

-- signs that are one
pub sign_same : (a b : Bool) → IsTrue (same_sign a b) → a ≡ b
sign_same true true h = refl
sign_same true false h = absurd (false≢true h)
sign_same false true h = absurd (false≢true h)
sign_same false false h = refl

module _ (A : Tree → Bool) where
  -- where a clause is true, the others are, or a literal that isn't among them
  pub among_others : (test : ℕ → Bool) (c : ClauseTree) → IsTrue (true_in A c)
      → IsTrue (true_in A (others test c)) ⊎ ((a : ℕ) × IsTrue (test a) × IsTrue (true_at A c a))
  among_others test [] h = absurd (false≢true h)
  among_others test (l ∷ c) h = by (among_others (λ k. test (suc k)) c) (test 0) refl (or_cases (holds A l) (true_in A c) h)
    where
      by : (IsTrue (true_in A c) → IsTrue (true_in A (others (λ k. test (suc k)) c)) ⊎ ((a : ℕ) × IsTrue (test (suc a)) × IsTrue (true_at A c a)))
          → (b : Bool) → test 0 ≡ b → (holds A l ≡ true) ⊎ (true_in A c ≡ true)
          → IsTrue (true_in A (if b then others (λ k. test (suc k)) c else l ∷ others (λ k. test (suc k)) c)) ⊎ ((a : ℕ) × IsTrue (test a) × IsTrue (true_at A (l ∷ c) a))
      by rest true e (inl here) = inr (0, e, here)
      by rest true e (inr there) = elim (rest there) [ inl j ↦ inl j | inr p ↦ inr (suc p.0, p.1, p.2) ]
      by rest false e (inl here) = inl (or_left (holds A l) (true_in A (others (λ k. test (suc k)) c)) here)
      by rest false e (inr there) = elim (rest there) [
        | inl j ↦ inl (or_right (holds A l) (true_in A (others (λ k. test (suc k)) c)) j)
        | inr p ↦ inr (suc p.0, p.1, p.2)
      ]

  -- a true literal that stays
  pub stays : (test : ℕ → Bool) (c : ClauseTree) (a : ℕ) → test a ≡ false → IsTrue (true_at A c a) → IsTrue (true_in A (others test c))
  stays test [] a h there = absurd (false≢true there)
  stays test (l ∷ c) zero h there = subst (λ b. IsTrue (true_in A (if b then others (λ k. test (suc k)) c else l ∷ others (λ k. test (suc k)) c))) (sym h)
      (or_left (holds A l) (true_in A (others (λ k. test (suc k)) c)) there)
  stays test (l ∷ c) (suc a) h there = by (test 0) (stays (λ k. test (suc k)) c a h there)
    where
      by : (b : Bool) → IsTrue (true_in A (others (λ k. test (suc k)) c)) → IsTrue (true_in A (if b then others (λ k. test (suc k)) c else l ∷ others (λ k. test (suc k)) c))
      by true j = j
      by false j = or_right (holds A l) (true_in A (others (λ k. test (suc k)) c)) j

  -- the literal at a place, by its sign
  pub at_sign : (sign : Bool) (c : ClauseTree) (a : ℕ) → IsTrue (has_literal sign c a) → true_at A c a ≡ signed sign (A (atom_at c a))
  at_sign sign [] a h = absurd (false≢true h)
  at_sign sign (l ∷ c) zero h = ap (λ b. signed b (A l.atom)) (sym (sign_same sign l.positive h))
  at_sign sign (l ∷ c) (suc a) h = at_sign sign c a h

  -- another atom that is true where the one there is
  pub with_atom_true : (c : ClauseTree) (a : ℕ) (t : Tree) → A t ≡ A (atom_at c a) → true_in A (with_atom c a t) ≡ true_in A c
  with_atom_true [] a t h = refl
  with_atom_true (l ∷ c) zero t h = ap (λ b. signed l.positive b || true_in A c) h
  with_atom_true (l ∷ c) (suc a) t h = ap (λ b. holds A l || b) (with_atom_true c a t h)

  pub append_left : (c d : ClauseTree) → IsTrue (true_in A c) → IsTrue (true_in A (c ++ d))
  append_left c d h = list_any-append (holds A) c d ∙ or_left (true_in A c) (true_in A d) h

  pub append_right : (c d : ClauseTree) → IsTrue (true_in A d) → IsTrue (true_in A (c ++ d))
  append_right c d h = list_any-append (holds A) c d ∙ or_right (true_in A c) (true_in A d) h

  -- literals of one sign with one atom
  pub alike_true : (c : ClauseTree) (a : ℕ) (d : ClauseTree) (b : ℕ) → IsTrue (are_alike c a d b) → atom_at c a ≡ atom_at d b → IsTrue (true_at A d b) → IsTrue (true_at A c a)
  alike_true c a d b h same there = elim (or_cases (has_literal true c a && has_literal true d b) (has_literal false c a && has_literal false d b) h) [
    | inl p ↦ let q = and_parts (has_literal true c a) (has_literal true d b) p in at_sign true c a q.0 ∙ ap A same ∙ sym (at_sign true d b q.1) ∙ there
    | inr p ↦ let q = and_parts (has_literal false c a) (has_literal false d b) p in at_sign false c a q.0 ∙ ap (λ t. not (A t)) same ∙ sym (at_sign false d b q.1) ∙ there
  ]

  not_both : (b : Bool) → b ≡ true → not b ≡ true → ⊥
  not_both true h k = false≢true k
  not_both false h k = false≢true h

  -- of opposite signs with one atom: not both are true
  pub opposite_false : (c : ClauseTree) (a : ℕ) (d : ClauseTree) (b : ℕ) → IsTrue (are_opposite c a d b) → atom_at c a ≡ atom_at d b
      → IsTrue (true_at A c a) → IsTrue (true_at A d b) → ⊥
  opposite_false c a d b h same here there = elim (or_cases (has_literal true c a && has_literal false d b) (has_literal false c a && has_literal true d b) h) [
    | inl p ↦ let q = and_parts (has_literal true c a) (has_literal false d b) p in
        not_both (A (atom_at c a)) (sym (at_sign true c a q.0) ∙ here) (ap (λ t. not (A t)) same ∙ sym (at_sign false d b q.1) ∙ there)
    | inr p ↦ let q = and_parts (has_literal false c a) (has_literal true d b) p in
        not_both (A (atom_at c a)) (ap A same ∙ sym (at_sign true d b q.1) ∙ there) (sym (at_sign false c a q.0) ∙ here)
  ]

  abbrev pub holds_option : Option Lit → Bool
  holds_option None = false
  holds_option (Some l) = holds A l

  pub at_place : (c : ClauseTree) (a : ℕ) → true_at A c a ≡ holds_option (slice_get c a)
  at_place [] a = refl
  at_place (l ∷ c) zero = refl
  at_place (l ∷ c) (suc a) = at_place c a

-- atoms stay atoms
pub others_atoms : (test : ℕ → Bool) (c : ClauseTree) → AreAtoms c → AreAtoms (others test c)
others_atoms test [] h = tt
others_atoms test (l ∷ c) h = by (others_atoms (λ k. test (suc k)) c h.1) (test 0)
  where
    by : AreAtoms (others (λ k. test (suc k)) c) → (b : Bool) → AreAtoms (if b then others (λ k. test (suc k)) c else l ∷ others (λ k. test (suc k)) c)
    by rest true = rest
    by rest false = (h.0, rest)

pub with_atom_atoms : (c : ClauseTree) (a : ℕ) (t : Tree) → IsAtom t → AreAtoms c → AreAtoms (with_atom c a t)
with_atom_atoms [] a t atom h = tt
with_atom_atoms (l ∷ c) zero t atom h = (atom, h.1)
with_atom_atoms (l ∷ c) (suc a) t atom h = (h.0, with_atom_atoms c a t atom h.1)

pub append_atoms : (c d : ClauseTree) → AreAtoms c → AreAtoms d → AreAtoms (c ++ d)
append_atoms [] d h k = k
append_atoms (l ∷ c) d h k = (h.0, append_atoms c d h.1 k)

-- the atom at a place that is there
pub atom_there : (sign : Bool) (c : ClauseTree) (a : ℕ) → IsTrue (has_literal sign c a) → AreAtoms c → IsAtom (atom_at c a)
atom_there sign [] a h atoms = absurd (false≢true h)
atom_there sign (l ∷ c) zero h atoms = atoms.0
atom_there sign (l ∷ c) (suc a) h atoms = atom_there sign c a h atoms.1

pub atom_placed : (c : ClauseTree) (a : ℕ) → IsTrue (has_place c a) → AreAtoms c → IsAtom (atom_at c a)
atom_placed c a h atoms = elim (or_cases (has_literal true c a) (has_literal false c a) h) [
  | inl p ↦ atom_there true c a p atoms
  | inr p ↦ atom_there false c a p atoms
]
