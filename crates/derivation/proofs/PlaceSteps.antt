-- Literals by their places in a list.
use Rattle.std.proofs.Common.{◌≡◌, ℕ, zero, suc, ◌<◌, ◌≤◌, Bool, true, false, List, [], ◌∷◌, map, length, get_or, slice_get, Some, None, refl, ap, ◌∙◌, arith}
use mathlib.Core.Bool.{beq}
use Rattle.fol_core.specs.ClauseView.{literal_of}
use Rattle.fol_core.specs.Literals.{Lit, ClauseTree}
use Rattle.fol_core.specs.TermView.{tree_of}
use Rattle.fol_core.specs.Tree.{var}
use Rattle.fol_core.specs.declared.clause.Literal.{Literal}
use Rattle.derivation.specs.Places.{same_sign, has_literal, atom_at}

-- the literal at a place
pub got_there : (ls : List Literal) (a : ℕ) (l : Literal) → a < length ls → l ≡ get_or ls a l → Some (literal_of l) ≡ slice_get (map literal_of ls) a
got_there [] a l h is = absurd (omega arith)
got_there (k ∷ ls) zero l h is = ap (λ (m : Literal). Some (literal_of m)) is
got_there (k ∷ ls) (suc a) l h is = got_there ls a l (omega arith) is

pub got_past : (ls : List Literal) (a : ℕ) → length ls ≤ a → None ≡ slice_get (map literal_of ls) a
got_past [] a h = refl
got_past (k ∷ ls) zero h = absurd (omega arith)
got_past (k ∷ ls) (suc a) h = got_past ls a (omega arith)

-- its atom
atom_of_one : (c : ClauseTree) (a : ℕ) (l : Lit) → Some l ≡ slice_get c a → l.atom ≡ atom_at c a
atom_of_one [] a l h = absurd (cc)
atom_of_one (k ∷ c) zero l h = let same : l ≡ k = cc in ap (λ (m : Lit). m.atom) same
atom_of_one (k ∷ c) (suc a) l h = atom_of_one c a l h

pub atom_got : (c : ClauseTree) (a : ℕ) (l : Literal) → Some (literal_of l) ≡ slice_get c a → tree_of l.atom ≡ atom_at c a
atom_got c a l h = atom_of_one c a (literal_of l) h

pub atom_none : (c : ClauseTree) (a : ℕ) → None ≡ slice_get c a → atom_at c a ≡ var 0
atom_none [] a h = refl
atom_none (k ∷ c) zero h = cc
atom_none (k ∷ c) (suc a) h = atom_none c a h

-- and its sign, as the code compares it
sign_compared : (a b : Bool) → beq b a ≡ same_sign a b
sign_compared true true = refl
sign_compared true false = refl
sign_compared false true = refl
sign_compared false false = refl

sign_of_one : (c : ClauseTree) (a : ℕ) (l : Lit) (sign : Bool) → Some l ≡ slice_get c a → same_sign sign l.positive ≡ has_literal sign c a
sign_of_one [] a l sign h = absurd (cc)
sign_of_one (k ∷ c) zero l sign h = let same : l ≡ k = cc in ap (λ (m : Lit). same_sign sign m.positive) same
sign_of_one (k ∷ c) (suc a) l sign h = sign_of_one c a l sign h

pub sign_got : (c : ClauseTree) (a : ℕ) (l : Literal) (sign : Bool) → Some (literal_of l) ≡ slice_get c a → beq l.positive sign ≡ has_literal sign c a
sign_got c a l sign h = sign_compared sign l.positive ∙ sign_of_one c a (literal_of l) sign h

pub sign_none : (c : ClauseTree) (a : ℕ) (sign : Bool) → None ≡ slice_get c a → has_literal sign c a ≡ false
sign_none [] a sign h = refl
sign_none (k ∷ c) zero sign h = cc
sign_none (k ∷ c) (suc a) sign h = sign_none c a sign h
