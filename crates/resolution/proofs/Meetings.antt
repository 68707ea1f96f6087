-- Why literals can't clash or be merged.
use Rattle.std.proofs.Common.{◌≡◌, ℕ, zero, suc, ◌<◌, ◌≤◌, Bool, true, false, ◌&&◌, ◌||◌, List, [], ◌∷◌, length, get_or, map, refl, sym, ap, ap₂, ◌∙◌, arith}
use Rattle.std.proofs.lemmas.Bool.{false≢true}
use Rattle.fol_core.specs.ClauseView.{literal_of}
use Rattle.fol_core.specs.declared.clause.Literal.{Literal}
use Rattle.derivation.specs.Places.{same_sign, has_literal, atom_at, are_opposite, are_alike}
use Rattle.fol_core.specs.Substitutions.{substitute}
use Rattle.fol_core.specs.TermView.{tree_of}
use Rattle.discrim_tree.specs.Meeting.{NeverMeet}
use Rattle.resolution.specs.Meeting.{NeverClash, NeverMerge}

-- places of a clause's literals
pub literal_past : (ls : List Literal) (a : ℕ) (sign : Bool) → length ls ≤ a → has_literal sign (map literal_of ls) a ≡ false
literal_past [] a sign h = refl
literal_past (l ∷ ls) zero sign h = absurd (omega arith)
literal_past (l ∷ ls) (suc a) sign h = literal_past ls a sign (omega arith)

literal_there : (ls : List Literal) (a : ℕ) (d : Literal) (sign : Bool) → a < length ls → has_literal sign (map literal_of ls) a ≡ same_sign sign (get_or ls a d).positive
literal_there [] a d sign h = absurd (omega arith)
literal_there (l ∷ ls) zero d sign h = refl
literal_there (l ∷ ls) (suc a) d sign h = literal_there ls a d sign (omega arith)

pub positive_there : (ls : List Literal) (a : ℕ) (d : Literal) → a < length ls → has_literal true (map literal_of ls) a ≡ (get_or ls a d).positive
positive_there ls a d h = literal_there ls a d true h

pub atom_there : (ls : List Literal) (a : ℕ) (d : Literal) → a < length ls → atom_at (map literal_of ls) a ≡ tree_of (get_or ls a d).atom
atom_there [] a d h = absurd (omega arith)
atom_there (l ∷ ls) zero d h = refl
atom_there (l ∷ ls) (suc a) d h = atom_there ls a d (omega arith)

-- signs that are the same aren't opposite, and signs that differ aren't alike
not_opposite : (p q : Bool) → p ≡ q → (same_sign true p && same_sign false q) || (same_sign false p && same_sign true q) ≡ false
not_opposite true true e = refl
not_opposite false false e = refl
not_opposite true false e = cc
not_opposite false true e = cc

not_alike : (p q : Bool) → (p ≡ q → ⊥) → (same_sign true p && same_sign true q) || (same_sign false p && same_sign false q) ≡ false
not_alike true true e = absurd (e refl)
not_alike false false e = absurd (e refl)
not_alike true false e = refl
not_alike false true e = refl

module _ (ls ks : List Literal) (a b : ℕ) where
  opposite_is : (p q : Bool) → ((sign : Bool) → has_literal sign (map literal_of ls) a ≡ same_sign sign p) → ((sign : Bool) → has_literal sign (map literal_of ks) b ≡ same_sign sign q)
      → are_opposite (map literal_of ls) a (map literal_of ks) b ≡ ((same_sign true p && same_sign false q) || (same_sign false p && same_sign true q))
  opposite_is p q left right = ap₂ (λ x y. x || y) (ap₂ (λ x y. x && y) (left true) (right false)) (ap₂ (λ x y. x && y) (left false) (right true))

  alike_is : (p q : Bool) → ((sign : Bool) → has_literal sign (map literal_of ls) a ≡ same_sign sign p) → ((sign : Bool) → has_literal sign (map literal_of ks) b ≡ same_sign sign q)
      → are_alike (map literal_of ls) a (map literal_of ks) b ≡ ((same_sign true p && same_sign true q) || (same_sign false p && same_sign false q))
  alike_is p q left right = ap₂ (λ x y. x || y) (ap₂ (λ x y. x && y) (left true) (right true)) (ap₂ (λ x y. x && y) (left false) (right false))

and_none : (p q : Bool) → (p && false) || (q && false) ≡ false
and_none true true = refl
and_none true false = refl
and_none false true = refl
and_none false false = refl

-- a place that isn't there
pub never_clash_past : (ls ks : List Literal) (a b : ℕ) → length ls ≤ a → NeverClash (map literal_of ls) a (map literal_of ks) b
never_clash_past ls ks a b h opposite =
    absurd (false≢true (sym (ap₂ (λ x y. (x && has_literal false (map literal_of ks) b) || (y && has_literal true (map literal_of ks) b)) (literal_past ls a true h) (literal_past ls a false h)) ∙ opposite))

pub never_clash_behind : (ls ks : List Literal) (a b : ℕ) → length ks ≤ b → NeverClash (map literal_of ls) a (map literal_of ks) b
never_clash_behind ls ks a b h opposite =
    absurd (false≢true (sym (ap₂ (λ x y. (has_literal true (map literal_of ls) a && x) || (has_literal false (map literal_of ls) a && y)) (literal_past ks b false h) (literal_past ks b true h)
    ∙ and_none (has_literal true (map literal_of ls) a) (has_literal false (map literal_of ls) a)) ∙ opposite))

-- one sign
pub never_clash_signs : (ls ks : List Literal) (a b : ℕ) (l k : Literal) → a < length ls → b < length ks → l ≡ get_or ls a l → k ≡ get_or ks b k → l.positive ≡ k.positive
    → NeverClash (map literal_of ls) a (map literal_of ks) b
never_clash_signs ls ks a b l k h g is was same opposite =
    absurd (false≢true (sym (opposite_is ls ks a b (get_or ls a l).positive (get_or ks b k).positive (λ sign. literal_there ls a l sign h) (λ sign. literal_there ks b k sign g)
    ∙ not_opposite (get_or ls a l).positive (get_or ks b k).positive (ap (λ (r : Literal). r.positive) (sym is) ∙ same ∙ ap (λ (r : Literal). r.positive) was)) ∙ opposite))

-- atoms that never meet
pub never_clash_atoms : (ls ks : List Literal) (a b : ℕ) (l k : Literal) → a < length ls → b < length ks → l ≡ get_or ls a l → k ≡ get_or ks b k → NeverMeet (tree_of l.atom) (tree_of k.atom)
    → NeverClash (map literal_of ls) a (map literal_of ks) b
never_clash_atoms ls ks a b l k h g is was never opposite u v same =
    never u v (ap (λ (r : Literal). substitute u (tree_of r.atom)) is ∙ ap (substitute u) (sym (atom_there ls a l h)) ∙ same ∙ ap (substitute v) (atom_there ks b k g) ∙ ap (λ (r : Literal). substitute v (tree_of r.atom)) (sym was))

-- so of one clause
pub never_merge_past : (ls : List Literal) (a b : ℕ) → length ls ≤ a → NeverMerge (map literal_of ls) a b
never_merge_past ls a b h alike =
    absurd (false≢true (sym (ap₂ (λ x y. (x && has_literal true (map literal_of ls) b) || (y && has_literal false (map literal_of ls) b)) (literal_past ls a true h) (literal_past ls a false h)) ∙ alike))

pub never_merge_behind : (ls : List Literal) (a b : ℕ) → length ls ≤ b → NeverMerge (map literal_of ls) a b
never_merge_behind ls a b h alike =
    absurd (false≢true (sym (ap₂ (λ x y. (has_literal true (map literal_of ls) a && x) || (has_literal false (map literal_of ls) a && y)) (literal_past ls b true h) (literal_past ls b false h)
    ∙ and_none (has_literal true (map literal_of ls) a) (has_literal false (map literal_of ls) a)) ∙ alike))

pub never_merge_signs : (ls : List Literal) (a b : ℕ) (l k : Literal) → a < length ls → b < length ls → l ≡ get_or ls a l → k ≡ get_or ls b k → (l.positive ≡ k.positive → ⊥) → NeverMerge (map literal_of ls) a b
never_merge_signs ls a b l k h g is was other alike =
    absurd (false≢true (sym (alike_is ls ls a b (get_or ls a l).positive (get_or ls b k).positive (λ sign. literal_there ls a l sign h) (λ sign. literal_there ls b k sign g)
    ∙ not_alike (get_or ls a l).positive (get_or ls b k).positive (λ same. other (ap (λ (r : Literal). r.positive) is ∙ same ∙ ap (λ (r : Literal). r.positive) (sym was)))) ∙ alike))

pub never_merge_atoms : (ls : List Literal) (a b : ℕ) (l k : Literal) → a < length ls → b < length ls → l ≡ get_or ls a l → k ≡ get_or ls b k → NeverMeet (tree_of l.atom) (tree_of k.atom) → NeverMerge (map literal_of ls) a b
never_merge_atoms ls a b l k h g is was never alike u v same =
    never u v (ap (λ (r : Literal). substitute u (tree_of r.atom)) is ∙ ap (substitute u) (sym (atom_there ls a l h)) ∙ same ∙ ap (substitute v) (atom_there ls b k g) ∙ ap (λ (r : Literal). substitute v (tree_of r.atom)) (sym was))
