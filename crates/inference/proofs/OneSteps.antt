-- The rules with one parent: what has to be equal, and what is left.
use Rattle.std.proofs.Common.{◌≡◌, ℕ, Bool, true, false, not, ◌==◌, ◌||◌, IsTrue, List, [], ◌∷◌, ◌++◌, refl, sym, ap, ap₂, ◌∙◌}
use Rattle.std.proofs.lemmas.Bool.{false≢true, and_from, and_left, and_right, eq-eqb, ne_eqb}
use Rattle.fol_core.specs.Literals.{ClauseTree}
use Rattle.fol_core.specs.Substitutions.{substitute}
use Rattle.fol_core.specs.Tree.{Tree}
use Rattle.substitutions.specs.Apart.{Own, interleaved, apart_of}
use Rattle.substitutions.specs.Instances.{substitute_clause}
use Rattle.derivation.specs.Equations.{is_equation, left_of, right_of}
use Rattle.derivation.specs.Places.{are_alike, atom_at, has_literal, has_place, others}
use Rattle.derivation.specs.Sides.{AreSides}
use Rattle.derivation.specs.Words.{copy_rule, factor_rule, xx_rule}
use Rattle.derivation.proofs.LaterSound.{left_put, right_put}
use Rattle.derivation.proofs.Naturality.{alike_places, atom_at_put, atom_of_put, others_put}
use Rattle.inference.specs.Left.{Leaves, all_whole, left_clause}
use Rattle.inference.proofs.RuleSteps.{whole_put}

or_first : (x y : Bool) → x ≡ true → (x || y) ≡ true
or_first true y h = refl
or_first false y h = absurd (false≢true h)

or_last : (x y : Bool) → y ≡ true → (x || y) ≡ true
or_last true y h = refl
or_last false y h = h

-- a literal of a sign is a place
pub sign_place : (sign : Bool) (c : ClauseTree) (a : ℕ) → IsTrue (has_literal sign c a) → IsTrue (has_place c a)
sign_place true c a h = or_first (has_literal true c a) (has_literal false c a) h
sign_place false c a h = or_last (has_literal true c a) (has_literal false c a) h

-- what is left of the parent
pub copy_leaves : (c : ClauseTree) → Leaves copy_rule (c ∷ []) (all_whole 0 c)
copy_leaves c = λ own. whole_put own 0 c

without : (c : ClauseTree) (a : ℕ) (own : Own) → left_clause own (all_whole 0 (others (λ k. k == a) c)) ≡ others (λ k. k == a) (substitute_clause (own 0) c)
without c a own = whole_put own 0 (others (λ k. k == a) c) ∙ sym (others_put (own 0) (λ k. k == a) c)

pub factor_leaves : (a b : ℕ) (c : ClauseTree) → Leaves (factor_rule a b) (c ∷ []) (all_whole 0 (others (λ k. k == b) c))
factor_leaves a b c = λ own. without c b own

pub xx_leaves : (a : ℕ) (c : ClauseTree) → Leaves (xx_rule a) (c ∷ []) (all_whole 0 (others (λ k. k == a) c))
xx_leaves a c = λ own. without c a own

-- two terms of one parent
abbrev pub pair_in : ℕ → Tree → Tree → Tree × Tree
pair_in n s t = (substitute (interleaved n 0) s, substitute (interleaved n 0) t)

one_pair : (n : ℕ) (s t : Tree) (old new : List (Tree × Tree)) → n ≡ 1 → old ≡ [] → new ≡ old ++ pair_in n s t ∷ [] → new ≡ pair_in 1 s t ∷ []
one_pair n s t old new many none is = is ∙ ap₂ (λ (o : List (Tree × Tree)) m. o ++ pair_in m s t ∷ []) none many

-- a factor
pub factor_fits : (a b : ℕ) (c : ClauseTree) → (a ≡ b → ⊥) → IsTrue (are_alike c a c b) → IsTrue ((factor_rule a b).fits (c ∷ []))
factor_fits a b c differ alike = and_from (not (a == b)) (are_alike c a c b) (ap not (ne_eqb a b differ)) alike

pub factor_same : (a b : ℕ) (c : ClauseTree) → a ≡ b → (factor_rule a b).fits (c ∷ []) ≡ false
factor_same a b c same = and_left (not (a == b)) (are_alike c a c b) (ap not (eq-eqb a b same))

pub factor_unlike : (a b : ℕ) (c : ClauseTree) → are_alike c a c b ≡ false → (factor_rule a b).fits (c ∷ []) ≡ false
factor_unlike a b c h = and_right (not (a == b)) (are_alike c a c b) h

pub factor_pairs : (a b : ℕ) (c : ClauseTree) (n : ℕ) (s t : Tree) (old new : List (Tree × Tree)) → IsTrue (are_alike c a c b) → s ≡ atom_at c a → t ≡ atom_at c b → n ≡ 1 → old ≡ [] → new ≡ old ++ pair_in n s t ∷ []
    → new ≡ (factor_rule a b).pairs (apart_of (c ∷ []))
factor_pairs a b c n s t old new alike first second many none is =
    let there = alike_places c a c b alike in
    one_pair n s t old new many none is ∙ ap₂ (λ x y. pair_in 1 x y ∷ []) first second
    ∙ ap₂ (λ x y. (x, y) ∷ []) (sym (atom_at_put (interleaved 1 0) c a there.0)) (sym (atom_at_put (interleaved 1 0) c b there.1))

-- an equation that is false of the same
pub xx_no_literal : (a : ℕ) (c : ClauseTree) → has_literal false c a ≡ false → (xx_rule a).fits (c ∷ []) ≡ false
xx_no_literal a c h = and_left (has_literal false c a) (is_equation (atom_at c a)) h

pub xx_no_equation : (a : ℕ) (c : ClauseTree) (t : Tree) → t ≡ atom_at c a → is_equation t ≡ false → (xx_rule a).fits (c ∷ []) ≡ false
xx_no_equation a c t is h = and_right (has_literal false c a) (is_equation (atom_at c a)) (ap is_equation (sym is) ∙ h)

pub xx_fits : (a : ℕ) (c : ClauseTree) (l r : Tree) → IsTrue (has_literal false c a) → AreSides (atom_at c a) l r → IsTrue ((xx_rule a).fits (c ∷ []))
xx_fits a c l r there sides = and_from (has_literal false c a) (is_equation (atom_at c a)) there sides.equal

pub xx_pairs : (a : ℕ) (c : ClauseTree) (n : ℕ) (s t : Tree) (old new : List (Tree × Tree)) → IsTrue (has_literal false c a) → AreSides (atom_at c a) s t → n ≡ 1 → old ≡ [] → new ≡ old ++ pair_in n s t ∷ []
    → new ≡ (xx_rule a).pairs (apart_of (c ∷ []))
xx_pairs a c n s t old new there sides many none is =
    one_pair n s t old new many none is ∙ ap₂ (λ x y. pair_in 1 x y ∷ []) sides.left_is sides.right_is
    ∙ ap₂ (λ x y. (x, y) ∷ []) (sym (left_put (interleaved 1 0) (atom_at c a) sides.equal)) (sym (right_put (interleaved 1 0) (atom_at c a) sides.equal))
    ∙ ap (λ x. (left_of x, right_of x) ∷ []) (sym (atom_of_put (interleaved 1 0) false c a there))
