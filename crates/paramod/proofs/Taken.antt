-- Sides of equations that are taken.
use Rattle.std.proofs.Common.{◌≡◌, ℕ, Bool, true, false, not, ◌==◌, ◌&&◌, ◌||◌, if◌then◌else◌, List, [], ◌∷◌, ◌++◌, Option, Some, None, is_some, MatchOption, sym, ap, ap₂, ◌∙◌, append_assoc}
use Rattle.std.proofs.lemmas.List.{append-nil}
use Rattle.std.proofs.lemmas.Bool.{ne_eqb}
use Rattle.std.specs.Borrow.{Bor}
use Rattle.fol_core.specs.TermView.{tree_of}
use Rattle.fol_core.specs.Tree.{Tree}
use Rattle.fol_core.specs.declared.term.Term.{Term}
use Rattle.derivation.specs.Equations.{is_equation, left_of, right_of}
use Rattle.derivation.specs.Places.{atom_at}
use Rattle.derivation.specs.Sides.{AreSides}
use Rattle.derivation.specs.Words.{side_of}
use Rattle.prover_steps.specs.Clashing.{Held}
use Rattle.prover_steps.specs.Concluded.{Conclusion}
use Rattle.prover_steps.specs.Equalities.{is_bare_variable, is_oriented}
use Rattle.paramod.specs.Sites.{IsLargerSide, takes_side, side_tried, literal_tried, paramodulants_by}
use Rattle.resolution.proofs.Going.{flat_kept}

-- the larger side of an equation
module _ (greater : Tree → Tree → Bool) (atom : Tree) where
  pub no_larger : is_equation atom ≡ false → is_oriented greater atom ≡ false
  no_larger h = ap (λ b. b && greater (left_of atom) (right_of atom)) h

  by_sides : (s t : Tree) → AreSides atom s t → (b : Bool) → b ≡ greater s t → is_oriented greater atom ≡ b
  by_sides s t are b h = ap₂ (λ p q. p && q) are.equal (ap₂ greater (sym are.left_is) (sym are.right_is) ∙ sym h)

  pub other_larger : (s t : Tree) → AreSides atom s t → false ≡ greater s t → is_oriented greater atom ≡ false
  other_larger s t are h = by_sides s t are false h

  pub left_larger : (s t : Tree) → AreSides atom s t → true ≡ greater s t → IsLargerSide greater atom s
  left_larger s t are h = record { oriented = by_sides s t are true h; left_is = are.left_is }

  pub larger_tells : (o : Option (Bor Term)) → MatchOption o (is_oriented greater atom ≡ false) (λ (t : Bor Term). IsLargerSide greater atom (tree_of t.now)) → is_some o ≡ is_oriented greater atom
  larger_tells None h = sym h
  larger_tells (Some s) h = sym h.oriented

module _ (greater : Tree → Tree → Bool) (atom : Tree) (side : ℕ) (term : Tree) (is : term ≡ side_of side atom) where
  -- a variable
  pub side_bare : true ≡ is_bare_variable term → false ≡ takes_side greater atom side
  side_bare bare = sym (ap (λ b. not (b || (side == 2 && is_oriented greater atom))) (ap is_bare_variable (sym is) ∙ sym bare))

  -- not the right side
  pub side_first : false ≡ is_bare_variable term → (side ≡ 2 → ⊥) → true ≡ takes_side greater atom side
  side_first bare other =
      sym (ap (λ b. not (b || (side == 2 && is_oriented greater atom))) (ap is_bare_variable (sym is) ∙ sym bare) ∙ ap (λ b. not (b && is_oriented greater atom)) (ne_eqb side 2 other))

  -- the right one
  pub side_second : false ≡ is_bare_variable term → side ≡ 2 → (o : Bool) → o ≡ is_oriented greater atom → not o ≡ takes_side greater atom side
  side_second bare same o oriented =
      ap not oriented ∙ sym (ap (λ b. not (b || (side == 2 && is_oriented greater atom))) (ap is_bare_variable (sym is) ∙ sym bare) ∙ ap (λ n. not (n == 2 && is_oriented greater atom)) same)

-- both sides in turn
pub both_sides : (greater : Tree → Tree → Bool) (c d : Held) (a : ℕ) → literal_tried greater c d a ≡ side_tried greater c d a 1 ++ (side_tried greater c d a 2 ++ [])
both_sides greater c d a = flat_kept (takes_side greater (atom_at c.clause a)) (paramodulants_by greater c d a) (1 ∷ 2 ∷ [])

pub both_added : (greater : Tree → Tree → Bool) (c d : Held) (a : ℕ) (old first second : List Conclusion) → first ≡ old ++ side_tried greater c d a 1 → second ≡ first ++ side_tried greater c d a 2
    → second ≡ old ++ literal_tried greater c d a
both_added greater c d a old first second one two =
    two ∙ ap (λ ns. ns ++ side_tried greater c d a 2) one ∙ append_assoc old (side_tried greater c d a 1) (side_tried greater c d a 2)
    ∙ ap (λ ns. old ++ ns) (ap (λ ns. side_tried greater c d a 1 ++ ns) (sym (append-nil (side_tried greater c d a 2))) ∙ sym (both_sides greater c d a))

-- the clause itself, or another one
pub same_clause : (same : Bool) (old more : List Conclusion) → same ≡ true → old ≡ old ++ (if same then [] else more)
same_clause same old more e = sym (append-nil old) ∙ ap (λ b. old ++ (if b then [] else more)) (sym e)

pub other_clause : (same : Bool) (old more new : List Conclusion) → same ≡ false → new ≡ old ++ more → new ≡ old ++ (if same then [] else more)
other_clause same old more new e is = is ∙ ap (λ b. old ++ (if b then [] else more)) (sym e)
