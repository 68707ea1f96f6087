-- Marking, and marking more.
use Rattle.std.proofs.Common.{◌≡◌, ℕ, zero, suc, ◌+◌, ◌<◌, ◌||◌, Bool, false, List, [], ◌∷◌, length, drop, get_or, sym, ap, ap₂, ◌∙◌, arith}
use Rattle.std.proofs.Math.Bool.{or_assoc}
use Rattle.fol_core.specs.Tree.{trees_of}
use Rattle.fol_core.specs.Fol.{Fol}
use Rattle.fol_core.specs.TermView.{tree_of, tree_list}
use Rattle.fol_core.specs.Bound.{has_symbol, have_symbol, uses_symbol}
use Rattle.fol_core.specs.Occurs.{AreMarked}
use Rattle.fol_core.specs.declared.term.Term.{Term}

-- the symbols of two parts are marked one after the other
pub marked_both : (f g : Fol) (d e : Fol) (a b c : List Bool) → d ≡ f → e ≡ g → length b ≡ length a → AreMarked (λ s. uses_symbol s d) a b → AreMarked (λ s. uses_symbol s e) b c
    → AreMarked (λ s. uses_symbol s f || uses_symbol s g) a c
marked_both f g d e a b c df eg many h k s l =
    k s (omega arith) ∙ ap (λ (x : Bool). x || uses_symbol s e) (h s l) ∙ or_assoc (get_or a s false) (uses_symbol s d) (uses_symbol s e) ∙ ap₂ (λ (x y : Fol). get_or a s false || (uses_symbol s x || uses_symbol s y)) df eg

-- the symbols of the terms from i on are those of the i-th and of the rest
any_next : (s : ℕ) (items : List Term) (i : ℕ) (t : Term) → i < length items → t ≡ get_or items i t
    → have_symbol s (trees_of (tree_list (drop i items))) ≡ (has_symbol s (tree_of t) || have_symbol s (trees_of (tree_list (drop (i + 1) items))))
any_next s [] i t l e = absurd (omega arith)
any_next s (x ∷ xs) zero t l e = ap (λ (y : Term). has_symbol s (tree_of y) || have_symbol s (trees_of (tree_list xs))) (sym e)
any_next s (x ∷ xs) (suc i) t l e = let same : suc i + 1 ≡ suc (i + 1) = omega arith in rw same (any_next s xs i t (omega arith) e)

-- what a further term's symbols leave to mark
pub marked_next : (items : List Term) (i : ℕ) (t : Term) (now new : List Bool) (all : ℕ → Bool) → i < length items → t ≡ get_or items i t
    → AreMarked (λ s. has_symbol s (tree_of t)) now new → (s : ℕ) → s < length now
    → (get_or now s false || have_symbol s (trees_of (tree_list (drop i items)))) ≡ all s
    → (get_or new s false || have_symbol s (trees_of (tree_list (drop (i + 1) items)))) ≡ all s
marked_next items i t now new all l e marked s in_there rest =
    ap (λ (b : Bool). b || have_symbol s (trees_of (tree_list (drop (i + 1) items)))) (marked s in_there)
    ∙ or_assoc (get_or now s false) (has_symbol s (tree_of t)) (have_symbol s (trees_of (tree_list (drop (i + 1) items))))
    ∙ ap (λ (b : Bool). get_or now s false || b) (sym (any_next s items i t l e)) ∙ rest
