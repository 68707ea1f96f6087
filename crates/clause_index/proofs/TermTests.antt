-- Terms that pass a test, argument by argument; and unifiers, which two terms have in either order.
use Rattle.std.proofs.Common.{◌≡◌, ℕ, ◌+◌, ◌<◌, ◌≤◌, Bool, true, false, IsTrue, ◌||◌, List, length, get_or, drop, refl, sym, ap, ◌∙◌}
use Rattle.std.proofs.lemmas.List.{drop_all}
use Rattle.std.proofs.Math.Path.{fun_ext}
use Rattle.discrim_tree.specs.Terms.{can_unify}
use Rattle.discrim_tree.proofs.Terms.{unifiers_are_of_two}
use Rattle.clause_index.specs.Finding.{has_term_such, has_argument_such}
use Rattle.fol_core.specs.TermView.{tree_of, tree_list}
use Rattle.fol_core.specs.Tree.{Tree, trees_of}
use Rattle.fol_core.specs.declared.term.Term.{Term}
use Rattle.held_clauses.proofs.Items.{drop_item}

-- whether one of the terms from a place on passes
abbrev pub terms_from : (Tree → Bool) → List Term → ℕ → Bool
terms_from test ts i = has_argument_such test (trees_of (tree_list (drop i ts)))

term_step : (test : Tree → Bool) (ts : List Term) (i : ℕ) (t : Term) → i < length ts → t ≡ get_or ts i t → terms_from test ts i ≡ (has_term_such test (tree_of t) || terms_from test ts (i + 1))
term_step test ts i t h is = ap (λ us. has_argument_such test (trees_of (tree_list us))) (drop_item ts i t h is)

pub term_here : (test : Tree → Bool) (ts : List Term) (i : ℕ) (t : Term) → i < length ts → t ≡ get_or ts i t → has_term_such test (tree_of t) ≡ true → terms_from test ts i ≡ true
term_here test ts i t h is e = term_step test ts i t h is ∙ ap (λ b. b || terms_from test ts (i + 1)) e

pub term_behind : (test : Tree → Bool) (ts : List Term) (i : ℕ) (t : Term) → i < length ts → t ≡ get_or ts i t → has_term_such test (tree_of t) ≡ false → terms_from test ts i ≡ terms_from test ts (i + 1)
term_behind test ts i t h is e = term_step test ts i t h is ∙ ap (λ b. b || terms_from test ts (i + 1)) e

pub term_end : (test : Tree → Bool) (ts : List Term) (i : ℕ) → length ts ≤ i → terms_from test ts i ≡ false
term_end test ts i h = ap (λ us. has_argument_such test (trees_of (tree_list us))) (drop_all i ts h)

-- two terms unify in either order
turned : (s t : Tree) → IsTrue (can_unify s t) → IsTrue (can_unify t s)
turned s t h = let made = (unifiers_are_of_two s t).0 h in (unifiers_are_of_two t s).1 (made.1, made.0, sym made.2)

same_test : (a b : Bool) → (IsTrue a → IsTrue b) → (IsTrue b → IsTrue a) → a ≡ b
same_test true b f g = sym (f refl)
same_test false true f g = g refl
same_test false false f g = refl

pub either_order : (t : Tree) → ◌≡◌ {A = Tree → Bool} (λ s. can_unify s t) (λ s. can_unify t s)
either_order t = fun_ext (λ s. same_test (can_unify s t) (can_unify t s) (turned s t) (turned t s))
