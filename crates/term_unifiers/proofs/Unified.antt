-- Terms that were put into an arena, and what is found of them.
use Rattle.std.proofs.Common.{◌≡◌, ℕ, ◌≤◌, refl, sym, ap, ap₂, subst, ◌∙◌, List, [], ◌++◌, length, map, MatchOption, Option, Result, Ok, Err, IfOk}
use Rattle.std.proofs.lemmas.List.{length-map}
use Rattle.fol_core.specs.Tree.{Tree, trees_of}
use Rattle.substitutions.specs.Bindings.{Binding, by_bindings}
use Rattle.unifiers.specs.Unifier.{IsMostGeneral}
use Rattle.term_unifiers.specs.Arenas.{IsArena, AreNodes, shapes_of}
use Rattle.term_unifiers.specs.Classes.{found_terms}
use Rattle.term_unifiers.specs.Merging.{Merging, IsMerged, merging_of}
use Rattle.term_unifiers.specs.Shapes.{AreBelow, tree_at}
use Rattle.term_unifiers.specs.Solutions.{IsFound, bindings_of, classes_in}
use Rattle.term_unifiers.specs.Solved.{HasNoUnifier, IsBegun}
use Rattle.term_unifiers.specs.Entered.{IsEntered, left_terms, right_terms}
use Rattle.term_unifiers.specs.declared.entered.Entered.{Entered}
use Rattle.term_unifiers.specs.declared.found.Found.{Found}
use Rattle.term_unifiers.specs.declared.node.Arena.{Arena}
use Rattle.term_unifiers.proofs.Bindings.{bindings_found, same_general}
use Rattle.term_unifiers.proofs.Growing.{below_more, grows_length, trees_grow}
use Rattle.term_unifiers.proofs.Merges.{begun}
use Rattle.term_unifiers.proofs.Solving.{found_is_general, uneven}

-- the bindings of what is found are a most general unifier
pub solved_general : (f : Found) (ls rs : List ℕ) (old : Merging) (s : List Binding) → IsFound f → IsBegun (shapes_of f.arena) ls rs old → IsMerged (shapes_of f.arena) old (merging_of f.work) → s ≡ bindings_of f
    → IsMostGeneral (by_bindings s) (trees_of (map (tree_at (shapes_of f.arena)) ls)) (trees_of (map (tree_at (shapes_of f.arena)) rs))
solved_general f ls rs old s is begun merged e =
    let ss : List Tree = map (tree_at (shapes_of f.arena)) ls in
    let ts : List Tree = map (tree_at (shapes_of f.arena)) rs in
    let general = found_is_general f.arena ls rs old (merging_of f.work) f.order.items ss ts is.arena begun merged is.ordered.order is.ordered.whole is.ordered.within refl refl in
    subst (λ bs. IsMostGeneral (by_bindings bs) (trees_of ss) (trees_of ts)) (sym e)
    (same_general (found_terms f.arena (classes_in f) f.order.items) (by_bindings (bindings_of f)) (λ x. sym (bindings_found f x)) (trees_of ss) (trees_of ts) general)

-- before any nodes are merged, where as many stand on both sides
pub entered_begun : (e : Entered) → IsEntered e → length e.work.lefts.items ≡ length e.work.rights.items → IsBegun (shapes_of e.arena) e.work.lefts.items e.work.rights.items (merging_of e.work)
entered_begun e is even = begun (shapes_of e.arena) (merging_of e.work) is.links is.schemas is.lefts is.rights even

-- the nodes of two lists of terms
pub record AreReady (a : Arena) (ls rs : List ℕ) (ss ts : List Tree) : Type 0 where
  pub arena : IsArena a
  pub lefts : AreBelow (length (shapes_of a)) ls
  pub rights : AreBelow (length (shapes_of a)) rs
  pub left : map (tree_at (shapes_of a)) ls ≡ ss
  pub right : map (tree_at (shapes_of a)) rs ≡ ts

pub are_ready : (a b c : Arena) (front back ls rs : List ℕ) (us vs ss ts : List Tree) → front ≡ [] → back ≡ [] → us ≡ ss → vs ≡ ts → AreNodes a b front ls us → AreNodes b c back rs vs → AreReady c ls rs ss ts
are_ready a b c front back ls rs us vs ss ts no_front no_back left right first second =
    let longer : length (shapes_of b) ≤ length (shapes_of c) = grows_length (shapes_of b) (shapes_of c) second.grows in
    let first_all : ls ≡ first.added = first.numbers ∙ ap (λ l. l ++ first.added) no_front in
    let second_all : rs ≡ second.added = second.numbers ∙ ap (λ l. l ++ second.added) no_back in
    let below : AreBelow (length (shapes_of b)) ls = subst (AreBelow (length (shapes_of b))) (sym first_all) first.within in
    record {
      arena = second.arena;
      lefts = below_more (length (shapes_of b)) (length (shapes_of c)) longer ls below;
      rights = subst (AreBelow (length (shapes_of c))) (sym second_all) second.within;
      left = trees_grow (shapes_of b) (shapes_of c) second.grows ls below ∙ ap (map (tree_at (shapes_of b))) first_all ∙ first.trees ∙ left;
      right = ap (map (tree_at (shapes_of c))) second_all ∙ second.trees ∙ right;
    }

-- and they are the terms of both sides
pub entered_terms : (e : Entered) (a : Arena) (ls rs : List ℕ) (ss ts : List Tree) → AreReady a ls rs ss ts → e.arena ≡ a → e.work.lefts.items ≡ ls → e.work.rights.items ≡ rs → ◌≡◌ {A = List Tree × List Tree} (left_terms e, right_terms e) (ss, ts)
entered_terms e a ls rs ss ts is arena left right =
    ap₂ (λ (us vs : List Tree). (us, vs)) (ap₂ (λ (b : Arena) (l : List ℕ). map (tree_at (shapes_of b)) l) arena left ∙ is.left) (ap₂ (λ (b : Arena) (l : List ℕ). map (tree_at (shapes_of b)) l) arena right ∙ is.right)

pub entered_left : {E : Type 0} (r : Result Entered E) (a : Arena) (ls rs : List ℕ) (ss ts : List Tree) → AreReady a ls rs ss ts → IfOk r (λ e. e.arena ≡ a) → IfOk r (λ e. e.work.lefts.items ≡ ls) → IfOk r (λ e. e.work.rights.items ≡ rs) → IfOk r (λ e. left_terms e ≡ ss)
entered_left (Ok e) a ls rs ss ts is arena left right = ap (λ (p : List Tree × List Tree). p.0) (entered_terms e a ls rs ss ts is arena left right)
entered_left (Err x) a ls rs ss ts is arena left right = tt

pub entered_right : {E : Type 0} (r : Result Entered E) (a : Arena) (ls rs : List ℕ) (ss ts : List Tree) → AreReady a ls rs ss ts → IfOk r (λ e. e.arena ≡ a) → IfOk r (λ e. e.work.lefts.items ≡ ls) → IfOk r (λ e. e.work.rights.items ≡ rs) → IfOk r (λ e. right_terms e ≡ ts)
entered_right (Ok e) a ls rs ss ts is arena left right = ap (λ (p : List Tree × List Tree). p.1) (entered_terms e a ls rs ss ts is arena left right)
entered_right (Err x) a ls rs ss ts is arena left right = tt

-- where not as many stand on both sides nothing unifies them
pub entered_uneven : (e : Entered) → (length e.work.lefts.items ≡ length e.work.rights.items → ⊥) → HasNoUnifier (trees_of (left_terms e)) (trees_of (right_terms e))
entered_uneven e h =
    uneven (left_terms e) (right_terms e)
    (λ s. h (sym (length-map e.work.lefts.items (tree_at (shapes_of e.arena))) ∙ s ∙ length-map e.work.rights.items (tree_at (shapes_of e.arena))))

-- what is found of terms is found of the same ones
pub solved_as : (o : Option (List Binding)) (ss ts us vs : List Tree) → ss ≡ us → ts ≡ vs → MatchOption o (HasNoUnifier (trees_of ss) (trees_of ts)) (λ s. IsMostGeneral (by_bindings s) (trees_of ss) (trees_of ts))
    → MatchOption o (HasNoUnifier (trees_of us) (trees_of vs)) (λ s. IsMostGeneral (by_bindings s) (trees_of us) (trees_of vs))
solved_as o ss ts us vs left right h =
    subst (λ (l : List Tree). MatchOption o (HasNoUnifier (trees_of l) (trees_of vs)) (λ s. IsMostGeneral (by_bindings s) (trees_of l) (trees_of vs))) left
    (subst (λ (r : List Tree). MatchOption o (HasNoUnifier (trees_of ss) (trees_of r)) (λ s. IsMostGeneral (by_bindings s) (trees_of ss) (trees_of r))) right h)
