-- The terms of classes are a most general unifier, and where nodes clash there is none.
use Rattle.std.proofs.Common.{◌≡◌, ℕ, zero, suc, ◌<◌, refl, sym, ap, ap₂, subst, ◌∙◌, List, [], ◌∷◌, length, map, arith, Option, Some, None}
use Rattle.std.proofs.lemmas.List.{nil_from_length}
use Rattle.fol_core.specs.Substitutions.{Substitution, substitute, substitute_all}
use Rattle.fol_core.specs.Tree.{Tree, app, more, trees_of}
use Rattle.unifiers.specs.Unifier.{Unifies, IsMostGeneral}
use Rattle.term_unifiers.specs.Arenas.{shapes_of, node_of, IsArena}
use Rattle.term_unifiers.specs.Classes.{Classes, classes_of, AreClasses, IsCyclic, In, IsOrder, IsWhole, node_terms, term_or_variable, found_terms}
use Rattle.term_unifiers.specs.Merging.{FitsLinks, Merging, Fits, Clashes, IsMerged, IsNoVariable}
use Rattle.term_unifiers.specs.Shapes.{Shape, variable, element, application, shape_at, seen, AreBelow, HasArgumentsBelow, AreInPostorder, tree_at}
use Rattle.term_unifiers.specs.Solved.{HasNoUnifier, IsBegun}
use Rattle.term_unifiers.specs.declared.node.Arena.{Arena}
use Rattle.term_unifiers.proofs.Entering.{tree_seen}
use Rattle.term_unifiers.proofs.Terms.{terms_fit, terms_respect, terms_cover, made, made_respects}

all_made : (u : Substitution) (shapes : List Shape) (ks : List ℕ) → substitute_all u (trees_of (map (tree_at shapes) ks)) ≡ trees_of (map (made shapes u) ks)
all_made u shapes [] = refl
all_made u shapes (k ∷ ks) = ap (more (made shapes u k)) (all_made u shapes ks)

trees_same : (ss ts : List Tree) → trees_of ss ≡ trees_of ts → ss ≡ ts
trees_same [] [] e = refl
trees_same [] (t ∷ ts) e = cc
trees_same (s ∷ ss) [] e = cc
trees_same (s ∷ ss) (t ∷ ts) e =
    let first : s ≡ t = cc in
    let rest : trees_of ss ≡ trees_of ts = cc in
    ap₂ (λ (u : Tree) (us : List Tree). u ∷ us) first (trees_same ss ts rest)

-- lists of other lengths are not unified
pub uneven : (ss ts : List Tree) → (length ss ≡ length ts → ⊥) → HasNoUnifier (trees_of ss) (trees_of ts)
uneven [] [] h u e = h refl
uneven [] (t ∷ ts) h u e = cc
uneven (s ∷ ss) [] h u e = cc
uneven (s ∷ ss) (t ∷ ts) h u e =
    let rest : substitute_all u (trees_of ss) ≡ substitute_all u (trees_of ts) = cc in
    uneven ss ts (λ l. h (ap suc l)) u rest

-- what unifies fits at the start
starts : (shapes : List Shape) (ls rs : List ℕ) (m : Merging) (u : Substitution) → IsBegun shapes ls rs m → Unifies u (trees_of (map (tree_at shapes) ls)) (trees_of (map (tree_at shapes) rs)) → Fits (made shapes u) m
starts shapes ls rs m u is e = record {
  links = is.apart (made shapes u);
  pairs = ap (map (made shapes u)) is.lefts
      ∙ trees_same (map (made shapes u) ls) (map (made shapes u) rs) (sym (all_made u shapes ls) ∙ e ∙ all_made u shapes rs)
      ∙ ap (map (made shapes u)) (sym is.rights);
}

pub clash_has_none : (shapes : List Shape) (ls rs : List ℕ) (m : Merging) (ss ts : List Tree) → AreInPostorder shapes → IsBegun shapes ls rs m → map (tree_at shapes) ls ≡ ss → map (tree_at shapes) rs ≡ ts → Clashes shapes m
    → HasNoUnifier (trees_of ss) (trees_of ts)
clash_has_none shapes ls rs m ss ts post is left right clash u e =
    clash (made shapes u) (made_respects shapes u post) (starts shapes ls rs m u is (subst (λ l. Unifies u (trees_of l) (trees_of (map (tree_at shapes) rs))) (sym left) (subst (λ l. Unifies u (trees_of ss) (trees_of l)) (sym right) e)))

fits_end : (m : Merging) (label : Substitution) → m.lefts ≡ [] → m.rights ≡ [] → FitsLinks label m.links → Fits label m
fits_end m label left right links = record { links = links; pairs = ap (map label) left ∙ sym (ap (map label) right) }

no_rights : (shapes : List Shape) (old new : Merging) → IsMerged shapes old new → new.rights ≡ []
no_rights shapes old new is =
    let even = is.goes.merging.even in
    let done : length new.lefts ≡ 0 = ap length is.done in
    let zero_many : length new.rights ≡ 0 = omega (arith, even, done) in
    nil_from_length new.rights zero_many

pub are_classes : (shapes : List Shape) (old new : Merging) → AreInPostorder shapes → IsMerged shapes old new → AreClasses (classes_of shapes new)
are_classes shapes old new post is = record {
  postorder = post;
  linked = is.goes.merging.linked;
  schemed = is.goes.merging.schemed;
  down = is.goes.merging.down;
  flat = is.flat;
  inside = is.goes.merging.inside;
  schemas = λ label f. is.goes.merging.schemas label (fits_end new label is.done (no_rights shapes old new is) f);
}

put_labels : (u t d : Substitution) (n : ℕ) → ((k : ℕ) → k < n → substitute u (t k) ≡ d k) → (ks : List ℕ) → AreBelow n ks → substitute_all u (trees_of (map t ks)) ≡ trees_of (map d ks)
put_labels u t d n h [] b = refl
put_labels u t d n h (k ∷ ks) b = ap₂ more (h k b.0) (put_labels u t d n h ks b.1)

put_seen : (u t d : Substitution) (n : ℕ) → ((k : ℕ) → k < n → substitute u (t k) ≡ d k) → (s : Shape) → HasArgumentsBelow n s → IsNoVariable s → substitute u (seen t s) ≡ seen d s
put_seen u t d n h (variable x) b firm = elim firm [ ]
put_seen u t d n h (element k) b firm = refl
put_seen u t d n h (application f ks) b firm = ap (app f) (put_labels u t d n h ks b)

-- what variables become makes of a node's tree what the node becomes
pub put_nodes : (a : Arena) (c : Classes) (order : List ℕ) → IsArena a → c.shapes ≡ shapes_of a → AreClasses c → IsOrder c [] order → IsWhole c order → (n : ℕ) → n < length c.shapes
    → substitute (found_terms a c order) (tree_at c.shapes n) ≡ node_terms c order n
put_nodes a c order is e are o whole n h = upto (suc n) n (omega arith) h
  where
    next : (n : ℕ) → n < length c.shapes → ((k : ℕ) → k < n → substitute (found_terms a c order) (tree_at c.shapes k) ≡ node_terms c order k) → (s : Shape) → shape_at c.shapes n ≡ s
        → substitute (found_terms a c order) (seen (tree_at c.shapes) s) ≡ node_terms c order n
    next n h before (variable x) at_node =
        let inside : n < length (shapes_of a) = subst (λ l. n < length l) e h in
        ap (term_or_variable x (node_terms c order)) (is.once x n inside (ap (λ l. shape_at l n) (sym e) ∙ at_node))
    next n h before (element k) at_node = sym (terms_respect c order are o whole n h (subst IsNoVariable (sym at_node) tt) ∙ ap (seen (node_terms c order)) at_node)
    next n h before (application f ks) at_node =
        put_seen (found_terms a c order) (tree_at c.shapes) (node_terms c order) n before (application f ks) (subst (HasArgumentsBelow n) at_node (are.postorder n h)) tt
        ∙ sym (terms_respect c order are o whole n h (subst IsNoVariable (sym at_node) tt) ∙ ap (seen (node_terms c order)) at_node)

    upto : (m n : ℕ) → n < m → n < length c.shapes → substitute (found_terms a c order) (tree_at c.shapes n) ≡ node_terms c order n
    upto zero n l h = let no_place : ⊥ = omega (arith, l) in elim no_place [ ]
    upto (suc m) n l h =
        ap (substitute (found_terms a c order)) (tree_seen c.shapes are.postorder n h)
        ∙ next n h (λ k g. let lower : k < m = omega (arith, g, l) in let inside : k < length c.shapes = omega (arith, g, h) in upto m k lower inside) (shape_at c.shapes n) refl

found_trees : (a : Arena) (c : Classes) (order : List ℕ) → ((n : ℕ) → n < length c.shapes → substitute (found_terms a c order) (tree_at c.shapes n) ≡ node_terms c order n) → (ks : List ℕ) → AreBelow (length c.shapes) ks
    → substitute_all (found_terms a c order) (trees_of (map (tree_at c.shapes) ks)) ≡ trees_of (map (node_terms c order) ks)
found_trees a c order h ks b = put_labels (found_terms a c order) (tree_at c.shapes) (node_terms c order) (length c.shapes) h ks b

-- what is found is a most general unifier
pub found_is_general : (a : Arena) (ls rs : List ℕ) (old new : Merging) (order : List ℕ) (ss ts : List Tree) → IsArena a → IsBegun (shapes_of a) ls rs old → IsMerged (shapes_of a) old new
    → IsOrder (classes_of (shapes_of a) new) [] order → IsWhole (classes_of (shapes_of a) new) order → ((r : ℕ) → In r order → r < length (shapes_of a)) → map (tree_at (shapes_of a)) ls ≡ ss → map (tree_at (shapes_of a)) rs ≡ ts
    → IsMostGeneral (found_terms a (classes_of (shapes_of a) new) order) (trees_of ss) (trees_of ts)
found_is_general a ls rs old new order ss ts is begun merged o whole within left right = record {
  unifies = subst (λ l. Unifies found (trees_of l) (trees_of ts)) left (subst (λ l. Unifies found (trees_of (map (tree_at shapes) ls)) (trees_of l)) right
      (found_trees a c order puts ls left_below ∙ ap trees_of same ∙ sym (found_trees a c order puts rs right_below)));
  covers = λ u e. (u, λ x. covered u (unified u e) x (node_of a x) refl);
}
  where
    shapes : List Shape
    shapes = shapes_of a

    c : Classes
    c = classes_of (shapes_of a) new

    found : Substitution
    found = found_terms a (classes_of (shapes_of a) new) order

    are : AreClasses (classes_of (shapes_of a) new)
    are = are_classes (shapes_of a) old new is.postorder merged

    puts : (n : ℕ) → n < length (shapes_of a) → substitute (found_terms a (classes_of (shapes_of a) new) order) (tree_at (shapes_of a) n) ≡ node_terms (classes_of (shapes_of a) new) order n
    puts = put_nodes a (classes_of (shapes_of a) new) order is refl are o whole

    left_below : AreBelow (length (shapes_of a)) ls
    left_below = subst (AreBelow (length (shapes_of a))) begun.lefts begun.merging.lefts

    right_below : AreBelow (length (shapes_of a)) rs
    right_below = subst (AreBelow (length (shapes_of a))) begun.rights begun.merging.rights

    same : map (node_terms (classes_of (shapes_of a) new) order) ls ≡ map (node_terms (classes_of (shapes_of a) new) order) rs
    same =
        let label : Substitution = node_terms (classes_of (shapes_of a) new) order in
        let fits = merged.goes.back label (fits_end new label merged.done (no_rights (shapes_of a) old new merged) (terms_fit (classes_of (shapes_of a) new) order are)) in
        ap (map label) (sym begun.lefts) ∙ fits.pairs ∙ ap (map label) begun.rights

    unified : (u : Substitution) → Unifies u (trees_of ss) (trees_of ts) → FitsLinks (made (shapes_of a) u) new.links
    unified u e =
        let start = starts (shapes_of a) ls rs old u begun (subst (λ l. Unifies u (trees_of l) (trees_of (map (tree_at (shapes_of a)) rs))) (sym left) (subst (λ l. Unifies u (trees_of ss) (trees_of l)) (sym right) e)) in
        (merged.goes.on (made (shapes_of a) u) (made_respects (shapes_of a) u is.postorder) start).links

    covered : (u : Substitution) → FitsLinks (made (shapes_of a) u) new.links → (x : ℕ) (n : Option ℕ) → node_of a x ≡ n → u x ≡ substitute u (term_or_variable x (node_terms (classes_of (shapes_of a) new) order) (node_of a x))
    covered u fits x None e = ap (λ n. substitute u (term_or_variable x (node_terms (classes_of (shapes_of a) new) order) n)) (sym e)
    covered u fits x (Some n) e =
        let named = is.named x n e in
        ap (substitute u) (sym (tree_seen (shapes_of a) is.postorder n named.0 ∙ ap (seen (tree_at (shapes_of a))) named.1))
        ∙ terms_cover (classes_of (shapes_of a) new) u order are fits o within whole n named.0
        ∙ ap (λ n. substitute u (term_or_variable x (node_terms (classes_of (shapes_of a) new) order) n)) (sym e)

-- where a class leads to itself nothing unifies
pub cycle_has_none : (shapes : List Shape) (ls rs : List ℕ) (old new : Merging) (ss ts : List Tree) → AreInPostorder shapes → IsBegun shapes ls rs old → map (tree_at shapes) ls ≡ ss → map (tree_at shapes) rs ≡ ts → IsMerged shapes old new
    → IsCyclic (classes_of shapes new) → HasNoUnifier (trees_of ss) (trees_of ts)
cycle_has_none shapes ls rs old new ss ts post begun left right merged cyclic =
    clash_has_none shapes ls rs old ss ts post begun left right (λ label r f. cyclic label r (merged.goes.on label r f).links)
