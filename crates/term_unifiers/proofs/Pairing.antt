-- Nodes of terms that are put in behind those of others.
use Rattle.std.proofs.Common.{◌≡◌, ℕ, ◌+◌, refl, sym, ap, ap₂, subst, ◌∙◌, List, [], ◌∷◌, ◌++◌, length, map, arith}
use Rattle.std.proofs.lemmas.List.{map-append, length-map, length_push}
use Rattle.std.specs.List.{zip}
use Rattle.fol_core.specs.Tree.{Tree}
use Rattle.term_unifiers.specs.Arenas.{shapes_of, Grows, AreNodes}
use Rattle.term_unifiers.specs.Paired.{AreEven, ArePaired, HasOneMore, first_terms, pairs_in, second_terms}
use Rattle.term_unifiers.specs.Shapes.{AreBelow, tree_at}
use Rattle.term_unifiers.specs.declared.node.Arena.{Arena}
use Rattle.term_unifiers.specs.declared.paired.Paired.{Paired}
use Rattle.term_unifiers.proofs.Growing.{grows_length, below_more, below_append, trees_grow}

-- numbers of nodes that mean some terms
pub record Mean (a : Arena) (ks : List ℕ) (ts : List Tree) : Type 0 where
  pub below : AreBelow (length (shapes_of a)) ks
  pub trees : map (tree_at (shapes_of a)) ks ≡ ts

-- they mean the same among more nodes
pub mean_on : (a b : Arena) (ks : List ℕ) (ts : List Tree) → Grows (shapes_of a) (shapes_of b) → Mean a ks ts → Mean b ks ts
mean_on a b ks ts grows is = record {
  below = below_more (length (shapes_of a)) (length (shapes_of b)) (grows_length (shapes_of a) (shapes_of b) grows) ks is.below;
  trees = trees_grow (shapes_of a) (shapes_of b) grows ks is.below ∙ is.trees;
}

-- and more behind them
pub mean_more : (a b : Arena) (ks all : List ℕ) (ts us : List Tree) → Mean a ks ts → AreNodes a b ks all us → Mean b all (ts ++ us)
mean_more a b ks all ts us is new =
    let old = mean_on a b ks ts new.grows is in
    record {
      below = subst (AreBelow (length (shapes_of b))) (sym new.numbers) (below_append (length (shapes_of b)) ks new.added old.below new.within);
      trees = ap (map (tree_at (shapes_of b))) new.numbers ∙ map-append (tree_at (shapes_of b)) ks new.added ∙ ap₂ (λ (x y : List Tree). x ++ y) old.trees new.trees;
    }

-- one pair more
pub record OneMore (p q : Paired) (s t : Tree) : Type 0 where
  pub paired : ArePaired q
  pub terms : ◌≡◌ {A = List Tree × List Tree} (first_terms q, second_terms q) (first_terms p ++ s ∷ [], second_terms p ++ t ∷ [])

pub one_more : (p q : Paired) (b : Arena) (s t : Tree) → ArePaired p → AreNodes p.arena b p.lefts.items q.lefts.items (s ∷ []) → AreNodes b q.arena p.rights.items q.rights.items (t ∷ []) → OneMore p q s t
one_more p q b s t is first second =
    let left : Mean q.arena q.lefts.items (first_terms p ++ s ∷ []) =
    mean_on b q.arena q.lefts.items (first_terms p ++ s ∷ []) second.grows (mean_more p.arena b p.lefts.items q.lefts.items (first_terms p) (s ∷ []) (record { below = is.lefts; trees = refl }) first) in
    let right : Mean q.arena q.rights.items (second_terms p ++ t ∷ []) =
    mean_more b q.arena p.rights.items q.rights.items (second_terms p) (t ∷ []) (mean_on p.arena b p.rights.items (second_terms p) first.grows (record { below = is.rights; trees = refl })) second in
    record {
      paired = record { arena = second.arena; lefts = left.below; rights = right.below };
      terms = ap₂ (λ (x y : List Tree). (x, y)) left.trees right.trees;
    }

-- two lists together, with one more each, and the sides of what is together
zip_push : {K X : Type 0} (ks : List K) (xs : List X) (k : K) (x : X) → length ks ≡ length xs → zip (ks ++ k ∷ []) (xs ++ x ∷ []) ≡ zip ks xs ++ (k, x) ∷ []
zip_push [] [] k x h = refl
zip_push [] (y ∷ xs) k x h = absurd (omega (arith, h))
zip_push (l ∷ ks) [] k x h = absurd (omega (arith, h))
zip_push (l ∷ ks) (y ∷ xs) k x h = ap (λ ps. (l, y) ∷ ps) (zip_push ks xs k x (omega (arith, h)))

pub zip_firsts : {K X : Type 0} (ks : List K) (xs : List X) → length ks ≡ length xs → map (λ (p : K × X). p.0) (zip ks xs) ≡ ks
zip_firsts [] [] h = refl
zip_firsts [] (y ∷ xs) h = refl
zip_firsts (l ∷ ks) [] h = absurd (omega (arith, h))
zip_firsts (l ∷ ks) (y ∷ xs) h = ap (λ ls. l ∷ ls) (zip_firsts ks xs (omega (arith, h)))

pub zip_seconds : {K X : Type 0} (ks : List K) (xs : List X) → length ks ≡ length xs → map (λ (p : K × X). p.1) (zip ks xs) ≡ xs
zip_seconds [] [] h = refl
zip_seconds [] (y ∷ xs) h = absurd (omega (arith, h))
zip_seconds (l ∷ ks) [] h = refl
zip_seconds (l ∷ ks) (y ∷ xs) h = ap (λ ys. y ∷ ys) (zip_seconds ks xs (omega (arith, h)))

-- as many terms as numbers
even_terms : (p : Paired) → AreEven p → length (first_terms p) ≡ length (second_terms p)
even_terms p is = length-map p.lefts.items (tree_at (shapes_of p.arena)) ∙ is.even ∙ sym (length-map p.rights.items (tree_at (shapes_of p.arena)))

-- a pair more among pairs
pub pair_more : (p q : Paired) (b : Arena) (s t : Tree) → AreEven p → AreNodes p.arena b p.lefts.items q.lefts.items (s ∷ []) → AreNodes b q.arena p.rights.items q.rights.items (t ∷ []) → HasOneMore p q s t
pair_more p q b s t is first second =
    let one = one_more p q b s t is.paired first second in
    let left : first_terms q ≡ first_terms p ++ s ∷ [] = ap (λ (x : List Tree × List Tree). x.0) one.terms in
    let right : second_terms q ≡ second_terms p ++ t ∷ [] = ap (λ (x : List Tree × List Tree). x.1) one.terms in
    let as_many : length (first_terms p) ≡ length (second_terms p) = even_terms p is in
    let lefts : length q.lefts.items ≡ length (first_terms p) + 1 = sym (length-map q.lefts.items (tree_at (shapes_of q.arena))) ∙ ap length left ∙ length_push (first_terms p) s in
    let rights : length q.rights.items ≡ length (second_terms p) + 1 = sym (length-map q.rights.items (tree_at (shapes_of q.arena))) ∙ ap length right ∙ length_push (second_terms p) t in
    record {
      even = record { paired = one.paired; even = lefts ∙ ap (λ n. n + 1) as_many ∙ sym rights };
      pairs = ap₂ (λ (x y : List Tree). zip x y) left right ∙ zip_push (first_terms p) (second_terms p) s t as_many;
    }

-- the terms of each side, where these are seen as pairs
pub left_seen : (p : Paired) (ps : List (Tree × Tree)) → AreEven p → pairs_in p ≡ ps → first_terms p ≡ map (λ (x : Tree × Tree). x.0) ps
left_seen p ps is seen = sym (zip_firsts (first_terms p) (second_terms p) (even_terms p is)) ∙ ap (map (λ (x : Tree × Tree). x.0)) seen

pub right_seen : (p : Paired) (ps : List (Tree × Tree)) → AreEven p → pairs_in p ≡ ps → second_terms p ≡ map (λ (x : Tree × Tree). x.1) ps
right_seen p ps is seen = sym (zip_seconds (first_terms p) (second_terms p) (even_terms p is)) ∙ ap (map (λ (x : Tree × Tree). x.1)) seen
