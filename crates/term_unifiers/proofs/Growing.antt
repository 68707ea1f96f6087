-- Nodes behind the others.
use Rattle.std.proofs.Common.{◌≡◌, ℕ, zero, suc, ◌+◌, ◌<◌, ◌≤◌, refl, sym, ap, ap₂, subst, ◌∙◌, List, [], ◌∷◌, ◌++◌, length, map, take, drop, arith, inl, inr, slice_index_or}
use Rattle.std.proofs.lemmas.Bool.{cases_lt}
use Rattle.std.proofs.lemmas.List.{append_assoc, append-nil, get_or_append_left, get_or_at, length_push, length-append, take-append-le, drop-append-le, length-drop}
use Rattle.fol_core.specs.Substitutions.{Substitution}
use Rattle.fol_core.specs.Tree.{Tree, var, app, trees_of}
use Rattle.term_unifiers.specs.Arenas.{shape_of, IsPlaced, ArePlaced, Grows}
use Rattle.term_unifiers.specs.Shapes.{Shape, variable, element, application, shape_at, seen, AreBelow, HasArgumentsBelow, AreInPostorder, label_of, trees_built, tree_at}
use Rattle.term_unifiers.specs.declared.node.Node.{Node}
use Rattle.term_unifiers.specs.declared.node.Node.TheVariants.{Variable, Element, Application}

pub placed_at : (n : ℕ) (nodes : List Node) → ArePlaced n nodes → (k : ℕ) (d : Node) → k < length nodes → IsPlaced n (slice_index_or nodes k d)
placed_at n [] p k d h = let no_place : ⊥ = omega (arith, h) in elim no_place [ ]
placed_at n (x ∷ xs) p zero d h = p.0
placed_at n (x ∷ xs) p (suc k) d h = let inner : k < length xs = omega (arith, h) in placed_at n xs p.1 k d inner

placed_one : (m n : ℕ) → m ≤ n → (x : Node) → IsPlaced m x → IsPlaced n x
placed_one m n h (Variable upper lower) p = tt
placed_one m n h (Element k) p = tt
placed_one m n h (Application f first count) p = let q : first + count ≤ n = omega (arith, p, h) in q

pub placed_push : (m n : ℕ) → m ≤ n → (xs : List Node) (x : Node) → ArePlaced m xs → IsPlaced n x → ArePlaced n (xs ++ x ∷ [])
placed_push m n h [] x p q = (q, tt)
placed_push m n h (y ∷ xs) x p q = (placed_one m n h y p.0, placed_push m n h xs x p.1 q)

-- arguments that are there mean the same in a longer list
shape_more : (args more : List ℕ) (x : Node) → IsPlaced (length args) x → shape_of (args ++ more) x ≡ shape_of args x
shape_more args more (Variable upper lower) p = refl
shape_more args more (Element k) p = refl
shape_more args more (Application f first count) p =
    let starts : first ≤ length args = omega (arith, p) in
    let ends : count ≤ length (drop first args) = omega (arith, p, length-drop first args) in
    ap (application f) (ap (take count) (drop-append-le first args more starts) ∙ take-append-le count (drop first args) more ends)

pub shapes_more : (args more : List ℕ) (xs : List Node) → ArePlaced (length args) xs → map (shape_of (args ++ more)) xs ≡ map (shape_of args) xs
shapes_more args more [] p = refl
shapes_more args more (x ∷ xs) p = ap₂ (λ (s : Shape) (ss : List Shape). s ∷ ss) (shape_more args more x p.0) (shapes_more args more xs p.1)

pub below_more : (m n : ℕ) → m ≤ n → (ks : List ℕ) → AreBelow m ks → AreBelow n ks
below_more m n h [] b = tt
below_more m n h (k ∷ ks) b = (omega (arith, b.0, h), below_more m n h ks b.1)

pub below_append : (n : ℕ) (ks js : List ℕ) → AreBelow n ks → AreBelow n js → AreBelow n (ks ++ js)
below_append n [] js b d = d
below_append n (k ∷ ks) js b d = (b.0, below_append n ks js b.1 d)

pub below_front : (n : ℕ) (ks js : List ℕ) → AreBelow n (ks ++ js) → AreBelow n ks
below_front n [] js b = tt
below_front n (k ∷ ks) js b = (b.0, below_front n ks js b.1)

pub below_behind : (n : ℕ) (ks js : List ℕ) → AreBelow n (ks ++ js) → AreBelow n js
below_behind n [] js b = b
below_behind n (k ∷ ks) js b = below_behind n ks js b.1

pub below_at : (n : ℕ) (ks : List ℕ) → AreBelow n ks → (i : ℕ) (d : ℕ) → i < length ks → slice_index_or ks i d < n
below_at n [] b i d h = let no_place : ⊥ = omega (arith, h) in elim no_place [ ]
below_at n (k ∷ ks) b zero d h = b.0
below_at n (k ∷ ks) b (suc i) d h = let inner : i < length ks = omega (arith, h) in below_at n ks b.1 i d inner

pub arguments_more : (m n : ℕ) → m ≤ n → (s : Shape) → HasArgumentsBelow m s → HasArgumentsBelow n s
arguments_more m n h (variable x) b = tt
arguments_more m n h (element k) b = tt
arguments_more m n h (application f ks) b = below_more m n h ks b

pub shape_front : (shapes others : List Shape) (n : ℕ) → n < length shapes → shape_at (shapes ++ others) n ≡ shape_at shapes n
shape_front shapes others n h = get_or_append_left shapes others (variable 0) n h

pub shape_last : (shapes : List Shape) (s : Shape) → shape_at (shapes ++ s ∷ []) (length shapes) ≡ s
shape_last shapes s = get_or_at shapes s [] (variable 0) (length shapes) refl

-- a place in a list with one more
pub last_or_before : (P : ℕ → Type 0) (shapes : List Shape) (s : Shape) → ((n : ℕ) → n < length shapes → P n) → P (length shapes) → (n : ℕ) → n < length (shapes ++ s ∷ []) → P n
last_or_before P shapes s before last n h = elim (cases_lt n (length shapes)) [
  | inl l ↦ before n l
  | inr g ↦ let e : length shapes ≡ n = omega (arith, g, h, length_push shapes s) in subst P e last
]

pub postorder_push : (shapes : List Shape) (s : Shape) → AreInPostorder shapes → HasArgumentsBelow (length shapes) s → AreInPostorder (shapes ++ s ∷ [])
postorder_push shapes s old new =
    let P : ℕ → Type 0 = λ n. HasArgumentsBelow n (shape_at (shapes ++ s ∷ []) n) in
    last_or_before P shapes s
    (λ n h. subst (HasArgumentsBelow n) (sym (shape_front shapes (s ∷ []) n h)) (old n h))
    (subst (HasArgumentsBelow (length shapes)) (sym (shape_last shapes s)) new)

pub grows_refl : (shapes : List Shape) → Grows shapes shapes
grows_refl shapes = ([], sym (append-nil shapes))

pub grows_on : (a b c : List Shape) → Grows a b → Grows b c → Grows a c
grows_on a b c g h = (g.0 ++ h.0, h.1 ∙ ap (λ l. l ++ h.0) g.1 ∙ append_assoc a g.0 h.0)

pub grows_length : (a b : List Shape) → Grows a b → length a ≤ length b
grows_length a b g = let e : length b ≡ length a + length g.0 = ap length g.1 ∙ length-append a g.0 in omega (arith, e)

pub grows_at : (a b : List Shape) → Grows a b → (n : ℕ) → n < length a → shape_at b n ≡ shape_at a n
grows_at a b g n h = ap (λ l. shape_at l n) g.1 ∙ shape_front a g.0 n h

-- the trees of nodes
append_trees : (trees : List Tree) (shapes : List Shape) → (others : List Tree) × (trees_built trees shapes ≡ trees ++ others)
append_trees trees [] = ([], sym (append-nil trees))
append_trees trees (s ∷ shapes) =
    let r = append_trees (trees ++ seen (label_of trees) s ∷ []) shapes in
    (seen (label_of trees) s ∷ r.0, r.1 ∙ append_assoc trees (seen (label_of trees) s ∷ []) r.0)

built_on : (trees : List Tree) (a b : List Shape) → trees_built trees (a ++ b) ≡ trees_built (trees_built trees a) b
built_on trees [] b = refl
built_on trees (s ∷ a) b = built_on (trees ++ seen (label_of trees) s ∷ []) a b

built_length : (trees : List Tree) (shapes : List Shape) → length (trees_built trees shapes) ≡ length trees + length shapes
built_length trees [] = omega arith
built_length trees (s ∷ shapes) =
    let e = built_length (trees ++ seen (label_of trees) s ∷ []) shapes in
    let f = length_push trees (seen (label_of trees) s) in
    omega (arith, e, f)

trees_length : (shapes : List Shape) → length (trees_built [] shapes) ≡ length shapes
trees_length shapes = let e = built_length [] shapes in omega (arith, e)

-- a node keeps its tree
pub tree_front : (shapes others : List Shape) (n : ℕ) → n < length shapes → tree_at (shapes ++ others) n ≡ tree_at shapes n
tree_front shapes others n h =
    let r = append_trees (trees_built [] shapes) others in
    let inside : n < length (trees_built [] shapes) = omega (arith, h, trees_length shapes) in
    ap (λ ts. label_of ts n) (built_on [] shapes others ∙ r.1) ∙ get_or_append_left (trees_built [] shapes) r.0 (var 0) n inside

pub tree_grows : (a b : List Shape) → Grows a b → (n : ℕ) → n < length a → tree_at b n ≡ tree_at a n
tree_grows a b g n h = ap (λ l. tree_at l n) g.1 ∙ tree_front a g.0 n h

pub trees_grow : (a b : List Shape) → Grows a b → (ks : List ℕ) → AreBelow (length a) ks → map (tree_at b) ks ≡ map (tree_at a) ks
trees_grow a b g [] h = refl
trees_grow a b g (k ∷ ks) h = ap₂ (λ (t : Tree) (ts : List Tree). t ∷ ts) (tree_grows a b g k h.0) (trees_grow a b g ks h.1)

pub tree_last : (shapes : List Shape) (s : Shape) → tree_at (shapes ++ s ∷ []) (length shapes) ≡ seen (tree_at shapes) s
tree_last shapes s =
    ap (λ ts. label_of ts (length shapes)) (built_on [] shapes (s ∷ []))
    ∙ get_or_at (trees_built [] shapes) (seen (tree_at shapes) s) [] (var 0) (length shapes) (trees_length shapes)

pub same_labels : (L M : Substitution) (n : ℕ) → ((k : ℕ) → k < n → L k ≡ M k) → (ks : List ℕ) → AreBelow n ks → map L ks ≡ map M ks
same_labels L M n h [] b = refl
same_labels L M n h (k ∷ ks) b = ap₂ (λ (t : Tree) (ts : List Tree). t ∷ ts) (h k b.0) (same_labels L M n h ks b.1)

pub same_seen : (L M : Substitution) (n : ℕ) → ((k : ℕ) → k < n → L k ≡ M k) → (s : Shape) → HasArgumentsBelow n s → seen L s ≡ seen M s
same_seen L M n h (variable x) b = refl
same_seen L M n h (element k) b = refl
same_seen L M n h (application f ks) b = ap (λ ts. app f (trees_of ts)) (same_labels L M n h ks b)
