-- Classes of nodes: what is linked is the same where the arguments are.
use Rattle.std.proofs.Common.{◌≡◌, inl, inr, ℕ, zero, suc, ◌+◌, ◌==◌, ◌<◌, ◌≤◌, Bool, true, false, List, [], ◌∷◌, ◌++◌, map, take, length, get_or, refl, sym, ap, ap₂, ◌∙◌, subst, arith}
use Rattle.fol_core.specs.Substitutions.{Substitution, substitute, substitute_all}
use Rattle.fol_core.specs.Tree.{Tree, var, elem, app, Trees, more, trees_of, list_of, nodes, nodes_of}
use Rattle.std.proofs.lemmas.Bool.{eqb-true, eqb-false}
use Rattle.substitutions.proofs.Composing.{arguments_same, heads_same, first_same, others_same}
use Rattle.term_bank.specs.Bank.{tree_at}
use Rattle.term_bank.specs.Cells.{AreNumbersBelow, numbers}
use Rattle.term_bank.specs.declared.id.TermId.{TermId}
use Rattle.unify.specs.Bindings.{Meets, IsSpot}
use Rattle.unify.specs.Spots.{raised, spot_tree, spot, In}
use Rattle.unify.specs.Opens.{one_higher, IsLinkOf, AreOpen, AreMade}
use Rattle.unify.specs.Rooms.{TakePart, IsArgument}
use Rattle.unify.specs.Steps.{Alike, AlikeLinks, AreJoined, IsNoVariable, IsLink, AreLinks, Leaving, WorkStands, WorksAt, WorkGoesOn, Fulfils, IsJoined, NeverSame, Joins, as_high}
use Rattle.unify.specs.declared.spot.Bound.{Bound}
use Rattle.unify.specs.declared.spot.Link.{Link}
use Rattle.unify.specs.declared.spot.Spot.{Spot}
use Rattle.unify.specs.declared.spot.Workspace.{Workspace}
use Rattle.unify.proofs.Alikes.{alike_same, alike_high, all_alike}
use Rattle.unify.proofs.Closing.{placed, in_at, Done, done_all}
use Rattle.unify.proofs.Lists.{in_front, assoc, nothing_more}
use Rattle.unify.proofs.Pairs.{meets_before, alike_before}

-- arguments, each and each
abbrev pub AlikeEach : ℕ → Substitution → List Tree → ℕ → List TermId → ℕ → List TermId → Type 0
AlikeEach n u bank i [] j js = Unit {0}
AlikeEach n u bank i (k ∷ ks) j [] = Unit {0}
AlikeEach n u bank i (k ∷ ks) j (m ∷ ms) = Alike n u (spot_tree bank (spot k i)) (spot_tree bank (spot m j)) × AlikeEach n u bank i ks j ms

-- a link that is kept where smaller ones are
abbrev pub IsSettled : List Tree → Workspace → Link → Type 0
IsSettled bank w k = (n : ℕ) (u : Substitution) → Meets u bank w.bound.items → AlikeLinks n u bank w.links.items → Alike (suc n) u (spot_tree bank k.from) (spot_tree bank k.to)

pub goes_on : (a b c : Workspace) → WorkGoesOn a b → WorkGoesOn b c → WorkGoesOn a c
goes_on a b c g h = record {
  bound = (g.bound.0 ++ h.bound.0, h.bound.1 ∙ ap (λ l. l ++ h.bound.0) g.bound.1 ∙ assoc a.bound.items g.bound.0 h.bound.0);
  links = (g.links.0 ++ h.links.0, h.links.1 ∙ ap (λ l. l ++ h.links.0) g.links.1 ∙ assoc a.links.items g.links.0 h.links.0);
  kept = h.kept ∙ g.kept;
  vars = h.vars ∙ g.vars;
  nodes = h.nodes ∙ g.nodes;
  reach = h.reach ∙ g.reach;
  spare = h.spare ∙ g.spare;
}

pub goes_nowhere : (a : Workspace) → WorkGoesOn a a
goes_nowhere a = record { bound = ([], sym (nothing_more a.bound.items)); links = ([], sym (nothing_more a.links.items)); kept = refl; vars = refl; nodes = refl; reach = refl; spare = refl }

pub link_ends : (bank : List Tree) (ps fs : List Spot) (ks : List Link) (k : Link) → AreLinks bank ps fs ks → In k ks → (gs : List Spot) × IsLink bank ps gs k
link_ends bank ps fs [] k l i = absurd i
link_ends bank ps fs (j ∷ ks) k l (inl e) = (fs, subst (IsLink bank ps fs) (sym e) l.0)
link_ends bank ps fs (j ∷ ks) k l (inr i) = link_ends bank ps (fs ++ j.from ∷ []) ks k l.1 i

listed : (ts : List Tree) → list_of (trees_of ts) ≡ ts
listed [] = refl
listed (t ∷ ts) = ap (λ us. t ∷ us) (listed ts)

in_mapped : (bank : List Tree) (k : TermId) (ks : List TermId) → In k ks → In (tree_at bank k.0) (map (λ j. tree_at bank j.0) ks)
in_mapped bank k [] i = absurd i
in_mapped bank k (j ∷ ks) (inl e) = inl (ap (λ (m : TermId). tree_at bank m.0) e)
in_mapped bank k (j ∷ ks) (inr i) = inr (in_mapped bank k ks i)

below_member : (n : ℕ) (k : TermId) (ks : List TermId) → AreNumbersBelow n (numbers ks) → In k ks → k.0 < n
below_member n k [] b i = absurd i
below_member n k (j ∷ ks) b (inl e) = subst (λ (m : TermId). m.0 < n) (sym e) b.0
below_member n k (j ∷ ks) b (inr i) = below_member n k ks b.1 i

pub argument_in : (bank : List Tree) (bs : List Bound) (ps : List Spot) (xs : List ℕ) (p : Spot) (f : ℕ) (ks : List TermId) (k : TermId) → TakePart bank bs ps xs → In p ps
    → tree_at bank p.term.0 ≡ app f (trees_of (map (λ j. tree_at bank j.0) ks)) → AreNumbersBelow (length bank) (numbers ks) → In k ks → In (spot k p.context) ps
argument_in bank bs ps xs p f ks k parts i e below member =
    parts.arguments p k i (below_member (length bank) k ks below member)
    (subst (IsArgument (tree_at bank k.0)) (sym e) (subst (In (tree_at bank k.0)) (sym (listed (map (λ j. tree_at bank j.0) ks))) (in_mapped bank k ks member)))

pub works_at : (bank : List Tree) (a b : Workspace) (k : Link) (ks js : List TermId) (n : ℕ) (d e : TermId) → AreOpen bank a k ks js → WorkGoesOn a b → WorkStands bank b → n < length ks
    → WorksAt bank b (spot (get_or ks n d) k.from.context) (spot (get_or js n e) k.to.context)
works_at bank a b k ks js n d e opened g w lt =
    let there : In k b.links.items = subst (In k) (sym g.links.1) (in_front k a.links.items g.links.0 opened.there) in
    let ends = link_ends bank w.ps [] b.links.items k w.work.links there in
    let right : n < length js = omega (arith, lt, opened.even) in
    record {
      ps = w.ps;
      xs = w.xs;
      work = w.work;
      left = argument_in bank b.bound.items w.ps w.xs k.from opened.head ks (get_or ks n d) w.work.parts ends.1.from_in opened.left opened.left_in (in_at ks n d lt);
      right = argument_in bank b.bound.items w.ps w.xs k.to opened.head js (get_or js n e) w.work.parts ends.1.to_in opened.right opened.right_in (in_at js n e right);
    }

pub placed_at : (bank : List Tree) (p : Spot) (f : ℕ) (ks : List TermId) → tree_at bank p.term.0 ≡ app f (trees_of (map (λ j. tree_at bank j.0) ks)) → spot_tree bank p ≡ app f (placed bank p.context ks)
placed_at bank p f ks e = ap (substitute (raised p.context)) e

arguments_equal : (bank : List Tree) (a : Workspace) (k : Link) (ks js : List TermId) (u : Substitution) → AreOpen bank a k ks js → substitute u (spot_tree bank k.from) ≡ substitute u (spot_tree bank k.to)
    → substitute_all u (placed bank k.from.context ks) ≡ substitute_all u (placed bank k.to.context js)
arguments_equal bank a k ks js u opened e =
    arguments_same opened.head opened.head (substitute_all u (placed bank k.from.context ks)) (substitute_all u (placed bank k.to.context js))
    (sym (ap (substitute u) (placed_at bank k.from opened.head ks opened.left)) ∙ e ∙ ap (substitute u) (placed_at bank k.to opened.head js opened.right))

nth_equal : (bank : List Tree) (u : Substitution) (i j : ℕ) (ks js : List TermId) (n : ℕ) (d e : TermId) → substitute_all u (placed bank i ks) ≡ substitute_all u (placed bank j js) → n < length ks → n < length js
    → substitute u (spot_tree bank (spot (get_or ks n d) i)) ≡ substitute u (spot_tree bank (spot (get_or js n e) j))
nth_equal bank u i j [] js n d e h lt ly = absurd (omega (arith, lt))
nth_equal bank u i j (k ∷ ks) [] n d e h lt ly = absurd (omega (arith, ly))
nth_equal bank u i j (k ∷ ks) (m ∷ ms) zero d e h lt ly = first_same (substitute u (spot_tree bank (spot k i))) (substitute u (spot_tree bank (spot m j))) (substitute_all u (placed bank i ks)) (substitute_all u (placed bank j ms)) h
nth_equal bank u i j (k ∷ ks) (m ∷ ms) (suc n) d e h lt ly =
    let lt' : n < length ks = omega (arith, lt) in
    let ly' : n < length ms = omega (arith, ly) in
    nth_equal bank u i j ks ms n d e
    (others_same (substitute u (spot_tree bank (spot k i))) (substitute u (spot_tree bank (spot m j))) (substitute_all u (placed bank i ks)) (substitute_all u (placed bank j ms)) h) lt' ly'

-- what makes the nodes the same makes their arguments so
pub argument_equal : (bank : List Tree) (a : Workspace) (k : Link) (ks js : List TermId) (n : ℕ) (d e : TermId) (u : Substitution) → AreOpen bank a k ks js → n < length ks
    → substitute u (spot_tree bank k.from) ≡ substitute u (spot_tree bank k.to)
    → substitute u (spot_tree bank (spot (get_or ks n d) k.from.context)) ≡ substitute u (spot_tree bank (spot (get_or js n e) k.to.context))
argument_equal bank a k ks js n d e u opened lt h =
    let right : n < length js = omega (arith, lt, opened.even) in
    nth_equal bank u k.from.context k.to.context ks js n d e (arguments_equal bank a k ks js u opened h) lt right

each_next : (n : ℕ) (u : Substitution) (bank : List Tree) (i j m : ℕ) (ks js : List TermId) (d e : TermId) → m < length ks → m < length js → AlikeEach n u bank i (take m ks) j (take m js)
    → Alike n u (spot_tree bank (spot (get_or ks m d) i)) (spot_tree bank (spot (get_or js m e) j)) → AlikeEach n u bank i (take (suc m) ks) j (take (suc m) js)
each_next n u bank i j m [] js d e lt ly h a = absurd (omega (arith, lt))
each_next n u bank i j m (k ∷ ks) [] d e lt ly h a = absurd (omega (arith, ly))
each_next n u bank i j zero (k ∷ ks) (l ∷ ls) d e lt ly h a = (a, tt)
each_next n u bank i j (suc m) (k ∷ ks) (l ∷ ls) d e lt ly h a =
    let lt' : m < length ks = omega (arith, lt) in
    let ly' : m < length ls = omega (arith, ly) in
    (h.0, each_next n u bank i j m ks ls d e lt' ly' h.1 a)

pub each_more : (n : ℕ) (u : Substitution) (bank : List Tree) (i j m : ℕ) (ks js : List TermId) (d e : TermId) → m < length ks → length ks ≡ length js → AlikeEach n u bank i (take m ks) j (take m js)
    → Alike n u (spot_tree bank (spot (get_or ks m d) i)) (spot_tree bank (spot (get_or js m e) j)) → AlikeEach n u bank i (take (m + 1) ks) j (take (m + 1) js)
each_more n u bank i j m ks js d e lt even h a =
    let ly : m < length js = omega (arith, lt, even) in
    let up : suc m ≡ m + 1 = omega arith in
    subst (λ l. AlikeEach n u bank i (take l ks) j (take l js)) up (each_next n u bank i j m ks js d e lt ly h a)

all_left : (n : ℕ) (u : Substitution) (bank : List Tree) (i j : ℕ) (ks js : List TermId) → length ks ≡ length js → AlikeEach n u bank i ks j js → nodes_of (substitute_all u (placed bank i ks)) < n
    → substitute_all u (placed bank i ks) ≡ substitute_all u (placed bank j js)
all_left n u bank i j [] [] e h lt = refl
all_left n u bank i j [] (m ∷ ms) e h lt = absurd (omega (arith, e))
all_left n u bank i j (k ∷ ks) [] e h lt = absurd (omega (arith, e))
all_left n u bank i j (k ∷ ks) (m ∷ ms) e h lt =
    let small : nodes (substitute u (spot_tree bank (spot k i))) < n = omega (arith, lt) in
    let rest : nodes_of (substitute_all u (placed bank i ks)) < n = omega (arith, lt) in
    let even : length ks ≡ length ms = omega (arith, e) in
    ap₂ more (h.0 (inl small)) (all_left n u bank i j ks ms even h.1 rest)

all_right : (n : ℕ) (u : Substitution) (bank : List Tree) (i j : ℕ) (ks js : List TermId) → length ks ≡ length js → AlikeEach n u bank i ks j js → nodes_of (substitute_all u (placed bank j js)) < n
    → substitute_all u (placed bank i ks) ≡ substitute_all u (placed bank j js)
all_right n u bank i j [] [] e h lt = refl
all_right n u bank i j [] (m ∷ ms) e h lt = absurd (omega (arith, e))
all_right n u bank i j (k ∷ ks) [] e h lt = absurd (omega (arith, e))
all_right n u bank i j (k ∷ ks) (m ∷ ms) e h lt =
    let small : nodes (substitute u (spot_tree bank (spot m j))) < n = omega (arith, lt) in
    let rest : nodes_of (substitute_all u (placed bank j ms)) < n = omega (arith, lt) in
    let even : length ks ≡ length ms = omega (arith, e) in
    ap₂ more (h.0 (inr small)) (all_right n u bank i j ks ms even h.1 rest)

-- nodes whose arguments are the same where they are smaller
pub nodes_alike : (n : ℕ) (u : Substitution) (bank : List Tree) (a : Workspace) (k : Link) (ks js : List TermId) → AreOpen bank a k ks js
    → AlikeEach n u bank k.from.context ks k.to.context js → Alike (suc n) u (spot_tree bank k.from) (spot_tree bank k.to)
nodes_alike n u bank a k ks js opened h small =
    let l : Trees = substitute_all u (placed bank k.from.context ks) in
    let r : Trees = substitute_all u (placed bank k.to.context js) in
    let left : substitute u (spot_tree bank k.from) ≡ app opened.head l = ap (substitute u) (placed_at bank k.from opened.head ks opened.left) in
    let right : substitute u (spot_tree bank k.to) ≡ app opened.head r = ap (substitute u) (placed_at bank k.to opened.head js opened.right) in
    let same : l ≡ r = elim small [
      | inl lt ↦ (
          let few : nodes_of l + 2 < suc n = subst (λ t. nodes t < suc n) left lt in
          let less : nodes_of l < n = omega (arith, few) in
          all_left n u bank k.from.context k.to.context ks js opened.even h less)
      | inr lt ↦ (
          let few : nodes_of r + 2 < suc n = subst (λ t. nodes t < suc n) right lt in
          let less : nodes_of r < n = omega (arith, few) in
          all_right n u bank k.from.context k.to.context ks js opened.even h less)
    ] in
    left ∙ ap (app opened.head) same ∙ sym right

pub take_all : {A : Type 0} (n : ℕ) (xs : List A) → length xs ≤ n → take n xs ≡ xs
take_all zero [] h = refl
take_all zero (x ∷ xs) h = absurd (omega (arith, h))
take_all (suc n) [] h = refl
take_all (suc n) (x ∷ xs) h = let less : length xs ≤ n = omega (arith, h) in ap (λ l. x ∷ l) (take_all n xs less)

pub all_opened : (n m : ℕ) (u : Substitution) (bank : List Tree) (a : Workspace) (k : Link) (ks js : List TermId) → AreOpen bank a k ks js → length ks ≤ m
    → AlikeEach n u bank k.from.context (take m ks) k.to.context (take m js) → Alike (suc n) u (spot_tree bank k.from) (spot_tree bank k.to)
all_opened n m u bank a k ks js opened le h =
    let ly : length js ≤ m = omega (arith, le, opened.even) in
    nodes_alike n u bank a k ks js opened (subst (λ l. AlikeEach n u bank k.from.context ks k.to.context l) (take_all m js ly) (subst (λ l. AlikeEach n u bank k.from.context l k.to.context (take m js)) (take_all m ks le) h))

-- nodes that don't have one head, or not as many arguments
variable_clash : (bank : List Tree) (p : Spot) (x : ℕ) → IsNoVariable bank p → tree_at bank p.term.0 ≡ var x → ⊥
variable_clash bank p x clear e = clear (x + p.context) (ap (substitute (raised p.context)) e)

pub never_from : (bank : List Tree) (w : Workspace) (k : Link) (x : ℕ) → IsLinkOf bank w k → tree_at bank k.from.term.0 ≡ var x → ⊥
never_from bank w k x l e = variable_clash bank k.from x (link_ends bank l.works.ps [] w.links.items k l.works.work.links l.there).1.no_from e

pub never_to : (bank : List Tree) (w : Workspace) (k : Link) (x : ℕ) → IsLinkOf bank w k → tree_at bank k.to.term.0 ≡ var x → ⊥
never_to bank w k x l e = variable_clash bank k.to x (link_ends bank l.works.ps [] w.links.items k l.works.work.links l.there).1.no_to e

pub elements_joined : (bank : List Tree) (w : Workspace) (k : Link) (m n : ℕ) → IsLinkOf bank w k → tree_at bank k.from.term.0 ≡ elem m → tree_at bank k.to.term.0 ≡ elem n → (made : Bool) → made ≡ (m == n)
    → Joins bank w w one_higher (spot_tree bank k.from) (spot_tree bank k.to) made
elements_joined bank w k m n l left right true e =
    let same : spot_tree bank k.from ≡ spot_tree bank k.to = ap (substitute (raised k.from.context)) left ∙ ap elem (eqb-true m n (sym e)) ∙ sym (ap (substitute (raised k.to.context)) right) in
    record { works = l.works; every = λ u f h. f; alike = λ i u a b. alike_same (suc i) u (spot_tree bank k.from) (spot_tree bank k.to) (ap (substitute u) same) }
elements_joined bank w k m n l left right false e = λ u f h.
    let same : elem m ≡ elem n = sym (ap (λ t. substitute u (substitute (raised k.from.context) t)) left) ∙ h ∙ ap (λ t. substitute u (substitute (raised k.to.context) t)) right in
    let equal : m ≡ n = cc in
    eqb-false m n (sym e) equal

pub element_clash : (bank : List Tree) (w : Workspace) (p q : Spot) (m f : ℕ) (ts : Trees) → tree_at bank p.term.0 ≡ elem m → tree_at bank q.term.0 ≡ app f ts → NeverSame bank w (spot_tree bank p) (spot_tree bank q)
element_clash bank w p q m f ts left right u k h =
    let same : elem m ≡ app f (substitute_all u (substitute_all (raised q.context) ts)) = sym (ap (λ t. substitute u (substitute (raised p.context) t)) left) ∙ h ∙ ap (λ t. substitute u (substitute (raised q.context) t)) right in
    cc

pub never_turned : (bank : List Tree) (w : Workspace) (s t : Tree) → NeverSame bank w s t → NeverSame bank w t s
never_turned bank w s t n u f e = n u f (sym e)

pub heads_clash : (bank : List Tree) (w : Workspace) (p q : Spot) (f g : ℕ) (ks js : List TermId) → tree_at bank p.term.0 ≡ app f (trees_of (map (λ j. tree_at bank j.0) ks))
    → tree_at bank q.term.0 ≡ app g (trees_of (map (λ j. tree_at bank j.0) js)) → ¬ (f ≡ g) → NeverSame bank w (spot_tree bank p) (spot_tree bank q)
heads_clash bank w p q f g ks js left right n u k h =
    n (heads_same f g (substitute_all u (placed bank p.context ks)) (substitute_all u (placed bank q.context js)) (sym (ap (substitute u) (placed_at bank p f ks left)) ∙ h ∙ ap (substitute u) (placed_at bank q g js right)))

as_many : (bank : List Tree) (u : Substitution) (i j : ℕ) (ks js : List TermId) → substitute_all u (placed bank i ks) ≡ substitute_all u (placed bank j js) → length ks ≡ length js
as_many bank u i j [] [] h = refl
as_many bank u i j [] (m ∷ ms) h = cc
as_many bank u i j (k ∷ ks) [] h = cc
as_many bank u i j (k ∷ ks) (m ∷ ms) h =
    ap suc (as_many bank u i j ks ms (others_same (substitute u (spot_tree bank (spot k i))) (substitute u (spot_tree bank (spot m j))) (substitute_all u (placed bank i ks)) (substitute_all u (placed bank j ms)) h))

pub counts_clash : (bank : List Tree) (w : Workspace) (p q : Spot) (f g : ℕ) (ks js : List TermId) → tree_at bank p.term.0 ≡ app f (trees_of (map (λ j. tree_at bank j.0) ks))
    → tree_at bank q.term.0 ≡ app g (trees_of (map (λ j. tree_at bank j.0) js)) → ¬ (length ks ≡ length js) → NeverSame bank w (spot_tree bank p) (spot_tree bank q)
counts_clash bank w p q f g ks js left right n u k h =
    n (as_many bank u p.context q.context ks js
    (arguments_same f g (substitute_all u (placed bank p.context ks)) (substitute_all u (placed bank q.context js)) (sym (ap (substitute u) (placed_at bank p f ks left)) ∙ h ∙ ap (substitute u) (placed_at bank q g js right))))

pub joined_at : (u : Substitution) (bank : List Tree) (ks : List Link) (k : Link) → AreJoined u bank ks → In k ks → substitute u (spot_tree bank k.from) ≡ substitute u (spot_tree bank k.to)
joined_at u bank [] k j i = absurd i
joined_at u bank (l ∷ ks) k j (inl e) = subst (λ (m : Link). substitute u (spot_tree bank m.from) ≡ substitute u (spot_tree bank m.to)) (sym e) j.0
joined_at u bank (l ∷ ks) k j (inr i) = joined_at u bank ks k j.1 i

pub settled_on : (bank : List Tree) (a b : Workspace) (k : Link) → WorkGoesOn a b → IsSettled bank a k → IsSettled bank b k
settled_on bank a b k g s n u m l = s n u (meets_before u bank a b g m) (alike_before n u bank a b g l)

each_settled : (n : ℕ) (u : Substitution) (bank : List Tree) (ks : List Link) → ((k : Link) → In k ks → Alike (suc n) u (spot_tree bank k.from) (spot_tree bank k.to)) → AlikeLinks (suc n) u bank ks
each_settled n u bank [] h = tt
each_settled n u bank (k ∷ ks) h = (h k (inl refl), each_settled n u bank ks (λ j i. h j (inr i)))

-- where all links are settled, what meets the bindings keeps them all
pub settled_all : (bank : List Tree) (w : Workspace) (u : Substitution) → ((k : Link) → In k w.links.items → IsSettled bank w k) → Meets u bank w.bound.items → (n : ℕ) → AlikeLinks n u bank w.links.items
settled_all bank w u all m = all_alike u bank w.links.items (λ n a. each_settled n u bank w.links.items (λ k i. all k i n u m a))

pub joined_on : (bank : List Tree) (a b c : Workspace) (s t : Tree) (k : Link) → WorkGoesOn b c → In k b.links.items → IsJoined bank a b as_high s t
    → IsJoined bank b c one_higher (spot_tree bank k.from) (spot_tree bank k.to) → IsJoined bank a c as_high s t
joined_on bank a b c s t k g i first next = record {
  works = next.works;
  every = λ u f e. let h = first.every u f e in next.every u h (joined_at u bank b.links.items k h.joined i);
  alike = λ n u m l. first.alike n u (meets_before u bank b c g m) (alike_before n u bank b c g l);
}

pub begin_fulfils : (u : Substitution) (bank : List Tree) (w : Workspace) → w.links.items ≡ [] → Leaving u bank w.kept.items → Meets u bank w.bound.items → Fulfils u bank w
begin_fulfils u bank w bare l m = record { leaving = l; meets = m; joined = subst (AreJoined u bank) (sym bare) tt }

pub are_made : (bank : List Tree) (a b : Workspace) (s t : Tree) (n : ℕ) → a.links.items ≡ [] → IsJoined bank a b as_high s t → Done (IsSettled bank b) b.links.items n → length b.links.items ≤ n → AreMade bank a b s t
are_made bank a b s t n bare j done le = record {
  works = j.works;
  equal = λ u m. alike_high u s t (λ i. j.alike i u m (settled_all bank b u (done_all (IsSettled bank b) b.links.items n done le) m i));
  every = λ u l m e. (j.every u (begin_fulfils u bank a bare l m) e).meets;
}

pub link_spots : (bank : List Tree) (w : Workspace) (k : Link) → IsLinkOf bank w k → IsSpot bank k.from × IsSpot bank k.to
link_spots bank w k l =
    let ends = link_ends bank l.works.ps [] w.links.items k l.works.work.links l.there in
    (l.works.work.parts.spots k.from ends.1.from_in, l.works.work.parts.spots k.to ends.1.to_in)

all_below : (m n : ℕ) (ks : List TermId) → m < n → AreNumbersBelow m (numbers ks) → AreNumbersBelow n (numbers ks)
all_below m n [] lt b = tt
all_below m n (k ∷ ks) lt b = (omega (arith, lt, b.0), all_below m n ks lt b.1)

pub are_open : (bank : List Tree) (w : Workspace) (k : Link) (f g : ℕ) (ks js : List TermId) → IsLinkOf bank w k → app f (trees_of (map (λ j. tree_at bank j.0) ks)) ≡ tree_at bank k.from.term.0
    → app g (trees_of (map (λ j. tree_at bank j.0) js)) ≡ tree_at bank k.to.term.0 → AreNumbersBelow k.from.term.0 (numbers ks) → AreNumbersBelow k.to.term.0 (numbers js) → f ≡ g → length ks ≡ length js
    → AreOpen bank w k ks js
are_open bank w k f g ks js l left right lb rb same even =
    let spots = link_spots bank w k l in
    record {
      works = l.works;
      there = l.there;
      head = f;
      left = sym left;
      right = subst (λ h. tree_at bank k.to.term.0 ≡ app h (trees_of (map (λ j. tree_at bank j.0) js))) (sym same) (sym right);
      left_in = all_below k.from.term.0 (length bank) ks spots.0.within lb;
      right_in = all_below k.to.term.0 (length bank) js spots.1.within rb;
      even = even;
    }

pub link_there : (ks : List Link) (n : ℕ) (k : Link) → n < length ks → k ≡ get_or ks n k → In k ks
link_there ks n k lt e = subst (λ (l : Link). In l ks) (sym e) (in_at ks n k lt)

pub longer_links : (a b : Workspace) → WorkGoesOn a b → length a.links.items ≤ length b.links.items
longer_links a b g = subst (λ (l : List Link). length a.links.items ≤ length l) (sym g.links.1) (by a.links.items)
  where
    by : (ks : List Link) → length ks ≤ length (ks ++ g.links.0)
    by [] = omega arith
    by (k ∷ ks) = omega (arith, by ks)
