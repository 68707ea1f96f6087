-- The nodes that a term leads to have just the variables of what becomes of it.
use Rattle.std.proofs.Common.{◌≡◌, inl, inr, ◌⊎◌, ℕ, zero, suc, ◌+◌, ◌<◌, ◌≤◌, ◌||◌, false, IsTrue, List, [], ◌∷◌, ◌++◌, map, take, length, get_or, refl, sym, ap, ap₂, ◌∙◌, subst, arith, add-one}
use Rattle.std.proofs.Math.Seq.{take-suc, get_or-append_seam}
use Rattle.std.proofs.lemmas.Bool.{eq-eqb, ne_eqb, false≢true}
use Rattle.fol_core.specs.Substitutions.{substitute, substitute_all}
use Rattle.fol_core.specs.Tree.{Tree, var, elem, app, Trees, trees_of, nodes, nodes_of}
use Rattle.substitutions.specs.Occurring.{has_variable, have_variable}
use Rattle.term_bank.specs.Bank.{tree_at}
use Rattle.term_bank.specs.declared.id.TermId.{TermId}
use Rattle.unify.specs.Bindings.{Meets, bound_variables, resolved, PointsOn, AreBindings}
use Rattle.unify.specs.Reaches.{becomes, Lacks, IsClosed, VariablesWithin, Reaching, CanAdd, Longer, Adds, CanSpread, AreReached}
use Rattle.unify.specs.Spots.{raised, spot_tree, spot, In}
use Rattle.unify.specs.Steps.{walked, IsShownIn, CanReach, IsReach}
use Rattle.unify.specs.declared.spot.Bound.{Bound}
use Rattle.unify.specs.declared.spot.Spot.{Spot}
use Rattle.unify.proofs.Lists.{in_front, in_behind, in_cases, in_last, assoc, nothing_more, one_longer, one_more, differ_end}
use Rattle.unify.proofs.Solutions.{solved}
use Rattle.unify.proofs.Walks.{walked_same, walked_in, walked_free}

pub closed_more : (bank : List Tree) (bs : List Bound) (ps qs : List Spot) (p : Spot) → IsClosed bank bs ps p → IsClosed bank bs (ps ++ qs) p
closed_more bank bs ps qs p c n x lacks other lt = c n x (λ q i. lacks q (in_front q ps qs i)) other lt

pub closed_variable : (bank : List Tree) (bs : List Bound) (ps : List Spot) (p : Spot) (z : ℕ) → AreBindings bank bs → PointsOn bank (bound_variables bs) p → spot_tree bank p ≡ var z → IsClosed bank bs ps p
closed_variable bank bs ps p z are free e n x lacks other lt =
    ap (has_variable x) (ap (substitute (resolved bank bs)) e ∙ (solved bank bs are).free z (free z e)) ∙ ne_eqb x z (λ h. other (e ∙ ap var (sym h)))

pub closed_element : (bank : List Tree) (bs : List Bound) (ps : List Spot) (p : Spot) (k : ℕ) → spot_tree bank p ≡ elem k → IsClosed bank bs ps p
closed_element bank bs ps p k e n x lacks other lt = ap (λ t. has_variable x (substitute (resolved bank bs) t)) e

abbrev pub placed : List Tree → ℕ → List TermId → Trees
placed bank i ks = substitute_all (raised i) (trees_of (map (λ k. tree_at bank k.0) ks))

each_lacks : (bank : List Tree) (bs : List Bound) (ps : List Spot) (i n x : ℕ) (ks : List TermId) → Meets (resolved bank bs) bank bs → AreReached bank bs ps i ks → Lacks bank bs ps n x
    → nodes_of (substitute_all (resolved bank bs) (placed bank i ks)) < n → have_variable x (substitute_all (resolved bank bs) (placed bank i ks)) ≡ false
each_lacks bank bs ps i n x [] m reached lacks lt = refl
each_lacks bank bs ps i n x (k ∷ ks) m reached lacks lt =
    let e = walked_same (resolved bank bs) bank bs (spot k i) m in
    let w = walked bank bs (spot k i) in
    let here : nodes (becomes bank bs (spot k i)) < n = omega (arith, lt) in
    let small : nodes (becomes bank bs w) < n = subst (λ t. nodes t < n) e here in
    ap₂ (λ a b. a || b) (ap (has_variable x) e ∙ lacks w (reached k (inl refl)) small)
    (each_lacks bank bs ps i n x ks m (λ j h. reached j (inr h)) lacks (omega (arith, lt)))

pub closed_application : (bank : List Tree) (bs : List Bound) (ps : List Spot) (p : Spot) (f : ℕ) (ks : List TermId) → AreBindings bank bs
    → tree_at bank p.term.0 ≡ app f (trees_of (map (λ k. tree_at bank k.0) ks)) → AreReached bank bs ps p.context ks → IsClosed bank bs ps p
closed_application bank bs ps p f ks are e reached n x lacks other lt =
    let whole : becomes bank bs p ≡ app f (substitute_all (resolved bank bs) (placed bank p.context ks)) = ap (λ t. substitute (resolved bank bs) (substitute (raised p.context) t)) e in
    let few : nodes_of (substitute_all (resolved bank bs) (placed bank p.context ks)) + 2 < suc n = subst (λ t. nodes t < suc n) whole lt in
    ap (has_variable x) whole ∙ each_lacks bank bs ps p.context n x ks (solved bank bs are).meets reached lacks (omega (arith, few))

all_lack : (bank : List Tree) (bs : List Bound) (ps : List Spot) (x : ℕ) → ((p : Spot) → In p ps → IsClosed bank bs ps p) → ¬ IsShownIn bank ps x → (n : ℕ) → Lacks bank bs ps n x
all_lack bank bs ps x closed hidden zero p i lt = absurd (omega (arith, lt))
all_lack bank bs ps x closed hidden (suc n) p i lt = closed p i n x (all_lack bank bs ps x closed hidden n) (λ e. hidden (p, i, e)) lt

pub is_reach : (bank : List Tree) (bs : List Bound) (q : Spot) (ps : List Spot) (room : ℕ) → (r : Reaching bank bs ps room) → (rest : List Spot) × (ps ≡ q ∷ rest)
    → ((p : Spot) → In p ps → IsClosed bank bs ps p) → IsReach bank bs q ps
is_reach bank bs q ps room r starts closed =
    let same : r.root ≡ q = let e : r.root ∷ r.rest ≡ q ∷ starts.0 = sym r.shape ∙ starts.1 in cc in
    let there : In q ps = subst (In q) (sym starts.1) (inl refl) in
    record {
      spots = λ p i. r.parts.spots p (r.inside p i);
      there = λ x shown.
          let e : becomes bank bs shown.0 ≡ var x = ap (substitute (resolved bank bs)) shown.2 ∙ (solved bank bs r.bindings).free x (r.free shown.0 shown.1 x shown.2) in
          let has : IsTrue (has_variable x (becomes bank bs shown.0)) = ap (has_variable x) e ∙ eq-eqb x x refl in
          subst (λ s. IsTrue (has_variable x (becomes bank bs s))) same (r.within shown.0 shown.1 x has);
      back = λ x hidden. all_lack bank bs ps x closed hidden (suc (nodes (becomes bank bs q))) q there (omega arith);
    }

pub reaching_start : (bank : List Tree) (bs : List Bound) (q : Spot) (room : ℕ) → CanReach bank bs q room → Reaching bank bs (q ∷ []) room
reaching_start bank bs q room c = record {
  ps = c.ps;
  xs = c.xs;
  parts = c.parts;
  bindings = c.bindings;
  few = c.few;
  root = q;
  rest = [];
  shape = refl;
  inside = λ p i. subst (λ r. In r c.ps) (sym (in_last p q i)) c.inside;
  differ = ((λ i. i), tt);
  free = λ p i. subst (PointsOn bank (bound_variables bs)) (sym (in_last p q i)) c.free;
  within = λ p i x h. subst (λ r. IsTrue (has_variable x (becomes bank bs r))) (in_last p q i) h;
}

-- there is room for one
pub some_room : (bank : List Tree) (bs : List Bound) (q : Spot) (room : ℕ) → CanReach bank bs q room → 0 < room
some_room bank bs q room c = let le = one_more [] c.ps q tt (λ z i. absurd i) (λ i. i) c.inside in omega (arith, le, c.few)

pub room_left : (bank : List Tree) (bs : List Bound) (ps : List Spot) (room : ℕ) (p w : Spot) → CanAdd bank bs ps room p → w ≡ walked bank bs p → (In w ps → IsTrue false) → length ps < room
room_left bank bs ps room p w c same out =
    let fresh : ¬ In (walked bank bs p) ps = λ i. false≢true (out (subst (λ r. In r ps) (sym same) i)) in
    let r = c.reaching in
    let le = one_more ps r.ps (walked bank bs p) r.differ r.inside fresh (walked_in bank r.ps bs p r.parts.followed c.inside) in
    omega (arith, le, r.few)

added_old : (bank : List Tree) (bs : List Bound) (ps : List Spot) (room : ℕ) (p : Spot) → CanAdd bank bs ps room p → In (walked bank bs p) ps → Adds bank bs ps ps room p
added_old bank bs ps room p c i = record { reaching = c.reaching; longer = ([], sym (nothing ps)); added = i }
  where
    nothing : (qs : List Spot) → qs ++ [] ≡ qs
    nothing [] = refl
    nothing (q ∷ qs) = ap (λ l. q ∷ l) (nothing qs)

pub is_added_old : (bank : List Tree) (bs : List Bound) (ps : List Spot) (room : ℕ) (p w : Spot) → CanAdd bank bs ps room p → w ≡ walked bank bs p → In w ps → Adds bank bs ps ps room p
is_added_old bank bs ps room p w c same i = added_old bank bs ps room p c (subst (λ r. In r ps) same i)

added_new : (bank : List Tree) (bs : List Bound) (ps qs : List Spot) (room : ℕ) (p : Spot) → CanAdd bank bs ps room p → ¬ In (walked bank bs p) ps → qs ≡ ps ++ walked bank bs p ∷ [] → Adds bank bs ps qs room p
added_new bank bs ps qs room p c fresh e =
    let r = c.reaching in
    let w = walked bank bs p in
    let to_root : VariablesWithin bank bs w r.root = λ x h.
    r.within c.parent c.there x (c.within x (subst (λ t. IsTrue (has_variable x t)) (sym (walked_same (resolved bank bs) bank bs p (solved bank bs r.bindings).meets)) h)) in
    subst (λ (l : List Spot). Adds bank bs ps l room p) (sym e)
    (record {
      reaching = record {
        ps = r.ps;
        xs = r.xs;
        parts = r.parts;
        bindings = r.bindings;
        few = r.few;
        root = r.root;
        rest = r.rest ++ w ∷ [];
        shape = ap (λ l. l ++ w ∷ []) r.shape;
        inside = λ q i. elim (in_cases q ps (w ∷ []) i) [
          | inl j ↦ r.inside q j
          | inr j ↦ subst (λ s. In s r.ps) (sym (in_last q w j)) (walked_in bank r.ps bs p r.parts.followed c.inside)
        ];
        differ = differ_end ps w r.differ fresh;
        free = λ q i. elim (in_cases q ps (w ∷ []) i) [
          | inl j ↦ r.free q j
          | inr j ↦ subst (PointsOn bank (bound_variables bs)) (sym (in_last q w j)) (walked_free bank [] bs p r.bindings.ordered (λ z h k. k))
        ];
        within = λ q i. elim (in_cases q ps (w ∷ []) i) [
          | inl j ↦ r.within q j
          | inr j ↦ subst (λ s. VariablesWithin bank bs s r.root) (sym (in_last q w j)) to_root
        ];
      };
      longer = (w ∷ [], refl);
      added = in_behind w ps (w ∷ []) (inl refl);
    })

pub is_added_new : (bank : List Tree) (bs : List Bound) (ps qs : List Spot) (room : ℕ) (p w : Spot) → CanAdd bank bs ps room p → w ≡ walked bank bs p → (In w ps → IsTrue false) → qs ≡ ps ++ w ∷ [] → Adds bank bs ps qs room p
is_added_new bank bs ps qs room p w c same out e =
    added_new bank bs ps qs room p c (λ i. false≢true (out (subst (λ r. In r ps) (sym same) i))) (e ∙ ap (λ r. ps ++ r ∷ []) same)

pub can_add : (bank : List Tree) (bs : List Bound) (old ps : List Spot) (first room : ℕ) (ks : List TermId) (i : ℕ) (k : TermId) → CanSpread bank bs old first ks i → Longer old ps → In k ks → Reaching bank bs ps room
    → CanAdd bank bs ps room (spot k i)
can_add bank bs old ps first room ks i k c longer member r =
    let there : In c.parent ps = subst (In c.parent) (sym longer.1) (in_front c.parent old longer.0 c.there) in
    record {
      reaching = r;
      parent = c.parent;
      there = there;
      inside = c.inside r.ps r.xs r.parts (r.inside c.parent there) k member;
      within = c.within k member;
    }

pub longer_on : (a b c : List Spot) → Longer a b → Longer b c → Longer a c
longer_on a b c h k = (h.0 ++ k.0, k.1 ∙ ap (λ l. l ++ k.0) h.1 ∙ assoc a h.0 k.0)

pub reached_more : (bank : List Tree) (bs : List Bound) (a b : List Spot) (i : ℕ) (ks : List TermId) → Longer a b → AreReached bank bs a i ks → AreReached bank bs b i ks
reached_more bank bs a b i ks longer h k j = subst (In (walked bank bs (spot k i))) (sym longer.1) (in_front (walked bank bs (spot k i)) a longer.0 (h k j))

pub in_taken : {A : Type 0} (x : A) (n : ℕ) (xs : List A) → In x (take n xs) → In x xs
in_taken x zero xs i = absurd i
in_taken x (suc n) [] i = i
in_taken x (suc n) (y ∷ xs) (inl e) = inl e
in_taken x (suc n) (y ∷ xs) (inr i) = inr (in_taken x n xs i)

pub take_more : {A : Type 0} (xs : List A) (n : ℕ) (d : A) → n < length xs → take (n + 1) xs ≡ take n xs ++ get_or xs n d ∷ []
take_more xs n d h = rw (add-one, take-suc xs n d h) refl

pub in_taken_more : {A : Type 0} (x : A) (xs : List A) (n : ℕ) (d : A) → n < length xs → In x (take (n + 1) xs) → In x (take n xs) ⊎ (x ≡ get_or xs n d)
in_taken_more x xs n d h i = elim (in_cases x (take n xs) (get_or xs n d ∷ []) (subst (In x) (take_more xs n d h) i)) [ inl j ↦ inl j | inr j ↦ inr (in_last x (get_or xs n d) j) ]

pub in_at : {A : Type 0} (xs : List A) (n : ℕ) (d : A) → n < length xs → In (get_or xs n d) xs
in_at [] n d h = absurd (omega (arith, h))
in_at (x ∷ xs) zero d h = inl refl
in_at (x ∷ xs) (suc n) d h = let inner : n < length xs = omega (arith, h) in inr (in_at xs n d inner)

-- something holds of the first so many
abbrev pub Done : {A : Type 0} → (A → Type 0) → List A → ℕ → Type 0
Done {A} P xs n = (ys : List A) × (zs : List A) × (xs ≡ ys ++ zs) × (length ys ≡ n) × ((y : A) → In y ys → P y)

pub done_none : {A : Type 0} (P : A → Type 0) (xs : List A) → Done P xs 0
done_none P xs = ([], xs, refl, refl, λ y i. absurd i)

nothing_behind : {A : Type 0} (ys zs : List A) → length (ys ++ zs) ≤ length ys → zs ≡ []
nothing_behind [] [] h = refl
nothing_behind [] (z ∷ zs) h = absurd (omega (arith, h))
nothing_behind (y ∷ ys) zs h = let less : length (ys ++ zs) ≤ length ys = omega (arith, h) in nothing_behind ys zs less

pub done_all : {A : Type 0} (P : A → Type 0) (xs : List A) (n : ℕ) → Done P xs n → length xs ≤ n → (y : A) → In y xs → P y
done_all P xs n d le y i =
    let short : length (d.0 ++ d.1) ≤ length d.0 = subst (λ m. length (d.0 ++ d.1) ≤ m) (sym d.3) (subst (λ l. length l ≤ n) d.2 le) in
    let empty = nothing_behind d.0 d.1 short in
    elim (in_cases y d.0 d.1 (subst (In y) d.2 i)) [ inl k ↦ d.4 y k | inr k ↦ absurd (subst (In y) empty k) ]

-- one more
pub done_next : {A : Type 0} (P Q : A → Type 0) (xs ws others : List A) (n : ℕ) (a : A) → Done P xs n → n < length xs → a ≡ get_or xs n a → ws ≡ xs ++ others → ((y : A) → P y → Q y) → Q a → Done Q ws (n + 1)
done_next P Q xs ws others n a d lt at e on here = by d.1 refl
  where
    by : (zs : List _) → d.1 ≡ zs → Done Q ws (n + 1)
    by [] empty = absurd (let all : length xs ≡ length d.0 = ap length (d.2 ∙ ap (λ l. d.0 ++ l) empty ∙ nothing_more d.0) in omega (arith, all, d.3, lt))
    by (z ∷ zs) is =
        let whole : xs ≡ d.0 ++ (z ∷ zs) = d.2 ∙ ap (λ l. d.0 ++ l) is in
        let same : a ≡ z = at ∙ ap₂ (λ l m. get_or l m a) whole (sym d.3) ∙ get_or-append_seam d.0 z zs a in (
          d.0 ++ z ∷ [],
          zs ++ others,
          e ∙ ap (λ l. l ++ others) (whole ∙ sym (assoc d.0 (z ∷ []) zs)) ∙ assoc (d.0 ++ z ∷ []) zs others,
          (let len = one_longer d.0 z in omega (arith, len, d.3)),
          λ y i. elim (in_cases y d.0 (z ∷ []) i) [ inl j ↦ on y (d.4 y j) | inr j ↦ subst Q (same ∙ sym (in_last y z j)) here ],
        )
