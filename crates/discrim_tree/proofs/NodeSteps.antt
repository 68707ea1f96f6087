-- Nodes, as they change.
use Rattle.std.proofs.Common.{◌≡◌, ℕ, ◌==◌, ◌⊎◌, Bool, true, false, not, if◌then◌else◌, cond, inl, inr, refl, sym, ap, ap₂, subst, ◌∙◌, List, [], ◌∷◌, ◌++◌, Some, MatchOption, arith, eqb-true, eq-eqb, Option, None, IsSome, Result, Ok, Err, OnOk, OnErr}
use Rattle.std.specs.List.{filter}
use Rattle.std.specs.Option.{option_and_then, option_map}
use Rattle.std.specs.declared.cmp.Ordering.{Ordering}
use Rattle.std.specs.declared.cmp.Ordering.TheVariants.{Less, Equal, Greater}
use Rattle.std.specs.Ordering.{nat_cmp, ordering_then, is_eq}
use Rattle.std.proofs.lemmas.Bool.{cases_eq}
use Rattle.std.proofs.lemmas.Map.Lookups.{exact_unsigned}
use Rattle.slab.specs.Slab.{get, ContainsKey, Updates}
use Rattle.discrim_tree.specs.Contents.{target}
use Rattle.discrim_tree.specs.Nodes.{Store, edge_cmp, branch, child, IsIn, Holds}
use Rattle.discrim_tree.specs.Trees.{link_of, IsBranched, IsFull, IsRenumbered, IsSame}
use Rattle.discrim_tree.specs.declared.edge.Edge.{Edge}
use Rattle.discrim_tree.specs.declared.edge.Edge.TheVariants.{Any, Element, Symbol}
use Rattle.discrim_tree.specs.declared.nodes.Node.{Node}

then_first : (a b : Ordering) → ordering_then a b ≡ Equal → (a ≡ Equal) × (b ≡ Equal)
then_first Less b h = cc
then_first Equal b h = (refl, h)
then_first Greater b h = cc

-- steps that compare as equal are the same
pub same_step : (x y : Edge) → edge_cmp x y ≡ Equal → x ≡ y
same_step Any Any h = refl
same_step Any (Element n) h = cc
same_step Any (Symbol g m) h = cc
same_step (Element k) Any h = cc
same_step (Element k) (Element n) h = ap Element (exact_unsigned k n h)
same_step (Element k) (Symbol g m) h = cc
same_step (Symbol f k) Any h = cc
same_step (Symbol f k) (Element n) h = cc
same_step (Symbol f k) (Symbol g m) h =
    let both = then_first (nat_cmp f g) (nat_cmp k m) h in
    ap₂ Symbol (exact_unsigned f g both.0) (exact_unsigned k m both.1)

pub is_same : (x y : Edge) → is_eq (edge_cmp x y) ≡ true → x ≡ y
is_same x y h = by (edge_cmp x y) refl
  where
    by : (o : Ordering) → edge_cmp x y ≡ o → x ≡ y
    by Less e = let bad : is_eq Less ≡ true = ap is_eq (sym e) ∙ h in cc
    by Equal e = same_step x y e
    by Greater e = let bad : is_eq Greater ≡ true = ap is_eq (sym e) ∙ h in cc

pub is_other : (x y : Edge) → (y ≡ x → ⊥) → is_eq (edge_cmp x y) ≡ false
is_other x y apart = by (is_eq (edge_cmp x y)) refl
  where
    by : (b : Bool) → is_eq (edge_cmp x y) ≡ b → b ≡ false
    by true e = absurd (apart (sym (is_same x y e)))
    by false e = refl

equal_to_itself : (n : ℕ) → nat_cmp n n ≡ Equal
equal_to_itself n = grind (arith)

pub same_as_itself : (x : Edge) → edge_cmp x x ≡ Equal
same_as_itself Any = refl
same_as_itself (Element k) = equal_to_itself k
same_as_itself (Symbol f k) = ap₂ ordering_then (equal_to_itself f) (equal_to_itself k)

pub some_same : {X : Type 0} (x y : X) → Some x ≡ Some y → x ≡ y
some_same x y e = cc

pub none_some : {X : Type 0} (x : X) → None ≡ Some x → ⊥
none_some x e = cc

pub on_ok : {X E : Type 0} {P Q : Type 0} (r : Result X E) → (P → Q) → OnOk r P → OnOk r Q
on_ok (Ok x) f p = f p
on_ok (Err e) f p = tt

pub on_err : {X E : Type 0} {P Q : Type 0} (r : Result X E) → (P → Q) → OnErr r P → OnErr r Q
on_err (Ok x) f p = tt
on_err (Err e) f p = f p

pub on_either : {X E : Type 0} {P Q R : Type 0} (r : Result X E) → (P → R) → (Q → R) → OnOk r P → OnErr r Q → R
on_either (Ok x) f g p q = f p
on_either (Err e) f g p q = g q

pub apart : (a b : ℕ) → (a ≡ b → ⊥) → (a == b) ≡ false
apart a b h = by (a == b) refl
  where
    by : (c : Bool) → (a == b) ≡ c → c ≡ false
    by true e = absurd (h (eqb-true a b e))
    by false e = refl

-- ---- numbers in a list

pub is_in_last : (n : ℕ) (ms : List ℕ) → IsIn n (ms ++ n ∷ [])
is_in_last n [] = inl refl
is_in_last n (m ∷ ms) = inr (is_in_last n ms)

pub is_in_front : (n k : ℕ) (ms : List ℕ) → IsIn n ms → IsIn n (ms ++ k ∷ [])
is_in_front n k [] h = absurd h
is_in_front n k (m ∷ ms) (inl e) = inl e
is_in_front n k (m ∷ ms) (inr h) = inr (is_in_front n k ms h)

pub is_in_either : (n k : ℕ) (ms : List ℕ) → IsIn n (ms ++ k ∷ []) → IsIn n ms ⊎ (n ≡ k)
is_in_either n k [] (inl e) = inr e
is_in_either n k [] (inr h) = absurd h
is_in_either n k (m ∷ ms) (inl e) = inl (inl e)
is_in_either n k (m ∷ ms) (inr h) = elim (is_in_either n k ms h) [ inl g ↦ inl (inr g) | inr g ↦ inr g ]

pub is_in_filter : (n m : ℕ) (ms : List ℕ) → (m ≡ n → ⊥) → IsIn m ms → IsIn m (filter (λ k. not (k == n)) ms)
is_in_filter n m [] ne h = absurd h
is_in_filter n m (k ∷ ms) ne (inl e) = subst (λ b. IsIn m (if not b then k ∷ filter (λ j. not (j == n)) ms else filter (λ j. not (j == n)) ms)) (sym (apart k n (λ d. ne (e ∙ d)))) (inl e)
is_in_filter n m (k ∷ ms) ne (inr h) = by (k == n) (is_in_filter n m ms ne h)
  where
    by : (b : Bool) → IsIn m (filter (λ j. not (j == n)) ms) → IsIn m (if not b then k ∷ filter (λ j. not (j == n)) ms else filter (λ j. not (j == n)) ms)
    by true rest = rest
    by false rest = inr rest

pub is_in_more : (n m : ℕ) (ms : List ℕ) → IsIn m (filter (λ k. not (k == n)) ms) → IsIn m ms
is_in_more n m [] h = absurd h
is_in_more n m (k ∷ ms) h = by (k == n) (is_in_more n m ms) h
  where
    by : (b : Bool) → (IsIn m (filter (λ j. not (j == n)) ms) → IsIn m ms) → IsIn m (if not b then k ∷ filter (λ j. not (j == n)) ms else filter (λ j. not (j == n)) ms) → IsIn m (k ∷ ms)
    by true more rest = inr (more rest)
    by false more (inl e) = inl e
    by false more (inr rest) = inr (more rest)

pub is_out : (n : ℕ) (ms : List ℕ) → IsIn n (filter (λ k. not (k == n)) ms) → ⊥
is_out n [] h = absurd h
is_out n (k ∷ ms) h = by (k == n) refl (is_out n ms) h
  where
    by : (b : Bool) → (k == n) ≡ b → (IsIn n (filter (λ j. not (j == n)) ms) → ⊥) → IsIn n (if not b then k ∷ filter (λ j. not (j == n)) ms else filter (λ j. not (j == n)) ms) → ⊥
    by true e out rest = out rest
    by false e out (inl same) = let bad : true ≡ false = sym (eq-eqb k n (sym same)) ∙ e in cc
    by false e out (inr rest) = out rest

-- ---- what a node has

pub child_by : (nodes : Store) (at : ℕ) (e : Edge) (node : Node) → get nodes at ≡ Some node → child nodes at e ≡ branch node e
child_by nodes at e node is = ap (option_and_then (λ (x : Node). branch x e)) is

pub child_none : (nodes : Store) (at : ℕ) (e : Edge) → get nodes at ≡ None → child nodes at e ≡ None
child_none nodes at e is = ap (option_and_then (λ (x : Node). branch x e)) is

pub child_same : (old new : Store) (at : ℕ) (e : Edge) → get new at ≡ get old at → child new at e ≡ child old at e
child_same old new at e is = ap (option_and_then (λ (x : Node). branch x e)) is

pub held_there : (nodes : Store) (at n : ℕ) (node : Node) → get nodes at ≡ Some node → IsIn n node.contents.numbers → Holds nodes at n
held_there nodes at n node is h = subst (λ o. MatchOption o ⊥ (λ (x : Node). IsIn n x.contents.numbers)) (sym is) h

pub held_by : (nodes : Store) (at n : ℕ) (node : Node) → get nodes at ≡ Some node → Holds nodes at n → IsIn n node.contents.numbers
held_by nodes at n node is h = subst (λ o. MatchOption o ⊥ (λ (x : Node). IsIn n x.contents.numbers)) is h

pub none_held : (nodes : Store) (at n : ℕ) → get nodes at ≡ None → Holds nodes at n → ⊥
none_held nodes at n is h = subst (λ o. MatchOption o ⊥ (λ (x : Node). IsIn n x.contents.numbers)) is h

pub held_same : (old new : Store) (at n : ℕ) → get new at ≡ get old at → Holds old at n → Holds new at n
held_same old new at n is h = subst (λ o. MatchOption o ⊥ (λ (x : Node). IsIn n x.contents.numbers)) (sym is) h

pub link_by : (nodes : Store) (at : ℕ) (node : Node) → get nodes at ≡ Some node → link_of nodes at ≡ Some node.link
link_by nodes at node is = ap (option_map (λ (x : Node). x.link)) is

pub link_none : (nodes : Store) (at : ℕ) → get nodes at ≡ None → link_of nodes at ≡ None
link_none nodes at is = ap (option_map (λ (x : Node). x.link)) is

pub link_same : (old new : Store) (at : ℕ) → get new at ≡ get old at → link_of new at ≡ link_of old at
link_same old new at is = ap (option_map (λ (x : Node). x.link)) is

-- a node that has a branch is there
pub there_with : (nodes : Store) (at : ℕ) (e : Edge) (k : ℕ) → child nodes at e ≡ Some k → (above : ℕ) × (link_of nodes at ≡ Some above)
there_with nodes at e k is = by (get nodes at) refl
  where
    by : (o : Option Node) → get nodes at ≡ o → (above : ℕ) × (link_of nodes at ≡ Some above)
    by None n = absurd (none_some k (sym (child_none nodes at e n) ∙ is))
    by (Some node) n = (node.link, link_by nodes at node n)

pub there_for : (nodes : Store) (at : ℕ) → ContainsKey nodes at → (above : ℕ) × (link_of nodes at ≡ Some above)
there_for nodes at is = by (get nodes at) refl
  where
    by : (o : Option Node) → get nodes at ≡ o → (above : ℕ) × (link_of nodes at ≡ Some above)
    by None n = let bad : IsSome {T = Node} None = subst IsSome n is in absurd (cc)
    by (Some node) n = (node.link, link_by nodes at node n)

-- a node that isn't there has no link
pub vacant_link : (nodes : Store) (at above : ℕ) → get nodes at ≡ None → link_of nodes at ≡ Some above → ⊥
vacant_link nodes at above none is = none_some above (sym (link_none nodes at none) ∙ is)

-- ---- one node is changed

-- a branch of a node comes, goes or leads elsewhere
pub branched : (old new : Store) (at : ℕ) (edge : Edge) (node next : Node) → get old at ≡ Some node → Updates old new at (Some next) → next.contents.numbers ≡ node.contents.numbers → next.link ≡ node.link
    → ((e : Edge) → (e ≡ edge → ⊥) → branch next e ≡ branch node e) → IsBranched at edge old new
branched old new at edge node next is updates numbers link branches = record {
  was = node.link;
  there = link_by old at node is;
  others = λ a e apart. elim (cases_eq a at) [
    | inl s ↦
        subst (λ b. child new b e ≡ child old b e) (sym s)
        (child_by new at e next updates.changed ∙ branches e (λ d. apart (s, d)) ∙ sym (child_by old at e node is))
    | inr s ↦ child_same old new a e (updates.others a s)
  ];
  numbers = λ a n h. elim (cases_eq a at) [
    | inl s ↦
        subst (λ b. Holds new b n) (sym s)
        (held_there new at n next updates.changed (subst (IsIn n) (sym numbers) (held_by old at n node is (subst (λ b. Holds old b n) s h))))
    | inr s ↦ held_same old new a n (updates.others a s) h
  ];
  back = λ a n h. elim (cases_eq a at) [
    | inl s ↦
        subst (λ b. Holds old b n) (sym s)
        (held_there old at n node is (subst (IsIn n) numbers (held_by new at n next updates.changed (subst (λ b. Holds new b n) s h))))
    | inr s ↦ held_same new old a n (sym (updates.others a s)) h
  ];
  links = λ k. elim (cases_eq k at) [
    | inl s ↦ subst (λ b. link_of new b ≡ link_of old b) (sym s) (link_by new at next updates.changed ∙ ap Some link ∙ sym (link_by old at node is))
    | inr s ↦ link_same old new k (updates.others k s)
  ];
}

-- the numbers of a node change
pub renumbered : (old new : Store) (at : ℕ) (node next : Node) → get old at ≡ Some node → Updates old new at (Some next) → next.contents.branches ≡ node.contents.branches → next.link ≡ node.link → IsRenumbered at old new
renumbered old new at node next is updates branches link = record {
  was = node.link;
  there = link_by old at node is;
  branches = λ a e. elim (cases_eq a at) [
    | inl s ↦
        subst (λ b. child new b e ≡ child old b e) (sym s)
        (child_by new at e next updates.changed ∙ ap (λ bs. target bs e) branches ∙ sym (child_by old at e node is))
    | inr s ↦ child_same old new a e (updates.others a s)
  ];
  numbers = λ a n s h. held_same old new a n (updates.others a s) h;
  back = λ a n s h. held_same new old a n (sym (updates.others a s)) h;
  links = λ k. elim (cases_eq k at) [
    | inl s ↦ subst (λ b. link_of new b ≡ link_of old b) (sym s) (link_by new at next updates.changed ∙ ap Some link ∙ sym (link_by old at node is))
    | inr s ↦ link_same old new k (updates.others k s)
  ];
}

pub same_store : (nodes : Store) → IsSame nodes nodes
same_store nodes = record { branches = λ a e. refl; numbers = λ a n h. h; back = λ a n h. h; links = λ k. refl; next = refl }

-- a node has the branches and numbers that it had
pub untouched : (old new : Store) (at : ℕ) (node next : Node) → get old at ≡ Some node → Updates old new at (Some next) → next.contents.numbers ≡ node.contents.numbers → next.link ≡ node.link
    → next.contents.branches ≡ node.contents.branches → new.vacant_key ≡ old.vacant_key → IsSame old new
untouched old new at node next is updates numbers link branches key =
    let there = branched old new at Any node next is updates numbers link (λ e d. ap (λ bs. target bs e) branches) in
    record {
      branches = λ a e. elim (cases_eq a at) [
        | inl s ↦
            subst (λ b. child new b e ≡ child old b e) (sym s)
            (child_by new at e next updates.changed ∙ ap (λ bs. target bs e) branches ∙ sym (child_by old at e node is))
        | inr s ↦ child_same old new a e (updates.others a s)
      ];
      numbers = there.numbers;
      back = there.back;
      links = there.links;
      next = key;
    }

pub held_after : (old new : Store) (at n : ℕ) (next : Node) → Updates old new at (Some next) → IsIn n next.contents.numbers → Holds new at n
held_after old new at n next updates h = held_there new at n next updates.changed h

pub after_held : (old new : Store) (at n : ℕ) (next : Node) → Updates old new at (Some next) → Holds new at n → IsIn n next.contents.numbers
after_held old new at n next updates h = held_by new at n next updates.changed h

-- a node that isn't empty has a number or a branch
pub full : (nodes : Store) (at : ℕ) (node : Node) → get nodes at ≡ Some node → (node.contents.numbers ≡ [] → ⊥) ⊎ (node.contents.branches ≡ [] → ⊥) → IsFull nodes at
full nodes at node is (inl some) = by node.contents.numbers refl
  where
    by : (ns : List ℕ) → node.contents.numbers ≡ ns → IsFull nodes at
    by [] s = absurd (some s)
    by (n ∷ ns) s = inl (n, held_there nodes at n node is (subst (IsIn n) (sym s) (inl refl)))
full nodes at node is (inr some) = by node.contents.branches refl
  where
    by : (es : List (Edge × ℕ)) → node.contents.branches ≡ es → IsFull nodes at
    by [] s = absurd (some s)
    by (e ∷ es) s =
        inr (
          e.0,
          e.1,
          child_by nodes at e.0 node is ∙ ap (λ bs. target bs e.0) s
              ∙ ap (λ (o : Ordering). cond (is_eq o) (Some e.1) (target es e.0)) (same_as_itself e.0),
        )
