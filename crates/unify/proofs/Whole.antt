-- Terms made the same from bindings on, and left as they were where that doesn't go.
use Rattle.std.proofs.Common.{◌≡◌, inl, inr, ℕ, ◌≤◌, Bool, true, false, IsTrue, List, [], ◌∷◌, ◌++◌, take, length, vec_capacity, refl, sym, ap, ◌∙◌, subst, arith}
use Rattle.std.proofs.lemmas.Bool.{eq-eqb, both_ways}
use Rattle.fol_core.specs.Substitutions.{Substitution, substitute}
use Rattle.fol_core.specs.Tree.{Tree, var}
use Rattle.substitutions.specs.Occurring.{has_variable}
use Rattle.substitutions.proofs.Composing.{substitute_variables, substitute_alike}
use Rattle.unify.specs.Bindings.{Meets, bound_variables, resolved, AreBindings}
use Rattle.unify.specs.Endings.{CanBegin, HasWorkRoom, EndsAs}
use Rattle.unify.specs.Opens.{CanUnite, AreMade, IsMadeSame}
use Rattle.unify.specs.Rooms.{TakePart, HasBindingRoom, RoomStays}
use Rattle.unify.specs.Spots.{spot_tree, In}
use Rattle.unify.specs.Steps.{AreLinks, IsShownIn, Leaving, AllSpots, IsWork, TermsStay, WorkGoesOn, CanReach, IsReach}
use Rattle.unify.specs.Unified.{IsUnited, LeavesAlone, IsMatched}
use Rattle.unify.specs.Value.{BindingsValue}
use Rattle.unify.specs.declared.spot.Bound.{Bound}
use Rattle.unify.specs.declared.spot.Spot.{Spot}
use Rattle.unify.specs.declared.spot.Workspace.{Workspace}
use Rattle.unify.proofs.Solutions.{solved}

-- work with nothing linked
pub record Unlinked (a b : Workspace) : Type 0 where
  pub bound : b.bound.items ≡ a.bound.items
  pub links : b.links.items ≡ []
  pub kept : b.kept.items ≡ a.kept.items
  pub vars : vec_capacity b.bound ≡ vec_capacity a.bound
  pub nodes : vec_capacity b.links ≡ vec_capacity a.links
  pub reach : vec_capacity b.reached ≡ vec_capacity a.reached
  pub spare : vec_capacity b.kept ≡ vec_capacity a.kept

pub can_unite : (bank : List Tree) (a b : Workspace) (s t : Spot) → CanBegin bank a s t → Unlinked a b → CanUnite bank b s t
can_unite bank a b s t c e = record {
  works = record {
    ps = c.ps;
    xs = c.xs;
    work = record {
      parts = subst (λ l. TakePart bank l c.ps c.xs) (sym e.bound) c.parts;
      bindings = subst (AreBindings bank) (sym e.bound) c.bindings;
      links = subst (AreLinks bank c.ps []) (sym e.links) tt;
      kept = subst (AllSpots bank) (sym e.kept) c.kept;
      kept_free = λ x h i. c.kept_free x (subst (λ l. IsShownIn bank l x) e.kept h) (subst (λ l. In x (bound_variables l)) e.bound i);
      vars = subst (λ n. length c.xs ≤ n) (sym e.vars) c.vars;
      nodes = subst (λ n. length c.ps ≤ n) (sym e.nodes) c.nodes;
      reach = subst (λ n. length c.ps ≤ n) (sym e.reach) c.reach;
    };
    left = c.left;
    right = c.right;
  };
  unlinked = e.links;
}

begin_work : (bank : List Tree) (a b : Workspace) (s t : Spot) (ps : List Spot) (xs : List ℕ) → CanBegin bank a s t → Unlinked a b → HasWorkRoom bank a ps xs s t → IsWork bank ps xs b
begin_work bank a b s t ps xs c e h = record {
  parts = subst (λ l. TakePart bank l ps xs) (sym e.bound) h.parts;
  bindings = subst (AreBindings bank) (sym e.bound) c.bindings;
  links = subst (AreLinks bank ps []) (sym e.links) tt;
  kept = subst (AllSpots bank) (sym e.kept) c.kept;
  kept_free = λ x k i. c.kept_free x (subst (λ l. IsShownIn bank l x) e.kept k) (subst (λ l. In x (bound_variables l)) e.bound i);
  vars = subst (λ n. length xs ≤ n) (sym e.vars) h.vars;
  nodes = subst (λ n. length ps ≤ n) (sym e.nodes) h.nodes;
  reach = subst (λ n. length ps ≤ n) (sym e.reach) h.reach;
}

pub ended : (bank : List Tree) (a b w : Workspace) (s t : Spot) → CanBegin bank a s t → Unlinked a b → WorkGoesOn b w → AreMade bank b w (spot_tree bank s) (spot_tree bank t) → TermsStay bank b w s t true → EndsAs bank a w s t true
ended bank a b w s t c e g m stay = record {
  ends = record {
    bindings = m.works.work.bindings;
    extends = (g.bound.0, g.bound.1 ∙ ap (λ l. l ++ g.bound.0) e.bound);
    kept_free = λ x h. m.works.work.kept_free x (subst (λ l. IsShownIn bank l x) (sym (g.kept ∙ e.kept)) h);
    equal = m.equal;
    every = λ u l k. m.every u (subst (Leaving u bank) (sym e.kept) l) (subst (Meets u bank) (sym e.bound) k);
    stays = λ ps xs h.
        let k = stay ps xs (begin_work bank a b s t ps xs c e h) h.left h.right in
        (k.work.parts, λ d i. elim (k.within d i) [ inl j ↦ inl (subst (In d) e.bound j) | inr j ↦ inr j ]);
  };
  vars = g.vars ∙ e.vars;
  nodes = g.nodes ∙ e.nodes;
  reach = g.reach ∙ e.reach;
  spare = g.spare ∙ e.spare;
}

take_front : {A : Type 0} (xs ys : List A) → take (length xs) (xs ++ ys) ≡ xs
take_front [] [] = refl
take_front [] (y ∷ ys) = refl
take_front (x ∷ xs) ys = ap (λ l. x ∷ l) (take_front xs ys)

-- work with what was bound last taken back
pub record TakenBack (n : ℕ) (a b : Workspace) : Type 0 where
  pub bound : b.bound.items ≡ take n a.bound.items
  pub vars : vec_capacity b.bound ≡ vec_capacity a.bound
  pub nodes : vec_capacity b.links ≡ vec_capacity a.links
  pub reach : vec_capacity b.reached ≡ vec_capacity a.reached
  pub spare : vec_capacity b.kept ≡ vec_capacity a.kept

pub undone : (bank : List Tree) (a b w v : Workspace) (s t : Spot) (n : ℕ) → Unlinked a b → WorkGoesOn b w → IsMadeSame bank b w (spot_tree bank s) (spot_tree bank t) false → n ≡ length a.bound.items → TakenBack n w v
    → EndsAs bank a v s t false
undone bank a b w v s t n e g never is back = record {
  ends = record {
    same = back.bound ∙ ap (λ m. take m w.bound.items) is ∙ ap (take (length a.bound.items)) (g.bound.1 ∙ ap (λ l. l ++ g.bound.0) e.bound) ∙ take_front a.bound.items g.bound.0;
    never = λ u l m. never u (subst (Leaving u bank) (sym e.kept) l) (subst (Meets u bank) (sym e.bound) m);
  };
  vars = back.vars ∙ g.vars ∙ e.vars;
  nodes = back.nodes ∙ g.nodes ∙ e.nodes;
  reach = back.reach ∙ g.reach ∙ e.reach;
  spare = back.spare ∙ g.spare ∙ e.spare;
}

-- what a term has room for
pub begin : (bank : List Tree) (bs : List Bound) (vars nodes : ℕ) (s t : Spot) (w : Workspace) → HasBindingRoom bank bs vars nodes s t → AreBindings bank bs → w.bound.items ≡ bs → vars ≤ vec_capacity w.bound
    → nodes ≤ vec_capacity w.links → nodes ≤ vec_capacity w.reached → AllSpots bank w.kept.items → ((x : ℕ) → IsShownIn bank w.kept.items x → ¬ In x (bound_variables bs)) → CanBegin bank w s t
begin bank bs vars nodes s t w room are e le lf lg kept free = record {
  ps = room.parts;
  xs = room.names;
  parts = subst (λ l. TakePart bank l room.parts room.names) (sym e) room.take_part;
  bindings = subst (AreBindings bank) (sym e) are;
  kept = kept;
  kept_free = λ x h. subst (λ l. ¬ In x (bound_variables l)) (sym e) (free x h);
  left = room.left;
  right = room.right;
  vars = (let few = room.few_names in omega (arith, few, le));
  nodes = (let few = room.few_parts in omega (arith, few, lf));
  reach = (let few = room.few_parts in omega (arith, few, lg));
}

pub none_kept : (bank : List Tree) (ps : List Spot) → ps ≡ [] → AllSpots bank ps × ((x : ℕ) → ¬ IsShownIn bank ps x)
none_kept bank ps e = ((λ p i. absurd (subst (In p) e i)), λ x h. subst (In h.0) e h.1)

pub united : (bank : List Tree) (a b : Workspace) (s t : Spot) (made : Bool) → a.kept.items ≡ [] → EndsAs bank a b s t made → IsUnited bank a.bound.items b.bound.items (spot_tree bank s) (spot_tree bank t) made
united bank a b s t true e h =
    let leaving : (u : Substitution) → Leaving u bank a.kept.items = λ u x shown. absurd ((none_kept bank a.kept.items e).1 x shown) in
    record { bindings = h.ends.bindings; extends = h.ends.extends; equal = h.ends.equal; every = λ u m k. h.ends.every u (leaving u) m k }
united bank a b s t false e h =
    let leaving : (u : Substitution) → Leaving u bank a.kept.items = λ u x shown. absurd ((none_kept bank a.kept.items e).1 x shown) in
    ((λ u m k. h.ends.never u (leaving u) m k), h.ends.same)

abbrev pub IsUnbound : Tree → List Bound → Type 0
IsUnbound t bs = (x : ℕ) → IsTrue (has_variable x t) → ¬ In x (bound_variables bs)

-- a term whose variables aren't bound
pub left_alone : (u : Substitution) (t : Tree) → LeavesAlone u t → substitute u t ≡ t
left_alone u t h = substitute_alike u var t h ∙ substitute_variables t

pub resolved_alone : (bank : List Tree) (bs : List Bound) (t : Tree) → AreBindings bank bs → IsUnbound t bs → LeavesAlone (resolved bank bs) t
resolved_alone bank bs t are free x i = (solved bank bs are).free x (free x i)

pub can_look : (bank : List Tree) (bs : List Bound) (vars nodes room : ℕ) (s t : Spot) → HasBindingRoom bank bs vars nodes s t → AreBindings bank bs → IsUnbound (spot_tree bank t) bs → nodes ≤ room → CanReach bank bs t room
can_look bank bs vars nodes room s t has are free le = record {
  ps = has.parts;
  xs = has.names;
  parts = has.take_part;
  bindings = are;
  inside = has.right;
  free = λ x e. free x (subst (λ r. IsTrue (has_variable x r)) (sym e) (eq-eqb x x refl));
  few = (let few = has.few_parts in omega (arith, few, le));
}

reach_alone : (bank : List Tree) (bs : List Bound) (t : Spot) (kept : List Spot) → AreBindings bank bs → IsUnbound (spot_tree bank t) bs → IsReach bank bs t kept → (x : ℕ) → IsShownIn bank kept x
    → IsTrue (has_variable x (spot_tree bank t))
reach_alone bank bs t kept are free r x shown = subst (λ s. IsTrue (has_variable x s)) (left_alone (resolved bank bs) (spot_tree bank t) (resolved_alone bank bs (spot_tree bank t) are free)) (r.there x shown)

pub reach_free : (bank : List Tree) (bs : List Bound) (t : Spot) (kept : List Spot) → AreBindings bank bs → IsUnbound (spot_tree bank t) bs → IsReach bank bs t kept → (x : ℕ) → IsShownIn bank kept x
    → ¬ In x (bound_variables bs)
reach_free bank bs t kept are free r x shown = free x (reach_alone bank bs t kept are free r x shown)

leaving_alone : (bank : List Tree) (bs : List Bound) (t : Spot) (kept : List Spot) (u : Substitution) → AreBindings bank bs → IsUnbound (spot_tree bank t) bs → IsReach bank bs t kept → LeavesAlone u (spot_tree bank t)
    → Leaving u bank kept
leaving_alone bank bs t kept u are free r h x shown = h x (reach_alone bank bs t kept are free r x shown)

pub matched : (bank : List Tree) (bs : List Bound) (a b : Workspace) (s t : Spot) (made : Bool) → AreBindings bank bs → a.bound.items ≡ bs → IsUnbound (spot_tree bank t) bs → IsReach bank bs t a.kept.items
    → EndsAs bank a b s t made → IsMatched bank bs b.bound.items (spot_tree bank s) (spot_tree bank t) made
matched bank bs a b s t true are e free r h =
    let ts : Tree = spot_tree bank t in
    let unbound : IsUnbound ts b.bound.items = λ x i j.
    let hidden : ¬ IsShownIn bank a.kept.items x = λ shown. h.ends.kept_free x shown j in
    both_ways (has_variable x ts) (subst (λ q. has_variable x q ≡ false) (left_alone (resolved bank bs) ts (resolved_alone bank bs ts are free)) (r.back x hidden)) i in
    let made : (u : Substitution) → Meets u bank b.bound.items → LeavesAlone u ts → substitute u (spot_tree bank s) ≡ ts = λ u m l. h.ends.equal u m ∙ left_alone u ts l in
    record {
      bindings = h.ends.bindings;
      extends = (h.ends.extends.0, h.ends.extends.1 ∙ ap (λ l. l ++ h.ends.extends.0) e);
      unbound = unbound;
      made = made (resolved bank b.bound.items) (solved bank b.bound.items h.ends.bindings).meets (resolved_alone bank b.bound.items ts h.ends.bindings unbound);
      equal = made;
      every = λ u m l k. h.ends.every u (leaving_alone bank bs t a.kept.items u are free r l) (subst (Meets u bank) (sym e) m) (k ∙ sym (left_alone u ts l));
    }
matched bank bs a b s t false are e free r h = (
  (λ u m l k. h.ends.never u (leaving_alone bank bs t a.kept.items u are free r l) (subst (Meets u bank) (sym e) m) (k ∙ sym (left_alone u (spot_tree bank t) l))),
  h.ends.same ∙ e,
)

-- the value that contracts see and the fields
pub record IsSeen (w : Workspace) (nodes : ℕ) (v : BindingsValue) : Type 0 where
  pub bound : w.bound.items ≡ v.bound
  pub vars : vec_capacity w.bound ≡ v.vars
  pub nodes_are : nodes ≡ v.nodes

pub is_seen : (w : Workspace) (nodes : ℕ) (v u : BindingsValue) → v ≡ u → w.bound.items ≡ v.bound → vec_capacity w.bound ≡ v.vars → nodes ≡ v.nodes → IsSeen w nodes u
is_seen w nodes v u e b n m = subst (IsSeen w nodes) e (record { bound = b; vars = n; nodes_are = m })

vec_same : (x w : Workspace) → x.bound ≡ w.bound → vec_capacity x.bound ≡ vec_capacity w.bound
vec_same x w e = cc

items_same : (x w : Workspace) → x.bound ≡ w.bound → x.bound.items ≡ w.bound.items
items_same x w e = cc

pub look_at : (bank : List Tree) (w : Workspace) (nodes : ℕ) (v : BindingsValue) (s t : Spot) → IsSeen w nodes v → nodes ≤ vec_capacity w.kept → HasBindingRoom bank v.bound v.vars v.nodes s t → AreBindings bank v.bound
    → IsUnbound (spot_tree bank t) v.bound → CanReach bank w.bound.items t (vec_capacity w.kept)
look_at bank w nodes v s t is le room are free =
    subst (λ l. CanReach bank l t (vec_capacity w.kept)) (sym is.bound)
    (can_look bank v.bound v.vars v.nodes (vec_capacity w.kept) s t room are free (subst (λ n. n ≤ vec_capacity w.kept) is.nodes_are le))

pub begin_at : (bank : List Tree) (w x : Workspace) (nodes : ℕ) (v : BindingsValue) (s t : Spot) → IsSeen w nodes v → nodes ≤ vec_capacity w.links → nodes ≤ vec_capacity w.reached
    → x.bound ≡ w.bound → x.links ≡ w.links → x.reached ≡ w.reached → HasBindingRoom bank v.bound v.vars v.nodes s t → AreBindings bank v.bound
    → IsUnbound (spot_tree bank t) v.bound → IsReach bank w.bound.items t x.kept.items → CanBegin bank x s t
begin_at bank w x nodes v s t is le lf sb sl sr room are free r =
    let r' : IsReach bank v.bound t x.kept.items = subst (λ l. IsReach bank l t x.kept.items) is.bound r in
    let vars : v.vars ≤ vec_capacity x.bound = (let e = vec_same x w sb in omega (arith, e, is.vars)) in
    let links : v.nodes ≤ vec_capacity x.links = subst (λ l. v.nodes ≤ vec_capacity l) (sym sl) (subst (λ n. n ≤ vec_capacity w.links) is.nodes_are le) in
    let reached : v.nodes ≤ vec_capacity x.reached = subst (λ l. v.nodes ≤ vec_capacity l) (sym sr) (subst (λ n. n ≤ vec_capacity w.reached) is.nodes_are lf) in
    begin bank v.bound v.vars v.nodes s t x room are (items_same x w sb ∙ is.bound) vars links reached r'.spots (λ y h. reach_free bank v.bound t x.kept.items are free r' y h)

pub matched_at : (bank : List Tree) (w x y : Workspace) (nodes : ℕ) (v : BindingsValue) (s t : Spot) (made : Bool) → IsSeen w nodes v → x.bound ≡ w.bound → AreBindings bank v.bound → IsUnbound (spot_tree bank t) v.bound
    → IsReach bank w.bound.items t x.kept.items → EndsAs bank x y s t made → IsMatched bank v.bound y.bound.items (spot_tree bank s) (spot_tree bank t) made
matched_at bank w x y nodes v s t made is sb are free r h =
    matched bank v.bound x y s t made are (items_same x w sb ∙ is.bound) free (subst (λ l. IsReach bank l t x.kept.items) is.bound r) h

-- there is room still for what took part
room_kept : (bank : List Tree) (bs : List Bound) (vars nodes : ℕ) (a b : Workspace) (s t : Spot) (made : Bool) → a.bound.items ≡ bs → vars ≤ vec_capacity a.bound → nodes ≤ vec_capacity a.links → nodes ≤ vec_capacity a.reached
    → EndsAs bank a b s t made → RoomStays bank bs b.bound.items vars nodes s t
room_kept bank bs vars nodes a b s t true e le lf lg h = λ room.
    let few = room.few_parts in
    let named = room.few_names in
    let k = h.ends.stays room.parts room.names (record {
      parts = subst (λ l. TakePart bank l room.parts room.names) (sym e) room.take_part;
      left = room.left;
      right = room.right;
      vars = omega (arith, named, le);
      nodes = omega (arith, few, lf);
      reach = omega (arith, few, lg);
    }) in
    (k.0, λ d i. elim (k.1 d i) [ inl j ↦ inl (subst (In d) e j) | inr j ↦ inr j ])
room_kept bank bs vars nodes a b s t false e le lf lg h = λ room.
    (subst (λ l. TakePart bank l room.parts room.names) (sym (h.ends.same ∙ e)) room.take_part, λ d i. inl (subst (In d) (h.ends.same ∙ e) i))

pub room_kept_at : (bank : List Tree) (w x y : Workspace) (nodes : ℕ) (v : BindingsValue) (s t : Spot) (made : Bool) → IsSeen w nodes v → nodes ≤ vec_capacity w.links → nodes ≤ vec_capacity w.reached
    → x.bound ≡ w.bound → x.links ≡ w.links → x.reached ≡ w.reached → EndsAs bank x y s t made → RoomStays bank v.bound y.bound.items v.vars v.nodes s t
room_kept_at bank w x y nodes v s t made is le lf sb sl sr h =
    let vars : v.vars ≤ vec_capacity x.bound = (let e = vec_same x w sb in omega (arith, e, is.vars)) in
    let links : v.nodes ≤ vec_capacity x.links = subst (λ l. v.nodes ≤ vec_capacity l) (sym sl) (subst (λ n. n ≤ vec_capacity w.links) is.nodes_are le) in
    let reached : v.nodes ≤ vec_capacity x.reached = subst (λ l. v.nodes ≤ vec_capacity l) (sym sr) (subst (λ n. n ≤ vec_capacity w.reached) is.nodes_are lf) in
    room_kept bank v.bound v.vars v.nodes x y s t made (items_same x w sb ∙ is.bound) vars links reached h
