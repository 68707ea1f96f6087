-- One pair of terms that have to be the same: what is bound or linked, and what follows of it.
use Rattle.std.proofs.Common.{◌≡◌, inl, inr, ◌⊎◌, ℕ, suc, ◌<◌, ◌≤◌, Bool, true, false, List, [], ◌∷◌, ◌++◌, length, vec_capacity, refl, sym, ap, ◌∙◌, subst, arith}
use Rattle.fol_core.specs.Substitutions.{Substitution, substitute}
use Rattle.fol_core.specs.Tree.{Tree, var, elem, app}
use Rattle.substitutions.specs.Occurring.{has_variable}
use Rattle.unify.specs.Bindings.{Meets, bound_variables, resolved, AreBindings}
use Rattle.unify.specs.Joins.{MayBind, MayBindOther, CanJoin, CanLink}
use Rattle.unify.specs.Rooms.{TakePart, AreFollowed}
use Rattle.unify.specs.Spots.{spot_tree, In}
use Rattle.unify.specs.Steps.{walked, linked, froms, Alike, AlikeLinks, AreJoined, AreLinks, IsShownIn, Leaving, AllSpots, IsWork, WorksAt, WorkGoesOn, Fulfils, IsJoined, NeverSame, Joins, as_high, StandsForClass, CanReach, IsReach}
use Rattle.unify.specs.declared.spot.Bound.{Bound}
use Rattle.unify.specs.declared.spot.Link.{Link}
use Rattle.unify.specs.declared.spot.Spot.{Spot}
use Rattle.unify.specs.declared.spot.Workspace.{Workspace}
use Rattle.unify.proofs.Alikes.{alike_same, alike_back, alike_on, alike_high, joined_alike, joined_both, alike_behind}
use Rattle.unify.proofs.Lists.{in_cases, in_last, nothing_more, one_more}
use Rattle.unify.proofs.Solutions.{meets_both, meets_behind, names_both, names_differ, never_cycle, solved, bindings_end}
use Rattle.unify.proofs.Walks.{walked_same, walked_in, walked_free, linked_alike, linked_in, linked_end, linked_variable, links_end, froms_differ, froms_in}

-- work that has the same bound, linked and kept, with as much room
pub record SameWork (a b : Workspace) : Type 0 where
  pub bound : b.bound.items ≡ a.bound.items
  pub links : b.links.items ≡ a.links.items
  pub kept : b.kept.items ≡ a.kept.items
  pub vars : vec_capacity b.bound ≡ vec_capacity a.bound
  pub nodes : vec_capacity b.links ≡ vec_capacity a.links
  pub reach : vec_capacity b.reached ≡ vec_capacity a.reached
  pub spare : vec_capacity b.kept ≡ vec_capacity a.kept

pub same_goes : (a b : Workspace) → SameWork a b → WorkGoesOn a b
same_goes a b s = record {
  bound = ([], s.bound ∙ sym (nothing_more a.bound.items));
  links = ([], s.links ∙ sym (nothing_more a.links.items));
  kept = s.kept;
  vars = s.vars;
  nodes = s.nodes;
  reach = s.reach;
  spare = s.spare;
}

pub same_work : (bank : List Tree) (ps : List Spot) (xs : List ℕ) (a b : Workspace) → SameWork a b → IsWork bank ps xs a → IsWork bank ps xs b
same_work bank ps xs a b s w = record {
  parts = subst (λ l. TakePart bank l ps xs) (sym s.bound) w.parts;
  bindings = subst (AreBindings bank) (sym s.bound) w.bindings;
  links = subst (AreLinks bank ps []) (sym s.links) w.links;
  kept = subst (AllSpots bank) (sym s.kept) w.kept;
  kept_free = λ x h i. w.kept_free x (subst (λ l. IsShownIn bank l x) s.kept h) (subst (λ l. In x (bound_variables l)) s.bound i);
  vars = subst (λ n. length xs ≤ n) (sym s.vars) w.vars;
  nodes = subst (λ n. length ps ≤ n) (sym s.nodes) w.nodes;
  reach = subst (λ n. length ps ≤ n) (sym s.reach) w.reach;
}

pub same_fulfils : (u : Substitution) (bank : List Tree) (a b : Workspace) → SameWork a b → Fulfils u bank a → Fulfils u bank b
same_fulfils u bank a b s f = record {
  leaving = subst (Leaving u bank) (sym s.kept) f.leaving;
  meets = subst (Meets u bank) (sym s.bound) f.meets;
  joined = subst (AreJoined u bank) (sym s.links) f.joined;
}

-- terms that every substitution makes the same
pub always : (bank : List Tree) (a b : Workspace) (ps : List Spot) (xs : List ℕ) (s t : Tree) → SameWork a b → IsWork bank ps xs a → ((u : Substitution) → substitute u s ≡ substitute u t) → IsJoined bank a b as_high s t
always bank a b ps xs s t e w h = record {
  works = record { ps = ps; xs = xs; work = same_work bank ps xs a b e w };
  every = λ u f k. same_fulfils u bank a b e f;
  alike = λ n u m k. alike_same n u s t (h u);
}

pub can_reach : (bank : List Tree) (w : Workspace) (x : ℕ) (q : Spot) → MayBind bank w x q → CanReach bank w.bound.items q (vec_capacity w.reached)
can_reach bank w x q c = record {
  ps = c.ps;
  xs = c.xs;
  parts = c.work.parts;
  bindings = c.work.bindings;
  inside = c.inside;
  free = c.free;
  few = c.work.reach;
}

-- a variable that the term has isn't bound to it
pub never_bound : (bank : List Tree) (w : Workspace) (x : ℕ) (q : Spot) (reached : List Spot) → MayBind bank w x q → IsReach bank w.bound.items q reached → IsShownIn bank reached x → NeverSame bank w (var x) (spot_tree bank q)
never_bound bank w x q reached c r shown u f e =
    never_cycle (resolved bank w.bound.items) u bank w.bound.items x (spot_tree bank q) (solved bank w.bound.items c.work.bindings) f.meets c.free c.other (r.there x shown) e

names_length : (bs : List Bound) → length (bound_variables bs) ≡ length bs
names_length [] = refl
names_length (b ∷ bs) = ap suc (names_length bs)

pub bound_room : (bank : List Tree) (w : Workspace) (x : ℕ) (q : Spot) → MayBind bank w x q → length w.bound.items < vec_capacity w.bound
bound_room bank w x q c =
    let le = one_more (bound_variables w.bound.items) c.xs x (names_differ bank [] w.bound.items c.work.bindings.ordered) c.work.parts.bound c.unbound c.named in
    omega (arith, le, names_length w.bound.items, c.work.vars)

followed_both : (bank : List Tree) (ps : List Spot) (bs cs : List Bound) → AreFollowed bank ps bs → AreFollowed bank ps cs → AreFollowed bank ps (bs ++ cs)
followed_both bank ps [] cs h k = k
followed_both bank ps (b ∷ bs) cs h k = (h.0, followed_both bank ps bs cs h.1 k)

names_more : (bs : List Bound) (b : Bound) (y : ℕ) → In y (bound_variables (bs ++ b ∷ [])) → In y (bound_variables bs) ⊎ (y ≡ b.variable)
names_more bs b y i = elim (in_cases y (bound_variables bs) (b.variable ∷ []) (subst (In y) (names_both bs (b ∷ [])) i)) [ inl j ↦ inl j | inr j ↦ inr (in_last y b.variable j) ]

-- one more binding
pub record OneBound (a b : Workspace) (x : ℕ) (q : Spot) : Type 0 where
  pub bound : b.bound.items ≡ a.bound.items ++ record { variable = x; to = q } ∷ []
  pub links : b.links.items ≡ a.links.items
  pub kept : b.kept.items ≡ a.kept.items
  pub vars : vec_capacity b.bound ≡ vec_capacity a.bound
  pub nodes : vec_capacity b.links ≡ vec_capacity a.links
  pub reach : vec_capacity b.reached ≡ vec_capacity a.reached
  pub spare : vec_capacity b.kept ≡ vec_capacity a.kept

pub one_goes : (a b : Workspace) (x : ℕ) (q : Spot) → OneBound a b x q → WorkGoesOn a b
one_goes a b x q s = record {
  bound = (record { variable = x; to = q } ∷ [], s.bound);
  links = ([], s.links ∙ sym (nothing_more a.links.items));
  kept = s.kept;
  vars = s.vars;
  nodes = s.nodes;
  reach = s.reach;
  spare = s.spare;
}

pub bound_work : (bank : List Tree) (a b : Workspace) (x : ℕ) (q : Spot) → OneBound a b x q → (c : MayBind bank a x q) → has_variable x (substitute (resolved bank a.bound.items) (spot_tree bank q)) ≡ false → IsWork bank c.ps c.xs b
bound_work bank a b x q s c apart =
    let new : Bound = record { variable = x; to = q } in
    let w = c.work in
    record {
      parts = subst (λ l. TakePart bank l c.ps c.xs) (sym s.bound)
          (record {
            spots = w.parts.spots;
            arguments = w.parts.arguments;
            followed = followed_both bank c.ps a.bound.items (new ∷ []) w.parts.followed ((λ p i e. c.inside), tt);
            named = w.parts.named;
            bound = λ y i. elim (names_more a.bound.items new y i) [ inl j ↦ w.parts.bound y j | inr e ↦ subst (λ z. In z c.xs) (sym e) c.named ];
          });
      bindings = subst (AreBindings bank) (sym s.bound) (bindings_end bank a.bound.items new w.bindings c.unbound (w.parts.spots q c.inside) c.free c.other apart);
      links = subst (AreLinks bank c.ps []) (sym s.links) w.links;
      kept = subst (AllSpots bank) (sym s.kept) w.kept;
      kept_free = λ y h i.
          let shown : IsShownIn bank a.kept.items y = subst (λ l. IsShownIn bank l y) s.kept h in
          elim (names_more a.bound.items new y (subst (λ l. In y (bound_variables l)) s.bound i)) [
            | inl j ↦ w.kept_free y shown j
            | inr e ↦ c.loose (subst (IsShownIn bank a.kept.items) e shown)
          ];
      vars = subst (λ n. length c.xs ≤ n) (sym s.vars) w.vars;
      nodes = subst (λ n. length c.ps ≤ n) (sym s.nodes) w.nodes;
      reach = subst (λ n. length c.ps ≤ n) (sym s.reach) w.reach;
    }

pub bound_joined : (bank : List Tree) (a b : Workspace) (x : ℕ) (q : Spot) (reached : List Spot) → OneBound a b x q → MayBind bank a x q → IsReach bank a.bound.items q reached → ¬ IsShownIn bank reached x
    → IsJoined bank a b as_high (var x) (spot_tree bank q)
bound_joined bank a b x q reached s c r hidden =
    let new : Bound = record { variable = x; to = q } in
    record {
      works = record { ps = c.ps; xs = c.xs; work = bound_work bank a b x q s c (r.back x hidden) };
      every = λ u f e. record {
        leaving = subst (Leaving u bank) (sym s.kept) f.leaving;
        meets = subst (Meets u bank) (sym s.bound) (meets_both u bank a.bound.items (new ∷ []) f.meets (e, tt));
        joined = subst (AreJoined u bank) (sym s.links) f.joined;
      };
      alike = λ n u m k. alike_same n u (var x) (spot_tree bank q) (meets_behind u bank a.bound.items (new ∷ []) (subst (Meets u bank) s.bound m)).0;
    }

-- a kept variable is made the same as no other kept one, nor as a term that is none
pub kept_apart : (bank : List Tree) (w : Workspace) (x : ℕ) (q : Spot) → MayBindOther bank w x q → IsShownIn bank w.kept.items x → NeverSame bank w (var x) (spot_tree bank q)
kept_apart bank w x q c shown u f e = by (spot_tree bank q) refl (sym (f.leaving x shown) ∙ e)
  where
    by : (t : Tree) → spot_tree bank q ≡ t → var x ≡ substitute u t → ⊥
    by (var y) is h =
        let same : var x ≡ var y = h ∙ f.leaving y (c.firm shown y is) in
        c.other (is ∙ sym same)
    by (elem k) is h = cc
    by (app g ts) is h = cc

pub can_bind : (bank : List Tree) (w : Workspace) (x : ℕ) (q : Spot) → MayBindOther bank w x q → ¬ IsShownIn bank w.kept.items x → MayBind bank w x q
can_bind bank w x q c loose = record { ps = c.ps; xs = c.xs; work = c.work; inside = c.inside; named = c.named; unbound = c.unbound; free = c.free; other = c.other; loose = loose }

-- the other way round
pub joins_back : (bank : List Tree) (a b : Workspace) (s t : Tree) (made : Bool) → Joins bank a b as_high s t made → Joins bank a b as_high t s made
joins_back bank a b s t true j = record { works = j.works; every = λ u f e. j.every u f (sym e); alike = λ n u m k. alike_back n u s t (j.alike n u m k) }
joins_back bank a b s t false j = λ u f e. j u f (sym e)

-- a variable that stands at a spot
pub joins_at : (bank : List Tree) (a b : Workspace) (x : ℕ) (p : Spot) (t : Tree) (made : Bool) → spot_tree bank p ≡ var x → Joins bank a b as_high (var x) t made → Joins bank a b as_high (spot_tree bank p) t made
joins_at bank a b x p t made e j = subst (λ s. Joins bank a b as_high s t made) (sym e) j

-- of a variable and a term that is none
pub bind_other : (bank : List Tree) (w : Workspace) (x : ℕ) (p q : Spot) → CanJoin bank w p q → spot_tree bank p ≡ var x → ¬ (spot_tree bank q ≡ var x)
    → (IsShownIn bank w.kept.items x → (y : ℕ) → spot_tree bank q ≡ var y → IsShownIn bank w.kept.items y) → MayBindOther bank w x q
bind_other bank w x p q c e other firm = record {
  ps = c.ps;
  xs = c.xs;
  work = c.work;
  inside = c.right;
  named = c.work.parts.named p x c.left e;
  unbound = c.left_end.free x e;
  free = λ z h. c.right_end.free z h;
  other = other;
  firm = firm;
}

pub turned : (bank : List Tree) (w : Workspace) (p q : Spot) → CanJoin bank w p q → CanJoin bank w q p
turned bank w p q c = record { ps = c.ps; xs = c.xs; work = c.work; left = c.right; right = c.left; left_end = c.right_end; right_end = c.left_end }

-- one more link
pub record OneLinked (a b : Workspace) (p q : Spot) : Type 0 where
  pub bound : b.bound.items ≡ a.bound.items
  pub links : b.links.items ≡ a.links.items ++ record { from = p; to = q } ∷ []
  pub kept : b.kept.items ≡ a.kept.items
  pub vars : vec_capacity b.bound ≡ vec_capacity a.bound
  pub nodes : vec_capacity b.links ≡ vec_capacity a.links
  pub reach : vec_capacity b.reached ≡ vec_capacity a.reached
  pub spare : vec_capacity b.kept ≡ vec_capacity a.kept

pub linked_goes : (a b : Workspace) (p q : Spot) → OneLinked a b p q → WorkGoesOn a b
linked_goes a b p q s = record {
  bound = ([], s.bound ∙ sym (nothing_more a.bound.items));
  links = (record { from = p; to = q } ∷ [], s.links);
  kept = s.kept;
  vars = s.vars;
  nodes = s.nodes;
  reach = s.reach;
  spare = s.spare;
}

froms_length : (ks : List Link) → length (froms ks) ≡ length ks
froms_length [] = refl
froms_length (k ∷ ks) = ap suc (froms_length ks)

pub link_room : (bank : List Tree) (w : Workspace) (p q : Spot) → CanJoin bank w p q → length w.links.items < vec_capacity w.links
link_room bank w p q c =
    let le = one_more (froms w.links.items) c.ps p (froms_differ bank c.ps [] w.links.items c.work.links) (λ z i. froms_in bank c.ps [] w.links.items z c.work.links i) c.left_end.unlinked c.left in
    omega (arith, le, froms_length w.links.items, c.work.nodes)

pub linked_work : (bank : List Tree) (a b : Workspace) (p q : Spot) → OneLinked a b p q → (c : CanLink bank a p q) → ¬ (p ≡ q) → IsWork bank c.join.ps c.join.xs b
linked_work bank a b p q s c other =
    let new : Link = record { from = p; to = q } in
    let j = c.join in
    let w = j.work in
    record {
      parts = subst (λ l. TakePart bank l j.ps j.xs) (sym s.bound) w.parts;
      bindings = subst (AreBindings bank) (sym s.bound) w.bindings;
      links = subst (AreLinks bank j.ps []) (sym s.links)
          (links_end bank j.ps [] a.links.items new w.links
          (record {
            from_in = j.left;
            to_in = j.right;
            fresh = j.left_end.unlinked;
            onward = λ i. elim (in_cases q (froms a.links.items) (p ∷ []) i) [ inl k ↦ j.right_end.unlinked k | inr k ↦ other (sym (in_last q p k)) ];
            no_from = c.left;
            no_to = c.right;
          }));
      kept = subst (AllSpots bank) (sym s.kept) w.kept;
      kept_free = λ x h i. w.kept_free x (subst (λ l. IsShownIn bank l x) s.kept h) (subst (λ l. In x (bound_variables l)) s.bound i);
      vars = subst (λ n. length j.xs ≤ n) (sym s.vars) w.vars;
      nodes = subst (λ n. length j.ps ≤ n) (sym s.nodes) w.nodes;
      reach = subst (λ n. length j.ps ≤ n) (sym s.reach) w.reach;
    }

pub linked_joined : (bank : List Tree) (a b : Workspace) (p q : Spot) → OneLinked a b p q → CanLink bank a p q → ¬ (p ≡ q) → IsJoined bank a b as_high (spot_tree bank p) (spot_tree bank q)
linked_joined bank a b p q s c other =
    let new : Link = record { from = p; to = q } in
    record {
      works = record { ps = c.join.ps; xs = c.join.xs; work = linked_work bank a b p q s c other };
      every = λ u f e. record {
        leaving = subst (Leaving u bank) (sym s.kept) f.leaving;
        meets = subst (Meets u bank) (sym s.bound) f.meets;
        joined = subst (AreJoined u bank) (sym s.links) (joined_both u bank a.links.items (new ∷ []) f.joined (e, tt));
      };
      alike = λ n u m k. (alike_behind n u bank a.links.items (new ∷ []) (subst (AlikeLinks n u bank) s.links k)).0;
    }

-- what stands for the class of a term
abbrev pub stands : List Tree → Workspace → Spot → Spot
stands bank w p = linked w.links.items (walked bank w.bound.items p)

pub stands_in : (bank : List Tree) (w : Workspace) (ps : List Spot) (xs : List ℕ) (p : Spot) → IsWork bank ps xs w → In p ps → In (stands bank w p) ps
stands_in bank w ps xs p is i = linked_in bank ps [] w.links.items (walked bank w.bound.items p) is.links (walked_in bank ps w.bound.items p is.parts.followed i)

pub stands_end : (bank : List Tree) (w : Workspace) (ps : List Spot) (xs : List ℕ) (p : Spot) → IsWork bank ps xs w → StandsForClass bank w (stands bank w p)
stands_end bank w ps xs p is = record {
  free = λ x e. walked_free bank [] w.bound.items p is.bindings.ordered (λ z h i. i) x (linked_variable bank ps [] w.links.items (walked bank w.bound.items p) x is.links e);
  unlinked = linked_end bank ps [] w.links.items (walked bank w.bound.items p) is.links (λ i. i);
}

stands_alike : (bank : List Tree) (w : Workspace) (p : Spot) (n : ℕ) (u : Substitution) → Meets u bank w.bound.items → AlikeLinks n u bank w.links.items → Alike n u (spot_tree bank p) (spot_tree bank (stands bank w p))
stands_alike bank w p n u m k =
    let v = walked bank w.bound.items p in
    alike_on n u (spot_tree bank p) (spot_tree bank v) (spot_tree bank (linked w.links.items v)) (alike_same n u (spot_tree bank p) (spot_tree bank v) (walked_same u bank w.bound.items p m))
    (linked_alike n u bank w.links.items v k)

stands_same : (bank : List Tree) (w : Workspace) (p : Spot) (u : Substitution) → Fulfils u bank w → substitute u (spot_tree bank p) ≡ substitute u (spot_tree bank (stands bank w p))
stands_same bank w p u f = alike_high u (spot_tree bank p) (spot_tree bank (stands bank w p)) (λ n. stands_alike bank w p n u f.meets (joined_alike n u bank w.links.items f.joined))

pub can_join : (bank : List Tree) (w : Workspace) (s t : Spot) → WorksAt bank w s t → CanJoin bank w (stands bank w s) (stands bank w t)
can_join bank w s t c = record {
  ps = c.ps;
  xs = c.xs;
  work = c.work;
  left = stands_in bank w c.ps c.xs s c.work c.left;
  right = stands_in bank w c.ps c.xs t c.work c.right;
  left_end = stands_end bank w c.ps c.xs s c.work;
  right_end = stands_end bank w c.ps c.xs t c.work;
}

-- more bound and linked
pub meets_before : (u : Substitution) (bank : List Tree) (a b : Workspace) → WorkGoesOn a b → Meets u bank b.bound.items → Meets u bank a.bound.items
meets_before u bank a b g m = meets_first u bank a.bound.items g.bound.0 (subst (Meets u bank) g.bound.1 m)
  where
    meets_first : (u : Substitution) (bank : List Tree) (bs cs : List Bound) → Meets u bank (bs ++ cs) → Meets u bank bs
    meets_first u bank [] cs m = tt
    meets_first u bank (b ∷ bs) cs m = (m.0, meets_first u bank bs cs m.1)

pub alike_before : (n : ℕ) (u : Substitution) (bank : List Tree) (a b : Workspace) → WorkGoesOn a b → AlikeLinks n u bank b.links.items → AlikeLinks n u bank a.links.items
alike_before n u bank a b g k = first a.links.items g.links.0 (subst (AlikeLinks n u bank) g.links.1 k)
  where
    first : (ks js : List Link) → AlikeLinks n u bank (ks ++ js) → AlikeLinks n u bank ks
    first [] js k = tt
    first (l ∷ ks) js k = (k.0, first ks js k.1)

pub merged : (bank : List Tree) (a b : Workspace) (s t : Spot) (made : Bool) → WorkGoesOn a b → Joins bank a b as_high (spot_tree bank (stands bank a s)) (spot_tree bank (stands bank a t)) made
    → Joins bank a b as_high (spot_tree bank s) (spot_tree bank t) made
merged bank a b s t true g j = record {
  works = j.works;
  every = λ u f e. j.every u f (sym (stands_same bank a s u f) ∙ e ∙ stands_same bank a t u f);
  alike = λ n u m k.
      let m0 = meets_before u bank a b g m in
      let k0 = alike_before n u bank a b g k in
      let p = spot_tree bank (stands bank a s) in
      let q = spot_tree bank (stands bank a t) in
      alike_on n u (spot_tree bank s) p (spot_tree bank t) (stands_alike bank a s n u m0 k0)
      (alike_on n u p q (spot_tree bank t) (j.alike n u m k) (alike_back n u (spot_tree bank t) q (stands_alike bank a t n u m0 k0)));
}
merged bank a b s t false g j = λ u f e. j u f (sym (stands_same bank a s u f) ∙ e ∙ stands_same bank a t u f)

pub can_join_at : (bank : List Tree) (w : Workspace) (s t p q : Spot) → WorksAt bank w s t → p ≡ stands bank w s → q ≡ stands bank w t → CanJoin bank w p q
can_join_at bank w s t p q c e h = subst (λ r. CanJoin bank w r q) (sym e) (subst (λ r. CanJoin bank w (stands bank w s) r) (sym h) (can_join bank w s t c))

pub merged_at : (bank : List Tree) (a b : Workspace) (s t p q : Spot) (made : Bool) → WorkGoesOn a b → p ≡ stands bank a s → q ≡ stands bank a t → Joins bank a b as_high (spot_tree bank p) (spot_tree bank q) made
    → Joins bank a b as_high (spot_tree bank s) (spot_tree bank t) made
merged_at bank a b s t p q made g e h j =
    merged bank a b s t made g (subst (λ r. Joins bank a b as_high (spot_tree bank (stands bank a s)) (spot_tree bank r) made) h (subst (λ r. Joins bank a b as_high (spot_tree bank r) (spot_tree bank q) made) e j))

-- a term and a variable that is bound to it
pub joins_turned : (bank : List Tree) (a b : Workspace) (y : ℕ) (p q : Spot) (made : Bool) → spot_tree bank q ≡ var y → Joins bank a b as_high (var y) (spot_tree bank p) made
    → Joins bank a b as_high (spot_tree bank p) (spot_tree bank q) made
joins_turned bank a b y p q made e j = joins_back bank a b (spot_tree bank q) (spot_tree bank p) made (joins_at bank a b y q (spot_tree bank p) made e j)
