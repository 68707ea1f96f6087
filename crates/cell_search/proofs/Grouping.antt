-- Groups that get more ways.
use Rattle.std.proofs.Common.{◌≡◌, ℕ, zero, suc, ◌+◌, ◌<◌, ◌==◌, ◌^◌, Bool, true, false, if◌then◌else◌, MatchBool, List, [], ◌∷◌, ◌++◌, length, map, get_or, set, Option, None, Some, inl, inr, refl, sym, ap, ◌∙◌, subst, arith}
use Rattle.std.proofs.lemmas.Bool.{eqb-true, eqb-false}
use Rattle.std.proofs.lemmas.List.{get_or_append_left, get_or_default, get_or-map, get_or_push, get_or-set_same, get_or-set_other, length-append, length-set}
use Rattle.std.proofs.lemmas.Option.{none-some}
use Rattle.fol_core.specs.Literals.{ClauseTree, equality}
use Rattle.fol_core.specs.Tree.{Tree, var, elem, app, Trees, none, more}
use Rattle.fol_core.specs.declared.symbols.Kind.{Kind}
use Rattle.fol_core.specs.declared.symbols.Kind.TheVariants.{Relation}
use Rattle.mace_cells.specs.World.{World}
use Rattle.mace_ground.specs.Cells.{Block, found, found_from}
use Rattle.plain_search.specs.Lefts.{IsAmong}
use Rattle.cell_search.specs.Ways.{IsWalkOf, HasWalk, EachIn, EachOf, EachInAtom, EachInClause, HasWalkOf, GroupsGrow, AreGroups, first_with, firsts_of}
use Rattle.cell_search.specs.declared.walk.Group.{Group}
use Rattle.cell_search.specs.declared.walk.Walk.{Walk}

pub grow_none : (gs : List Group) → GroupsGrow gs gs
grow_none gs = record {
  many = refl;
  firsts = refl;
  each = λ at g h inside gi hi place walk within is.
      let same : g ≡ h = gi ∙ get_or_default gs at g h inside ∙ sym hi in
      subst (λ (u : Group). (place < length u.walks.items) × (walk ≡ get_or u.walks.items place walk)) same (within, is);
}

pub grow_on : (gs us hs : List Group) → GroupsGrow gs us → GroupsGrow us hs → GroupsGrow gs hs
grow_on gs us hs a b = record {
  many = b.many ∙ a.many;
  firsts = b.firsts ∙ a.firsts;
  each = λ at g h inside gi hi place walk within is.
      let inside_u : at < length us = let long = a.many in omega (arith, inside, long) in
      let ui = get_or_default us at g (get_or us at g) inside_u in
      let first = a.each at g (get_or us at g) inside gi ui place walk within is in
      b.each at (get_or us at g) h inside_u ui hi place walk first.0 first.1;
}

pub groups_still : (w : World) (gs hs : List Group) → GroupsGrow gs hs → AreGroups w gs → AreGroups w hs
groups_still w gs hs grow are = grow.firsts ∙ are

has_still : (n : ℕ) (gs hs : List Group) → GroupsGrow gs hs → (first i many : ℕ) (kind : Kind) (s : ℕ) (ts : Trees) → HasWalk n gs first i many kind s ts → HasWalk n hs first i many kind s ts
has_still n gs hs grow first i many kind s ts h =
    let g = h.group in
    let inside : h.at < length hs = let long = grow.many in let within = h.within in omega (arith, within, long) in
    let there = get_or_default hs h.at g (get_or hs h.at g) inside in
    let still = grow.each h.at g (get_or hs h.at g) h.within h.there there h.place h.walk h.inside h.here in record {
      group = get_or hs h.at g;
      at = h.at;
      within = inside;
      there = there;
      begins =
          sym (get_or-map (λ (u : Group). u.first) hs h.at g 0 inside) ∙ ap (λ (ks : List ℕ). get_or ks h.at 0) grow.firsts ∙ get_or-map (λ (u : Group). u.first) gs h.at g 0 h.within
          ∙ ap (λ (u : Group). u.first) (sym h.there) ∙ h.begins;
      walk = h.walk;
      place = h.place;
      inside = still.0;
      here = still.1;
      way = h.way;
    }

-- what holds of each occurrence, and what follows from it
module _ (P Q : Kind → ℕ → Trees → Type 0) (f : (kind : Kind) (s : ℕ) (ts : Trees) → P kind s ts → Q kind s ts) where
  mutual
    pub each_in : (t : Tree) → EachIn P t → EachIn Q t
    each_in (var x) h = tt
    each_in (elem k) h = tt
    each_in (app s ts) h = (f _ s ts h.0, each_of ts h.1)

    pub each_of : (ts : Trees) → EachOf P ts → EachOf Q ts
    each_of none h = tt
    each_of (more t ts) h = (each_in t h.0, each_of ts h.1)

  pub each_atom : (t : Tree) → EachInAtom P t → EachInAtom Q t
  each_atom (var x) h = tt
  each_atom (elem k) h = tt
  each_atom (app r ts) h = by (r == equality) h
    where
      by : (b : Bool) → MatchBool b (EachOf P ts) (P Relation r ts × EachOf P ts) → MatchBool b (EachOf Q ts) (Q Relation r ts × EachOf Q ts)
      by true g = each_of ts g
      by false g = (f Relation r ts g.0, each_of ts g.1)

  pub each_clause : (ls : ClauseTree) → EachInClause P ls → EachInClause Q ls
  each_clause [] h = tt
  each_clause (l ∷ ls) h = (each_atom l.atom h.0, each_clause ls h.1)

pub walks_still : (w : World) (gs hs : List Group) → GroupsGrow gs hs → (i many : ℕ) (kind : Kind) (s : ℕ) (ts : Trees) → HasWalkOf w gs i many kind s ts → HasWalkOf w hs i many kind s ts
walks_still w gs hs grow i many kind s ts h = λ first b found. has_still w.size gs hs grow first i many kind s ts (h first b found)

-- a group gets one more way
first_set : (gs : List Group) (at : ℕ) (g h : Group) → at < length gs → g ≡ get_or gs at g → h.first ≡ g.first → map (λ (u : Group). u.first) (set gs at h) ≡ map (λ (u : Group). u.first) gs
first_set [] at g h inside is same = refl
first_set (u ∷ us) zero g h inside is same = ap (λ (k : ℕ). k ∷ map (λ (u : Group). u.first) us) (same ∙ ap (λ (v : Group). v.first) is)
first_set (u ∷ us) (suc at) g h inside is same = ap (λ (ks : List ℕ). u.first ∷ ks) (first_set us at g h (omega (arith, inside)) is same)

module _ (gs hs : List Group) (at : ℕ) (g h : Group) (walk : Walk) (inside : at < length gs) (is : g ≡ get_or gs at g) (now : hs ≡ set gs at h) (first : h.first ≡ g.first) (more_is : h.walks.items ≡ g.walks.items ++ walk ∷ []) where
  many_same : length hs ≡ length gs
  many_same = ap (λ (us : List Group). length us) now ∙ length-set gs at h

  here_now : (d : Group) → get_or hs at d ≡ h
  here_now d = ap (λ (us : List Group). get_or us at d) now ∙ get_or-set_same gs at h d inside

  pub pushed : GroupsGrow gs hs
  pushed = record {
    many = many_same;
    firsts = ap (λ (us : List Group). map (λ (u : Group). u.first) us) now ∙ first_set gs at g h inside is first;
    each = λ k u v within ui vi place other small there. by k u v within ui vi place other small there (k == at) refl;
  }
    where
      by : (k : ℕ) (u v : Group) → k < length gs → u ≡ get_or gs k u → v ≡ get_or hs k v → (place : ℕ) (other : Walk) → place < length u.walks.items → other ≡ get_or u.walks.items place other → (b : Bool) → (k == at) ≡ b
          → (place < length v.walks.items) × (other ≡ get_or v.walks.items place other)
      by k u v within ui vi place other small there true e =
          let same : k ≡ at = eqb-true k at e in
          let u_is : u ≡ g = ui ∙ ap (λ (n : ℕ). get_or gs n u) same ∙ get_or_default gs at u g inside ∙ sym is in
          let v_is : v ≡ h = vi ∙ ap (λ (n : ℕ). get_or hs n v) same ∙ here_now v in
          let ways : v.walks.items ≡ u.walks.items ++ walk ∷ [] = ap (λ (x : Group). x.walks.items) v_is ∙ more_is ∙ ap (λ (x : Group). x.walks.items ++ walk ∷ []) (sym u_is) in
          let long = length-append u.walks.items (walk ∷ []) in
          subst (λ (ws : List Walk). (place < length ws) × (other ≡ get_or ws place other)) (sym ways)
          (omega (arith, small, long), there ∙ sym (get_or_append_left u.walks.items (walk ∷ []) other place small))
      by k u v within ui vi place other small there false e =
          let same : v ≡ u = vi ∙ ap (λ (us : List Group). get_or us k v) now ∙ get_or-set_other gs at k h v (eqb-false k at e) ∙ get_or_default gs k v u within ∙ sym ui in
          subst (λ (x : Group). (place < length x.walks.items) × (other ≡ get_or x.walks.items place other)) (sym same) (small, there)

  pub pushed_has : (n k i many : ℕ) (kind : Kind) (s : ℕ) (ts : Trees) → g.first ≡ k → IsWalkOf n i many kind s ts walk → HasWalk n hs k i many kind s ts
  pushed_has n k i many kind s ts begins way =
      let long = length-append g.walks.items (walk ∷ []) in record {
        group = h;
        at = at;
        within = omega (arith, inside, many_same);
        there = sym (here_now h);
        begins = first ∙ begins;
        walk = walk;
        place = length g.walks.items;
        inside = subst (λ (ws : List Walk). length g.walks.items < length ws) (sym more_is) (omega (arith, long));
        here = sym (ap (λ (ws : List Walk). get_or ws (length g.walks.items) walk) more_is ∙ get_or_push g.walks.items walk walk (length g.walks.items) refl);
        way = way;
      }

-- the group of a symbol that has cells is there
pub first_there : (n k : ℕ) (find : ℕ → Option (ℕ × Block)) (bs : List Block) (s first : ℕ) (b : Block) → found_from n k bs s ≡ Some (first, b) → find s ≡ Some (first, b) → IsAmong first (firsts_of find bs)
first_there n k find [] s first b h whole = absurd (none-some _ h)
first_there n k find (c ∷ bs) s first b h whole = by (s == c.symbol) refl h (λ g. first_there n (k + n ^ c.arity) find bs s first b g whole)
  where
    behind : (o : Option (ℕ × Block)) (ks : List ℕ) → IsAmong first ks → IsAmong first (first_with o ks)
    behind None ks i = i
    behind (Some q) ks i = inr i

    by : (t : Bool) → (s == c.symbol) ≡ t → (if t then Some (k, c) else found_from n (k + n ^ c.arity) bs s) ≡ Some (first, b)
        → (found_from n (k + n ^ c.arity) bs s ≡ Some (first, b) → IsAmong first (firsts_of find bs)) → IsAmong first (first_with (find c.symbol) (firsts_of find bs))
    by true e g rest =
        let same : find c.symbol ≡ Some (first, b) = ap find (sym (eqb-true s c.symbol e)) ∙ whole in
        subst (λ (o : Option (ℕ × Block)). IsAmong first (first_with o (firsts_of find bs))) (sym same) (inl refl)
    by false e g rest = behind (find c.symbol) (firsts_of find bs) (rest g)

pub among_index : (x : ℕ) (xs : List ℕ) → IsAmong x xs → (k : ℕ) × ((k < length xs) × (get_or xs k 0 ≡ x))
among_index x [] i = absurd i
among_index x (y ∷ ys) (inl e) = (0, (omega arith, sym e))
among_index x (y ∷ ys) (inr i) = let r = among_index x ys i in (suc r.0, ((let less = r.1.0 in omega (arith, less)), r.1.1))
