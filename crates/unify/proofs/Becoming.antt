-- What terms become, in a bank that grows.
use Rattle.std.proofs.Common.{◌≡◌, inl, inr, ℕ, zero, suc, ◌+◌, ◌<◌, ◌≤◌, Bool, true, false, IsTrue, List, [], ◌∷◌, ◌++◌, map, take, length, get_or, refl, sym, ap, ap₂, ◌∙◌, subst, arith}
use Rattle.std.proofs.lemmas.Bool.{eq-eqb, or_left, or_right}
use Rattle.fol_core.specs.Substitutions.{Substitution, substitute, substitute_all}
use Rattle.fol_core.specs.Tree.{Tree, var, elem, app, Trees, none, more, trees_of}
use Rattle.substitutions.specs.Occurring.{has_variable, have_variable}
use Rattle.term_bank.specs.Bank.{tree_at, IsAt, Grows}
use Rattle.term_bank.specs.Cells.{AreNumbersBelow, numbers}
use Rattle.term_bank.specs.declared.id.TermId.{TermId}
use Rattle.term_bank.proofs.Building.{grows_at, grows_length, below_more, grows_on}
use Rattle.unify.specs.Bindings.{with_binding, resolved_from, resolved, IsSpot, AreSpots, bound_variables, PointsOn, AreBindings}
use Rattle.unify.specs.Instanced.{IsBuilt, AreBuilt, IsLoose, AreLoose, IsBuilding, AreTheirs, TheirsUnless, ArgumentSpots}
use Rattle.unify.specs.Reaches.{becomes}
use Rattle.unify.specs.Spots.{raised, spot_tree, spot, In}
use Rattle.unify.specs.Steps.{walked, same_spot}
use Rattle.unify.specs.declared.spot.Bound.{Bound}
use Rattle.unify.specs.declared.spot.Image.{Image}
use Rattle.unify.specs.declared.spot.Spot.{Spot}
use Rattle.unify.proofs.Closing.{placed, take_more, in_at}
use Rattle.unify.proofs.Lists.{in_front, in_behind, in_cases, in_last}
use Rattle.unify.proofs.Solutions.{solved}
use Rattle.unify.proofs.Stays.{tree_stays, spot_stays, bindings_stay}
use Rattle.unify.proofs.Walks.{walked_same, walked_free, spot_iff}

resolved_stays : (s : Substitution) (old new : List Tree) (bs : List Bound) → Grows old new → AreSpots old bs → resolved_from s new bs ≡ resolved_from s old bs
resolved_stays s old new [] g h = refl
resolved_stays s old new (b ∷ bs) g h =
    ap (λ t. resolved_from (with_binding s b.variable t) new bs) (tree_stays old new b.to g h.0) ∙ resolved_stays (with_binding s b.variable (spot_tree old b.to)) old new bs g h.1

pub becomes_stays : (old new : List Tree) (bs : List Bound) (p : Spot) → Grows old new → AreSpots old bs → IsSpot old p → becomes new bs p ≡ becomes old bs p
becomes_stays old new bs p g h is = ap₂ (λ (s : Substitution) (t : Tree). substitute s t) (resolved_stays var old new bs g h) (tree_stays old new p g is)

at_stays : (old new : List Tree) (n : ℕ) (t : Tree) → Grows old new → IsAt old n t → IsAt new n t
at_stays old new n t g a =
    let le = grows_length old new g in
    record { within = omega (arith, a.within, le); tree = grows_at old new g n a.within ∙ a.tree }

built_stays : (old new : List Tree) (bs : List Bound) (m : Image) → Grows old new → AreSpots old bs → IsBuilt old bs m → IsBuilt new bs m
built_stays old new bs m g h b = record {
  spot = spot_stays old new m.spot g b.spot;
  term = subst (IsAt new m.term.0) (sym (becomes_stays old new bs m.spot g h b.spot)) (at_stays old new m.term.0 (becomes old bs m.spot) g b.term);
}

loose_stays : (old new : List Tree) (bs : List Bound) (p : Spot) → Grows old new → IsLoose old bs p → IsLoose new bs p
loose_stays old new bs p g l = record { spot = spot_stays old new p g l.spot; free = λ x e. l.free x (sym (tree_stays old new p g l.spot) ∙ e) }

pub building_stays : (old new : List Tree) (bs : List Bound) (ms : List Image) (ps : List Spot) → Grows old new → IsBuilding old bs ms ps → IsBuilding new bs ms ps
building_stays old new bs ms ps g b = record {
  bindings = bindings_stay old new bs g b.bindings;
  built = λ m i. built_stays old new bs m g b.bindings.spots (b.built m i);
  loose = λ p i. loose_stays old new bs p g (b.loose p i);
}

-- one more node built
pub one_built : (old new : List Tree) (bs : List Bound) (ms ns : List Image) (ps : List Spot) (p : Spot) (k : TermId) → Grows old new → IsBuilding old bs ms ps → IsSpot old p → IsAt new k.0 (becomes old bs p)
    → ns ≡ ms ++ record { spot = p; term = k } ∷ [] → IsBuilding new bs ns ps
one_built old new bs ms ns ps p k g b is at e =
    let c = building_stays old new bs ms ps g b in
    let new_image : Image = record { spot = p; term = k } in
    let built : IsBuilt new bs new_image = record { spot = spot_stays old new p g is; term = subst (IsAt new k.0) (sym (becomes_stays old new bs p g b.bindings.spots is)) at } in
    record {
      bindings = c.bindings;
      built = λ m i. elim (in_cases m ms (new_image ∷ []) (subst (In m) e i)) [ inl j ↦ c.built m j | inr j ↦ subst (IsBuilt new bs) (sym (in_last m new_image j)) built ];
      loose = c.loose;
    }

pub other_pending : (bank : List Tree) (bs : List Bound) (ms : List Image) (ps qs : List Spot) → IsBuilding bank bs ms ps → AreLoose bank bs qs → IsBuilding bank bs ms qs
other_pending bank bs ms ps qs b l = record { bindings = b.bindings; built = b.built; loose = l }

pub walked_loose : (bank : List Tree) (bs : List Bound) (p q : Spot) → AreBindings bank bs → q ≡ walked bank bs p → IsSpot bank q → IsLoose bank bs q
walked_loose bank bs p q are e is = record { spot = is; free = subst (PointsOn bank (bound_variables bs)) (sym e) (walked_free bank [] bs p are.ordered (λ x h i. i)) }

pub one_loose : (bank : List Tree) (bs : List Bound) (ps qs : List Spot) (q : Spot) → AreLoose bank bs ps → IsLoose bank bs q → qs ≡ ps ++ q ∷ [] → AreLoose bank bs qs
one_loose bank bs ps qs q l is e = λ p i. elim (in_cases p ps (q ∷ []) (subst (In p) e i)) [ inl j ↦ l p j | inr j ↦ subst (IsLoose bank bs) (sym (in_last p q j)) is ]

pub less_loose : (bank : List Tree) (bs : List Bound) (ps qs : List Spot) (q : Spot) → AreLoose bank bs ps → ps ≡ qs ++ q ∷ [] → AreLoose bank bs qs
less_loose bank bs ps qs q l e = λ p i. l p (subst (In p) (sym e) (in_front p qs (q ∷ []) i))

-- what is walked to becomes the same
pub walked_becomes : (bank : List Tree) (bs : List Bound) (p q : Spot) → AreBindings bank bs → q ≡ walked bank bs p → becomes bank bs q ≡ becomes bank bs p
walked_becomes bank bs p q are e = ap (becomes bank bs) e ∙ sym (walked_same (resolved bank bs) bank bs p (solved bank bs are).meets)

pub image_is : (bank : List Tree) (bs : List Bound) (ms : List Image) (ps : List Spot) (p q : Spot) (k : TermId) → IsBuilding bank bs ms ps → q ≡ walked bank bs p → In (record { spot = q; term = k }) ms
    → IsAt bank k.0 (becomes bank bs p)
image_is bank bs ms ps p q k b e i =
    let m : Image = record { spot = q; term = k } in
    subst (IsAt bank k.0) (walked_becomes bank bs p q b.bindings e) (b.built m i).term

pub variable_becomes : (bank : List Tree) (bs : List Bound) (p : Spot) (x : ℕ) → AreBindings bank bs → IsLoose bank bs p → var x ≡ tree_at bank p.term.0 → becomes bank bs p ≡ var (x + p.context)
variable_becomes bank bs p x are l e =
    let is : spot_tree bank p ≡ var (x + p.context) = ap (substitute (raised p.context)) (sym e) in
    ap (substitute (resolved bank bs)) is ∙ (solved bank bs are).free (x + p.context) (l.free (x + p.context) is)

pub element_becomes : (bank : List Tree) (bs : List Bound) (p : Spot) (k : ℕ) → IsLoose bank bs p → elem k ≡ tree_at bank p.term.0 → IsAt bank p.term.0 (becomes bank bs p)
element_becomes bank bs p k l e = record { within = l.spot.within; tree = sym e ∙ sym (ap (λ t. substitute (resolved bank bs) (substitute (raised p.context) t)) (sym e)) }

each_becomes : (bank : List Tree) (bs : List Bound) (i : ℕ) (ks : List TermId) → substitute_all (resolved bank bs) (placed bank i ks) ≡ trees_of (map (λ k. becomes bank bs (spot k i)) ks)
each_becomes bank bs i [] = refl
each_becomes bank bs i (k ∷ ks) = ap (more (becomes bank bs (spot k i))) (each_becomes bank bs i ks)

pub application_becomes : (old new : List Tree) (bs : List Bound) (p : Spot) (f : ℕ) (ks js : List TermId) (m : ℕ) → app f (trees_of (map (λ k. tree_at old k.0) ks)) ≡ tree_at old p.term.0 → AreTheirs old bs p.context ks js
    → IsAt new m (app f (trees_of (map (λ k. tree_at old k.0) js))) → IsAt new m (becomes old bs p)
application_becomes old new bs p f ks js m e theirs at =
    let whole : becomes old bs p ≡ app f (substitute_all (resolved old bs) (placed old p.context ks)) = ap (λ t. substitute (resolved old bs) (substitute (raised p.context) t)) (sym e) in
    subst (IsAt new m) (ap (λ ts. app f (trees_of ts)) theirs.trees ∙ sym (ap (app f) (each_becomes old bs p.context ks)) ∙ sym whole) at

has_member : (bank : List Tree) (x : ℕ) (k : TermId) (ks : List TermId) → In k ks → IsTrue (has_variable x (tree_at bank k.0)) → IsTrue (have_variable x (trees_of (map (λ j. tree_at bank j.0) ks)))
has_member bank x k [] i h = absurd i
has_member bank x k (j ∷ ks) (inl e) h =
    or_left (has_variable x (tree_at bank j.0)) (have_variable x (trees_of (map (λ l. tree_at bank l.0) ks))) (subst (λ (l : TermId). IsTrue (has_variable x (tree_at bank l.0))) e h)
has_member bank x k (j ∷ ks) (inr i) h = or_right (has_variable x (tree_at bank j.0)) (have_variable x (trees_of (map (λ l. tree_at bank l.0) ks))) (has_member bank x k ks i h)

below_one : (n : ℕ) (k : TermId) (ks : List TermId) → AreNumbersBelow n (numbers ks) → In k ks → k.0 < n
below_one n k [] b i = absurd i
below_one n k (j ∷ ks) b (inl e) = subst (λ (m : TermId). m.0 < n) (sym e) b.0
below_one n k (j ∷ ks) b (inr i) = below_one n k ks b.1 i

pub argument_spots : (bank : List Tree) (p : Spot) (f : ℕ) (ks : List TermId) → IsSpot bank p → app f (trees_of (map (λ k. tree_at bank k.0) ks)) ≡ tree_at bank p.term.0 → AreNumbersBelow p.term.0 (numbers ks)
    → ArgumentSpots bank p.context ks
argument_spots bank p f ks is e below k i = record {
  within = (let lt = below_one p.term.0 k ks below i in omega (arith, lt, is.within));
  fits = λ x h. is.fits x (subst (λ t. IsTrue (has_variable x t)) e (has_member bank x k ks i h));
}

pub theirs_none : (bank : List Tree) (bs : List Bound) (i : ℕ) → AreTheirs bank bs i [] []
theirs_none bank bs i = record { within = tt; trees = refl }

theirs_end : (bank : List Tree) (bs : List Bound) (i : ℕ) (ks js : List TermId) (k j : TermId) → AreTheirs bank bs i ks js → IsAt bank j.0 (becomes bank bs (spot k i)) → AreTheirs bank bs i (ks ++ k ∷ []) (js ++ j ∷ [])
theirs_end bank bs i ks js k j t at = record {
  within = within_end js t.within;
  trees = maps_end (λ l. tree_at bank l.0) js j ∙ ap₂ (λ us u. us ++ u ∷ []) t.trees at.tree ∙ sym (maps_end (λ l. becomes bank bs (spot l i)) ks k);
}
  where
    within_end : (ls : List TermId) → AreNumbersBelow (length bank) (numbers ls) → AreNumbersBelow (length bank) (numbers (ls ++ j ∷ []))
    within_end [] h = (at.within, tt)
    within_end (l ∷ ls) h = (h.0, within_end ls h.1)

    maps_end : (f : TermId → Tree) (ls : List TermId) (l : TermId) → map f (ls ++ l ∷ []) ≡ map f ls ++ f l ∷ []
    maps_end f [] l = refl
    maps_end f (m ∷ ls) l = ap (λ us. f m ∷ us) (maps_end f ls l)

pub theirs_next : (bank : List Tree) (bs : List Bound) (i n : ℕ) (ks js ls : List TermId) (d j : TermId) → n < length ks → AreTheirs bank bs i (take n ks) js → IsAt bank j.0 (becomes bank bs (spot (get_or ks n d) i))
    → ls ≡ js ++ j ∷ [] → AreTheirs bank bs i (take (n + 1) ks) ls
theirs_next bank bs i n ks js ls d j lt t at e =
    subst (λ ms. AreTheirs bank bs i ms ls) (sym (take_more ks n d lt)) (subst (AreTheirs bank bs i (take n ks ++ get_or ks n d ∷ [])) (sym e) (theirs_end bank bs i (take n ks) js (get_or ks n d) j t at))

pub final_term : (old new : List Tree) (bs : List Bound) (ms : List Image) (ps : List Spot) (root first : Spot) (k : TermId) → Grows old new → AreBindings old bs → IsSpot old first → IsBuilding new bs ms ps → first ≡ walked old bs root
    → In (record { spot = first; term = k }) ms → IsAt new k.0 (becomes old bs root)
final_term old new bs ms ps root first k g are is b e i =
    let m : Image = record { spot = first; term = k } in
    subst (IsAt new k.0) (becomes_stays old new bs first g are.spots is ∙ walked_becomes old bs root first are e) (b.built m i).term

pub start_building : (bank : List Tree) (bs : List Bound) (ps : List Spot) (root first : Spot) → AreBindings bank bs → first ≡ walked bank bs root → IsSpot bank first → ps ≡ first ∷ [] → IsBuilding bank bs [] ps
start_building bank bs ps root first are e is s = record {
  bindings = are;
  built = λ m i. absurd i;
  loose = λ p i. subst (IsLoose bank bs) (sym (in_last p first (subst (In p) s i))) (walked_loose bank bs root first are e is);
}

-- one more node, by what was chosen for it
pub built_next : (old new mid : List Tree) (bs : List Bound) (ms ns : List Image) (ps qs : List Spot) (p : Spot) (k j : TermId) → new ≡ mid → qs ≡ ps → k ≡ j → Grows old mid → IsBuilding old bs ms ps → IsSpot old p
    → IsAt mid j.0 (becomes old bs p) → ns ≡ ms ++ record { spot = p; term = k } ∷ [] → IsBuilding new bs ns qs
built_next old new mid bs ms ns ps qs p k j en eq ek g b is at e =
    subst (λ bank. IsBuilding bank bs ns qs) (sym en)
    (subst (λ (l : List Spot). IsBuilding mid bs ns l) (sym eq)
    (one_built old mid bs ms ns ps p k g b is (subst (λ (i : TermId). IsAt mid i.0 (becomes old bs p)) (sym ek) at) e))

pub variable_at : (old new : List Tree) (bs : List Bound) (p : Spot) (x m : ℕ) → AreBindings old bs → IsLoose old bs p → var x ≡ tree_at old p.term.0 → IsAt new m (var (x + p.context)) → IsAt new m (becomes old bs p)
variable_at old new bs p x m are l e at = subst (IsAt new m) (sym (variable_becomes old bs p x are l e)) at

pub found_image : (qs ms : List Image) (n : ℕ) (p : Spot) (d : Image) → qs ≡ ms → n < length qs → true ≡ same_spot (get_or qs n d).spot p → In (record { spot = p; term = (get_or qs n d).term }) ms
found_image qs ms n p d e lt h =
    let m : Image = get_or qs n d in
    let same : m.spot ≡ p = (spot_iff m.spot p).0 (sym h) in
    subst (λ (l : List Image). In (record { spot = p; term = m.term }) l) e (subst (λ (r : Spot). In (record { spot = r; term = m.term }) qs) same (in_at qs n d lt))

pub theirs_more : (bank : List Tree) (bs : List Bound) (i n : ℕ) (ks js ls : List TermId) (d j : TermId) (before after : Bool) → n < length ks → TheirsUnless bank bs i (take n ks) js before
    → IsAt bank j.0 (becomes bank bs (spot (get_or ks n d) i)) → ls ≡ js ++ j ∷ [] → after ≡ before → TheirsUnless bank bs i (take (n + 1) ks) ls after
theirs_more bank bs i n ks js ls d j before after lt t at e same = subst (TheirsUnless bank bs i (take (n + 1) ks) ls) (sym same) (by before t)
  where
    by : (b : Bool) → TheirsUnless bank bs i (take n ks) js b → TheirsUnless bank bs i (take (n + 1) ks) ls b
    by true h = tt
    by false h = theirs_next bank bs i n ks js ls d j lt h at e

pub theirs_lack : (bank : List Tree) (bs : List Bound) (i : ℕ) (ks js : List TermId) (after : Bool) → after ≡ true → TheirsUnless bank bs i ks js after
theirs_lack bank bs i ks js after e = subst (TheirsUnless bank bs i ks js) (sym e) tt

pub start_at : (bank : List Tree) (bs : List Bound) (ms : List Image) (qs ps : List Spot) (root first : Spot) → AreBindings bank bs → first ≡ walked bank bs root → IsSpot bank first → ms ≡ [] → qs ≡ [] → ps ≡ qs ++ first ∷ [] → IsBuilding bank bs ms ps
start_at bank bs ms qs ps root first are e is empty clear s =
    subst (λ (l : List Image). IsBuilding bank bs l ps) (sym empty) (start_building bank bs ps root first are e is (s ∙ ap (λ l. l ++ first ∷ []) clear))

pub next_loose : (bank : List Tree) (bs : List Bound) (ms : List Image) (ps qs : List Spot) (p : Spot) → IsBuilding bank bs ms ps → ps ≡ qs ++ p ∷ [] → IsLoose bank bs p
next_loose bank bs ms ps qs p b e = b.loose p (subst (In p) (sym e) (in_behind p qs (p ∷ []) (inl refl)))

pub moved : (old mid new : List Tree) (bs : List Bound) (ms ns : List Image) (ps qs : List Spot) → new ≡ mid → ns ≡ ms → qs ≡ ps → Grows old mid → IsBuilding mid bs ms ps → Grows old new × IsBuilding new bs ns qs
moved old mid new bs ms ns ps qs e f h g b = (
  subst (Grows old) (sym e) g,
  subst (λ bank. IsBuilding bank bs ns qs) (sym e) (subst (λ (l : List Image). IsBuilding mid bs l qs) (sym f) (subst (λ (l : List Spot). IsBuilding mid bs ms l) (sym h) b)),
)

pub less_pending : (bank : List Tree) (bs : List Bound) (ms : List Image) (ps qs : List Spot) (q : Spot) → IsBuilding bank bs ms ps → ps ≡ qs ++ q ∷ [] → IsBuilding bank bs ms qs
less_pending bank bs ms ps qs q b e = other_pending bank bs ms ps qs b (less_loose bank bs ps qs q b.loose e)
