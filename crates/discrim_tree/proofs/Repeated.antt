-- Terms in which a variable stands twice.
use Rattle.std.proofs.Common.{◌≡◌, ℕ, suc, ◌+◌, ◌-◌, ◌*◌, ◌/◌, ◌%◌, ◌<◌, ◌≤◌, ◌==◌, Bool, true, false, IsTrue, if◌then◌else◌, refl, sym, ap, ap₂, ◌∙◌, subst, List, [], ◌∷◌, ◌++◌, Option, Some, None, option_and_then, unwrap_or, drop, length, get_or, arith, append_assoc, append-nil, eqb-true, eq-eqb, add-mul, mul_assoc, mul_left_comm}
use Rattle.std.proofs.lemmas.Bool.{ne_eqb}
use Rattle.std.proofs.lemmas.List.{drop_all}
use Rattle.fol_core.specs.Substitutions.{Substitution, substitute, substitute_all}
use Rattle.fol_core.specs.Tree.{Tree, var, elem, app, Trees, none, more, trees_of}
use Rattle.substitutions.specs.Paths.{argument, part_at}
use Rattle.discrim_tree.specs.Fitting.{Fits, FitAll}
use Rattle.discrim_tree.specs.Laws.{RepeatsDecide}
use Rattle.discrim_tree.specs.Linear.{passes_linear}
use Rattle.discrim_tree.specs.Places.{at_place, at_argument, occurrences, all_occurrences, next_place, repeats, repeated, with_repeat, AreAlike, AreNarrow, IsNarrow}
use Rattle.discrim_tree.specs.Seeking.{fits_above, passes}
use Rattle.discrim_tree.specs.Terms.{has_instance}
use Rattle.discrim_tree.specs.declared.once.Occurrence.{Occurrence}
use Rattle.discrim_tree.specs.declared.once.Repeat.{Repeat}
use Rattle.discrim_tree.specs.declared.sought.Sought.{Sought}
use Rattle.discrim_tree.specs.declared.sought.Sought.TheVariants.{Generalizations, Instances, Unifiable}
use Rattle.discrim_tree.proofs.Finding.{drop_next}
use Rattle.discrim_tree.proofs.Linear.{linear_fitted}
use Rattle.discrim_tree.proofs.Placing.{clash}
use Rattle.discrim_tree.proofs.Terms.{instances_are_made}

-- ---- parts at places

pub at_start : (t : Tree) → at_place t 0 ≡ Some t
at_start (var x) = refl
at_start (elem k) = refl
at_start (app f ts) = refl

in_argument : (ts : Trees) (k place : ℕ) → at_argument ts k place ≡ option_and_then (λ u. at_place u place) (argument ts k)
in_argument none k place = refl
in_argument (more t ts) k place = by (k == 1) (in_argument ts (k - 1) place)
  where
    by : (b : Bool) → at_argument ts (k - 1) place ≡ option_and_then (λ u. at_place u place) (argument ts (k - 1))
        → (if b then at_place t place else at_argument ts (k - 1) place) ≡ option_and_then (λ u. at_place u place) (if b then Some t else argument ts (k - 1))
    by true rest = refl
    by false rest = rest

inside : (t : Tree) (place : ℕ) → 0 < place → at_place t place ≡ option_and_then (λ u. at_place u (place / 16)) (part_at t (place % 16))
inside (var x) place h = ap (λ b. if b then Some (var x) else None) (ne_eqb place 0 (omega (arith, h)))
inside (elem k) place h = ap (λ b. if b then Some (elem k) else None) (ne_eqb place 0 (omega (arith, h)))
inside (app f ts) place h =
    ap (λ b. if b then Some (app f ts) else at_argument ts (place % 16) (place / 16)) (ne_eqb place 0 (omega (arith, h)))
    ∙ in_argument ts (place % 16) (place / 16)

-- the rest of the way goes on from an argument, or ends where there is none
pub goes_in : (t u : Tree) (place : ℕ) → 0 < place → Some u ≡ part_at t (place % 16) → at_place u (place / 16) ≡ at_place t place
goes_in t u place h is = sym (inside t place h ∙ ap (option_and_then (λ v. at_place v (place / 16))) (sym is))

pub goes_out : (t : Tree) (place : ℕ) → 0 < place → None ≡ part_at t (place % 16) → at_place t place ≡ None
goes_out t place h is = inside t place h ∙ ap (option_and_then (λ v. at_place v (place / 16))) (sym is)

-- ---- occurrences as they are gathered

-- those of one argument more are added, and of one less are left
pub argument_added : (old new end : List Occurrence) (place unit n : ℕ) (t : Tree) (all rest : List Tree) → old ++ all_occurrences place unit n (trees_of all) ≡ end → all ≡ t ∷ rest
    → new ≡ old ++ occurrences (place + n * unit) (16 * unit) t → new ++ all_occurrences place unit (n + 1) (trees_of rest) ≡ end
argument_added old new end place unit n t all rest so first is =
    ap (λ os. os ++ all_occurrences place unit (n + 1) (trees_of rest)) is
    ∙ append_assoc old (occurrences (place + n * unit) (16 * unit) t) (all_occurrences place unit (n + 1) (trees_of rest))
    ∙ ap (λ ts. old ++ all_occurrences place unit n (trees_of ts)) (sym first) ∙ so

-- none is left
pub arguments_added : (old end : List Occurrence) (place unit n : ℕ) (left : List Tree) → old ++ all_occurrences place unit n (trees_of left) ≡ end → left ≡ [] → old ≡ end
arguments_added old end place unit n left so ended = sym (append-nil old) ∙ ap (λ ts. old ++ all_occurrences place unit n (trees_of ts)) (sym ended) ∙ so

pub narrow_first : (n : ℕ) (t : Tree) (all rest : List Tree) → all ≡ t ∷ rest → n ≤ 15 → IsNarrow t → AreNarrow (n + 1) (trees_of rest) → AreNarrow n (trees_of all)
narrow_first n t all rest first le is are = subst (λ ts. AreNarrow n (trees_of ts)) (sym first) (le, is, are)

pub none_narrow : (n : ℕ) (left : List Tree) → left ≡ [] → AreNarrow n (trees_of left)
none_narrow n left ended = subst (λ ts. AreNarrow n (trees_of ts)) (sym ended) tt

-- ---- the next place of a variable

next_step : (x : ℕ) (os : List Occurrence) (i : ℕ) (o : Occurrence) → i < length os → o ≡ get_or os i o → next_place x (drop i os) ≡ (if o.variable == x then Some o.place else next_place x (drop (i + 1) os))
next_step x os i o h is = ap (next_place x) (drop_next os i o h ∙ ap (λ p. p ∷ drop (i + 1) os) (sym is))

pub next_here : (x : ℕ) (os : List Occurrence) (i : ℕ) (o : Occurrence) → i < length os → o ≡ get_or os i o → o.variable ≡ x → next_place x (drop i os) ≡ Some o.place
next_here x os i o h is same = next_step x os i o h is ∙ ap (λ b. if b then Some o.place else next_place x (drop (i + 1) os)) (eq-eqb o.variable x same)

pub next_behind : (x : ℕ) (os : List Occurrence) (i : ℕ) (o : Occurrence) → i < length os → o ≡ get_or os i o → (o.variable ≡ x → ⊥) → next_place x (drop i os) ≡ next_place x (drop (i + 1) os)
next_behind x os i o h is other = next_step x os i o h is ∙ ap (λ b. if b then Some o.place else next_place x (drop (i + 1) os)) (ne_eqb o.variable x other)

pub next_end : (x : ℕ) (os : List Occurrence) (i : ℕ) → length os ≤ i → next_place x (drop i os) ≡ None
next_end x os i h = ap (next_place x) (drop_all i os h)

-- ---- two places of one variable

pub repeats_next : (os : List Occurrence) (i : ℕ) (o : Occurrence) (next : Option ℕ) → i < length os → o ≡ get_or os i o → next ≡ next_place o.variable (drop (i + 1) os)
    → repeats (drop i os) ≡ with_repeat o.place next (repeats (drop (i + 1) os))
repeats_next os i o next h is found =
    ap repeats (drop_next os i o h ∙ ap (λ p. p ∷ drop (i + 1) os) (sym is))
    ∙ ap (λ p. with_repeat o.place p (repeats (drop (i + 1) os))) (sym found)

pub repeats_end : (os : List Occurrence) (i : ℕ) → length os ≤ i → repeats (drop i os) ≡ []
repeats_end os i h = ap repeats (drop_all i os h)

-- ---- each of a list

abbrev Each : (Occurrence → Type 0) → List Occurrence → Type 0
Each P [] = Unit {0}
Each P (o ∷ os) = P o × Each P os

module _ (P Q : Occurrence → Type 0) where
  each_left : (xs ys : List Occurrence) → Each P (xs ++ ys) → Each P xs
  each_left [] ys h = tt
  each_left (x ∷ xs) ys h = (h.0, each_left xs ys h.1)

  each_right : (xs ys : List Occurrence) → Each P (xs ++ ys) → Each P ys
  each_right [] ys h = h
  each_right (x ∷ xs) ys h = each_right xs ys h.1

  each_both : (xs ys : List Occurrence) → Each P xs → Each P ys → Each P (xs ++ ys)
  each_both [] ys h k = k
  each_both (x ∷ xs) ys h k = (h.0, each_both xs ys h.1 k)

  each_on : ((o : Occurrence) → P o → Q o) → (xs : List Occurrence) → Each P xs → Each Q xs
  each_on g [] h = tt
  each_on g (x ∷ xs) h = (g x h.0, each_on g xs h.1)

-- ---- a part of a whole, and the parts of that

abbrev IsPart : Tree → ℕ → ℕ → Tree → Type 0
IsPart whole place unit t = (rest : ℕ) → at_place whole (place + rest * unit) ≡ at_place t rest

-- arguments from one of a number on
abbrev ArePart : Tree → ℕ → ℕ → ℕ → Trees → Type 0
ArePart whole place unit n ts = (k rest : ℕ) → n + k ≤ 15 → at_place whole (place + (n + k + 16 * rest) * unit) ≡ at_argument ts (suc k) rest

itself : (t : Tree) → IsPart t 0 1 t
itself t rest = ap (at_place t) (omega arith)

here : (whole t : Tree) (place unit : ℕ) → IsPart whole place unit t → at_place whole place ≡ Some t
here whole t place unit is = ap (at_place whole) (same place unit) ∙ is 0 ∙ at_start t
  where
    same : (p u : ℕ) → p ≡ p + 0 * u
    same p u = omega arith

arguments_part : (whole : Tree) (f : ℕ) (ts : Trees) (place unit : ℕ) → IsPart whole place unit (app f ts) → ArePart whole place unit 1 ts
arguments_part whole f ts place unit is k rest le =
    is (1 + k + 16 * rest)
    ∙ ap (λ b. if b then Some (app f ts) else at_argument ts ((1 + k + 16 * rest) % 16) ((1 + k + 16 * rest) / 16)) (ne_eqb (1 + k + 16 * rest) 0 (some k rest))
    ∙ ap₂ (at_argument ts) (low k rest le) (high k rest le)
  where
    some : (k rest : ℕ) → 1 + k + 16 * rest ≡ 0 → ⊥
    some k rest e = omega (arith, e)

    low : (k rest : ℕ) → 1 + k ≤ 15 → (1 + k + 16 * rest) % 16 ≡ suc k
    low k rest le = omega (arith, le)

    high : (k rest : ℕ) → 1 + k ≤ 15 → (1 + k + 16 * rest) / 16 ≡ rest
    high k rest le = omega (arith, le)

-- so many times the unit of the argument
unit_in : (place n rest unit : ℕ) → place + n * unit + rest * (16 * unit) ≡ place + (n + 0 + 16 * rest) * unit
unit_in place n rest unit = omega (arith, mul_left_comm rest 16 unit, add-mul (n + 0) (16 * rest) unit, add-mul n 0 unit, mul_assoc 16 rest unit)

first_part : (whole t : Tree) (ts : Trees) (place unit n : ℕ) → n ≤ 15 → ArePart whole place unit n (more t ts) → IsPart whole (place + n * unit) (16 * unit) t
first_part whole t ts place unit n le are rest = ap (at_place whole) (unit_in place n rest unit) ∙ are 0 rest (omega (arith, le))

other_parts : (whole t : Tree) (ts : Trees) (place unit n : ℕ) → ArePart whole place unit n (more t ts) → ArePart whole place unit (n + 1) ts
other_parts whole t ts place unit n are k rest le =
    ap (λ m. at_place whole (place + (m + 16 * rest) * unit)) (later n k) ∙ are (suc k) rest (omega (arith, le))
    ∙ ap (λ b. if b then at_place t rest else at_argument ts (suc (suc k) - 1) rest) (ne_eqb (suc (suc k)) 1 (more_than k))
    ∙ ap (λ m. at_argument ts m rest) (less k)
  where
    more_than : (k : ℕ) → suc (suc k) ≡ 1 → ⊥
    more_than k e = omega (arith, e)

    later : (n k : ℕ) → n + 1 + k ≡ n + suc k
    later n k = omega arith

    less : (k : ℕ) → suc (suc k) - 1 ≡ suc k
    less k = omega arith

-- ---- a term made of another has the same term wherever a variable stands

module _ (whole : Tree) (u : Substitution) where
  abbrev Reads : Occurrence → Type 0
  Reads o = at_place whole o.place ≡ Some (u o.variable)

  mutual
    reads : (s : Tree) (place unit : ℕ) → IsNarrow s → IsPart whole place unit (substitute u s) → Each Reads (occurrences place unit s)
    reads (var x) place unit w is = (here whole (u x) place unit is, tt)
    reads (elem k) place unit w is = tt
    reads (app f ss) place unit w is = all_read ss place unit 1 w (arguments_part whole f (substitute_all u ss) place unit is)

    all_read : (ss : Trees) (place unit n : ℕ) → AreNarrow n ss → ArePart whole place unit n (substitute_all u ss) → Each Reads (all_occurrences place unit n ss)
    all_read none place unit n w are = tt
    all_read (more s ss) place unit n w are =
        each_both Reads Reads (occurrences (place + n * unit) (16 * unit) s) (all_occurrences place unit (n + 1) ss)
        (reads s (place + n * unit) (16 * unit) w.1 (first_part whole (substitute u s) (substitute_all u ss) place unit n w.0 are))
        (all_read ss place unit (n + 1) w.2 (other_parts whole (substitute u s) (substitute_all u ss) place unit n are))

  next_reads : (x q : ℕ) (os : List Occurrence) → Each Reads os → next_place x os ≡ Some q → at_place whole q ≡ Some (u x)
  next_reads x q [] h e = absurd (nothing q e)
    where
      nothing : (n : ℕ) → None ≡ Some n → ⊥
      nothing n f = cc
  next_reads x q (o ∷ os) h e = by (λ f. next_reads x q os h.1 f) (o.variable == x) refl e
    where
      same : (p : ℕ) → Some p ≡ Some q → p ≡ q
      same p f = cc

      by : (next_place x os ≡ Some q → at_place whole q ≡ Some (u x)) → (b : Bool) → (o.variable == x) ≡ b → (if b then Some o.place else next_place x os) ≡ Some q → at_place whole q ≡ Some (u x)
      by rest true y f = ap (at_place whole) (sym (same o.place f)) ∙ h.0 ∙ ap (λ z. Some (u z)) (eqb-true o.variable x y)
      by rest false y f = rest f

  all_alike : (os : List Occurrence) → Each Reads os → AreAlike whole (repeats os)
  all_alike [] h = tt
  all_alike (o ∷ os) h = by (all_alike os h.1) (next_place o.variable os) refl
    where
      by : AreAlike whole (repeats os) → (next : Option ℕ) → next_place o.variable os ≡ next → AreAlike whole (with_repeat o.place next (repeats os))
      by rest None e = rest
      by rest (Some q) e = (record { part = u o.variable; first = h.0; second = next_reads o.variable q os h.1 e }, rest)

  -- and one that has that term there is made of the other, where it fits
  abbrev Gives : Occurrence → Type 0
  Gives o = (part : Tree) → at_place whole o.place ≡ Some part → u o.variable ≡ part

  mutual
    made : (s t : Tree) (place unit : ℕ) → IsNarrow s → Fits true false s t → IsPart whole place unit t → Each Gives (occurrences place unit s) → substitute u s ≡ t
    made (var x) t place unit w h is g = g.0 t (here whole t place unit is)
    made (elem j) (var y) place unit w h is g = absurd (clash (sym h))
    made (elem j) (elem k) place unit w h is g = ap elem h
    made (elem j) (app f ts) place unit w h is g = absurd h
    made (app f ss) (var y) place unit w h is g = absurd (clash (sym h))
    made (app f ss) (elem k) place unit w h is g = absurd h
    made (app f ss) (app e ts) place unit w h is g = ap₂ app h.0 (all_made ss ts place unit 1 w h.1 (arguments_part whole e ts place unit is) g)

    all_made : (ss ts : Trees) (place unit n : ℕ) → AreNarrow n ss → FitAll true false ss ts → ArePart whole place unit n ts → Each Gives (all_occurrences place unit n ss) → substitute_all u ss ≡ ts
    all_made none none place unit n w h are g = refl
    all_made none (more t ts) place unit n w h are g = absurd h
    all_made (more s ss) none place unit n w h are g = absurd h
    all_made (more s ss) (more t ts) place unit n w h are g =
        let first = occurrences (place + n * unit) (16 * unit) s in
        let rest = all_occurrences place unit (n + 1) ss in
        ap₂ more
        (made s t (place + n * unit) (16 * unit) w.1 h.0 (first_part whole t ts place unit n w.0 are) (each_left Gives Gives first rest g))
        (all_made ss ts place unit (n + 1) w.2 h.1 (other_parts whole t ts place unit n are) (each_right Gives Gives first rest g))

-- ---- the term that stands where a variable stands first

module _ (whole : Tree) where
  abbrev value : List Occurrence → Substitution
  value os = λ x. unwrap_or (option_and_then (at_place whole) (next_place x os)) (var x)

  abbrev Stands : List Occurrence → Occurrence → Type 0
  Stands os o = ((q : ℕ) × (next_place o.variable os ≡ Some q)) × ((part : Tree) → at_place whole o.place ≡ Some part → value os o.variable ≡ part)

  abbrev read : ℕ → Option ℕ → Tree
  read x next = unwrap_or (option_and_then (at_place whole) next) (var x)

  first_stands : (o : Occurrence) (os : List Occurrence) → Stands (o ∷ os) o
  first_stands o os = ((o.place, found), λ part e. ap (read o.variable) found ∙ ap (λ p. unwrap_or p (var o.variable)) e)
    where
      found : next_place o.variable (o ∷ os) ≡ Some o.place
      found = ap (λ b. if b then Some o.place else next_place o.variable os) (eq-eqb o.variable o.variable refl)

  later_stands : (o : Occurrence) (os : List Occurrence) → AreAlike whole (repeats (o ∷ os)) → (p : Occurrence) → Stands os p → Stands (o ∷ os) p
  later_stands o os alike p h = by (o.variable == p.variable) refl
    where
      same : (q : ℕ) → next_place p.variable os ≡ Some q → o.variable ≡ p.variable → read p.variable (Some o.place) ≡ value os p.variable
      same q e x =
          let both : AreAlike whole (with_repeat o.place (Some q) (repeats os)) = subst (λ next. AreAlike whole (with_repeat o.place next (repeats os))) (ap (λ y. next_place y os) x ∙ e) alike in
          ap (λ r. unwrap_or r (var p.variable)) (both.0.first ∙ sym both.0.second) ∙ ap (read p.variable) (sym e)

      by : (b : Bool) → (o.variable == p.variable) ≡ b → Stands (o ∷ os) p
      by true y =
          let found : next_place p.variable (o ∷ os) ≡ Some o.place = ap (λ b. if b then Some o.place else next_place p.variable os) y in
          ((o.place, found), λ part e. ap (read p.variable) found ∙ same h.0.0 h.0.1 (eqb-true o.variable p.variable y) ∙ h.1 part e)
      by false y =
          let found : next_place p.variable (o ∷ os) ≡ next_place p.variable os = ap (λ b. if b then Some o.place else next_place p.variable os) y in
          ((h.0.0, found ∙ h.0.1), λ part e. ap (read p.variable) found ∙ h.1 part e)

  less_alike : (o : Occurrence) (os : List Occurrence) → AreAlike whole (repeats (o ∷ os)) → AreAlike whole (repeats os)
  less_alike o os h = by (next_place o.variable os) h
    where
      by : (next : Option ℕ) → AreAlike whole (with_repeat o.place next (repeats os)) → AreAlike whole (repeats os)
      by None k = k
      by (Some q) k = k.1

  all_stand : (os : List Occurrence) → AreAlike whole (repeats os) → Each (Stands os) os
  all_stand [] alike = tt
  all_stand (o ∷ os) alike = (first_stands o os, each_on (Stands os) (Stands (o ∷ os)) (later_stands o os alike) os (all_stand os (less_alike o os alike)))

-- ---- what is reached by a term whose variables stand for nothing else is sought just where the parts are alike

instance_alike : (s t : Tree) → IsNarrow s → IsTrue (has_instance s t) → AreAlike t (repeated s)
instance_alike s t w h =
    let of = (instances_are_made s t).0 h in
    all_alike t of.0 (occurrences 0 1 s) (reads t of.0 s 0 1 w (subst (IsPart t 0 1) (sym of.1) (itself t)))

alike_instance : (s t : Tree) → IsNarrow s → Fits true false s t → AreAlike t (repeated s) → IsTrue (has_instance s t)
alike_instance s t w h alike =
    let os = occurrences 0 1 s in
    let u : Substitution = value t (occurrences 0 1 s) in
    (instances_are_made s t).1 (u, made t u s t 0 1 w h (itself t) (each_on (Stands t os) (Gives t u) (λ o k. k.1) os (all_stand t os alike)))

pub repeats_decide : RepeatsDecide
repeats_decide s t narrow fits = (instance_alike s t narrow, alike_instance s t narrow (linear_fitted Generalizations s t fits))

same_truth : (a b : Bool) → (IsTrue a → IsTrue b) → (IsTrue b → IsTrue a) → a ≡ b
same_truth true true on back = refl
same_truth true false on back = sym (on refl)
same_truth false true on back = back refl
same_truth false false on back = refl

pub alike_passes : (k : Sought) (t s : Tree) (rs : List Repeat) (b : Bool) → fits_above k ≡ false → (rs ≡ repeated s) × IsNarrow s → IsTrue (passes_linear k t s)
    → (IsTrue b → AreAlike t rs) × (AreAlike t rs → IsTrue b) → b ≡ passes k t s
alike_passes Instances t s rs b above told h tells = absurd (clash above)
alike_passes Unifiable t s rs b above told h tells = absurd (clash above)
alike_passes Generalizations t s rs b above told h tells =
    same_truth b (has_instance s t)
    (λ y. alike_instance s t told.1 (linear_fitted Generalizations s t h) (subst (AreAlike t) told.0 (tells.0 y)))
    (λ y. tells.1 (subst (AreAlike t) (sym told.0) (instance_alike s t told.1 y)))
