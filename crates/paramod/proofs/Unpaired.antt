-- Clauses that have no term for a side of the given clause, nor a side for its terms, give nothing with it.
use Rattle.std.proofs.Common.{◌≡◌, inl, inr, ℕ, zero, suc, ◌-◌, Bool, true, false, ◌==◌, ◌&&◌, ◌||◌, if◌then◌else◌, IsTrue, List, [], ◌∷◌, ◌++◌, map, flat_map, Option, Some, None, refl, sym, ap, ap₂, ◌∙◌, subst}
use Rattle.std.specs.List.{list_any}
use Rattle.std.specs.Option.{option_and_then}
use Rattle.std.proofs.lemmas.Bool.{and_parts, false≢true}
use Rattle.std.proofs.lemmas.List.Folds.{list_any-append}
use Rattle.fol_core.specs.Literals.{Lit, ClauseTree}
use Rattle.fol_core.specs.Tree.{Tree, var, elem, app, Trees, none, more}
use Rattle.clause_index.specs.Finding.{has_term_such, has_argument_such, has_such_below, has_side_such, has_inside_such, has_equation_such}
use Rattle.clause_index.specs.Numbered.{is_numbered}
use Rattle.clause_index.proofs.Numbers.{IsAmong, left_out, either_false, each_numbered, fails_too}
use Rattle.derivation.specs.Equations.{is_equation, left_of, right_of, below, is_no_variable}
use Rattle.derivation.specs.Places.{atom_at, has_literal}
use Rattle.derivation.specs.Words.{side_of}
use Rattle.discrim_tree.specs.Terms.{can_unify}
use Rattle.substitutions.specs.Paths.{argument, part_at, subterm_at}
use Rattle.prover_steps.specs.Clashing.{Held, is_same_held, places_of}
use Rattle.prover_steps.specs.Concluded.{Conclusion}
use Rattle.prover_steps.specs.Equalities.{paths_of, paths_below, into_paths, from_sides, is_oriented, paramodulants_into, paramodulants_with, paramodulants_of}
use Rattle.resolution.proofs.Going.{flat_none, flat_mapped}
use Rattle.resolution.proofs.Unopposed.{never_meets}
use Rattle.paramod.specs.Partners.{terms_in, terms_among, terms_below, terms_into, replaced_by, replacing, by_side, by_sides, by_terms, partner_numbers, HavePartners}
use Rattle.paramod.specs.Sites.{site, paramodulant_at, paramodulants_in, paramodulants_by, takes_side, side_tried, literal_tried}
use Rattle.paramod.proofs.Gathered.{none_of_fewer}
use Rattle.paramod.proofs.Missing.{none_beside}
use Rattle.paramod.proofs.Taken.{both_sides}

-- terms with one that passes, by a path
argument_fails : (test : Tree → Bool) (ts : Trees) (k : ℕ) (u : Tree) → has_argument_such test ts ≡ false → argument ts k ≡ Some u → has_term_such test u ≡ false
argument_fails test none k u fails there = cc
argument_fails test (more t ts) k u fails there = by (k == 1) (argument_fails test ts (k - 1) u) there
  where
    parts : (has_term_such test t ≡ false) × (has_argument_such test ts ≡ false)
    parts = either_false (has_term_such test t) (has_argument_such test ts) fails

    same : (s : Tree) → Some s ≡ Some u → s ≡ u
    same s e = cc

    by : (b : Bool) → (has_argument_such test ts ≡ false → argument ts (k - 1) ≡ Some u → has_term_such test u ≡ false) → (if b then Some t else argument ts (k - 1)) ≡ Some u → has_term_such test u ≡ false
    by true rest there = ap (has_term_such test) (sym (same t there)) ∙ parts.0
    by false rest there = rest parts.1 there

here_fails : (test : Tree → Bool) (u t : Tree) → has_term_such test u ≡ false → Some u ≡ Some t → IsTrue (is_no_variable (Some t)) → test t ≡ false
here_fails test u (var x) fails there is = absurd (false≢true is)
here_fails test u (elem k) fails there is = let same : u ≡ elem k = cc in ap (has_term_such test) (sym same) ∙ fails
here_fails test u (app f ts) fails there is =
    let same : u ≡ app f ts = cc in
    (either_false (test (app f ts)) (has_argument_such test ts) (ap (has_term_such test) (sym same) ∙ fails)).0

part_fails : (test : Tree → Bool) (u v : Tree) (k : ℕ) → has_term_such test u ≡ false → part_at u k ≡ Some v → has_term_such test v ≡ false
part_fails test (var x) v k fails there = cc
part_fails test (elem n) v k fails there = cc
part_fails test (app f ts) v k fails there = argument_fails test ts k v (either_false (test (app f ts)) (has_argument_such test ts) fails).1 there

term_fails : (test : Tree → Bool) (u t : Tree) (path : List ℕ) → has_term_such test u ≡ false → subterm_at u path ≡ Some t → IsTrue (is_no_variable (Some t)) → test t ≡ false
term_fails test u t [] fails there is = here_fails test u t fails there is
term_fails test u t (k ∷ path) fails there is = by (part_at u k) refl (λ v out below. term_fails test v t path out below is) there
  where
    by : (o : Option Tree) → part_at u k ≡ o → ((v : Tree) → has_term_such test v ≡ false → subterm_at v path ≡ Some t → test t ≡ false) → option_and_then (λ v. subterm_at v path) o ≡ Some t → test t ≡ false
    by None e rest there = cc
    by (Some v) e rest there = rest v (part_fails test u v k fails e) there

pub below_fails : (test : Tree → Bool) (atom t : Tree) (path : List ℕ) → has_such_below test atom ≡ false → below atom path ≡ Some t → IsTrue (is_no_variable (Some t)) → test t ≡ false
below_fails test atom t [] fails there is = cc
below_fails test (var x) t (k ∷ path) fails there is = cc
below_fails test (elem n) t (k ∷ path) fails there is = cc
below_fails test (app f ts) t (k ∷ path) fails there is = by (argument ts k) refl there
  where
    by : (o : Option Tree) → argument ts k ≡ o → option_and_then (λ v. subterm_at v path) o ≡ Some t → test t ≡ false
    by None e there = cc
    by (Some v) e there = term_fails test v t path (argument_fails test ts k v fails e) there is

-- the terms of a term, by a path
among_front : (t : Tree) (us ts : List Tree) → IsAmong t us → IsAmong t (us ++ ts)
among_front t [] ts among = absurd among
among_front t (u ∷ us) ts (inl same) = inl same
among_front t (u ∷ us) ts (inr behind) = inr (among_front t us ts behind)

among_back : (t : Tree) (us ts : List Tree) → IsAmong t ts → IsAmong t (us ++ ts)
among_back t [] ts among = among
among_back t (u ∷ us) ts among = inr (among_back t us ts among)

here_among : (u t : Tree) → Some u ≡ Some t → IsTrue (is_no_variable (Some t)) → IsAmong t (terms_in u)
here_among u (var x) there is = absurd (false≢true is)
here_among u (elem k) there is = let same : u ≡ elem k = cc in subst (λ v. IsAmong (elem k) (terms_in v)) (sym same) (inl refl)
here_among u (app f ts) there is = let same : u ≡ app f ts = cc in subst (λ v. IsAmong (app f ts) (terms_in v)) (sym same) (inl refl)

argument_among : (ts : Trees) (k : ℕ) (u t : Tree) → argument ts k ≡ Some u → IsAmong t (terms_in u) → IsAmong t (terms_among ts)
argument_among none k u t there among = cc
argument_among (more s ts) k u t there among = by (k == 1) (λ below. argument_among ts (k - 1) u t below among) there
  where
    same : (v : Tree) → Some v ≡ Some u → v ≡ u
    same v e = cc

    by : (b : Bool) → (argument ts (k - 1) ≡ Some u → IsAmong t (terms_among ts)) → (if b then Some s else argument ts (k - 1)) ≡ Some u → IsAmong t (terms_in s ++ terms_among ts)
    by true rest there = among_front t (terms_in s) (terms_among ts) (subst (λ v. IsAmong t (terms_in v)) (sym (same s there)) among)
    by false rest there = among_back t (terms_in s) (terms_among ts) (rest there)

part_among : (u v t : Tree) (k : ℕ) → part_at u k ≡ Some v → IsAmong t (terms_in v) → IsAmong t (terms_in u)
part_among (var x) v t k there among = cc
part_among (elem n) v t k there among = cc
part_among (app f ts) v t k there among = inr (argument_among ts k v t there among)

term_among : (u t : Tree) (path : List ℕ) → subterm_at u path ≡ Some t → IsTrue (is_no_variable (Some t)) → IsAmong t (terms_in u)
term_among u t [] there is = here_among u t there is
term_among u t (k ∷ path) there is = by (part_at u k) refl (λ v below. term_among v t path below is) there
  where
    by : (o : Option Tree) → part_at u k ≡ o → ((v : Tree) → subterm_at v path ≡ Some t → IsAmong t (terms_in v)) → option_and_then (λ v. subterm_at v path) o ≡ Some t → IsAmong t (terms_in u)
    by None e rest there = cc
    by (Some v) e rest there = part_among u v t k e (rest v there)

below_among : (atom t : Tree) (path : List ℕ) → below atom path ≡ Some t → IsTrue (is_no_variable (Some t)) → IsAmong t (terms_below atom)
below_among atom t [] there is = cc
below_among (var x) t (k ∷ path) there is = cc
below_among (elem n) t (k ∷ path) there is = cc
below_among (app f ts) t (k ∷ path) there is = by (argument ts k) refl there
  where
    by : (o : Option Tree) → argument ts k ≡ o → option_and_then (λ v. subterm_at v path) o ≡ Some t → IsAmong t (terms_among ts)
    by None e there = cc
    by (Some v) e there = argument_among ts k v t e (term_among v t path there is)

left_among : (atom t : Tree) (path : List ℕ) → IsTrue (is_equation atom) → below atom (1 ∷ path) ≡ Some t → IsTrue (is_no_variable (Some t)) → IsAmong t (terms_in (left_of atom))
left_among (app r (more u (more v none))) t path equal there is = term_among u t path there is
left_among (app r none) t path equal there is = absurd (false≢true equal)
left_among (app r (more u none)) t path equal there is = absurd (false≢true equal)
left_among (app r (more u (more v (more w ts)))) t path equal there is = absurd (false≢true equal)
left_among (var x) t path equal there is = absurd (false≢true equal)
left_among (elem k) t path equal there is = absurd (false≢true equal)

-- literals of a clause, by a place
atom_fails : (test : Tree → Bool) (c : ClauseTree) (b : ℕ) → list_any (λ l. has_such_below test l.atom) c ≡ false → has_such_below test (atom_at c b) ≡ false
atom_fails test [] b fails = refl
atom_fails test (l ∷ c) zero fails = (either_false (has_such_below test l.atom) (list_any (λ k. has_such_below test k.atom) c) fails).0
atom_fails test (l ∷ c) (suc b) fails = atom_fails test c b (either_false (has_such_below test l.atom) (list_any (λ k. has_such_below test k.atom) c) fails).1

both_fail : (p q : Bool) (test : Tree → Bool) (atom : Tree) (side : ℕ) → IsTrue p → IsTrue q → p && (q && (test (left_of atom) || test (right_of atom))) ≡ false → test (side_of side atom) ≡ false
both_fail true true test atom side positive equal fails = by (side == 1)
  where
    parts : (test (left_of atom) ≡ false) × (test (right_of atom) ≡ false)
    parts = either_false (test (left_of atom)) (test (right_of atom)) fails

    by : (b : Bool) → test (if b then left_of atom else right_of atom) ≡ false
    by true = parts.0
    by false = parts.1
both_fail true false test atom side positive equal fails = absurd (false≢true equal)
both_fail false q test atom side positive equal fails = absurd (false≢true positive)

side_fails : (test : Tree → Bool) (c : ClauseTree) (a side : ℕ) → list_any (has_side_such test) c ≡ false → IsTrue (has_literal true c a) → IsTrue (is_equation (atom_at c a)) → test (side_of side (atom_at c a)) ≡ false
side_fails test [] a side fails positive equal = absurd (false≢true positive)
side_fails test (l ∷ c) zero side fails positive equal =
    both_fail l.positive (is_equation l.atom) test l.atom side positive equal (either_false (has_side_such test l) (list_any (has_side_such test) c) fails).0
side_fails test (l ∷ c) (suc a) side fails positive equal = side_fails test c a side (either_false (has_side_such test l) (list_any (has_side_such test) c) fails).1 positive equal

module _ (greater : Tree → Tree → Bool) where
  -- the sides of a literal have nothing to replace in a clause
  pub record ReplacesNone (l : Lit) (d : Held) : Type 0 where
    pub left : IsTrue l.positive → IsTrue (is_equation l.atom) → takes_side greater l.atom 1 ≡ true → has_inside_such (λ t. can_unify (side_of 1 l.atom) t) d ≡ false
    pub right : IsTrue l.positive → IsTrue (is_equation l.atom) → takes_side greater l.atom 2 ≡ true → has_inside_such (λ t. can_unify (side_of 2 l.atom) t) d ≡ false

  abbrev pub AllReplaceNone : ClauseTree → Held → Type 0
  AllReplaceNone [] d = Unit {0}
  AllReplaceNone (l ∷ c) d = ReplacesNone l d × AllReplaceNone c d

  -- and nothing replaces the terms of an atom
  abbrev pub StaysBy : Tree → Held → Type 0
  StaysBy atom d = (t : Tree) → IsAmong t (terms_into greater atom) → has_equation_such (λ s. can_unify s t) d ≡ false

  abbrev pub AllStay : ClauseTree → Held → Type 0
  AllStay [] d = Unit {0}
  AllStay (l ∷ c) d = StaysBy l.atom d × AllStay c d

  none_at_side : (c d : Held) (a side : ℕ)
      → (IsTrue (has_literal true c.clause a) → IsTrue (is_equation (atom_at c.clause a)) → takes_side greater (atom_at c.clause a) side ≡ true → has_inside_such (λ t. can_unify (side_of side (atom_at c.clause a)) t) d ≡ false)
      → side_tried greater c d a side ≡ []
  none_at_side c d a side fails = by (takes_side greater (atom_at c.clause a) side) refl
    where
      by : (b : Bool) → takes_side greater (atom_at c.clause a) side ≡ b → (if b then paramodulants_by greater c d a side else []) ≡ []
      by false e = refl
      by true e =
          flat_none (λ b. paramodulants_in greater (site c a side d b)) (places_of d.clause)
          (λ b. flat_none (paramodulant_at (site c a side d b)) (into_paths greater (atom_at d.clause b))
          (λ path. none_beside (site c a side d b) path
          (λ positive equal t there is.
          never_meets (side_of side (atom_at c.clause a)) t
          (below_fails (λ u. can_unify (side_of side (atom_at c.clause a)) u) (atom_at d.clause b) t path
          (atom_fails (λ u. can_unify (side_of side (atom_at c.clause a)) u) d.clause b (fails positive equal e)) there is))))

  first_fails : (c : ClauseTree) (a : ℕ) (d : Held) → AllReplaceNone c d → IsTrue (has_literal true c a) → IsTrue (is_equation (atom_at c a)) → takes_side greater (atom_at c a) 1 ≡ true
      → has_inside_such (λ t. can_unify (side_of 1 (atom_at c a)) t) d ≡ false
  first_fails [] a d all positive equal takes = absurd (false≢true positive)
  first_fails (l ∷ c) zero d all positive equal takes = all.0.left positive equal takes
  first_fails (l ∷ c) (suc a) d all positive equal takes = first_fails c a d all.1 positive equal takes

  second_fails : (c : ClauseTree) (a : ℕ) (d : Held) → AllReplaceNone c d → IsTrue (has_literal true c a) → IsTrue (is_equation (atom_at c a)) → takes_side greater (atom_at c a) 2 ≡ true
      → has_inside_such (λ t. can_unify (side_of 2 (atom_at c a)) t) d ≡ false
  second_fails [] a d all positive equal takes = absurd (false≢true positive)
  second_fails (l ∷ c) zero d all positive equal takes = all.0.right positive equal takes
  second_fails (l ∷ c) (suc a) d all positive equal takes = second_fails c a d all.1 positive equal takes

  none_from_given : (g d : Held) → AllReplaceNone g.clause d → paramodulants_into greater g d ≡ []
  none_from_given g d all =
      flat_none (literal_tried greater g d) (places_of g.clause)
      (λ a. both_sides greater g d a
      ∙ ap₂ (λ (xs ys : List Conclusion). xs ++ (ys ++ [])) (none_at_side g d a 1 (first_fails g.clause a d all)) (none_at_side g d a 2 (second_fails g.clause a d all)))

  stays_at : (c : ClauseTree) (b : ℕ) (d : Held) → AllStay c d → StaysBy (atom_at c b) d
  stays_at [] b d all = λ t among. absurd among
  stays_at (l ∷ c) zero d all = all.0
  stays_at (l ∷ c) (suc b) d all = stays_at c b d all.1

  oriented_equal : (atom : Tree) → is_oriented greater atom ≡ true → IsTrue (is_equation atom)
  oriented_equal atom e = (and_parts (is_equation atom) _ e).0

  none_in_literal : (d g : Held) (a side b : ℕ) → StaysBy (atom_at g.clause b) d → paramodulants_in greater (site d a side g b) ≡ []
  none_in_literal d g a side b stays = by (is_oriented greater (atom_at g.clause b)) refl stays
    where
      one : (path : List ℕ) (us : List Tree) → ((t : Tree) → IsAmong t us → has_equation_such (λ u. can_unify u t) d ≡ false) → ((t : Tree) → below (atom_at g.clause b) path ≡ Some t → IsTrue (is_no_variable (Some t)) → IsAmong t us)
          → paramodulant_at (site d a side g b) path ≡ []
      one path us fails among =
          none_beside (site d a side g b) path
          (λ positive equal t there is. never_meets (side_of side (atom_at d.clause a)) t (side_fails (λ u. can_unify u t) d.clause a side (fails t (among t there is)) positive equal))

      by : (o : Bool) → is_oriented greater (atom_at g.clause b) ≡ o
          → ((t : Tree) → IsAmong t (if o then terms_in (left_of (atom_at g.clause b)) else terms_below (atom_at g.clause b)) → has_equation_such (λ u. can_unify u t) d ≡ false)
          → flat_map (paramodulant_at (site d a side g b)) (if o then map (λ path. 1 ∷ path) (paths_of (left_of (atom_at g.clause b))) else paths_below (atom_at g.clause b)) ≡ []
      by true e fails =
          flat_mapped (paramodulant_at (site d a side g b)) (λ path. 1 ∷ path) (paths_of (left_of (atom_at g.clause b)))
          ∙ flat_none (λ path. paramodulant_at (site d a side g b) (1 ∷ path)) (paths_of (left_of (atom_at g.clause b)))
          (λ path. one (1 ∷ path) (terms_in (left_of (atom_at g.clause b))) fails (λ t there is. left_among (atom_at g.clause b) t path (oriented_equal (atom_at g.clause b) e) there is))
      by false e fails =
          flat_none (paramodulant_at (site d a side g b)) (paths_below (atom_at g.clause b))
          (λ path. one path (terms_below (atom_at g.clause b)) fails (λ t there is. below_among (atom_at g.clause b) t path there is))

  none_into_given : (g d : Held) → AllStay g.clause d → paramodulants_into greater d g ≡ []
  none_into_given g d all =
      flat_none (literal_tried greater d g) (places_of d.clause)
      (λ a. flat_none (paramodulants_by greater d g a) (from_sides greater (atom_at d.clause a))
      (λ side. flat_none (λ b. paramodulants_in greater (site d a side g b)) (places_of g.clause) (λ b. none_in_literal d g a side b (stays_at g.clause b d all))))

  none_with : (g d : Held) → AllReplaceNone g.clause d → AllStay g.clause d → paramodulants_with greater g d ≡ []
  none_with g d replace stay = ap₂ (λ (xs ys : List Conclusion). xs ++ ys) (none_from_given g d replace) (back (is_same_held g d))
    where
      back : (b : Bool) → (if b then [] else paramodulants_into greater d g) ≡ []
      back true = refl
      back false = none_into_given g d stay

  -- what the numbers leave out
  module _ (hs : List Held) (d : Held) (among : IsAmong d hs) where
    taken_fails : (atom : Tree) (side : ℕ) → is_numbered (by_side greater hs atom side) d ≡ false → takes_side greater atom side ≡ true → has_inside_such (λ t. can_unify (side_of side atom) t) d ≡ false
    taken_fails atom side out takes =
        fails_too (has_inside_such (λ t. can_unify (side_of side atom) t)) d hs among (ap (λ b. is_numbered (if b then replaced_by hs (side_of side atom) else []) d) (sym takes) ∙ out)

    sides_fail : (l : Lit) → is_numbered (by_sides greater hs l) d ≡ false → IsTrue l.positive → IsTrue (is_equation l.atom) → (is_numbered (by_side greater hs l.atom 1) d ≡ false) × (is_numbered (by_side greater hs l.atom 2) d ≡ false)
    sides_fail l out positive equal =
        let both : l.positive && is_equation l.atom ≡ true = ap₂ (λ (p q : Bool). p && q) positive equal in
        either_false (is_numbered (by_side greater hs l.atom 1) d) (is_numbered (by_side greater hs l.atom 2) d)
        (sym (list_any-append (λ n. d.number == n) (by_side greater hs l.atom 1) (by_side greater hs l.atom 2))
        ∙ ap (λ b. is_numbered (if b then by_side greater hs l.atom 1 ++ by_side greater hs l.atom 2 else []) d) (sym both) ∙ out)

    replaces_none : (c : ClauseTree) → list_any (λ l. is_numbered (by_sides greater hs l) d) c ≡ false → AllReplaceNone c d
    replaces_none [] out = tt
    replaces_none (l ∷ c) out =
        let parts = either_false (is_numbered (by_sides greater hs l) d) (list_any (λ k. is_numbered (by_sides greater hs k) d) c) out in (
          record {
            left = λ positive equal takes. taken_fails l.atom 1 (sides_fail l parts.0 positive equal).0 takes;
            right = λ positive equal takes. taken_fails l.atom 2 (sides_fail l parts.0 positive equal).1 takes;
          },
          replaces_none c parts.1,
        )

    each_fails : (us : List Tree) → list_any (λ t. is_numbered (replacing hs t) d) us ≡ false → (t : Tree) → IsAmong t us → has_equation_such (λ s. can_unify s t) d ≡ false
    each_fails [] out t within = absurd within
    each_fails (u ∷ us) out t (inl same) =
        ap (λ x. has_equation_such (λ s. can_unify s x) d) same
        ∙ fails_too (has_equation_such (λ s. can_unify s u)) d hs among (either_false (is_numbered (replacing hs u) d) (list_any (λ x. is_numbered (replacing hs x) d) us) out).0
    each_fails (u ∷ us) out t (inr behind) = each_fails us (either_false (is_numbered (replacing hs u) d) (list_any (λ x. is_numbered (replacing hs x) d) us) out).1 t behind

    all_stay : (c : ClauseTree) → list_any (λ l. is_numbered (by_terms greater hs l) d) c ≡ false → AllStay c d
    all_stay [] out = tt
    all_stay (l ∷ c) out =
        let parts = either_false (is_numbered (by_terms greater hs l) d) (list_any (λ k. is_numbered (by_terms greater hs k) d) c) out in
        (each_fails (terms_into greater l.atom) (sym (each_numbered (replacing hs) d (terms_into greater l.atom)) ∙ parts.0), all_stay c parts.1)

    none_left : (g : Held) → is_numbered (partner_numbers greater hs g.clause) d ≡ false → paramodulants_with greater g d ≡ []
    none_left g out =
        let parts =
        either_false (is_numbered (flat_map (by_sides greater hs) g.clause) d) (is_numbered (flat_map (by_terms greater hs) g.clause) d)
        (sym (list_any-append (λ n. d.number == n) (flat_map (by_sides greater hs) g.clause) (flat_map (by_terms greater hs) g.clause)) ∙ out) in
        none_with g d (replaces_none g.clause (sym (each_numbered (by_sides greater hs) d g.clause) ∙ parts.0)) (all_stay g.clause (sym (each_numbered (by_terms greater hs) d g.clause) ∙ parts.1))

  pub paramodulants_left : (hs found : List Held) (g : Held) → HavePartners greater hs g.clause found → flat_map (paramodulants_with greater g) found ≡ paramodulants_of greater hs g
  paramodulants_left hs found g partners =
      ap (flat_map (paramodulants_with greater g)) partners.are
      ∙ left_out (paramodulants_with greater g) (is_numbered partners.numbers) hs
      (λ d among out. none_left hs d among g (none_of_fewer (partner_numbers greater hs g.clause) partners.numbers d partners.all out))
