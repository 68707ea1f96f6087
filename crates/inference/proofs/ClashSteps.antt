-- What a nucleus and its satellites have to have equal, and what they leave.
use Rattle.std.proofs.Common.{◌≡◌, ℕ, zero, suc, ◌+◌, ◌<◌, ◌≤◌, Bool, true, false, not, ◌==◌, ◌&&◌, IsTrue, List, [], ◌∷◌, ◌++◌, map, length, get_or, slice_get, drop, Option, Some, None, is_some, inl, inr, refl, sym, ap, ap₂, ◌∙◌, subst, arith, add-one, append_assoc}
use Rattle.std.proofs.lemmas.Bool.{and_parts, or_cases, false≢true}
use Rattle.std.proofs.lemmas.List.{drop_all, append-nil, length-map}
use Rattle.std.specs.Borrow.{Bor}
use Rattle.std.specs.Option.{IsSome, option_map}
use Rattle.fol_core.specs.Free.{is_in}
use Rattle.fol_core.specs.Literals.{ClauseTree}
use Rattle.fol_core.specs.Substitutions.{substitute}
use Rattle.fol_core.specs.Tree.{Tree}
use Rattle.substitutions.specs.Apart.{Own, interleaved, instances, apart_of}
use Rattle.substitutions.specs.Instances.{substitute_clause}
use Rattle.derivation.specs.Places.{are_opposite, atom_at, has_literal, has_place, others}
use Rattle.derivation.specs.Words.{Clash, clash_pairs, all_clash_pairs, clash_rule, clashes_fit, satellite_rests}
use Rattle.derivation.specs.declared.words.Satellite.{Satellite}
use Rattle.derivation.proofs.Naturality.{atom_at_put, others_put, opposite_places}
use Rattle.inference.specs.Judged.{clash_of}
use Rattle.inference.specs.Left.{LeftTree, Leaves, all_whole, left_clause}
use Rattle.inference.specs.Lent.{lent_clauses}
use Rattle.inference.proofs.FitSteps.{lent_length, lent_at}
use Rattle.inference.proofs.LeaveSteps.{drop_next, zero_on, next_on}
use Rattle.inference.proofs.RuleSteps.{left_beside, whole_put}

-- a clash that fits, of a nucleus and what is behind it
pub fits_clash : (ks : List Clash) (c : ClauseTree) (ds : List ClauseTree) → IsTrue ((clash_rule ks).fits (c ∷ ds)) → IsTrue (clashes_fit c ks ds)
fits_clash ks c [] fits = absurd (false≢true fits)
fits_clash ks c (d ∷ ds) fits = fits

even : (c : ClauseTree) (ks : List Clash) (ds : List ClauseTree) → IsTrue (clashes_fit c ks ds) → length ds ≡ length ks
even c [] [] fits = refl
even c [] (d ∷ ds) fits = absurd (false≢true fits)
even c (k ∷ ks) [] fits = absurd (false≢true fits)
even c (k ∷ ks) (d ∷ ds) fits =
    let p = and_parts (are_opposite c k.0 d k.1) (not (is_in k.0 (map (λ n. n.0) ks)) && clashes_fit c ks ds) fits in
    let q = and_parts (not (is_in k.0 (map (λ n. n.0) ks))) (clashes_fit c ks ds) p.1 in
    ap suc (even c ks ds q.1)

-- there is a nucleus, and one clause more than satellites
pub one_more : (ss : List Satellite) (ps : List (Bor ClauseTree)) → IsTrue ((clash_rule (map clash_of ss)).fits (lent_clauses ps)) → length ps ≡ length ss + 1
one_more ss [] fits = absurd (false≢true fits)
one_more ss (p ∷ ps) fits =
    let e = even p.now (map clash_of ss) (lent_clauses ps) (fits_clash (map clash_of ss) p.now (lent_clauses ps) fits) in
    let n = length-map ss clash_of in
    let m = lent_length ps in
    omega (arith, e, n, m)

-- a place that is there
pub sign_within : (c : ClauseTree) (sign : Bool) (a : ℕ) → IsTrue (has_literal sign c a) → a < length c
sign_within [] sign a h = absurd (false≢true h)
sign_within (l ∷ c) sign zero h = omega arith
sign_within (l ∷ c) sign (suc a) h = let e = sign_within c sign a h in omega (arith, e)

pub place_within : (c : ClauseTree) (b : ℕ) → IsTrue (has_place c b) → b < length c
place_within c b h = elim (or_cases (has_literal true c b) (has_literal false c b) h) [
  | inl p ↦ sign_within c true b p
  | inr p ↦ sign_within c false b p
]

-- the places of each clash are there
at_place : (c : ClauseTree) (ss : List Satellite) (ds : List ClauseTree) (i : ℕ) (s : Satellite) (d : ClauseTree) → IsTrue (clashes_fit c (map clash_of ss) ds) → i < length ss → i < length ds → s ≡ get_or ss i s → d ≡ get_or ds i d
    → IsTrue (are_opposite c s.place d s.literal)
at_place c [] ds i s d fits h k is was = absurd (omega (arith, h))
at_place c (t ∷ ss) [] i s d fits h k is was = absurd (omega (arith, k))
at_place c (t ∷ ss) (e ∷ ds) zero s d fits h k is was =
    let p = and_parts (are_opposite c t.place e t.literal) (not (is_in t.place (map (λ n. n.0) (map clash_of ss))) && clashes_fit c (map clash_of ss) ds) fits in
    subst (λ (u : Satellite). IsTrue (are_opposite c u.place d u.literal)) (sym is) (subst (λ f. IsTrue (are_opposite c t.place f t.literal)) (sym was) p.0)
at_place c (t ∷ ss) (e ∷ ds) (suc i) s d fits h k is was =
    let p = and_parts (are_opposite c t.place e t.literal) (not (is_in t.place (map (λ n. n.0) (map clash_of ss))) && clashes_fit c (map clash_of ss) ds) fits in
    let q = and_parts (not (is_in t.place (map (λ n. n.0) (map clash_of ss)))) (clashes_fit c (map clash_of ss) ds) p.1 in
    at_place c ss ds i s d q.1 (omega (arith, h)) (omega (arith, k)) is was

pub record AreThere (c d : ClauseTree) (s : Satellite) : Type 0 where
  pub nucleus : IsTrue (has_place c s.place)
  pub satellite : IsTrue (has_place d s.literal)

pub are_there : (ss : List Satellite) (ps : List (Bor ClauseTree)) (i : ℕ) (s : Satellite) (p d : Bor ClauseTree) → IsTrue ((clash_rule (map clash_of ss)).fits (lent_clauses ps)) → i < length ss → s ≡ get_or ss i s → p ≡ get_or ps 0 p → d ≡ get_or ps (i + 1) d
    → AreThere p.now d.now s
are_there ss [] i s p d fits h at first is = absurd (false≢true fits)
are_there ss (q ∷ ps) i s p d fits h at first is =
    let fit = fits_clash (map clash_of ss) q.now (lent_clauses ps) fits in
    let e = even q.now (map clash_of ss) (lent_clauses ps) fit in
    let n = length-map ss clash_of in
    let m = lent_length ps in
    let there : i < length ps = omega (arith, h, e, n, m) in
    let item : d ≡ get_or ps i d = is ∙ ap (λ j. get_or (q ∷ ps) j d) (add-one i) in
    let opposite = at_place q.now ss (lent_clauses ps) i s d.now fit h (omega (arith, there, m)) at (lent_at ps i d there item) in
    let places = opposite_places q.now s.place d.now s.literal opposite in
    record { nucleus = subst (λ (b : Bor ClauseTree). IsTrue (has_place b.now s.place)) (sym first) places.0; satellite = places.1 }

pub got : {X : Type 0} (xs : List X) (a : ℕ) → a < length xs → is_some (slice_get xs a) ≡ true
got [] a h = absurd (omega (arith, h))
got (x ∷ xs) zero h = refl
got (x ∷ xs) (suc a) h = got xs a (omega (arith, h))

-- the nucleus
abbrev pub first_of : List (Bor ClauseTree) → ClauseTree
first_of [] = []
first_of (p ∷ ps) = p.now

pub first_is : (ps : List (Bor ClauseTree)) (p : Bor ClauseTree) → 0 < length ps → p ≡ get_or ps 0 p → first_of ps ≡ p.now
first_is [] p h at = absurd (omega (arith, h))
first_is (q ∷ ps) p h at = ap (λ (b : Bor ClauseTree). b.now) (sym at)

-- what has to be equal, from one satellite on
abbrev pub pairs_from : ℕ → ℕ → ClauseTree → List Clash → List ClauseTree → List (Tree × Tree)
pairs_from n i c [] ds = []
pairs_from n i c (k ∷ ks) [] = []
pairs_from n i c (k ∷ ks) (d ∷ ds) = (substitute (interleaved n 0) (atom_at c k.0), substitute (interleaved n i) (atom_at d k.1)) ∷ pairs_from n (suc i) c ks ds

abbrev pub pairs_behind : ℕ → ClauseTree → List Satellite → List (Bor ClauseTree) → ℕ → List (Tree × Tree)
pairs_behind n c ss ps i = pairs_from n (i + 1) c (map clash_of (drop i ss)) (lent_clauses (drop (i + 1) ps))

pub one_pair : (n : ℕ) (c : ClauseTree) (ss : List Satellite) (ps : List (Bor ClauseTree)) (i : ℕ) (s : Satellite) (d : Bor ClauseTree) (made new all : List (Tree × Tree)) (a b : Tree) → i < length ss → length ps ≡ length ss + 1 → s ≡ get_or ss i s → d ≡ get_or ps (i + 1) d
    → a ≡ atom_at c s.place → b ≡ atom_at d.now s.literal → new ≡ made ++ (substitute (interleaved n 0) a, substitute (interleaved n (i + 1)) b) ∷ []
    → made ++ pairs_behind n c ss ps i ≡ all → new ++ pairs_behind n c ss ps (i + 1) ≡ all
one_pair n c ss ps i s d made new all a b h many is was left right more so =
    let there : i + 1 < length ps = omega (arith, h, many) in
    let pair : Tree → Tree → Tree × Tree = λ x y. (substitute (interleaved n 0) x, substitute (interleaved n (i + 1)) y) in
    let step : pairs_behind n c ss ps i ≡ pair (atom_at c s.place) (atom_at d.now s.literal) ∷ pairs_from n (suc (i + 1)) c (map clash_of (drop (i + 1) ss)) (lent_clauses (drop (i + 1 + 1) ps)) =
    ap₂ (λ ts es. pairs_from n (i + 1) c (map clash_of ts) (lent_clauses es)) (drop_next ss i s h is) (drop_next ps (i + 1) d there was) in
    ap (λ ts. ts ++ pairs_behind n c ss ps (i + 1)) more ∙ append_assoc made (pair a b ∷ []) (pairs_behind n c ss ps (i + 1))
    ∙ ap₂ (λ x y. made ++ pair x y ∷ pairs_behind n c ss ps (i + 1)) left right
    ∙ ap (λ j. made ++ pair (atom_at c s.place) (atom_at d.now s.literal) ∷ pairs_from n j c (map clash_of (drop (i + 1) ss)) (lent_clauses (drop (i + 1 + 1) ps))) (add-one (i + 1))
    ∙ ap (λ ts. made ++ ts) (sym step) ∙ so

instances_same : (p q : Own) (cs : List ClauseTree) → ((k : ℕ) → p k ≡ q k) → instances p cs ≡ instances q cs
instances_same p q [] h = refl
instances_same p q (c ∷ cs) h = ap₂ (λ s (es : List ClauseTree). substitute_clause s c ∷ es) (h 0) (instances_same (λ j. p (suc j)) (λ j. q (suc j)) cs (λ j. h (suc j)))

pairs_are : (n i : ℕ) (own : Own) (c : ClauseTree) (ks : List Clash) (ds : List ClauseTree) → IsTrue (clashes_fit c ks ds) → ((k : ℕ) → own k ≡ interleaved n (k + i)) → pairs_from n i c ks ds ≡ clash_pairs (substitute_clause (interleaved n 0) c) ks (instances own ds)
pairs_are n i own c [] [] fits are = refl
pairs_are n i own c [] (d ∷ ds) fits are = absurd (false≢true fits)
pairs_are n i own c (k ∷ ks) [] fits are = absurd (false≢true fits)
pairs_are n i own c (k ∷ ks) (d ∷ ds) fits are =
    let p = and_parts (are_opposite c k.0 d k.1) (not (is_in k.0 (map (λ n. n.0) ks)) && clashes_fit c ks ds) fits in
    let q = and_parts (not (is_in k.0 (map (λ n. n.0) ks))) (clashes_fit c ks ds) p.1 in
    let r = opposite_places c k.0 d k.1 p.0 in
    let first : own 0 ≡ interleaved n i = are 0 ∙ ap (interleaved n) (zero_on i) in
    ap₂ (λ (x : Tree × Tree) xs. x ∷ xs)
    (ap₂ (λ x y. (x, y)) (sym (atom_at_put (interleaved n 0) c k.0 r.0)) (ap (λ u. substitute u (atom_at d k.1)) (sym first) ∙ sym (atom_at_put (own 0) d k.1 r.1)))
    (pairs_are n (suc i) (λ j. own (suc j)) c ks ds q.1 (λ j. are (suc j) ∙ ap (interleaved n) (next_on j i ∙ ap (λ m. j + m) (add-one i))))

pub all_pairs : (ss : List Satellite) (ps : List (Bor ClauseTree)) (n i : ℕ) (old made : List (Tree × Tree)) → IsTrue ((clash_rule (map clash_of ss)).fits (lent_clauses ps)) → n ≡ length ps → length ss ≤ i → old ≡ []
    → made ++ pairs_behind n (first_of ps) ss ps i ≡ old ++ pairs_behind n (first_of ps) ss ps 0 → made ≡ all_clash_pairs (map clash_of ss) (apart_of (lent_clauses ps))
all_pairs ss [] n i old made fits many h none so = absurd (false≢true fits)
all_pairs ss (q ∷ ps) n i old made fits many h none so =
    let cs = lent_clauses (q ∷ ps) in
    let ks = map clash_of ss in
    let count : n ≡ length cs = many ∙ sym (lent_length (q ∷ ps)) in
    let fit = fits_clash ks q.now (lent_clauses ps) fits in
    sym (append-nil made) ∙ ap (λ ts. made ++ pairs_from n (i + 1) q.now (map clash_of ts) (lent_clauses (drop (i + 1) (q ∷ ps)))) (sym (drop_all i ss h)) ∙ so
    ∙ ap (λ (o : List (Tree × Tree)). o ++ pairs_behind n q.now ss (q ∷ ps) 0) none
    ∙ ap (λ m. pairs_from m 1 q.now ks (lent_clauses ps)) count
    ∙ pairs_are (length cs) 1 (λ k. interleaved (length cs) (suc k)) q.now ks (lent_clauses ps) fit (λ k. ap (interleaved (length cs)) (sym (add-one k)))

-- what the satellites leave, from one on
abbrev pub satellites_left : ℕ → List Clash → List ClauseTree → List LeftTree
satellites_left n [] ds = []
satellites_left n (k ∷ ks) [] = []
satellites_left n (k ∷ ks) (d ∷ ds) = all_whole n (others (λ m. m == k.1) d) ++ satellites_left (suc n) ks ds

abbrev pub left_behind : List Satellite → List (Bor ClauseTree) → ℕ → List LeftTree
left_behind ss ps i = satellites_left (i + 1) (map clash_of (drop i ss)) (lent_clauses (drop (i + 1) ps))

pub one_left : (ss : List Satellite) (ps : List (Bor ClauseTree)) (i : ℕ) (s : Satellite) (d : Bor ClauseTree) (made new all : List LeftTree) → i < length ss → length ps ≡ length ss + 1 → s ≡ get_or ss i s → d ≡ get_or ps (i + 1) d
    → new ≡ made ++ all_whole (i + 1) (others (λ m. m == s.literal) d.now) → made ++ left_behind ss ps i ≡ all → new ++ left_behind ss ps (i + 1) ≡ all
one_left ss ps i s d made new all h many is was more so =
    let there : i + 1 < length ps = omega (arith, h, many) in
    let rest = all_whole (i + 1) (others (λ m. m == s.literal) d.now) in
    let step : left_behind ss ps i ≡ rest ++ satellites_left (suc (i + 1)) (map clash_of (drop (i + 1) ss)) (lent_clauses (drop (i + 1 + 1) ps)) =
    ap₂ (λ ts es. satellites_left (i + 1) (map clash_of ts) (lent_clauses es)) (drop_next ss i s h is) (drop_next ps (i + 1) d there was) in
    ap (λ ts. ts ++ left_behind ss ps (i + 1)) more ∙ append_assoc made rest (left_behind ss ps (i + 1))
    ∙ ap (λ j. made ++ (rest ++ satellites_left j (map clash_of (drop (i + 1) ss)) (lent_clauses (drop (i + 1 + 1) ps)))) (add-one (i + 1))
    ∙ ap (λ ts. made ++ ts) (sym step) ∙ so

rests_are : (own : Own) (n : ℕ) (mine : Own) (ks : List Clash) (ds : List ClauseTree) → ((k : ℕ) → mine k ≡ own (k + n)) → left_clause own (satellites_left n ks ds) ≡ satellite_rests ks (instances mine ds)
rests_are own n mine [] ds are = refl
rests_are own n mine (k ∷ ks) [] are = refl
rests_are own n mine (k ∷ ks) (d ∷ ds) are =
    left_beside own (all_whole n (others (λ m. m == k.1) d)) (satellites_left (suc n) ks ds)
    ∙ ap₂ (λ (x y : ClauseTree). x ++ y)
    (whole_put own n (others (λ m. m == k.1) d) ∙ ap (λ u. substitute_clause u (others (λ m. m == k.1) d)) (sym (are 0 ∙ ap own (zero_on n))) ∙ sym (others_put (mine 0) (λ m. m == k.1) d))
    (rests_are own (suc n) (λ j. mine (suc j)) ks ds (λ j. are (suc j) ∙ ap own (next_on j n ∙ ap (λ m. j + m) (add-one n))))

pub all_left_behind : (ss : List Satellite) (ps : List (Bor ClauseTree)) (p : Bor ClauseTree) (i : ℕ) (old first made : List LeftTree) → IsTrue ((clash_rule (map clash_of ss)).fits (lent_clauses ps)) → p ≡ get_or ps 0 p → length ss ≤ i → old ≡ []
    → first ≡ old ++ all_whole 0 (others (λ n. is_in n (map (λ k. k.0) (map clash_of ss))) p.now) → made ++ left_behind ss ps i ≡ first ++ left_behind ss ps 0 → Leaves (clash_rule (map clash_of ss)) (lent_clauses ps) made
all_left_behind ss [] p i old first made fits at h none is so = λ own. absurd (false≢true fits)
all_left_behind ss (q ∷ ps) p i old first made fits at h none is so =
    let ks = map clash_of ss in
    let test : ℕ → Bool = λ n. is_in n (map (λ k. k.0) ks) in
    let all : made ≡ all_whole 0 (others test q.now) ++ satellites_left 1 ks (lent_clauses ps) =
    sym (append-nil made) ∙ ap (λ ts. made ++ satellites_left (i + 1) (map clash_of ts) (lent_clauses (drop (i + 1) (q ∷ ps)))) (sym (drop_all i ss h)) ∙ so
    ∙ ap (λ ts. ts ++ left_behind ss (q ∷ ps) 0) (is ∙ ap₂ (λ (o : List LeftTree) (b : Bor ClauseTree). o ++ all_whole 0 (others test b.now)) none at) in
    λ own.
    ap (left_clause own) all ∙ left_beside own (all_whole 0 (others test q.now)) (satellites_left 1 ks (lent_clauses ps))
    ∙ ap₂ (λ (x y : ClauseTree). x ++ y) (whole_put own 0 (others test q.now) ∙ sym (others_put (own 0) test q.now))
    (rests_are own 1 (λ k. own (suc k)) ks (lent_clauses ps) (λ k. ap own (sym (add-one k))))

-- a literal that is there, and its atom
pub some_of : {X Y : Type 0} (f : X → Y) (r : Option X) (o : Option Y) → option_map f r ≡ o → is_some o ≡ true → IsSome r
some_of f None o e h = absurd (false≢true (ap is_some e ∙ h))
some_of f (Some x) o e h = refl

any_item : {X : Type 0} (xs : List X) (k : ℕ) (x : X) → k < length xs → get_or xs k x ≡ get_or xs k (get_or xs k x)
any_item [] k x h = absurd (omega (arith, h))
any_item (y ∷ xs) zero x h = refl
any_item (y ∷ xs) (suc k) x h = any_item xs k x (omega (arith, h))

pub nucleus_there : (ss : List Satellite) (ps : List (Bor ClauseTree)) (i : ℕ) (s : Satellite) (p : Bor ClauseTree) → IsTrue ((clash_rule (map clash_of ss)).fits (lent_clauses ps)) → i < length ss → s ≡ get_or ss i s → p ≡ get_or ps 0 p → IsTrue (has_place p.now s.place)
nucleus_there ss ps i s p fits h at first =
    let many = one_more ss ps fits in
    (are_there ss ps i s p (get_or ps (i + 1) p) fits h at first (any_item ps (i + 1) p (omega (arith, many, h)))).nucleus
