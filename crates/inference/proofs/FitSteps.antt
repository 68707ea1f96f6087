-- Whether clashes fit, by the places of satellites and clauses in their lists.
use Rattle.std.proofs.Common.{◌≡◌, ℕ, zero, suc, ◌+◌, ◌-◌, ◌<◌, ◌≤◌, Bool, true, false, not, ◌==◌, ◌&&◌, ◌||◌, List, [], ◌∷◌, map, length, get_or, drop, take, refl, sym, ap, ap₂, ◌∙◌, arith, add-one, drop-cons}
use Rattle.std.proofs.lemmas.Bool.{eq-eqb, ne_eqb}
use Rattle.std.proofs.lemmas.List.{drop_all, take_all, length-drop, length-map, get_or-map}
use Rattle.std.specs.Borrow.{Bor}
use Rattle.fol_core.specs.Free.{is_in}
use Rattle.fol_core.specs.Literals.{ClauseTree}
use Rattle.derivation.specs.Places.{are_opposite}
use Rattle.derivation.specs.Words.{Clash, clashes_fit, clash_rule}
use Rattle.derivation.specs.declared.words.Satellite.{Satellite}
use Rattle.inference.specs.Judged.{clash_of}
use Rattle.inference.specs.Lent.{lent_clauses}

pub clash_few : (ks : List Clash) (cs : List ClauseTree) → length cs < 2 → (clash_rule ks).fits cs ≡ false
clash_few ks [] h = refl
clash_few ks (c ∷ []) h = refl
clash_few ks (c ∷ d ∷ cs) h = absurd (omega arith)

and_false : (b : Bool) → (b && false) ≡ false
and_false true = refl
and_false false = refl

uneven : (c : ClauseTree) (ks : List Clash) (ds : List ClauseTree) → (length ds ≡ length ks → ⊥) → clashes_fit c ks ds ≡ false
uneven c [] [] h = absurd (h refl)
uneven c [] (d ∷ ds) h = refl
uneven c (k ∷ ks) [] h = refl
uneven c (k ∷ ks) (d ∷ ds) h =
    ap (λ b. are_opposite c k.0 d k.1 && (not (is_in k.0 (map (λ n. n.0) ks)) && b)) (uneven c ks ds (λ e. h (ap suc e)))
    ∙ ap (λ b. are_opposite c k.0 d k.1 && b) (and_false (not (is_in k.0 (map (λ n. n.0) ks)))) ∙ and_false (are_opposite c k.0 d k.1)

length_clashes : (ss : List Satellite) → length (map clash_of ss) ≡ length ss
length_clashes [] = refl
length_clashes (s ∷ ss) = ap suc (length_clashes ss)

pub clash_uneven : (ss : List Satellite) (cs : List ClauseTree) → (length cs ≡ length ss + 1 → ⊥) → (clash_rule (map clash_of ss)).fits cs ≡ false
clash_uneven ss [] h = refl
clash_uneven ss (c ∷ []) h = refl
clash_uneven ss (c ∷ d ∷ ds) h = uneven c (map clash_of ss) (d ∷ ds) (λ e. let f : suc (length ds) ≡ length (map clash_of ss) = e in h (omega (arith, length_clashes ss)))

drop_next : {X : Type 0} (xs : List X) (i : ℕ) (x : X) → i < length xs → x ≡ get_or xs i x → drop i xs ≡ x ∷ drop (i + 1) xs
drop_next xs i x h is = rw (add-one, drop-cons xs i x) (ap (λ t. t ∷ drop (suc i) xs) (sym is))

-- whether a place is among those of the satellites from one on
abbrev pub taken_from : ℕ → List Satellite → ℕ → Bool
taken_from a ss i = is_in a (map (λ k. k.0) (map clash_of (drop i ss)))

taken_step : (a : ℕ) (ss : List Satellite) (i : ℕ) (s : Satellite) → i < length ss → s ≡ get_or ss i s → taken_from a ss i ≡ (a == s.place || taken_from a ss (i + 1))
taken_step a ss i s h is = ap (λ ts. is_in a (map (λ k. k.0) (map clash_of ts))) (drop_next ss i s h is)

pub taken_here : (a : ℕ) (ss : List Satellite) (i : ℕ) (s : Satellite) → i < length ss → s ≡ get_or ss i s → a ≡ s.place → taken_from a ss i ≡ true
taken_here a ss i s h is same = taken_step a ss i s h is ∙ ap (λ b. b || taken_from a ss (i + 1)) (eq-eqb a s.place same)

pub taken_behind : (a : ℕ) (ss : List Satellite) (i : ℕ) (s : Satellite) → i < length ss → s ≡ get_or ss i s → (a ≡ s.place → ⊥) → taken_from a ss i ≡ taken_from a ss (i + 1)
taken_behind a ss i s h is apart = taken_step a ss i s h is ∙ ap (λ b. b || taken_from a ss (i + 1)) (ne_eqb a s.place apart)

pub taken_end : (a : ℕ) (ss : List Satellite) (i : ℕ) → length ss ≤ i → taken_from a ss i ≡ false
taken_end a ss i h = ap (λ ts. is_in a (map (λ k. k.0) (map clash_of ts))) (drop_all i ss h)

-- the clashes from one place on fit
abbrev pub fit_from : ClauseTree → List Satellite → List ClauseTree → ℕ → Bool
fit_from c ss ds i = clashes_fit c (map clash_of (drop i ss)) (drop i ds)

fit_step : (c : ClauseTree) (ss : List Satellite) (ds : List ClauseTree) (i : ℕ) (s : Satellite) (d : ClauseTree) → i < length ss → i < length ds → s ≡ get_or ss i s → d ≡ get_or ds i d
    → fit_from c ss ds i ≡ (are_opposite c s.place d s.literal && (not (taken_from s.place ss (i + 1)) && fit_from c ss ds (i + 1)))
fit_step c ss ds i s d h k is was = ap₂ (λ ts es. clashes_fit c (map clash_of ts) es) (drop_next ss i s h is) (drop_next ds i d k was)

pub clash_refused : (c : ClauseTree) (ss : List Satellite) (ds : List ClauseTree) (i : ℕ) (s : Satellite) (d : ClauseTree) → i < length ss → i < length ds → s ≡ get_or ss i s → d ≡ get_or ds i d
    → are_opposite c s.place d s.literal ≡ false → fit_from c ss ds i ≡ false
clash_refused c ss ds i s d h k is was e = fit_step c ss ds i s d h k is was ∙ ap (λ b. b && (not (taken_from s.place ss (i + 1)) && fit_from c ss ds (i + 1))) e

-- the satellites behind a place, as a range of a slice
behind : (ss : List Satellite) (i : ℕ) → take (length ss - (i + 1)) (drop (i + 1) ss) ≡ drop (i + 1) ss
behind ss i = take_all (length ss - (i + 1)) (drop (i + 1) ss) (omega (arith, length-drop (i + 1) ss))

pub clash_taken : (c : ClauseTree) (ss : List Satellite) (ds : List ClauseTree) (i : ℕ) (s : Satellite) (d : ClauseTree) → i < length ss → i < length ds → s ≡ get_or ss i s → d ≡ get_or ds i d
    → are_opposite c s.place d s.literal ≡ true → is_in s.place (map (λ k. k.0) (map clash_of (take (length ss - (i + 1)) (drop (i + 1) ss)))) ≡ true → fit_from c ss ds i ≡ false
clash_taken c ss ds i s d h k is was e taken =
    fit_step c ss ds i s d h k is was
    ∙ ap₂ (λ b t. b && (not t && fit_from c ss ds (i + 1))) e (sym (ap (λ ts. is_in s.place (map (λ k. k.0) (map clash_of ts))) (behind ss i)) ∙ taken)

pub clash_on : (c : ClauseTree) (ss : List Satellite) (ds : List ClauseTree) (i : ℕ) (s : Satellite) (d : ClauseTree) → i < length ss → i < length ds → s ≡ get_or ss i s → d ≡ get_or ds i d
    → are_opposite c s.place d s.literal ≡ true → is_in s.place (map (λ k. k.0) (map clash_of (take (length ss - (i + 1)) (drop (i + 1) ss)))) ≡ false → fit_from c ss ds i ≡ fit_from c ss ds (i + 1)
clash_on c ss ds i s d h k is was e taken =
    fit_step c ss ds i s d h k is was
    ∙ ap₂ (λ b t. b && (not t && fit_from c ss ds (i + 1))) e (sym (ap (λ ts. is_in s.place (map (λ k. k.0) (map clash_of ts))) (behind ss i)) ∙ taken)

pub clash_done : (c : ClauseTree) (ss : List Satellite) (ds : List ClauseTree) (i : ℕ) → length ds ≡ length ss → length ss ≤ i → fit_from c ss ds i ≡ true
clash_done c ss ds i same h = ap₂ (λ ts es. clashes_fit c (map clash_of ts) es) (drop_all i ss h) (drop_all i ds (omega arith))

-- an item that is lent
pub lent_length : (ds : List (Bor ClauseTree)) → length (lent_clauses ds) ≡ length ds
lent_length ds = length-map ds (λ (b : Bor ClauseTree). b.now)

pub lent_at : (ds : List (Bor ClauseTree)) (i : ℕ) (d : Bor ClauseTree) → i < length ds → d ≡ get_or ds i d → d.now ≡ get_or (lent_clauses ds) i d.now
lent_at ds i d h is = ap (λ (b : Bor ClauseTree). b.now) is ∙ sym (get_or-map (λ (b : Bor ClauseTree). b.now) ds i d d.now h)

-- whether the clashes from one place on fit
abbrev pub lent_fit : ClauseTree → List Satellite → List (Bor ClauseTree) → ℕ → Bool
lent_fit c ss ds i = fit_from c ss (lent_clauses ds) i

pub lent_refused : (c : ClauseTree) (ss : List Satellite) (ds : List (Bor ClauseTree)) (i : ℕ) (s : Satellite) (d : Bor ClauseTree) → i < length ss → length ds ≡ length ss → s ≡ get_or ss i s → d ≡ get_or ds i d
    → are_opposite c s.place d.now s.literal ≡ false → lent_fit c ss ds 0 ≡ lent_fit c ss ds i → false ≡ clashes_fit c (map clash_of ss) (lent_clauses ds)
lent_refused c ss ds i s d h same is was e from =
    let k : i < length ds = omega (arith, h, same) in
    sym (from ∙ clash_refused c ss (lent_clauses ds) i s d.now h (omega (arith, k, lent_length ds)) is (lent_at ds i d k was) e)

pub lent_taken : (c : ClauseTree) (ss : List Satellite) (ds : List (Bor ClauseTree)) (i : ℕ) (s : Satellite) (d : Bor ClauseTree) → i < length ss → length ds ≡ length ss → s ≡ get_or ss i s → d ≡ get_or ds i d
    → are_opposite c s.place d.now s.literal ≡ true → is_in s.place (map (λ k. k.0) (map clash_of (take (length ss - (i + 1)) (drop (i + 1) ss)))) ≡ true
    → lent_fit c ss ds 0 ≡ lent_fit c ss ds i → false ≡ clashes_fit c (map clash_of ss) (lent_clauses ds)
lent_taken c ss ds i s d h same is was e taken from =
    let k : i < length ds = omega (arith, h, same) in
    sym (from ∙ clash_taken c ss (lent_clauses ds) i s d.now h (omega (arith, k, lent_length ds)) is (lent_at ds i d k was) e taken)

pub lent_on : (c : ClauseTree) (ss : List Satellite) (ds : List (Bor ClauseTree)) (i : ℕ) (s : Satellite) (d : Bor ClauseTree) → i < length ss → length ds ≡ length ss → s ≡ get_or ss i s → d ≡ get_or ds i d
    → are_opposite c s.place d.now s.literal ≡ true → is_in s.place (map (λ k. k.0) (map clash_of (take (length ss - (i + 1)) (drop (i + 1) ss)))) ≡ false
    → lent_fit c ss ds 0 ≡ lent_fit c ss ds i → lent_fit c ss ds 0 ≡ lent_fit c ss ds (i + 1)
lent_on c ss ds i s d h same is was e taken from =
    let k : i < length ds = omega (arith, h, same) in
    from ∙ clash_on c ss (lent_clauses ds) i s d.now h (omega (arith, k, lent_length ds)) is (lent_at ds i d k was) e taken

pub lent_done : (c : ClauseTree) (ss : List Satellite) (ds : List (Bor ClauseTree)) (i : ℕ) → length ds ≡ length ss → length ss ≤ i → lent_fit c ss ds 0 ≡ lent_fit c ss ds i → true ≡ clashes_fit c (map clash_of ss) (lent_clauses ds)
lent_done c ss ds i same h from = sym (from ∙ clash_done c ss (lent_clauses ds) i (lent_length ds ∙ same) h)

-- a nucleus and the clauses behind it
pub fits_none : (ks : List Clash) (ps : List (Bor ClauseTree)) → ps ≡ [] → (clash_rule ks).fits (lent_clauses ps) ≡ false
fits_none ks ps e = ap (λ cs. (clash_rule ks).fits (lent_clauses cs)) e

pub fits_alone : (ks : List Clash) (ps ds : List (Bor ClauseTree)) (p : Bor ClauseTree) → ps ≡ p ∷ ds → length ds ≡ 0 → (clash_rule ks).fits (lent_clauses ps) ≡ false
fits_alone ks ps ds p e h = ap (λ cs. (clash_rule ks).fits (lent_clauses cs)) e ∙ clash_few ks (p.now ∷ lent_clauses ds) (omega (arith, lent_length ds, h))

pub fits_uneven : (ss : List Satellite) (ps ds : List (Bor ClauseTree)) (p : Bor ClauseTree) → ps ≡ p ∷ ds → (length ds ≡ length ss → ⊥) → (clash_rule (map clash_of ss)).fits (lent_clauses ps) ≡ false
fits_uneven ss ps ds p e h =
    ap (λ cs. (clash_rule (map clash_of ss)).fits (lent_clauses cs)) e
    ∙ clash_uneven ss (p.now ∷ lent_clauses ds) (λ same. let n : suc (length (lent_clauses ds)) ≡ length ss + 1 = same in h (omega (arith, lent_length ds, n)))

pub fits_whole : (ks : List Clash) (ps ds : List (Bor ClauseTree)) (p : Bor ClauseTree) → ps ≡ p ∷ ds → (length ds ≡ 0 → ⊥) → (clash_rule ks).fits (lent_clauses ps) ≡ clashes_fit p.now ks (lent_clauses ds)
fits_whole ks ps ds p e some = ap (λ cs. (clash_rule ks).fits (lent_clauses cs)) e ∙ by ds some
  where
    by : (es : List (Bor ClauseTree)) → (length es ≡ 0 → ⊥) → (clash_rule ks).fits (p.now ∷ lent_clauses es) ≡ clashes_fit p.now ks (lent_clauses es)
    by [] h = absurd (h refl)
    by (d ∷ es) h = refl

-- a satellite by its place
abbrev pub satellite_at : List Satellite → ℕ → Satellite
satellite_at ss i = get_or ss i record { place = 0; clause = 0; literal = 0 }

pub satellite_is : (ss : List Satellite) (i : ℕ) → i < length ss → satellite_at ss i ≡ get_or ss i (satellite_at ss i)
satellite_is [] i h = absurd (omega arith)
satellite_is (s ∷ ss) zero h = refl
satellite_is (s ∷ ss) (suc i) h = satellite_is ss i (omega arith)
