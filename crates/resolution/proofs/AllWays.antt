-- All ways to take partners, where those that can't clash are left out.
use Rattle.std.proofs.Common.{◌≡◌, ℕ, zero, suc, ◌+◌, ◌<◌, ◌≤◌, Bool, true, false, not, ◌||◌, if◌then◌else◌, List, [], ◌∷◌, ◌++◌, length, get_or, map, filter, flat_map, take, None, refl, sym, ap, ap₂, ◌∙◌, subst, arith}
use Rattle.std.proofs.lemmas.List.{map-append, take_all, take_more}
use Rattle.fol_core.specs.ClauseView.{literal_of}
use Rattle.fol_core.specs.Literals.{ClauseTree}
use Rattle.fol_core.specs.declared.clause.Literal.{Literal}
use Rattle.derivation.specs.Later.{is_unit}
use Rattle.derivation.specs.Lines.{clash_inference}
use Rattle.derivation.specs.Places.{has_literal}
use Rattle.derivation.specs.Words.{clash_rule}
use Rattle.derivation.specs.declared.words.Satellite.{Satellite}
use Rattle.inference.specs.Judged.{clash_of}
use Rattle.prover_steps.specs.Clashing.{Held, Partner, Clashing, is_same_held, clashings, clashes_of, satellites_in, takes_part, places_of, unit_partners}
use Rattle.prover_steps.specs.Concluded.{Conclusion, concluded, inferred}
use Rattle.resolution.specs.Meeting.{NeverClash}
use Rattle.resolution.specs.Trying.{clashing_word, partners_in, partners_by}
use Rattle.resolution.specs.Ways.{Tried, ways_of, takes_number, comes_of, StandFor, StandForEach}
use Rattle.resolution.specs.declared.partners.ClashKind.{ClashKind}
use Rattle.resolution.specs.declared.partners.ClashKind.TheVariants.{Units}
use Rattle.resolution.proofs.Clashes.{ways_first, clash_word}
use Rattle.resolution.proofs.Failing.{none_inferred, never_concluded}
use Rattle.resolution.proofs.Going.{flat_kept, flat_same, flat_none, flat_mapped, flat_flat, length_places, place_at}

-- partners that can't clash give nothing
abbrev pub Vanishes : ClauseTree → (Clashing → List Conclusion) → Type 0
Vanishes c f = (ms : Clashing) (k : ℕ) (p : Partner) (es : Clashing) → NeverClash c k p.0.clause p.1 → f (ms ++ (k, p) ∷ es) ≡ []

clashings_first : (f : Clashing → List Conclusion) (k : ℕ) (ks : List ℕ) (all : List Partner)
    → flat_map f (clashings (k ∷ ks) all) ≡ flat_map (λ p. flat_map (λ ms. f ((k, p) ∷ ms)) (clashings ks all)) all
clashings_first f k ks all =
    flat_flat f (λ p. map (λ ms. (k, p) ∷ ms) (clashings ks all)) all
    ∙ flat_same (λ p. flat_map f (map (λ ms. (k, p) ∷ ms) (clashings ks all))) (λ p. flat_map (λ ms. f ((k, p) ∷ ms)) (clashings ks all)) all
    (λ p. flat_mapped f (λ ms. (k, p) ∷ ms) (clashings ks all))

-- so the ways without them give the same
pub ways_same : (c : ClauseTree) (all : List Partner) (f : Clashing → List Conclusion) → Vanishes c f → (ts : List Tried) (ks : List ℕ) → StandForEach c ts ks all
    → flat_map f (ways_of ts) ≡ flat_map f (clashings ks all)
ways_same c all f none [] [] stand = refl
ways_same c all f none [] (k ∷ ks) stand = absurd stand
ways_same c all f none (t ∷ ts) [] stand = absurd stand
ways_same c all f none (t ∷ ts) (k ∷ ks) stand =
    ways_first f t ts
    ∙ flat_same (λ p. flat_map (λ ms. f ((t.0, p) ∷ ms)) (ways_of ts)) (λ p. flat_map (λ ms. f ((t.0, p) ∷ ms)) (clashings ks all)) t.1
    (λ p. ways_same c all (λ ms. f ((t.0, p) ∷ ms)) (λ ms j q es never. none ((t.0, p) ∷ ms) j q es never) ts ks stand.2)
    ∙ ap (λ j. flat_map (λ p. flat_map (λ ms. f ((j, p) ∷ ms)) (clashings ks all)) t.1) stand.0
    ∙ stand.1 (λ p. flat_map (λ ms. f ((k, p) ∷ ms)) (clashings ks all)) (λ p never. flat_none (λ ms. f ((k, p) ∷ ms)) (clashings ks all) (λ ms. none [] k p ms never))
    ∙ sym (clashings_first f k ks all)

-- what comes of a nucleus vanishes there
module _ (kind : ClashKind) (n g : ℕ) (c : ClauseTree) where
  clashes_split : (ms : Clashing) (k : ℕ) (p : Partner) (es : Clashing) → map clash_of (satellites_in (ms ++ (k, p) ∷ es)) ≡ map clash_of (satellites_in ms) ++ (k, p.1) ∷ map clash_of (satellites_in es)
  clashes_split [] k p es = refl
  clashes_split (m ∷ ms) k p es = ap (λ ks. (m.0, m.1.1) ∷ ks) (clashes_split ms k p es)

  as_many : (ms : Clashing) → length (map clash_of (satellites_in ms)) ≡ length (map (λ m. m.1.0.clause) ms)
  as_many [] = refl
  as_many (m ∷ ms) = ap suc (as_many ms)

  pub comes_vanishes : (used : Bool) → Vanishes c (comes_of (clashing_word kind n) g used [] (c ∷ []))
  comes_vanishes used ms k p es never = by (used || takes_number g (ms ++ (k, p) ∷ es))
    where
      by : (b : Bool) → (if b then inferred (clashing_word kind n (satellites_in (ms ++ (k, p) ∷ es))) (c ∷ map (λ m. m.1.0.clause) (ms ++ (k, p) ∷ es)) else []) ≡ []
      by false = refl
      by true =
          let ss = satellites_in (ms ++ (k, p) ∷ es) in
          let clauses : map (λ m. m.1.0.clause) (ms ++ (k, p) ∷ es) ≡ map (λ m. m.1.0.clause) ms ++ p.0.clause ∷ map (λ m. m.1.0.clause) es = map-append (λ m. m.1.0.clause) ms ((k, p) ∷ es) in
          none_inferred (clashing_word kind n ss) (clash_inference n ss) (c ∷ map (λ m. m.1.0.clause) (ms ++ (k, p) ∷ es)) (clash_word kind n g ss)
          (subst (λ ds. concluded (clash_rule (map clash_of ss)) (c ∷ ds) ≡ None) (sym clauses)
          (never_concluded n ss c (map clash_of (satellites_in ms)) (k, p.1) (map clash_of (satellites_in es)) (map (λ m. m.1.0.clause) ms) p.0.clause (map (λ m. m.1.0.clause) es) (as_many ms)
          (clashes_split ms k p es) never))

-- what the code makes of a nucleus is what becomes of it
pub clashes_made : (kind : ClashKind) (g n : Held) (ts : List Tried) (ks : List ℕ) (all : List Partner) → StandForEach n.clause ts ks all
    → flat_map (comes_of (clashing_word kind n.number) g.number (is_same_held g n) [] (n.clause ∷ [])) (ways_of ts) ≡ clashes_of (clashing_word kind) g n (clashings ks all)
clashes_made kind g n ts ks all stand =
    let comes = comes_of (clashing_word kind n.number) g.number (is_same_held g n) [] (n.clause ∷ []) in
    ways_same n.clause all comes (comes_vanishes kind n.number g.number n.clause (is_same_held g n)) ts ks stand
    ∙ sym (flat_kept (takes_part g n) (λ ms. inferred (clashing_word kind n.number (satellites_in ms)) (n.clause ∷ map (λ m. m.1.0.clause) ms)) (clashings ks all))

pub clashes_given : (kind : ClashKind) (g n : Held) (ts : List Tried) (ks : List ℕ) (all : List Partner) (number given : ℕ) (used : Bool) (ss : List Satellite) (cs : List ClauseTree)
    → number ≡ n.number → given ≡ g.number → used ≡ is_same_held g n → ss ≡ [] → cs ≡ n.clause ∷ [] → StandForEach n.clause ts ks all
    → flat_map (comes_of (clashing_word kind number) given used ss cs) (ways_of ts) ≡ clashes_of (clashing_word kind) g n (clashings ks all)
clashes_given kind g n ts ks all number given used ss cs numbered named same none one stand =
    ap (λ x. flat_map (comes_of (clashing_word kind x) given used ss cs) (ways_of ts)) numbered ∙ ap (λ x. flat_map (comes_of (clashing_word kind n.number) x used ss cs) (ways_of ts)) named
    ∙ ap (λ x. flat_map (comes_of (clashing_word kind n.number) g.number x ss cs) (ways_of ts)) same
    ∙ ap₂ (λ x y. flat_map (comes_of (clashing_word kind n.number) g.number (is_same_held g n) x y) (ways_of ts)) none one
    ∙ clashes_made kind g n ts ks all stand

-- one place more
pub stand_on : (c : ClauseTree) (all : List Partner) (ts : List Tried) (ks : List ℕ) (t : Tried) → StandForEach c ts ks all → StandFor c t.0 t.1 all → StandForEach c (ts ++ t ∷ []) (ks ++ t.0 ∷ []) all
stand_on c all [] [] t each one = (refl, one, tt)
stand_on c all [] (k ∷ ks) t each one = absurd each
stand_on c all (s ∷ ts) [] t each one = absurd each
stand_on c all (s ∷ ts) (k ∷ ks) t each one = (each.0, each.1, stand_on c all ts ks t each.2 one)

kept_more : (test : ℕ → Bool) (xs : List ℕ) (x : ℕ) → filter test (xs ++ x ∷ []) ≡ filter test xs ++ (if test x then x ∷ [] else [])
kept_more test [] x = refl
kept_more test (y ∷ xs) x = by (test y) (kept_more test xs x)
  where
    by : (b : Bool) → filter test (xs ++ x ∷ []) ≡ filter test xs ++ (if test x then x ∷ [] else [])
        → (if b then y ∷ filter test (xs ++ x ∷ []) else filter test (xs ++ x ∷ [])) ≡ (if b then y ∷ filter test xs else filter test xs) ++ (if test x then x ∷ [] else [])
    by true rest = ap (λ ys. y ∷ ys) rest
    by false rest = rest

pub kept_next : (test : ℕ → Bool) (c : ClauseTree) (i : ℕ) → i < length c → filter test (take i (places_of c)) ++ (if test i then i ∷ [] else []) ≡ filter test (take (i + 1) (places_of c))
kept_next test c i lt =
    let at : 0 + i ≡ i = omega arith in
    sym (kept_more test (take i (places_of c)) i)
    ∙ ap (filter test) (ap (λ n. take i (places_of c) ++ n ∷ []) (sym (place_at 0 c i i lt ∙ at)) ∙ sym (take_more (places_of c) i i (omega (arith, length_places 0 c))))

pub kept_all : (test : ℕ → Bool) (c : ClauseTree) (i : ℕ) → length c ≤ i → filter test (take i (places_of c)) ≡ filter test (places_of c)
kept_all test c i end = ap (filter test) (take_all i (places_of c) (omega (arith, length_places 0 c)))

-- negative literals as the code reads them
pub negative_there : (ls : List Literal) (a : ℕ) (d : Literal) → a < length ls → has_literal false (map literal_of ls) a ≡ not (get_or ls a d).positive
negative_there [] a d h = absurd (omega arith)
negative_there (l ∷ ls) zero d h = by l.positive
  where
    by : (b : Bool) → has_literal false (map literal_of (record { positive = b; atom = l.atom } ∷ ls)) zero ≡ not b
    by true = refl
    by false = refl
negative_there (l ∷ ls) (suc a) d h = negative_there ls a d (omega arith)

-- units are partners by their one literal
unit_places : (c : ClauseTree) → is_unit c ≡ true → places_of c ≡ 0 ∷ []
unit_places [] h = cc
unit_places (l ∷ []) h = refl
unit_places (l ∷ k ∷ c) h = cc

pub units_are : (held : List Held) → partners_by Units held ≡ unit_partners held
units_are [] = refl
units_are (h ∷ held) = by (is_unit h.clause) refl (units_are held)
  where
    by : (b : Bool) → is_unit h.clause ≡ b → partners_by Units held ≡ unit_partners held
        → flat_map partners_in (if b then h ∷ filter (λ (d : Held). is_unit d.clause) held else filter (λ (d : Held). is_unit d.clause) held)
        ≡ map (λ d. (d, 0)) (if b then h ∷ filter (λ (d : Held). is_unit d.clause) held else filter (λ (d : Held). is_unit d.clause) held)
    by true e rest = ap₂ (λ ks ps. map (λ a. (h, a)) ks ++ ps) (unit_places h.clause e) rest
    by false e rest = rest
