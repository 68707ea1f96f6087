-- The literals that aren't used, place by place.
use Rattle.std.proofs.Common.{◌≡◌, ℕ, zero, suc, ◌<◌, ◌==◌, ◌||◌, Bool, true, false, if◌then◌else◌, length, List, [], ◌∷◌, ◌++◌, get_or, set, take, drop, replicate, refl, sym, ap, ◌∙◌, arith, eq-eqb, get_or-set_same, get_or-set_other, length-set}
use Rattle.std.proofs.lemmas.Bool.{eqb-true, false≢true}
use Rattle.fol_core.specs.Literals.{Lit, ClauseTree}
use Rattle.subsume.specs.Places.{is_taken, marks}
use Rattle.subsume.specs.Unused.{unused}

-- of the literals from a place on
pub unused_here : (us : List Bool) (d : ClauseTree) (i : ℕ) (k : Lit) → i < length d → length us ≡ length d
    → unused (drop i us) (drop i d) ≡ (if get_or us i false then unused (drop (suc i) us) (drop (suc i) d) else get_or d i k ∷ unused (drop (suc i) us) (drop (suc i) d))
unused_here us [] i k h e = absurd (omega (arith, h))
unused_here [] (l ∷ d) i k h e = cc
unused_here (u ∷ us) (l ∷ d) zero k h e = refl
unused_here (u ∷ us) (l ∷ d) (suc i) k h e = unused_here us d i k (omega (arith, h)) (omega (arith, e))

-- of those before it, and itself
pub unused_next : (us : List Bool) (d : ClauseTree) (i : ℕ) (k : Lit) → i < length d → length us ≡ length d
    → unused (take (suc i) us) (take (suc i) d) ≡ unused (take i us) (take i d) ++ (if get_or us i false then [] else get_or d i k ∷ [])
unused_next us [] i k h e = absurd (omega (arith, h))
unused_next [] (l ∷ d) i k h e = cc
unused_next (u ∷ us) (l ∷ d) zero k h e = refl
unused_next (u ∷ us) (l ∷ d) (suc i) k h e = by u (unused_next us d i k (omega (arith, h)) (omega (arith, e)))
  where
    by : (b : Bool) → unused (take (suc i) us) (take (suc i) d) ≡ unused (take i us) (take i d) ++ (if get_or us i false then [] else get_or d i k ∷ [])
        → (if b then unused (take (suc i) us) (take (suc i) d) else l ∷ unused (take (suc i) us) (take (suc i) d))
        ≡ (if b then unused (take i us) (take i d) else l ∷ unused (take i us) (take i d)) ++ (if get_or us i false then [] else get_or d i k ∷ [])
    by true same = same
    by false same = ap (λ c. l ∷ c) same

-- all but the one at a place that is marked now
pub unused_marked : (us : List Bool) (d : ClauseTree) (i : ℕ) → i < length d → length us ≡ length d → unused (set us i true) d ≡ unused (take i us) (take i d) ++ unused (drop (suc i) us) (drop (suc i) d)
unused_marked us [] i h e = absurd (omega (arith, h))
unused_marked [] (l ∷ d) i h e = cc
unused_marked (u ∷ us) (l ∷ d) zero h e = refl
unused_marked (u ∷ us) (l ∷ d) (suc i) h e = by u (unused_marked us d i (omega (arith, h)) (omega (arith, e)))
  where
    by : (b : Bool) → unused (set us i true) d ≡ unused (take i us) (take i d) ++ unused (drop (suc i) us) (drop (suc i) d)
        → (if b then unused (set us i true) d else l ∷ unused (set us i true) d)
        ≡ (if b then unused (take i us) (take i d) else l ∷ unused (take i us) (take i d)) ++ unused (drop (suc i) us) (drop (suc i) d)
    by true same = same
    by false same = ap (λ c. l ∷ c) same

-- a place is marked where it was, or where it is taken
pub marked_at : (us : List Bool) (ps : List ℕ) (i : ℕ) → i < length us → get_or (marks us ps) i false ≡ (get_or us i false || is_taken ps i)
marked_at us [] i h = by (get_or us i false)
  where
    by : (b : Bool) → b ≡ (b || false)
    by true = refl
    by false = refl
marked_at us (p ∷ ps) i h =
    let same : length (set us p true) ≡ length us = length-set us p true in
    marked_at (set us p true) ps i (omega (arith, same, h)) ∙ by (p == i) refl
  where
    by : (b : Bool) → (p == i) ≡ b → (get_or (set us p true) i false || is_taken ps i) ≡ (get_or us i false || (b || is_taken ps i))
    by true e =
        let here : p ≡ i = eqb-true p i e in
        ap (λ b. b || is_taken ps i) (ap (λ q. get_or (set us q true) i false) here ∙ get_or-set_same us i true false h) ∙ sym (all_or (get_or us i false) (is_taken ps i))
      where
        all_or : (b d : Bool) → (b || (true || d)) ≡ true
        all_or true d = refl
        all_or false d = refl
    by false e = ap (λ b. b || is_taken ps i) (get_or-set_other us p i true false (λ here. false≢true (sym e ∙ eq-eqb p i (sym here))))

pub marks_more : (us : List Bool) (ps : List ℕ) (a : ℕ) → marks us (ps ++ a ∷ []) ≡ set (marks us ps) a true
marks_more us [] a = refl
marks_more us (p ∷ ps) a = marks_more (set us p true) ps a

pub marks_length : (us : List Bool) (ps : List ℕ) → length (marks us ps) ≡ length us
marks_length us [] = refl
marks_length us (p ∷ ps) = marks_length (set us p true) ps ∙ length-set us p true

-- where none is marked, all are left
pub unused_all : (d : ClauseTree) (n : ℕ) → n ≡ length d → unused (replicate n false) d ≡ d
unused_all [] zero e = refl
unused_all [] (suc n) e = refl
unused_all (l ∷ d) zero e = cc
unused_all (l ∷ d) (suc n) e = ap (λ c. l ∷ c) (unused_all d n (omega (arith, e)))
