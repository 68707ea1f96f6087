-- The ways to match a literal to one of others, place by place.
use Rattle.std.proofs.Common.{◌≡◌, ℕ, zero, suc, ◌+◌, ◌<◌, ◌≤◌, Bool, true, false, not, ◌==◌, ◌&&◌, ◌||◌, if◌then◌else◌, length, List, [], ◌∷◌, ◌++◌, Some, None, slice_get, get_or, set, take, drop, replicate, refl, sym, ap, ap₂, subst, ◌∙◌, append_assoc, append-nil, arith}
use Rattle.std.proofs.lemmas.List.{length-append, length-map, length-replicate, get_or-replicate, drop_all}
use Rattle.std.specs.List.{list_any}
use Rattle.std.specs.Option.{option_map_or}
use Rattle.fol_core.specs.Literals.{Lit, ClauseTree}
use Rattle.substitutions.specs.Bindings.{Binding}
use Rattle.derivation.specs.Places.{others}
use Rattle.prover_steps.proofs.Chains.{get_behind, others_behind}
use Rattle.prover_steps.specs.Clashing.{places_from}
use Rattle.prover_steps.specs.Subsuming.{matched_literal, subsumes_with, subsumes}
use Rattle.fol_core.specs.ClauseView.{literal_of}
use Rattle.fol_core.specs.declared.clause.Literal.{Literal}
use Rattle.subsume.specs.Places.{literals_of, matched_at, is_taken, marked, completes, goes_on, serves}
use Rattle.subsume.specs.Unused.{unused, way}
use Rattle.subsume.proofs.Marks.{unused_here, unused_next, unused_marked, unused_all, marked_at, marks_more, marks_length}

module _ (bs : List Binding) (l : Lit) (c : ClauseTree) where
  -- the ways by the literals from one on
  abbrev pub ways : ClauseTree → ClauseTree → Bool
  ways front [] = false
  ways front (k ∷ d) = way bs l c k (front ++ d) || ways (front ++ k ∷ []) d

  abbrev at_place : ClauseTree → ℕ → Bool
  at_place d a = option_map_or (λ more. subsumes_with more c (others (λ k. k == a) d)) (option_map_or (λ k. matched_literal l k bs) (slice_get d a) None) false

  placed_ways : (front d : ClauseTree) → list_any (at_place (front ++ d)) (places_from (length front) d) ≡ ways front d
  placed_ways front [] = refl
  placed_ways front (k ∷ d) = ap₂ (λ a b. a || b) here (rest (placed_ways (front ++ k ∷ []) d))
    where
      here : at_place (front ++ k ∷ d) (length front) ≡ way bs l c k (front ++ d)
      here =
          ap (λ o. option_map_or (λ more. subsumes_with more c (others (λ j. j == length front) (front ++ k ∷ d))) (option_map_or (λ j. matched_literal l j bs) o None) false) (get_behind front k d)
          ∙ ap (λ e. option_map_or (λ more. subsumes_with more c e) (matched_literal l k bs) false) (others_behind front k d)

      longer : length (front ++ k ∷ []) ≡ suc (length front)
      longer = length-append front (k ∷ []) ∙ omega arith

      rest : list_any (at_place ((front ++ k ∷ []) ++ d)) (places_from (length (front ++ k ∷ [])) d) ≡ ways (front ++ k ∷ []) d
          → list_any (at_place (front ++ k ∷ d)) (places_from (suc (length front)) d) ≡ ways (front ++ k ∷ []) d
      rest h =
          subst (λ n. list_any (at_place (front ++ k ∷ d)) (places_from n d) ≡ ways (front ++ k ∷ []) d) longer
          (subst (λ e. list_any (at_place e) (places_from (length (front ++ k ∷ [])) d) ≡ ways (front ++ k ∷ []) d) (append_assoc front (k ∷ []) d) h)

  -- they are the ways of the definition
  pub ways_are : (d : ClauseTree) → subsumes_with bs (l ∷ c) d ≡ ways [] d
  ways_are d = placed_ways [] d

  -- the ways by the literals that aren't used, from a place on
  abbrev pub ways_from : List Bool → ClauseTree → ℕ → Bool
  ways_from us d i = ways (unused (take i us) (take i d)) (unused (drop i us) (drop i d))

  pub ways_begin : (us : List Bool) (d : ClauseTree) → subsumes_with bs (l ∷ c) (unused us d) ≡ ways_from us d 0
  ways_begin us d = ways_are (unused us d)

  pub ways_end : (us : List Bool) (d : ClauseTree) (i : ℕ) → length us ≡ length d → length d ≤ i → ways_from us d i ≡ false
  ways_end us d i e h = ap (ways (unused (take i us) (take i d))) (ap₂ unused (drop_all i us (omega (arith, e, h))) (drop_all i d h))

  pub used_step : (us : List Bool) (d : ClauseTree) (i : ℕ) (k : Lit) → i < length d → length us ≡ length d → (b : Bool) → get_or us i false ≡ b
      → ways_from us d i ≡ (if b then ways_from us d (suc i) else (way bs l c (get_or d i k) (unused (set us i true) d) || ways_from us d (suc i)))
  used_step us d i k h e true is =
      ap (ways (unused (take i us) (take i d))) (unused_here us d i k h e ∙ ap (λ b. if b then unused (drop (suc i) us) (drop (suc i) d) else get_or d i k ∷ unused (drop (suc i) us) (drop (suc i) d)) is)
      ∙ ap (λ f. ways f (unused (drop (suc i) us) (drop (suc i) d)))
      (sym (unused_next us d i k h e ∙ ap (λ b. unused (take i us) (take i d) ++ (if b then [] else get_or d i k ∷ [])) is ∙ append-nil _))
  used_step us d i k h e false is =
      ap (ways (unused (take i us) (take i d))) (unused_here us d i k h e ∙ ap (λ b. if b then unused (drop (suc i) us) (drop (suc i) d) else get_or d i k ∷ unused (drop (suc i) us) (drop (suc i) d)) is)
      ∙ ap₂ (λ a b. a || b) (ap (way bs l c (get_or d i k)) (sym (unused_marked us d i h e)))
      (ap (λ f. ways f (unused (drop (suc i) us) (drop (suc i) d))) (sym (unused_next us d i k h e ∙ ap (λ b. unused (take i us) (take i d) ++ (if b then [] else get_or d i k ∷ [])) is)))

first_left : (c : ClauseTree) (n : ℕ) (l : Lit) → slice_get c n ≡ Some l → drop n c ≡ l ∷ drop (suc n) c
first_left [] n l h = cc
first_left (k ∷ c) zero l h = cc
first_left (k ∷ c) (suc n) l h = first_left c n l h

get_there : (d : ClauseTree) (a : ℕ) → a < length d → (k : Lit) × (slice_get d a ≡ Some k) × (get_or d a k ≡ k)
get_there [] a h = absurd (omega (arith, h))
get_there (k ∷ d) zero h = (k, refl, refl)
get_there (k ∷ d) (suc a) h = get_there d a (omega (arith, h))

-- the ways by places, from one on
abbrev pub serves_from : ClauseTree → ClauseTree → List Binding → List ℕ → ℕ → Bool
serves_from c d bs ps i = list_any (serves c d bs ps) (places_from i (drop i d))

module _ (c d : ClauseTree) (bs : List Binding) (ps : List ℕ) where
  serves_step : (i : ℕ) → i < length d → serves_from c d bs ps i ≡ (serves c d bs ps i || serves_from c d bs ps (suc i))
  serves_step i h = let (k, there, is) = get_there d i h in ap (λ e. list_any (serves c d bs ps) (places_from i e)) (first_left d i k there)

  serves_end : (i : ℕ) → length d ≤ i → serves_from c d bs ps i ≡ false
  serves_end i h = ap (λ e. list_any (serves c d bs ps) (places_from i e)) (drop_all i d h)

module _ (c d : ClauseTree) (bs : List Binding) (ps : List ℕ) (l : Lit) (next : slice_get c (length ps) ≡ Some l) where
  even : length (marked d ps) ≡ length d
  even = marks_length (replicate (length d) false) ps ∙ length-replicate (length d) false

  -- a way by a place is one where the literal is matched, and the others follow
  way_goes_on : (a : ℕ) (k : Lit) → slice_get d a ≡ Some k → way bs l (drop (suc (length ps)) c) k (unused (set (marked d ps) a true) d) ≡ goes_on c d bs ps a
  way_goes_on a k there =
      ap₂ (λ us n. option_map_or (λ more. subsumes_with more (drop n c) (unused us d)) (matched_literal l k bs) false)
      (sym (marks_more (replicate (length d) false) ps a)) (sym longer)
      ∙ ap₂ (λ o p. option_map_or (λ more. completes c d more (ps ++ a ∷ [])) (matched_at bs o p) false) (sym next) (sym there)
    where
      longer : length (ps ++ a ∷ []) ≡ suc (length ps)
      longer = length-append ps (a ∷ []) ∙ omega arith

  one_more : (i : ℕ) → i < length d → ways_from bs l (drop (suc (length ps)) c) (marked d ps) d i
      ≡ (serves c d bs ps i || ways_from bs l (drop (suc (length ps)) c) (marked d ps) d (suc i))
  one_more i h = let (k, there, is) = get_there d i h in by k there is (is_taken ps i) refl
    where
      taken : get_or (marked d ps) i false ≡ is_taken ps i
      taken =
          let long : length (replicate (length d) false) ≡ length d = length-replicate (length d) false in
          marked_at (replicate (length d) false) ps i (omega (arith, long, h)) ∙ ap (λ b. b || is_taken ps i) (get_or-replicate (length d) i false false h)

      by : (k : Lit) → slice_get d i ≡ Some k → get_or d i k ≡ k → (b : Bool) → is_taken ps i ≡ b → ways_from bs l (drop (suc (length ps)) c) (marked d ps) d i
          ≡ ((not b && goes_on c d bs ps i) || ways_from bs l (drop (suc (length ps)) c) (marked d ps) d (suc i))
      by k there is true e = used_step bs l (drop (suc (length ps)) c) (marked d ps) d i k h even true (taken ∙ e)
      by k there is false e =
          used_step bs l (drop (suc (length ps)) c) (marked d ps) d i k h even false (taken ∙ e)
          ∙ ap (λ b. b || ways_from bs l (drop (suc (length ps)) c) (marked d ps) d (suc i))
          (ap (λ j. way bs l (drop (suc (length ps)) c) j (unused (set (marked d ps) i true) d)) is ∙ way_goes_on i k there)

  ways_serve : (m i : ℕ) → i + m ≡ length d → ways_from bs l (drop (suc (length ps)) c) (marked d ps) d i ≡ serves_from c d bs ps i
  ways_serve zero i e = ways_end bs l (drop (suc (length ps)) c) (marked d ps) d i even (omega (arith, e)) ∙ sym (serves_end c d bs ps i (omega (arith, e)))
  ways_serve (suc m) i e =
      one_more i (omega (arith, e)) ∙ ap (λ b. serves c d bs ps i || b) (ways_serve m (suc i) (omega (arith, e))) ∙ sym (serves_step c d bs ps i (omega (arith, e)))

  pub completes_serves : completes c d bs ps ≡ serves_from c d bs ps 0
  completes_serves =
      ap (λ e. subsumes_with bs e (unused (marked d ps) d)) (first_left c (length ps) l next)
      ∙ ways_begin bs l (drop (suc (length ps)) c) (marked d ps) d ∙ ways_serve (length d) 0 (omega arith)

-- by the literals of the code
module _ (ls ks : List Literal) (bs : List Binding) (ps : List ℕ) where
  pub all_placed : length ls ≤ length ps → completes (literals_of ls) (literals_of ks) bs ps ≡ true
  all_placed h =
      let same : length (literals_of ls) ≡ length ls = length-map ls literal_of in
      ap (λ e. subsumes_with bs e (unused (marked (literals_of ks) ps) (literals_of ks))) (drop_all (length ps) (literals_of ls) (omega (arith, same, h)))

  pub ways_begin_at : length ps < length ls → completes (literals_of ls) (literals_of ks) bs ps ≡ serves_from (literals_of ls) (literals_of ks) bs ps 0
  ways_begin_at h =
      let same : length (literals_of ls) ≡ length ls = length-map ls literal_of in
      let (l, there, is) = get_there (literals_of ls) (length ps) (omega (arith, same, h)) in completes_serves (literals_of ls) (literals_of ks) bs ps l there

  serves_next : (i : ℕ) → i < length ks
      → serves_from (literals_of ls) (literals_of ks) bs ps i ≡ (serves (literals_of ls) (literals_of ks) bs ps i || serves_from (literals_of ls) (literals_of ks) bs ps (i + 1))
  serves_next i h =
      let same : length (literals_of ks) ≡ length ks = length-map ks literal_of in
      let next : suc i ≡ i + 1 = omega arith in
      serves_step (literals_of ls) (literals_of ks) bs ps i (omega (arith, same, h)) ∙ ap (λ n. serves (literals_of ls) (literals_of ks) bs ps i || serves_from (literals_of ls) (literals_of ks) bs ps n) next

  pub ways_found : (i : ℕ) → i < length ks → serves (literals_of ls) (literals_of ks) bs ps i ≡ true → serves_from (literals_of ls) (literals_of ks) bs ps i ≡ true
  ways_found i h e = serves_next i h ∙ ap (λ b. b || serves_from (literals_of ls) (literals_of ks) bs ps (i + 1)) e

  pub ways_behind : (i : ℕ) → i < length ks → serves (literals_of ls) (literals_of ks) bs ps i ≡ false
      → serves_from (literals_of ls) (literals_of ks) bs ps i ≡ serves_from (literals_of ls) (literals_of ks) bs ps (i + 1)
  ways_behind i h e = serves_next i h ∙ ap (λ b. b || serves_from (literals_of ls) (literals_of ks) bs ps (i + 1)) e

  pub ways_over : (i : ℕ) → length ks ≤ i → serves_from (literals_of ls) (literals_of ks) bs ps i ≡ false
  ways_over i h =
      let same : length (literals_of ks) ≡ length ks = length-map ks literal_of in serves_end (literals_of ls) (literals_of ks) bs ps i (omega (arith, same, h))

-- where no literal has a place yet
pub from_nothing : (ls ks : List Literal) (bs : List Binding) (ps : List ℕ) (c d : ClauseTree) → literals_of ls ≡ c → literals_of ks ≡ d → bs ≡ [] → ps ≡ [] → completes (literals_of ls) (literals_of ks) bs ps ≡ subsumes c d
from_nothing ls ks bs ps c d first second nothing none =
    ap₂ (λ es qs. completes (literals_of ls) (literals_of ks) es qs) nothing none ∙ ap₂ (λ e f. subsumes_with [] e (unused (replicate (length f) false) f)) first second ∙ ap (subsumes_with [] c) (unused_all d (length d) refl)
