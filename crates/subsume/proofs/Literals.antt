-- A literal that is matched to another one, of its sign.
use Rattle.std.proofs.Common.{◌≡◌, ℕ, zero, suc, ◌+◌, ◌<◌, ◌≤◌, Bool, true, false, if◌then◌else◌, List, [], ◌∷◌, ◌++◌, length, get_or, drop, Option, Some, None, is_some, slice_get, refl, sym, ap, ap₂, ◌∙◌, append-nil, arith}
use Rattle.std.specs.Option.{option_map, option_map_or}
use Rattle.std.proofs.lemmas.Option.{slice_get-get_or, slice_get-map}
use Rattle.fol_core.specs.ClauseView.{literal_of}
use Rattle.fol_core.specs.TermView.{tree_of}
use Rattle.fol_core.specs.declared.clause.Literal.{Literal}
use Rattle.derivation.specs.Places.{same_sign}
use Rattle.prover_steps.specs.Subsuming.{matched_literal}
use Rattle.substitutions.specs.Bindings.{Binding}
use Rattle.unifiers.specs.Matching.{matched}
use Rattle.term_matches.specs.Matched.{MatchesOnto}
use Rattle.term_matches.specs.Occurrences.{occurrences}
use Rattle.subsume.specs.Places.{literals_of, matched_at, completes, goes_on}
use Rattle.subsume.specs.Variables.{standing}

same_signs : (a b : Bool) → a ≡ b → same_sign a b ≡ true
same_signs true b e = sym e
same_signs false true e = cc
same_signs false false e = refl

other_signs : (a b : Bool) → (a ≡ b → ⊥) → same_sign a b ≡ false
other_signs true true e = absurd (e refl)
other_signs true false e = refl
other_signs false true e = refl
other_signs false false e = absurd (e refl)

pub signs_same : (l k : Literal) (bs : List Binding) → l.positive ≡ k.positive → matched_literal (literal_of l) (literal_of k) bs ≡ matched (tree_of l.atom) (tree_of k.atom) bs
signs_same l k bs e = ap (λ b. if b then matched (tree_of l.atom) (tree_of k.atom) bs else None) (same_signs l.positive k.positive e)

pub signs_differ : (l k : Literal) (bs : List Binding) → (l.positive ≡ k.positive → ⊥) → MatchesOnto false (matched_literal (literal_of l) (literal_of k) bs) bs bs
signs_differ l k bs e = record {
  is = ap (λ b. if b then matched (tree_of l.atom) (tree_of k.atom) bs else None) (other_signs l.positive k.positive e);
  front = ([], sym (append-nil bs));
}

-- whether bindings are found
pub found_is : (b : Bool) (o : Option (List Binding)) (old new : List Binding) → MatchesOnto b o old new → b ≡ is_some o
found_is true o old new h = sym (ap is_some h.is)
found_is false o old new h = sym (ap is_some h.is)

-- the literal at a place, if there is one
get_literal : (ls : List Literal) (i : ℕ) (l : Literal) → i < length ls → l ≡ get_or ls i l → slice_get (literals_of ls) i ≡ Some (literal_of l)
get_literal ls i l h is = slice_get-map literal_of ls i ∙ ap (option_map literal_of) (slice_get-get_or ls i l h ∙ ap (λ k. Some k) (sym is))

-- two literals at places are matched as they themselves are
pub matched_there : (bs : List Binding) (ls ks : List Literal) (i j : ℕ) (l k : Literal) → i < length ls → j < length ks → l ≡ get_or ls i l → k ≡ get_or ks j k
    → matched_at bs (slice_get (literals_of ls) i) (slice_get (literals_of ks) j) ≡ matched_literal (literal_of l) (literal_of k) bs
matched_there bs ls ks i j l k h m is was = ap₂ (matched_at bs) (get_literal ls i l h is) (get_literal ks j k m was)

-- variables of the literals from a place on
pub standing_here : (ls : List Literal) (i : ℕ) (l : Literal) → i < length ls → l ≡ get_or ls i l
    → standing (drop i (literals_of ls)) ≡ occurrences (tree_of l.atom) + standing (drop (suc i) (literals_of ls))
standing_here [] i l h is = absurd (omega (arith, h))
standing_here (k ∷ ls) zero l h is = let same : occurrences (tree_of k.atom) ≡ occurrences (tree_of l.atom) = ap (λ j. occurrences (tree_of j.atom)) (sym is) in ap (λ n. n + standing (literals_of ls)) same
standing_here (k ∷ ls) (suc i) l h is = standing_here ls i l (omega (arith, h)) is

-- room for a literal's variables, and then for those behind it
pub room_one : (ls : List Literal) (n m : ℕ) (l : Literal) (old room : ℕ) → n ≡ m → n < length ls → l ≡ get_or ls n l → old + standing (drop m (literals_of ls)) ≤ room → old + occurrences (tree_of l.atom) ≤ room
room_one ls n m l old room same h is few =
    let here : standing (drop n (literals_of ls)) ≡ occurrences (tree_of l.atom) + standing (drop (suc n) (literals_of ls)) = standing_here ls n l h is in
    let there : standing (drop n (literals_of ls)) ≡ standing (drop m (literals_of ls)) = ap (λ k. standing (drop k (literals_of ls))) same in
    omega (arith, here, there, few)

pub room_rest : (ls : List Literal) (n m k : ℕ) (l : Literal) (old new room : ℕ) → n ≡ m → k ≡ n + 1 → n < length ls → l ≡ get_or ls n l → old + standing (drop m (literals_of ls)) ≤ room → new ≤ old + occurrences (tree_of l.atom)
    → new + standing (drop k (literals_of ls)) ≤ room
room_rest ls n m k l old new room same next h is few added =
    let here : standing (drop n (literals_of ls)) ≡ occurrences (tree_of l.atom) + standing (drop (suc n) (literals_of ls)) = standing_here ls n l h is in
    let there : standing (drop n (literals_of ls)) ≡ standing (drop m (literals_of ls)) = ap (λ j. standing (drop j (literals_of ls))) same in
    let one : k ≡ suc n = omega (arith, next) in
    let behind : standing (drop k (literals_of ls)) ≡ standing (drop (suc n) (literals_of ls)) = ap (λ j. standing (drop j (literals_of ls))) one in
    omega (arith, here, there, behind, few, added)

-- where the next literal is matched, the others decide, and else it doesn't go on
module _ (ls ks : List Literal) (bs : List Binding) (ps : List ℕ) (n a : ℕ) (l k : Literal) (here : n ≡ length ps) (within : n < length ls) (inside : a < length ks) (is : l ≡ get_or ls n l) (was : k ≡ get_or ks a k) where
  next_is : (o : Option (List Binding)) → matched_literal (literal_of l) (literal_of k) bs ≡ o
      → option_map_or (λ more. completes (literals_of ls) (literals_of ks) more (ps ++ a ∷ [])) o false ≡ goes_on (literals_of ls) (literals_of ks) bs ps a
  next_is o e =
      ap (λ p. option_map_or (λ more. completes (literals_of ls) (literals_of ks) more (ps ++ a ∷ [])) p false)
      (sym e ∙ sym (matched_there bs ls ks n a l k within inside is was) ∙ ap (λ m. matched_at bs (slice_get (literals_of ls) m) (slice_get (literals_of ks) a)) here)

  pub goes_found : (b : Bool) (more : List Binding) (qs : List ℕ) → MatchesOnto true (matched_literal (literal_of l) (literal_of k) bs) bs more → qs ≡ ps ++ a ∷ []
      → b ≡ completes (literals_of ls) (literals_of ks) more qs → b ≡ goes_on (literals_of ls) (literals_of ks) bs ps a
  goes_found b more qs h e d = d ∙ ap (completes (literals_of ls) (literals_of ks) more) e ∙ next_is (Some more) h.is

  pub goes_nowhere : (more : List Binding) → MatchesOnto false (matched_literal (literal_of l) (literal_of k) bs) bs more → false ≡ goes_on (literals_of ls) (literals_of ks) bs ps a
  goes_nowhere more h = next_is None h.is
