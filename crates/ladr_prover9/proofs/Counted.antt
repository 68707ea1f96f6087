-- What a search has counted.
use Rattle.std.proofs.Common.{◌≡◌, ℕ, zero, suc, ◌<◌, List, [], ◌∷◌, ◌++◌, length, map, get_or, refl, sym, ap, ap₂, subst, ◌∙◌, arith, length-append}
use Rattle.std.proofs.lemmas.List.{length-map}
use Rattle.clause_store.specs.Lines.{PlainLine}
use Rattle.given_clause.specs.States.{found_of}
use Rattle.given_clause.specs.declared.state.FoundProof.{FoundProof}
use Rattle.prover_steps.specs.Searching as state
use Rattle.ladr_prover9.specs.Counting.{HasExtent, IsFirstProof}
use Rattle.ladr_prover9.specs.declared.printing.Extent.{Extent}

-- the first proof, with one proof more
pub first_noted : (all : List PlainLine) (ps : List state.FoundProof) (p : state.FoundProof) (n : ℕ) (old new extent : Extent) → n ≡ suc (length ps) → (n ≡ 1 → new ≡ extent) → (1 < n → new ≡ old)
    → IsFirstProof all ps old.length old.level → HasExtent all p.line extent.length extent.level → IsFirstProof all (ps ++ p ∷ []) new.length new.level
first_noted all [] p n old new extent e one more h is = subst (λ (x : Extent). HasExtent all p.line x.length x.level) (sym (one e)) is
first_noted all (q ∷ ps) p n old new extent e one more h is = subst (λ (x : Extent). HasExtent all q.line x.length x.level) (sym (more (omega (arith, e)))) h

-- of some proofs the last one
get_end : (ps : List state.FoundProof) (p d : state.FoundProof) → get_or (ps ++ p ∷ []) (length ps) d ≡ p
get_end [] p d = refl
get_end (q ∷ ps) p d = get_end ps p d

get_map : (xs : List FoundProof) (i : ℕ) (d : FoundProof) → found_of (get_or xs i d) ≡ get_or (map found_of xs) i (found_of d)
get_map [] i d = refl
get_map (x ∷ xs) zero d = refl
get_map (x ∷ xs) (suc i) d = get_map xs i d

pub last_found : (xs : List FoundProof) (ps : List state.FoundProof) (p : state.FoundProof) (n : ℕ) (none : FoundProof) → map found_of xs ≡ ps ++ p ∷ [] → n ≡ length ps → found_of (get_or xs n none) ≡ p
last_found xs ps p n none e count = get_map xs n none ∙ ap₂ (λ (qs : List state.FoundProof) (k : ℕ). get_or qs k (found_of none)) e count ∙ get_end ps p (found_of none)

pub one_behind : (xs : List FoundProof) (ps : List state.FoundProof) (p : state.FoundProof) → map found_of xs ≡ ps ++ p ∷ [] → length xs ≡ suc (length ps)
one_behind xs ps p e = let f : length (map found_of xs) ≡ length (ps ++ p ∷ []) = ap length e in omega (arith, f, length-map xs found_of, length-append ps (p ∷ []))
