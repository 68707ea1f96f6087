-- A clause of the queue gives one proof at most.
use Rattle.std.proofs.Common.{◌≡◌, ℕ, zero, suc, ◌≤◌, ◌<◌, inl, inr, refl, sym, ap, ap₂, ◌∙◌, subst, Option, Some, None, is_some, if◌then◌else◌, List, [], ◌∷◌, ◌++◌, length, map, get_or, arith, length-append}
use Rattle.std.proofs.lemmas.List.{length-map}
use Rattle.given_clause.specs.States.{found_of}
use Rattle.given_clause.specs.declared.state.FoundProof as code
use Rattle.prover.specs.Answers.{HasQueue, FindsAtOnce}
use Rattle.prover_proofs.proofs.Growing.{HasOneMore, IsGrown, queue_grown, given_same, gives_next}
use Rattle.prover_steps.specs.Searching.{Setting, Queued, Reason, FoundProof, SearchState, queue_next, next_state}

-- one proof more, or none
pub grown_at : (st : Setting) (s t : SearchState) → t ≡ next_state st s → s.ended ≡ None → HasQueue s → IsGrown s t
grown_at st s t e going queued = subst (λ (u : SearchState). IsGrown s u) (sym e) (queue_grown st s queued.0 queued.1.0 going queued.1.1)

no_more : (ps qs : List FoundProof) → HasOneMore ps qs → length qs ≤ length ps → qs ≡ ps
no_more ps qs (inl e) h = e
no_more ps qs (inr x) h = let e : length qs ≡ length (ps ++ x.0 ∷ []) = ap length x.1 in absurd (omega (arith, h, e, length-append ps (x.0 ∷ [])))

get_end : (ps : List FoundProof) (p d : FoundProof) → get_or (ps ++ p ∷ []) (length ps) d ≡ p
get_end [] p d = refl
get_end (q ∷ ps) p d = get_end ps p d

found_here : (ps qs : List FoundProof) (d : FoundProof) → HasOneMore ps qs → length ps < length qs → qs ≡ ps ++ get_or qs (length ps) d ∷ []
found_here ps qs d (inl e) h = let f : length qs ≡ length ps = ap length e in absurd (omega (arith, h, f))
found_here ps qs d (inr x) h = x.1 ∙ ap (λ (p : FoundProof). ps ++ p ∷ []) (sym (ap (λ (rs : List FoundProof). get_or rs (length ps) d) x.1 ∙ get_end ps x.0 d))

get_map : (xs : List code.FoundProof) (i : ℕ) (d : code.FoundProof) → found_of (get_or xs i d) ≡ get_or (map found_of xs) i (found_of d)
get_map [] i d = refl
get_map (x ∷ xs) zero d = refl
get_map (x ∷ xs) (suc i) d = get_map xs i d

-- a step that finds no proof
pub none_found : (st : Setting) (s t : SearchState) → t ≡ next_state st s → s.ended ≡ None → HasQueue s → length t.proofs ≤ length s.proofs → FindsAtOnce s t None
none_found st s t e going queued h = no_more s.proofs t.proofs (grown_at st s t e going queued).proofs h

-- the last proof is the one that was found
pub one_found : (st : Setting) (s t : SearchState) (xs : List code.FoundProof) (n : ℕ) (x : code.FoundProof) → t ≡ next_state st s → s.ended ≡ None → HasQueue s → t.proofs ≡ map found_of xs → n ≡ length s.proofs → n < length xs → x ≡ get_or xs n x
    → FindsAtOnce s t (Some x.line)
one_found st s t xs n x e going queued as_code count longer is =
    (found_of x, found_here s.proofs t.proofs (found_of x) (grown_at st s t e going queued).proofs (omega (arith, count, longer, many)) ∙ ap (λ (p : FoundProof). s.proofs ++ p ∷ []) (sym same), refl)
  where
    many : length t.proofs ≡ length xs
    many = ap length as_code ∙ length-map xs found_of

    same : found_of x ≡ get_or t.proofs (length s.proofs) (found_of x)
    same = ap found_of is ∙ get_map xs n x ∙ ap₂ (λ (ps : List FoundProof) (k : ℕ). get_or ps k (found_of x)) (sym as_code) count

-- a proof is found where a clause of the queue is processed, so none is given then
pub found_given : (st : Setting) (s t : SearchState) (n : ℕ) → t ≡ next_state st s → FindsAtOnce s t (Some n) → t.given ≡ s.given
found_given st s t n e found = by s.ended refl s.queue refl
  where
    longer : (ps : List FoundProof) (p : FoundProof) → ps ++ p ∷ [] ≡ ps → ⊥
    longer ps p f = let g : length (ps ++ p ∷ []) ≡ length ps = ap length f in absurd (omega (arith, g, length-append ps (p ∷ [])))

    not_same : t.proofs ≡ s.proofs → ⊥
    not_same f = longer s.proofs found.0 (sym found.1 ∙ f)

    by : (o : Option Reason) → s.ended ≡ o → (qs : List Queued) → s.queue ≡ qs → t.given ≡ s.given
    by (Some r) g qs f = let stays : next_state st s ≡ s = ap (λ (x : Option Reason). if is_some x then s else queue_next st s s.queue) g in ap (λ (v : SearchState). v.given) (e ∙ stays)
    by None g [] f = absurd (not_same (ap (λ (v : SearchState). v.proofs) (e ∙ gives_next st s g f) ∙ (given_same st s).1))
    by None g (q ∷ qs) f = (grown_at st s t e g (q, (qs, f))).given
