-- What the sizes that ended amount to.
use Rattle.std.proofs.Common.{◌≡◌, ℕ, suc, ◌+◌, ◌*◌, ◌≤◌, ◌<◌, List, [], ◌∷◌, ◌++◌, length, Result, Ok, Err, inl, inr, refl, ap, sym, subst, ◌∙◌, append_assoc, append-nil, arith}
use Rattle.std.proofs.Math.Nat.{suc-mul}
use Rattle.std.specs.Prelude.{◌⊎◌}
use Rattle.fol_problem.specs.Stated.{Stated}
use Rattle.ladr_io.proofs.StreamLaws.{Takes-append, Takes-none}
use Rattle.ladr_io.specs.Streams.{Outflow, Takes}
use Rattle.ladr_io.specs.Times.{Times}
use Rattle.ladr_mace4.specs.Plans.{size_behind}
use Rattle.ladr_mace4.specs.Story.{Size, between, HasEnded, HaveEnded, models_in, models_in_all, readings_in, readings_in_all, size_text, sizes_text, SizeGoes, SizeEnds, AllIsSearched, Stops, SearchGoes, SearchComes}
use Rattle.search_clock.specs.Watching.{IsInTime, HasRead}
use Rattle.ladr_mace4.specs.declared.ends.SearchEnd.{SearchEnd}
use Rattle.ladr_mace4.specs.declared.ends.SearchEnd.TheVariants.{MaxModels, Exhausted, AllModels, MaxMegs, MaxSeconds, GroundLimit, ClauseLimit}
use Rattle.ladr_mace4.specs.declared.ends.SearchOver.{SearchOver}
use Rattle.ladr_mace4.specs.declared.ends.Step.{Step}
use Rattle.ladr_mace4.specs.declared.ends.Step.TheVariants.{Over, Ends}
use Rattle.ladr_mace4.specs.declared.plan.Plan.{Plan}
use Rattle.ladr_output.specs.Telling.{Tells}
use Rattle.ladr_output.specs.declared.cut.Cut.{Cut}
use Rattle.ladr_output.specs.declared.cut.Cut.TheVariants.{WriteFault, Memory}

-- the sizes before n ended so, and so many models were printed
pub record Ended (p : Stated) (s : Plan) (t : Times) (n : ℕ) (sizes : List Size) (k : ℕ) (a b : Outflow) : Type 0 where
  pub ended : HaveEnded p s s.start sizes
  pub next : n ≡ size_behind s (length sizes)
  pub count : k ≡ models_in_all sizes
  pub reads : HasRead s.seconds (readings_in_all sizes) t
  pub took : Takes a b (sizes_text p s.step s.start 0 sizes)

-- none so far
pub none_ended : (p : Stated) (s : Plan) (t : Times) (a : Outflow) → HasRead s.seconds 0 t → Ended p s t s.start [] 0 a a
none_ended p s t a reads = record { ended = tt; next = omega arith; count = refl; reads = reads; took = Takes-none a }

-- a step more before the others
step_more : (n step count : ℕ) → n + suc count * step ≡ (n + step) + count * step
step_more n step count = let e : suc count * step ≡ count * step + step = suc-mul count step in omega (arith, e)

step_none : (n step : ℕ) → n + 0 * step ≡ n
step_none n step = omega arith

pub ended_more : (p : Stated) (s : Plan) (n : ℕ) (sizes : List Size) (size : Size) → HaveEnded p s n sizes → n + length sizes * s.step ≤ s.end → HasEnded p s (n + length sizes * s.step) size → HaveEnded p s n (sizes ++ size ∷ [])
ended_more p s n [] size h within ended =
    let e = step_none n s.step in
    (omega (arith, within, e), subst (λ (m : ℕ). HasEnded p s m size) e ended, tt)
ended_more p s n (x ∷ sizes) size h within ended =
    let e = step_more n s.step (length sizes) in
    (h.0, h.1, ended_more p s (n + s.step) sizes size h.2 (omega (arith, within, e)) (subst (λ (m : ℕ). HasEnded p s m size) e ended))

pub many_more : (sizes : List Size) (size : Size) → models_in_all (sizes ++ size ∷ []) ≡ models_in_all sizes + models_in size
many_more [] size = omega arith
many_more (x ∷ sizes) size = omega (arith, many_more sizes size)

pub length_more : (sizes : List Size) (size : Size) → length (sizes ++ size ∷ []) ≡ length sizes + 1
length_more [] size = refl
length_more (x ∷ sizes) size = omega (arith, length_more sizes size)

pub text_more : (p : Stated) (step n k : ℕ) (sizes : List Size) (size : Size) → sizes_text p step n k (sizes ++ size ∷ []) ≡ sizes_text p step n k sizes ++ size_text p (n + length sizes * step) (k + models_in_all sizes) size
text_more p step n k [] size =
    let e = step_none n step in
    let f : k + 0 ≡ k = omega arith in
    rw e (rw f (append-nil _))
text_more p step n k (x ∷ sizes) size =
    let e = step_more n step (length sizes) in
    let f : k + (models_in x + models_in_all sizes) ≡ (k + models_in x) + models_in_all sizes = omega arith in
    rw e (rw f (ap (λ (t : List ℕ). size_text p n k x ++ t) (text_more p step (n + step) (k + models_in x) sizes size) ∙ sym (append_assoc (size_text p n k x) (sizes_text p step (n + step) (k + models_in x) sizes) _)))

pub next_more : (s : Plan) (n : ℕ) (sizes : List Size) (size : Size) → n ≡ size_behind s (length sizes) → n + s.step ≡ size_behind s (length (sizes ++ size ∷ []))
next_more s n sizes size e =
    let f : suc (length sizes) * s.step ≡ length sizes * s.step + s.step = suc-mul (length sizes) s.step in
    let g : length (sizes ++ size ∷ []) ≡ suc (length sizes) = omega (arith, length_more sizes size) in
    let h : n + s.step ≡ size_behind s (suc (length sizes)) = omega (arith, e, f) in
    h ∙ ap (size_behind s) (sym g)

pub reads_more : (sizes : List Size) (size : Size) → readings_in_all (sizes ++ size ∷ []) ≡ readings_in_all sizes + readings_in size
reads_more [] size = omega arith
reads_more (x ∷ sizes) size = omega (arith, reads_more sizes size)

-- a search that all sizes are behind
stops_behind : (p : Stated) (s : Plan) (t : Times) (n j : ℕ) (end : SearchEnd) → IsInTime s.seconds t → s.end < n → AllIsSearched j end → Stops p s t n j between end
stops_behind p s t n j AllModels early over h = (early, refl, over, h)
stops_behind p s t n j Exhausted early over h = (early, refl, over, h)
stops_behind p s t n j MaxModels early over h = absurd h
stops_behind p s t n j MaxMegs early over h = absurd h
stops_behind p s t n j (MaxSeconds first last) early over h = absurd h
stops_behind p s t n j (GroundLimit size) early over h = absurd h
stops_behind p s t n j (ClauseLimit formula) early over h = absurd h

-- the search, behind sizes that ended, by what the next one tells
module _ (p : Stated) (s : Plan) (t : Times) (sizes : List Size) (ended : HaveEnded p s s.start sizes) (fewer : models_in_all sizes < s.wanted) where
  abbrev front : List ℕ
  front = sizes_text p s.step s.start 0 sizes

  abbrev n : ℕ
  n = size_behind s (length sizes)

  abbrev k : ℕ
  k = models_in_all sizes

  abbrev r : ℕ
  r = readings_in_all sizes

  text_is : (size : Size) → sizes_text p s.step s.start 0 (sizes ++ size ∷ []) ≡ front ++ size_text p n k size
  text_is size = let from_zero : 0 + k ≡ k = omega arith in text_more p s.step s.start 0 sizes size ∙ ap (λ (i : ℕ). front ++ size_text p n i size) from_zero

  -- one size more
  one_more : (t₀ : Times) (m k' j : ℕ) (size : Size) (a b c : Outflow) → m ≡ n → k' ≡ k → n ≤ s.end → HasEnded p s n size → j ≡ k + models_in size → HasRead s.seconds (r + readings_in size) t → Takes a b front → Takes b c (size_text p n k size) → Ended p s t (m + s.step) (sizes ++ size ∷ []) j a c
  one_more t₀ m k' j size a b c next count within is e reads took more = record {
    ended = ended_more p s s.start sizes size ended within is;
    next = next_more s m sizes size next;
    count = omega (arith, e, many_more sizes size);
    reads = subst (λ (i : ℕ). HasRead s.seconds i t) (sym (reads_more sizes size)) reads;
    took = subst (Takes a c) (sym (text_is size)) (Takes-append a b c front (size_text p n k size) took more);
  }

  goes_in : (u : List ℕ) → SizeGoes p s t n k r u → SearchGoes p s t (front ++ u)
  goes_in u h = record { sizes = sizes; now = h.0; so_far = record { ended = ended; fewer = fewer; stands = h.1 }; most = h.2; in_time = h.3; reads = h.4; text_is = ap (λ (x : List ℕ). front ++ x) h.5 }

  goes_over : (j : ℕ) (u : List ℕ) → SizeEnds p s t n k r (Over j) u → SearchGoes p s t (front ++ u)
  goes_over j u h =
      let size = h.0 in
      let few : models_in_all (sizes ++ size ∷ []) < s.wanted = omega (arith, many_more sizes size, h.3, h.4) in
      record {
        sizes = sizes ++ size ∷ [];
        now = between;
        so_far = record { ended = ended_more p s s.start sizes size ended h.1 h.2; fewer = few; stands = tt };
        most = inl (omega (arith, few));
        in_time = h.5;
        reads = subst (λ (i : ℕ). HasRead s.seconds i t) (omega (arith, reads_more sizes size)) h.6;
        text_is = ap (λ (x : List ℕ). front ++ x) h.7 ∙ sym (text_is size) ∙ sym (append-nil _);
      }

  comes_in : (end : SearchEnd) (j : ℕ) (u : List ℕ) → SizeEnds p s t n k r (Ends end j) u → SearchComes p s t end j (front ++ u)
  comes_in end j u h = record { sizes = sizes; now = h.0; so_far = record { ended = ended; fewer = fewer; stands = h.1 }; count = h.2; stops = h.3; reads = h.4; text_is = ap (λ (x : List ℕ). front ++ x) h.5 }

  cut_off : (u : List ℕ) → (step : Step) × SizeEnds p s t n k r step u → SearchGoes p s t (front ++ u) ⊎ ((e : SearchOver) × SearchComes p s t e.end e.printed (front ++ u))
  cut_off u (Over j, h) = inl (goes_over j u h)
  cut_off u (Ends end j, h) = inr (record { end = end; printed = j }, comes_in end j u h)

  meant_in : (u : List ℕ) → SizeGoes p s t n k r u ⊎ ((step : Step) × SizeEnds p s t n k r step u) → SearchGoes p s t (front ++ u) ⊎ ((e : SearchOver) × SearchComes p s t e.end e.printed (front ++ u))
  meant_in u (inl h) = inl (goes_in u h)
  meant_in u (inr h) = cut_off u h

  -- the output is cut off in the size
  pub cut_in : (a b c : Outflow) (why : Cut) → Takes a b front → Tells (SizeGoes p s t n k r) (SizeEnds p s t n k r) b c (Err why) → Tells {E = SearchOver} (SearchGoes p s t) (λ e u. SearchComes p s t e.end e.printed u) a c (Err why)
  cut_in a b c WriteFault took h = record {
    before = front ++ h.before;
    piece = h.piece;
    middle = h.middle;
    stood = goes_in h.before h.stood;
    meant = subst (λ (u : List ℕ). SearchGoes p s t u ⊎ ((e : SearchOver) × SearchComes p s t e.end e.printed u)) (sym (append_assoc front h.before h.piece)) (meant_in (h.before ++ h.piece) h.meant);
    took = Takes-append a b h.middle front h.before took h.took;
    front = h.front;
  }
  cut_in a b c Memory took h = (front ++ h.0, goes_in h.0 h.1, Takes-append a b c front h.0 took h.2)

  -- the search ends in the size
  pub ends_in : (a b c : Outflow) (end : SearchEnd) (j : ℕ) (step : Step) → step ≡ Ends end j → Takes a b front → Tells (SizeGoes p s t n k r) (SizeEnds p s t n k r) b c (Ok step) → Tells {E = SearchOver} (SearchGoes p s t) (λ e u. SearchComes p s t e.end e.printed u) a c (Ok (record { end = end; printed = j }))
  ends_in a b c end j step is took h = (front ++ h.0, comes_in end j h.0 (subst (λ (x : Step). SizeEnds p s t n k r x h.0) is h.1), Takes-append a b c front h.0 took h.2)

  -- it goes on behind the size
  pub more_in : (m k' j : ℕ) (a b c : Outflow) (step : Step) → step ≡ Over j → m ≡ n → k' ≡ k → Takes a b front → Tells (SizeGoes p s t n k r) (SizeEnds p s t n k r) b c (Ok step) → ((size : Size) × Ended p s t (m + s.step) (sizes ++ size ∷ []) j a c) × (j < s.wanted) × IsInTime s.seconds t
  more_in m k' j a b c step is next count took (u, g, x) =
      let h : SizeEnds p s t n k r (Over j) u = subst (λ (y : Step). SizeEnds p s t n k r y u) is g in
      ((h.0, one_more t m k' j h.0 a b c next count h.1 h.2 h.3 h.6 took (subst (Takes b c) h.7 x)), h.4, h.5)

  -- all sizes are behind the search
  pub ends_behind : (a b : Outflow) (m j : ℕ) (end : SearchEnd) → m ≡ n → j ≡ k → IsInTime s.seconds t → HasRead s.seconds r t → s.end < m → AllIsSearched j end → Takes a b front → Tells {E = SearchOver} (SearchGoes p s t) (λ e u. SearchComes p s t e.end e.printed u) a b (Ok (record { end = end; printed = j }))
  ends_behind a b m j end next count early reads over is took = (
    front,
    record {
      sizes = sizes;
      now = between;
      so_far = record { ended = ended; fewer = fewer; stands = tt };
      count = omega (arith, count);
      stops = stops_behind p s t n j end early (omega (arith, over, next)) is;
      reads = subst (λ (i : ℕ). HasRead s.seconds i t) (omega arith) reads;
      text_is = sym (append-nil front);
    },
    took,
  )

-- what a size tells, behind the sizes that ended
pub told_at : (p : Stated) (s : Plan) (t : Times) (m k : ℕ) (sizes : List Size) (r : ℕ) (a b : Outflow) (result : Result Step Cut) → m ≡ size_behind s (length sizes) → k ≡ models_in_all sizes → Tells (SizeGoes p s t m k r) (SizeEnds p s t m k r) a b result
    → Tells (SizeGoes p s t (size_behind s (length sizes)) (models_in_all sizes) r) (SizeEnds p s t (size_behind s (length sizes)) (models_in_all sizes) r) a b result
told_at p s t m k sizes r a b result next count h =
    subst (λ (j : ℕ). Tells (SizeGoes p s t (size_behind s (length sizes)) j r) (SizeEnds p s t (size_behind s (length sizes)) j r) a b result) count (subst (λ (i : ℕ). Tells (SizeGoes p s t i k r) (SizeEnds p s t i k r) a b result) next h)
