-- Two searches for the same come to one end, with one text, if no time is over.
use Rattle.std.proofs.Common.{◌≡◌, ℕ, suc, ◌+◌, ◌*◌, ◌<◌, ◌≤◌, List, [], ◌∷◌, ◌++◌, length, Option, None, Some, inl, inr, ◌⊎◌, refl, ap, ap₂, sym, subst, ◌∙◌, append_assoc, arith}
use Rattle.std.proofs.Math.Nat.{suc-mul}
use Rattle.std.proofs.lemmas.List.{length-append}
use Rattle.clausify.specs.Input.{first_over}
use Rattle.fol_problem.specs.Stated.{Stated}
use Rattle.ladr_cells.specs.Worlds.{ground_size}
use Rattle.ladr_formulas.specs.declared.styles.Mode.TheVariants.{Mace}
use Rattle.ladr_intake.specs.Language.{IsLanguage}
use Rattle.ladr_intake.specs.Posed.{Posed, poses}
use Rattle.ladr_intake.specs.Refusals.{refuses}
use Rattle.ladr_io.specs.Streams.{Takes}
use Rattle.ladr_io.specs.Times.{Times}
use Rattle.ladr_io.specs.Watch.{IsLate}
use Rattle.ladr_mace4.proofs.Doing.{tables_both}
use Rattle.ladr_mace4.specs.Done.{tables_among, leaf_models, ComesToLeaf}
use Rattle.ladr_mace4.specs.Finding.{Comes, Sought}
use Rattle.ladr_mace4.specs.Lines.{end_text}
use Rattle.ladr_mace4.specs.OneEnd.{IsUntimed, with_seconds, words_with, SearchEndIsOne, RunsEndAlike}
use Rattle.ladr_mace4.specs.Plans.{plan_of, size_behind}
use Rattle.ladr_mace4.specs.Rooms.{refused_cells, most_cells, HasRoomForGround, IsBegun}
use Rattle.ladr_mace4.specs.Story.{Size, skipped, searched, Now, between, opened, inside, models_in, models_in_all, models_at, size_text, sizes_text, text_at, HasEnded, HaveEnded, IsAtSize, Stops, SearchComes}
use Rattle.ladr_mace4.specs.declared.ends.SearchEnd.{SearchEnd}
use Rattle.ladr_mace4.specs.declared.ends.SearchEnd.TheVariants.{MaxModels, Exhausted, AllModels, MaxMegs, MaxSeconds, GroundLimit, ClauseLimit}
use Rattle.ladr_mace4.specs.declared.plan.Plan.{Plan}
use Rattle.mace_cells.specs.declared.way.Way.{Way}
use Rattle.model_tables.specs.Tables.{Finite}
use Rattle.plain_search.specs.Coming.{leaf}
use Rattle.search_clock.specs.Watching.{time_to_stop}

never_late : (seconds : Option ℕ) (t : Times) (last : ℕ) → seconds ≡ None → IsLate (time_to_stop seconds t) t last → ⊥
never_late seconds t last e late = subst (λ (o : Option ℕ). IsLate (time_to_stop o t) t last) e late

-- fronts of one list that are as long
same_front : (a b c d : List Finite) → a ++ b ≡ c ++ d → length a ≡ length c → a ≡ c
same_front [] b [] d e many = refl
same_front [] b (y ∷ c) d e many = absurd (omega (arith, many))
same_front (x ∷ a) b [] d e many = absurd (omega (arith, many))
same_front (x ∷ a) b (y ∷ c) d e many =
    let first : x ≡ y = cc in
    let rest : a ++ b ≡ c ++ d = cc in
    ap₂ (λ (z : Finite) (zs : List Finite). z ∷ zs) first (same_front a b c d rest (omega (arith, many)))

-- models of what is done are in front of those of all leaves
module _ (p : Stated) (n : ℕ) (way : Way) where
  abbrev InFront : List Finite → Type 0
  InFront us = (more : List Finite) × (leaf_models p n way ≡ us ++ more)

  in_front : (us : List Finite) (chosen : ℕ) → ComesToLeaf p n way us chosen → InFront us
  in_front us chosen (before, (q, (rest, h))) = (tables_among p n way rest, ap (tables_among p n way) h.parts ∙ tables_both p n way (before ++ leaf q ∷ []) rest ∙ ap (λ (ts : List Finite). ts ++ tables_among p n way rest) (sym h.models))

  front_once : (us us' : List Finite) → InFront us → InFront us' → length us ≡ length us' → us ≡ us'
  front_once us us' (more, e) (more', f) many = same_front us more us' more' (sym e ∙ f) many

  front_within : (us us' : List Finite) → InFront us → us' ≡ leaf_models p n way → length us ≤ length us'
  front_within us us' (more, e) f = let g : us' ≡ us ++ more = f ∙ e in let many = ap (λ (ts : List Finite). length ts) g in omega (arith, many, length-append us more)

module _ (p : Stated) (s : Plan) where
  -- how a search ends at a size, without a word of the clock: as many models as are wanted are
  -- printed, all sizes are behind it, or there is no room
  abbrev IsFull : ℕ → ℕ → Now → SearchEnd → Type 0
  IsFull n j now end =
      (us : List Finite) × ((chosen : ℕ) × ((now ≡ inside us chosen) × (end ≡ MaxModels) × (j ≡ s.wanted) × IsBegun p s n × HasRoomForGround s (ground_size n p) × InFront p n s.way us))

  abbrev IsSpent : ℕ → ℕ → Now → SearchEnd → Type 0
  IsSpent n j now end = (now ≡ between) × (s.end < n) × (((end ≡ AllModels) × (0 < j)) ⊎ ((end ≡ Exhausted) × (j ≡ 0)))

  abbrev IsFilled : ℕ → Now → SearchEnd → Type 0
  IsFilled n now end =
      (now ≡ opened) × IsBegun p s n × (((end ≡ MaxMegs) × (ground_size n p < refused_cells) × (most_cells s ≤ ground_size n p)) ⊎ ((end ≡ GroundLimit n) × (refused_cells ≤ ground_size n p)))

  abbrev Last : ℕ → ℕ → Now → SearchEnd → Type 0
  Last n j now end = IsFull n j now end ⊎ (IsSpent n j now end ⊎ IsFilled n now end)

  begun_at : (o : Option ℕ) (n : ℕ) (now : Now) → now ≡ opened → IsAtSize p (with_seconds s o) n now → IsBegun p s n
  begun_at o n now e at = subst (IsAtSize p (with_seconds s o) n) e at

  full : (o : Option ℕ) (t : Times) (n j : ℕ) (now : Now) → IsAtSize p (with_seconds s o) n now → Stops p (with_seconds s o) t n j now MaxModels → IsFull n j now MaxModels
  full o t n j between at h = absurd h.1
  full o t n j opened at h = absurd h.1
  full o t n j (inside us chosen) at h = (us, (chosen, (refl, refl, h.2, at.0, at.1, in_front p n s.way us chosen h.1)))

  last : (o : Option ℕ) (t : Times) (n j : ℕ) (now : Now) (end : SearchEnd) → IsUntimed o end → IsAtSize p (with_seconds s o) n now → Stops p (with_seconds s o) t n j now end → Last n j now end
  last o t n j now MaxModels free at h = inl (full o t n j now at h)
  last o t n j now AllModels free at h = inr (inl (h.1, h.2, inl (refl, h.3)))
  last o t n j now Exhausted free at h = inr (inl (h.1, h.2, inr (refl, h.3)))
  last o t n j now MaxMegs free at h = inr (inr (h.1, begun_at o n now h.1 at, inl (refl, h.2.0, h.2.1)))
  last o t n j now (GroundLimit size) free at h = inr (inr (h.1, begun_at o n now h.1 at, inr (ap GroundLimit h.2.1, h.2.0)))
  last o t n j now (MaxSeconds a b) (inl none) at h = absurd (never_late o t b none h.0)
  last o t n j now (MaxSeconds a b) (inr other) at h = absurd (other a b refl)
  last o t n j now (ClauseLimit formula) free at h = absurd h

  -- the sizes from n on that ended, k models having been printed before, and how the search ends
  -- behind them; how many models are printed by then, and the text
  abbrev Chain : Option ℕ → ℕ → ℕ → List Size → Now → SearchEnd → Type 0
  Chain o n k [] now end = (k < s.wanted) × Last n (k + models_at now) now end
  Chain o n k (size ∷ sizes) now end = (n ≤ s.end) × HasEnded p (with_seconds s o) n size × Chain o (n + s.step) (k + models_in size) sizes now end

  abbrev total : ℕ → List Size → Now → ℕ
  total k [] now = k + models_at now
  total k (size ∷ sizes) now = total (k + models_in size) sizes now

  abbrev text_from : ℕ → ℕ → List Size → Now → List ℕ
  text_from n k [] now = text_at p n k now
  text_from n k (size ∷ sizes) now = size_text p n k size ++ text_from (n + s.step) (k + models_in size) sizes now

  next : (m n count : ℕ) → m ≡ n + suc count * s.step → m ≡ (n + s.step) + count * s.step
  next m n count e = let f : suc count * s.step ≡ count * s.step + s.step = suc-mul count s.step in omega (arith, e, f)

  chain : (o : Option ℕ) (sizes : List Size) (now : Now) (end : SearchEnd) (n k m i : ℕ) → HaveEnded p (with_seconds s o) n sizes → m ≡ n + length sizes * s.step → i ≡ k + models_in_all sizes → i < s.wanted → Last m (i + models_at now) now end → Chain o n k sizes now end
  chain o [] now end n k m i ended at count fewer h =
      let here : m ≡ n = omega (arith, at) in
      let so_many : i ≡ k = omega (arith, count) in
      (omega (arith, so_many, fewer), subst (λ (a : ℕ). Last n (a + models_at now) now end) so_many (subst (λ (a : ℕ). Last a (i + models_at now) now end) here h))
  chain o (size ∷ sizes) now end n k m i ended at count fewer h =
      (ended.0, ended.1, chain o sizes now end (n + s.step) (k + models_in size) m i ended.2 (next m n (length sizes) at) (omega (arith, count)) fewer h)

  chain_text : (sizes : List Size) (now : Now) (n k m i : ℕ) → m ≡ n + length sizes * s.step → i ≡ k + models_in_all sizes → sizes_text p s.step n k sizes ++ text_at p m i now ≡ text_from n k sizes now
  chain_text [] now n k m i at count =
      let here : m ≡ n = omega (arith, at) in
      let so_many : i ≡ k = omega (arith, count) in
      ap₂ (λ (a b : ℕ). text_at p a b now) here so_many
  chain_text (size ∷ sizes) now n k m i at count =
      append_assoc (size_text p n k size) (sizes_text p s.step (n + s.step) (k + models_in size) sizes) (text_at p m i now)
      ∙ ap (λ (u : List ℕ). size_text p n k size ++ u) (chain_text sizes now (n + s.step) (k + models_in size) m i (next m n (length sizes) at) (omega (arith, count)))

  chain_total : (sizes : List Size) (now : Now) (k : ℕ) → total k sizes now ≡ (k + models_in_all sizes) + models_at now
  chain_total [] now k = omega arith
  chain_total (size ∷ sizes) now k = omega (arith, chain_total sizes now (k + models_in size))

  -- fewer models than are wanted were printed before
  fewer_from : (o : Option ℕ) (sizes : List Size) (now : Now) (end : SearchEnd) (n k : ℕ) → Chain o n k sizes now end → k < s.wanted
  fewer_from o [] now end n k h = h.0
  fewer_from o (size ∷ sizes) now end n k h = omega (arith, fewer_from o sizes now end (n + s.step) (k + models_in size) h.2)

  -- a search that ends at a size isn't behind it
  not_behind : (o : Option ℕ) (n k : ℕ) (size : Size) (now : Now) (end : SearchEnd) → Last n (k + models_at now) now end → n ≤ s.end → HasEnded p (with_seconds s o) n size → k + models_in size < s.wanted → ⊥
  not_behind o n k skipped now end (inl (us, (chosen, f))) within ended fewer = omega (arith, f.3.1, ended)
  not_behind o n k skipped now end (inr (inr f)) within ended fewer = omega (arith, f.1.1, ended)
  not_behind o n k size now end (inr (inl f)) within ended fewer = omega (arith, f.1, within)
  not_behind o n k (searched us' c') now end (inl (us, (chosen, f))) within ended fewer =
      let many : models_at now ≡ length us = ap models_at f.0 in
      omega (arith, many, f.2, fewer, front_within p n s.way us us' f.5 ended.3.models)
  not_behind o n k (searched us' c') now end (inr (inr (e, begun, inl f))) within ended fewer = omega (arith, f.2, ended.0.1.1)
  not_behind o n k (searched us' c') now end (inr (inr (e, begun, inr f))) within ended fewer = omega (arith, f.1, ended.0.1.0)

  -- a size ends in one way
  same_size : (o o' : Option ℕ) (n : ℕ) (size size' : Size) → HasEnded p (with_seconds s o) n size → HasEnded p (with_seconds s o') n size' → size ≡ size'
  same_size o o' n skipped skipped h k = refl
  same_size o o' n skipped (searched us c) h k = absurd (omega (arith, h, k.0.0))
  same_size o o' n (searched us c) skipped h k = absurd (omega (arith, k, h.0.0))
  same_size o o' n (searched us c) (searched us' c') h k = ap₂ searched (h.3.models ∙ sym k.3.models) (h.3.count ∙ sym k.3.count)

  abbrev Alike : ℕ → ℕ → List Size → List Size → Now → Now → SearchEnd → SearchEnd → Type 0
  Alike n k sizes sizes' now now' end end' = (end ≡ end') × (total k sizes now ≡ total k sizes' now') × (text_from n k sizes now ≡ text_from n k sizes' now')

  by_now : (n k : ℕ) (now now' at at' : Now) (end end' other other' : SearchEnd) → now ≡ at → now' ≡ at' → end ≡ other → end' ≡ other' → other ≡ other' → models_at at ≡ models_at at' → text_at p n k at ≡ text_at p n k at' → Alike n k [] [] now now' end end'
  by_now n k now now' at at' end end' other other' e f g h same many text =
      (g ∙ same ∙ sym h, ap (λ (x : Now). k + models_at x) e ∙ ap (λ (i : ℕ). k + i) many ∙ sym (ap (λ (x : Now). k + models_at x) f), ap (text_at p n k) e ∙ text ∙ sym (ap (text_at p n k) f))

  last_alike : (n k : ℕ) (now now' : Now) (end end' : SearchEnd) → Last n (k + models_at now) now end → Last n (k + models_at now') now' end' → Alike n k [] [] now now' end end'
  last_alike n k now now' end end' (inl (us, (c, f))) (inl (us', (c', g))) =
      let many : models_at now ≡ length us = ap models_at f.0 in
      let many' : models_at now' ≡ length us' = ap models_at g.0 in
      let same : us ≡ us' = front_once p n s.way us us' f.5 g.5 (omega (arith, many, many', f.2, g.2)) in
      by_now n k now now' (inside us c) (inside us' c') end end' MaxModels MaxModels f.0 g.0 f.1 g.1 refl (ap (λ (ts : List Finite). length ts) same) (ap (λ (ts : List Finite). text_at p n k (inside ts c)) same)
  last_alike n k now now' end end' (inr (inl f)) (inr (inl g)) =
      let none : models_at now ≡ 0 = ap models_at f.0 in
      let none' : models_at now' ≡ 0 = ap models_at g.0 in
      by f.2 g.2 none none'
    where
      by : (((end ≡ AllModels) × (0 < k + models_at now)) ⊎ ((end ≡ Exhausted) × (k + models_at now ≡ 0))) → (((end' ≡ AllModels) × (0 < k + models_at now')) ⊎ ((end' ≡ Exhausted) × (k + models_at now' ≡ 0))) → models_at now ≡ 0 → models_at now' ≡ 0 → Alike n k [] [] now now' end end'
      by (inl a) (inl b) none none' = by_now n k now now' between between end end' AllModels AllModels f.0 g.0 a.0 b.0 refl refl refl
      by (inr a) (inr b) none none' = by_now n k now now' between between end end' Exhausted Exhausted f.0 g.0 a.0 b.0 refl refl refl
      by (inl a) (inr b) none none' = absurd (omega (arith, a.1, b.1, none, none'))
      by (inr a) (inl b) none none' = absurd (omega (arith, a.1, b.1, none, none'))
  last_alike n k now now' end end' (inr (inr (e, begun, f))) (inr (inr (e', begun', g))) = by f g
    where
      by : (((end ≡ MaxMegs) × (ground_size n p < refused_cells) × (most_cells s ≤ ground_size n p)) ⊎ ((end ≡ GroundLimit n) × (refused_cells ≤ ground_size n p))) → (((end' ≡ MaxMegs) × (ground_size n p < refused_cells) × (most_cells s ≤ ground_size n p)) ⊎ ((end' ≡ GroundLimit n) × (refused_cells ≤ ground_size n p))) → Alike n k [] [] now now' end end'
      by (inl a) (inl b) = by_now n k now now' opened opened end end' MaxMegs MaxMegs e e' a.0 b.0 refl refl refl
      by (inr a) (inr b) = by_now n k now now' opened opened end end' (GroundLimit n) (GroundLimit n) e e' a.0 b.0 refl refl refl
      by (inl a) (inr b) = absurd (omega (arith, a.1, b.1))
      by (inr a) (inl b) = absurd (omega (arith, a.1, b.1))
  last_alike n k now now' end end' (inl (us, (c, f))) (inr (inl g)) = absurd (omega (arith, f.3.0, g.1))
  last_alike n k now now' end end' (inr (inl g)) (inl (us, (c, f))) = absurd (omega (arith, f.3.0, g.1))
  last_alike n k now now' end end' (inr (inl f)) (inr (inr g)) = absurd (omega (arith, f.1, g.1.0))
  last_alike n k now now' end end' (inr (inr g)) (inr (inl f)) = absurd (omega (arith, f.1, g.1.0))
  last_alike n k now now' end end' (inl (us, (c, f))) (inr (inr (e, begun, inl g))) = absurd (omega (arith, f.4.1, g.2))
  last_alike n k now now' end end' (inl (us, (c, f))) (inr (inr (e, begun, inr g))) = absurd (omega (arith, f.4.0, g.1))
  last_alike n k now now' end end' (inr (inr (e, begun, inl g))) (inl (us, (c, f))) = absurd (omega (arith, f.4.1, g.2))
  last_alike n k now now' end end' (inr (inr (e, begun, inr g))) (inl (us, (c, f))) = absurd (omega (arith, f.4.0, g.1))

  alike : (o o' : Option ℕ) (sizes sizes' : List Size) (now now' : Now) (end end' : SearchEnd) (n k : ℕ) → Chain o n k sizes now end → Chain o' n k sizes' now' end' → Alike n k sizes sizes' now now' end end'
  alike o o' [] [] now now' end end' n k h g = last_alike n k now now' end end' h.1 g.1
  alike o o' [] (size ∷ sizes) now now' end end' n k h g = absurd (not_behind o' n k size now end h.1 g.0 g.1 (fewer_from o' sizes now' end' (n + s.step) (k + models_in size) g.2))
  alike o o' (size ∷ sizes) [] now now' end end' n k h g = absurd (not_behind o n k size now' end' g.1 h.0 h.1 (fewer_from o sizes now end (n + s.step) (k + models_in size) h.2))
  alike o o' (size ∷ sizes) (size' ∷ sizes') now now' end end' n k h g =
      let same : size ≡ size' = same_size o o' n size size' h.1 g.1 in
      let g' : Chain o' (n + s.step) (k + models_in size) sizes' now' end' = subst (λ (x : Size). Chain o' (n + s.step) (k + models_in x) sizes' now' end') (sym same) g.2 in
      let r = alike o o' sizes sizes' now now' end end' (n + s.step) (k + models_in size) h.2 g' in (
        r.0,
        r.1 ∙ ap (λ (x : Size). total (k + models_in x) sizes' now') same,
        ap (λ (u : List ℕ). size_text p n k size ++ u) r.2 ∙ ap (λ (x : Size). size_text p n k x ++ text_from (n + s.step) (k + models_in x) sizes' now') same,
      )

  chain_of : (o : Option ℕ) (t : Times) (end : SearchEnd) (printed : ℕ) (text : List ℕ) → IsUntimed o end → (h : SearchComes p (with_seconds s o) t end printed text) → Chain o s.start 0 h.sizes h.now end
  chain_of o t end printed text free h =
      let m = size_behind s (length h.sizes) in
      let stops : Stops p (with_seconds s o) t m (models_in_all h.sizes + models_at h.now) h.now end = subst (λ (j : ℕ). Stops p (with_seconds s o) t m j h.now end) h.count h.stops in
      chain o h.sizes h.now end s.start 0 m (models_in_all h.sizes) h.so_far.ended refl (omega arith) h.so_far.fewer (last o t m (models_in_all h.sizes + models_at h.now) h.now end free h.so_far.stands stops)

  searched_once : (o o' : Option ℕ) (t t' : Times) (end end' : SearchEnd) (printed printed' : ℕ) (text text' : List ℕ) → IsUntimed o end → IsUntimed o' end' → SearchComes p (with_seconds s o) t end printed text → SearchComes p (with_seconds s o') t' end' printed' text'
      → (end ≡ end') × (printed ≡ printed') × (text ≡ text')
  searched_once o o' t t' end end' printed printed' text text' free free' h g =
      let r = alike o o' h.sizes g.sizes h.now g.now end end' s.start 0 (chain_of o t end printed text free h) (chain_of o' t' end' printed' text' free' g) in
      let many : printed ≡ total 0 h.sizes h.now = omega (arith, h.count, chain_total h.sizes h.now 0) in
      let many' : printed' ≡ total 0 g.sizes g.now = omega (arith, g.count, chain_total g.sizes g.now 0) in
      let text_is : text ≡ text_from s.start 0 h.sizes h.now = h.text_is ∙ chain_text h.sizes h.now s.start 0 (size_behind s (length h.sizes)) (models_in_all h.sizes) refl (omega arith) in
      let text_is' : text' ≡ text_from s.start 0 g.sizes g.now = g.text_is ∙ chain_text g.sizes g.now s.start 0 (size_behind s (length g.sizes)) (models_in_all g.sizes) refl (omega arith) in
      (r.0, many ∙ r.1 ∙ sym many', text_is ∙ r.2 ∙ sym text_is')

  -- nothing is searched, or the sizes are
  abbrev IsOver : SearchEnd → List ℕ → Type 0
  IsOver end text = (formula : ℕ) × ((first_over 1 p.formulas ≡ Some formula) × ((end ≡ ClauseLimit formula) × (text ≡ [])))

  abbrev IsSearched : Option ℕ → Times → SearchEnd → ℕ → List ℕ → Type 0
  IsSearched o t end printed text = (first_over 1 p.formulas ≡ None) × SearchComes p (with_seconds s o) t end printed text

  either : (o : Option ℕ) (t : Times) (end : SearchEnd) (printed : ℕ) (text : List ℕ) → Comes p (with_seconds s o) t end printed text → IsOver end text ⊎ IsSearched o t end printed text
  either o t MaxModels printed text h = inr h
  either o t Exhausted printed text h = inr h
  either o t AllModels printed text h = inr h
  either o t MaxMegs printed text h = inr h
  either o t (MaxSeconds a b) printed text h = inr h
  either o t (GroundLimit size) printed text h = inr h
  either o t (ClauseLimit formula) printed text h = inl (formula, (h.0, (refl, h.2)))

  -- the last lines say how many models are printed where the sizes were searched alone
  over_text : (formula printed printed' : ℕ) → end_text printed (ClauseLimit formula) ≡ end_text printed' (ClauseLimit formula)
  over_text formula printed printed' = refl

  by_either : (o o' : Option ℕ) (t t' : Times) (end end' : SearchEnd) (printed printed' : ℕ) (text text' : List ℕ) → IsUntimed o end → IsUntimed o' end' → IsOver end text ⊎ IsSearched o t end printed text → IsOver end' text' ⊎ IsSearched o' t' end' printed' text' → (end ≡ end') × (text ++ end_text printed end ≡ text' ++ end_text printed' end')
  by_either o o' t t' end end' printed printed' text text' free free' (inl (n, (e, (is, none)))) (inl (m, (f, (is', none')))) =
      let same : n ≡ m = (let g : Some n ≡ Some m = sym e ∙ f in cc) in
      let ends : end ≡ end' = is ∙ ap ClauseLimit same ∙ sym is' in
      let last : end_text printed end ≡ end_text printed' end' = ap (end_text printed) is ∙ over_text n printed printed' ∙ ap (λ (i : ℕ). end_text printed' (ClauseLimit i)) same ∙ sym (ap (end_text printed') is') in
      (ends, ap₂ (λ (u v : List ℕ). u ++ v) (none ∙ sym none') last)
  by_either o o' t t' end end' printed printed' text text' free free' (inl (n, (e, h))) (inr g) = absurd (let f : Some n ≡ None = sym e ∙ g.0 in cc)
  by_either o o' t t' end end' printed printed' text text' free free' (inr g) (inl (n, (e, h))) = absurd (let f : Some n ≡ None = sym e ∙ g.0 in cc)
  by_either o o' t t' end end' printed printed' text text' free free' (inr h) (inr g) =
      let r = searched_once o o' t t' end end' printed printed' text text' free free' h.1 g.1 in
      (r.0, ap₂ (λ (u v : List ℕ). u ++ v) r.2 (ap₂ (λ (i : ℕ) (e : SearchEnd). end_text i e) r.1 r.0))

pub ends_once : SearchEndIsOne
ends_once p s o o' t t' end end' text text' free free' h g =
    let r = by_either p s o o' t t' end end' h.0 g.0 h.1.0 g.1.0 free free' (either p s o t end h.0 h.1.0 h.1.1) (either p s o' t' end' g.0 g.1.0 g.1.1) in
    (r.0, h.1.2 ∙ r.1 ∙ sym g.1.2)

-- so it is of runs
pub runs_alike : IsLanguage (poses Mace) (refuses Mace) → SearchEndIsOne → RunsEndAlike
runs_alike language ends words o o' from from' source source' to to' sink sink' t t' end end' run again bytes free free' =
    let (text, (read, (x, says_x, comes)), took) = run.tells in
    let (text', (read', (y, says_y, comes')), took') = again.tells in
    let also : poses Mace again.bytes x = subst (λ (b : List ℕ). poses Mace b x) bytes says_x in
    let same : y ≡ x = language.once again.bytes y x says_y also in
    let plan = plan_of words x.options in
    let seconds = (plan_of (words_with words o) x.options).seconds in
    let seconds' = (plan_of (words_with words o') x.options).seconds in
    let both = ends x.stated plan seconds seconds' t t' end end' text text' (free x says_x) (free' x also) comes (subst (λ (z : Posed). Sought z.stated (plan_of (words_with words o') z.options) t' end' text') same comes') in
    (both.0, (text, took, subst (Takes sink sink') (sym both.1) took'))
