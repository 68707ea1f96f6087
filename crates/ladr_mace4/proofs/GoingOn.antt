-- A search that goes on can come to an end: so what it printed is a front of a whole output.
use Rattle.std.proofs.Common.{◌≡◌, ℕ, zero, suc, ◌+◌, ◌*◌, ◌<◌, ◌≤◌, min, List, [], ◌∷◌, ◌++◌, length, Option, None, Some, inl, inr, refl, ap, sym, subst, ◌∙◌, append_assoc, append-nil, arith}
use Rattle.std.proofs.Math.Nat.{suc-mul}
use Rattle.std.proofs.lemmas.Bool.{cases_lt}
use Rattle.std.specs.Prelude.{◌⊎◌}
use Rattle.fol_core.specs.Literals.{equality}
use Rattle.fol_core.specs.Occurs.{size_needed}
use Rattle.fol_problem.specs.Stated.{Stated, IsWellFormed}
use Rattle.ladr_cells.specs.Fitting.{FitsTable}
use Rattle.ladr_cells.specs.Showing.{CoverModels}
use Rattle.ladr_cells.specs.Worlds.{world_for, ground_size}
use Rattle.ladr_io.specs.Streams.{greatest}
use Rattle.ladr_io.specs.Times.{Times}
use Rattle.ladr_io.specs.Watch.{IsLate}
use Rattle.ladr_mace4.proofs.Doing.{nothing_done, leaf_done, choice_done, all_done, done_shown}
use Rattle.ladr_mace4.proofs.Ended.{ended_more, many_more, length_more, text_more, reads_more}
use Rattle.ladr_mace4.proofs.Found as finds
use Rattle.ladr_mace4.proofs.WholeModels.{few_skolems}
use Rattle.ladr_mace4.specs.Done.{tables_at, HasDone, ComesToLeaf}
use Rattle.ladr_mace4.specs.LeafModels.{MakesSense, LeavesAreModels, LeavesCoverModels}
use Rattle.ladr_mace4.specs.Lines.{size_line, skipped_line, exhausted_line}
use Rattle.ladr_mace4.specs.Models.{AreShown}
use Rattle.ladr_mace4.specs.Plans.{size_behind}
use Rattle.ladr_mace4.specs.Rooms.{refused_cells, most_cells, HasRoomForGround, IsCrowded, IsBegun}
use Rattle.ladr_mace4.specs.Skolems.{all_symbols}
use Rattle.ladr_mace4.specs.Story.{Size, skipped, searched, Now, between, opened, inside, models_in, models_in_all, models_text, size_text, sizes_text, HasEnded, HaveEnded, IsAtSize, StaysWithin, Stops, readings_in_all, text_by, models_by, readings_by, readings_by_end, SearchGoes, SearchComes}
use Rattle.search_clock.specs.Watching.{time_to_stop, IsInTime, HasRead}
use Rattle.ladr_mace4.specs.declared.ends.SearchEnd.{SearchEnd}
use Rattle.ladr_mace4.specs.declared.ends.SearchEnd.TheVariants.{MaxModels, Exhausted, AllModels, MaxMegs, MaxSeconds, GroundLimit, ClauseLimit}
use Rattle.ladr_mace4.specs.declared.plan.Plan.{Plan}
use Rattle.model_tables.specs.ModelText.{model_text}
use Rattle.model_tables.specs.Size.{formulas_of}
use Rattle.model_tables.specs.Tables.{Finite}
use Rattle.plain_search.specs.Coming.{Event, choice, leaf, events}

-- a clock that comes to be late with its reading number m
late_times : (o : Option ℕ) (sec n m : ℕ) (t : Times) → o ≡ Some sec → IsInTime o t → HasRead o n t → 2 ≤ m → (2 < m → m ≤ n + 1) → (t' : Times) × (IsLate (time_to_stop o t') t' t'.last × HasRead o m t')
late_times None sec n m t e in_time reads two few = absurd cc
late_times (Some x) sec n m t e in_time reads two few =
    let t' : Times = record { count = min m greatest; first = t.first; last = t.first + 1000 * x; between = t.last } in
    let before : 2 < min m greatest → t.last < t.first + 1000 * x = λ more. (let some : 1 < t.count = (let le = few (omega (arith, more)) in omega (arith, le, more, reads)) in (in_time some).0) in
    (t', ((omega (arith, two), before, omega arith, refl), omega arith))

-- one that gave its first reading alone
first_times : (o : Option ℕ) (sec : ℕ) (t : Times) → o ≡ Some sec → (t' : Times) × (IsInTime o t' × HasRead o 1 t')
first_times None sec t e = absurd cc
first_times (Some x) sec t e =
    let t' : Times = record { count = 1; first = t.first; last = t.first; between = 0 } in
    (t', ((λ more. absurd (omega (arith, more))), omega arith))

-- where no time is set, any number of readings is none
any_read : (o : Option ℕ) (n m : ℕ) (t : Times) → o ≡ None → HasRead o n t → HasRead o m t
any_read None n m t e reads = reads
any_read (Some x) n m t e reads = absurd cc

module _ (models : LeavesAreModels) (cover : LeavesCoverModels) (p : Stated) (well : IsWellFormed p) (fits : FitsTable p) (few : length p.symbols ≤ equality) (s : Plan) (start : 1 ≤ s.start) (step : 1 ≤ s.step) where
  -- the text of sizes that ended, and the size behind them
  abbrev front : List Size → List ℕ
  front sizes = sizes_text p s.step s.start 0 sizes

  abbrev next : List Size → ℕ
  next sizes = size_behind s (length sizes)

  -- the text is a front of what a search that comes to an end prints before its last lines
  pub record Comes (text : List ℕ) : Type 0 where
    pub times : Times
    pub end : SearchEnd
    pub printed : ℕ
    pub more : List ℕ
    pub comes : SearchComes p s times end printed more
    pub rest : List ℕ
    pub parts : more ≡ text ++ rest

  shorter : (text rest : List ℕ) → Comes (text ++ rest) → Comes text
  shorter text rest h = record { times = h.times; end = h.end; printed = h.printed; more = h.more; comes = h.comes; rest = rest ++ h.rest; parts = h.parts ∙ append_assoc text rest h.rest }

  -- the sizes ended, with fewer models than are wanted
  abbrev AreGone : List Size → Type 0
  AreGone sizes = HaveEnded p s s.start sizes × (models_in_all sizes < s.wanted)

  -- the search comes to its end here
  ends_at : (t : Times) (sizes : List Size) (now : Now) (end : SearchEnd) → AreGone sizes → IsAtSize p s (next sizes) now → Stops p s t (next sizes) (models_by sizes now) now end → HasRead s.seconds (readings_by_end sizes now end) t → Comes (text_by p s sizes now)
  ends_at t sizes now end gone stands stops reads = record {
    times = t;
    end = end;
    printed = models_by sizes now;
    more = text_by p s sizes now;
    comes = record { sizes = sizes; now = now; so_far = record { ended = gone.0; fewer = gone.1; stands = stands }; count = refl; stops = stops; reads = reads; text_is = refl };
    rest = [];
    parts = sym (append-nil (text_by p s sizes now));
  }

  read_same : (t : Times) (n m : ℕ) → n ≡ m → HasRead s.seconds n t → HasRead s.seconds m t
  read_same t n m e reads = subst (λ (i : ℕ). HasRead s.seconds i t) e reads

  next_is : (sizes sizes' : List Size) → length sizes' ≡ length sizes + 1 → next sizes' ≡ next sizes + s.step
  next_is sizes sizes' e =
      let f : suc (length sizes) * s.step ≡ length sizes * s.step + s.step = suc-mul (length sizes) s.step in
      let g : length sizes' ≡ suc (length sizes) = omega (arith, e) in
      ap (size_behind s) g ∙ omega (arith, f)

  text_is : (sizes : List Size) (size : Size) → front (sizes ++ size ∷ []) ≡ front sizes ++ size_text p (next sizes) (models_in_all sizes) size
  text_is sizes size =
      let from_zero : 0 + models_in_all sizes ≡ models_in_all sizes = omega arith in
      text_more p s.step s.start 0 sizes size ∙ ap (λ (i : ℕ). front sizes ++ size_text p (next sizes) i size) from_zero

  gone_more : (sizes : List Size) (size : Size) → AreGone sizes → next sizes ≤ s.end → HasEnded p s (next sizes) size → models_in_all sizes + models_in size < s.wanted → AreGone (sizes ++ size ∷ [])
  gone_more sizes size gone within is fewer = (ended_more p s s.start sizes size gone.0 within is, omega (arith, fewer, many_more sizes size))

  -- that a size is exhausted stands behind its models
  exhausted_is : (sizes : List Size) (us : List Finite) (chosen : ℕ) → front (sizes ++ searched us chosen ∷ []) ≡ (front sizes ++ (size_line (next sizes) ++ models_text p (models_in_all sizes) us)) ++ exhausted_line (next sizes)
  exhausted_is sizes us chosen =
      let n = next sizes in
      let texts = models_text p (models_in_all sizes) us in
      text_is sizes (searched us chosen) ∙ ap (λ (u : List ℕ). front sizes ++ u) (sym (append_assoc (size_line n) texts (exhausted_line n))) ∙ sym (append_assoc (front sizes) (size_line n ++ texts) (exhausted_line n))

  -- all sizes are behind it
  over : (t : Times) (sizes : List Size) → AreGone sizes → s.end < next sizes → IsInTime s.seconds t → HasRead s.seconds (readings_in_all sizes) t → Comes (front sizes)
  over t sizes gone behind_all in_time reads =
      let none : models_by sizes between ≡ models_in_all sizes = omega arith in
      let read = read_same t (readings_in_all sizes) (readings_in_all sizes + 0) (omega arith) reads in
      shorter (front sizes) [] (elim (cases_lt 0 (models_in_all sizes)) [
        | inl some ↦ ends_at t sizes between AllModels gone tt (in_time, refl, behind_all, omega (arith, some, none)) read
        | inr few ↦ ends_at t sizes between Exhausted gone tt (in_time, refl, behind_all, omega (arith, few, none)) read
      ])

  -- there is room for a size, or the search ends for want of it
  room_or_end : (n : ℕ) → HasRoomForGround s (ground_size n p) ⊎ ((end : SearchEnd) × IsCrowded s n (ground_size n p) end)
  room_or_end n = elim (cases_lt (ground_size n p) refused_cells) [
    | inr many ↦ inr (GroundLimit n, (many, refl))
    | inl few ↦ elim (cases_lt (ground_size n p) (most_cells s)) [
      | inl room ↦ inl (few, room)
      | inr many ↦ inr (MaxMegs, (few, many))
    ]
  ]

  crowded_end : (t : Times) (sizes : List Size) (end : SearchEnd) → IsCrowded s (next sizes) (ground_size (next sizes) p) end → AreGone sizes → IsBegun p s (next sizes) → IsInTime s.seconds t → HasRead s.seconds (readings_in_all sizes + 1) t → Comes (text_by p s sizes opened)
  crowded_end t sizes MaxMegs crowded gone begun in_time reads = ends_at t sizes opened MaxMegs gone begun (in_time, refl, crowded) reads
  crowded_end t sizes (GroundLimit size) crowded gone begun in_time reads = ends_at t sizes opened (GroundLimit size) gone begun (in_time, refl, crowded) reads
  crowded_end t sizes MaxModels crowded gone begun in_time reads = absurd crowded
  crowded_end t sizes Exhausted crowded gone begun in_time reads = absurd crowded
  crowded_end t sizes AllModels crowded gone begun in_time reads = absurd crowded
  crowded_end t sizes (MaxSeconds first last) crowded gone begun in_time reads = absurd crowded
  crowded_end t sizes (ClauseLimit formula) crowded gone begun in_time reads = absurd crowded

  -- behind models of a size, where a time is set: the time is over before a choice
  late_inside : (t : Times) (sizes : List Size) (us : List Finite) (chosen : ℕ) (done rest : List Event) (sec : ℕ) → s.seconds ≡ Some sec → AreGone sizes → IsBegun p s (next sizes) → HasRoomForGround s (ground_size (next sizes) p) → AreShown p (next sizes) us → HasDone p (next sizes) s.way us chosen done (choice ∷ rest)
      → models_in_all sizes + length us < s.wanted → IsInTime s.seconds t → HasRead s.seconds (readings_in_all sizes + suc chosen) t
      → Comes (front sizes ++ (size_line (next sizes) ++ models_text p (models_in_all sizes) us))
  late_inside t sizes us chosen done rest sec set gone begun room shown so fewer in_time reads =
      let r = readings_in_all sizes in
      let late = late_times s.seconds sec (r + suc chosen) (r + suc (suc chosen)) t set in_time reads (omega arith) (λ more. omega arith) in
      let t' = late.0 in
      ends_at t' sizes (inside us chosen) (MaxSeconds t'.first t'.last) gone (begun, room, shown, (done, (choice ∷ rest, so))) (late.1.0, refl, (done, (rest, so)), fewer) late.1.1

  -- as many models as are wanted are printed
  enough : (t : Times) (sizes : List Size) (us : List Finite) (chosen : ℕ) → AreGone sizes → IsBegun p s (next sizes) → HasRoomForGround s (ground_size (next sizes) p) → models_in_all sizes + length us ≡ s.wanted → AreShown p (next sizes) us → ComesToLeaf p (next sizes) s.way us chosen
      → IsInTime s.seconds t → HasRead s.seconds (readings_in_all sizes + suc chosen) t → Comes (front sizes ++ (size_line (next sizes) ++ models_text p (models_in_all sizes) us))
  enough t sizes us chosen gone begun room all shown so in_time reads = ends_at t sizes (inside us chosen) MaxModels gone (begun, room, shown, (so.0 ++ leaf so.1.0 ∷ [], (so.1.1.0, so.1.1.1))) (in_time, so, all) reads

  -- what is searched makes sense, where there is room for it
  sense : (n : ℕ) → 1 ≤ n → IsBegun p s n → HasRoomForGround s (ground_size n p) → MakesSense p n
  sense n some begun room = record { well_formed = well; fits = fits; few = few; few_witnesses = few_skolems p n some room.0; some = some; needed = begun.1 }

  -- the models so far are shown
  shown_by : (sizes : List Size) (us : List Finite) (chosen : ℕ) (done rest : List Event) → IsBegun p s (next sizes) → HasRoomForGround s (ground_size (next sizes) p) → HasDone p (next sizes) s.way us chosen done rest → AreShown p (next sizes) us
  shown_by sizes us chosen done rest begun room so = done_shown p (next sizes) s.way us chosen done rest (models p (next sizes) s.way (sense (next sizes) (omega (arith, start)) begun room)) so

  -- what a search behind one size more comes to
  abbrev GoesOnBehind : List Size → Type 0
  GoesOnBehind sizes = (t : Times) (sizes' : List Size) → AreGone sizes' → length sizes' ≡ length sizes + 1 → IsInTime s.seconds t → HasRead s.seconds (readings_in_all sizes') t → Comes (front sizes')

  -- a size is exhausted
  emptied : (t : Times) (sizes : List Size) (us : List Finite) (chosen : ℕ) (done : List Event) → AreGone sizes → IsBegun p s (next sizes) → HasRoomForGround s (ground_size (next sizes) p) → models_in_all sizes + length us < s.wanted → HasDone p (next sizes) s.way us chosen done [] → IsInTime s.seconds t
      → HasRead s.seconds (readings_in_all sizes + suc chosen) t → GoesOnBehind sizes → Comes (front sizes ++ (size_line (next sizes) ++ models_text p (models_in_all sizes) us))
  emptied t sizes us chosen done gone begun room fewer so in_time reads rest =
      let n = next sizes in
      let texts = models_text p (models_in_all sizes) us in
      let size = searched us chosen in
      let all = all_done p n s.way us chosen done so in
      let covers : CoverModels p n us = subst (CoverModels p n) (sym all.models) (cover p n s.way (sense n (omega (arith, start)) begun room)) in
      let is : HasEnded p s n size = ((begun.1, room), shown_by sizes us chosen done [] begun room so, covers, all) in
      let reads' = read_same t (readings_in_all sizes + suc chosen) (readings_in_all (sizes ++ size ∷ [])) (omega (arith, reads_more sizes size)) reads in
      shorter (front sizes ++ (size_line n ++ texts)) (exhausted_line n) (subst Comes (exhausted_is sizes us chosen) (rest t (sizes ++ size ∷ []) (gone_more sizes size gone begun.0 is fewer) (length_more sizes size) in_time reads'))

  -- before a choice: where a time is set it is over, and else the search goes on
  at_choice : (o : Option ℕ) → s.seconds ≡ o → (t : Times) (sizes : List Size) (us : List Finite) (chosen : ℕ) (done rest : List Event) → AreGone sizes → IsBegun p s (next sizes) → HasRoomForGround s (ground_size (next sizes) p) → models_in_all sizes + length us < s.wanted
      → HasDone p (next sizes) s.way us chosen done (choice ∷ rest) → IsInTime s.seconds t → HasRead s.seconds (readings_in_all sizes + suc chosen) t
      → (s.seconds ≡ None → HasDone p (next sizes) s.way us (suc chosen) (done ++ choice ∷ []) rest → Comes (front sizes ++ (size_line (next sizes) ++ models_text p (models_in_all sizes) us)))
      → Comes (front sizes ++ (size_line (next sizes) ++ models_text p (models_in_all sizes) us))
  at_choice None e t sizes us chosen done rest gone begun room fewer so in_time reads on = on e (choice_done p (next sizes) s.way us chosen done rest so)
  at_choice (Some sec) e t sizes us chosen done rest gone begun room fewer so in_time reads on = late_inside t sizes us chosen done rest sec e gone begun room (shown_by sizes us chosen done (choice ∷ rest) begun room so) so fewer in_time reads

  -- what is left of a size is done: its models are printed, and then that it is exhausted
  completed : (rest done : List Event) (t : Times) (sizes : List Size) (us : List Finite) (chosen : ℕ) → AreGone sizes → IsBegun p s (next sizes) → HasRoomForGround s (ground_size (next sizes) p) → models_in_all sizes + length us < s.wanted → HasDone p (next sizes) s.way us chosen done rest → IsInTime s.seconds t
      → HasRead s.seconds (readings_in_all sizes + suc chosen) t → GoesOnBehind sizes → Comes (front sizes ++ (size_line (next sizes) ++ models_text p (models_in_all sizes) us))
  completed [] done t sizes us chosen gone begun room fewer so in_time reads on = emptied t sizes us chosen done gone begun room fewer so in_time reads on
  completed (choice ∷ rest) done t sizes us chosen gone begun room fewer so in_time reads on =
      at_choice s.seconds refl t sizes us chosen done rest gone begun room fewer so in_time reads
      (λ e so'. completed rest (done ++ choice ∷ []) t sizes us (suc chosen) gone begun room fewer so' in_time (any_read s.seconds (readings_in_all sizes + suc chosen) (readings_in_all sizes + suc (suc chosen)) t e reads) on)
  completed (leaf q ∷ rest) done t sizes us chosen gone begun room fewer so in_time reads on =
      let n = next sizes in
      let k = models_in_all sizes in
      let v = tables_at p n s.way q in
      let us' = us ++ v ∷ [] in
      let done' = done ++ leaf q ∷ [] in
      let texts = models_text p k us in
      let text = model_text (all_symbols p) (suc (k + length us)) v in
      let so' = leaf_done p n s.way us chosen q done rest so in
      let same : front sizes ++ (size_line n ++ models_text p k us') ≡ (front sizes ++ (size_line n ++ texts)) ++ text =
      ap (λ (x : List ℕ). front sizes ++ (size_line n ++ x)) (finds.text_more p k us v) ∙ ap (λ (x : List ℕ). front sizes ++ x) (sym (append_assoc (size_line n) texts text)) ∙ sym (append_assoc (front sizes) (size_line n ++ texts) text) in
      shorter (front sizes ++ (size_line n ++ texts)) text
      (subst Comes same (elim (cases_lt (k + length us') s.wanted) [
        | inl more ↦ completed rest done' t sizes us' chosen gone begun room more so' in_time reads on
        | inr enough_now ↦ enough t sizes us' chosen gone begun room (omega (arith, fewer, enough_now, finds.many_more us v)) (shown_by sizes us' chosen done' rest begun room so') (done, (q, (rest, so'))) in_time reads
      ]))

  -- a size whose line is printed, at which the clock looked
  begun_on : (t : Times) (sizes : List Size) → AreGone sizes → IsBegun p s (next sizes) → IsInTime s.seconds t → HasRead s.seconds (readings_in_all sizes + 1) t → GoesOnBehind sizes → Comes (front sizes ++ size_line (next sizes))
  begun_on t sizes gone begun in_time reads on =
      let n = next sizes in
      let text : front sizes ++ (size_line n ++ []) ≡ front sizes ++ size_line n = ap (λ (u : List ℕ). front sizes ++ u) (append-nil (size_line n)) in
      elim (room_or_end n) [
        | inl room ↦ subst Comes text (completed (events (world_for p n s.way)) [] t sizes [] 0 gone begun room (omega (arith, gone.1)) (nothing_done p n s.way) in_time reads on)
        | inr crowded ↦ crowded_end t sizes crowded.0 crowded.1 gone begun in_time reads
      ]

  -- where a time is set, it is over as the clock looks, unless that is its first reading
  late_begun : (t : Times) (sizes : List Size) (sec : ℕ) → s.seconds ≡ Some sec → AreGone sizes → IsBegun p s (next sizes) → IsInTime s.seconds t → HasRead s.seconds (readings_in_all sizes) t → GoesOnBehind sizes → Comes (front sizes ++ size_line (next sizes))
  late_begun t sizes sec set gone begun in_time reads on =
      let r = readings_in_all sizes in
      elim (cases_lt 0 r) [
        | inl some ↦ (
            let late = late_times s.seconds sec r (r + 1) t set in_time reads (omega (arith, some)) (λ more. omega arith) in
            let t' = late.0 in
            ends_at t' sizes opened (MaxSeconds t'.first t'.last) gone begun (late.1.0, refl, tt, omega (arith, gone.1)) late.1.1)
        | inr none ↦ (
            let first = first_times s.seconds sec t set in
            begun_on first.0 sizes gone begun first.1.0 (read_same first.0 1 (r + 1) (omega (arith, none)) first.1.1) on)
      ]

  -- a size whose line is printed, whether a time is set or not
  begun_by : (o : Option ℕ) → s.seconds ≡ o → (t : Times) (sizes : List Size) → AreGone sizes → IsBegun p s (next sizes) → IsInTime s.seconds t → HasRead s.seconds (readings_in_all sizes) t → GoesOnBehind sizes → Comes (front sizes ++ size_line (next sizes))
  begun_by None e t sizes gone begun in_time reads on = begun_on t sizes gone begun in_time (any_read s.seconds (readings_in_all sizes) (readings_in_all sizes + 1) t e reads) on
  begun_by (Some sec) e t sizes gone begun in_time reads on = late_begun t sizes sec e gone begun in_time reads on

  -- behind sizes that ended, as many as `fuel` are to come at most
  on_behind : (fuel : ℕ) (t : Times) (sizes : List Size) → AreGone sizes → s.end < next sizes + fuel → IsInTime s.seconds t → HasRead s.seconds (readings_in_all sizes) t → Comes (front sizes)
  on_behind zero t sizes gone few in_time reads = over t sizes gone (omega (arith, few)) in_time reads
  on_behind (suc fuel) t sizes gone few in_time reads =
      let n = next sizes in
      elim (cases_lt s.end n) [
        | inl behind_all ↦ over t sizes gone behind_all in_time reads
        | inr within ↦ elim (cases_lt n (size_needed (formulas_of p))) [
          | inl small ↦ (
              let gone' = gone_more sizes skipped gone within small (omega (arith, gone.1)) in
              let later = next_is sizes (sizes ++ skipped ∷ []) (length_more sizes skipped) in
              let reads' = read_same t (readings_in_all sizes) (readings_in_all (sizes ++ skipped ∷ [])) (omega (arith, reads_more sizes skipped)) reads in
              shorter (front sizes) (skipped_line n) (subst Comes (text_is sizes skipped) (on_behind fuel t (sizes ++ skipped ∷ []) gone' (omega (arith, few, later, step)) in_time reads')))
          | inr large ↦ (
              let rest : GoesOnBehind sizes =
              λ t' sizes' gone' more in_time' reads'. (let later = next_is sizes sizes' more in on_behind fuel t' sizes' gone' (omega (arith, few, later, step)) in_time' reads') in
              shorter (front sizes) (size_line n) (begun_by s.seconds refl t sizes gone (within, large) in_time reads rest))
        ]
      ]

  -- all that is to come behind a size more
  all_behind : (sizes : List Size) → GoesOnBehind sizes
  all_behind sizes t sizes' gone' more in_time reads = on_behind (suc s.end) t sizes' gone' (omega arith) in_time reads

  goes_at : (t : Times) (sizes : List Size) (now : Now) → AreGone sizes → IsAtSize p s (next sizes) now → StaysWithin p s (next sizes) (models_by sizes now) now → IsInTime s.seconds t → HasRead s.seconds (readings_by sizes now) t → Comes (text_by p s sizes now)
  goes_at t sizes between gone stands most in_time reads = subst Comes (sym (append-nil (front sizes))) (on_behind (suc s.end) t sizes gone (omega arith) in_time (read_same t (readings_by sizes between) (readings_in_all sizes) (omega arith) reads))
  goes_at t sizes opened gone begun most in_time reads = begun_by s.seconds refl t sizes gone begun in_time (read_same t (readings_by sizes opened) (readings_in_all sizes) (omega arith) reads) (all_behind sizes)
  goes_at t sizes (inside us chosen) gone (begun, room, shown, (done, (rest, so))) (inl fewer) in_time reads = completed rest done t sizes us chosen gone begun room fewer so in_time reads (all_behind sizes)
  goes_at t sizes (inside us chosen) gone (begun, room, shown, some) (inr all) in_time reads = enough t sizes us chosen gone begun room all.0 shown all.1 in_time reads

  -- a search that goes on can come to an end
  pub goes_comes : (t : Times) (text : List ℕ) → SearchGoes p s t text → Comes text
  goes_comes t text h = subst Comes (sym h.text_is) (goes_at t h.sizes h.now (h.so_far.ended, h.so_far.fewer) h.so_far.stands h.most h.in_time h.reads)

  -- so can one that hasn't begun
  pub starts_comes : 1 ≤ s.wanted → Comes []
  starts_comes some =
      let t : Times = record { count = 0; first = 0; last = 0; between = 0 } in
      on_behind (suc s.end) t [] (tt, omega (arith, some)) (omega arith) (unread_in_time s.seconds) (unread_reads s.seconds)
    where
      unread_in_time : (o : Option ℕ) → IsInTime o (record { count = 0; first = 0; last = 0; between = 0 })
      unread_in_time None = refl
      unread_in_time (Some x) = λ more. absurd (omega (arith, more))

      unread_reads : (o : Option ℕ) → HasRead o 0 (record { count = 0; first = 0; last = 0; between = 0 })
      unread_reads None = refl
      unread_reads (Some x) = omega arith
