-- The models of a size, as they are found and printed.
use Rattle.std.proofs.Common.{◌≡◌, ℕ, suc, ◌+◌, ◌<◌, Bool, true, false, List, [], ◌∷◌, ◌++◌, length, replicate, Option, None, Result, Ok, Err, IfOk, ◌⊎◌, inl, inr, refl, ap, sym, subst, ◌∙◌, append_assoc, append-nil, arith}
use Rattle.std.proofs.lemmas.Bool.{cases_lt}
use Rattle.cell_driver.specs.Comings.{ComesInTime}
use Rattle.cell_search.specs.Courses.{Course}
use Rattle.cell_search.specs.Finites.{AreLeafTables, tables_over}
use Rattle.fol_problem.specs.Stated.{Stated}
use Rattle.ladr_cells.specs.Showing.{CoverModels}
use Rattle.ladr_cells.specs.Worlds.{world_for, ground_size}
use Rattle.ladr_io.proofs.StreamLaws.{Takes-none, Takes-append}
use Rattle.ladr_io.specs.Streams.{Outflow, Takes}
use Rattle.ladr_io.specs.Times.{Times}
use Rattle.ladr_io.specs.Watch.{IsLate}
use Rattle.ladr_mace4.proofs.Doing.{nothing_done, choices_done, leaf_done, all_done, done_shown}
use Rattle.ladr_mace4.specs.Done.{tables_at, leaf_models, HasDone, HasDoneAll, ComesToLeaf}
use Rattle.ladr_mace4.specs.Lines.{size_line, exhausted_line}
use Rattle.ladr_mace4.specs.Models.{AreShown}
use Rattle.ladr_mace4.specs.ItemTexts.{IsPrinted}
use Rattle.ladr_mace4.specs.Rooms.{HasRoomForGround, IsBegun}
use Rattle.ladr_mace4.specs.Skolems.{all_symbols}
use Rattle.ladr_mace4.specs.Story.{inside, searched, models_text, StaysWithin, SizeGoes, SizeEnds}
use Rattle.search_clock.specs.Watching.{time_to_stop, IsInTime, HasRead}
use Rattle.ladr_mace4.specs.declared.ends.SearchEnd.TheVariants.{MaxModels, MaxSeconds}
use Rattle.ladr_mace4.specs.declared.ends.Step.{Step}
use Rattle.ladr_mace4.specs.declared.ends.Step.TheVariants.{Over, Ends}
use Rattle.ladr_mace4.specs.declared.plan.Plan.{Plan}
use Rattle.ladr_output.proofs.Tellings.{told_behind, cut_by, first_cut}
use Rattle.ladr_output.specs.Telling.{IsPiece, Tells}
use Rattle.ladr_output.specs.declared.cut.Cut.{Cut}
use Rattle.ladr_output.specs.declared.cut.Cut.TheVariants.{WriteFault, Memory}
use Rattle.mace_cells.proofs.Reading.{reads_none, reads_both}
use Rattle.mace_cells.specs.Choices.{Choice, decisions}
use Rattle.mace_cells.specs.Readings.{ReadsOn}
use Rattle.mace_cells.specs.World.{World}
use Rattle.mace_search.specs.declared.answer.SearchAnswer.{SearchAnswer}
use Rattle.mace_search.specs.declared.answer.SearchAnswer.TheVariants as answers
use Rattle.model_tables.specs.ModelText.{model_text}
use Rattle.model_tables.specs.Tables.{Finite}
use Rattle.plain_search.proofs.Coming.{all_is_to_come}
use Rattle.plain_search.specs.Coming.{Event, choice, leaf, events, to_come}
use Rattle.plain_search.specs.Lefts.{ValuesLeft}

pub many_more : (ts : List Finite) (t : Finite) → length (ts ++ t ∷ []) ≡ length ts + 1
many_more [] t = refl
many_more (u ∷ ts) t = omega (arith, many_more ts t)

pub text_more : (p : Stated) (k : ℕ) (ts : List Finite) (t : Finite) → models_text p k (ts ++ t ∷ []) ≡ models_text p k ts ++ model_text (all_symbols p) (suc (k + length ts)) t
text_more p k [] t = let e : suc (k + 0) ≡ suc k = omega arith in rw e (append-nil _)
text_more p k (u ∷ ts) t =
    let e : suc (k + suc (length ts)) ≡ suc (suc k + length ts) = omega arith in
    rw e (ap (λ (l : List ℕ). model_text (all_symbols p) (suc k) u ++ l) (text_more p (suc k) ts t) ∙ sym (append_assoc (model_text (all_symbols p) (suc k) u) (models_text p (suc k) ts) _))

-- what a search for the models of a size printed so far
pub record SoFar (p : Stated) (s : Plan) (n k : ℕ) (us : List Finite) (search : Course) (printed : ℕ) (a b : Outflow) : Type 0 where
  pub count : printed ≡ k + length us
  pub took : Takes a b (models_text p k us)
  pub world : search.world ≡ world_for p n s.way
  pub late : search.late ≡ None

-- nothing is printed yet
pub nothing_yet : (p : Stated) (s : Plan) (n k : ℕ) (search : Course) (a : Outflow) → search.world ≡ world_for p n s.way → search.late ≡ None → SoFar p s n k [] search k a a
nothing_yet p s n k search a e late = record { count = omega arith; took = Takes-none a; world = e; late = late }

-- How the search went so far: this is done of what the plain search does, and all else is to come;
-- where there are models, the last of them was found just now; and the clock was read as often since
-- as cells were chosen.
pub record HasGone (p : Stated) (s : Plan) (n : ℕ) (us : List Finite) (search : Course) (t t' : Times) : Type 0 where
  pub chosen : ℕ
  pub done : List Event
  pub so : HasDone p n s.way us chosen done (to_come (world_for p n s.way) search.live search.choices)
  pub last : (us ≡ []) ⊎ ComesToLeaf p n s.way us chosen
  pub goes : ReadsOn search.stop chosen t t'

pub none_gone : (p : Stated) (s : Plan) (n : ℕ) (search : Course) (t : Times) → search.live ≡ true → search.choices ≡ [] → HasGone p s n [] search t t
none_gone p s n search t live none =
    let w = world_for p n s.way in
    let all : events w ≡ to_come w search.live search.choices = sym (ap (λ (b : Bool). to_come w b search.choices) live ∙ ap (λ (cs : List Choice). to_come w true cs) none ∙ all_is_to_come w) in
    record {
      chosen = 0;
      done = [];
      so = subst (HasDone p n s.way [] 0 []) all (nothing_done p n s.way);
      last = inl refl;
      goes = reads_none search.stop t;
    }

-- what the search answers, as the tables and the choices that it had before say it
abbrev pub ComesBy : Stated → Plan → ℕ → Course → SearchAnswer → List Choice → Times → Times → Type 0
ComesBy p s n search answer choices t t' = ComesInTime search.world search.stop search.live search.choices answer choices t t'

-- it came to a leaf, which is to come yet
pub record AtLeaf (p : Stated) (s : Plan) (n : ℕ) (us : List Finite) (search : Course) (choices : List Choice) (tables : Finite) (t t' : Times) : Type 0 where
  pub found : ValuesLeft
  pub chosen : ℕ
  pub done : List Event
  pub so : HasDone p n s.way us chosen done (leaf found ∷ to_come (world_for p n s.way) false choices)
  pub goes : ReadsOn search.stop chosen t t'
  pub same : tables_over (all_symbols p) tables ≡ tables_at p n s.way found

pub gone_before : (p : Stated) (s : Plan) (n : ℕ) (us : List Finite) (search search' : Course) (t u u' : Times) → search.world ≡ world_for p n s.way → search'.world ≡ search.world → HasGone p s n us search t u → ComesBy p s n search answers.Model search'.choices u u' → AreLeafTables search'.world (decisions search'.choices) search'.tables
    → AtLeaf p s n us search search'.choices search'.tables t u'
gone_before p s n us search search' t u u' world same h k tables =
    let w = world_for p n s.way in
    let here : ComesInTime w search.stop search.live search.choices answers.Model search'.choices u u' = subst (λ (x : World). ComesInTime x search.stop search.live search.choices answers.Model search'.choices u u') world k in
    let leaf_is : AreLeafTables w (decisions search'.choices) search'.tables = subst (λ (x : World). AreLeafTables x (decisions search'.choices) search'.tables) (same ∙ world) tables in
    record {
      found = here.1.0.0;
      chosen = h.chosen + here.0;
      done = h.done ++ replicate here.0 choice;
      so = choices_done p n s.way us h.chosen here.0 h.done _ (leaf here.1.0.0 ∷ to_come w false search'.choices) h.so here.1.0.1.1;
      goes = reads_both search.stop h.chosen here.0 (h.chosen + here.0) t u u' refl h.goes here.1.1;
      same = ap (tables_over (all_symbols p)) (leaf_is here.1.0.0 here.1.0.1.0);
    }

-- the leaf is found
pub found_one : (p : Stated) (s : Plan) (n : ℕ) (us : List Finite) (search : Course) (choices : List Choice) (tables : Finite) (t t' : Times) → (k : AtLeaf p s n us search choices tables t t') → HasDone p n s.way (us ++ tables_over (all_symbols p) tables ∷ []) k.chosen (k.done ++ leaf k.found ∷ []) (to_come (world_for p n s.way) false choices)
found_one p s n us search choices tables t t' k = subst (λ (v : Finite). HasDone p n s.way (us ++ v ∷ []) k.chosen (k.done ++ leaf k.found ∷ []) (to_come (world_for p n s.way) false choices)) (sym k.same) (leaf_done p n s.way us k.chosen k.found k.done (to_come (world_for p n s.way) false choices) k.so)

pub gone_more : (p : Stated) (s : Plan) (n : ℕ) (us : List Finite) (search search' : Course) (t u' : Times) → search'.stop ≡ search.stop → search'.live ≡ false → AtLeaf p s n us search search'.choices search'.tables t u' → HasGone p s n (us ++ tables_over (all_symbols p) search'.tables ∷ []) search' t u'
gone_more p s n us search search' t u' same live k =
    let w = world_for p n s.way in
    let v = tables_over (all_symbols p) search'.tables in
    let so = found_one p s n us search search'.choices search'.tables t u' k in
    record {
      chosen = k.chosen;
      done = k.done ++ leaf k.found ∷ [];
      so = subst (λ (b : Bool). HasDone p n s.way (us ++ v ∷ []) k.chosen (k.done ++ leaf k.found ∷ []) (to_come w b search'.choices)) (sym live) so;
      last = inr (k.done, (k.found, (to_come w false search'.choices, so)));
      goes = subst (λ (o : Option ℕ). ReadsOn o k.chosen t u') (sym same) k.goes;
    }

-- it went to its end, with no model more
pub gone_over : (p : Stated) (s : Plan) (n : ℕ) (us : List Finite) (search : Course) (choices : List Choice) (t u u' : Times) → search.world ≡ world_for p n s.way → HasGone p s n us search t u → ComesBy p s n search answers.Exhausted choices u u'
    → (chosen : ℕ) × (((done : List Event) × HasDone p n s.way us chosen done []) × ReadsOn search.stop chosen t u')
gone_over p s n us search choices t u u' world h k =
    let here : ComesInTime (world_for p n s.way) search.stop search.live search.choices answers.Exhausted choices u u' = subst (λ (x : World). ComesInTime x search.stop search.live search.choices answers.Exhausted choices u u') world k in
    (h.chosen + here.0, ((h.done ++ replicate here.0 choice, choices_done p n s.way us h.chosen here.0 h.done _ [] h.so (here.1.0 ∙ sym (append-nil (replicate here.0 choice)))), reads_both search.stop h.chosen here.0 (h.chosen + here.0) t u u' refl h.goes here.1.1))

-- or to a choice before which the time was over
pub gone_late : (p : Stated) (s : Plan) (n : ℕ) (us : List Finite) (search : Course) (choices : List Choice) (last : ℕ) (t u u' : Times) → search.world ≡ world_for p n s.way → HasGone p s n us search t u → ComesBy p s n search (answers.MaxSeconds last) choices u u'
    → (chosen : ℕ) × (((done : List Event) × ((rest : List Event) × HasDone p n s.way us chosen done (choice ∷ rest))) × ReadsOn search.stop (suc chosen) t u')
gone_late p s n us search choices last t u u' world h k =
    let here : ComesInTime (world_for p n s.way) search.stop search.live search.choices (answers.MaxSeconds last) choices u u' = subst (λ (x : World). ComesInTime x search.stop search.live search.choices (answers.MaxSeconds last) choices u u') world k in
    let rest = here.1.0.0 in
    (h.chosen + here.0, ((h.done ++ replicate here.0 choice, (rest, choices_done p n s.way us h.chosen here.0 h.done _ (choice ∷ rest) h.so here.1.0.1.1)), reads_both search.stop h.chosen (suc here.0) (suc (h.chosen + here.0)) t u u' (omega arith) h.goes here.1.1))

-- as many models as are wanted are printed, one at least in this size
pub all_wanted : (p : Stated) (s : Plan) (n k : ℕ) (us : List Finite) (search : Course) (printed : ℕ) (a b : Outflow) (t t' : Times) → k < s.wanted → printed ≡ s.wanted → SoFar p s n k us search printed a b → (h : HasGone p s n us search t t') → ComesToLeaf p n s.way us h.chosen
all_wanted p s n k us search printed a b t t' fewer all so_far h = elim h.last [
  | inl none ↦ absurd (let many : length us ≡ 0 = ap (λ (l : List Finite). length l) none in omega (arith, many, fewer, all, so_far.count))
  | inr at_leaf ↦ at_leaf
]

text_of : (p : Stated) (s : Plan) (n k : ℕ) (us : List Finite) (search : Course) (printed : ℕ) (x : Finite) (a b : Outflow) → SoFar p s n k us search printed a b → models_text p k (us ++ x ∷ []) ≡ models_text p k us ++ model_text (all_symbols p) (printed + 1) x
text_of p s n k us search printed x a b so_far =
    let e : suc (k + length us) ≡ printed + 1 = omega (arith, so_far.count) in
    text_more p k us x ∙ ap (λ (j : ℕ). models_text p k us ++ model_text (all_symbols p) j x) e

-- one model more
pub further : (p : Stated) (s : Plan) (n k : ℕ) (us : List Finite) (search search' : Course) (printed printed' : ℕ) (a b c : Outflow) → SoFar p s n k us search printed a b → search'.world ≡ search.world → search'.late ≡ None → printed' ≡ printed + 1
    → Takes b c (model_text (all_symbols p) printed' (tables_over (all_symbols p) search'.tables)) → SoFar p s n k (us ++ tables_over (all_symbols p) search'.tables ∷ []) search' printed' a c
further p s n k us search search' printed printed' a b c so_far world late i took =
    let x = tables_over (all_symbols p) search'.tables in
    let took' : Takes b c (model_text (all_symbols p) (printed + 1) x) = subst (λ (j : ℕ). Takes b c (model_text (all_symbols p) j x)) i took in
    record {
      count = omega (arith, so_far.count, many_more us x, i);
      took = subst (Takes a c) (sym (text_of p s n k us search printed x a b so_far)) (Takes-append a b c (models_text p k us) (model_text (all_symbols p) (printed + 1) x) so_far.took took');
      world = world ∙ so_far.world;
      late = late;
    }

module _ (p : Stated) (s : Plan) (t : Times) (n k r : ℕ) where
  -- what may stand, and what ends, behind the size's line and a text
  abbrev pub goes_behind : List ℕ → List ℕ → Type 0
  goes_behind front text = SizeGoes p s t n k r (size_line n ++ (front ++ text))

  abbrev pub ends_behind : List ℕ → Step → List ℕ → Type 0
  ends_behind front step text = SizeEnds p s t n k r step (size_line n ++ (front ++ text))

  -- behind models the size goes on
  pub going : (us : List Finite) (chosen : ℕ) (done rest : List Event) (text : List ℕ) → IsBegun p s n → HasRoomForGround s (ground_size n p) → AreShown p n us → HasDone p n s.way us chosen done rest → StaysWithin p s n (k + length us) (inside us chosen) → IsInTime s.seconds t
      → HasRead s.seconds (r + suc chosen) t → text ≡ models_text p k us → SizeGoes p s t n k r (size_line n ++ text)
  going us chosen done rest text begun room shown so within in_time reads e = (inside us chosen, (begun, room, shown, (done, (rest, so))), within, in_time, reads, ap (λ (u : List ℕ). size_line n ++ u) e)

  -- no model is printed
  pub line_alone : IsBegun p s n → HasRoomForGround s (ground_size n p) → k < s.wanted → IsInTime s.seconds t → HasRead s.seconds (r + 1) t → SizeGoes p s t n k r (size_line n ++ [])
  line_alone begun room fewer in_time reads = going [] 0 [] (events (world_for p n s.way)) [] begun room (tt, tt) (nothing_done p n s.way) (inl (omega (arith, fewer))) in_time reads refl

  -- the end of the size is printed, or cut off
  pub at_end : (us : List Finite) (search : Course) (printed : ℕ) (a b c : Outflow) (result : Result Step Cut) → AreShown p n (leaf_models p n s.way) → CoverModels p n (leaf_models p n s.way) → IsBegun p s n → HasRoomForGround s (ground_size n p) → printed < s.wanted → SoFar p s n k us search printed a b → (chosen : ℕ) (done : List Event) → HasDone p n s.way us chosen done []
      → IsInTime s.seconds t → HasRead s.seconds (r + suc chosen) t → IsPiece (exhausted_line n) b c result → IfOk result (λ step. step ≡ Over printed) → Tells (λ u. SizeGoes p s t n k r (size_line n ++ u)) (λ e u. SizeEnds p s t n k r e (size_line n ++ u)) a c result
  at_end us search printed a b c result all_shown cover begun room fewer so_far chosen done so in_time reads piece step =
      told_behind (λ u. SizeGoes p s t n k r (size_line n ++ u)) (λ e u. SizeEnds p s t n k r e (size_line n ++ u)) a b c (models_text p k us) result so_far.took (by result piece step)
    where
      shown : AreShown p n us
      shown = done_shown p n s.way us chosen done [] all_shown so

      all : HasDoneAll p n s.way us chosen
      all = all_done p n s.way us chosen done so

      over : ends_behind (models_text p k us) (Over printed) (exhausted_line n)
      over = (searched us chosen, begun.0, ((begun.1, room), shown, subst (CoverModels p n) (sym all.models) cover, all), so_far.count, fewer, in_time, reads, refl)

      alone : goes_behind (models_text p k us) []
      alone = going us chosen done [] (models_text p k us ++ []) begun room shown so (inl (omega (arith, so_far.count, fewer))) in_time reads (append-nil (models_text p k us))

      by : (result : Result Step Cut) → IsPiece (exhausted_line n) b c result → IfOk result (λ step. step ≡ Over printed) → Tells (goes_behind (models_text p k us)) (ends_behind (models_text p k us)) b c result
      by (Ok step) took is = (exhausted_line n, subst (λ (e : Step). ends_behind (models_text p k us) e (exhausted_line n)) (sym is) over, took)
      by (Err WriteFault) front is = first_cut {E = Step} (goes_behind (models_text p k us)) (ends_behind (models_text p k us)) (exhausted_line n) b c alone (inr (Over printed, over)) front
      by (Err Memory) nothing is = ([], alone, nothing)

  -- a model that is found is cut off
  pub at_model : (us : List Finite) (search : Course) (tables : Finite) (choices : List Choice) (printed : ℕ) (a b c : Outflow) (why : Cut) → AreShown p n (leaf_models p n s.way) → IsBegun p s n → HasRoomForGround s (ground_size n p) → printed < s.wanted → SoFar p s n k us search printed a b
      → (t₀ : Times) → (here : AtLeaf p s n us search choices tables t₀ t) → IsInTime s.seconds t → HasRead s.seconds (r + suc here.chosen) t → IsPrinted (λ text. text ≡ model_text (all_symbols p) (printed + 1) (tables_over (all_symbols p) tables)) b c (Err why)
      → Tells (λ u. SizeGoes p s t n k r (size_line n ++ u)) (λ e u. SizeEnds p s t n k r e (size_line n ++ u)) a c (Err why)
  at_model us search tables choices printed a b c why all_shown begun room fewer so_far t₀ here in_time reads piece =
      told_behind (λ u. SizeGoes p s t n k r (size_line n ++ u)) (λ e u. SizeEnds p s t n k r e (size_line n ++ u)) a b c (models_text p k us) (Err why) so_far.took (by why piece)
    where
      v : Finite
      v = tables_over (all_symbols p) tables

      text : List ℕ
      text = model_text (all_symbols p) (printed + 1) v

      us' : List Finite
      us' = us ++ v ∷ []

      rest : List Event
      rest = to_come (world_for p n s.way) false choices

      so : HasDone p n s.way us' here.chosen (here.done ++ leaf here.found ∷ []) rest
      so = found_one p s n us search choices tables t₀ t here

      within : StaysWithin p s n (k + length us') (inside us' here.chosen)
      within = elim (cases_lt (k + length us') s.wanted) [
        | inl few ↦ inl few
        | inr many ↦ inr (omega (arith, so_far.count, many_more us v, fewer, many), (here.done, (here.found, (rest, so))))
      ]

      alone : goes_behind (models_text p k us) []
      alone = going us here.chosen here.done (leaf here.found ∷ rest) (models_text p k us ++ []) begun room (done_shown p n s.way us here.chosen here.done (leaf here.found ∷ rest) all_shown here.so) here.so (inl (omega (arith, so_far.count, fewer))) in_time reads (append-nil (models_text p k us))

      whole : goes_behind (models_text p k us) text
      whole =
          going us' here.chosen (here.done ++ leaf here.found ∷ []) rest (models_text p k us ++ text) begun room (done_shown p n s.way us' here.chosen (here.done ++ leaf here.found ∷ []) rest all_shown so) so within in_time reads (sym (text_of p s n k us search printed v a b so_far))

      by : (why : Cut) → IsPrinted (λ x. x ≡ text) b c (Err why) → Tells {E = Step} (goes_behind (models_text p k us)) (ends_behind (models_text p k us)) b c (Err why)
      by why (inl (x, is, piece)) = cut_by (Unit {0}) (goes_behind (models_text p k us)) (ends_behind (models_text p k us)) x b c why alone (subst (goes_behind (models_text p k us)) (sym is) whole) piece
      by Memory (inr (e, took)) = ([], alone, took)
      by WriteFault (inr (e, took)) = absurd cc

  -- as many models as are wanted are printed
  pub at_last : (us : List Finite) (search : Course) (printed : ℕ) (a b : Outflow) → AreShown p n (leaf_models p n s.way) → IsBegun p s n → HasRoomForGround s (ground_size n p) → k < s.wanted → printed ≡ s.wanted → SoFar p s n k us search printed a b → (t₀ : Times) → (gone : HasGone p s n us search t₀ t) → IsInTime s.seconds t → HasRead s.seconds (r + suc gone.chosen) t
      → Tells (λ u. SizeGoes p s t n k r (size_line n ++ u)) (λ e u. SizeEnds p s t n k r e (size_line n ++ u)) a b (Ok (Ends MaxModels printed))
  at_last us search printed a b all_shown begun room fewer all so_far t₀ gone in_time reads =
      let rest = to_come (world_for p n s.way) search.live search.choices in (
        models_text p k us,
        (inside us gone.chosen, (begun, room, done_shown p n s.way us gone.chosen gone.done rest all_shown gone.so, (gone.done, (rest, gone.so))), so_far.count, (in_time, all_wanted p s n k us search printed a b t₀ t fewer all so_far gone, all), reads, refl),
        so_far.took,
      )

  -- the time is over
  pub at_late : (us : List Finite) (search : Course) (printed first last : ℕ) (a b : Outflow) → AreShown p n (leaf_models p n s.way) → IsBegun p s n → HasRoomForGround s (ground_size n p) → printed < s.wanted → SoFar p s n k us search printed a b → (chosen : ℕ) (done rest : List Event) → HasDone p n s.way us chosen done (choice ∷ rest) → IsLate (time_to_stop s.seconds t) t last → first ≡ t.first → HasRead s.seconds (r + suc (suc chosen)) t
      → Tells (λ u. SizeGoes p s t n k r (size_line n ++ u)) (λ e u. SizeEnds p s t n k r e (size_line n ++ u)) a b (Ok (Ends (MaxSeconds first last) printed))
  at_late us search printed first last a b all_shown begun room fewer so_far chosen done rest so late is reads = (
    models_text p k us,
    (inside us chosen, (begun, room, done_shown p n s.way us chosen done (choice ∷ rest) all_shown so, (done, (choice ∷ rest, so))), so_far.count, (late, is, (done, (rest, so)), fewer), reads, refl),
    so_far.took,
  )

-- a model that was printed
pub printed_model : (text : List ℕ) (a b : Outflow) → IsPrinted (λ x. x ≡ text) a b (Ok tt) → Takes a b text
printed_model text a b (inl (x, is, took)) = subst (Takes a b) is took
printed_model text a b (inr (f, took)) = absurd cc
