-- From one answer of a prover to the next.
use Rattle.std.proofs.Common.{◌≡◌, ◌⊎◌, ◌<◌, ◌^◌, ◌+◌, length, ℕ, suc, inl, inr, refl, sym, ap, ap₂, ◌∙◌, subst, arith, Result, Ok, Err, None, Some, Option, List, [], ◌∷◌, ◌++◌, append_assoc, length-append}
use Rattle.std.specs.Prelude.{IfOk, OnOk, OnErr}
use Rattle.std.specs.Global.{Vec}
use Rattle.std.specs.declared.alloc.AllocError.{AllocError}
use Rattle.std.proofs.lemmas.List.{append-nil, length-map}
use Rattle.clause_store.specs.Laws.{AncestorsStay}
use Rattle.derivation.specs.Lines.{InputRow}
use Rattle.fol_problem.specs.Stated.{said_of}
use Rattle.ladr_io.proofs.StreamLaws.{Takes-none, Takes-append}
use Rattle.ladr_io.specs.Streams.{Outflow, Takes}
use Rattle.ladr_io.specs.Times.{Times}
use Rattle.ladr_output.specs.Telling.{IsPiece, Tells}
use Rattle.ladr_output.specs.declared.cut.Cut.{Cut}
use Rattle.ladr_output.specs.declared.cut.Cut.TheVariants.{WriteFault, Memory}
use Rattle.ladr_prover9.proofs.Steps.{step_text, first_stays}
use Rattle.ladr_prover9.specs.Askings.{quest_of, end_for, HasProof, IsAskedFor, IsSoundQuest}
use Rattle.ladr_prover9.specs.Counting.{IsFirstProof}
use Rattle.ladr_prover9.specs.ProofTexts.{IsProofText, IsStateText}
use Rattle.ladr_prover9.specs.Quests.{Quest, quest_lines}
use Rattle.ladr_prover9.specs.Story.{HasRung, EndsIn, ProofsGo, ProofsCome}
use Rattle.ladr_prover9.specs.declared.asking.Asking.{Asking}
use Rattle.ladr_prover9.specs.declared.ends.ProverEnd.{ProverEnd}
use Rattle.ladr_prover9.specs.declared.ends.ProverEnd.TheVariants as over
use Rattle.prover.proofs.Finding.{found_given}
use Rattle.prover.proofs.Going.{reaches_next, reaches_then, reached_lines}
use Rattle.prover.proofs.Readings.{reads_behind, reads_from_none}
use Rattle.prover.specs.Answers.{IsAtGiving, EndsWithout, FindsNone, FindsNext, ReadsOn, LacksMemory, RunsTo, readings_first}
use Rattle.prover.specs.Provers.{watch_of, IsNew}
use Rattle.prover.specs.declared.answer.ProverAnswer.{ProverAnswer}
use Rattle.prover.specs.declared.answer.ProverAnswer.TheVariants.{Proof, Proofs, SosEmpty, MaxGiven, MaxKept, MaxMegs, MaxSeconds}
use Rattle.prover.specs.declared.standing.Prover.{Prover}
use Rattle.prover_setup.specs.SearchInputs.{SearchInput, setting_in, rows_in, start_in, IsReachedIn}
use Rattle.prover_steps.specs.Ending.{IsReason, IsWithinLimits, StartIsWithinLimits, ReachedAreWithinLimits}
use Rattle.prover_steps.specs.LineNumbers.{CountsLinesFrom, ReachedCountLines}
use Rattle.prover_steps.specs.SearchLaws.{ReachedAreSound}
use Rattle.prover_steps.specs.Searching.{Reason, FoundProof, SearchState}
use Rattle.prover_steps.specs.Starting.{StartsWell}
use Rattle.search_clock.specs.Watching.{IsInTime, HasRead, HasBegun, IsWatchedBy, IsWatched}
use Rattle.search_clock.specs.declared.watch.Watch.{Watch}

-- the lines of each state that is reached are counted
pub counted_at : ReachedCountLines → (a : Asking) (t : SearchState) → IsAskedFor a → IsReachedIn (quest_of a).search t → CountsLinesFrom (suc (length a.problem.now.inputs.items + length a.clauses.items)) t
counted_at law a t is h =
    let x = (quest_of a).search in
    subst (λ (n : ℕ). CountsLinesFrom n t) (ap₂ (λ (m k : ℕ). suc (m + k)) (length-map a.problem.now.inputs.items said_of) (ap (λ (rs : List InputRow). length rs) (sym is.clauses)))
    (law (setting_in x) x.stated.formulas (rows_in x) t h)

-- a state that is reached is within the limits
pub within : StartIsWithinLimits → ReachedAreWithinLimits → (q : Quest) (t : SearchState) → IsReachedIn q.search t → IsWithinLimits (setting_in q.search) t
within start limits q t r = limits (setting_in q.search) (start_in q.search) t (start (setting_in q.search) q.search.stated.formulas (rows_in q.search)) r

-- the clock was read for the state so far: not yet where the search begins
abbrev HasReadFor : Quest → Option ℕ → Watch → SearchState → Times → Type 0
HasReadFor q seconds w t times =
    ((t ≡ start_in q.search) × (w.first ≡ None) × (times.count ≡ 0))
    ⊎ (HasBegun w times × HasRead seconds (suc t.given) times)

-- a clock that was not read yet is watched
new_by : (seconds first : Option ℕ) (times : Times) → first ≡ None → times.count ≡ 0 → IsWatchedBy seconds first times
new_by None first times e h = h
new_by (Some s) None times e h = h
new_by (Some s) (Some f) times e h = absurd cc

pub new_watched : (w : Watch) (times : Times) → w.first ≡ None → times.count ≡ 0 → IsWatched w times
new_watched w times e h = new_by w.seconds w.first times e h

-- the search goes on behind a proof alone
pub only_proof : (answer : ProverAnswer) → end_for answer ≡ None → (n : ℕ) × (answer ≡ Proof n)
only_proof (Proof n) e = (n, refl)
only_proof Proofs e = absurd cc
only_proof SosEmpty e = absurd cc
only_proof MaxGiven e = absurd cc
only_proof MaxKept e = absurd cc
only_proof MaxMegs e = absurd cc
only_proof (MaxSeconds first last) e = absurd cc

-- a new prover, by the time that it has
pub new_again : (x : SearchInput) (seconds : Option ℕ) (p : Prover) → IsNew x seconds p → IsNew x (watch_of p).seconds p
new_again x seconds p h = record { going = h.going; fit = h.fit; setting = h.setting; state = h.state; time = refl; unread = h.unread; untried = h.untried }

-- how a piece went
abbrev pub went : Result (Unit {0}) Cut
went = Ok tt

abbrev pub cut_by : Cut → Result (Unit {0}) Cut
cut_by why = Err why

-- it is in this state by now, and the sink took the text since
pub record IsSearchedTo (q : Quest) (seconds : Option ℕ) (w : Watch) (times : Times) (t : SearchState) (a b : Outflow) : Type 0 where
  pub time : w.seconds ≡ seconds
  pub same : b.over ≡ a.over
  pub reached : IsReachedIn q.search t
  pub reads : HasReadFor q seconds w t times
  pub prints : (text : List ℕ) → IsStateText q (start_in q.search) text → (more : List ℕ) × IsStateText q t (text ++ more) × Takes a b more

-- as a search begins
pub begins : (q : Quest) (seconds : Option ℕ) (w : Watch) (times : Times) (t : SearchState) (a : Outflow) → w.seconds ≡ seconds → w.first ≡ None → t ≡ start_in q.search → times.count ≡ 0 → IsSearchedTo q seconds w times t a a
begins q seconds w times t a time first start unread = record {
  time = time;
  same = refl;
  reached = (0, sym start);
  reads = inl (start, first, unread);
  prints = λ text h. ([], subst (λ (u : SearchState). IsStateText q u (text ++ [])) (sym start) (subst (λ (u : List ℕ). IsStateText q (start_in q.search) u) (sym (append-nil text)) h), Takes-none a);
}

module _ (stay : AncestorsStay) (starts : StartsWell) (sound : ReachedAreSound) (q : Quest) (is : IsSoundQuest q) (seconds : Option ℕ) (w : Watch) (times : Times) (s : SearchState) (a b : Outflow) (h : IsSearchedTo q seconds w times s a b) where
  abbrev Goes : Times → List ℕ → List ℕ → Type 0
  Goes now text more = ProofsGo q seconds now (text ++ more)

  abbrev Comes : Times → SearchState → List ℕ → ProverEnd → List ℕ → Type 0
  Comes now t text end more = ProofsCome q seconds now end t (text ++ more)

  -- so often the clock was read by a later state
  read_by : (more all count : ℕ) (t : SearchState) (now : Times) → all ≡ more + readings_first w → count ≡ more + suc t.given → ReadsOn seconds all s t times now → HasRead seconds count now
  read_by more all count t now e f k = by h.reads
    where
      by : HasReadFor q seconds w s times → HasRead seconds count now
      by (inl x) = reads_from_none w seconds more all count s t times now x.1 e f x.2 (ap (λ (u : SearchState). u.given) x.0) k
      by (inr x) = reads_behind w seconds more all count s t times now h.time e f x.0 x.1 k

  read_here : (t : SearchState) (now : Times) → ReadsOn seconds (readings_first w) s t times now → HasRead seconds (suc t.given) now
  read_here t now k = read_by 0 (readings_first w) (suc t.given) t now (omega arith) (omega arith) k

  read_once_more : (t : SearchState) (now : Times) → ReadsOn seconds (suc (readings_first w)) s t times now → HasRead seconds (suc (suc t.given)) now
  read_once_more t now k = read_by 1 (suc (readings_first w)) (suc (suc t.given)) t now (omega arith) (omega arith) k

  reached_by : (t : SearchState) → FindsNone (setting_in q.search) s t → IsReachedIn q.search t
  reached_by t k = reaches_then (setting_in q.search) (start_in q.search) s t h.reached k.reached

  -- the text of a later state with no more proofs
  prints_by : (t : SearchState) → FindsNone (setting_in q.search) s t → (text : List ℕ) → IsStateText q s text → IsStateText q t text
  prints_by t k text printed =
      let lines = reached_lines (setting_in q.search) s t k.reached in
      subst (λ (u : List ℕ). IsStateText q t u) (append-nil text) (step_text stay starts sound q is s t lines.0 text [] lines.1 h.reached (reached_by t k) (inl (k.same, refl)) printed)

  goes_on : (now : Times) (t : SearchState) → FindsNone (setting_in q.search) s t → IsInTime seconds now → HasRung q.search seconds t now → (text : List ℕ) → IsStateText q s text → ProofsGo q seconds now text
  goes_on now t k early rung text printed = record { state = t; reached = reached_by t k; in_time = early; reads = rung; prints = prints_by t k text printed }

  goes_by : (now : Times) (t : SearchState) → FindsNone (setting_in q.search) s t → IsInTime seconds now → HasRung q.search seconds t now → (text : List ℕ) → IsStateText q (start_in q.search) text → (more : List ℕ) × Goes now text more × Takes a b more
  goes_by now t k early rung text began = let g = h.prints text began in (g.0, goes_on now t k early rung (text ++ g.0) g.1, g.2)

  -- memory is lacking
  pub lacking : (now : Times) (v : SearchState) → LacksMemory (setting_in q.search) seconds (readings_first w) s times now → (text : List ℕ) → IsStateText q (start_in q.search) text → Tells {E = ProverEnd} (Goes now text) (Comes now v text) a b (Err Memory)
  lacking now v k text began = goes_by now k.state k.goes k.in_time (by k.reads) text began
    where
      by : ReadsOn seconds (readings_first w) s k.state times now ⊎ (IsAtGiving (setting_in q.search) k.state × ReadsOn seconds (suc (readings_first w)) s k.state times now) → HasRung q.search seconds k.state now
      by (inl x) = inr (inl (read_here k.state now x))
      by (inr x) = inr (inr (x.0, read_once_more k.state now x.1))

  -- the search ends
  comes_by : (now : Times) (t : SearchState) (end : ProverEnd) → length t.proofs < 2 ^ 63 → FindsNone (setting_in q.search) s t → EndsIn (setting_in q.search) seconds t now end → (text : List ℕ) → IsStateText q (start_in q.search) text → Tells {E = ProverEnd} (Goes now text) (Comes now t text) a b (Ok end)
  comes_by now t end few k ends text began = let g = h.prints text began in (g.0, record { reached = reached_by t k; ends = ends; prints = prints_by t k (text ++ g.0) g.1; counted = few }, g.2)

  -- its first proof is that of the state before, where it finds none
  first_by : (t : SearchState) (many level : ℕ) → FindsNone (setting_in q.search) s t → IsFirstProof (quest_lines q s) s.proofs many level → IsFirstProof (quest_lines q t) t.proofs many level
  first_by t many level k first =
      let lines = reached_lines (setting_in q.search) s t k.reached in
      subst (λ (ps : List FoundProof). IsFirstProof (quest_lines q t) ps many level) (sym k.same) (first_stays stay starts sound q is s t lines.0 many level lines.1 h.reached (reached_by t k) first)

  pub first_comes : (now : Times) (t : SearchState) (answer : ProverAnswer) (end : ProverEnd) (many level : ℕ) → RunsTo (setting_in q.search) seconds (readings_first w) s t times now (Ok answer) → end_for answer ≡ Some end
      → IsFirstProof (quest_lines q s) s.proofs many level → IsFirstProof (quest_lines q t) t.proofs many level
  first_comes now t (Proof n) end many level k e first = absurd cc
  first_comes now t Proofs end many level k e first = first_by t many level k.0.goes first
  first_comes now t SosEmpty end many level k e first = first_by t many level k.0.goes first
  first_comes now t MaxGiven end many level k e first = first_by t many level k.0.goes first
  first_comes now t MaxKept end many level k e first = first_by t many level k.0.goes first
  first_comes now t MaxMegs end many level k e first = first_by t many level k.0.goes first
  first_comes now t (MaxSeconds early late) end many level k e first = first_by t many level k.0.0 first

  module _ (start : StartIsWithinLimits) (limits : ReachedAreWithinLimits) where
    for_reason : (r : Reason) (t : SearchState) → EndsWithout (setting_in q.search) s t r → IsReason (setting_in q.search) t r
    for_reason r t k = (within start limits q t (reached_by t k.goes)).reason r k.ended

    abbrev Ended : Times → SearchState → ProverEnd → Type 0
    Ended now t end = (text : List ℕ) → IsStateText q (start_in q.search) text → Tells {E = ProverEnd} (Goes now text) (Comes now t text) a b (Ok end)

    pub comes : (now : Times) (t : SearchState) (answer : ProverAnswer) (end : ProverEnd) → length t.proofs < 2 ^ 63 → RunsTo (setting_in q.search) seconds (readings_first w) s t times now (Ok answer) → end_for answer ≡ Some end → (text : List ℕ) → IsStateText q (start_in q.search) text
        → Tells {E = ProverEnd} (Goes now text) (Comes now t text) a b (Ok end)
    comes now t (Proof n) end few k e = absurd cc
    comes now t Proofs end few k e = let f : over.MaxProofs ≡ end = cc in subst (λ (x : ProverEnd). Ended now t x) f (comes_by now t over.MaxProofs few k.0.goes (record { ended = k.0.ended; holds = for_reason _ t k.0; in_time = k.1.0; reads = read_here t now k.1.1 }))
    comes now t SosEmpty end few k e = let f : over.SosEmpty ≡ end = cc in subst (λ (x : ProverEnd). Ended now t x) f (comes_by now t over.SosEmpty few k.0.goes (record { ended = k.0.ended; holds = for_reason _ t k.0; in_time = k.1.0; reads = read_here t now k.1.1 }))
    comes now t MaxGiven end few k e = let f : over.MaxGiven ≡ end = cc in subst (λ (x : ProverEnd). Ended now t x) f (comes_by now t over.MaxGiven few k.0.goes (record { ended = k.0.ended; holds = for_reason _ t k.0; in_time = k.1.0; reads = read_here t now k.1.1 }))
    comes now t MaxKept end few k e = let f : over.MaxKept ≡ end = cc in subst (λ (x : ProverEnd). Ended now t x) f (comes_by now t over.MaxKept few k.0.goes (record { ended = k.0.ended; holds = for_reason _ t k.0; in_time = k.1.0; reads = read_here t now k.1.1 }))
    comes now t MaxMegs end few k e = let f : over.MaxMegs ≡ end = cc in subst (λ (x : ProverEnd). Ended now t x) f (comes_by now t over.MaxMegs few k.0.goes (record { ended = k.0.ended; holds = for_reason _ t k.0; in_time = k.1.0; reads = read_here t now k.1.1 }))
    comes now t (MaxSeconds first last) end few k e = let f : over.MaxSeconds first last ≡ end = cc in subst (λ (x : ProverEnd). Ended now t x) f (comes_by now t (over.MaxSeconds first last) few k.0.0 (record { at_giving = k.0.1; late = k.1.0; first_is = k.1.1; reads = read_once_more t now k.1.2 }))

  -- one more proof
  module _ (now : Times) (t : SearchState) (n : ℕ) (k : FindsNext (setting_in q.search) s t n) (early : IsInTime seconds now) (reads : ReadsOn seconds (readings_first w) s t times now) where
    pub reached_next : IsReachedIn q.search t
    reached_next = reaches_next (setting_in q.search) (start_in q.search) k.before t (reached_by k.before k.goes) k.next

    pub found : t.proofs ≡ s.proofs ++ k.found.0 ∷ []
    found = k.found.1 ∙ ap (λ (ps : List FoundProof). ps ++ k.found.0 ∷ []) k.goes.same

    pub has_proof : HasProof t
    has_proof = (s.proofs, (k.found.0, found))

    pub many : length t.proofs ≡ suc (length s.proofs)
    many = ap length found ∙ (let e : length (s.proofs ++ k.found.0 ∷ []) ≡ suc (length s.proofs) = omega (arith, length-append s.proofs (k.found.0 ∷ [])) in e)

    -- the first proof is still the first one
    pub first_next : (many level : ℕ) → IsFirstProof (quest_lines q s) s.proofs many level → IsFirstProof (quest_lines q t) s.proofs many level
    first_next many level first =
        let lines = reached_lines (setting_in q.search) s t (reaches_next (setting_in q.search) s k.before t k.goes.reached k.next) in
        first_stays stay starts sound q is s t lines.0 many level lines.1 h.reached reached_next first

    pub first_shown : (text : Result (Vec ℕ) AllocError) (many level : ℕ) → OnErr text (went ≡ cut_by Memory) → OnOk text (IsFirstProof (quest_lines q t) (s.proofs ++ k.found.0 ∷ []) many level) → IsFirstProof (quest_lines q t) t.proofs many level
    first_shown (Ok x) many level none first = subst (λ (ps : List FoundProof). IsFirstProof (quest_lines q t) ps many level) (sym found) first
    first_shown (Err e) many level none first = absurd cc

    rung : HasRung q.search seconds t now
    rung = inr (inl (read_here t now reads))

    -- the state before is read for as often
    rung_before : HasRung q.search seconds k.before now
    rung_before = inr (inl (subst (λ (m : ℕ). HasRead seconds (suc m) now) (found_given (setting_in q.search) k.before t n k.next k.found) (read_here t now reads)))

    -- its text behind the others
    abbrev IsLast : List ℕ → Type 0
    IsLast u = IsProofText q (quest_lines q t) (suc (length s.proofs)) k.found.0 u

    prints_next : (u : List ℕ) → IsLast u → (text front : List ℕ) → IsStateText q s (text ++ front) → IsStateText q t (text ++ (front ++ u))
    prints_next u last text front printed =
        let lines = reached_lines (setting_in q.search) s t (reaches_next (setting_in q.search) s k.before t k.goes.reached k.next) in
        subst (λ (v : List ℕ). IsStateText q t v) (append_assoc text front u)
        (step_text stay starts sound q is s t lines.0 (text ++ front) u lines.1 h.reached reached_next (inr (record { proof = k.found.0; found = found; is_text = last })) printed)

    pub printed : (v : Watch) (u : List ℕ) (c : Outflow) → v.seconds ≡ seconds → HasBegun v now → IsLast u → IsPiece {T = Unit {0}} u b c (Ok tt) → IsSearchedTo q seconds v now t a c
    printed v u c time begun last took = record {
      time = time;
      same = took.same ∙ h.same;
      reached = reached_next;
      reads = inr (begun, read_here t now reads);
      prints = λ text began. let g = h.prints text began in (g.0 ++ u, prints_next u last text g.0 g.1, Takes-append a b c g.0 u g.2 took);
    }

    -- it is cut off
    pub cut_off : (v : SearchState) (u : List ℕ) (c : Outflow) → IsLast u → IsPiece {T = Unit {0}} u b c (Err WriteFault) → (text : List ℕ) → IsStateText q (start_in q.search) text → Tells {E = ProverEnd} (Goes now text) (Comes now v text) a c (Err WriteFault)
    cut_off v u c last took text began =
        let g = h.prints text began in
        record {
          before = g.0;
          piece = u;
          middle = b;
          stood = goes_on now k.before k.goes early rung_before (text ++ g.0) g.1;
          meant = inl (record { state = t; reached = reached_next; in_time = early; reads = rung; prints = prints_next u last text g.0 g.1 });
          took = g.2;
          front = took;
        }

    -- memory is lacking for it
    pub lacking_text : (v : SearchState) (c : Outflow) → Takes b c [] → (text : List ℕ) → IsStateText q (start_in q.search) text → Tells {E = ProverEnd} (Goes now text) (Comes now v text) a c (Err Memory)
    lacking_text v c took text began =
        let f = goes_by now k.before k.goes early rung_before text began in
        (f.0, f.1, subst (λ (u : List ℕ). Takes a c u) (append-nil f.0) (Takes-append a b c f.0 [] f.2 took))

    -- so it is cut off
    pub stopped : (v : SearchState) (text : Result (Vec ℕ) AllocError) (c : Outflow) (why : Cut) → IfOk text (λ x. IsLast x.items) → OnErr text (cut_by why ≡ cut_by Memory) → ((u : List ℕ) → IfOk text (λ x. x.items ≡ u) → IsPiece {T = Unit {0}} u b c (Err why)) → (front : List ℕ) → IsStateText q (start_in q.search) front
        → Tells {E = ProverEnd} (Goes now front) (Comes now v front) a c (Err why)
    stopped v (Ok x) c WriteFault last lacks took front began = cut_off v x.items c last (took x.items refl) front began
    stopped v (Ok x) c Memory last lacks took front began = lacking_text v c (took x.items refl) front began
    stopped v (Err e) c Memory last lacks took front began = lacking_text v c (took [] tt) front began
    stopped v (Err e) c WriteFault last lacks took front began = absurd cc

    pub shown : (v : Watch) (text : Result (Vec ℕ) AllocError) (c : Outflow) → v.seconds ≡ seconds → HasBegun v now → IfOk text (λ x. IsLast x.items) → OnErr text (went ≡ cut_by Memory) → ((u : List ℕ) → IfOk text (λ x. x.items ≡ u) → IsPiece {T = Unit {0}} u b c (Ok tt)) → IsSearchedTo q seconds v now t a c
    shown v (Ok x) c time begun last none took = printed v x.items c time begun last (took x.items refl)
    shown v (Err e) c time begun last none took = absurd cc
