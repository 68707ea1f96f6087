-- What a run amounts to, by what its parts tell.
use Rattle.std.proofs.Common.{◌≡◌, ◌⊎◌, ℕ, inl, inr, refl, sym, ap, subst, arith, Result, Ok, Err, None, Some, Option, List, [], ◌++◌}
use Rattle.std.proofs.lemmas.List.{append-nil}
use Rattle.ladr_io.proofs.StreamLaws.{Takes-none, Takes-append}
use Rattle.ladr_io.specs.Streams.{Outflow, Takes}
use Rattle.ladr_io.specs.Times.{Times}
use Rattle.search_clock.specs.Watching.{IsInTime}
use Rattle.ladr_output.proofs.Tellings.{told_behind, ended_by, cut_by}
use Rattle.ladr_output.specs.Telling.{IsPiece, Tells, IsEnd}
use Rattle.ladr_output.specs.declared.cut.Cut.{Cut}
use Rattle.ladr_output.specs.declared.cut.Cut.TheVariants.{WriteFault, Memory}
use Rattle.ladr_intake.specs.Refusals.{clause_limit_line}
use Rattle.ladr_problem.specs.declared.read.FileRead.{FileRead}
use Rattle.ladr_prover9.proofs.Steps.{start_text}
use Rattle.ladr_prover9.specs.Counting.{Counts, uncounted, ProvesCounted}
use Rattle.ladr_prover9.specs.Finding.{over_limit, KeepsLimits, Proves, Proving}
use Rattle.ladr_prover9.specs.Lines.{closing_lines}
use Rattle.ladr_prover9.specs.Quests.{Quest, quest_in, quest_seconds}
use Rattle.ladr_prover9.specs.Story.{ProofsGo, ProofsCome}
use Rattle.ladr_prover9.specs.declared.ends.ProverEnd.{ProverEnd}
use Rattle.ladr_prover9.specs.declared.ends.ProverEnd.TheVariants.{MaxProofs, SosEmpty, MaxMegs, MaxSeconds, MaxGiven, MaxKept, ClauseLimit}
use Rattle.ladr_prover9.specs.declared.ends.ProverOver.{ProverOver}
use Rattle.proof_print.specs.LineTexts.{frame_text}
use Rattle.prover_setup.specs.SearchInputs.{start_in}
use Rattle.prover_steps.specs.Searching.{SearchState}

-- the last lines stand behind what was printed
pub proves_by : (q : Quest) (seconds : Option ℕ) (times : Times) (end : ProverEnd) (t : SearchState) (front : List ℕ) → KeepsLimits q → ProofsCome q seconds times end t front → Proves q seconds times end (front ++ closing_lines t end)
proves_by q seconds times MaxProofs t front within h = (within, (t, (front, h, refl)))
proves_by q seconds times SosEmpty t front within h = (within, (t, (front, h, refl)))
proves_by q seconds times MaxMegs t front within h = (within, (t, (front, h, refl)))
proves_by q seconds times (MaxSeconds first last) t front within h = (within, (t, (front, h, refl)))
proves_by q seconds times MaxGiven t front within h = (within, (t, (front, h, refl)))
proves_by q seconds times MaxKept t front within h = (within, (t, (front, h, refl)))
proves_by q seconds times (ClauseLimit formula) t front within h = absurd h.ends

-- no reading yet
unread_in_time : (seconds : Option ℕ) (times : Times) → times.count ≡ 0 → IsInTime seconds times
unread_in_time None times e = e
unread_in_time (Some s) times e = λ more. absurd (omega (arith, e, more))

module _ (q : Quest) (seconds : Option ℕ) (times : Times) where
  abbrev Goes : List ℕ → List ℕ → Type 0
  Goes text more = ProofsGo q seconds times (text ++ more)

  abbrev Comes : SearchState → List ℕ → ProverEnd → List ℕ → Type 0
  Comes t text end more = ProofsCome q seconds times end t (text ++ more)

  -- nothing is printed
  pub nothing : (a : Outflow) → times.count ≡ 0 → Tells {E = ProverOver} (Proving q seconds times) (ProvesCounted q seconds times) a a (Err Memory)
  nothing a unread = ([], inl (refl, unread), Takes-none a)

  -- the frame is cut off
  pub frame_cut : (a b : Outflow) (why : Cut) → KeepsLimits q → times.count ≡ 0 → IsPiece {T = Unit {0}} (frame_text q.input) a b (Err why) → Tells {E = ProverOver} (Proving q seconds times) (ProvesCounted q seconds times) a b (Err why)
  frame_cut a b why within unread h = cut_by (Unit {0}) (Proving q seconds times) (ProvesCounted q seconds times) (frame_text q.input) a b why (inl (refl, unread)) (inr (within, inl begun)) h
    where
      begun : ProofsGo q seconds times (frame_text q.input)
      begun = record { state = start_in q.search; reached = (0, refl); in_time = unread_in_time seconds times unread; reads = inl (refl, unread); prints = start_text q }

  -- a formula has too many clauses
  pub too_many : (a b : Outflow) (formula : ℕ) (r : Result ProverOver Cut) → over_limit q ≡ Some formula → times.count ≡ 0 → Tells (λ u. u ≡ []) (IsEnd (uncounted (ClauseLimit formula)) (clause_limit_line formula)) a b r
      → Tells (Proving q seconds times) (ProvesCounted q seconds times) a b r
  too_many a b formula r over unread told =
      ended_by (Proving q seconds times) (ProvesCounted q seconds times) (uncounted (ClauseLimit formula)) (clause_limit_line formula) a b r (inl (refl, unread)) (inl (formula, refl, (over, unread, refl))) told

  -- the search has come to its end
  come_to : (text more : List ℕ) (end : ProverEnd) (t : SearchState) → KeepsLimits q → Comes t text end more → Proving q seconds times (text ++ more)
  come_to text more end t within comes = inr (within, inr (end, (t, comes)))

  -- so it has, and the last lines are printed or cut off
  pub last_told : (a b c d : Outflow) (text : List ℕ) (end : ProverEnd) (over : ProverOver) (t : SearchState) (r : Result ProverOver Cut) → KeepsLimits q → over.end ≡ end → Counts q t over → Takes a b text
      → Tells {E = ProverEnd} (Goes text) (Comes t text) b c (Ok end) → Tells (λ u. u ≡ []) (IsEnd over (closing_lines t end)) c d r → Tells (Proving q seconds times) (ProvesCounted q seconds times) a d r
  last_told a b c d text end over t r within is counts took (more, comes, took') told =
      told_behind (Proving q seconds times) (ProvesCounted q seconds times) a c d (text ++ more) r (Takes-append a b c text more took took')
      (ended_by (λ u. Proving q seconds times ((text ++ more) ++ u)) (λ o u. ProvesCounted q seconds times o ((text ++ more) ++ u)) over (closing_lines t end) c d r
      (subst (λ (u : List ℕ). Proving q seconds times u) (sym (append-nil (text ++ more))) (come_to text more end t within comes))
      (inr (record {
        within = within;
        state = t;
        front = text ++ more;
        comes = subst (λ (e : ProverEnd). ProofsCome q seconds times e t (text ++ more)) (sym is) comes;
        text_is = ap (λ (e : ProverEnd). (text ++ more) ++ closing_lines t e) (sym is);
        counts = counts;
      })) told)

  meant_so : (text : List ℕ) (t : SearchState) (u : List ℕ) → KeepsLimits q → Goes text u ⊎ ((e : ProverEnd) × Comes t text e u) → Proving q seconds times (text ++ u) ⊎ ((o : ProverOver) × ProvesCounted q seconds times o (text ++ u))
  meant_so text t u within (inl h) = inl (inr (within, inl h))
  meant_so text t u within (inr h) = inl (inr (within, inr (h.0, (t, h.1))))

  -- the output is cut off before
  pub search_cut : (a b c : Outflow) (text : List ℕ) (t : SearchState) (why : Cut) → KeepsLimits q → Takes a b text → Tells {E = ProverEnd} (Goes text) (Comes t text) b c (Err why) → Tells {E = ProverOver} (Proving q seconds times) (ProvesCounted q seconds times) a c (Err why)
  search_cut a b c text t why within took told = told_behind (Proving q seconds times) (ProvesCounted q seconds times) a b c text (Err why) took (by why told)
    where
      by : (w : Cut) → Tells {E = ProverEnd} (Goes text) (Comes t text) b c (Err w) → Tells {E = ProverOver} (λ u. Proving q seconds times (text ++ u)) (λ o u. ProvesCounted q seconds times o (text ++ u)) b c (Err w)
      by WriteFault h = record {
        before = h.before;
        piece = h.piece;
        middle = h.middle;
        stood = inr (within, inl h.stood);
        meant = meant_so text t (h.before ++ h.piece) within h.meant;
        took = h.took;
        front = h.front;
      }
      by Memory h = (h.0, inr (within, inl h.1), h.2)

-- told of the same, with the same time
pub told_for : (q q' : Quest) (s s' : Option ℕ) (times : Times) (a b : Outflow) (r : Result ProverOver Cut) → q ≡ q' → s ≡ s' → Tells (Proving q s times) (ProvesCounted q s times) a b r → Tells (Proving q' s' times) (ProvesCounted q' s' times) a b r
told_for q q' s s' times a b r e f told =
    subst (λ (n : Option ℕ). Tells (Proving q' n times) (ProvesCounted q' n times) a b r) f (subst (λ (x : Quest). Tells (Proving x s times) (ProvesCounted x s times) a b r) e told)

-- of the bytes that were read
pub told_read : (input bytes : List ℕ) → input ≡ bytes → (read : FileRead) (max : Option ℕ) (times : Times) (a b : Outflow) (r : Result ProverOver Cut) → Tells (Proving (quest_in input read) (quest_seconds max (quest_in input read)) times) (ProvesCounted (quest_in input read) (quest_seconds max (quest_in input read)) times) a b r
    → Tells (Proving (quest_in bytes read) (quest_seconds max (quest_in bytes read)) times) (ProvesCounted (quest_in bytes read) (quest_seconds max (quest_in bytes read)) times) a b r
told_read input bytes same read max times a b r told =
    subst (λ (bs : List ℕ). Tells (Proving (quest_in bs read) (quest_seconds max (quest_in bs read)) times) (ProvesCounted (quest_in bs read) (quest_seconds max (quest_in bs read)) times) a b r) same told
