-- What a run of the command shows.
use Rattle.std.proofs.Common.{◌⊎◌, ◌≡◌, inl, inr, ℕ, zero, suc, ◌+◌, ◌-◌, ◌^◌, ◌<◌, ◌≤◌, List, [], ◌∷◌, ◌++◌, length, Some, Result, Ok, Err, refl, sym, ap, ◌∙◌, subst, arith}
use Rattle.std.specs.Prelude.{slice_get, codes}
use Rattle.std.proofs.lemmas.List.{length-append}
use Rattle.answered_lines.specs.Lines.{Asked, AnsweredRow, AnsweredLine, IsRefutationWith}
use Rattle.fol_core.proofs.Places.{slice_get_more}
use Rattle.ladr_check.proofs.Judgings.{proofs_count}
use Rattle.ladr_check.proofs.Refusing.{IsOneLine, refusal_line}
use Rattle.ladr_check.proofs.Standing.{accepted_text, exit_text, none_stands, in_front, only_line, accepted_within, exit_within, no_accepted, no_exit_line, accepted_stands, IsSmallEnd, exit_stands}
use Rattle.ladr_check.specs.CheckReport.{accepted_line, all_accepted_line, check_report}
use Rattle.ladr_check.specs.Checking.{IsChecked}
use Rattle.ladr_check.specs.Offered.{Offered, offers, refuses_proofs}
use Rattle.ladr_check.specs.Outcomes.{AreRefutations, looked_at, asked_formulas, answered_rows, HasNewSkolems, ComesOut}
use Rattle.ladr_check.specs.Shown.{IsRefutationAt, OneRefutationSuffices, RefutationsAnswer, AreAllRefutations, OffersAreAlone, OffersSound, ShowsProofs, ChecksShow}
use Rattle.ladr_check.specs.declared.ends.CheckEnd.{CheckEnd}
use Rattle.ladr_check.specs.declared.ends.CheckEnd.TheVariants.{Accepted, NotAccepted, ClauseLimit}
use Rattle.ladr_intake.specs.Command.{End, own, refused, read_fault, end_of, MayStand, EndsBy}
use Rattle.ladr_intake.specs.Input.{AreTaken, IsAllRead}
use Rattle.ladr_intake.specs.Refusals.{refusal_text, read_fault_line}
use Rattle.ladr_io.specs.Streams.{Inflow, Outflow, AreLastHeld, TakesFront}
use Rattle.ladr_output.specs.Standing.{Stands}
use Rattle.ladr_output.specs.Telling.{Tells}
use Rattle.ladr_output.specs.declared.cut.Cut.{Cut}
use Rattle.ladr_output.specs.declared.cut.Cut.TheVariants.{WriteFault, Memory}
use Rattle.ladr_output.proofs.Tellings.{cut_text}

-- no text has as many proofs as there are numbers
few_offered : (bytes : List ℕ) (x : Offered) → offers bytes x → length x.proofs < 2 ^ 64
few_offered bytes x h =
    subst (λ (y : Offered). length y.proofs < 2 ^ 64) h.2 (
    let r = h.0 in
    let count = proofs_count r.proofs.items in
    omega (arith, count, r.proofs.ok.0, r.proofs.ok.1, r.proofs.small))

module _ (ss : List Asked) (rows : List AnsweredRow) where
  -- each of the proofs is a refutation
  nth : (ps : List (List AnsweredLine)) (i : ℕ) → AreRefutations ss rows ps → i < length ps → (p : List AnsweredLine) × (slice_get ps i ≡ Some p) × IsRefutationWith ss rows p
  nth [] i h l = absurd (omega (arith, l))
  nth (p ∷ ps) zero h l = (p, refl, h.0)
  nth (p ∷ ps) (suc i) h l = nth ps i h.1 (omega (arith, l))

  -- so is each before the first one that isn't
  nth_before : (ps before behind : List (List AnsweredLine)) (bad : List AnsweredLine) (i : ℕ) → looked_at ps ≡ before ++ (bad ∷ behind) → AreRefutations ss rows before → i < length before
      → (p : List AnsweredLine) × (slice_get ps i ≡ Some p) × IsRefutationWith ss rows p
  nth_before [] before behind bad i split h l =
      let one : 1 ≡ length before + suc (length behind) = ap length split ∙ length-append before (bad ∷ behind) in
      absurd (omega (arith, one, l))
  nth_before (q ∷ ps) before behind bad i split h l =
      let found = nth before i h l in
      (found.0, ap (λ (qs : List (List AnsweredLine)). slice_get qs i) split ∙ slice_get_more before (bad ∷ behind) i found.0 found.1, found.2)

  fewer : (ps before behind : List (List AnsweredLine)) (bad : List AnsweredLine) → looked_at ps ≡ before ++ (bad ∷ behind) → length before ≤ length ps
  fewer [] before behind bad split =
      let one : 1 ≡ length before + suc (length behind) = ap length split ∙ length-append before (bad ∷ behind) in
      omega (arith, one)
  fewer (q ∷ ps) before behind bad split =
      let all : suc (length ps) ≡ length before + suc (length behind) = ap length split ∙ length-append before (bad ∷ behind) in
      omega (arith, all)

-- so many are accepted, of those that are offered
accepted_few : (x : Offered) (end : CheckEnd) (a : ℕ) → ComesOut x end a → a ≤ length x.proofs
accepted_few x (Accepted n) a h = omega (arith, h.2.2, h.2.3)
accepted_few x (NotAccepted line row) a h = omega (arith, h.2.count, fewer (asked_formulas x) (answered_rows x) x.proofs h.2.before h.2.behind h.2.bad h.2.split)
accepted_few x (ClauseLimit formula) a h = omega (arith, h.1)

-- and each of those is a refutation
accepted_at : (x : Offered) (end : CheckEnd) (a k : ℕ) → ComesOut x end a → 1 ≤ k → k ≤ a → IsRefutationAt x k
accepted_at x (Accepted n) a k h l m = (l, nth (asked_formulas x) (answered_rows x) x.proofs (k - 1) h.2.0 (omega (arith, l, m, h.2.2, h.2.3)))
accepted_at x (NotAccepted line row) a k h l m =
    (l, nth_before (asked_formulas x) (answered_rows x) x.proofs h.2.before h.2.behind h.2.bad (k - 1) h.2.split h.2.are (omega (arith, l, m, h.2.count)))
accepted_at x (ClauseLimit formula) a k h l m = absurd (omega (arith, l, m, h.1))

-- where a proof is accepted the Skolem symbols are new
new_at : (x : Offered) (end : CheckEnd) (a k : ℕ) → ComesOut x end a → 1 ≤ k → k ≤ a → HasNewSkolems x
new_at x (Accepted n) a k h l m = h.1
new_at x (NotAccepted line row) a k h l m = h.1
new_at x (ClauseLimit formula) a k h l m = absurd (omega (arith, l, m, h.1))

new_of_all : (x : Offered) (end : CheckEnd) (a n : ℕ) → ComesOut x end a → end ≡ Accepted n → HasNewSkolems x
new_of_all x end a n h e = (subst (λ (f : CheckEnd). ComesOut x f a) e h).1

small_end : (x : Offered) (end : CheckEnd) (a : ℕ) → ComesOut x end a → length x.proofs < 2 ^ 64 → IsSmallEnd end
small_end x (Accepted n) a h few = omega (arith, few, h.2.2)
small_end x (NotAccepted line row) a h few = tt
small_end x (ClauseLimit formula) a h few = tt

all_at : (x : Offered) (end : CheckEnd) (a n : ℕ) → ComesOut x end a → end ≡ Accepted n → AreAllRefutations x n
all_at x end a n h e = by (subst (λ (f : CheckEnd). ComesOut x f a) e h)
  where
    by : ComesOut x (Accepted n) a → AreAllRefutations x n
    by k = (omega (arith, k.2.1), sym k.2.2, k.2.0)

module _ (one : OneRefutationSuffices) (answers : RefutationsAnswer) (alone : OffersAreAlone) (bytes : List ℕ) (a b : Inflow) where
  -- what the lines in a text tell is so
  record Speaks (text : List ℕ) : Type 0 where
    accepted : (k : ℕ) → k < 2 ^ 64 → Stands (accepted_line k) text → IsAllRead a b bytes × OffersSound (λ x. IsRefutationAt x k) bytes
    all_accepted : (n : ℕ) → n < 2 ^ 64 → Stands (all_accepted_line n) text → IsAllRead a b bytes × OffersSound (λ x. AreAllRefutations x n) bytes

  front_speaks : (front rest whole : List ℕ) → whole ≡ front ++ rest → Speaks whole → Speaks front
  front_speaks front rest whole e h = record {
    accepted = λ k small s. h.accepted k small (in_front (accepted_line k) front rest whole e s);
    all_accepted = λ n small s. h.all_accepted n small (in_front (all_accepted_line n) front rest whole e s);
  }

  nothing_speaks : (text : List ℕ) → text ≡ [] → Speaks text
  nothing_speaks text e = record {
    accepted = λ k small s. absurd (none_stands (accepted_text k) (subst (Stands (accepted_line k)) e s));
    all_accepted = λ n small s. absurd (none_stands (exit_text n) (subst (Stands (all_accepted_line n)) e s));
  }

  line_speaks : (text : List ℕ) → IsOneLine text → Speaks text
  line_speaks text h = record {
    accepted = λ k small s. absurd (no_accepted k h.line h.opens (only_line (accepted_text k) h.line (accepted_within k) h.within (subst (Stands (accepted_line k)) h.is s)));
    all_accepted = λ n small s. absurd (no_exit_line n h.line h.opens (only_line (exit_text n) h.line (exit_within n) h.within (subst (Stands (all_accepted_line n)) h.is s)));
  }

  report_speaks : (x : Offered) (end : CheckEnd) (n : ℕ) → IsAllRead a b bytes → offers bytes x → ComesOut x end n → Speaks (check_report n end)
  report_speaks x end count read offered h = record {
    accepted = λ k small s.
        let within = accepted_stands count end k (omega (arith, few_offered bytes x offered, accepted_few x end count h)) small s in
        let at = accepted_at x end count k h within.0 within.1 in
        (read, (x, alone bytes x offered, at, new_at x end count k h within.0 within.1, one bytes x k offered at, answers bytes x offered));
    all_accepted = λ n small s.
        let last = exit_stands count end n (small_end x end count h (few_offered bytes x offered)) small s in
        let all = all_at x end count n h last in
        let first = nth (asked_formulas x) (answered_rows x) x.proofs 0 all.2 (omega (arith, all.0, all.1)) in
        (read, (x, alone bytes x offered, all, new_of_all x end count n h last, one bytes x 1 offered (omega arith, first), answers bytes x offered));
  }

  checked_speaks : (x : Offered) (end : CheckEnd) (text : List ℕ) → IsAllRead a b bytes → offers bytes x → IsChecked x end text → Speaks text
  checked_speaks x end text read offered h = subst Speaks (sym h.2) (report_speaks x end h.0 read offered h.1)

  abbrev Goes : List ℕ → Type 0
  Goes = MayStand offers refuses_proofs (Unit {0}) (λ x text. text ≡ []) IsChecked a b bytes

  abbrev Ends : End CheckEnd → List ℕ → Type 0
  Ends = EndsBy offers refuses_proofs (Unit {0}) (λ x text. text ≡ []) IsChecked a b bytes

  goes_speaks : (text : List ℕ) → Goes text → Speaks text
  goes_speaks text (inl h) = nothing_speaks text h.0
  goes_speaks text (inr h) = nothing_speaks text h.1.2

  ends_speaks : (e : End CheckEnd) (text : List ℕ) → Ends e text → Speaks text
  ends_speaks (own e) text h = checked_speaks h.1.0 e text h.0 h.1.1 h.1.2
  ends_speaks (refused why) text h = subst Speaks (sym h.2) (line_speaks (refusal_text why) (refusal_line a b bytes why h.0))
  ends_speaks read_fault text h = subst Speaks (sym h.2) (line_speaks read_fault_line (record { line = codes "ladr: read fault"; is = refl; within = refl; opens = refl }))

  shown : (c d : Outflow) (text : List ℕ) → AreTaken a b bytes → AreLastHeld c.held d.held text → Speaks text → ShowsProofs a b c d
  shown c d text taken wrote h = record { bytes = bytes; taken = taken; written = text; wrote = wrote; accepted = h.accepted; all_accepted = h.all_accepted }

  part_shown : (c d : Outflow) (text : List ℕ) → AreTaken a b bytes → TakesFront c d text → Speaks text → ShowsProofs a b c d
  part_shown c d text taken took h = shown c d took.front taken took.took (front_speaks took.front took.rest text took.parts h)

  cut_shown : (c d : Outflow) (text : List ℕ) → AreTaken a b bytes → Goes text ⊎ ((e : End CheckEnd) × Ends e text) → TakesFront c d text → ShowsProofs a b c d
  cut_shown c d text taken (inl g) k = part_shown c d text taken k (goes_speaks text g)
  cut_shown c d text taken (inr g) k = part_shown c d text taken k (ends_speaks g.0 text g.1)

  pub tells_shows : (c d : Outflow) (r : Result (End CheckEnd) Cut) → AreTaken a b bytes → Tells Goes Ends c d r → ShowsProofs a b c d
  tells_shows c d (Ok e) taken h = shown c d h.0 taken h.2.took (ends_speaks e h.0 h.1)
  tells_shows c d (Err WriteFault) taken h = let y = cut_text Goes Ends c d h in cut_shown c d y.0 taken y.1 y.2
  tells_shows c d (Err Memory) taken h = shown c d h.0 taken h.2.took (goes_speaks h.0 h.1)

pub checks_show : OneRefutationSuffices → RefutationsAnswer → OffersAreAlone → ChecksShow
checks_show one answers alone a b c d r h = tells_shows one answers alone h.bytes a b c d (end_of r) h.taken h.tells
