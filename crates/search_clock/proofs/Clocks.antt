-- The clock of a search, from one reading to the next.
use Rattle.std.proofs.Common.{◌≡◌, ℕ, ◌+◌, ◌*◌, Option, None, Some, unwrap_or, sym, subst, ap, arith}
use Rattle.ladr_io.specs.Times.{Times, later}
use Rattle.ladr_io.specs.Watch.{IsEarly, IsLate}
use Rattle.search_clock.specs.Watching.{time_to_stop, IsInTime, HasRead, IsLookedAt, IsWatchedBy, IsWatched, HasBegunBy, HasBegun}
use Rattle.search_clock.specs.declared.watch.Watch.{Watch}

time_by : (seconds first : Option ℕ) (t : Times) → IsWatchedBy seconds first t → IsInTime seconds t
time_by None first t watched = watched
time_by (Some s) None t watched = λ more. absurd (omega (arith, watched, more))
time_by (Some s) (Some f) t watched = watched.2

-- in time, by the watch
pub in_time : (w : Watch) (s : Option ℕ) (t : Times) → w.seconds ≡ s → IsWatched w t → IsInTime s t
in_time w s t e watched = subst (λ (o : Option ℕ). IsInTime o t) e (time_by w.seconds w.first t watched)

late_here_by : (seconds first : Option ℕ) (t : Times) (last : ℕ) → HasBegunBy seconds first t → IsLate (time_to_stop seconds t) t last → unwrap_or first 0 ≡ t.first
late_here_by None first t last begun late = absurd late
late_here_by (Some s) None t last begun late = absurd begun
late_here_by (Some s) (Some f) t last begun late = sym begun.1

-- late, as the watch looks
pub late_here : (w : Watch) (s : Option ℕ) (t : Times) (last : ℕ) → w.seconds ≡ s → HasBegun w t → IsLate (time_to_stop w.seconds t) t last → IsLate (time_to_stop s t) t last × (unwrap_or w.first 0 ≡ t.first)
late_here w s t last e begun late = (subst (λ (o : Option ℕ). IsLate (time_to_stop o t) t last) e late, late_here_by w.seconds w.first t last begun late)

early_by : (seconds first stop : Option ℕ) (t : Times) → HasBegunBy seconds first t → IsWatchedBy seconds first t → stop ≡ time_to_stop seconds t → IsEarly stop t
early_by None first None t begun was e = tt
early_by None first (Some x) t begun was e = absurd cc
early_by (Some s) None stop t begun was e = absurd begun
early_by (Some s) (Some f) None t begun was e = absurd cc
early_by (Some s) (Some f) (Some x) t begun was e =
    let x_is : x ≡ t.first + 1000 * s = cc in
    (begun.0, λ more. (omega (arith, x_is, (was.2 more).0), omega (arith, x_is, (was.2 more).1)))

-- early, by the watch
pub early_at : (w : Watch) (stop : Option ℕ) (t : Times) → HasBegun w t → IsWatched w t → stop ≡ time_to_stop w.seconds t → IsEarly stop t
early_at w stop t begun was e = early_by w.seconds w.first stop t begun was e

-- once more where a time is set
pub looked_on : (seconds : Option ℕ) (t t' : Times) (n : ℕ) → IsLookedAt seconds t t' → HasRead seconds n t → HasRead seconds (n + 1) t'
looked_on None t t' n e h = rw e h
looked_on (Some s) t t' n e h = let count : t'.count ≡ (later t t'.last).count = ap (λ (x : Times). x.count) e in omega (arith, count, h)

-- no reading yet
pub unread : (seconds : Option ℕ) (t : Times) → t.count ≡ 0 → HasRead seconds 0 t
unread None t e = e
unread (Some s) t e = omega (arith, e)
