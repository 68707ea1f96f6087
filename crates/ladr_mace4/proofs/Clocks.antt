-- The clock of a search, where a search for models read it on.
use Rattle.std.proofs.Common.{◌≡◌, ℕ, ◌+◌, ◌*◌, ◌<◌, Option, None, Some, unwrap_or, sym, subst, ◌∙◌, arith}
use Rattle.ladr_io.specs.Times.{Times}
use Rattle.mace_cells.specs.Readings.{ReadsOn}
use Rattle.ladr_io.specs.Watch.{IsEarly, IsLate}
use Rattle.search_clock.specs.Watching.{time_to_stop, HasRead, IsWatchedBy, IsWatched, HasBegunBy, HasBegun}
use Rattle.search_clock.specs.declared.watch.Watch.{Watch}

watched_by : (seconds first stop : Option ℕ) (more : ℕ) (t t' : Times) → HasBegunBy seconds first t → stop ≡ time_to_stop seconds t → IsWatchedBy seconds first t → IsEarly stop t' → ReadsOn stop more t t' → IsWatchedBy seconds first t' × HasBegunBy seconds first t'
watched_by None first None n t t' begun e was early goes = (rw goes was, rw goes begun)
watched_by None first (Some x) n t t' begun e was early goes = absurd cc
watched_by (Some s) None stop n t t' begun e was early goes = absurd begun
watched_by (Some s) (Some f) None n t t' begun e was early goes = absurd cc
watched_by (Some s) (Some f) (Some x) n t t' begun e was early goes =
    let x_is : x ≡ t.first + 1000 * s = cc in
    let early' : 1 < t'.count → (t'.last < t'.first + 1000 * s) × (t'.between < t'.first + 1000 * s) = λ more. (omega (arith, (early.1 more).0, x_is, goes.0), omega (arith, (early.1 more).1, x_is, goes.0)) in
    ((early.0, goes.0 ∙ begun.1, early'), (early.0, goes.0 ∙ begun.1))

-- the clock is still watched
pub watched_on : (w : Watch) (stop : Option ℕ) (more : ℕ) (t t' : Times) → HasBegun w t → stop ≡ time_to_stop w.seconds t → IsWatched w t → IsEarly stop t' → ReadsOn stop more t t' → IsWatched w t' × HasBegun w t'
watched_on w stop more t t' begun e was early goes = watched_by w.seconds w.first stop more t t' begun e was early goes

-- late, by the watch
late_by : (seconds first stop : Option ℕ) (more : ℕ) (t t' : Times) (last : ℕ) → HasBegunBy seconds first t → stop ≡ time_to_stop seconds t → ReadsOn stop more t t' → IsLate stop t' last → IsLate (time_to_stop seconds t') t' last × (unwrap_or first 0 ≡ t'.first)
late_by None first None n t t' last begun e goes late = absurd late
late_by None first (Some x) n t t' last begun e goes late = absurd cc
late_by (Some s) None stop n t t' last begun e goes late = absurd begun
late_by (Some s) (Some f) None n t t' last begun e goes late = absurd cc
late_by (Some s) (Some f) (Some x) n t t' last begun e goes late =
    let x_is : x ≡ t'.first + 1000 * s = omega (arith, (let y : x ≡ t.first + 1000 * s = cc in y), goes.0) in
    (subst (λ (y : ℕ). IsLate (Some y) t' last) x_is late, sym begun.1 ∙ sym goes.0)

pub late_on : (w : Watch) (s stop : Option ℕ) (more : ℕ) (t t' : Times) (last : ℕ) → w.seconds ≡ s → HasBegun w t → stop ≡ time_to_stop w.seconds t → ReadsOn stop more t t' → IsLate stop t' last → IsLate (time_to_stop s t') t' last × (unwrap_or w.first 0 ≡ t'.first)
late_on w s stop more t t' last e begun is goes late = subst (λ (o : Option ℕ). IsLate (time_to_stop o t') t' last × (unwrap_or w.first 0 ≡ t'.first)) e (late_by w.seconds w.first stop more t t' last begun is goes late)

-- where the clock was read on
pub read_on : (seconds stop : Option ℕ) (t₀ t t' : Times) (n more all : ℕ) → all ≡ n + more → stop ≡ time_to_stop seconds t₀ → HasRead seconds n t → ReadsOn stop more t t' → HasRead seconds all t'
read_on None None t₀ t t' n more all few e h goes = rw goes h
read_on None (Some x) t₀ t t' n more all few e h goes = absurd cc
read_on (Some s) None t₀ t t' n more all few e h goes = absurd cc
read_on (Some s) (Some x) t₀ t t' n more all few e h goes = omega (arith, few, h, goes.1)
