-- How often the clock is read from one state to another.
use Rattle.std.proofs.Common.{◌≡◌, ◌≤◌, ℕ, suc, ◌+◌, ◌-◌, sym, ap, subst, arith, Bool, true, Option, Some, None, is_some, if◌then◌else◌}
use Rattle.std.specs.Prelude.{MatchOption}
use Rattle.ladr_io.specs.Times.{Times, later}
use Rattle.ladr_io.specs.Watch.{IsLate}
use Rattle.prover.specs.Answers.{readings_first, ReadsOn}
use Rattle.prover_steps.specs.Searching.{SearchState}
use Rattle.search_clock.proofs.Clocks.{looked_on, unread}
use Rattle.search_clock.specs.Watching.{time_to_stop, HasRead, IsLookedAt, IsWatchedBy, IsWatched, HasBegunBy, HasBegun}
use Rattle.search_clock.specs.declared.watch.Watch.{Watch}

-- none is read
pub reads_none : (seconds : Option ℕ) (s : SearchState) (a : Times) → ReadsOn seconds 0 s s a a
reads_none seconds s a = λ n m e h. subst (λ (k : ℕ). HasRead seconds k a) (let f : n ≡ m = omega (arith, e) in f) h

-- no clause is given
pub reads_same : (seconds : Option ℕ) (more : ℕ) (s t u : SearchState) (a b : Times) → u.given ≡ t.given → ReadsOn seconds more s t a b → ReadsOn seconds more s u a b
reads_same seconds more s t u a b e h = λ n m f. h n m (omega (arith, e, f))

-- the clock is looked at once
pub reads_once : (seconds : Option ℕ) (more : ℕ) (s t : SearchState) (a b c : Times) → s.given ≤ t.given → IsLookedAt seconds b c → ReadsOn seconds more s t a b → ReadsOn seconds (suc more) s t a c
reads_once seconds more s t a b c rises looks h = λ n m f read.
    let e : (m - 1) + s.given ≡ n + t.given + more = omega (arith, f, rises) in
    let g : (m - 1) + 1 ≡ m = omega (arith, f, rises) in
    subst (λ (k : ℕ). HasRead seconds k c) g (looked_on seconds b c (m - 1) looks (h n (m - 1) e read))

-- for a clause that is given
pub reads_given : (seconds : Option ℕ) (more : ℕ) (s t u : SearchState) (a b : Times) → u.given ≡ suc t.given → ReadsOn seconds (suc more) s t a b → ReadsOn seconds more s u a b
reads_given seconds more s t u a b e h = λ n m f. h n m (omega (arith, e, f))

-- behind the first reading
pub reads_begun : (seconds : Option ℕ) (first more all : ℕ) (s t : SearchState) (a b c : Times) → all ≡ first + more → ((n : ℕ) → HasRead seconds n a → HasRead seconds (n + first) b) → ReadsOn seconds more s t b c → ReadsOn seconds all s t a c
reads_begun seconds first more all s t a b c e begun h = λ n m f read. h (n + first) m (omega (arith, e, f)) (begun n read)

-- the first look
first_by : (seconds first : Option ℕ) (o : Option ℕ) (t t' : Times) → t.count ≡ 0 → IsLookedAt seconds t t' → MatchOption o (IsWatchedBy seconds first t') (λ last. IsLate (time_to_stop seconds t') t' last) → IsWatchedBy seconds first t'
first_by seconds first None t t' e looks h = h
first_by None first (Some last) t t' e looks h = absurd h
first_by (Some s) first (Some last) t t' e looks h = let count : t'.count ≡ (later t t'.last).count = ap (λ (x : Times). x.count) looks in absurd (omega (arith, count, e, h.0))

unread_by : (seconds first : Option ℕ) (t : Times) → first ≡ None → IsWatchedBy seconds first t → t.count ≡ 0
unread_by None first t e h = h
unread_by (Some s) None t e h = h
unread_by (Some s) (Some f) t e h = absurd cc

pub first_look : (w v : Watch) (o : Option ℕ) (t t' : Times) → w.first ≡ None → v.seconds ≡ w.seconds → IsWatched w t → IsLookedAt w.seconds t t' → MatchOption o (IsWatched v t') (λ last. IsLate (time_to_stop v.seconds t') t' last) → IsWatched v t'
first_look w v o t t' first e was looks h = first_by v.seconds v.first o t t' (unread_by w.seconds w.first t first was) (subst (λ (s : Option ℕ). IsLookedAt s t t') (sym e) looks) h

pub first_reads : (w : Watch) (t t' : Times) → w.first ≡ None → IsLookedAt w.seconds t t' → (n : ℕ) → HasRead w.seconds n t → HasRead w.seconds (n + readings_first w) t'
first_reads w t t' first looks n h = subst (λ (k : ℕ). HasRead w.seconds (n + k) t') (sym (ap (λ (o : Option ℕ). if is_some o then 0 else 1) first)) (looked_on w.seconds t t' n looks h)

-- no look where there was one
pub no_reads : (w : Watch) (t : Times) → is_some w.first ≡ true → (n : ℕ) → HasRead w.seconds n t → HasRead w.seconds (n + readings_first w) t
no_reads w t some n h = subst (λ (k : ℕ). HasRead w.seconds k t) (let e : readings_first w ≡ 0 = ap (λ (b : Bool). if b then 0 else 1) some in let f : n ≡ n + readings_first w = omega (arith, e) in f) h

begun_by : (seconds first : Option ℕ) (t : Times) → is_some first ≡ true → IsWatchedBy seconds first t → HasBegunBy seconds first t
begun_by None first t e h = h
begun_by (Some s) None t e h = absurd cc
begun_by (Some s) (Some f) t e h = (h.0, h.1)

pub has_begun : (w : Watch) (t : Times) → is_some w.first ≡ true → IsWatched w t → HasBegun w t
has_begun w t e h = begun_by w.seconds w.first t e h

-- Behind a first reading there was one for each clause that was given: so it stays.
behind_by : (seconds first : Option ℕ) (more all count : ℕ) (s t : SearchState) (a b : Times) → all ≡ more + (if is_some first then 0 else 1) → count ≡ more + suc t.given → HasBegunBy seconds first a → HasRead seconds (suc s.given) a → ReadsOn seconds all s t a b → HasRead seconds count b
behind_by None first more all count s t a b e f begun h k = k (suc s.given) (suc t.given + all) (omega arith) h
behind_by (Some c) None more all count s t a b e f begun h k = absurd begun
behind_by (Some c) (Some x) more all count s t a b e f begun h k = k (suc s.given) count (omega (arith, e, f)) h

pub reads_behind : (w : Watch) (seconds : Option ℕ) (more all count : ℕ) (s t : SearchState) (a b : Times) → w.seconds ≡ seconds → all ≡ more + readings_first w → count ≡ more + suc t.given → HasBegun w a → HasRead seconds (suc s.given) a → ReadsOn seconds all s t a b → HasRead seconds count b
reads_behind w seconds more all count s t a b e f g begun h k = behind_by seconds w.first more all count s t a b f g (subst (λ (o : Option ℕ). HasBegunBy o w.first a) e begun) h k

-- and where there was none, and no clause was given
pub reads_from_none : (w : Watch) (seconds : Option ℕ) (more all count : ℕ) (s t : SearchState) (a b : Times) → w.first ≡ None → all ≡ more + readings_first w → count ≡ more + suc t.given → a.count ≡ 0 → s.given ≡ 0 → ReadsOn seconds all s t a b → HasRead seconds count b
reads_from_none w seconds more all count s t a b first f g none start k =
    let e : readings_first w ≡ 1 = ap (λ (o : Option ℕ). if is_some o then 0 else 1) first in
    k 0 count (omega (arith, e, f, g, start)) (unread seconds a none)
