-- The clock of a search.
use Rattle.std.specs.Prelude.{◌≡◌, ℕ, ◌<◌, ◌+◌, ◌*◌, ◌==◌, min, if◌then◌else◌, Option, None, Some}
use Rattle.ladr_io.specs.Streams.{greatest}
use Rattle.ladr_io.specs.Times.{Times, later}
use Rattle.ladr_options.specs.declared.options.Options.{Options}
use Rattle.search_clock.specs.declared.watch.Watch.{Watch}

-- the seconds of an input, where 4,294,967,295 stands for no clock
abbrev pub seconds_of : Options → Option ℕ
seconds_of o = if o.max_seconds == 4294967295 then None else Some o.max_seconds

-- when to stop, by the clock's first reading
abbrev pub time_to_stop : Option ℕ → Times → Option ℕ
time_to_stop None t = None
time_to_stop (Some s) t = Some (t.first + 1000 * s)

-- each reading behind the first was before the time
abbrev pub AreEarly : ℕ → Times → Type 0
AreEarly s t = 1 < t.count → (t.last < t.first + 1000 * s) × (t.between < t.first + 1000 * s)

-- The clock isn't asked where no time is set; else none of its readings behind the first reached
-- the time.
abbrev pub IsInTime : Option ℕ → Times → Type 0
IsInTime None t = t.count ≡ 0
IsInTime (Some s) t = AreEarly s t

-- Where a time is set the clock gave so many readings, as far as its count can tell; else it gave
-- none.
abbrev pub HasRead : Option ℕ → ℕ → Times → Type 0
HasRead None n t = t.count ≡ 0
HasRead (Some s) n t = min t.count greatest ≡ min n greatest

-- the clock is read once where a time is set, and else not
abbrev pub IsLookedAt : Option ℕ → Times → Times → Type 0
IsLookedAt None t t' = t' ≡ t
IsLookedAt (Some s) t t' = t' ≡ later t t'.last

-- There was no reading where no time is set, nor before the first one; else the first one is kept,
-- and no later one reached the time.
abbrev pub IsWatchedBy : Option ℕ → Option ℕ → Times → Type 0
IsWatchedBy None first t = t.count ≡ 0
IsWatchedBy (Some s) None t = t.count ≡ 0
IsWatchedBy (Some s) (Some first) t = (0 < t.count) × (t.first ≡ first) × AreEarly s t

abbrev pub IsWatched : Watch → Times → Type 0
IsWatched w t = IsWatchedBy w.seconds w.first t

-- where a time is set there was a reading
abbrev pub HasBegunBy : Option ℕ → Option ℕ → Times → Type 0
HasBegunBy None first t = t.count ≡ 0
HasBegunBy (Some s) None t = ⊥
HasBegunBy (Some s) (Some first) t = (0 < t.count) × (t.first ≡ first)

abbrev pub HasBegun : Watch → Times → Type 0
HasBegun w t = HasBegunBy w.seconds w.first t
