-- How a search for models goes, and what it prints: in each size the models of the leaves that the
-- plain search finds, in their order.
use Rattle.std.specs.Prelude.{◌≡◌, ℕ, suc, ◌+◌, ◌<◌, ◌≤◌, List, [], ◌∷◌, ◌++◌, length, ◌⊎◌}
use Rattle.fol_core.specs.Occurs.{size_needed}
use Rattle.fol_problem.specs.Stated.{Stated}
use Rattle.ladr_cells.specs.Showing.{CoverModels}
use Rattle.ladr_cells.specs.Worlds.{ground_size}
use Rattle.ladr_io.specs.Times.{Times}
use Rattle.ladr_mace4.specs.Done.{HasDoneAll, HasDoneSome, ComesToChoice, ComesToLeaf}
use Rattle.ladr_mace4.specs.Lines.{size_line, skipped_line, exhausted_line}
use Rattle.ladr_mace4.specs.Models.{AreShown}
use Rattle.ladr_mace4.specs.Plans.{size_behind}
use Rattle.ladr_mace4.specs.Rooms.{HasRoomForGround, IsCrowded, IsBegun}
use Rattle.ladr_mace4.specs.Skolems.{all_symbols}
use Rattle.search_clock.specs.Watching.{time_to_stop, IsInTime, HasRead}
use Rattle.ladr_mace4.specs.declared.ends.SearchEnd.{SearchEnd}
use Rattle.ladr_mace4.specs.declared.ends.SearchEnd.TheVariants.{MaxModels, Exhausted, AllModels, MaxMegs, MaxSeconds, GroundLimit, ClauseLimit}
use Rattle.ladr_mace4.specs.declared.ends.Step.{Step}
use Rattle.ladr_mace4.specs.declared.ends.Step.TheVariants.{Over, Ends}
use Rattle.ladr_mace4.specs.declared.plan.Plan.{Plan}
use Rattle.ladr_io.specs.Watch.{IsLate}
use Rattle.model_tables.specs.ModelText.{model_text}
use Rattle.model_tables.specs.Size.{formulas_of}
use Rattle.model_tables.specs.Tables.{Finite}

-- How a size ended: it was skipped, or searched to its end, with the models that were printed and
-- so many cells chosen.
pub data Size : Type 0 where
  skipped : Size
  searched : List Finite → ℕ → Size

-- Where a search is behind the sizes that ended: at none; at the next one, of which the line is
-- printed and in which nothing is tried; or in it, with its models and the cells chosen so far.
pub data Now : Type 0 where
  between : Now
  opened : Now
  inside : List Finite → ℕ → Now

-- how many models are printed of either
abbrev pub models_in : Size → ℕ
models_in skipped = 0
models_in (searched us chosen) = length us

abbrev pub models_in_all : List Size → ℕ
models_in_all [] = 0
models_in_all (size ∷ sizes) = models_in size + models_in_all sizes

abbrev pub models_at : Now → ℕ
models_at between = 0
models_at opened = 0
models_at (inside us chosen) = length us

-- how often the clock is read for either, where a time is set: as the size begins, and before each
-- choice of a cell
abbrev pub readings_in : Size → ℕ
readings_in skipped = 0
readings_in (searched us chosen) = suc chosen

abbrev pub readings_in_all : List Size → ℕ
readings_in_all [] = 0
readings_in_all (size ∷ sizes) = readings_in size + readings_in_all sizes

abbrev pub readings_at : Now → ℕ
readings_at between = 0
readings_at opened = 0
readings_at (inside us chosen) = suc chosen

-- and where the search ends there; the time is over before one more choice
abbrev pub readings_to : Now → SearchEnd → ℕ
readings_to between end = 0
readings_to opened end = 1
readings_to (inside us chosen) (MaxSeconds first last) = suc (suc chosen)
readings_to (inside us chosen) end = suc chosen

-- what is printed of models, k having been printed before
abbrev pub models_text : Stated → ℕ → List Finite → List ℕ
models_text p k [] = []
models_text p k (u ∷ us) = model_text (all_symbols p) (suc k) u ++ models_text p (suc k) us

-- what is printed of either, and of sizes that ended, from n on with this step
abbrev pub size_text : Stated → ℕ → ℕ → Size → List ℕ
size_text p n k skipped = skipped_line n
size_text p n k (searched us chosen) = size_line n ++ (models_text p k us ++ exhausted_line n)

abbrev pub sizes_text : Stated → ℕ → ℕ → ℕ → List Size → List ℕ
sizes_text p step n k [] = []
sizes_text p step n k (size ∷ sizes) =
    size_text p n k size ++ sizes_text p step (n + step) (k + models_in size) sizes

abbrev pub text_at : Stated → ℕ → ℕ → Now → List ℕ
text_at p n k between = []
text_at p n k opened = size_line n
text_at p n k (inside us chosen) = size_line n ++ models_text p k us

-- a size has each element that the formulas name, and few enough cells and ground literals
abbrev pub IsSearchable : Stated → Plan → ℕ → Type 0
IsSearchable p s n = (size_needed (formulas_of p) ≤ n) × HasRoomForGround s (ground_size n p)

-- Size n ended so: it is skipped exactly where it lacks an element that the formulas name; where it
-- is searched to its end, all that the plain search does is done, the models that are shown are
-- those of its leaves, and each model of the size is one of these, renamed.
abbrev pub HasEnded : Stated → Plan → ℕ → Size → Type 0
HasEnded p s n skipped = n < size_needed (formulas_of p)
HasEnded p s n (searched us chosen) =
    IsSearchable p s n × AreShown p n us × CoverModels p n us
    × HasDoneAll p n s.way us chosen

-- the sizes from n on, step by step, ended so, none behind the last
abbrev pub HaveEnded : Stated → Plan → ℕ → List Size → Type 0
HaveEnded p s n [] = Unit {0}
HaveEnded p s n (size ∷ sizes) =
    (n ≤ s.end) × HasEnded p s n size × HaveEnded p s (n + s.step) sizes

-- a search is at this of size n
abbrev pub IsAtSize : Stated → Plan → ℕ → Now → Type 0
IsAtSize p s n between = Unit {0}
IsAtSize p s n opened = IsBegun p s n
IsAtSize p s n (inside us chosen) =
    IsBegun p s n × HasRoomForGround s (ground_size n p) × AreShown p n us
    × HasDoneSome p n s.way us chosen

-- a model of a size is found, and nothing is done behind it
abbrev pub IsAtModel : Stated → Plan → ℕ → Now → Type 0
IsAtModel p s n between = ⊥
IsAtModel p s n opened = ⊥
IsAtModel p s n (inside us chosen) = ComesToLeaf p n s.way us chosen

-- No more models are printed than are wanted; where as many are, nothing is done behind the last.
abbrev pub StaysWithin : Stated → Plan → ℕ → ℕ → Now → Type 0
StaysWithin p s n j now = (j < s.wanted) ⊎ ((j ≡ s.wanted) × IsAtModel p s n now)

-- a size is begun, or a cell is to be chosen next
abbrev pub IsFollowing : Stated → Plan → ℕ → Now → Type 0
IsFollowing p s n between = ⊥
IsFollowing p s n opened = Unit {0}
IsFollowing p s n (inside us chosen) = ComesToChoice p n s.way us chosen

-- all sizes are behind a search, j models having been printed
abbrev pub AllIsSearched : ℕ → SearchEnd → Type 0
AllIsSearched j AllModels = 0 < j
AllIsSearched j Exhausted = j ≡ 0
AllIsSearched j end = ⊥

-- size n has too many cells and ground literals, which ends the search behind the size's line
abbrev pub EndsCrowded : Stated → Plan → Times → ℕ → Now → SearchEnd → Type 0
EndsCrowded p s t n now end =
    IsInTime s.seconds t × (now ≡ opened) × IsCrowded s n (ground_size n p) end

-- A search ends at this of size n for this cause, j models having been printed in all.
abbrev pub Stops : Stated → Plan → Times → ℕ → ℕ → Now → SearchEnd → Type 0
Stops p s t n j now MaxModels = IsInTime s.seconds t × IsAtModel p s n now × (j ≡ s.wanted)
Stops p s t n j now AllModels =
    IsInTime s.seconds t × (now ≡ between) × (s.end < n) × AllIsSearched j AllModels
Stops p s t n j now Exhausted =
    IsInTime s.seconds t × (now ≡ between) × (s.end < n) × AllIsSearched j Exhausted
Stops p s t n j now MaxMegs = EndsCrowded p s t n now MaxMegs
Stops p s t n j now (GroundLimit size) = EndsCrowded p s t n now (GroundLimit size)
Stops p s t n j now (MaxSeconds first last) =
    IsLate (time_to_stop s.seconds t) t last × (first ≡ t.first) × IsFollowing p s n now
    × (j < s.wanted)
Stops p s t n j now (ClauseLimit formula) = ⊥

-- What is printed of size n, behind k models and r readings of the clock, while it goes on.
abbrev pub SizeGoes : Stated → Plan → Times → ℕ → ℕ → ℕ → List ℕ → Type 0
SizeGoes p s t n k r text =
    (now : Now) × IsAtSize p s n now × StaysWithin p s n (k + models_at now) now
    × IsInTime s.seconds t × HasRead s.seconds (r + readings_at now) t
    × (text ≡ text_at p n k now)

-- How it is over, with j models printed by then, fewer than are wanted; or how the search ends in
-- it.
abbrev pub SizeEnds : Stated → Plan → Times → ℕ → ℕ → ℕ → Step → List ℕ → Type 0
SizeEnds p s t n k r (Over j) text =
    (size : Size) × (n ≤ s.end) × HasEnded p s n size × (j ≡ k + models_in size) × (j < s.wanted)
    × IsInTime s.seconds t × HasRead s.seconds (r + readings_in size) t
    × (text ≡ size_text p n k size)
SizeEnds p s t n k r (Ends end j) text =
    (now : Now) × IsAtSize p s n now × (j ≡ k + models_at now) × Stops p s t n j now end
    × HasRead s.seconds (r + readings_to now end) t × (text ≡ text_at p n k now)

-- behind sizes that ended, with fewer models than are wanted, a search is at this
pub record IsBehind (p : Stated) (s : Plan) (sizes : List Size) (now : Now) : Type 0 where
  pub ended : HaveEnded p s s.start sizes
  pub fewer : models_in_all sizes < s.wanted
  pub stands : IsAtSize p s (size_behind s (length sizes)) now

-- the text by then, how many models are printed, and how often the clock was read
abbrev pub text_by : Stated → Plan → List Size → Now → List ℕ
text_by p s sizes now =
    sizes_text p s.step s.start 0 sizes
    ++ text_at p (size_behind s (length sizes)) (models_in_all sizes) now

abbrev pub models_by : List Size → Now → ℕ
models_by sizes now = models_in_all sizes + models_at now

-- while it goes on, and where it ends so
abbrev pub readings_by : List Size → Now → ℕ
readings_by sizes now = readings_in_all sizes + readings_at now

abbrev pub readings_by_end : List Size → Now → SearchEnd → ℕ
readings_by_end sizes now end = readings_in_all sizes + readings_to now end

-- The search goes on, with this text so far.
pub record SearchGoes (p : Stated) (s : Plan) (t : Times) (text : List ℕ) : Type 0 where
  pub sizes : List Size
  pub now : Now
  pub so_far : IsBehind p s sizes now
  pub most : StaysWithin p s (size_behind s (length sizes)) (models_by sizes now) now
  pub in_time : IsInTime s.seconds t
  pub reads : HasRead s.seconds (readings_by sizes now) t
  pub text_is : text ≡ text_by p s sizes now

-- The search has come to this end, so many models having been printed, with this text before its
-- last lines.
pub record SearchComes (p : Stated) (s : Plan) (t : Times) (end : SearchEnd) (printed : ℕ)
    (text : List ℕ) : Type 0 where
  pub sizes : List Size
  pub now : Now
  pub so_far : IsBehind p s sizes now
  pub count : printed ≡ models_by sizes now
  pub stops : Stops p s t (size_behind s (length sizes)) printed now end
  pub reads : HasRead s.seconds (readings_by_end sizes now end) t
  pub text_is : text ≡ text_by p s sizes now
