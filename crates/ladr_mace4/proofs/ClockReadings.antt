-- Readings that a clock can have given.
use Rattle.std.proofs.Common.{◌≡◌, ℕ, zero, suc, ◌+◌, ◌<◌, ◌==◌, min, Bool, true, false, if◌then◌else◌, List, [], ◌∷◌, ◌++◌, Option, None, Some, refl, sym, ◌∙◌, arith}
use Rattle.std.proofs.lemmas.Bool.Decides.{nat_tests}
use Rattle.std.specs.Prelude.{nat_lt, max}
use Rattle.ladr_io.specs.Streams.{greatest}
use Rattle.ladr_io.specs.Times.{Times, no_times, later}
use Rattle.fol_problem.specs.Stated.{Stated}
use Rattle.ladr_mace4.specs.Finding.{Comes, Sought}
use Rattle.ladr_mace4.specs.Fronts.{times_after}
use Rattle.ladr_mace4.specs.Story.{Now, Stops, SearchComes}
use Rattle.search_clock.specs.Watching.{time_to_stop, IsInTime, HasRead}
use Rattle.ladr_mace4.specs.declared.ends.SearchEnd.{SearchEnd}
use Rattle.ladr_mace4.specs.declared.ends.SearchEnd.TheVariants.{MaxModels, Exhausted, AllModels, MaxMegs, MaxSeconds, GroundLimit, ClauseLimit}
use Rattle.ladr_mace4.specs.declared.plan.Plan.{Plan}
use Rattle.ladr_io.specs.Watch.{IsLate}

noughts : ℕ → List ℕ
noughts zero = []
noughts (suc m) = 0 ∷ noughts m

later_count : (t : Times) (now : ℕ) → min (later t now).count greatest ≡ min (t.count + 1) greatest
later_count t now = omega arith

later_first : (t : Times) (now : ℕ) → 0 < t.count → (later t now).first ≡ t.first
later_first t now some = by (t.count == 0) refl
  where
    by : (b : Bool) → (t.count == 0) ≡ b → (if b then now else t.first) ≡ t.first
    by true e = grind (arith, nat_tests)
    by false e = refl

later_between : (t : Times) (now : ℕ) → t.between ≡ 0 → (1 < t.count → t.last ≡ 0) → (later t now).between ≡ 0
later_between t now none nought = by (nat_lt t.count 2) refl
  where
    by : (b : Bool) → nat_lt t.count 2 ≡ b → (if b then 0 else max t.between t.last) ≡ 0
    by true e = refl
    by false e =
        let many : 1 < t.count = grind (arith, nat_tests) in
        omega (arith, none, nought many)

record Come (t t' : Times) (m l : ℕ) : Type 0 where
  pub count : min t'.count greatest ≡ min (t.count + m + 1) greatest
  pub first : t'.first ≡ t.first
  pub last : t'.last ≡ l
  pub between : t'.between ≡ 0

-- noughts, and one reading more
come : (m : ℕ) (t : Times) (l : ℕ) → 0 < t.count → t.between ≡ 0 → (1 < t.count → t.last ≡ 0) → Come t (times_after t (noughts m ++ l ∷ [])) m l
unfolding noughts
come zero t l some none nought = record { count = omega arith; first = later_first t l some; last = refl; between = later_between t l none nought }
come (suc m) t l some none nought =
    let t' = later t 0 in
    let more = come m t' l (omega (arith, some)) (later_between t 0 none nought) (λ many. refl) in
    record { count = more.count ∙ omega (arith, some); first = more.first ∙ later_first t 0 some; last = more.last; between = more.between }

-- figures that tell as much as these of a search, and that a clock can come to
pub record TellsAs (t t' : Times) : Type 0 where
  pub count : min t'.count greatest ≡ min t.count greatest
  pub first : 0 < t.count → t'.first ≡ t.first
  pub last : 1 < t.count → t'.last ≡ t.last
  pub between : t'.between ≡ 0

pub readings_of : (t : Times) → (readings : List ℕ) × TellsAs t (times_after no_times readings)
readings_of t = by t.count refl
  where
    by : (n : ℕ) → n ≡ t.count → (readings : List ℕ) × TellsAs t (times_after no_times readings)
    by zero e = ([], record { count = omega (arith, e); first = λ h. absurd (omega (arith, e, h)); last = λ h. absurd (omega (arith, e, h)); between = refl })
    by (suc zero) e = (t.first ∷ [], record { count = omega (arith, e); first = λ h. refl; last = λ h. absurd (omega (arith, e, h)); between = refl })
    by (suc (suc m)) e =
        let c = come m (later no_times t.first) t.last (omega arith) refl (λ h. absurd (omega (arith, h))) in
        (t.first ∷ (noughts m ++ t.last ∷ []), record { count = c.count ∙ omega (arith, e); first = λ h. c.first; last = λ h. c.last; between = c.between })

-- what holds of a search with the ones holds of it with the others
in_time_as : (o : Option ℕ) (t t' : Times) → TellsAs t t' → IsInTime o t → IsInTime o t'
in_time_as None t t' h unread = omega (arith, h.count, unread)
in_time_as (Some s) t t' h early = λ many.
    let some : 1 < t.count = omega (arith, h.count, many) in
    let first = h.first (omega (arith, some)) in
    (omega (arith, h.last some, first, (early some).0), omega (arith, h.between, first, (early some).0))

read_as : (o : Option ℕ) (n : ℕ) (t t' : Times) → TellsAs t t' → HasRead o n t → HasRead o n t'
read_as None n t t' h unread = omega (arith, h.count, unread)
read_as (Some s) n t t' h reads = h.count ∙ reads

late_as : (o : Option ℕ) (last : ℕ) (t t' : Times) → TellsAs t t' → IsLate (time_to_stop o t) t last → IsLate (time_to_stop o t') t' last
late_as None last t t' h late = absurd late
late_as (Some s) last t t' h late =
    let first = h.first (omega (arith, late.0)) in
    let end = h.last late.0 in
    (omega (arith, late.0, h.count), (λ many. (let some : 2 < t.count = omega (arith, h.count, many) in omega (arith, h.between, first, late.1 some))), omega (arith, first, end, late.2), late.3 ∙ sym end)

module _ (p : Stated) (s : Plan) (t t' : Times) (h : TellsAs t t') where
  stops_as : (n j : ℕ) (now : Now) (end : SearchEnd) (last : (first last : ℕ) → IsLate (time_to_stop s.seconds t) t last → 0 < t.count) → Stops p s t n j now end → Stops p s t' n j now end
  stops_as n j now MaxModels some k = (in_time_as s.seconds t t' h k.0, k.1, k.2)
  stops_as n j now AllModels some k = (in_time_as s.seconds t t' h k.0, k.1, k.2, k.3)
  stops_as n j now Exhausted some k = (in_time_as s.seconds t t' h k.0, k.1, k.2, k.3)
  stops_as n j now MaxMegs some k = (in_time_as s.seconds t t' h k.0, k.1, k.2)
  stops_as n j now (GroundLimit size) some k = (in_time_as s.seconds t t' h k.0, k.1, k.2)
  stops_as n j now (MaxSeconds first last) some k = (late_as s.seconds last t t' h k.0, k.1 ∙ sym (h.first (some first last k.0)), k.2, k.3)
  stops_as n j now (ClauseLimit formula) some k = absurd k

  late_some : (o : Option ℕ) (first last : ℕ) → IsLate (time_to_stop o t) t last → 0 < t.count
  late_some None first last late = absurd late
  late_some (Some x) first last late = omega (arith, late.0)

  search_as : (end : SearchEnd) (printed : ℕ) (text : List ℕ) → SearchComes p s t end printed text → SearchComes p s t' end printed text
  search_as end printed text k = record { sizes = k.sizes; now = k.now; so_far = k.so_far; count = k.count; stops = stops_as _ printed k.now end (late_some s.seconds) k.stops; reads = read_as s.seconds _ t t' h k.reads; text_is = k.text_is }

  comes_as : (end : SearchEnd) (printed : ℕ) (text : List ℕ) → Comes p s t end printed text → Comes p s t' end printed text
  comes_as MaxModels printed text k = (k.0, search_as MaxModels printed text k.1)
  comes_as Exhausted printed text k = (k.0, search_as Exhausted printed text k.1)
  comes_as AllModels printed text k = (k.0, search_as AllModels printed text k.1)
  comes_as MaxMegs printed text k = (k.0, search_as MaxMegs printed text k.1)
  comes_as (MaxSeconds first last) printed text k = (k.0, search_as (MaxSeconds first last) printed text k.1)
  comes_as (GroundLimit size) printed text k = (k.0, search_as (GroundLimit size) printed text k.1)
  comes_as (ClauseLimit formula) printed text k = (k.0, omega (arith, h.count, k.1), k.2)

  pub sought_as : (end : SearchEnd) (whole : List ℕ) → Sought p s t end whole → Sought p s t' end whole
  sought_as end whole k = (k.0, (k.1.0, comes_as end k.0 k.1.0 k.1.1, k.1.2))
