-- What a run of the command shows.
use Rattle.std.proofs.Common.{◌≡◌, ℕ, ◌≤◌, Bool, true, false, if◌then◌else◌, List, [], ◌++◌, Option, Some, None, unwrap_or, Result, Ok, Err, inl, inr, refl, sym, subst, ap, ◌∙◌, append-nil, arith}
use Rattle.std.specs.Prelude.{IfSome, ◌⊎◌}
use Rattle.fol_problem.specs.Stated.{Stated}
use Rattle.ladr_intake.specs.Command.{End, own, refused, read_fault, end_of, MayStand, EndsBy}
use Rattle.ladr_intake.specs.Language.{IsLanguage}
use Rattle.ladr_intake.specs.Posed.{Posed}
use Rattle.ladr_intake.specs.Refusals.{IsRefused, refusal_text}
use Rattle.ladr_intake.specs.declared.stops.Refused.{Refused}
use Rattle.ladr_intake.specs.declared.stops.Stop.{Stop}
use Rattle.ladr_io.specs.Streams.{Inflow, Outflow, AreLastHeld, Takes, TakesFront}
use Rattle.ladr_io.specs.Times.{Times}
use Rattle.ladr_mace4.proofs.Blocks.{Laws, FilesFit, IsBounded, goes_shows, comes_shows}
use Rattle.ladr_mace4.proofs.Fronts.{tells_front}
use Rattle.ladr_mace4.proofs.SearchBlocks.{SearchBlock, blocks_text, AreGood, Last, nothing, ends, grows, fails, last_text}
use Rattle.ladr_mace4.proofs.Standing.{exhausted_stands, model_stands}
use Rattle.ladr_mace4.specs.Finding.{Comes, Sought, Seeks, Searches}
use Rattle.ladr_mace4.specs.Plans.{plan_of, only_size}
use Rattle.ladr_mace4.specs.Shown.{ShowsModels, ShowsPosed}
use Rattle.ladr_mace4.specs.declared.ends.SearchEnd.{SearchEnd}
use Rattle.ladr_mace4.specs.declared.ends.SearchEnd.TheVariants.{MaxModels, Exhausted, AllModels, MaxMegs, MaxSeconds, GroundLimit, ClauseLimit}
use Rattle.ladr_mace4.specs.declared.plan.Plan.{Plan}
use Rattle.ladr_output.specs.Telling.{Tells}
use Rattle.ladr_output.specs.declared.cut.Cut.{Cut}
use Rattle.ladr_output.specs.declared.cut.Cut.TheVariants.{WriteFault, Memory}
use Rattle.ladr_options.specs.declared.options.Options.{Options}
use Rattle.ladr_problem.specs.Proper.{IsProper}
use Rattle.ladr_words.specs.Tasks.{HasRanges, IsFrom}
use Rattle.ladr_words.specs.declared.task.ModelOptions.{ModelOptions}
use Rattle.ladr_words.specs.declared.task.Task.TheVariants.{Mace4}
use Rattle.ladr_output.proofs.Tellings.{cut_text}

-- the text is good blocks and some last lines
abbrev Shows : Stated → List ℕ → Type 0
Shows p text = (blocks : List SearchBlock) × ((last : Last) × AreGood p [] blocks × (text ≡ blocks_text p blocks ++ last_text last))

-- the text is good blocks alone
abbrev Blocks : Stated → List ℕ → Type 0
Blocks p text = (blocks : List SearchBlock) × AreGood p [] blocks × (text ≡ blocks_text p blocks)

no_blocks : (p : Stated) (text : List ℕ) → text ≡ [] → Blocks p text
no_blocks p text e = ([], tt, e)

with_last : (p : Stated) (text front : List ℕ) (last : Last) → Blocks p front → text ≡ front ++ last_text last → Shows p text
with_last p text front last h e = (h.0, (last, h.1, e ∙ ap (λ (u : List ℕ). u ++ last_text last) h.2))

no_last : (p : Stated) (text : List ℕ) → Blocks p text → Shows p text
no_last p text h = with_last p text text nothing h (sym (append-nil text))

-- what was written of such a text
written : (p : Stated) (a b : Outflow) (text front rest : List ℕ) → Shows p text → text ≡ front ++ rest → AreLastHeld a.held b.held front → ShowsModels p a b
written p a b text front rest h e wrote =
    let blocks = h.0 in
    let last = h.1.0 in
    let parts = sym h.1.2 ∙ e in
    record { written = front; wrote = wrote; models = model_stands p blocks last h.1.1 front rest parts; exhausted = exhausted_stands p blocks last h.1.1 front rest parts }

-- what the sink took
whole : (p : Stated) (a b : Outflow) (text : List ℕ) → Shows p text → Takes a b text → ShowsModels p a b
whole p a b text h took = written p a b text text [] h (sym (append-nil text)) took.took

part : (p : Stated) (a b : Outflow) (text : List ℕ) → Shows p text → TakesFront a b text → ShowsModels p a b
part p a b text h took = written p a b text took.front took.rest h took.parts took.took

-- what a plan asks for
at_most : (m d : ℕ) (o : Option ℕ) → d ≤ m → IfSome o (λ n. n ≤ m) → unwrap_or o d ≤ m
at_most m d None h k = h
at_most m d (Some n) h k = k

given_most : (l m : ℕ) (o : Option ℕ) → IsFrom l m o → IfSome o (λ n. n ≤ m)
given_most l m None h = tt
given_most l m (Some n) h = h.1

only_most : (words : ModelOptions) (o : Options) → o.domain_size ≤ 200 → IfSome (only_size words o) (λ n. n ≤ 200)
only_most words o h = by _
  where
    by : (b : Bool) → IfSome (if b then None else Some o.domain_size) (λ n. n ≤ 200)
    by true = tt
    by false = h

plan_bounded : (words : ModelOptions) (p : Stated) (o : Options) → HasRanges (Mace4 words) → IsProper p o → IsBounded (plan_of words o)
plan_bounded words p o h proper =
    let wanted = at_most 4294967295 o.max_models words.max_models (omega (arith, proper.countable)) (given_more words.max_models (given_most 1 2147483647 words.max_models h.2)) in (
      at_most 200 _ (only_size words o) (at_most 200 o.end_size words.end_size proper.ranged.end_size.1 (given_most 1 200 words.end_size h.1)) (only_most words o proper.ranged.domain_size),
      omega (arith, wanted),
    )
  where
    given_more : (o : Option ℕ) → IfSome o (λ n. n ≤ 2147483647) → IfSome o (λ n. n ≤ 4294967295)
    given_more None h = tt
    given_more (Some n) h = omega (arith, h)

module _ (laws : Laws) (says : List ℕ → Posed → Type 0) (refuses : List ℕ → Refused → Type 0) (language : IsLanguage says refuses) (fit : FilesFit says) (bytes : List ℕ) (x : Posed) (posed : says bytes x) where
  proper : IsProper x.stated x.options
  proper = language.proper bytes x posed

  comes : (s : Plan) (t : Times) (j : ℕ) (u : List ℕ) (end : SearchEnd) → IsBounded s → Comes x.stated s t end j u → Blocks x.stated u
  comes s t j u MaxModels bounded h = comes_shows laws x.stated x.options proper s t MaxModels j u bounded h.1
  comes s t j u Exhausted bounded h = comes_shows laws x.stated x.options proper s t Exhausted j u bounded h.1
  comes s t j u AllModels bounded h = comes_shows laws x.stated x.options proper s t AllModels j u bounded h.1
  comes s t j u MaxMegs bounded h = comes_shows laws x.stated x.options proper s t MaxMegs j u bounded h.1
  comes s t j u (MaxSeconds first last) bounded h = comes_shows laws x.stated x.options proper s t (MaxSeconds first last) j u bounded h.1
  comes s t j u (GroundLimit size) bounded h = comes_shows laws x.stated x.options proper s t (GroundLimit size) j u bounded h.1
  comes s t j u (ClauseLimit formula) bounded h = no_blocks x.stated u h.2

  seeks : (s : Plan) (t : Times) (u : List ℕ) → IsBounded s → Seeks x.stated s t u → Shows x.stated u
  seeks s t u bounded (inl h) = no_last x.stated u (no_blocks x.stated u h.0)
  seeks s t u bounded (inr (inl h)) = no_last x.stated u (goes_shows laws x.stated x.options proper s t u bounded h.1)
  seeks s t u bounded (inr (inr h)) = no_last x.stated u (comes s t h.1.0 u h.0 bounded h.1.1)

  sought : (s : Plan) (t : Times) (end : SearchEnd) (u : List ℕ) → IsBounded s → Sought x.stated s t end u → Shows x.stated u
  sought s t end u bounded h = with_last x.stated u h.1.0 (ends h.0 end) (comes s t h.0 h.1.0 end bounded h.1.1) h.1.2

  module _ (words : ModelOptions) (ranges : HasRanges (Mace4 words)) (a b : Inflow) (t : Times) where
    abbrev plan : Plan
    plan = plan_of words x.options

    bounded : IsBounded plan
    bounded = plan_bounded words x.stated x.options ranges proper

    abbrev goes_of : Posed → List ℕ → Type 0
    goes_of y = Seeks y.stated (plan_of words y.options) t

    abbrev ends_of : Posed → SearchEnd → List ℕ → Type 0
    ends_of y = Sought y.stated (plan_of words y.options) t

    stands : (u : List ℕ) → MayStand says refuses (t.count ≡ 0) goes_of ends_of a b bytes u → Shows x.stated u
    stands u (inl h) = no_last x.stated u (no_blocks x.stated u h.0)
    stands u (inr h) = seeks plan t u bounded (subst (λ (y : Posed). Seeks y.stated (plan_of words y.options) t u) (language.once bytes h.1.0 x h.1.1 posed) h.1.2)

    -- an input that poses something is refused for its length alone
    refused_with : (why : Refused) → IsRefused refuses a b bytes why → (u : List ℕ) → u ≡ refusal_text why → Shows x.stated u
    refused_with why (inl h) u e = absurd (language.unrefused bytes x why posed h.1)
    refused_with why (inr h) u e = with_last x.stated u [] grows (no_blocks x.stated [] refl) (e ∙ ap refusal_text h.1)

    ends_with : (e : End SearchEnd) (u : List ℕ) → EndsBy says refuses (t.count ≡ 0) goes_of ends_of a b bytes e u → Shows x.stated u
    ends_with (own e) u h = sought plan t e u bounded (subst (λ (y : Posed). Sought y.stated (plan_of words y.options) t e u) (language.once bytes h.1.0 x h.1.1 posed) h.1.2)
    ends_with (refused why) u h = refused_with why h.0 u h.2
    ends_with read_fault u h = with_last x.stated u [] fails (no_blocks x.stated [] refl) h.2

    abbrev goes_all : List ℕ → Type 0
    goes_all = MayStand says refuses (t.count ≡ 0) goes_of ends_of a b bytes

    abbrev ends_all : End SearchEnd → List ℕ → Type 0
    ends_all = EndsBy says refuses (t.count ≡ 0) goes_of ends_of a b bytes

    cut_shows : (c d : Outflow) (u : List ℕ) → goes_all u ⊎ ((e : End SearchEnd) × ends_all e u) → TakesFront c d u → ShowsModels x.stated c d
    cut_shows c d u (inl g) k = part x.stated c d u (stands u g) k
    cut_shows c d u (inr g) k = part x.stated c d u (ends_with g.0 u g.1) k

    pub tells_shows : (c d : Outflow) (r : Result (End SearchEnd) Cut) → Tells (MayStand says refuses (t.count ≡ 0) goes_of ends_of a b bytes) (EndsBy says refuses (t.count ≡ 0) goes_of ends_of a b bytes) c d r → ShowsModels x.stated c d
    tells_shows c d (Ok e) h = whole x.stated c d h.0 (ends_with e h.0 h.1) h.2
    tells_shows c d (Err WriteFault) h = let y = cut_text goes_all ends_all c d h in cut_shows c d y.0 y.1 y.2
    tells_shows c d (Err Memory) h = whole x.stated c d h.0 (stands h.0 h.1) h.2

pub searches_show : Laws → (says : List ℕ → Posed → Type 0) (refuses : List ℕ → Refused → Type 0) → IsLanguage says refuses → FilesFit says → (words : ModelOptions) → HasRanges (Mace4 words) → (a b : Inflow) (c d : Outflow) (t : Times) (r : Result SearchEnd Stop) → Searches says refuses words a b c d t r → ShowsPosed says words a b c d
searches_show laws says refuses language fit words ranges a b c d t r h = record {
  bytes = h.bytes;
  taken = h.taken;
  shows = λ x posed. tells_shows laws says refuses language fit h.bytes x posed words ranges a b t c d (end_of r) h.tells;
  fronts = λ x posed read countable. tells_front laws says refuses language fit h.bytes x posed words ranges a b read countable t c d (end_of r) h.tells;
}
