-- What was written of a search is a front of a whole output.
use Rattle.std.proofs.Common.{◌≡◌, ℕ, ◌<◌, ◌≤◌, List, [], ◌++◌, length, Option, None, Some, Result, Ok, Err, inl, inr, refl, sym, subst, ap, ◌∙◌, append-nil, append_assoc, arith}
use Rattle.clausify.specs.Input.{first_over}
use Rattle.fol_core.specs.Literals.{equality}
use Rattle.fol_problem.specs.Stated.{Stated, IsWellFormed}
use Rattle.ladr_intake.specs.Command.{End, own, refused, read_fault, MayStand, EndsBy}
use Rattle.ladr_intake.specs.Input.{IsAllRead}
use Rattle.ladr_intake.specs.Language.{IsLanguage}
use Rattle.ladr_intake.specs.Posed.{Posed}
use Rattle.ladr_intake.specs.Refusals.{IsRefused}
use Rattle.ladr_intake.specs.declared.stops.Refused.{Refused}
use Rattle.ladr_io.specs.Streams.{Inflow, Outflow, greatest, TakesFront}
use Rattle.ladr_io.specs.Times.{Times, no_times}
use Rattle.ladr_cells.specs.Fitting.{FitsTable}
use Rattle.ladr_mace4.proofs.Blocks.{Laws, FilesFit}
use Rattle.ladr_mace4.proofs.ClockReadings.{readings_of, sought_as}
use Rattle.ladr_mace4.proofs.GoingOn.{Comes as HasCome, goes_comes, starts_comes}
use Rattle.ladr_mace4.proofs.Planned.{plan_in_range}
use Rattle.ladr_mace4.proofs.Seeking.{comes_by}
use Rattle.ladr_mace4.specs.Finding.{Sought, Seeks}
use Rattle.ladr_mace4.specs.Fronts.{times_after, IsFront, WroteFront}
use Rattle.ladr_mace4.specs.LeafModels.{LeavesAreModels, LeavesCoverModels}
use Rattle.ladr_mace4.specs.Lines.{end_text}
use Rattle.ladr_mace4.specs.Plans.{plan_of}
use Rattle.ladr_mace4.specs.declared.ends.SearchEnd.{SearchEnd}
use Rattle.ladr_mace4.specs.declared.ends.SearchEnd.TheVariants.{ClauseLimit}
use Rattle.ladr_mace4.specs.declared.plan.Plan.{Plan}
use Rattle.ladr_output.specs.Telling.{Tells}
use Rattle.ladr_output.specs.declared.cut.Cut.{Cut}
use Rattle.ladr_output.specs.declared.cut.Cut.TheVariants.{WriteFault, Memory}
use Rattle.ladr_words.specs.Tasks.{HasRanges}
use Rattle.ladr_words.specs.declared.task.ModelOptions.{ModelOptions}
use Rattle.ladr_words.specs.declared.task.Task.TheVariants.{Mace4}
use Rattle.ladr_output.proofs.Tellings.{cut_text}
use Rattle.std.specs.Prelude.{◌⊎◌}

-- a front of what a search comes to by some figures of the clock
of_sought : (p : Stated) (s : Plan) (t : Times) (end : SearchEnd) (whole text rest : List ℕ) → Sought p s t end whole → whole ≡ text ++ rest → IsFront p s text
of_sought p s t end whole text rest h e =
    let given = readings_of t in
    record { readings = given.0; end = end; whole = whole; sought = sought_as p s t (times_after no_times given.0) given.1 end whole h; rest = rest; parts = e }

-- a text that a search may come to, or a front of it
of_comes : (models : LeavesAreModels) (cover : LeavesCoverModels) (p : Stated) (well : IsWellFormed p) (fits : FitsTable p) (few : length p.symbols ≤ equality) (s : Plan) (start : 1 ≤ s.start) (step : 1 ≤ s.step) (text : List ℕ) → first_over 1 p.formulas ≡ None → HasCome models cover p well fits few s start step text → IsFront p s text
of_comes models cover p well fits few s start step text none h =
    let last = end_text h.printed h.end in
    of_sought p s h.times h.end (h.more ++ last) text (h.rest ++ last) (h.printed, (h.more, comes_by p s h.times h.printed h.more h.end none h.comes, refl)) (ap (λ (u : List ℕ). u ++ last) h.parts ∙ append_assoc text h.rest last)

shorter : (p : Stated) (s : Plan) (text front rest : List ℕ) → IsFront p s text → text ≡ front ++ rest → IsFront p s front
shorter p s text front rest h e = record { readings = h.readings; end = h.end; whole = h.whole; sought = h.sought; rest = rest ++ h.rest; parts = h.parts ∙ ap (λ (u : List ℕ). u ++ h.rest) e ∙ append_assoc front rest h.rest }

module _ (laws : Laws) (says : List ℕ → Posed → Type 0) (refuses : List ℕ → Refused → Type 0) (language : IsLanguage says refuses) (fit : FilesFit says) (bytes : List ℕ) (x : Posed) (posed : says bytes x) (words : ModelOptions) (ranged : HasRanges (Mace4 words)) (a b : Inflow) (read : IsAllRead a b bytes) (countable : a.faults < greatest) where
  abbrev p : Stated
  p = x.stated

  abbrev s : Plan
  s = plan_of words x.options

  in_range : (1 ≤ s.start) × (1 ≤ s.step) × (1 ≤ s.wanted)
  in_range = plan_in_range words x.options ranged (language.proper bytes x posed).ranged

  well : IsWellFormed p
  well = (language.proper bytes x posed).well_formed

  fits : FitsTable p
  fits = fit bytes x posed

  few : length p.symbols ≤ equality
  few = omega (arith, (language.proper bytes x posed).few)

  -- nothing is printed
  at_start : (o : Option ℕ) → first_over 1 p.formulas ≡ o → (u : List ℕ) → u ≡ [] → IsFront p s u
  at_start None e u none = subst (IsFront p s) (sym none) (of_comes laws.models laws.cover p well fits few s in_range.0 in_range.1 [] e (starts_comes laws.models laws.cover p well fits few s in_range.0 in_range.1 in_range.2))
  at_start (Some n) e u none = of_sought p s no_times (ClauseLimit n) (end_text 0 (ClauseLimit n)) u (end_text 0 (ClauseLimit n)) (0, ([], (e, refl, refl), refl)) (ap (λ (v : List ℕ). v ++ end_text 0 (ClauseLimit n)) (sym none))

  seeks_front : (t : Times) (u : List ℕ) → Seeks p s t u → IsFront p s u
  seeks_front t u (inl h) = at_start (first_over 1 p.formulas) refl u h.0
  seeks_front t u (inr (inl h)) = of_comes laws.models laws.cover p well fits few s in_range.0 in_range.1 u h.0 (goes_comes laws.models laws.cover p well fits few s in_range.0 in_range.1 t u h.1)
  seeks_front t u (inr (inr h)) = of_sought p s t h.0 (u ++ end_text h.1.0 h.0) u (end_text h.1.0 h.0) (h.1.0, (u, h.1.1, refl)) refl

  module _ (t : Times) where
    abbrev goes_of : Posed → List ℕ → Type 0
    goes_of y = Seeks y.stated (plan_of words y.options) t

    abbrev ends_of : Posed → SearchEnd → List ℕ → Type 0
    ends_of y = Sought y.stated (plan_of words y.options) t

    stands_front : (u : List ℕ) → MayStand says refuses (t.count ≡ 0) goes_of ends_of a b bytes u → IsFront p s u
    stands_front u (inl h) = at_start (first_over 1 p.formulas) refl u h.0
    stands_front u (inr h) = let y = h.1.0 in seeks_front t u (subst (λ (z : Posed). Seeks z.stated (plan_of words z.options) t u) (language.once bytes y x h.1.1 posed) h.1.2)

    no_refusal : (why : Refused) → IsRefused refuses a b bytes why → ⊥
    no_refusal why (inr h) = omega (arith, h.0.1, read.1)
    no_refusal why (inl h) = language.unrefused bytes x why posed h.1

    ends_front : (e : End SearchEnd) (u : List ℕ) → EndsBy says refuses (t.count ≡ 0) goes_of ends_of a b bytes e u → IsFront p s u
    ends_front (own e) u h =
        let y = h.1.0 in
        of_sought p s t e u u [] (subst (λ (z : Posed). Sought z.stated (plan_of words z.options) t e u) (language.once bytes y x h.1.1 posed) h.1.2) (sym (append-nil u))
    ends_front (refused why) u h = absurd (no_refusal why h.0)
    ends_front read_fault u h = absurd (omega (arith, h.0.0.failed, read.0.gives.unfailing, countable))

    abbrev goes_all : List ℕ → Type 0
    goes_all = MayStand says refuses (t.count ≡ 0) goes_of ends_of a b bytes

    abbrev ends_all : End SearchEnd → List ℕ → Type 0
    ends_all = EndsBy says refuses (t.count ≡ 0) goes_of ends_of a b bytes

    cut_front : (c d : Outflow) (u : List ℕ) → goes_all u ⊎ ((e : End SearchEnd) × ends_all e u) → TakesFront c d u → WroteFront p s c d
    cut_front c d u (inl g) k = record { front = k.front; wrote = k.took; whole = shorter p s u k.front k.rest (stands_front u g) k.parts }
    cut_front c d u (inr g) k = record { front = k.front; wrote = k.took; whole = shorter p s u k.front k.rest (ends_front g.0 u g.1) k.parts }

    pub tells_front : (c d : Outflow) (r : Result (End SearchEnd) Cut) → Tells (MayStand says refuses (t.count ≡ 0) goes_of ends_of a b bytes) (EndsBy says refuses (t.count ≡ 0) goes_of ends_of a b bytes) c d r → WroteFront p s c d
    tells_front c d (Ok e) h = record { front = h.0; wrote = h.2.took; whole = ends_front e h.0 h.1 }
    tells_front c d (Err WriteFault) h = let y = cut_text goes_all ends_all c d h in cut_front c d y.0 y.1 y.2
    tells_front c d (Err Memory) h = record { front = h.0; wrote = h.2.took; whole = stands_front h.0 h.1 }
