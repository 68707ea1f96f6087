-- What a run of a command amounts to, by what its parts tell.
use Rattle.std.proofs.Common.{◌≡◌, ℕ, List, [], Result, Ok, Err, inl, inr, refl, sym, subst}
use Rattle.ladr_intake.specs.Command.{End, own, refused, read_fault, end_of, MayStand, EndsBy, Runs}
use Rattle.ladr_intake.specs.Input.{AreTaken, IsAllRead}
use Rattle.ladr_intake.specs.Refusals.{IsNoInput, IsNoneTaken, IsToldBy, refuses_none, stop_of_cut, stop_of_error, refusal_text, read_fault_line}
use Rattle.ladr_intake.specs.declared.stops.Refused.{Refused}
use Rattle.ladr_intake.specs.declared.stops.Stop.{Stop}
use Rattle.ladr_intake.specs.declared.stops.Stop.TheVariants as stops
use Rattle.ladr_io.specs.Streams.{Inflow, Outflow}
use Rattle.ladr_output.specs.Telling.{PieceTells, Tells}
use Rattle.ladr_output.specs.declared.cut.Cut.{Cut}
use Rattle.ladr_output.specs.declared.cut.Cut.TheVariants.{WriteFault, Memory}
use Rattle.ladr_output.proofs.Tellings.{first_cut}
use Rattle.ladr_problem.specs.declared.refusal.ReadError.{ReadError}
use Rattle.std.specs.Prelude.{◌⊎◌, ◌++◌, IfErr, IsErrAnd}

-- what is read is taken
pub read_taken : (a b : Inflow) (bytes : List ℕ) → IsAllRead a b bytes → AreTaken a b bytes
read_taken a b bytes h = inl h.0.gives

no_input_taken : (refuses : List ℕ → Refused → Type 0) (a b : Inflow) (bytes : List ℕ) (why : Stop) → IsNoInput refuses a b bytes why → AreTaken a b bytes
no_input_taken refuses a b bytes (stops.Refused why) (inl h) = read_taken a b bytes h.0
no_input_taken refuses a b bytes (stops.Refused why) (inr h) = inl h.0.0
no_input_taken refuses a b bytes stops.ReadFault h = inr h.0
no_input_taken refuses a b bytes stops.WriteFault h = absurd h
no_input_taken refuses a b bytes stops.Memory h = h

-- what is refused for nothing that it says is refused in every language
every_language : (refuses : List ℕ → Refused → Type 0) (a b : Inflow) (bytes : List ℕ) (why : Stop) → IsNoInput refuses_none a b bytes why → IsNoInput refuses a b bytes why
every_language refuses a b bytes (stops.Refused why) (inl h) = absurd h.1
every_language refuses a b bytes (stops.Refused why) (inr h) = inr h
every_language refuses a b bytes stops.ReadFault h = h
every_language refuses a b bytes stops.WriteFault h = h
every_language refuses a b bytes stops.Memory h = h

pub in_every_language : (refuses : List ℕ → Refused → Type 0) (a b : Inflow) (c d : Outflow) (stop : Stop) → IsNoneTaken refuses_none a b c d stop → IsNoneTaken refuses a b c d stop
in_every_language refuses a b c d stop h = (h.0, (h.1.0, every_language refuses a b h.1.0 h.0 h.1.1), h.2)

-- what was read is refused, and it is told so
pub none_taken : {T : Type 0} (refuses : List ℕ → Refused → Type 0) (a b : Inflow) (bytes : List ℕ) (c c' d : Outflow) (read : Result T ReadError) (stop : Stop) (P : ReadError → Type 0)
    → ((e : ReadError) → P e → IsNoInput refuses a b bytes (stop_of_error e)) → IfErr read P → c' ≡ c → IsErrAnd read (λ e. IsToldBy (stop_of_error e) c' d stop) → IsNoneTaken refuses a b c d stop
none_taken refuses a b bytes c c' d (Ok x) stop P why error same told = absurd told
none_taken refuses a b bytes c c' d (Err e) stop P why error same told = (stop_of_error e, (bytes, why e error), subst (λ (o : Outflow). IsToldBy (stop_of_error e) o d stop) same told)

-- the same end, or the same cause
abbrev pub IsHandedOn : {E : Type 0} → Result E Cut → Result E Stop → Type 0
IsHandedOn (Ok e) r = r ≡ Ok e
IsHandedOn (Err cut) r = IsErrAnd r (λ stop. stop ≡ stop_of_cut cut)

module _ {A E : Type 0} (says : List ℕ → A → Type 0) (refuses : List ℕ → Refused → Type 0) (idle : Type 0) (goes : A → List ℕ → Type 0) (ends : A → E → List ℕ → Type 0) (a b : Inflow) (bytes : List ℕ) where
  abbrev Goes : List ℕ → Type 0
  Goes = MayStand says refuses idle goes ends a b bytes

  abbrev Ends : End E → List ℕ → Type 0
  Ends = EndsBy says refuses idle goes ends a b bytes

  -- a line alone is the whole output, or is cut off
  line_tells : (printed : Stop) (text : List ℕ) (e : End E) (c d : Outflow) (stop : Stop) → end_of {E = E} (Err printed) ≡ Ok e → idle → Ends e text → PieceTells printed stop_of_cut text c d stop → Tells Goes Ends c d (end_of {E = E} (Err stop))
  line_tells printed text e c d stop is i whole (Ok u, took, same) =
      subst (λ (x : Stop). Tells Goes Ends c d (end_of {E = E} (Err x))) (sym same) (subst (λ (x : Result (End E) Cut). Tells Goes Ends c d x) (sym is) (text, whole, took))
  line_tells printed text e c d stop is i whole (Err WriteFault, front, same) = subst (λ (x : Stop). Tells Goes Ends c d (end_of {E = E} (Err x))) (sym same) (first_cut Goes Ends text c d (inl (refl, i)) (inr (e, whole)) front)
  line_tells printed text e c d stop is i whole (Err Memory, nothing, same) = subst (λ (x : Stop). Tells Goes Ends c d (end_of {E = E} (Err x))) (sym same) ([], inl (refl, i), nothing)

  -- there is no input, as it is told
  none_tells : (why : Stop) (c d : Outflow) (stop : Stop) → idle → IsNoInput refuses a b bytes why → IsToldBy why c d stop → Tells Goes Ends c d (end_of {E = E} (Err stop))
  none_tells (stops.Refused why) c d stop i h told = line_tells (stops.Refused why) (refusal_text why) (refused why) c d stop refl i (h, i, refl) told
  none_tells stops.ReadFault c d stop i h told = line_tells stops.ReadFault read_fault_line read_fault c d stop refl i (h, i, refl) told
  none_tells stops.WriteFault c d stop i h told = absurd h
  none_tells stops.Memory c d stop i h told = subst (λ (x : Stop). Tells Goes Ends c d (end_of {E = E} (Err x))) (sym told.0) ([], inl (refl, i), told.1)

  -- what is told of what the input says
  own_meant : (x : A) → IsAllRead a b bytes → says bytes x → (t : List ℕ) → goes x t ⊎ ((e : E) × ends x e t) → Goes t ⊎ ((e : End E) × Ends e t)
  own_meant x read said t (inl g) = inl (inr (read, (x, said, g)))
  own_meant x read said t (inr g) = inr (own g.0, (read, (x, said, g.1)))

  cut_tells : (x : A) (c d : Outflow) (cut : Cut) → IsAllRead a b bytes → says bytes x → Tells (goes x) (ends x) c d (Err cut) → Tells Goes Ends c d (end_of {E = E} (Err (stop_of_cut cut)))
  cut_tells x c d WriteFault read said h = record {
    before = h.before;
    piece = h.piece;
    middle = h.middle;
    stood = inr (read, (x, said, h.stood));
    meant = own_meant x read said (h.before ++ h.piece) h.meant;
    took = h.took;
    front = h.front;
  }
  cut_tells x c d Memory read said h = (h.0, inr (read, (x, said, h.1)), h.2)

  own_tells : (x : A) (c d : Outflow) (r : Result E Cut) (r' : Result E Stop) → IsAllRead a b bytes → says bytes x → IsHandedOn r r' → Tells (goes x) (ends x) c d r → Tells Goes Ends c d (end_of r')
  own_tells x c d (Ok e) r' read said is h = subst (λ (s : Result E Stop). Tells Goes Ends c d (end_of s)) (sym is) (h.0, (read, (x, said, h.1)), h.2)
  own_tells x c d (Err cut) (Ok e) read said is h = absurd is
  own_tells x c d (Err cut) (Err stop) read said is h = subst (λ (s : Stop). Tells Goes Ends c d (end_of {E = E} (Err s))) (sym is) (cut_tells x c d cut read said h)

  -- so a run ends by what the input says, that printed nothing before
  pub told_own : (x : A) (c c' d : Outflow) (r : Result E Cut) (r' : Result E Stop) → c' ≡ c → IsAllRead a b bytes → says bytes x → IsHandedOn r r' → Tells (goes x) (ends x) c' d r → Tells Goes Ends c d (end_of r')
  told_own x c c' d r r' same read said is h = own_tells x c d r r' read said is (subst (λ (o : Outflow). Tells (goes x) (ends x) o d r) same h)

  pub own_runs : (x : A) (c c' d : Outflow) (r : Result E Cut) (r' : Result E Stop) → c' ≡ c → IsAllRead a b bytes → says bytes x → IsHandedOn r r' → Tells (goes x) (ends x) c' d r → Runs says refuses idle goes ends a b c d r'
  own_runs x c c' d r r' same read said is h = record { bytes = bytes; taken = read_taken a b bytes read; tells = told_own x c c' d r r' same read said is h }

-- with no input, a run ends as it is told
pub none_runs : {A E : Type 0} (says : List ℕ → A → Type 0) (refuses : List ℕ → Refused → Type 0) (idle : Type 0) (goes : A → List ℕ → Type 0) (ends : A → E → List ℕ → Type 0) (a b : Inflow) (c d : Outflow) (stop : Stop) (r : Result E Stop)
    → idle → IsNoneTaken refuses a b c d stop → IsErrAnd r (λ s. s ≡ stop) → Runs says refuses idle goes ends a b c d r
none_runs says refuses idle goes ends a b c d stop (Ok e) i h is = absurd is
none_runs says refuses idle goes ends a b c d stop (Err s) i h is =
    subst (λ (x : Stop). Runs says refuses idle goes ends a b c d (Err x)) (sym is)
    (record { bytes = h.1.0; taken = no_input_taken refuses a b h.1.0 h.0 h.1.1; tells = none_tells says refuses idle goes ends a b h.1.0 h.0 c d stop i h.1.1 h.2 })
