-- What the bytes say is what the code has read.
use Rattle.std.proofs.Common.{◌≡◌, ℕ, List, Result, inl, map, ap, ap₂, sym, subst, ◌∙◌}
use Rattle.std.specs.Prelude.{IfErr, IsErrAnd}
use Rattle.fol_problem.specs.Stated.{Stated, said, stated, stated_of, all_said}
use Rattle.ladr_intake.proofs.Commands.{none_taken, read_taken}
use Rattle.ladr_intake.specs.Input.{IsAllRead}
use Rattle.ladr_intake.specs.Posed.{Posed, poses, interprets, posed_by, interpreted_by}
use Rattle.ladr_intake.specs.Refusals.{IsNoInput, IsNoneTaken, IsToldBy, refuses, stop_of_error}
use Rattle.ladr_intake.specs.declared.stops.Refused.{Refused}
use Rattle.ladr_intake.specs.declared.stops.Refused.TheVariants.{Unreadable, Misuse, TooLarge}
use Rattle.ladr_intake.specs.declared.stops.Stop.{Stop}
use Rattle.ladr_io.specs.Streams.{Inflow, Outflow}
use Rattle.ladr_problem.proofs.Good.{said_same}
use Rattle.ladr_options.specs.declared.options.Options.{Options}
use Rattle.ladr_problem.specs.File.{Outcome, Says, problem, unreadable, misused, too_large}
use Rattle.ladr_problem.specs.Places.{IsReadError}
use Rattle.ladr_problem.specs.Proper.{IsProper}
use Rattle.ladr_problem.specs.Sofar.{Sofar, said_in, stated_in}
use Rattle.ladr_problem.specs.Whole.{IsOf}
use Rattle.ladr_problem.specs.declared.read.FileRead.{FileRead}
use Rattle.ladr_problem.specs.declared.refusal.ReadError.{ReadError}
use Rattle.ladr_problem.specs.declared.refusal.ReadError.TheVariants as errors
use Rattle.ladr_formulas.specs.declared.styles.Mode.{Mode}
use Rattle.ladr_formulas.specs.declared.styles.Mode.TheVariants.{Tester}

same_said : (s : Sofar) (r : FileRead) → IsOf s r → all_said r.problem.inputs.items ≡ said_in s
same_said s r of = sym (said_same r.problem.inputs.items) ∙ ap (map (λ f. said f.0 f.1.formula)) of.formulas

pub same_stated : (s : Sofar) (r : FileRead) → IsOf s r → stated_in s ≡ stated_of r.problem
same_stated s r of = sym (λ i. stated (of.symbols i) (same_said s r of i))

pub poses_read : (m : Mode) (bytes : List ℕ) (r : FileRead) → (s : Sofar) × Says m bytes (problem s) × IsOf s r → poses m bytes (posed_by r)
poses_read m bytes r h = (h.0, h.1, same_stated h.0 r h.2, sym h.2.options)

pub interprets_read : (bytes : List ℕ) (r : FileRead) → (s : Sofar) × Says Tester bytes (problem s) × IsOf s r → interprets bytes (interpreted_by r)
interprets_read bytes r h = (h.0, h.1, same_stated h.0 r h.2, sym h.2.interpretations)

-- bytes that were read whole are refused to a program for what they say, or memory was lacking
error_stops : (m : Mode) (a b : Inflow) (bytes : List ℕ) (e : ReadError) → IsAllRead a b bytes → IsReadError m bytes e → IsNoInput (refuses m) a b bytes (stop_of_error e)
error_stops m a b bytes (errors.Unreadable place) read h = inl (read, h)
error_stops m a b bytes (errors.Misuse place why) read h = inl (read, h)
error_stops m a b bytes (errors.TooLarge byte what) read h = inl (read, h)
error_stops m a b bytes errors.Memory read h = read_taken a b bytes read

pub problem_refused : {T : Type 0} (m : Mode) (a b : Inflow) (bytes shown : List ℕ) (c c' d : Outflow) (read : Result T ReadError) (stop : Stop)
    → IsAllRead a b bytes → shown ≡ bytes → IfErr read (IsReadError m shown) → c' ≡ c → IsErrAnd read (λ e. IsToldBy (stop_of_error e) c' d stop) → IsNoneTaken (refuses m) a b c d stop
problem_refused m a b bytes shown c c' d read stop all is error same told =
    none_taken (refuses m) a b bytes c c' d read stop (IsReadError m shown) (λ e h. error_stops m a b bytes e all (subst (λ (bs : List ℕ). IsReadError m bs e) is h)) error same told

-- what is posed, by the laws of what bytes say
pub posed_proper : ((m : Mode) (bytes : List ℕ) (s : Sofar) → Says m bytes (problem s) → IsProper (stated_in s) s.settings.options)
    → (m : Mode) (bytes : List ℕ) (x : Posed) → poses m bytes x → IsProper x.stated x.options
posed_proper law m bytes x h = subst (IsProper x.stated) h.3 (subst (λ (p : Stated). IsProper p h.0.settings.options) h.2 (law m bytes h.0 h.1))

same_problem : (s t : Sofar) → problem s ≡ problem t → s ≡ t
same_problem s t e = cc

pub posed_once : ((m : Mode) (bytes : List ℕ) (o p : Outcome) → Says m bytes o → Says m bytes p → o ≡ p) → (m : Mode) (bytes : List ℕ) (x y : Posed) → poses m bytes x → poses m bytes y → x ≡ y
posed_once law m bytes x y h k =
    let same : h.0 ≡ k.0 = same_problem h.0 k.0 (law m bytes (problem h.0) (problem k.0) h.1 k.1) in
    ap₂ (λ (p : Stated) (o : Options). record { stated = p; options = o }) (sym h.2 ∙ ap stated_in same ∙ k.2) (sym h.3 ∙ ap (λ (s : Sofar). s.settings.options) same ∙ k.3)

pub posed_unrefused : ((m : Mode) (bytes : List ℕ) (o p : Outcome) → Says m bytes o → Says m bytes p → o ≡ p) → (m : Mode) (bytes : List ℕ) (x : Posed) (why : Refused) → poses m bytes x → refuses m bytes why → ⊥
posed_unrefused law m bytes x (Unreadable place) h k = let e : problem h.0 ≡ unreadable place.byte = law m bytes (problem h.0) (unreadable place.byte) h.1 k.0 in absurd cc
posed_unrefused law m bytes x (Misuse place why) h k = let e : problem h.0 ≡ misused place.byte why = law m bytes (problem h.0) (misused place.byte why) h.1 k.0 in absurd cc
posed_unrefused law m bytes x (TooLarge byte what) h k = let e : problem h.0 ≡ too_large byte what = law m bytes (problem h.0) (too_large byte what) h.1 k in absurd cc
