-- The summary, and the run that prints it.
use Rattle.std.proofs.Common.{◌≡◌, List, [], ℕ, Result, Ok, Err, IfOk, refl, sym, subst}
use Rattle.std.specs.Prelude.{OnErr}
use Rattle.std.specs.Global.{Vec}
use Rattle.std.specs.declared.alloc.AllocError.{AllocError}
use Rattle.ladr_io.specs.Streams.{Outflow}
use Rattle.ladr_made.specs.Chain.{assumptions_text, made_text}
use Rattle.ladr_made.specs.Making.{IsSummary, Makes}
use Rattle.ladr_made.specs.Modelling.{IsModelled}
use Rattle.ladr_made.specs.Proving.{IsProved}
use Rattle.ladr_made.specs.Summary.{summary_text}
use Rattle.ladr_made.specs.declared.parts.Modelled.{Modelled}
use Rattle.ladr_made.specs.declared.parts.Proved.{Proved}
use Rattle.ladr_output.proofs.Tellings.{ended_by}
use Rattle.ladr_output.specs.Telling.{Tells, IsEnd}
use Rattle.ladr_output.specs.declared.cut.Cut.{Cut}
use Rattle.ladr_output.specs.declared.cut.Cut.TheVariants.{Memory}

pub summary_so : (n : ℕ) (p : Proved) (m : Modelled) → IsProved (made_text n) p → IsModelled (assumptions_text n) m → (r : Result (Vec ℕ) AllocError) → IfOk r (λ v. v.items ≡ summary_text n p m) → IfOk r (λ v. IsSummary n v.items)
summary_so n p m proved modelled (Ok v) h = record { proved = p; is_proved = proved; modelled = m; is_modelled = modelled; text_is = h }
summary_so n p m proved modelled (Err e) h = tt

lacking_so : (n : ℕ) (a b : Outflow) → Tells {E = Unit {0}} (λ u. u ≡ []) (IsEnd tt []) a b (Err Memory) → Makes n a b (Err Memory)
lacking_so n a b h = h

pub made_told : (n : ℕ) (a b : Outflow) (text : Result (Vec ℕ) AllocError) (r : Result (Unit {0}) Cut) → IfOk text (λ v. IsSummary n v.items) → ((t : List ℕ) → IfOk text (λ v. v.items ≡ t) → Tells (λ u. u ≡ []) (IsEnd tt t) a b r) → OnErr text (r ≡ Err Memory) → Makes n a b r
made_told n a b (Ok v) r h printed lacking = ended_by (λ u. u ≡ []) (λ _ u. IsSummary n u) tt v.items a b r refl h (printed v.items refl)
made_told n a b (Err e) r h printed lacking =
    subst (λ (x : Result (Unit {0}) Cut). Makes n a b x) (sym lacking) (lacking_so n a b (subst (λ (x : Result (Unit {0}) Cut). Tells {E = Unit {0}} (λ u. u ≡ []) (IsEnd tt []) a b x) lacking (printed [] tt)))
