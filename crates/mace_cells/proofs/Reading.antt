-- A clock that is read on.
use Rattle.std.proofs.Common.{◌≡◌, ℕ, ◌+◌, Option, None, Some, refl, ap, ◌∙◌, arith}
use Rattle.ladr_io.specs.Times.{Times, later}
use Rattle.mace_cells.specs.Readings.{ReadsOn}
use Rattle.mace_search.proofs.Watching.{first_stays}
use Rattle.ladr_io.specs.Watch.{IsEarly}

pub reads_once : (stop : Option ℕ) (t t' : Times) (s now : ℕ) → stop ≡ Some s → IsEarly stop t → t' ≡ later t now → ReadsOn stop 1 t t'
reads_once None t t' s now e early l = absurd cc
reads_once (Some r) t t' s now e early l =
    let count : t'.count ≡ (later t now).count = ap (λ (x : Times). x.count) l in
    (ap (λ (x : Times). x.first) l ∙ first_stays t now early.0, omega (arith, count))

-- as many of both as of the whole
pub reads_both : (stop : Option ℕ) (more further all : ℕ) (t u v : Times) → all ≡ more + further → ReadsOn stop more t u → ReadsOn stop further u v → ReadsOn stop all t v
reads_both None more further all t u v e h k = k ∙ h
reads_both (Some s) more further all t u v e h k = (k.0 ∙ h.0, omega (arith, e, h.1, k.1))

pub reads_none : (stop : Option ℕ) (t : Times) → ReadsOn stop 0 t t
reads_none None t = refl
reads_none (Some s) t = (refl, omega arith)
