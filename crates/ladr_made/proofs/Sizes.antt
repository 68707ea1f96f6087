-- The search at one size after the other.
use Rattle.std.proofs.Common.{◌≡◌, ℕ, ◌+◌, ◌≤◌, Ok, None, List, refl, subst, arith, below_more}
use Rattle.ladr_formulas.specs.declared.styles.Mode.TheVariants.{Mace}
use Rattle.ladr_intake.specs.Posed.{poses}
use Rattle.ladr_intake.specs.Refusals.{refuses}
use Rattle.ladr_io.specs.Memory.{SourceState, SinkState, inflow_of, outflow_of}
use Rattle.ladr_io.specs.Times.{Times}
use Rattle.ladr_made.proofs.Memory.{read_whole}
use Rattle.ladr_made.specs.Modelling.{one_of_size, first_size, modelled_at, AreExhaustedBefore, Seeks}
use Rattle.ladr_mace4.specs.Finding.{Searches}
use Rattle.ladr_mace4.specs.declared.ends.SearchEnd.{SearchEnd}
use Rattle.ladr_mace4.specs.declared.ends.SearchEnd.TheVariants.{MaxModels, Exhausted, AllModels, MaxMegs, MaxSeconds, GroundLimit, ClauseLimit}

-- what a search in memory has come to
pub seeks : (s s' : SourceState) (k k' : SinkState) (times : Times) (n : ℕ) (end : SearchEnd) → Searches (poses Mace) (refuses Mace) (one_of_size n) (inflow_of s) (inflow_of s') (outflow_of k) (outflow_of k') times (Ok end) → Seeks s.left n end
seeks s s' k k' times n end run =
    let x = run.tells.1.1 in
    record {
      posed = x.0;
      says = subst (λ (b : List ℕ). poses Mace b x.0) (read_whole s s' run.bytes run.tells.1.0) x.1;
      times = times;
      text = run.tells.0;
      sought = x.2;
    }

-- nothing is told of a size that is exhausted alone
pub goes_on : (n : ℕ) (end : SearchEnd) → modelled_at n end ≡ None → end ≡ Exhausted
goes_on n MaxModels e = cc
goes_on n Exhausted e = refl
goes_on n AllModels e = cc
goes_on n MaxMegs e = cc
goes_on n (MaxSeconds first last) e = cc
goes_on n (GroundLimit size) e = cc
goes_on n (ClauseLimit formula) e = cc

pub none_before : (bytes : List ℕ) → AreExhaustedBefore bytes 2
none_before bytes k low high = absurd (omega (arith, low, high))

pub one_more : (bytes : List ℕ) (n : ℕ) → AreExhaustedBefore bytes n → Seeks bytes n Exhausted → AreExhaustedBefore bytes (n + 1)
one_more bytes n before here k low high = below_more (λ (j : ℕ). first_size ≤ j → Seeks bytes j Exhausted) n (λ j below first. before j first below) (λ first. here) k high low
