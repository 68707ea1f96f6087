-- What becomes of a run by how its task ends.
use Rattle.std.proofs.Common.{◌≡◌, ℕ, List, Option, Some, Result, Ok, Err, refl, sym, ap, subst}
use Rattle.std.specs.Prelude.{IsErrAnd}
use Rattle.ladr_intake.specs.declared.stops.Stop.{Stop}
use Rattle.ladr_io.specs.Streams.{Inflow, Outflow}
use Rattle.ladr_io.specs.Times.{Times}
use Rattle.ladr_top.specs.Causes.{cause_of}
use Rattle.ladr_top.specs.Ended.{RunsTask, cause_in}
use Rattle.ladr_top.specs.Runs.{ReadNothing}
use Rattle.ladr_top.specs.declared.cause.Cause.{Cause}
use Rattle.ladr_words.specs.Tasks.{HasRanges}
use Rattle.ladr_words.specs.declared.task.Task.{Task}
use Rattle.ladr_words.specs.declared.task.Task.TheVariants as task

-- a command came to no end of its own
pub stopped_in : (r : Result Cause Stop) (stop : Stop) → IsErrAnd r (λ s. s ≡ stop) → cause_in r ≡ cause_of stop
stopped_in (Ok cause) stop is = absurd is
stopped_in (Err s) stop is = ap cause_of is

-- the words have one task
module _ (o : Option Task) (k k' : Task) (has : o ≡ Some k) (is : o ≡ Some k') where
  same_task : k ≡ k'
  same_task = cc

  pub ran : (from from' : Inflow) (to to' : Outflow) (t : Times) (cause cause' : Cause) → cause' ≡ cause → RunsTask k from from' to to' t cause → RunsTask k' from from' to to' t cause'
  ran from from' to to' t cause cause' same h =
      subst (λ (x : Task). RunsTask x from from' to to' t cause') same_task (subst (λ (x : Cause). RunsTask k from from' to to' t x) (sym same) h)

  pub ranged : HasRanges k → HasRanges k'
  ranged h = subst HasRanges same_task h

-- one that reads nothing generates a problem
pub only_made : (k : Task) → ReadNothing (Some k) → (n : ℕ) × (k ≡ task.Made n)
only_made task.Check h = absurd h
only_made (task.Clausetester filter) h = absurd h
only_made (task.Mace4 words) h = absurd h
only_made (task.Made n) h = (n, refl)
only_made (task.Prover9 seconds) h = absurd h
