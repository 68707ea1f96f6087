-- The links so far are kept where smaller ones are.
use Rattle.std.proofs.Common.{◌≤◌, ◌-◌, true, length, vec_capacity}
use Rattle.unify.specs.Spots.{spot_tree}
use Rattle.unify.specs.Steps.{TermsStay, WorkGoesOn, IsJoined, as_high}
use Rattle.unify.proofs.Classes.{IsSettled}
use Rattle.unify.proofs.Closing.{Done}
use Rattle.unify.proofs.uniting.unite.Given as goal

abbrev pub invariant-loop-done : goal.invariant-loop-done
invariant-loop-done l = record {
  joined : IsJoined l.bank l.fn.work l.work as_high (spot_tree l.bank l.fn.s) (spot_tree l.bank l.fn.t);
  goes : WorkGoesOn l.fn.work l.work;
  stays : TermsStay l.bank l.fn.work l.work l.fn.s l.fn.t true;
  settled : Done (IsSettled l.bank l.work) l.work.links.items l.done;
  within : l.done ≤ length l.work.links.items;
}

abbrev pub decreases-loop-done : goal.decreases-loop-done
decreases-loop-done l = vec_capacity l.work.links - l.done
