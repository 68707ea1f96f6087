-- The clauses with which a search begins stand in order.
use Rattle.std.proofs.Common.{◌≡◌, ℕ, suc, ◌<◌, ◌≤◌, ◌+◌, length, List, [], ◌∷◌, ◌++◌, arith}
use Rattle.std.specs.List.{AllByRecursion}
use Rattle.fol_problem.specs.Stated.{Said}
use Rattle.fol_problem.specs.declared.problem.Role.{Role}
use Rattle.fol_problem.specs.declared.problem.Role.TheVariants.{Assumption, Usable, Demodulator, Goal}
use Rattle.derivation.specs.Lines.{InputRow}
use Rattle.prover_steps.specs.HeldOrder.{numbers_of, input_numbers, ShareNone, RiseBelow, IsInOrder}
use Rattle.prover_steps.specs.Starting.{role_of, queued_input, queued_inputs, held_rule, rules_of, start_state}
use Rattle.prover_steps.proofs.Lists.{all_so}
use Rattle.prover_steps.proofs.Rising.{above_none}

-- numbers of rules, and of input clauses in the queue, from one on and below another
record AreSplit (from next : ℕ) (rules inputs : List ℕ) : Type 0 where
  rules_rise : RiseBelow next rules
  inputs_rise : RiseBelow next inputs
  rules_from : AllByRecursion (λ n. from ≤ n) rules
  inputs_from : AllByRecursion (λ n. from ≤ n) inputs
  apart : ShareNone inputs rules

from_less : (from : ℕ) (ns : List ℕ) → AllByRecursion (λ n. suc from ≤ n) ns → AllByRecursion (λ n. from ≤ n) ns
from_less from ns all = all_so (λ n. suc from ≤ n) (λ n. from ≤ n) (λ n more. omega (arith, more)) ns all

from_above : (from : ℕ) (ns : List ℕ) → AllByRecursion (λ n. suc from ≤ n) ns → AllByRecursion (λ n. from < n) ns
from_above from ns all = all_so (λ n. suc from ≤ n) (λ n. from < n) (λ n more. omega (arith, more)) ns all

first_below : (from next : ℕ) (ns : List ℕ) → from < next → AllByRecursion (λ n. suc from ≤ n) ns → RiseBelow next ns → RiseBelow next (from ∷ ns)
first_below from next ns below all b = record { rising = (from_above from ns all, b.rising); below = (below, b.below) }

module _ (from next : ℕ) (rules inputs : List ℕ) (below : from < next) (s : AreSplit (suc from) next rules inputs) where
  input_first : AreSplit from next rules (from ∷ inputs)
  input_first = record {
    rules_rise = s.rules_rise;
    inputs_rise = first_below from next inputs below s.inputs_from s.inputs_rise;
    rules_from = from_less from rules s.rules_from;
    inputs_from = (omega arith, from_less from inputs s.inputs_from);
    apart = (above_none from rules (from_above from rules s.rules_from), s.apart);
  }

  rule_first : AreSplit from next (from ∷ rules) inputs
  rule_first = record {
    rules_rise = first_below from next rules below s.rules_from s.rules_rise;
    inputs_rise = s.inputs_rise;
    rules_from = (omega arith, from_less from rules s.rules_from);
    inputs_from = from_less from inputs s.inputs_from;
    apart = apart inputs s.inputs_from s.apart;
  }
    where
      apart : (ns : List ℕ) → AllByRecursion (λ n. suc from ≤ n) ns → ShareNone ns rules → ShareNone ns (from ∷ rules)
      apart [] all share = tt
      apart (n ∷ ns) all share = let more = all.0 in (((λ same. omega (arith, more, same)), share.0), apart ns all.1 share.1)

module _ (ss : List Said) where
  split : (from next : ℕ) (rows : List InputRow) → next ≡ length rows + from → AreSplit from next (numbers_of (rules_of ss from rows)) (input_numbers (queued_inputs ss from rows))
  split from next [] e = record { rules_rise = record { rising = tt; below = tt }; inputs_rise = record { rising = tt; below = tt }; rules_from = tt; inputs_from = tt; apart = tt }
  split from next (r ∷ rows) e = by (split (suc from) next rows (omega (arith, e))) (role_of ss r)
    where
      below : from < next
      below = omega (arith, e)

      by : AreSplit (suc from) next (numbers_of (rules_of ss (suc from) rows)) (input_numbers (queued_inputs ss (suc from) rows))
          → (role : Role) → AreSplit from next (numbers_of (held_rule role from r ++ rules_of ss (suc from) rows)) (input_numbers (queued_input role from r ++ queued_inputs ss (suc from) rows))
      by rest Assumption = input_first from next (numbers_of (rules_of ss (suc from) rows)) (input_numbers (queued_inputs ss (suc from) rows)) below rest
      by rest Usable = input_first from next (numbers_of (rules_of ss (suc from) rows)) (input_numbers (queued_inputs ss (suc from) rows)) below rest
      by rest Demodulator = rule_first from next (numbers_of (rules_of ss (suc from) rows)) (input_numbers (queued_inputs ss (suc from) rows)) below rest
      by rest Goal = input_first from next (numbers_of (rules_of ss (suc from) rows)) (input_numbers (queued_inputs ss (suc from) rows)) below rest

none_shared : (ns : List ℕ) → ShareNone ns []
none_shared [] = tt
none_shared (n ∷ ns) = (tt, none_shared ns)

pub starts_in_order : (ss : List Said) (rows : List InputRow) → IsInOrder (start_state ss rows)
starts_in_order ss rows =
    let s = split ss (suc (length ss)) (suc (length ss + length rows)) rows (omega arith) in
    record {
      waiting_rise = record { rising = tt; below = tt };
      usable_rise = record { rising = tt; below = tt };
      rules_rise = s.rules_rise;
      inputs_rise = s.inputs_rise;
      held_once = tt;
      inputs_waiting = none_shared (input_numbers (queued_inputs ss (suc (length ss)) rows));
      inputs_usable = none_shared (input_numbers (queued_inputs ss (suc (length ss)) rows));
      inputs_rules = s.apart;
    }
