use Rattle.std.proofs.Common.{◌≡◌, true, false, nat_lt, arith}
use Rattle.std.proofs.lemmas.Bool.Decides.{nat_tests}
use Rattle.resolution.specs.Tries.{factor_at}
use Rattle.resolution.specs.View.{all_conclusions}
use Rattle.resolution.proofs.Going.{tried_none, tried_some}
use Rattle.resolution.proofs.factoring.try_factor.Goals as goal

pub returns-then-a-b : goal.returns-then-a-b
returns-then-a-b c =
    let behind : nat_lt c.args.a c.args.b ≡ false = grind (arith, nat_tests) in
    tried_none (nat_lt c.args.a c.args.b) (all_conclusions c.args.made.now.items) (factor_at c.args.given.now c.args.a c.args.b) behind

pub returns : goal.returns
returns c =
    let before : nat_lt c.args.a c.args.b ≡ true = grind (arith, nat_tests) in
    tried_some (nat_lt c.args.a c.args.b) (all_conclusions c.args.made.now.items) (factor_at c.args.given.now c.args.a c.args.b) _ before c.in_ok-add_factor.ensures
