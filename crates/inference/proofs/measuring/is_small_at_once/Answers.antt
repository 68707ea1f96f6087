-- Few symbols stay few.
use Rattle.std.proofs.Common.{map}
use Rattle.std.proofs.lemmas.Bool.{leb-true}
use Rattle.substitutions.specs.Bindings.{by_bindings}
use Rattle.inference.specs.Left.{left_tree}
use Rattle.inference.proofs.Few.{stay_few}
use Rattle.inference.proofs.measuring.is_small_at_once.Goals as goal

pub returns-in-Some : goal.returns-in-Some
returns-in-Some c = λ small many.
    stay_few (by_bindings c.args.unifier.now) (map left_tree c.args.left.now) c.in-Some.few c.most_symbols.result c.saturating_mul.result c.in-Some.ensures c.saturating_mul.ensures (leb-true c.saturating_mul.result 1000 small) c.most_symbols.ensures.one c.most_symbols.ensures.all many
