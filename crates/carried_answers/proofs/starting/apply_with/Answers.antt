-- The rule fits, and what it takes unifies.
use Rattle.std.proofs.Common.{sym, ◌∙◌}
use Rattle.std.specs.Borrow.{Bor}
use Rattle.std.proofs.lemmas.List.{length-map}
use Rattle.carried_answers.proofs.BeginSteps.{begun_ends, first_made}
use Rattle.carried_answers.proofs.starting.apply_with.Goals as goal
use Rattle.derivation.specs.View.{first_word_of}
use Rattle.fol_core.specs.Literals.{ClauseTree}
use Rattle.inference.specs.Left.{all_left}
use Rattle.inference.specs.Lent.{lent_clauses}
use Rattle.substitutions.specs.Bindings.{by_bindings}
use Rattle.term_unifiers.specs.Renamed.{own_among}

pub returns : goal.returns
returns c = λ lists long is.
    let are = rw c.in-To.is at c.in_ok-apply_rule.ensures in
    let b = c.in_ok-begun-in-To.ensures lists (c.as_slice.ensures.value ∙ is) in (
      begun_ends (own_among c.in-To.premises.many (by_bindings c.in-To.premises.unifier)) (all_left c.in-To.premises.left.items) lists c.in_ok-begun-in-To.begun.0 c.in_ok-begun-in-To.begun.1 b,
      first_made (first_word_of c.args.first.now) (lent_clauses c.args.parents.now) lists (long ∙ sym (length-map c.args.parents.now (λ (p : Bor ClauseTree). p.now))) c.in-To.premises c.in_ok-begun-in-To.begun.0 c.in_ok-begun-in-To.begun.1 are b,
    )
