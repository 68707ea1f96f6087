use Rattle.std.proofs.Common.{ℕ, [], ◌∷◌, ◌++◌, refl, sym, ap, ◌∙◌, subst}
use Rattle.std.specs.Option.{option_map}
use Rattle.fol_core.specs.Literals.{ClauseTree}
use Rattle.derivation.specs.Lines.{factor_inference}
use Rattle.derivation.specs.Words.{factor_rule}
use Rattle.derivation.specs.declared.words.First.TheVariants.{Factor}
use Rattle.inference.specs.Judged.{JudgedAs}
use Rattle.proof_words.specs.Written.{by_factor}
use Rattle.prover_steps.specs.Concluded.{inferred}
use Rattle.resolution.specs.Meeting.{NeverMerge}
use Rattle.resolution.specs.View.{clause_of, all_conclusions}
use Rattle.resolution.proofs.Failing.{no_factor}
use Rattle.resolution.proofs.Going.{nothing_added}
use Rattle.resolution.proofs.Judgements.{inferred_none, inferred_one}
use Rattle.resolution.proofs.factoring.add_factor.Goals as goal

pub returns-then-not-may_merge : goal.returns-then-not-may_merge
returns-then-not-may_merge c =
    let g = c.args.given.now in
    nothing_added (all_conclusions c.args.made.now.items) _
    (no_factor g.number g.clause c.args.a c.args.b (subst (λ x. NeverMerge x c.args.a c.args.b) c.clause.ensures (c.may_merge.ensures c.if-not-may_merge.true)))

pub returns-in_default : goal.returns-in_default
returns-in_default c =
    let g = c.args.given.now in
    inferred_none (by_factor g.number c.args.a c.args.b) (factor_inference g.number c.args.a c.args.b) (g.clause ∷ []) refl c.in_ok-judged.judged (all_conclusions c.args.made.now.items)
    (subst (λ (d : ClauseTree). JudgedAs (factor_rule c.args.a c.args.b) (d ∷ []) c.in_ok-judged.judged) c.clause-2.ensures c.in_ok-judged.ensures)
    (sym (ap (option_map clause_of) c.in_default.is) ∙ c.in_ok-clause.ensures)

pub returns : goal.returns
returns c =
    let g = c.args.given.now in
    inferred_one (Factor c.number.result c.args.a c.args.b) (factor_inference c.number.result c.args.a c.args.b) (g.clause ∷ []) refl c.in_ok-judged.judged c.in-Some.clause c.args.made.now.items c.push.new.self.items
    (subst (λ (d : ClauseTree). JudgedAs (factor_rule c.args.a c.args.b) (d ∷ []) c.in_ok-judged.judged) c.clause-2.ensures c.in_ok-judged.ensures)
    (sym (ap (option_map clause_of) c.in-Some.is) ∙ c.in_ok-clause.ensures) c.in_ok-push.ensures.items
    ∙ ap (λ (n : ℕ). all_conclusions c.args.made.now.items ++ inferred (by_factor n c.args.a c.args.b) (g.clause ∷ [])) c.number.ensures
