use Rattle.std.proofs.Common.{ℕ, [], ◌∷◌, ◌++◌, refl, sym, ap, ◌∙◌, subst}
use Rattle.std.specs.Option.{option_map}
use Rattle.fol_core.specs.Literals.{ClauseTree}
use Rattle.derivation.specs.Lines.{xx_inference}
use Rattle.derivation.specs.Words.{xx_rule}
use Rattle.derivation.specs.declared.words.First.TheVariants.{XxRes}
use Rattle.inference.specs.Judged.{JudgedAs}
use Rattle.paramod.specs.Sites.{NeverReflects}
use Rattle.paramod.proofs.Missing.{none_reflexive}
use Rattle.proof_words.specs.Written.{by_xx_res}
use Rattle.prover_steps.specs.Concluded.{inferred}
use Rattle.resolution.specs.View.{clause_of, all_conclusions}
use Rattle.resolution.proofs.Going.{nothing_added}
use Rattle.resolution.proofs.Judgements.{inferred_none, inferred_one}
use Rattle.paramod.proofs.reflexivity.add_at.Goals as goal

pub returns-then-not-may_reflect : goal.returns-then-not-may_reflect
returns-then-not-may_reflect c =
    let g = c.args.given.now in
    nothing_added (all_conclusions c.args.made.now.items) _
    (none_reflexive g.number g.clause c.args.a (subst (λ d. NeverReflects d c.args.a) c.clause.ensures (c.may_reflect.ensures c.if-not-may_reflect.true)))

pub returns-in_default : goal.returns-in_default
returns-in_default c =
    let g = c.args.given.now in
    inferred_none (by_xx_res g.number c.args.a) (xx_inference g.number c.args.a) (g.clause ∷ []) refl c.in_ok-judged.judged (all_conclusions c.args.made.now.items)
    (subst (λ (d : ClauseTree). JudgedAs (xx_rule c.args.a) (d ∷ []) c.in_ok-judged.judged) c.clause-2.ensures c.in_ok-judged.ensures)
    (sym (ap (option_map clause_of) c.in_default.is) ∙ c.in_ok-clause.ensures)

pub returns : goal.returns
returns c =
    let g = c.args.given.now in
    inferred_one (XxRes c.number.result c.args.a) (xx_inference c.number.result c.args.a) (g.clause ∷ []) refl c.in_ok-judged.judged c.in-Some.clause c.args.made.now.items c.push.new.self.items
    (subst (λ (d : ClauseTree). JudgedAs (xx_rule c.args.a) (d ∷ []) c.in_ok-judged.judged) c.clause-2.ensures c.in_ok-judged.ensures)
    (sym (ap (option_map clause_of) c.in-Some.is) ∙ c.in_ok-clause.ensures) c.in_ok-push.ensures.items
    ∙ ap (λ (n : ℕ). all_conclusions c.args.made.now.items ++ inferred (by_xx_res n c.args.a) (g.clause ∷ [])) c.number.ensures
