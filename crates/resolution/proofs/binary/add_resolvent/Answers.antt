use Rattle.std.proofs.Common.{◌≡◌, ℕ, [], ◌∷◌, ◌++◌, refl, sym, ap, ap₂, ◌∙◌, subst}
use Rattle.std.specs.Option.{option_map}
use Rattle.fol_core.specs.Literals.{ClauseTree}
use Rattle.derivation.specs.Lines.{clash_inference}
use Rattle.derivation.specs.Words.{clash_rule}
use Rattle.derivation.specs.declared.words.First.TheVariants.{Resolve}
use Rattle.inference.specs.Judged.{JudgedAs}
use Rattle.proof_words.specs.Written.{satellite, by_resolve}
use Rattle.prover_steps.specs.Concluded.{inferred}
use Rattle.resolution.specs.Meeting.{NeverClash}
use Rattle.resolution.specs.View.{clause_of, all_conclusions}
use Rattle.resolution.proofs.Failing.{no_resolvent}
use Rattle.resolution.proofs.Going.{nothing_added}
use Rattle.resolution.proofs.Judgements.{inferred_none, inferred_one}
use Rattle.resolution.proofs.binary.add_resolvent.Goals as goal

pub returns-then-not-may_clash : goal.returns-then-not-may_clash
returns-then-not-may_clash c =
    let g = c.args.given.now in
    let d = c.args.other.now in
    nothing_added (all_conclusions c.args.made.now.items) _
    (no_resolvent g.number g.clause c.args.i d.number d.clause c.args.j
    (subst (λ x. NeverClash x c.args.i d.clause c.args.j) c.clause.ensures (subst (λ y. NeverClash c.clause.result.now c.args.i y c.args.j) c.clause-2.ensures (c.may_clash.ensures c.if-not-may_clash.true))))

pub returns-in_default : goal.returns-in_default
returns-in_default c =
    let g = c.args.given.now in
    let d = c.args.other.now in
    let s = satellite c.args.i d.number c.args.j in
    let parents : c.clause-3.result.now ∷ c.clause-4.result.now ∷ [] ≡ g.clause ∷ d.clause ∷ [] = ap₂ (λ (x y : ClauseTree). x ∷ y ∷ []) c.clause-3.ensures c.clause-4.ensures in
    inferred_none (by_resolve g.number s) (clash_inference g.number (s ∷ [])) (g.clause ∷ d.clause ∷ []) refl c.in_ok-judged.judged (all_conclusions c.args.made.now.items)
    (subst (λ cs. JudgedAs (clash_rule ((c.args.i, c.args.j) ∷ [])) cs c.in_ok-judged.judged) parents c.in_ok-judged.ensures) (sym (ap (option_map clause_of) c.in_default.is) ∙ c.in_ok-clause.ensures)

pub returns : goal.returns
returns c =
    let g = c.args.given.now in
    let d = c.args.other.now in
    let s = satellite c.args.i c.number.result c.args.j in
    let parents : c.clause-3.result.now ∷ c.clause-4.result.now ∷ [] ≡ g.clause ∷ d.clause ∷ [] = ap₂ (λ (x y : ClauseTree). x ∷ y ∷ []) c.clause-3.ensures c.clause-4.ensures in
    inferred_one (Resolve c.number-2.result s) (clash_inference c.number-2.result (s ∷ [])) (g.clause ∷ d.clause ∷ []) refl c.in_ok-judged.judged c.in-Some.clause c.args.made.now.items c.push.new.self.items
    (subst (λ cs. JudgedAs (clash_rule ((c.args.i, c.args.j) ∷ [])) cs c.in_ok-judged.judged) parents c.in_ok-judged.ensures) (sym (ap (option_map clause_of) c.in-Some.is) ∙ c.in_ok-clause.ensures)
    c.in_ok-push.ensures.items
    ∙ ap₂ (λ (n m : ℕ). all_conclusions c.args.made.now.items ++ inferred (by_resolve n (satellite c.args.i m c.args.j)) (g.clause ∷ d.clause ∷ [])) c.number-2.ensures c.number.ensures
