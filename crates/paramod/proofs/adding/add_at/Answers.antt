use Rattle.std.proofs.Common.{◌≡◌, [], ◌∷◌, ◌++◌, refl, sym, ap, ap₂, ◌∙◌, subst}
use Rattle.std.specs.Option.{option_map}
use Rattle.fol_core.specs.Literals.{ClauseTree}
use Rattle.fol_core.specs.TermView.{tree_of}
use Rattle.derivation.specs.Equations.{below}
use Rattle.derivation.specs.Lines.{inference_of, para_inference}
use Rattle.derivation.specs.Places.{atom_at}
use Rattle.derivation.specs.Words.{side_of, para_rule}
use Rattle.inference.specs.Judged.{JudgedAs}
use Rattle.paramod.specs.Replacing.{site_of}
use Rattle.paramod.specs.Sites.{atom_into, word_at, NeverReplaced}
use Rattle.proof_words.specs.Written.{WrittenFirst, meant}
use Rattle.prover_steps.specs.Concluded.{inferred}
use Rattle.paramod.proofs.Missing.{none_replaced}
use Rattle.paramod.proofs.Paths.{below_is}
use Rattle.resolution.specs.View.{clause_of, all_conclusions}
use Rattle.resolution.proofs.Going.{nothing_added}
use Rattle.resolution.proofs.Judgements.{inferred_none, inferred_one}
use Rattle.paramod.proofs.adding.add_at.Goals as goal

pub returns-then-not-may_be_replaced : goal.returns-then-not-may_be_replaced
returns-then-not-may_be_replaced c =
    let s = site_of c.args.site.now in
    let t = tree_of c.args.term.now in
    nothing_added (all_conclusions c.args.made.now.items) _
    (none_replaced s c.args.path.now t (below_is (atom_into s) c.args.path.now c.requires.below ∙ c.requires.there)
    (subst (λ side. NeverReplaced side t) c.requires.side (c.may_be_replaced.ensures c.if-not-may_be_replaced.true)))

pub paramodulate-requires-clause-side : goal.paramodulate-requires-clause-side
paramodulate-requires-clause-side c =
    let s = site_of c.args.site.now in
    c.requires.side ∙ ap (λ (d : ClauseTree). side_of s.side (atom_at d s.equation)) (sym c.clause.ensures)

pub paramodulate-requires-clause-there : goal.paramodulate-requires-clause-there
paramodulate-requires-clause-there c =
    let s = site_of c.args.site.now in
    ap (λ (d : ClauseTree). below (atom_at d s.literal) c.args.path.now) c.clause-2.ensures ∙ below_is (atom_into s) c.args.path.now c.requires.below ∙ c.requires.there

pub returns-in_default : goal.returns-in_default
returns-in_default c =
    let s = site_of c.args.site.now in
    let path = c.args.path.now in
    let j = c.in_ok-judged.judged in
    let parents : c.clause.result.now ∷ c.clause-2.result.now ∷ [] ≡ s.from.clause ∷ s.into.clause ∷ [] = ap₂ (λ (x y : ClauseTree). x ∷ y ∷ []) c.clause.ensures c.clause-2.ensures in
    inferred_none (word_at s path) (para_inference s.from.number s.equation s.side s.into.number s.literal path) (s.from.clause ∷ s.into.clause ∷ []) refl j (all_conclusions c.args.made.now.items)
    (subst (λ cs. JudgedAs (para_rule s.equation s.side s.literal path) cs j) parents c.in_ok-judged.ensures) (sym (ap (option_map clause_of) c.in_default.is) ∙ c.in_ok-clause.ensures)

pub returns : goal.returns
returns c =
    let s = site_of c.args.site.now in
    let path = c.args.path.now in
    let j = c.in_ok-judged.judged in
    let parents : c.clause.result.now ∷ c.clause-2.result.now ∷ [] ≡ s.from.clause ∷ s.into.clause ∷ [] = ap₂ (λ (x y : ClauseTree). x ∷ y ∷ []) c.clause.ensures c.clause-2.ensures in
    let word = c.in_ok-first.ensures in
    inferred_one c.in_ok-first.first (para_inference s.from.number s.equation s.side s.into.number s.literal path) (s.from.clause ∷ s.into.clause ∷ []) (ap (λ (w : WrittenFirst). inference_of (meant w)) word) j
    c.in-Some.clause c.args.made.now.items c.push.new.self.items (subst (λ cs. JudgedAs (para_rule s.equation s.side s.literal path) cs j) parents c.in_ok-judged.ensures)
    (sym (ap (option_map clause_of) c.in-Some.is) ∙ c.in_ok-clause.ensures) c.in_ok-push.ensures.items
    ∙ ap (λ (w : WrittenFirst). all_conclusions c.args.made.now.items ++ inferred w (s.from.clause ∷ s.into.clause ∷ [])) word
