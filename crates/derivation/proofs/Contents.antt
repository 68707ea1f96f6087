-- A line that is inferred has one content.
use Rattle.std.proofs.Common.{◌≡◌, List, [], ◌∷◌, sym, ◌∙◌, subst}
use Rattle.fol_core.specs.Literals.{ClauseTree}
use Rattle.fol_core.specs.Renumbered.{renumbered}
use Rattle.derivation.specs.Later.{LaterWord, later_parents, Leads}
use Rattle.derivation.specs.Lines.{Inference, clause, LineTree, After, IsInferred}
use Rattle.derivation.specs.Rule.{Concludes}
use Rattle.derivation.proofs.Conclusions.{IsNatural, one_conclusion, one_lead}
use Rattle.derivation.proofs.Lawful.{IsLawfulRule}
use Rattle.derivation.proofs.Rows.{clauses_once}

-- words lead from a clause to one content
after_one : (ls : List LineTree) (ws : List LaterWord) (d c e : ClauseTree) → After ls ws d (clause c) → After ls ws d (clause e) → renumbered c ≡ renumbered e
after_one ls [] d c e is was = is ∙ sym was
after_one ls (w ∷ ws) d c e (ps, b, are, fits, leads, after) (qs, a, were, fitted, led, onward) =
    let same = clauses_once ls (later_parents w) qs ps were are in
    let one : a ≡ b = one_lead w d ps a b fits (subst (λ ps. Leads w d ps a) same led) leads in
    after_one ls ws b c e after (subst (λ a. After ls ws a (clause e)) one onward)

-- and so does a rule with words behind it
pub inferred_one : (ls : List LineTree) (i : Inference) → IsLawfulRule i.rule → IsNatural i.rule → (ws : List LaterWord) (c e : ClauseTree)
    → IsInferred ls i ws (clause c) → IsInferred ls i ws (clause e) → renumbered c ≡ renumbered e
inferred_one ls i law natural ws c e (ps, d, are, fits, concludes, after) (qs, a, were, fitted, concluded, onward) =
    let same = clauses_once ls i.parents qs ps were are in
    let one : a ≡ d = one_conclusion i.rule law natural ps a d fits (subst (λ ps. Concludes i.rule ps a) same concluded) concludes in
    after_one ls ws d c e after (subst (λ a. After ls ws a (clause e)) one onward)
