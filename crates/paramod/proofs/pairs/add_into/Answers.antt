use Rattle.std.proofs.Common.{◌≡◌, ℕ, List, true, false, [], ◌∷◌, ◌++◌, flat_map, Option, MatchOption, ap, sym, subst, ◌∙◌}
use Rattle.std.specs.Borrow.{Bor}
use Rattle.derivation.specs.Equations.{left_of}
use Rattle.fol_core.specs.TermView.{tree_of}
use Rattle.fol_core.specs.Tree.{Tree}
use Rattle.fol_core.specs.declared.term.Term.{Term}
use Rattle.held_clauses.specs.Order.{greater_of}
use Rattle.paramod.specs.Replacing.{site_of}
use Rattle.paramod.specs.Sites.{IsLargerSide, atom_into, paramodulant_at}
use Rattle.paramod.proofs.Paths.{into_oriented}
use Rattle.prover_steps.specs.Equalities.{paths_of, is_oriented}
use Rattle.resolution.specs.View.{all_conclusions}
use Rattle.paramod.proofs.pairs.add_into.Goals as goal

pub returns : goal.returns
returns c =
    let s = site_of c.args.site.now in
    let f = paramodulant_at s in
    let old = all_conclusions c.args.made.now.items in
    let greater = greater_of c.args.precedence.now in
    let path : c.push.new.self.items ≡ 1 ∷ [] = c.in_ok-push.ensures.items ∙ ap (λ (p : List ℕ). p ++ 1 ∷ []) c.new-path.ensures.items in
    let atom = tree_of c.args.atom.now in
    let larger : IsLargerSide greater atom (tree_of c.in-Some.larger.now) =
    subst (λ (o : Option (Bor Term)). MatchOption o (is_oriented greater atom ≡ false) (λ (t : Bor Term). IsLargerSide greater atom (tree_of t.now))) c.in-Some.is c.in_ok-larger.ensures in
    let oriented : is_oriented greater (atom_into s) ≡ true = ap (is_oriented greater) (sym c.requires.atom) ∙ larger.oriented in
    into_oriented greater f (atom_into s) old (all_conclusions c.add_from.new.made.items) oriented
    (c.in_ok-add_from.ensures.made ∙ ap (λ (p : List ℕ). old ++ flat_map (λ rest. f (p ++ rest)) (paths_of (tree_of c.in-Some.larger.now))) path
    ∙ ap (λ (t : Tree). old ++ flat_map (λ rest. f (1 ∷ rest)) (paths_of t)) (larger.left_is ∙ ap left_of c.requires.atom))
