-- What is put in for the term that is there.
use Rattle.std.proofs.Common.{◌≡◌, ◌∙◌, Some, ap, sym}
use Rattle.std.specs.Option.{option_map}
use Rattle.derivation.specs.Equations.{below}
use Rattle.derivation.specs.Places.{atom_at}
use Rattle.fol_core.specs.TermView.{tree_of}
use Rattle.inference.proofs.plain.ClauseUnderway.rewrite_at.Goals as goal

pub returns : goal.returns
returns c =
    let path = c.args.path.now in
    let at : below (atom_at c.args.self.now c.args.place) path ≡ Some (tree_of c.in-Some.term.now) =
    ap (λ t. below t path) (sym c.atom.ensures) ∙ sym c.below.ensures ∙ ap (option_map (λ t. tree_of t.now)) c.in-Some.is in
    c.put_made.ensures (tree_of c.args.left.now) (tree_of c.args.right.now) (tree_of c.in-Some.term.now) at c.in_ok-made.ensures
