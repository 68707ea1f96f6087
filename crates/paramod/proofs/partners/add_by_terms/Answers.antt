use Rattle.std.proofs.Common.{◌≡◌, Bool, false, if◌then◌else◌, flat_map, Option, MatchOption, sym, subst}
use Rattle.std.specs.Borrow.{Bor}
use Rattle.fol_core.specs.TermView.{tree_of}
use Rattle.fol_core.specs.Tree.{Tree}
use Rattle.fol_core.specs.declared.term.Term.{Term}
use Rattle.clause_index.specs.Numbered.{AddsAll}
use Rattle.derivation.specs.Equations.{left_of}
use Rattle.held_clauses.specs.Order.{greater_of}
use Rattle.paramod.specs.Partners.{terms_in, terms_below, replacing}
use Rattle.paramod.specs.Sites.{IsLargerSide}
use Rattle.prover_steps.specs.Equalities.{is_oriented}
use Rattle.paramod.proofs.partners.add_by_terms.Goals as goal

pub returns-in_default : goal.returns-in_default
returns-in_default c =
    let hs = c.args.held.now in
    let atom = tree_of c.args.literal.now.atom in
    let greater = greater_of c.args.precedence.now in
    subst (λ (b : Bool). AddsAll c.args.numbers.now.items (flat_map (replacing hs) (if b then terms_in (left_of atom) else terms_below atom)) c.add_below.new.numbers.items)
    (sym (subst (λ (o : Option (Bor Term)). MatchOption o (is_oriented greater atom ≡ false) (λ (t : Bor Term). IsLargerSide greater atom (tree_of t.now))) c.in_default.is c.in_ok-larger.ensures)) c.in_ok-add_below.ensures

pub returns : goal.returns
returns c =
    let hs = c.args.held.now in
    let atom = tree_of c.args.literal.now.atom in
    let greater = greater_of c.args.precedence.now in
    let old = c.args.numbers.now.items in
    let new = c.add_inside.new.numbers.items in
    let larger : IsLargerSide greater atom (tree_of c.in-Some.larger.now) =
    subst (λ (o : Option (Bor Term)). MatchOption o (is_oriented greater atom ≡ false) (λ (t : Bor Term). IsLargerSide greater atom (tree_of t.now))) c.in-Some.is c.in_ok-larger.ensures in
    subst (λ (b : Bool). AddsAll old (flat_map (replacing hs) (if b then terms_in (left_of atom) else terms_below atom)) new)
    (sym larger.oriented)
    (subst (λ (t : Tree). AddsAll old (flat_map (replacing hs) (terms_in t)) new) larger.left_is c.in_ok-add_inside.ensures)
