use Rattle.std.proofs.Common.{subst, Bool}
use Rattle.fol_core.specs.TermView.{tree_of}
use Rattle.discrim_tree.specs.Seeking.{fits_above}
use Rattle.discrim_tree.specs.Sieves.{IsUnder}
use Rattle.discrim_tree.specs.Walks.{AreFitting}
use Rattle.discrim_tree.proofs.Fitted.{fitted}
use Rattle.discrim_tree.proofs.Ordered.{contains_in}
use Rattle.discrim_tree.proofs.sieve.Sieve.found.Goals as goal

pub returns-clause-found : goal.returns-clause-found
unfolding IsUnder
returns-clause-found c =
    let nodes = c.args.self.now.nodes.items in
    let t = tree_of c.args.t.now in
    let numbers = c.fitting.new.numbers.items in
    let so = subst (λ (b : Bool). AreFitting nodes b (fits_above c.args.sought.now) t numbers) c.fits_below-below.ensures (subst (λ (a : Bool). AreFitting nodes c.fits_below-below.result a t numbers) c.fits_above-above.ensures c.in_ok-fitting.ensures) in
    λ s n under passed.
    c.put_in_order.ensures.kept n (contains_in n numbers (so.all n (so.covers s n (fitted c.args.sought.now s t passed) under)))
