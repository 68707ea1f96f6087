use Rattle.std.proofs.Common.{◌≡◌, ◌*◌, ◌<◌, ℕ, List, true, Some, length, refl, sym, ap, subst, ◌∙◌, arith}
use Rattle.std.proofs.lemmas.List.{length-set, get_or_default}
use Rattle.cell_ranks.proofs.Placing.{place_within}
use Rattle.cell_ranks.proofs.Ranking.{put_leaf}
use Rattle.cell_ranks.specs.Layouts.{place_among}
use Rattle.cell_ranks.specs.Ranks.{Ranked}
use Rattle.cell_ranks.specs.Tournaments.{IsTournament, IsInserted}
use Rattle.cell_ranks.proofs.ranks.Ranks.open.Goals as goal

pub put-requires-clause-place : goal.put-requires-clause-place
put-requires-clause-place c =
    let a = c.self.inside in
    let within : c.args.cell < length a.indices.items = subst (λ (r : Ranked). c.args.cell < length r.indices) (sym c.self.view_is) c.requires in
    let read = c.index.ensures ∙ get_or_default a.places.items c.args.cell c.index.result.now 0 (omega (arith, within, c.self.invariant.layout.many)) ∙ c.self.invariant.layout.placed c.args.cell within in
    omega (arith, read, place_within a.indices.items c.args.cell within, c.len-many.ensures, a.indices.ok)

pub invariant_of-self : goal.invariant_of-self
invariant_of-self c =
    let a = c.self.inside in
    let h = c.self.invariant in
    let within : c.args.cell < length a.indices.items = subst (λ (r : Ranked). c.args.cell < length r.indices) (sym c.self.view_is) c.requires in
    let read : c.index.result.now ≡ place_among a.indices.items c.args.cell = c.index.ensures ∙ get_or_default a.places.items c.args.cell c.index.result.now 0 (omega (arith, within, h.layout.many)) ∙ h.layout.placed c.args.cell within in
    let many : c.len-many.result ≡ length a.indices.items = omega (arith, c.len-many.ensures, a.indices.ok) in
    let put = subst (λ (p : ℕ). IsInserted a.nodes.items c.put.new.nodes.items (length a.indices.items) p (Some c.args.cell)) read (subst (λ (n : ℕ). IsInserted a.nodes.items c.put.new.nodes.items n c.index.result.now (Some c.args.cell)) many c.put.ensures.put) in
    record {
      layout = h.layout;
      few = h.few;
      bytes = h.bytes;
      many = length-set a.free.items c.args.cell true ∙ h.many;
      nodes = c.put.ensures.length ∙ ap (λ (n : ℕ). 2 * n) many;
      won =
          subst (λ (ss : List ℕ). IsTournament ss c.put.new.nodes.items (length a.indices.items)) c.deref.ensures.value (subst (IsTournament c.deref.result.now c.put.new.nodes.items) many c.put.ensures.won);
      leaves = put_leaf a.indices.items a.free.items a.nodes.items c.put.new.nodes.items c.args.cell true (Some c.args.cell) h.many within refl h.leaves put;
    }
