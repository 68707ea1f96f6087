use Rattle.std.proofs.Common.{◌≡◌, ◌<◌, ◌≤◌, ◌*◌, ℕ, Bool, List, Option, None, false, length, replicate, get_or, sym, ap, subst, ◌∙◌, arith}
use Rattle.std.proofs.lemmas.List.{length-replicate}
use Rattle.cell_ranks.proofs.Ranking.{won_at_first, places_at_first}
use Rattle.cell_ranks.specs.Layouts.{many_below, place_among}
use Rattle.cell_ranks.specs.Ranks.{AreAtPlaces}
use Rattle.cell_ranks.specs.Tournaments.{IsTournament}
use Rattle.cell_ranks.proofs.ranks.Ranks.new.Goals as goal

pub invariant_of-ranks : goal.invariant_of-ranks
invariant_of-ranks c =
    let xs = c.args.indices.items in
    let many : c.len-many.result ≡ length xs = omega (arith, c.len-many.ensures, c.args.indices.ok) in
    let free : c.in_ok-free.free.items ≡ replicate (length xs) false = c.in_ok-free.ensures ∙ ap (λ (n : ℕ). replicate n false) many in
    let nodes : c.in_ok-nodes.nodes.items ≡ replicate (2 * length xs) None = c.in_ok-nodes.ensures ∙ ap (λ (n : ℕ). replicate (2 * n) None) many in
    record {
      layout = record {
        many = c.in_ok-places.ensures.length ∙ ap (λ (ys : List ℕ). length ys) c.deref-2.ensures.value;
        indexed = c.in_ok-starts.ensures.length;
        placed = subst (λ (ys : List ℕ). (k : ℕ) → k < length ys → get_or c.in_ok-places.places.items k 0 ≡ place_among ys k) c.deref-2.ensures.value c.in_ok-places.ensures.places;
        started = subst (λ (ys : List ℕ). (i : ℕ) → i ≤ 256 → get_or c.in_ok-starts.starts.items i 0 ≡ many_below i ys) c.deref.ensures.value c.in_ok-starts.ensures.counts;
      };
      few = c.requires;
      bytes = subst (λ (ys : List ℕ). (k : ℕ) → get_or ys k 0 < 256) c.deref-4.ensures.value c.are_bytes.ensures;
      many = ap (λ (bs : List Bool). length bs) free ∙ length-replicate (length xs) false;
      nodes = ap (λ (ns : List (Option ℕ)). length ns) nodes ∙ length-replicate (2 * length xs) None;
      won = subst (λ (ns : List (Option ℕ)). IsTournament c.in_ok-scores.scores.items ns (length xs)) (sym nodes) (won_at_first c.in_ok-scores.scores.items (2 * length xs) (length xs));
      leaves = subst (λ (ns : List (Option ℕ)). AreAtPlaces xs c.in_ok-free.free.items ns) (sym nodes) (subst (λ (bs : List Bool). AreAtPlaces xs bs (replicate (2 * length xs) None)) (sym free) (places_at_first xs (length xs) (2 * length xs)));
    }
