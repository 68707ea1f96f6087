use Rattle.std.proofs.Common.{◌≡◌, ◌*◌, ◌^◌, ◌<◌, ℕ, Bool, true, false, if◌then◌else◌, List, [], Option, None, length, replicate, sym, ap, subst, ◌∙◌, arith}
use Rattle.std.proofs.lemmas.List.{length-replicate}
use Rattle.cell_ranks.specs.Ranks.{Ranked, ranked}
use Rattle.mace_cells.proofs.Counting.{flagged_at_first, scored_at_first}
use Rattle.mace_cells.specs.Made.{IsMade}
use Rattle.mace_cells.specs.Stacked.{Stacked}
use Rattle.mace_cells.specs.Trails.{AreFlagged, AreScored, counts_crossed, cells_written, struck}
use Rattle.mace_cells.specs.declared.trail.TrailEntry.{TrailEntry}
use Rattle.mace_cells.proofs.trail.Trail.new.Goals as goal

pub invariant_of-result : goal.invariant_of-result
invariant_of-result c =
    let n : ℕ = length c.args.indices.items in
    let values : List (Option ℕ) = c.in_ok-values.values.items in
    let many : c.len-many.result ≡ n = omega (arith, c.len-many.ensures, c.args.indices.ok) in
    let blank : values ≡ replicate n None = c.in_ok-values.ensures ∙ ap (λ (k : ℕ). replicate k None) many in
    let long : length values ≡ n = ap (λ (os : List (Option ℕ)). length os) blank ∙ length-replicate n None in
    let flags : c.in_ok-crossed.crossed.items ≡ replicate (n * c.args.stride) false = c.in_ok-crossed.ensures ∙ ap (λ (k : ℕ). replicate (k * c.args.stride) false) many in
    let made = c.in_ok-ranks.ensures in
    let counts : c.in_ok-ranks.ranks.scores ≡ (if c.args.counts then replicate n 0 else []) =
    ap (λ (r : Ranked). r.scores) made in
    let room : c.in_ok-entries.entries.room ≡ n = ap (λ (s : Stacked TrailEntry). s.room) c.in_ok-entries.ensures ∙ many in
    let more : c.in_ok-crossings.crossings.room ≡ n * c.args.stride = ap (λ (s : Stacked ℕ). s.room) c.in_ok-crossings.ensures ∙ ap (λ (k : ℕ). k * c.args.stride) many in
    rw long record {
      small = c.requires;
      flags = ap (λ (bs : List Bool). length bs) flags ∙ length-replicate (n * c.args.stride) false;
      room = room;
      more = more;
      values = subst (λ (es : List TrailEntry). IsMade None n (cells_written es) values) (sym (ap (λ (s : Stacked TrailEntry). s.list) c.in_ok-entries.ensures)) blank;
      crossed = subst (λ (js : List ℕ). IsMade false (n * c.args.stride) (struck js) c.in_ok-crossed.crossed.items) (sym (ap (λ (s : Stacked ℕ). s.list) c.in_ok-crossings.ensures)) flags;
      ranked = ap (λ (r : Ranked). length r.indices) made;
      free = subst (λ (os : List (Option ℕ)). AreFlagged os c.in_ok-ranks.ranks.free) (sym blank) (subst (λ (bs : List Bool). AreFlagged (replicate n None) bs) (sym (ap (λ (r : Ranked). r.free) made)) (flagged_at_first n));
      scored =
          subst (λ (js : List ℕ). AreScored c.args.counts c.args.stride js n c.in_ok-ranks.ranks.scores) (sym (ap (λ (s : Stacked ℕ). s.list) c.in_ok-crossings.ensures))
          (subst (λ (ss : List ℕ). AreScored c.args.counts c.args.stride [] n ss) (sym counts) (scored_at_first c.args.counts c.args.stride n));
    }
