-- Steps are made, and none is taken back.
use Rattle.std.proofs.Common.{◌≡◌, ℕ, false, List, [], ◌∷◌, ◌++◌, append_assoc, refl, sym, ap, ◌∙◌}
use Rattle.std.specs.List.{AllByRecursion}
use Rattle.mace_cells.specs.Trails.{Partial, partial}
use Rattle.mace_cells.specs.declared.trail.TrailEntry.{TrailEntry}
use Rattle.cell_search.specs.Following.{Grows}

pub grows_none : (t : Partial) → Grows t t
grows_none t = record { later = []; entries = refl; undecided = tt; more = []; crossings = refl }

pub grows_step : (t t' : Partial) (e : TrailEntry) → e.decided ≡ false → t' ≡ partial t.many t.stride t.ranking (e ∷ t.entries) t.crossings → Grows t t'
grows_step t t' e undecided is = record {
  later = e ∷ [];
  entries = ap (λ (u : Partial). u.entries) is;
  undecided = (undecided, tt);
  more = [];
  crossings = ap (λ (u : Partial). u.crossings) is;
}

pub grows_crossed : (t t' : Partial) (k : ℕ) → t' ≡ partial t.many t.stride t.ranking t.entries (k ∷ t.crossings) → Grows t t'
grows_crossed t t' k is = record {
  later = [];
  entries = ap (λ (u : Partial). u.entries) is;
  undecided = tt;
  more = k ∷ [];
  crossings = ap (λ (u : Partial). u.crossings) is;
}

both_undecided : (es ds : List TrailEntry) → AllByRecursion (λ e. e.decided ≡ false) es → AllByRecursion (λ e. e.decided ≡ false) ds → AllByRecursion (λ e. e.decided ≡ false) (es ++ ds)
both_undecided [] ds h g = g
both_undecided (e ∷ es) ds h g = (h.0, both_undecided es ds h.1 g)

pub grows_on : (t u v : Partial) → Grows t u → Grows u v → Grows t v
grows_on t u v first second = record {
  later = second.later ++ first.later;
  entries = second.entries ∙ ap (λ (es : List TrailEntry). second.later ++ es) first.entries ∙ sym (append_assoc second.later first.later t.entries);
  undecided = both_undecided second.later first.later second.undecided first.undecided;
  more = second.more ++ first.more;
  crossings = second.crossings ∙ ap (λ (ks : List ℕ). second.more ++ ks) first.crossings ∙ sym (append_assoc second.more first.more t.crossings);
}
