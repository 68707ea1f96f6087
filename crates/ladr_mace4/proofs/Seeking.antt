-- What a search amounts to, by what its parts tell.
use Rattle.std.proofs.Common.{◌≡◌, ℕ, List, [], ◌++◌, None, Result, Ok, Err, inl, inr, refl, sym, subst, append-nil}
use Rattle.clausify.specs.Input.{first_over}
use Rattle.fol_problem.specs.Stated.{Stated}
use Rattle.ladr_io.specs.Streams.{Outflow}
use Rattle.ladr_io.specs.Times.{Times}
use Rattle.ladr_mace4.specs.Finding.{Comes, Sought, Seeks}
use Rattle.ladr_mace4.specs.Lines.{end_text}
use Rattle.ladr_mace4.specs.Story.{SearchGoes, SearchComes}
use Rattle.ladr_mace4.specs.declared.ends.SearchEnd.{SearchEnd}
use Rattle.ladr_mace4.specs.declared.ends.SearchEnd.TheVariants.{MaxModels, Exhausted, AllModels, MaxMegs, MaxSeconds, GroundLimit, ClauseLimit}
use Rattle.ladr_mace4.specs.declared.ends.SearchOver.{SearchOver}
use Rattle.ladr_mace4.specs.declared.plan.Plan.{Plan}
use Rattle.ladr_output.proofs.Tellings.{told_behind, told_weaker, ended_by}
use Rattle.ladr_output.specs.Telling.{Tells, IsEnd}
use Rattle.ladr_output.specs.declared.cut.Cut.{Cut}
use Rattle.ladr_output.specs.declared.cut.Cut.TheVariants.{WriteFault, Memory}
use Rattle.std.specs.Prelude.{◌⊎◌}

pub comes_by : (p : Stated) (s : Plan) (t : Times) (j : ℕ) (u : List ℕ) (end : SearchEnd) → first_over 1 p.formulas ≡ None → SearchComes p s t end j u → Comes p s t end j u
comes_by p s t j u MaxModels none h = (none, h)
comes_by p s t j u Exhausted none h = (none, h)
comes_by p s t j u AllModels none h = (none, h)
comes_by p s t j u MaxMegs none h = (none, h)
comes_by p s t j u (MaxSeconds first last) none h = (none, h)
comes_by p s t j u (GroundLimit size) none h = (none, h)
comes_by p s t j u (ClauseLimit formula) none h = absurd h.stops

module _ (p : Stated) (s : Plan) (t : Times) where
  -- the sizes are searched
  pub sizes_seek : (a b : Outflow) (result : Result SearchOver Cut) → first_over 1 p.formulas ≡ None → Tells {E = SearchOver} (SearchGoes p s t) (λ e u. SearchComes p s t e.end e.printed u) a b result → Tells {E = SearchOver} (Seeks p s t) (λ e u. Comes p s t e.end e.printed u) a b result
  sizes_seek a b result none told = told_weaker (SearchGoes p s t) (Seeks p s t) (λ (e : SearchOver) u. SearchComes p s t e.end e.printed u) (λ (e : SearchOver) u. Comes p s t e.end e.printed u) a b result (λ u h. inr (inl (none, h))) (λ e u h. comes_by p s t e.printed u e.end none h) told

  -- the last lines are printed, or cut off
  pub last_seek : (a b c : Outflow) (e : SearchOver) (result : Result SearchEnd Cut) → Tells {E = SearchOver} (Seeks p s t) (λ e u. Comes p s t e.end e.printed u) a b (Ok e) → Tells (λ u. u ≡ []) (IsEnd e.end (end_text e.printed e.end)) b c result → Tells (Seeks p s t) (Sought p s t) a c result
  last_seek a b c e result (front, comes, took) told =
      told_behind (Seeks p s t) (Sought p s t) a b c front result took
      (ended_by (λ u. Seeks p s t (front ++ u)) (λ f u. Sought p s t f (front ++ u)) e.end (end_text e.printed e.end) b c result (inr (inr (e.end, (e.printed, subst (λ (u : List ℕ). Comes p s t e.end e.printed u) (sym (append-nil front)) comes)))) (e.printed, (front, comes, refl)) told)

  -- the output is cut off before
  pub cut_seek : (a b : Outflow) (why : Cut) → Tells {E = SearchOver} (Seeks p s t) (λ e u. Comes p s t e.end e.printed u) a b (Err why) → Tells (Seeks p s t) (Sought p s t) a b (Err why)
  cut_seek a b WriteFault h = record {
    before = h.before;
    piece = h.piece;
    middle = h.middle;
    stood = h.stood;
    meant = meant_seek (h.before ++ h.piece) h.meant;
    took = h.took;
    front = h.front;
  }
    where
      meant_seek : (u : List ℕ) → Seeks p s t u ⊎ ((e : SearchOver) × Comes p s t e.end e.printed u) → Seeks p s t u ⊎ ((e : SearchEnd) × Sought p s t e u)
      meant_seek u (inl g) = inl g
      meant_seek u (inr g) = inl (inr (inr (g.0.end, (g.0.printed, g.1))))
  cut_seek a b Memory h = h
