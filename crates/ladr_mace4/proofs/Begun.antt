-- One size, by what its parts tell.
use Rattle.std.proofs.Common.{◌≡◌, ℕ, ◌+◌, ◌<◌, ◌≤◌, [], ◌++◌, Result, Ok, Err, IfOk, inl, inr, refl, sym, subst, arith}
use Rattle.fol_core.specs.Occurs.{size_needed}
use Rattle.fol_problem.specs.Stated.{Stated}
use Rattle.ladr_io.specs.Streams.{Outflow, Takes}
use Rattle.ladr_io.specs.Times.{Times}
use Rattle.ladr_mace4.specs.Lines.{size_line, skipped_line}
use Rattle.ladr_mace4.specs.Rooms.{IsBegun}
use Rattle.ladr_mace4.specs.Story.{between, opened, skipped, SizeGoes, SizeEnds, Stops}
use Rattle.search_clock.specs.Watching.{IsInTime, HasRead}
use Rattle.ladr_mace4.specs.declared.ends.SearchEnd.{SearchEnd}
use Rattle.ladr_mace4.specs.declared.ends.Step.{Step}
use Rattle.ladr_mace4.specs.declared.ends.Step.TheVariants.{Over, Ends}
use Rattle.ladr_mace4.specs.declared.plan.Plan.{Plan}
use Rattle.ladr_output.proofs.Tellings.{told_behind, cut_by, first_cut}
use Rattle.ladr_output.specs.Telling.{IsPiece, Tells}
use Rattle.ladr_output.specs.declared.cut.Cut.{Cut}
use Rattle.ladr_output.specs.declared.cut.Cut.TheVariants.{WriteFault, Memory}
use Rattle.model_tables.specs.Size.{formulas_of}

module _ (p : Stated) (s : Plan) (t : Times) (n k r : ℕ) where
  -- nothing of the size is printed yet
  nothing : k < s.wanted → IsInTime s.seconds t → HasRead s.seconds r t → SizeGoes p s t n k r []
  nothing fewer in_time reads = (between, tt, inl (omega (arith, fewer)), in_time, subst (λ (j : ℕ). HasRead s.seconds j t) (omega arith) reads, refl)

  -- the size is skipped
  pub at_skipped : (a b : Outflow) (result : Result Step Cut) → n ≤ s.end → n < size_needed (formulas_of p) → k < s.wanted → IsInTime s.seconds t → HasRead s.seconds r t → IsPiece (skipped_line n) a b result → IfOk result (λ step. step ≡ Over k) → Tells (SizeGoes p s t n k r) (SizeEnds p s t n k r) a b result
  at_skipped a b result within small fewer in_time reads piece step = by result piece step
    where
      over : SizeEnds p s t n k r (Over k) (skipped_line n)
      over = (skipped, within, small, omega arith, fewer, in_time, subst (λ (j : ℕ). HasRead s.seconds j t) (omega arith) reads, refl)

      by : (result : Result Step Cut) → IsPiece (skipped_line n) a b result → IfOk result (λ step. step ≡ Over k) → Tells (SizeGoes p s t n k r) (SizeEnds p s t n k r) a b result
      by (Ok step) took is = (skipped_line n, subst (λ (e : Step). SizeEnds p s t n k r e (skipped_line n)) (sym is) over, took)
      by (Err WriteFault) front is = first_cut {E = Step} (SizeGoes p s t n k r) (SizeEnds p s t n k r) (skipped_line n) a b (nothing fewer in_time reads) (inr (Over k, over)) front
      by (Err Memory) none is = ([], nothing fewer in_time reads, none)

  -- the size's line is cut off
  pub at_line : (a b : Outflow) (why : Cut) → IsBegun p s n → k < s.wanted → IsInTime s.seconds t → HasRead s.seconds r t → IsPiece {T = Unit {0}} (size_line n) a b (Err why) → Tells (SizeGoes p s t n k r) (SizeEnds p s t n k r) a b (Err why)
  at_line a b why begun fewer in_time reads piece =
      cut_by (Unit {0}) (SizeGoes p s t n k r) (SizeEnds p s t n k r) (size_line n) a b why (nothing fewer in_time reads) (opened, begun, inl (omega (arith, fewer)), in_time, subst (λ (j : ℕ). HasRead s.seconds j t) (omega arith) reads, refl) piece

  -- the search ends as the size begins
  pub at_beginning : (a b : Outflow) (end : SearchEnd) → IsBegun p s n → Takes a b (size_line n) → Stops p s t n k opened end → HasRead s.seconds (r + 1) t → Tells (SizeGoes p s t n k r) (SizeEnds p s t n k r) a b (Ok (Ends end k))
  at_beginning a b end begun took stops reads = (size_line n, (opened, begun, omega arith, stops, reads, refl), took)

  -- the size goes on behind its line
  pub behind_line : (a b c : Outflow) (result : Result Step Cut) → Takes a b (size_line n) → Tells (λ u. SizeGoes p s t n k r (size_line n ++ u)) (λ e u. SizeEnds p s t n k r e (size_line n ++ u)) b c result → Tells (SizeGoes p s t n k r) (SizeEnds p s t n k r) a c result
  behind_line a b c result took told = told_behind (SizeGoes p s t n k r) (SizeEnds p s t n k r) a b c (size_line n) result took told
