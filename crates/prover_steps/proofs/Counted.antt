-- Lines are numbered one by one.
use Rattle.std.proofs.Common.{◌≡◌, ℕ, zero, suc, ◌+◌, Bool, true, false, nat_le, if◌then◌else◌, length, List, [], ◌∷◌, ◌++◌, Option, Some, None, is_some, refl, sym, ap, subst, ◌∙◌, length-append, ◌&&◌, arith}
use Rattle.std.specs.Option.{option_map_or}
use Rattle.std.specs.List.{list_any}
use Rattle.fol_problem.specs.Stated.{Said}
use Rattle.derivation.specs.Lines.{InputRow}
use Rattle.derivation.specs.Later.{is_unit}
use Rattle.proof_words.specs.Written.{by_back_rewrite, by_back_unit_del}
use Rattle.prover_steps.specs.Clashing.{Held}
use Rattle.prover_steps.specs.Concluded.{Conclusion}
use Rattle.prover_steps.specs.LineNumbers.{AreNumberedFrom, NumbersLinesFrom, CountsLinesFrom, HaveSameLines}
use Rattle.prover_steps.specs.Picking.{Picked, picked}
use Rattle.prover_steps.specs.Searching.{Setting, spent, gave_all, Queued, MadeLine, SearchState, is_nil, is_too_large, counted_on, put_in, is_unchanged, number_for, made_line, with_line, with_proof, tidied, is_no_use, keeps, unit_conflicts, with_conflict, unit_meets, retires, puts_back, others_held, subsumes_back, deletes_back, rewrites_back, becomes_rule, rules_back, has_proofs, works_back, after_kept, held_for, settled, processed, gives, gives_picked, given_next, queue_next, next_state, after}
use Rattle.prover_steps.specs.Shortening.{denies}
use Rattle.prover_steps.specs.Starting.{start_state}
use Rattle.prover_steps.specs.Subsuming.{subsumes, rewrites_clause}

numbered_more : (first : ℕ) (ls : List MadeLine) (l : MadeLine) → AreNumberedFrom first ls → l.number ≡ length ls + first → AreNumberedFrom first (ls ++ l ∷ [])
numbered_more first [] l are e = (omega (arith, e), tt)
numbered_more first (k ∷ ls) l are e = (are.0, numbered_more (suc first) ls l are.1 (omega (arith, e)))

-- what a clause that is kept does to others
same_lines : (s : SearchState) → HaveSameLines s s
same_lines s = record { lines = refl; next = refl }

lines_then : (s t u : SearchState) → HaveSameLines s t → HaveSameLines t u → HaveSameLines s u
lines_then s t u one two = record { lines = two.lines ∙ one.lines; next = two.next ∙ one.next }

module _ (st : Setting) (h : Held) where
  subsumes_none : (s : SearchState) → HaveSameLines s (subsumes_back st h s)
  subsumes_none s = by st.options.back_subsume
    where
      by : (b : Bool) → HaveSameLines s (if b then retires (others_held h (subsumes h.clause) s) s else s)
      by true = record { lines = refl; next = refl }
      by false = same_lines s

  deletes_none : (s : SearchState) → HaveSameLines s (deletes_back st h s)
  deletes_none s = by (is_unit h.clause && st.options.unit_deletion)
    where
      by : (b : Bool) → HaveSameLines s (if b then puts_back by_back_unit_del (others_held h (list_any (denies h)) s) s else s)
      by true = record { lines = refl; next = refl }
      by false = same_lines s

  rewrites_none : (s : SearchState) → HaveSameLines s (rewrites_back st h s)
  rewrites_none s = by st.options.back_demod
    where
      by : (b : Bool) → HaveSameLines s (if b then puts_back by_back_rewrite (others_held h (rewrites_clause h) s) s else s)
      by true = record { lines = refl; next = refl }
      by false = same_lines s

  rules_none : (s : SearchState) → HaveSameLines s (rules_back st h s)
  rules_none s = by (becomes_rule st.greater h.clause)
    where
      by : (b : Bool) → HaveSameLines s (if b then rewrites_back st h (record s { rules = put_in h s.rules }) else s)
      by true = let rewrites = rewrites_none (record s { rules = put_in h s.rules }) in record { lines = rewrites.lines; next = rewrites.next }
      by false = same_lines s

  works_none : (s : SearchState) → HaveSameLines s (works_back st h s)
  works_none s = by (has_proofs st s)
    where
      by : (b : Bool) → HaveSameLines s (if b then s else rules_back st h (deletes_back st h (subsumes_back st h s)))
      by true = same_lines s
      by false =
          let one = subsumes_back st h s in
          let two = deletes_back st h one in
          lines_then s two (rules_back st h two) (lines_then s one two (subsumes_none s) (deletes_none one)) (rules_none two)

  pub works_make_none : (s : SearchState)
      → HaveSameLines s (subsumes_back st h s) × HaveSameLines s (deletes_back st h s) × HaveSameLines s (rewrites_back st h s) × HaveSameLines s (rules_back st h s)
      × HaveSameLines s (works_back st h s)
  works_make_none s = (subsumes_none s, deletes_none s, rewrites_none s, rules_none s, works_none s)

module _ (first : ℕ) where
  made_counts : (next : ℕ) (ls : List MadeLine) (l : MadeLine) → l.number ≡ next → NumbersLinesFrom first next ls → NumbersLinesFrom first (suc next) (ls ++ l ∷ [])
  made_counts next ls l e c =
      let behind = c.counted in
      record {
        numbered = numbered_more first ls l c.numbered (omega (arith, e, behind));
        counted = omega (arith, behind, length-append ls (l ∷ []));
      }

  pub line_counts : (s : SearchState) (q : Queued) → CountsLinesFrom first s → CountsLinesFrom first (with_line s q)
  line_counts s q c = by (is_unchanged q)
    where
      by : (b : Bool) → CountsLinesFrom first (if b then s else record s { lines = s.lines ++ made_line s.next q ∷ []; next = suc s.next })
      by true = c
      by false = made_counts s.next s.lines (made_line s.next q) refl c

  same_counts : (s t : SearchState) → HaveSameLines s t → CountsLinesFrom first s → CountsLinesFrom first t
  same_counts s t same c = record {
    numbered = subst (λ ls. AreNumberedFrom first ls) (sym same.lines) c.numbered;
    counted = same.next ∙ c.counted ∙ ap (λ ls. first + length ls) (sym same.lines);
  }

  pub meets_counts : (s : SearchState) (h : Held) → CountsLinesFrom first s → CountsLinesFrom first (unit_meets s h)
  meets_counts s h c = by (is_unit h.clause)
    where
      conflict : (ns : List Conclusion) → CountsLinesFrom first (with_conflict s ns)
      conflict [] = c
      conflict (n ∷ ns) = made_counts s.next s.lines _ refl c

      by : (b : Bool) → CountsLinesFrom first (if b then with_conflict s (unit_conflicts s h) else s)
      by true = conflict (unit_conflicts s h)
      by false = c

  module _ (st : Setting) where
    settled_counts : (s : SearchState) (q : Queued) → CountsLinesFrom first s → CountsLinesFrom first (settled st s q)
    settled_counts s q c = by (is_nil q.clause) (is_no_use st s q)
      where
        by : (empty useless : Bool)
            → CountsLinesFrom first (if empty then with_proof (number_for s q) (with_line s q) else (if useless then s else after_kept st (keeps (with_line s q) (held_for s q) q.usable) (held_for s q)))
        by true useless = line_counts s q c
        by false true = c
        by false false =
            same_counts (unit_meets (keeps (with_line s q) (held_for s q) q.usable) (held_for s q)) (after_kept st (keeps (with_line s q) (held_for s q) q.usable) (held_for s q))
            (works_none st (held_for s q) (unit_meets (keeps (with_line s q) (held_for s q) q.usable) (held_for s q)))
            (meets_counts (keeps (with_line s q) (held_for s q) q.usable) (held_for s q) (line_counts s q c))

    pub processed_counts : (s : SearchState) (q : Queued) → CountsLinesFrom first s → CountsLinesFrom first (processed st s q)
    processed_counts s q c = by (is_too_large q.clause)
      where
        by : (large : Bool) → CountsLinesFrom first (if large then record s { large = counted_on s.large 1 } else settled st s (tidied st s q))
        by true = c
        by false = settled_counts s (tidied st s q) c

    given_counts : (s : SearchState) → CountsLinesFrom first s → CountsLinesFrom first (given_next st s)
    given_counts s c = by (picked st.options st.weight st.is_hinted s.waiting s.turn)
      where
        enough : (p : Picked) (b : Bool) → CountsLinesFrom first (if b then record s { ended = Some gave_all } else record (gives st s p.0) { turn = p.1 })
        enough p true = c
        enough p false = c

        by : (p : Option Picked) → CountsLinesFrom first (option_map_or (gives_picked st s) p (record s { ended = Some spent }))
        by None = c
        by (Some p) = enough p (nat_le st.options.max_given s.given)

    queue_counts : (s : SearchState) (qs : List Queued) → CountsLinesFrom first s → CountsLinesFrom first (queue_next st s qs)
    queue_counts s [] c = given_counts s c
    queue_counts s (q ∷ qs) c = processed_counts (record s { queue = qs }) q c

    pub next_counts : (s : SearchState) → CountsLinesFrom first s → CountsLinesFrom first (next_state st s)
    next_counts s c = by (is_some s.ended)
      where
        by : (b : Bool) → CountsLinesFrom first (if b then s else queue_next st s s.queue)
        by true = c
        by false = queue_counts s s.queue c

    pub after_counts : (k : ℕ) (s : SearchState) → CountsLinesFrom first s → CountsLinesFrom first (after st k s)
    after_counts zero s c = c
    after_counts (suc k) s c = after_counts k (next_state st s) (next_counts s c)

pub start_counts : (ss : List Said) (rows : List InputRow) → CountsLinesFrom (suc (length ss + length rows)) (start_state ss rows)
start_counts ss rows = record { numbered = tt; counted = omega arith }
