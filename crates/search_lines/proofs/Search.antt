-- Each state that a search reaches has fit lines, and a queue that makes fit ones.
use Rattle.std.proofs.Common.{◌≡◌, ℕ, zero, suc, ◌≤◌, Bool, true, false, nat_le, ◌&&◌, ◌||◌, nat_lt, if◌then◌else◌, List, [], ◌∷◌, ◌++◌, filter, Option, Some, None, is_some, length, refl, sym, subst, arith, ◌∙◌}
use Rattle.std.proofs.lemmas.Bool.{true≢false, ltb-false}
use Rattle.std.specs.List.{AllByRecursion, list_any}
use Rattle.std.specs.Option.{option_map_or}
use Rattle.demodulate.proofs.Smaller.{tidied_small}
use Rattle.derivation.specs.Later.{is_unit}
use Rattle.derivation.specs.Lines.{InputRow}
use Rattle.fol_core.specs.Literals.{ClauseTree}
use Rattle.fol_problem.specs.Stated.{Said}
use Rattle.fol_problem.specs.declared.problem.Role.{Role}
use Rattle.fol_problem.specs.declared.problem.Role.TheVariants.{Assumption, Usable, Demodulator, Goal}
use Rattle.search_lines.proofs.Conclusions.{conflict_empty, inferred_fit, IsFit, conclusions_fit}
use Rattle.search_lines.proofs.Several.{kept_pass, all_mapped_each}
use Rattle.search_lines.proofs.Words.{tidied_words}
use Rattle.search_lines.specs.Shapes.{IsFitClause, IsFitLater, IsFitLine, IsFitSource, IsFitQueued, IsFitState}
use Rattle.proof_words.specs.Spelling.{takes_steps}
use Rattle.proof_words.specs.Written.{WrittenFirst, states_formula, as_assumption, as_goal, by_clausify, by_deny, by_copy, satellite, by_back_rewrite, by_back_unit_del, by_resolve, by_hyper, by_ur, by_factor, by_para, by_xx_res, by_instantiate}
use Rattle.prover_steps.proofs.Lists.{all_append, all_mapped, all_flat, all_both}
use Rattle.prover_steps.specs.Clashing.{Held}
use Rattle.prover_steps.specs.Concluded.{Conclusion, inferred}
use Rattle.prover_steps.specs.Picking.{Picked, picked}
use Rattle.prover_steps.specs.Searching.{Setting, spent, gave_all, Queued, SearchState, is_nil, clause_size, clause_depth, is_too_large, counted_on, put_in, all_held, is_unchanged, number_for, made_line, with_line, with_proof, tidied, is_no_use, keeps, unit_conflicts, queued_for, with_conflict, unit_meets, retires, queued_back, puts_back, others_held, subsumes_back, deletes_back, rewrites_back, becomes_rule, rules_back, has_proofs, works_back, after_kept, held_for, settled, processed, gives, gives_picked, given_next, queue_next, next_state, after}
use Rattle.prover_steps.specs.Shortening.{denies}
use Rattle.prover_steps.specs.Starting.{role_of, queued_input, queued_inputs, start_state}
use Rattle.prover_steps.specs.Subsuming.{subsumes, rewrites_clause}
use Rattle.substitutions.proofs.Variants.{numbers_stay}

-- a word that others may stand behind is one of a clause
takes_clause : (w : WrittenFirst) → takes_steps w ≡ true → states_formula w ≡ false
takes_clause as_assumption h = cc
takes_clause as_goal h = cc
takes_clause (by_clausify n) h = refl
takes_clause (by_deny n) h = refl
takes_clause (by_copy n) h = refl
takes_clause (by_back_rewrite n) h = refl
takes_clause (by_back_unit_del n) h = refl
takes_clause (by_resolve n s) h = refl
takes_clause (by_hyper n ss) h = refl
takes_clause (by_ur n ss) h = refl
takes_clause (by_factor n a b) h = refl
takes_clause (by_para n a side m b path) h = refl
takes_clause (by_xx_res n a) h = refl
takes_clause (by_instantiate n es) h = refl

-- a line under any number
abbrev MakesFit : Queued → Type 0
MakesFit q = (n : ℕ) → IsFitLine (made_line n q)

makes_fit : (q : Queued) → IsFitClause q.clause → IsFitQueued q → AllByRecursion IsFitLater q.later → MakesFit q
makes_fit q clause fit later n = record {
  clause = clause;
  words = record { of_clause = takes_clause q.first fit.takes; first = fit.first; later = later; alone = λ none. absurd (true≢false (sym fit.takes ∙ none)) };
}

-- what isn't too large has 1000 levels at most
small_levels : (c : ClauseTree) → is_too_large c ≡ false → clause_depth c ≤ 1000
small_levels c h = by (nat_lt 1000 (clause_depth c)) refl h
  where
    by : (b : Bool) → nat_lt 1000 (clause_depth c) ≡ b → (b || nat_lt 1000000 (clause_size c)) ≡ false → clause_depth c ≤ 1000
    by true e h = cc
    by false e h = ltb-false 1000 (clause_depth c) e

-- what comes of a clause of the queue
tidied_fit : (st : Setting) (s : SearchState) (q : Queued) → is_too_large q.clause ≡ false → IsFitQueued q → MakesFit (tidied st s q)
tidied_fit st s q small fit =
    makes_fit (tidied st s q)
    (record {
      numbered = numbers_stay _;
      levels = small_levels _ (tidied_small st.greater st.options.unit_deletion s.rules (all_held s) st.options.demod_step_limit q.clause small);
    })
    fit (tidied_words is_too_large st.greater st.options.unit_deletion s.rules (all_held s) st.options.demod_step_limit q.clause)

-- one line more
line_fit : (s : SearchState) (q : Queued) → MakesFit q → IsFitState s → IsFitState (with_line s q)
line_fit s q makes fit = by (is_unchanged q)
  where
    by : (b : Bool) → IsFitState (if b then s else record s { lines = s.lines ++ made_line s.next q ∷ []; next = suc s.next })
    by true = fit
    by false = record { lines = all_append IsFitLine s.lines _ fit.lines (makes s.next, tt); queue = fit.queue }

-- units that meet make the empty clause
empty_fit : IsFitClause []
empty_fit = record { numbered = refl; levels = omega arith }

abbrev IsConflict : Conclusion → Type 0
IsConflict n = (n.clause ≡ []) × IsFit n

conflict_fit : (s : SearchState) (ns : List Conclusion) → IsFitState s → AllByRecursion IsConflict ns → IsFitState (with_conflict s ns)
conflict_fit s [] fit are = fit
conflict_fit s (n ∷ ns) fit are = record {
  lines = all_append IsFitLine s.lines _ fit.lines (makes_fit (queued_for n) (subst IsFitClause (sym are.0.0) empty_fit) are.0.1 tt s.next, tt);
  queue = fit.queue;
}

meets_fit : (s : SearchState) (h : Held) → IsFitState s → IsFitState (unit_meets s h)
meets_fit s h fit = by (is_unit h.clause) refl
  where
    each : is_unit h.clause ≡ true → (u : Held) → is_unit u.clause ≡ true → AllByRecursion IsConflict (inferred (by_resolve h.number (satellite 0 u.number 0)) (h.clause ∷ u.clause ∷ []))
    each one u other =
        all_both (λ n. n.clause ≡ []) IsFit _ (conflict_empty h.number u.number h.clause u.clause one other)
        (inferred_fit (by_resolve h.number (satellite 0 u.number 0)) (h.clause ∷ u.clause ∷ []) (record { takes = refl; first = tt }))

    by : (b : Bool) → is_unit h.clause ≡ b → IsFitState (if b then with_conflict s (unit_conflicts s h) else s)
    by true one =
        conflict_fit s (unit_conflicts s h) fit
        (all_flat (λ u. is_unit u.clause ≡ true) IsConflict _ (each one) (filter (λ u. is_unit u.clause) (all_held s)) (kept_pass (λ u. is_unit u.clause) (all_held s)))
    by false one = fit

-- clauses that are put back
puts_fit : (word : ℕ → WrittenFirst) → ((n : ℕ) → IsFitSource (word n)) → (gone : List Held) (s : SearchState) → IsFitState s → IsFitState (puts_back word gone s)
puts_fit word each gone s fit = record {
  lines = fit.lines;
  queue = all_append IsFitQueued s.queue _ fit.queue (all_mapped_each IsFitQueued (queued_back word) (λ h. each h.number) gone);
}

module _ (st : Setting) (h : Held) where
  subsumes_fit : (s : SearchState) → IsFitState s → IsFitState (subsumes_back st h s)
  subsumes_fit s fit = by st.options.back_subsume
    where
      by : (b : Bool) → IsFitState (if b then retires (others_held h (subsumes h.clause) s) s else s)
      by true = record { lines = fit.lines; queue = fit.queue }
      by false = fit

  deletes_fit : (s : SearchState) → IsFitState s → IsFitState (deletes_back st h s)
  deletes_fit s fit = by (is_unit h.clause && st.options.unit_deletion)
    where
      by : (b : Bool) → IsFitState (if b then puts_back by_back_unit_del (others_held h (list_any (denies h)) s) s else s)
      by true = puts_fit by_back_unit_del (λ n. record { takes = refl; first = tt }) (others_held h (list_any (denies h)) s) s fit
      by false = fit

  rewrites_fit : (s : SearchState) → IsFitState s → IsFitState (rewrites_back st h s)
  rewrites_fit s fit = by st.options.back_demod
    where
      by : (b : Bool) → IsFitState (if b then puts_back by_back_rewrite (others_held h (rewrites_clause h) s) s else s)
      by true = puts_fit by_back_rewrite (λ n. record { takes = refl; first = tt }) (others_held h (rewrites_clause h) s) s fit
      by false = fit

  rules_fit : (s : SearchState) → IsFitState s → IsFitState (rules_back st h s)
  rules_fit s fit = by (becomes_rule st.greater h.clause)
    where
      by : (b : Bool) → IsFitState (if b then rewrites_back st h (record s { rules = put_in h s.rules }) else s)
      by true = rewrites_fit (record s { rules = put_in h s.rules }) (record { lines = fit.lines; queue = fit.queue })
      by false = fit

  works_fit : (s : SearchState) → IsFitState s → IsFitState (works_back st h s)
  works_fit s fit = by (has_proofs st s)
    where
      by : (b : Bool) → IsFitState (if b then s else rules_back st h (deletes_back st h (subsumes_back st h s)))
      by true = fit
      by false = rules_fit (deletes_back st h (subsumes_back st h s)) (deletes_fit (subsumes_back st h s) (subsumes_fit s fit))

module _ (st : Setting) where
  settled_fit : (s : SearchState) (q : Queued) → MakesFit q → IsFitState s → IsFitState (settled st s q)
  settled_fit s q makes fit = by (is_nil q.clause) (is_no_use st s q) (line_fit s q makes fit)
    where
      h : Held
      h = held_for s q

      by : (empty useless : Bool) → IsFitState (with_line s q)
          → IsFitState (if empty then with_proof (number_for s q) (with_line s q) else (if useless then s else after_kept st (keeps (with_line s q) h q.usable) h))
      by true useless with = record { lines = with.lines; queue = with.queue }
      by false true with = fit
      by false false with = works_fit st h (unit_meets (keeps (with_line s q) h q.usable) h) (meets_fit (keeps (with_line s q) h q.usable) h (record { lines = with.lines; queue = with.queue }))

  processed_fit : (s : SearchState) (q : Queued) → IsFitQueued q → IsFitState s → IsFitState (processed st s q)
  processed_fit s q comes fit = by (is_too_large q.clause) refl
    where
      by : (large : Bool) → is_too_large q.clause ≡ large → IsFitState (if large then record s { large = counted_on s.large 1 } else settled st s (tidied st s q))
      by true e = record { lines = fit.lines; queue = fit.queue }
      by false e = settled_fit s (tidied st s q) (tidied_fit st s q e comes) fit

  given_fit : (s : SearchState) → IsFitState s → IsFitState (given_next st s)
  given_fit s fit = by (picked st.options st.weight st.is_hinted s.waiting s.turn)
    where
      enough : (p : Picked) (b : Bool) → IsFitState (if b then record s { ended = Some gave_all } else record (gives st s p.0) { turn = p.1 })
      enough p true = record { lines = fit.lines; queue = fit.queue }
      enough p false = record {
        lines = fit.lines;
        queue = all_mapped IsFit IsFitQueued queued_for (λ n comes. comes) _ (conclusions_fit st.rules st.greater (put_in p.0 s.usable) p.0);
      }

      by : (p : Option Picked) → IsFitState (option_map_or (gives_picked st s) p (record s { ended = Some spent }))
      by None = record { lines = fit.lines; queue = fit.queue }
      by (Some p) = enough p (nat_le st.options.max_given s.given)

  queue_fit : (s : SearchState) (qs : List Queued) → AllByRecursion IsFitQueued qs → IsFitState s → IsFitState (queue_next st s qs)
  queue_fit s [] come fit = given_fit s fit
  queue_fit s (q ∷ qs) come fit =
      let next = processed_fit (record s { queue = qs }) q come.0 (record { lines = fit.lines; queue = come.1 }) in
      record { lines = next.lines; queue = next.queue }

  pub next_fit : (s : SearchState) → IsFitState s → IsFitState (next_state st s)
  next_fit s fit = by (is_some s.ended)
    where
      by : (b : Bool) → IsFitState (if b then s else queue_next st s s.queue)
      by true = fit
      by false = queue_fit s s.queue fit.queue fit

  pub after_fit : (k : ℕ) (s : SearchState) → IsFitState s → IsFitState (after st k s)
  after_fit zero s fit = fit
  after_fit (suc k) s fit = after_fit k (next_state st s) (next_fit s fit)

-- input clauses come by copies
inputs_fit : (ss : List Said) (n : ℕ) (rows : List InputRow) → AllByRecursion IsFitQueued (queued_inputs ss n rows)
inputs_fit ss n [] = tt
inputs_fit ss n (r ∷ rows) = all_append IsFitQueued _ _ (by (role_of ss r)) (inputs_fit ss (suc n) rows)
  where
    by : (role : Role) → AllByRecursion IsFitQueued (queued_input role n r)
    by Assumption = (record { takes = refl; first = tt }, tt)
    by Usable = (record { takes = refl; first = tt }, tt)
    by Demodulator = tt
    by Goal = (record { takes = refl; first = tt }, tt)

pub start_fit : (ss : List Said) (rows : List InputRow) → IsFitState (start_state ss rows)
start_fit ss rows = record { lines = tt; queue = inputs_fit ss (suc (length ss)) rows }
