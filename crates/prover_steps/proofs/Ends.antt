-- A search ends.
use Rattle.std.proofs.Common.{◌≡◌, ℕ, zero, suc, ◌<◌, ◌≤◌, ◌+◌, ◌-◌, ◌*◌, Bool, true, false, not, ◌&&◌, nat_le, if◌then◌else◌, length, List, [], ◌∷◌, ◌++◌, map, Option, Some, None, is_some, refl, sym, ap, subst, ◌∙◌, leb-true, leb-false, length-append, arith}
use Rattle.std.proofs.lemmas.List.{length-map}
use Rattle.std.specs.List.{list_any}
use Rattle.std.specs.Option.{option_map_or}
use Rattle.fol_core.specs.Literals.{ClauseTree}
use Rattle.derivation.specs.Later.{is_unit}
use Rattle.proof_words.specs.Written.{WrittenFirst, by_back_rewrite, by_back_unit_del}
use Rattle.prover_steps.specs.Clashing.{Held, is_same_held}
use Rattle.prover_steps.specs.Concluded.{Conclusion}
use Rattle.prover_steps.specs.Ending.{given_left, queued_or_held, queue_left, IsReason}
use Rattle.prover_steps.specs.Picking.{Picked, picked}
use Rattle.prover_steps.specs.Searching.{Setting, Reason, proved, spent, gave_all, kept_all, filled, Queued, SearchState, is_nil, is_too_large, counted_on, put_in, is_unchanged, number_for, made_line, with_line, with_proof, tidied, is_no_use, keeps, unit_conflicts, with_conflict, unit_meets, retires, queued_back, puts_back, others_held, subsumes_back, deletes_back, rewrites_back, becomes_rule, rules_back, has_proofs, works_back, after_kept, held_for, settled, processed, limit_reached, under_limits, gives, gives_picked, queue_next, next_state, after, SearchReaches}
use Rattle.prover_steps.specs.Shortening.{denies}
use Rattle.prover_steps.specs.Subsuming.{subsumes, rewrites_clause}
use Rattle.prover_steps.proofs.Fewer.{kept_fewer, gone_fewer}

-- What becomes of counters: as many are given; so many more are kept, and at most so many more
-- proofs are there; no more clauses are queued or held than were, and those.
abbrev Counts : ℕ → ℕ → SearchState → SearchState → Type 0
Counts kept proofs s t =
    (t.given ≡ s.given) × (t.kept ≡ kept + s.kept) × (length t.proofs ≤ proofs + length s.proofs)
    × (queued_or_held t ≤ kept + queued_or_held s)

same_counts : (s : SearchState) → Counts 0 0 s s
same_counts s = (refl, omega arith, omega arith, omega arith)

counts_then : (kept proofs more : ℕ) (s t u : SearchState) → Counts kept proofs s t → Counts 0 more t u → Counts kept (proofs + more) s u
counts_then kept proofs more s t u (g, k, p, q) (h, l, r, v) = (h ∙ g, omega (arith, k, l), omega (arith, p, r), omega (arith, q, v))

line_counts : (s : SearchState) (q : Queued) → Counts 0 0 s (with_line s q)
line_counts s q = by (is_unchanged q)
  where
    by : (b : Bool) → Counts 0 0 s (if b then s else record s { lines = s.lines ++ made_line s.next q ∷ []; next = suc s.next })
    by true = same_counts s
    by false = same_counts s

put_longer : (h : Held) (hs : List Held) → length (put_in h hs) ≡ suc (length hs)
put_longer h [] = refl
put_longer h (k ∷ ks) = by _ (put_longer h ks)
  where
    by : (b : Bool) → length (put_in h ks) ≡ suc (length ks) → length (if b then h ∷ k ∷ ks else k ∷ put_in h ks) ≡ suc (suc (length ks))
    by true e = refl
    by false e = ap suc e

keeps_counts : (s : SearchState) (h : Held) (usable : Bool) → Counts 1 0 s (keeps s h usable)
keeps_counts s h true = (refl, omega arith, omega arith, omega (arith, put_longer h s.usable))
keeps_counts s h false = (refl, omega arith, omega arith, omega (arith, put_longer h s.waiting))

meets_counts : (s : SearchState) (h : Held) → Counts 0 1 s (unit_meets s h)
meets_counts s h = by (is_unit h.clause)
  where
    none : Counts 0 1 s s
    none = (refl, omega arith, omega arith, omega arith)

    conflict : (ns : List Conclusion) → Counts 0 1 s (with_conflict s ns)
    conflict [] = none
    conflict (n ∷ ns) = (refl, omega arith, omega (arith, length-append s.proofs (record { line = s.next; given = s.given } ∷ [])), omega arith)

    by : (b : Bool) → Counts 0 1 s (if b then with_conflict s (unit_conflicts s h) else s)
    by true = conflict (unit_conflicts s h)
    by false = none

retires_counts : (gone : List Held) (s : SearchState) → Counts 0 0 s (retires gone s)
retires_counts gone s =
    (refl, omega arith, omega arith, omega (arith, kept_fewer (λ h. not (list_any (is_same_held h) gone)) s.waiting, kept_fewer (λ h. not (list_any (is_same_held h) gone)) s.usable))

puts_counts : (word : ℕ → WrittenFirst) (h : Held) (test : ClauseTree → Bool) (s : SearchState) → Counts 0 0 s (puts_back word (others_held h test s) s)
puts_counts word h test s =
    let gone = others_held h test s in (
      refl,
      omega arith,
      omega arith,
      omega (arith, length-append s.queue (map (queued_back word) gone), length-map gone (queued_back word), gone_fewer (λ d. not (is_same_held h d) && test d.clause) s.waiting s.usable),
    )

module _ (st : Setting) where
  module _ (h : Held) where
    subsumes_counts : (s : SearchState) → Counts 0 0 s (subsumes_back st h s)
    subsumes_counts s = by st.options.back_subsume
      where
        by : (b : Bool) → Counts 0 0 s (if b then retires (others_held h (subsumes h.clause) s) s else s)
        by true = retires_counts (others_held h (subsumes h.clause) s) s
        by false = same_counts s

    deletes_counts : (s : SearchState) → Counts 0 0 s (deletes_back st h s)
    deletes_counts s = by (is_unit h.clause && st.options.unit_deletion)
      where
        by : (b : Bool) → Counts 0 0 s (if b then puts_back by_back_unit_del (others_held h (list_any (denies h)) s) s else s)
        by true = puts_counts by_back_unit_del h (list_any (denies h)) s
        by false = same_counts s

    rewrites_counts : (s : SearchState) → Counts 0 0 s (rewrites_back st h s)
    rewrites_counts s = by st.options.back_demod
      where
        by : (b : Bool) → Counts 0 0 s (if b then puts_back by_back_rewrite (others_held h (rewrites_clause h) s) s else s)
        by true = puts_counts by_back_rewrite h (rewrites_clause h) s
        by false = same_counts s

    rules_counts : (s : SearchState) → Counts 0 0 s (rules_back st h s)
    rules_counts s = by (becomes_rule st.greater h.clause)
      where
        by : (b : Bool) → Counts 0 0 s (if b then rewrites_back st h (record s { rules = put_in h s.rules }) else s)
        by true = rewrites_counts (record s { rules = put_in h s.rules })
        by false = same_counts s

    works_counts : (s : SearchState) → Counts 0 0 s (works_back st h s)
    works_counts s = by (has_proofs st s)
      where
        by : (b : Bool) → Counts 0 0 s (if b then s else rules_back st h (deletes_back st h (subsumes_back st h s)))
        by true = same_counts s
        by false =
            let one = subsumes_back st h s in
            let two = deletes_back st h one in
            counts_then 0 0 0 s two (rules_back st h two) (counts_then 0 0 0 s one two (subsumes_counts s) (deletes_counts one)) (rules_counts two)

  -- a clause is processed: at most one is kept, and at most one proof found
  abbrev pub Passes : SearchState → SearchState → Type 0
  Passes s t = (kept : ℕ) × (kept ≤ 1) × Counts kept 1 s t

  settled_counts : (s : SearchState) (q : Queued) → Passes s (settled st s q)
  settled_counts s q = by (is_nil q.clause) (is_no_use st s q)
    where
      line : SearchState
      line = with_line s q

      held : Held
      held = held_for s q

      proof : Counts 0 1 line (with_proof (number_for s q) line)
      proof = (refl, omega arith, omega (arith, length-append line.proofs (record { line = number_for s q; given = line.given } ∷ [])), omega arith)

      by : (empty useless : Bool)
          → Passes s (if empty then with_proof (number_for s q) line else (if useless then s else after_kept st (keeps line held q.usable) held))
      by true useless = (0, omega arith, counts_then 0 0 1 s line (with_proof (number_for s q) line) (line_counts s q) proof)
      by false true = (0, omega arith, (refl, omega arith, omega arith, omega arith))
      by false false =
          let kept = keeps line held q.usable in
          let met = unit_meets kept held in
          let (g, k, p, l) = line_counts s q in
          let (h, m, r, v) = keeps_counts line held q.usable in
          let one : Counts 1 0 s kept = (h ∙ g, omega (arith, k, m), omega (arith, p, r), omega (arith, l, v)) in
          (1, omega arith, counts_then 1 1 0 s met (works_back st held met) (counts_then 1 0 1 s kept met one (meets_counts kept held)) (works_counts held met))

  pub processed_counts : (s : SearchState) (q : Queued) → Passes s (processed st s q)
  processed_counts s q = by (is_too_large q.clause)
    where
      by : (large : Bool) → Passes s (if large then record s { large = counted_on s.large 1 } else settled st s (tidied st s q))
      by true = (0, omega arith, (refl, omega arith, omega arith, omega arith))
      by false = settled_counts s (tidied st s q)

  -- what the limits tell of a state
  abbrev pub IsTold : SearchState → Option Reason → Type 0
  IsTold s None = (length s.proofs < st.options.max_proofs) × (s.kept < st.options.max_kept) × (s.symbols < st.options.max_megs * 65536)
  IsTold s (Some r) = IsReason st s r

  pub limits_tell : (s : SearchState) → IsTold s (limit_reached st s)
  limits_tell s = by (nat_le st.options.max_proofs (length s.proofs)) refl (nat_le st.options.max_kept s.kept) refl (nat_le (st.options.max_megs * 65536) s.symbols) refl
    where
      by : (p : Bool) → nat_le st.options.max_proofs (length s.proofs) ≡ p → (k : Bool) → nat_le st.options.max_kept s.kept ≡ k → (m : Bool) → nat_le (st.options.max_megs * 65536) s.symbols ≡ m
          → IsTold s (if p then Some proved else (if k then Some kept_all else (if m then Some filled else None)))
      by true p k e m f = leb-true st.options.max_proofs (length s.proofs) p
      by false p true k m f = (leb-false st.options.max_proofs (length s.proofs) p, leb-true st.options.max_kept s.kept k)
      by false p false k true m =
          (leb-false st.options.max_proofs (length s.proofs) p, leb-false st.options.max_kept s.kept k, leb-true (st.options.max_megs * 65536) s.symbols m)
      by false p false k false m =
          (leb-false st.options.max_proofs (length s.proofs) p, leb-false st.options.max_kept s.kept k, leb-false (st.options.max_megs * 65536) s.symbols m)

  -- measures of a search that goes on
  given_open : (s : SearchState) → s.ended ≡ None → given_left st s ≡ suc (st.options.max_given - s.given)
  given_open s e = ap (λ o. if is_some o then 0 else suc (st.options.max_given - s.given)) e

  queue_open : (s : SearchState) → s.ended ≡ None → queue_left st s ≡ suc (queued_or_held s + (st.options.max_kept - s.kept))
  queue_open s e = ap (λ o. if is_some o then 0 else suc (queued_or_held s + (st.options.max_kept - s.kept))) e

  goes_on : (s : SearchState) (qs : List Queued) → s.ended ≡ None → s.queue ≡ qs → next_state st s ≡ queue_next st s qs
  goes_on s qs e f = ap (λ o. if is_some o then s else queue_next st s s.queue) e ∙ ap (λ js. queue_next st s js) f

  pub processing_adds : (s : SearchState) (q : Queued) → s.ended ≡ None
      → (queue_left st (under_limits st (processed st s q)) ≤ queue_left st s) × (given_left st (under_limits st (processed st s q)) ≤ given_left st s)
  processing_adds s q e = by (limit_reached st t) (limits_tell t)
    where
      t : SearchState
      t = processed st s q

      passes : Passes s t
      passes = processed_counts s q

      by : (o : Option Reason) → IsTold t o → (queue_left st (record t { ended = o }) ≤ queue_left st s) × (given_left st (record t { ended = o }) ≤ given_left st s)
      by None told =
          let (kept, one, (g, k, p, held)) = passes in
          let below = told.1 in
          (omega (arith, queue_open s e, below, one, k, held), omega (arith, given_open s e, g))
      by (Some r) told = (omega arith, omega arith)

  pub queue_falls : (s : SearchState) (q : Queued) (qs : List Queued) → s.ended ≡ None → s.queue ≡ q ∷ qs
      → (queue_left st (next_state st s) < queue_left st s) × (given_left st (next_state st s) ≤ given_left st s)
  queue_falls s q qs e f =
      let rest = record s { queue = qs } in
      let adds = processing_adds rest q e in
      let less : queue_left st rest < queue_left st s = omega (arith, queue_open rest e, queue_open s e, ap length f) in
      let left : given_left st rest ≡ given_left st s = given_open rest e ∙ sym (given_open s e) in
      let same = goes_on s (q ∷ qs) e f in
      subst (λ t. (queue_left st t < queue_left st s) × (given_left st t ≤ given_left st s)) (sym same) (omega (arith, adds.0, less), omega (arith, adds.1, left))

  pub giving_falls : (s : SearchState) → s.ended ≡ None → s.queue ≡ [] → given_left st (next_state st s) < given_left st s
  giving_falls s e f = subst (λ t. given_left st t < given_left st s) (sym (goes_on s [] e f)) (by (picked st.options st.weight st.is_hinted s.waiting s.turn))
    where
      enough : (p : Picked) (b : Bool) → nat_le st.options.max_given s.given ≡ b
          → given_left st (if b then record s { ended = Some gave_all } else record (gives st s p.0) { turn = p.1 }) < given_left st s
      enough p true h = omega (arith, given_open s e)
      enough p false h = omega (arith, given_open s e, given_open (record (gives st s p.0) { turn = p.1 }) e, leb-false st.options.max_given s.given h)

      by : (p : Option Picked) → given_left st (option_map_or (gives_picked st s) p (record s { ended = Some spent })) < given_left st s
      by None = omega (arith, given_open s e)
      by (Some p) = enough p (nat_le st.options.max_given s.given) refl

  -- so an end is reached
  abbrev Ends : SearchState → Type 0
  Ends s = (k : ℕ) × (is_some (after st k s).ended ≡ true)

  step_ends : (s : SearchState) → Ends (next_state st s) → Ends s
  step_ends s (k, e) = (suc k, e)

  queue_ends : (n : ℕ) → ((s : SearchState) → given_left st s ≤ n → Ends s) → (m : ℕ) (s : SearchState) → given_left st s ≤ suc n → queue_left st s ≤ m → Ends s
  queue_ends n outer zero s g q = by s.ended refl
    where
      by : (o : Option Reason) → s.ended ≡ o → Ends s
      by None e = absurd (omega (arith, queue_open s e, q))
      by (Some r) e = (0, ap is_some e)
  queue_ends n outer (suc m) s g q = by (queue_ends n outer m) s.ended refl s.queue refl
    where
      by : ((t : SearchState) → given_left st t ≤ suc n → queue_left st t ≤ m → Ends t) → (o : Option Reason) → s.ended ≡ o → (qs : List Queued) → s.queue ≡ qs → Ends s
      by inner None e [] f = step_ends s (outer (next_state st s) (omega (arith, giving_falls s e f, g)))
      by inner None e (j ∷ js) f = let falls = queue_falls s j js e f in step_ends s (inner (next_state st s) (omega (arith, falls.1, g)) (omega (arith, falls.0, q)))
      by inner (Some r) e qs f = (0, ap is_some e)

  given_ends : (n : ℕ) (s : SearchState) → given_left st s ≤ n → Ends s
  given_ends zero s g = by s.ended refl
    where
      by : (o : Option Reason) → s.ended ≡ o → Ends s
      by None e = absurd (omega (arith, given_open s e, g))
      by (Some r) e = (0, ap is_some e)
  given_ends (suc n) s g = queue_ends n (given_ends n) (queue_left st s) s g (omega arith)

  pub search_ends : (s : SearchState) → (t : SearchState) × SearchReaches st s t × (is_some t.ended ≡ true)
  search_ends s = let ends = given_ends (given_left st s) s (omega arith) in (after st ends.0 s, (ends.0, refl), ends.1)
