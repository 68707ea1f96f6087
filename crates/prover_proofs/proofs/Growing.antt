-- A step adds lines behind those of a state, and one proof at most.
use Rattle.std.proofs.Common.{◌≡◌, ◌⊎◌, ℕ, suc, inl, inr, Bool, true, false, if◌then◌else◌, refl, sym, ap, ◌∙◌, subst, List, [], ◌∷◌, ◌++◌, Option, Some, None, append_assoc}
use Rattle.std.specs.Prelude.{is_some, ◌&&◌, nat_le}
use Rattle.std.specs.Option.{option_map_or}
use Rattle.std.proofs.lemmas.List.{append-nil}
use Rattle.derivation.specs.Later.{is_unit}
use Rattle.prover_steps.specs.Clashing.{Held}
use Rattle.prover_steps.specs.Concluded.{Conclusion}
use Rattle.prover_steps.specs.Picking.{Picked, picked}
use Rattle.prover_steps.specs.Searching.{Setting, Queued, MadeLine, FoundProof, Reason, SearchState, spent, gave_all, is_nil, is_unchanged, made_line, with_line, with_proof, number_for, held_for, keeps, unit_meets, with_conflict, unit_conflicts, queued_for, subsumes_back, deletes_back, rewrites_back, rules_back, becomes_rule, put_in, has_proofs, works_back, after_kept, is_no_use, settled, is_too_large, counted_on, processed, tidied, gives, gives_picked, given_next, queue_next, next_state}

-- lines, proofs and the number of given clauses are the same
pub record IsSame (s t : SearchState) : Type 0 where
  pub lines : t.lines ≡ s.lines
  pub proofs : t.proofs ≡ s.proofs
  pub given : t.given ≡ s.given

-- there may be more lines, and no more proofs
pub record HasMoreLines (s t : SearchState) : Type 0 where
  pub more : List MadeLine
  pub lines : t.lines ≡ s.lines ++ more
  pub proofs : t.proofs ≡ s.proofs
  pub given : t.given ≡ s.given

-- no proof more, or one
abbrev pub HasOneMore : List FoundProof → List FoundProof → Type 0
HasOneMore ps qs = (qs ≡ ps) ⊎ ((p : FoundProof) × (qs ≡ ps ++ p ∷ []))

pub record IsGrown (s t : SearchState) : Type 0 where
  pub more : List MadeLine
  pub lines : t.lines ≡ s.lines ++ more
  pub proofs : HasOneMore s.proofs t.proofs
  pub given : t.given ≡ s.given

same_lines : (s t : SearchState) → IsSame s t → HasMoreLines s t
same_lines s t h = record { more = []; lines = h.lines ∙ sym (append-nil s.lines); proofs = h.proofs; given = h.given }

lines_grown : (s t : SearchState) → HasMoreLines s t → IsGrown s t
lines_grown s t h = record { more = h.more; lines = h.lines; proofs = inl h.proofs; given = h.given }

same_grown : (s t : SearchState) → IsSame s t → IsGrown s t
same_grown s t h = lines_grown s t (same_lines s t h)

itself : (s : SearchState) → IsSame s s
itself s = record { lines = refl; proofs = refl; given = refl }

then_same : (s t u : SearchState) → IsSame s t → IsSame t u → IsSame s u
then_same s t u h k = record { lines = k.lines ∙ h.lines; proofs = k.proofs ∙ h.proofs; given = k.given ∙ h.given }

grown_same : (s t u : SearchState) → IsGrown s t → IsSame t u → IsGrown s u
grown_same s t u h k = record { more = h.more; lines = k.lines ∙ h.lines; proofs = subst (λ (ps : List FoundProof). HasOneMore s.proofs ps) (sym k.proofs) h.proofs; given = k.given ∙ h.given }

lines_then : (s t u : SearchState) → HasMoreLines s t → IsGrown t u → IsGrown s u
lines_then s t u h k = record {
  more = h.more ++ k.more;
  lines = k.lines ∙ ap (λ (ls : List MadeLine). ls ++ k.more) h.lines ∙ append_assoc s.lines h.more k.more;
  proofs = subst (λ (ps : List FoundProof). HasOneMore ps u.proofs) h.proofs k.proofs;
  given = k.given ∙ h.given;
}

either_same : (s : SearchState) (b : Bool) (t u : SearchState) → IsSame s t → IsSame s u → IsSame s (if b then t else u)
either_same s true t u h k = h
either_same s false t u h k = k

line_more : (s : SearchState) (q : Queued) → HasMoreLines s (with_line s q)
line_more s q = by (is_unchanged q)
  where
    by : (b : Bool) → HasMoreLines s (if b then s else record s { lines = s.lines ++ made_line s.next q ∷ []; next = suc s.next })
    by true = same_lines s s (itself s)
    by false = record { more = made_line s.next q ∷ []; lines = refl; proofs = refl; given = refl }

proof_more : (n : ℕ) (s t : SearchState) → HasMoreLines s t → IsGrown s (with_proof n t)
proof_more n s t h = record {
  more = h.more;
  lines = h.lines;
  proofs = inr (record { line = n; given = t.given }, ap (λ (ps : List FoundProof). ps ++ record { line = n; given = t.given } ∷ []) h.proofs);
  given = h.given;
}

module _ (st : Setting) where
  subsumes_same : (h : Held) (s : SearchState) → IsSame s (subsumes_back st h s)
  subsumes_same h s = either_same s st.options.back_subsume _ s (record { lines = refl; proofs = refl; given = refl }) (itself s)

  deletes_same : (h : Held) (s : SearchState) → IsSame s (deletes_back st h s)
  deletes_same h s = either_same s (is_unit h.clause && st.options.unit_deletion) _ s (record { lines = refl; proofs = refl; given = refl }) (itself s)

  rewrites_same : (h : Held) (s : SearchState) → IsSame s (rewrites_back st h s)
  rewrites_same h s = either_same s st.options.back_demod _ s (record { lines = refl; proofs = refl; given = refl }) (itself s)

  rules_same : (h : Held) (s : SearchState) → IsSame s (rules_back st h s)
  rules_same h s =
      let t : SearchState = record s { rules = put_in h s.rules } in
      either_same s (becomes_rule st.greater h.clause) (rewrites_back st h t) s (then_same s t (rewrites_back st h t) (record { lines = refl; proofs = refl; given = refl }) (rewrites_same h t)) (itself s)

  works_same : (h : Held) (s : SearchState) → IsSame s (works_back st h s)
  works_same h s =
      let t = subsumes_back st h s in
      let u = deletes_back st h t in
      either_same s (has_proofs st s) s (rules_back st h u) (itself s)
      (then_same s u (rules_back st h u) (then_same s t u (subsumes_same h s) (deletes_same h t)) (rules_same h u))

  conflict_grown : (s : SearchState) (ns : List Conclusion) → IsGrown s (with_conflict s ns)
  conflict_grown s [] = same_grown s s (itself s)
  conflict_grown s (n ∷ ns) = proof_more s.next s (with_line s (queued_for n)) (line_more s (queued_for n))

  meets_grown : (s : SearchState) (h : Held) → IsGrown s (unit_meets s h)
  meets_grown s h = by (is_unit h.clause)
    where
      by : (b : Bool) → IsGrown s (if b then with_conflict s (unit_conflicts s h) else s)
      by true = conflict_grown s (unit_conflicts s h)
      by false = same_grown s s (itself s)

  kept_grown : (s : SearchState) (h : Held) → IsGrown s (after_kept st s h)
  kept_grown s h = grown_same s (unit_meets s h) (works_back st h (unit_meets s h)) (meets_grown s h) (works_same h (unit_meets s h))

  kept_lines : (s : SearchState) (q : Queued) → HasMoreLines s (keeps (with_line s q) (held_for s q) q.usable)
  kept_lines s q = let h = line_more s q in record { more = h.more; lines = h.lines; proofs = h.proofs; given = h.given }

  settled_grown : (s : SearchState) (q : Queued) → IsGrown s (settled st s q)
  settled_grown s q = by (is_nil q.clause) (is_no_use st s q)
    where
      by : (b c : Bool) → IsGrown s (if b then with_proof (number_for s q) (with_line s q) else (if c then s else after_kept st (keeps (with_line s q) (held_for s q) q.usable) (held_for s q)))
      by true c = proof_more (number_for s q) s (with_line s q) (line_more s q)
      by false true = same_grown s s (itself s)
      by false false =
          lines_then s (keeps (with_line s q) (held_for s q) q.usable) (after_kept st (keeps (with_line s q) (held_for s q) q.usable) (held_for s q)) (kept_lines s q)
          (kept_grown (keeps (with_line s q) (held_for s q) q.usable) (held_for s q))

  processed_grown : (s : SearchState) (q : Queued) → IsGrown s (processed st s q)
  processed_grown s q = by (is_too_large q.clause)
    where
      by : (b : Bool) → IsGrown s (if b then record s { large = counted_on s.large 1 } else settled st s (tidied st s q))
      by true = same_grown s (record s { large = counted_on s.large 1 }) (record { lines = refl; proofs = refl; given = refl })
      by false = settled_grown s (tidied st s q)

  -- giving a clause adds none of these
  pub gives_same : (s : SearchState) (p : Picked) → ((gives_picked st s p).lines ≡ s.lines) × ((gives_picked st s p).proofs ≡ s.proofs)
  gives_same s p = by (nat_le st.options.max_given s.given)
    where
      by : (b : Bool) → ((if b then record s { ended = Some gave_all } else record (gives st s p.0) { turn = p.1 }).lines ≡ s.lines) × ((if b then record s { ended = Some gave_all } else record (gives st s p.0) { turn = p.1 }).proofs ≡ s.proofs)
      by true = (refl, refl)
      by false = (refl, refl)

  pub given_same : (s : SearchState) → ((given_next st s).lines ≡ s.lines) × ((given_next st s).proofs ≡ s.proofs)
  given_same s = by (picked st.options st.weight st.is_hinted s.waiting s.turn)
    where
      by : (o : Option Picked) → ((option_map_or (gives_picked st s) o (record s { ended = Some spent })).lines ≡ s.lines) × ((option_map_or (gives_picked st s) o (record s { ended = Some spent })).proofs ≡ s.proofs)
      by None = (refl, refl)
      by (Some p) = gives_same s p

  -- a clause of the queue is processed
  pub queue_grown : (s : SearchState) (q : Queued) (qs : List Queued) → s.ended ≡ None → s.queue ≡ q ∷ qs → IsGrown s (next_state st s)
  queue_grown s q qs going queue = subst (λ (u : SearchState). IsGrown s u) (sym next) grown
    where
      next : next_state st s ≡ queue_next st s (q ∷ qs)
      next = ap (λ (o : Option Reason). if is_some o then s else queue_next st s s.queue) going ∙ ap (queue_next st s) queue

      grown : IsGrown s (queue_next st s (q ∷ qs))
      grown = let h = processed_grown (record s { queue = qs }) q in record { more = h.more; lines = h.lines; proofs = h.proofs; given = h.given }

  -- none is queued
  pub gives_next : (s : SearchState) → s.ended ≡ None → s.queue ≡ [] → next_state st s ≡ given_next st s
  gives_next s going queue = ap (λ (o : Option Reason). if is_some o then s else queue_next st s s.queue) going ∙ ap (queue_next st s) queue

  -- how many are given then: one more where a clause is picked and more may be given
  pub picked_given : (s : SearchState) (p : Picked) → picked st.options st.weight st.is_hinted s.waiting s.turn ≡ Some p → nat_le st.options.max_given s.given ≡ false → (given_next st s).given ≡ suc s.given
  picked_given s p e below =
      ap (λ (o : Option Picked). (option_map_or (gives_picked st s) o (record s { ended = Some spent })).given) e
      ∙ ap (λ (b : Bool). (if b then record s { ended = Some gave_all } else record (gives st s p.0) { turn = p.1 }).given) below

  -- and else the search has ended
  pub none_picked : (s : SearchState) → picked st.options st.weight st.is_hinted s.waiting s.turn ≡ None → (given_next st s) ≡ record s { ended = Some spent }
  none_picked s e = ap (λ (o : Option Picked). option_map_or (gives_picked st s) o (record s { ended = Some spent })) e

  pub all_given : (s : SearchState) (p : Picked) → picked st.options st.weight st.is_hinted s.waiting s.turn ≡ Some p → nat_le st.options.max_given s.given ≡ true → (given_next st s) ≡ record s { ended = Some gave_all }
  all_given s p e above =
      ap (λ (o : Option Picked). option_map_or (gives_picked st s) o (record s { ended = Some spent })) e
      ∙ ap (λ (b : Bool). if b then record s { ended = Some gave_all } else record (gives st s p.0) { turn = p.1 }) above
