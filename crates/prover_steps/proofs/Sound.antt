-- The lines of each state that a search reaches are a derivation, and have what is held.
use Rattle.std.proofs.Common.{◌≡◌, ℕ, zero, suc, ◌<◌, ◌⊎◌, inl, inr, Bool, true, false, not, ◌==◌, nat_lt, nat_le, ◌&&◌, if◌then◌else◌, List, [], ◌∷◌, ◌++◌, map, Option, Some, None, is_some, unwrap_or, refl, sym, ap, subst, ◌∙◌, append-nil, append_assoc, arith}
use Rattle.std.proofs.lemmas.Bool.{and_parts}
use Rattle.std.proofs.lemmas.List.{map-append}
use Rattle.std.specs.List.{AllByRecursion, list_any, list_all}
use Rattle.std.specs.Option.{option_map, option_map_or}
use Rattle.fol_core.specs.Literals.{ClauseTree}
use Rattle.fol_core.specs.Renumbered.{renumbered}
use Rattle.fol_problem.specs.Stated.{Said}
use Rattle.substitutions.specs.Bindings.{Binding}
use Rattle.substitutions.specs.Laws.{NumbersStay}
use Rattle.unifiers.specs.Laws.{MatchesMake}
use Rattle.fol_core.specs.Free.{variables_of}
use Rattle.substitutions.specs.Occurring.{has_variable}
use Rattle.derivation.specs.Equations.{is_equation, left_of, right_of}
use Rattle.derivation.specs.Later.{LaterWord, is_unit, is_rule_equation}
use Rattle.derivation.specs.Lines.{clause, InputRow, LineTree, clause_at, IsLine, AreLines, copied}
use Rattle.derivation.specs.Places.{has_literal, atom_at}
use Rattle.derivation.specs.Rule.{InferenceRule}
use Rattle.derivation.specs.Words.{clash_rule}
use Rattle.proof_words.specs.Written.{WrittenFirst, meant, satellite, by_back_rewrite, by_back_unit_del, by_resolve}
use Rattle.prover_steps.specs.Clashing.{Held, is_same_held}
use Rattle.prover_steps.specs.Concluded.{Conclusion, inferred, unifying, left_under, conclusion_by}
use Rattle.prover_steps.specs.Picking.{Picked, picked}
use Rattle.prover_steps.specs.Rewriting.{Simplified, normal_form, is_rule_clause}
use Rattle.prover_steps.specs.SearchLaws.{line_tree_of, all_lines, EndsEmpty, IsQueuedInput, Begins, KeepsVariables, HaveNumbered, IsSoundState}
use Rattle.prover_steps.specs.Searching.{Setting, Reason, spent, gave_all, Queued, FoundProof, SearchState, is_too_large, is_nil, counted_on, put_in, put_all_in, all_held, is_unchanged, number_for, made_line, with_line, with_proof, tidied_clause, tidied, is_no_use, keeps, unit_conflicts, queued_for, with_conflict, unit_meets, retires, queued_back, puts_back, others_held, subsumes_back, deletes_back, rewrites_back, becomes_rule, rules_back, has_proofs, works_back, after_kept, held_for, settled, processed, gives, gives_picked, given_next, queue_next, next_state, after}
use Rattle.prover_steps.specs.Shortening.{denies}
use Rattle.prover_steps.specs.StepLaws.{WorksOut, HaveClause}
use Rattle.prover_steps.specs.Subsuming.{subsumes, rewrites_clause}
use Rattle.prover_steps.specs.TidyLaws.{HaveRule}
use Rattle.prover_steps.proofs.Chains.{Leading, leading_more, leads_to}
use Rattle.prover_steps.proofs.Copies.{copy_derived}
use Rattle.prover_steps.proofs.LinesMore.{clause_there, clauses_there, clause_last, lines_more}
use Rattle.prover_steps.proofs.Lists.{all_append, all_kept, all_mapped, all_flat, all_pass, all_both, all_so}
use Rattle.prover_steps.proofs.Ordering.{order_leads}
use Rattle.prover_steps.proofs.Picks.{HasPicked, picked_has}
use Rattle.prover_steps.proofs.Rewrites.{rewriting_leads}
use Rattle.prover_steps.proofs.Steps.{IsDerived, is_line, conclusions_are, inferred_is}

-- lists of clauses by their numbers
module _ (P : Held → Type 0) where
  put_has : (h : Held) (hs : List Held) → P h → AllByRecursion P hs → AllByRecursion P (put_in h hs)
  put_has h [] has all = (has, tt)
  put_has h (k ∷ ks) has all = by (nat_lt h.number k.number) (put_has h ks has all.1)
    where
      by : (b : Bool) → AllByRecursion P (put_in h ks) → AllByRecursion P (if b then h ∷ k ∷ ks else k ∷ put_in h ks)
      by true rest = (has, all)
      by false rest = (all.0, rest)

  put_all_has : (hs ks : List Held) → AllByRecursion P hs → AllByRecursion P ks → AllByRecursion P (put_all_in hs ks)
  put_all_has [] ks all more = more
  put_all_has (h ∷ hs) ks all more = put_has h (put_all_in hs ks) all.0 (put_all_has hs ks all.1 more)

below_more : (n : ℕ) (ls : List LineTree) → AllByRecursion (λ l. l.number < n) ls → AllByRecursion (λ l. l.number < suc n) ls
below_more n [] all = tt
below_more n (l ∷ ls) all = (omega (arith, all.0), below_more n ls all.1)

-- what two units make is the empty clause
conflict_empty : (n m : ℕ) (c d : ClauseTree) → is_unit c ≡ true → is_unit d ≡ true → AllByRecursion (λ k. k.clause ≡ []) (inferred (by_resolve n (satellite 0 m 0)) (c ∷ d ∷ []))
conflict_empty n m [] d one other = cc
conflict_empty n m (k ∷ l ∷ c) d one other = cc
conflict_empty n m (l ∷ []) [] one other = cc
conflict_empty n m (l ∷ []) (k ∷ j ∷ d) one other = cc
conflict_empty n m (l ∷ []) (k ∷ []) one other = by (rule.fits cs) (unifying rule cs)
  where
    rule : InferenceRule
    rule = clash_rule ((0, 0) ∷ [])

    cs : List ClauseTree
    cs = (l ∷ []) ∷ (k ∷ []) ∷ []

    by : (b : Bool) (o : Option (List Binding)) → AllByRecursion (λ k. k.clause ≡ []) (conclusion_by (by_resolve n (satellite 0 m 0)) (if b then option_map (left_under rule cs) o else None))
    by true (Some bs) = (refl, tt)
    by true None = tt
    by false o = tt

module _ (works : WorksOut) (stay : NumbersStay) (makes : MatchesMake) (ss : List Said) (rows : List InputRow) (base : List LineTree) (st : Setting) (variables : KeepsVariables st.greater) where
  -- what stands in the queue: an input clause or another one, come by a rule from lines
  record IsGood (ls : List LineTree) (q : Queued) : Type 0 where
    kind : IsQueuedInput base q ⊎ (q.input ≡ None)
    later : q.later ≡ []
    derived : IsDerived ls q.first q.clause

  record Kept (t : SearchState) : Type 0 where
    derivation : AreLines ss rows [] None (all_lines base t)
    below : AllByRecursion (λ l. l.number < t.next) (all_lines base t)
    queue : AllByRecursion (IsGood (all_lines base t)) t.queue
    waiting : AllByRecursion (HaveNumbered (all_lines base t)) t.waiting
    usable : AllByRecursion (HaveNumbered (all_lines base t)) t.usable
    rules : AllByRecursion (HaveRule (all_lines base t)) t.rules
    proofs : AllByRecursion (EndsEmpty (all_lines base t)) t.proofs

  held_has : (t : SearchState) → Kept t → AllByRecursion (HaveNumbered (all_lines base t)) (all_held t)
  held_has t k = put_all_has (HaveNumbered (all_lines base t)) t.waiting t.usable k.waiting k.usable

  clauses_have : (ls : List LineTree) (hs : List Held) → AllByRecursion (HaveNumbered ls) hs → AllByRecursion (HaveClause ls) hs
  clauses_have ls hs all = all_so (HaveNumbered ls) (HaveClause ls) (λ h has. has.0) hs all

  -- with one line more, what was so is so
  module _ (ls : List LineTree) (l : LineTree) where
    derived_more : (w : WrittenFirst) (c : ClauseTree) → IsDerived ls w c → IsDerived (ls ++ l ∷ []) w c
    derived_more w c d = record { by = d.by; clauses = d.clauses; is = d.is; are = clauses_there ls (l ∷ []) d.by.parents d.clauses d.are; fits = d.fits; concludes = d.concludes }

    good_more : (q : Queued) → IsGood ls q → IsGood (ls ++ l ∷ []) q
    good_more q g = record { kind = g.kind; later = g.later; derived = derived_more q.first q.clause g.derived }

    has_more : (h : Held) → HaveNumbered ls h → HaveNumbered (ls ++ l ∷ []) h
    has_more h has = (clause_there ls (l ∷ []) h.number h.clause has.0, has.1)

    rule_more : (h : Held) → HaveRule ls h → HaveRule (ls ++ l ∷ []) h
    rule_more h has = (clause_there ls (l ∷ []) h.number h.clause has.0, has.1)

    proof_more : (p : FoundProof) → EndsEmpty ls p → EndsEmpty (ls ++ l ∷ []) p
    proof_more p has = clause_there ls (l ∷ []) p.line [] has

  -- the lines with one that is made under the next number
  lines_with : (t : SearchState) (q : Queued) → all_lines base t ++ line_tree_of (made_line t.next q) ∷ [] ≡ base ++ map line_tree_of (t.lines ++ made_line t.next q ∷ [])
  lines_with t q =
      append_assoc base (map line_tree_of t.lines) (line_tree_of (made_line t.next q) ∷ [])
      ∙ ap (λ ls. base ++ ls) (sym (map-append line_tree_of t.lines (made_line t.next q ∷ [])))

  -- a state with a line under a number that has the clause
  record HasLine (t : SearchState) (n : ℕ) (c : ClauseTree) : Type 0 where
    kept : Kept t
    has : clause_at (all_lines base t) n ≡ Some c

  -- a line more
  module _ (t : SearchState) (q : Queued) (k : Kept t) (is : IsLine ss rows (all_lines base t) (meant q.first) q.later (clause q.clause)) where
    made_kept : Kept (record t { lines = t.lines ++ made_line t.next q ∷ []; next = suc t.next })
    made_kept = record {
      derivation =
          subst (λ ls. AreLines ss rows [] None ls) (lines_with t q) (lines_more ss rows [] None (all_lines base t) (line_tree_of (made_line t.next q)) k.derivation tt k.below is);
      below =
          subst (λ ls. AllByRecursion (λ l. l.number < suc t.next) ls) (lines_with t q)
          (all_append (λ l. l.number < suc t.next) (all_lines base t) (line_tree_of (made_line t.next q) ∷ []) (below_more t.next (all_lines base t) k.below) (omega arith, tt));
      queue =
          subst (λ ls. AllByRecursion (IsGood ls) t.queue) (lines_with t q)
          (all_so (IsGood (all_lines base t)) (IsGood (all_lines base t ++ line_tree_of (made_line t.next q) ∷ [])) (good_more (all_lines base t) (line_tree_of (made_line t.next q))) t.queue k.queue);
      waiting =
          subst (λ ls. AllByRecursion (HaveNumbered ls) t.waiting) (lines_with t q)
          (all_so (HaveNumbered (all_lines base t)) (HaveNumbered (all_lines base t ++ line_tree_of (made_line t.next q) ∷ [])) (has_more (all_lines base t) (line_tree_of (made_line t.next q))) t.waiting k.waiting);
      usable =
          subst (λ ls. AllByRecursion (HaveNumbered ls) t.usable) (lines_with t q)
          (all_so (HaveNumbered (all_lines base t)) (HaveNumbered (all_lines base t ++ line_tree_of (made_line t.next q) ∷ [])) (has_more (all_lines base t) (line_tree_of (made_line t.next q))) t.usable k.usable);
      rules =
          subst (λ ls. AllByRecursion (HaveRule ls) t.rules) (lines_with t q)
          (all_so (HaveRule (all_lines base t)) (HaveRule (all_lines base t ++ line_tree_of (made_line t.next q) ∷ [])) (rule_more (all_lines base t) (line_tree_of (made_line t.next q))) t.rules k.rules);
      proofs =
          subst (λ ls. AllByRecursion (EndsEmpty ls) t.proofs) (lines_with t q)
          (all_so (EndsEmpty (all_lines base t)) (EndsEmpty (all_lines base t ++ line_tree_of (made_line t.next q) ∷ [])) (proof_more (all_lines base t) (line_tree_of (made_line t.next q))) t.proofs k.proofs);
    }

    made_has : clause_at (all_lines base (record t { lines = t.lines ++ made_line t.next q ∷ []; next = suc t.next })) t.next ≡ Some q.clause
    made_has = subst (λ ls. clause_at ls t.next ≡ Some q.clause) (lines_with t q) (clause_last (all_lines base t) (line_tree_of (made_line t.next q)) k.below)

  -- a clause that is come by its words, and has a line already where it is as it was
  record IsTidy (ls : List LineTree) (q : Queued) : Type 0 where
    line : IsLine ss rows ls (meant q.first) q.later (clause q.clause)
    same : is_unchanged q ≡ true → clause_at ls (unwrap_or q.input 0) ≡ Some q.clause
    numbered : renumbered q.clause ≡ q.clause

  with_line_has : (t : SearchState) (q : Queued) → Kept t → IsTidy (all_lines base t) q → HasLine (with_line t q) (number_for t q) q.clause
  with_line_has t q k tidy = by (is_unchanged q) refl
    where
      by : (b : Bool) → is_unchanged q ≡ b → HasLine (if b then t else record t { lines = t.lines ++ made_line t.next q ∷ []; next = suc t.next }) (if b then unwrap_or q.input 0 else t.next) q.clause
      by true e = record { kept = k; has = tidy.same e }
      by false e = record { kept = made_kept t q k tidy.line; has = made_has t q k tidy.line }

  -- what comes of a clause of the queue
  tidied_is : (t : SearchState) (q : Queued) → Kept t → IsGood (all_lines base t) q → IsTidy (all_lines base t) (tidied st t q)
  tidied_is t q k g = record {
    line = is_line ss rows ls (meant q.first) g.derived.by words (clause (renumbered end)) g.derived.is (g.derived.clauses, q.clause, g.derived.are, g.derived.fits, g.derived.concludes, leads_to ls stay words q.clause end leads);
    same = same g.kind;
    numbered = stay end;
  }
    where
      ls : List LineTree
      ls = all_lines base t

      words : List LaterWord
      words = (tidied_clause st t q.clause).words

      end : ClauseTree
      end = (tidied_clause st t q.clause).clause

      first : Simplified
      first = normal_form is_too_large t.rules st.options.demod_step_limit q.clause

      leads : Leading ls words q.clause end
      leads =
          leading_more ls first.words _ q.clause first.clause _ (rewriting_leads makes ls t.rules k.rules is_too_large st.options.demod_step_limit q.clause)
          (order_leads ls makes st.greater st.options.unit_deletion (all_held t) first.clause (clauses_have ls (all_held t) (held_has t k)))

      unled : (ws : List LaterWord) → is_nil ws ≡ true → Leading ls ws q.clause end → q.clause ≡ end
      unled [] e same = same
      unled (w ∷ ws) e same = cc

      same : IsQueuedInput base q ⊎ (q.input ≡ None) → is_unchanged (tidied st t q) ≡ true → clause_at ls (unwrap_or q.input 0) ≡ Some (renumbered end)
      same (inl input) e =
          let none = and_parts (is_some q.input) (is_nil words) e in
          ap (λ o. clause_at ls (unwrap_or o 0)) input.input ∙ clause_there base (map line_tree_of t.lines) input.number q.clause input.line
          ∙ ap Some (sym input.numbered ∙ ap renumbered (unled words none.1 leads))
      same (inr none) e = (let f = and_parts (is_some q.input) (is_nil words) e in let g = sym f.0 ∙ ap is_some none in cc)

  -- a proof more
  proof_kept : (t : SearchState) (n : ℕ) → HasLine t n [] → Kept (with_proof n t)
  proof_kept t n h = record {
    derivation = h.kept.derivation;
    below = h.kept.below;
    queue = h.kept.queue;
    waiting = h.kept.waiting;
    usable = h.kept.usable;
    rules = h.kept.rules;
    proofs = all_append (EndsEmpty (all_lines base t)) t.proofs _ h.kept.proofs (h.has, tt);
  }

  -- a clause that is kept
  keeps_kept : (t : SearchState) (h : Held) (u : Bool) → Kept t → HaveNumbered (all_lines base t) h → Kept (keeps t h u)
  keeps_kept t h true k has = record {
    derivation = k.derivation;
    below = k.below;
    queue = k.queue;
    waiting = k.waiting;
    usable = put_has (HaveNumbered (all_lines base t)) h t.usable has k.usable;
    rules = k.rules;
    proofs = k.proofs;
  }
  keeps_kept t h false k has = record {
    derivation = k.derivation;
    below = k.below;
    queue = k.queue;
    waiting = put_has (HaveNumbered (all_lines base t)) h t.waiting has k.waiting;
    usable = k.usable;
    rules = k.rules;
    proofs = k.proofs;
  }

  -- a clause in a state that goes on
  record Holds (t : SearchState) (h : Held) : Type 0 where
    kept : Kept t
    has : HaveNumbered (all_lines base t) h

  -- units that meet
  conflict_kept : (t : SearchState) (h : Held) (ns : List Conclusion) → Holds t h → AllByRecursion (λ n. IsDerived (all_lines base t) n.first n.clause × (n.clause ≡ [])) ns → Holds (with_conflict t ns) h
  conflict_kept t h [] o are = o
  conflict_kept t h (n ∷ ns) o are =
      let d = are.0.0 in
      let q = queued_for n in
      let is = is_line ss rows (all_lines base t) (meant n.first) d.by [] (clause n.clause) d.is (d.clauses, n.clause, d.are, d.fits, d.concludes, refl) in
      let kept = made_kept t q o.kept is in
      let has = made_has t q o.kept is in
      record {
        kept = proof_kept (with_line t q) t.next (record { kept = kept; has = has ∙ ap Some are.0.1 });
        has = (subst (λ ls. clause_at ls h.number ≡ Some h.clause) (lines_with t q) (clause_there (all_lines base t) (line_tree_of (made_line t.next q) ∷ []) h.number h.clause o.has.0), o.has.1);
      }

  meets_kept : (t : SearchState) (h : Held) → Holds t h → Holds (unit_meets t h) h
  meets_kept t h o = by (is_unit h.clause) refl
    where
      each : is_unit h.clause ≡ true → (u : Held) → HaveNumbered (all_lines base t) u × (is_unit u.clause ≡ true)
          → AllByRecursion (λ n. IsDerived (all_lines base t) n.first n.clause × (n.clause ≡ [])) (inferred (by_resolve h.number (satellite 0 u.number 0)) (h.clause ∷ u.clause ∷ []))
      each one u other =
          all_both (λ n. IsDerived (all_lines base t) n.first n.clause) (λ n. n.clause ≡ []) _
          (inferred_is works (all_lines base t) (λ n. IsDerived (all_lines base t) n.first n.clause) (λ n d. d) (by_resolve h.number (satellite 0 u.number 0)) _ (h.clause ∷ u.clause ∷ []) refl (o.has.0, (other.0.0, tt)))
          (conflict_empty h.number u.number h.clause u.clause one other.1)

      by : (b : Bool) → is_unit h.clause ≡ b → Holds (if b then with_conflict t (unit_conflicts t h) else t) h
      by true one =
          conflict_kept t h (unit_conflicts t h) o
          (all_flat (λ u. HaveNumbered (all_lines base t) u × (is_unit u.clause ≡ true)) (λ n. IsDerived (all_lines base t) n.first n.clause × (n.clause ≡ [])) _ (each one) _
          (all_pass (HaveNumbered (all_lines base t)) (λ u. is_unit u.clause) (all_held t) (held_has t o.kept)))
      by false one = o

  -- clauses that are retired, and put back
  others_have : (t : SearchState) (h : Held) (test : ClauseTree → Bool) → Kept t → AllByRecursion (HaveNumbered (all_lines base t)) (others_held h test t)
  others_have t h test k = all_kept (HaveNumbered (all_lines base t)) (λ d. not (is_same_held h d) && test d.clause) (all_held t) (held_has t k)

  retires_kept : (t : SearchState) (h : Held) (gone : List Held) → Holds t h → Holds (retires gone t) h
  retires_kept t h gone o = record {
    kept = record {
      derivation = o.kept.derivation;
      below = o.kept.below;
      queue = o.kept.queue;
      waiting = all_kept (HaveNumbered (all_lines base t)) (λ h. not (list_any (is_same_held h) gone)) t.waiting o.kept.waiting;
      usable = all_kept (HaveNumbered (all_lines base t)) (λ h. not (list_any (is_same_held h) gone)) t.usable o.kept.usable;
      rules = all_kept (HaveRule (all_lines base t)) (λ h. not (list_any (is_same_held h) gone)) t.rules o.kept.rules;
      proofs = o.kept.proofs;
    };
    has = o.has;
  }

  puts_kept : (word : ℕ → WrittenFirst) → ((n : ℕ) → meant (word n) ≡ copied n) → (t : SearchState) (h : Held) (gone : List Held) → AllByRecursion (HaveNumbered (all_lines base t)) gone → Holds t h → Holds (puts_back word gone t) h
  puts_kept word means t h gone all o =
      let r = retires_kept t h gone o in
      record {
        kept = record {
          derivation = r.kept.derivation;
          below = r.kept.below;
          queue =
              all_append (IsGood (all_lines base t)) t.queue (map (queued_back word) gone) o.kept.queue
              (all_mapped (HaveNumbered (all_lines base t)) (IsGood (all_lines base t)) (queued_back word)
              (λ d has. record { kind = inr refl; later = refl; derived = copy_derived (all_lines base t) (word d.number) d.number d.clause (means d.number) has.0 has.1 }) gone all);
          waiting = r.kept.waiting;
          usable = r.kept.usable;
          rules = r.kept.rules;
          proofs = r.kept.proofs;
        };
        has = r.has;
      }

  rule_kept : (t : SearchState) (h : Held) → Holds t h → is_rule_clause h.clause ≡ true → Holds (record t { rules = put_in h t.rules }) h
  rule_kept t h o is = record {
    kept = record {
      derivation = o.kept.derivation;
      below = o.kept.below;
      queue = o.kept.queue;
      waiting = o.kept.waiting;
      usable = o.kept.usable;
      rules = put_has (HaveRule (all_lines base t)) h t.rules (o.has.0, is) o.kept.rules;
      proofs = o.kept.proofs;
    };
    has = o.has;
  }

  becomes_is : (c : ClauseTree) → becomes_rule st.greater c ≡ true → is_rule_clause c ≡ true
  becomes_is c h =
      let one = and_parts (is_unit c) _ h in
      let two = and_parts (has_literal true c 0) _ one.1 in
      let three = and_parts (is_equation (atom_at c 0)) _ two.1 in
      ap (λ b. b && (has_literal true c 0 && is_rule_equation (atom_at c 0))) one.0
      ∙ ap (λ b. b && is_rule_equation (atom_at c 0)) two.0
      ∙ ap (λ b. b && list_all (λ x. has_variable x (left_of (atom_at c 0))) (variables_of (right_of (atom_at c 0)))) three.0
      ∙ variables (left_of (atom_at c 0)) (right_of (atom_at c 0)) three.1

  module _ (h : Held) where
    subsumes_kept : (t : SearchState) → Holds t h → Holds (subsumes_back st h t) h
    subsumes_kept t o = by st.options.back_subsume
      where
        by : (b : Bool) → Holds (if b then retires (others_held h (subsumes h.clause) t) t else t) h
        by true = retires_kept t h (others_held h (subsumes h.clause) t) o
        by false = o

    deletes_kept : (t : SearchState) → Holds t h → Holds (deletes_back st h t) h
    deletes_kept t o = by (is_unit h.clause && st.options.unit_deletion)
      where
        by : (b : Bool) → Holds (if b then puts_back by_back_unit_del (others_held h (list_any (denies h)) t) t else t) h
        by true = puts_kept by_back_unit_del (λ n. refl) t h (others_held h (list_any (denies h)) t) (others_have t h (list_any (denies h)) o.kept) o
        by false = o

    rewrites_kept : (t : SearchState) → Holds t h → Holds (rewrites_back st h t) h
    rewrites_kept t o = by st.options.back_demod
      where
        by : (b : Bool) → Holds (if b then puts_back by_back_rewrite (others_held h (rewrites_clause h) t) t else t) h
        by true = puts_kept by_back_rewrite (λ n. refl) t h (others_held h (rewrites_clause h) t) (others_have t h (rewrites_clause h) o.kept) o
        by false = o

    rules_kept : (t : SearchState) → Holds t h → Holds (rules_back st h t) h
    rules_kept t o = by (becomes_rule st.greater h.clause) refl
      where
        by : (b : Bool) → becomes_rule st.greater h.clause ≡ b → Holds (if b then rewrites_back st h (record t { rules = put_in h t.rules }) else t) h
        by true e = rewrites_kept (record t { rules = put_in h t.rules }) (rule_kept t h o (becomes_is h.clause e))
        by false e = o

    works_kept : (t : SearchState) → Holds t h → Holds (works_back st h t) h
    works_kept t o = by (has_proofs st t)
      where
        by : (b : Bool) → Holds (if b then t else rules_back st h (deletes_back st h (subsumes_back st h t))) h
        by true = o
        by false = rules_kept (deletes_back st h (subsumes_back st h t)) (deletes_kept (subsumes_back st h t) (subsumes_kept t o))

  settled_kept : (s : SearchState) (q : Queued) → Kept s → IsTidy (all_lines base s) q → Kept (settled st s q)
  settled_kept s q k tidy = by (is_nil q.clause) refl (is_no_use st s q)
    where
      is_empty : (c : ClauseTree) → is_nil c ≡ true → c ≡ []
      is_empty [] e = refl
      is_empty (l ∷ c) e = cc

      line : HasLine (with_line s q) (number_for s q) q.clause
      line = with_line_has s q k tidy

      holds : (u : Bool) → Holds (keeps (with_line s q) (held_for s q) u) (held_for s q)
      holds true = record { kept = keeps_kept (with_line s q) (held_for s q) true line.kept (line.has, tidy.numbered); has = (line.has, tidy.numbered) }
      holds false = record { kept = keeps_kept (with_line s q) (held_for s q) false line.kept (line.has, tidy.numbered); has = (line.has, tidy.numbered) }

      kept : Kept (after_kept st (keeps (with_line s q) (held_for s q) q.usable) (held_for s q))
      kept = (works_kept (held_for s q) _ (meets_kept (keeps (with_line s q) (held_for s q) q.usable) (held_for s q) (holds q.usable))).kept

      by : (empty : Bool) → is_nil q.clause ≡ empty → (useless : Bool)
          → Kept (if empty then with_proof (number_for s q) (with_line s q) else (if useless then s else after_kept st (keeps (with_line s q) (held_for s q) q.usable) (held_for s q)))
      by true e useless = proof_kept (with_line s q) (number_for s q) (record { kept = line.kept; has = line.has ∙ ap Some (is_empty q.clause e) })
      by false e true = k
      by false e false = kept

  processed_kept : (s : SearchState) (q : Queued) → Kept s → IsGood (all_lines base s) q → Kept (processed st s q)
  processed_kept s q k good = by (is_too_large q.clause)
    where
      by : (large : Bool) → Kept (if large then record s { large = counted_on s.large 1 } else settled st s (tidied st s q))
      by true = record { derivation = k.derivation; below = k.below; queue = k.queue; waiting = k.waiting; usable = k.usable; rules = k.rules; proofs = k.proofs }
      by false = settled_kept s (tidied st s q) k (tidied_is s q k good)

  gives_kept : (s : SearchState) (p : Picked) → Kept s → HaveNumbered (all_lines base s) p.0 → Kept (record (gives st s p.0) { turn = p.1 })
  gives_kept s p k has = record {
    derivation = k.derivation;
    below = k.below;
    queue =
        all_mapped (λ n. IsDerived (all_lines base s) n.first n.clause) (IsGood (all_lines base s)) queued_for (λ n d. record { kind = inr refl; later = refl; derived = d }) _
        (conclusions_are works (all_lines base s) (λ n. IsDerived (all_lines base s) n.first n.clause) (λ n d. d) st.rules st.greater (put_in p.0 s.usable) p.0 (clauses_have (all_lines base s) _ used) has.0);
    waiting = all_kept (HaveNumbered (all_lines base s)) (λ h. not (h.number == p.0.number)) s.waiting k.waiting;
    usable = used;
    rules = k.rules;
    proofs = k.proofs;
  }
    where
      used : AllByRecursion (HaveNumbered (all_lines base s)) (put_in p.0 s.usable)
      used = put_has (HaveNumbered (all_lines base s)) p.0 s.usable has k.usable

  ended_kept : (s : SearchState) (r : Option Reason) → Kept s → Kept (record s { ended = r })
  ended_kept s r k = record { derivation = k.derivation; below = k.below; queue = k.queue; waiting = k.waiting; usable = k.usable; rules = k.rules; proofs = k.proofs }

  given_kept : (s : SearchState) → Kept s → Kept (given_next st s)
  given_kept s k = by (picked st.options st.weight st.is_hinted s.waiting s.turn) (picked_has (HaveNumbered (all_lines base s)) st.weight st.options s.waiting k.waiting st.is_hinted s.turn)
    where
      by : (p : Option Picked) → HasPicked (HaveNumbered (all_lines base s)) st.weight p → Kept (option_map_or (gives_picked st s) p (record s { ended = Some spent }))
      by None has = ended_kept s (Some spent) k
      by (Some p) has = enough (nat_le st.options.max_given s.given)
        where
          enough : (b : Bool) → Kept (if b then record s { ended = Some gave_all } else record (gives st s p.0) { turn = p.1 })
          enough true = ended_kept s (Some gave_all) k
          enough false = gives_kept s p k has

  queue_kept : (s : SearchState) (qs : List Queued) → Kept s → AllByRecursion (IsGood (all_lines base s)) qs → Kept (queue_next st s qs)
  queue_kept s [] k good = given_kept s k
  queue_kept s (q ∷ qs) k good =
      let rest = record s { queue = qs } in
      let has : Kept rest = record { derivation = k.derivation; below = k.below; queue = good.1; waiting = k.waiting; usable = k.usable; rules = k.rules; proofs = k.proofs } in
      ended_kept (processed st rest q) _ (processed_kept rest q has good.0)

  next_kept : (s : SearchState) → Kept s → Kept (next_state st s)
  next_kept s k = by (is_some s.ended)
    where
      by : (b : Bool) → Kept (if b then s else queue_next st s s.queue)
      by true = k
      by false = queue_kept s s.queue k k.queue

  after_steps : (n : ℕ) (s : SearchState) → Kept s → Kept (after st n s)
  after_steps zero s k = k
  after_steps (suc n) s k = after_steps n (next_state st s) (next_kept s k)

  begins_kept : (s : SearchState) → Begins ss rows base s → Kept s
  begins_kept s b = record {
    derivation = subst (λ ls. AreLines ss rows [] None ls) (sym same) b.derivation;
    below = subst (λ ls. AllByRecursion (λ l. l.number < s.next) ls) (sym same) b.below;
    queue = subst (λ ls. AllByRecursion (IsGood ls) s.queue) (sym same) (inputs s.queue b.queue);
    waiting = subst (λ hs. AllByRecursion (HaveNumbered (all_lines base s)) hs) (sym b.waiting) tt;
    usable = subst (λ hs. AllByRecursion (HaveNumbered (all_lines base s)) hs) (sym b.usable) tt;
    rules = subst (λ ls. AllByRecursion (HaveRule ls) s.rules) (sym same) b.rules;
    proofs = subst (λ ps. AllByRecursion (EndsEmpty (all_lines base s)) ps) (sym b.proofs) tt;
  }
    where
      same : all_lines base s ≡ base
      same = ap (λ ls. base ++ map line_tree_of ls) b.lines ∙ append-nil base

      inputs : (qs : List Queued) → AllByRecursion (IsQueuedInput base) qs → AllByRecursion (IsGood base) qs
      inputs [] all = tt
      inputs (q ∷ qs) all =
          (record { kind = inl all.0; later = all.0.later; derived = copy_derived base q.first all.0.number q.clause (ap meant all.0.first) all.0.line all.0.numbered }, inputs qs all.1)

  pub reached_sound : (s t : SearchState) → Begins ss rows base s → (n : ℕ) → after st n s ≡ t → IsSoundState ss rows base t
  reached_sound s t b n e =
      let k : Kept t = subst (λ u. Kept u) e (after_steps n s (begins_kept s b)) in
      record {
        derivation = k.derivation;
        below = k.below;
        waiting = k.waiting;
        usable = k.usable;
        rules = k.rules;
        proofs = k.proofs;
      }

module _ (st : Setting) where
  stays : (k : ℕ) (s : SearchState) → is_some s.ended ≡ true → after st k s ≡ s
  stays zero s e = refl
  stays (suc k) s e = ap (λ b. after st k (if b then s else queue_next st s s.queue)) e ∙ stays k s e

  pub ends_once : (j k : ℕ) (s : SearchState) → is_some (after st j s).ended ≡ true → is_some (after st k s).ended ≡ true → after st j s ≡ after st k s
  ends_once zero k s e f = sym (stays k s e)
  ends_once (suc j) zero s e f = stays (suc j) s f
  ends_once (suc j) (suc k) s e f = ends_once j k (next_state st s) e f
