-- A clause is given, or the search ends with that step.
use Rattle.std.proofs.Common.{◌≡◌, ◌<◌, ◌≤◌, ℕ, suc, inl, inr, Bool, true, false, not, nat_le, refl, sym, ap, ◌∙◌, subst, arith, Option, Some, None, is_some, List, [], ◌∷◌, leb-false}
use Rattle.std.proofs.lemmas.Bool.{lt-leb, true≢false}
use Rattle.ladr_io.specs.Times.{Times}
use Rattle.prover.proofs.Going.{finds_none_here, finds_none_on, finds_none_then}
use Rattle.prover.proofs.Readings.{reads_none, reads_same, reads_once, reads_given}
use Rattle.prover.specs.Answers.{IsAtGiving, FindsNone, ReadsOn, Rings}
use Rattle.prover_proofs.proofs.Growing.{given_same, gives_next, picked_given, none_picked, all_given}
use Rattle.prover_steps.specs.Clashing.{Held}
use Rattle.prover_steps.specs.Ending.{GivingFalls, PicksWhereOneWaits, given_left}
use Rattle.prover_steps.specs.HeldOrder.{IsInOrder}
use Rattle.prover_steps.specs.OrderLaws.{NextKeepsOrder}
use Rattle.prover_steps.specs.Picking.{Picked, picked}
use Rattle.prover_steps.specs.Searching.{Setting, SearchState, is_nil, given_next, next_state}

-- how many are given by the next state
module _ (picks : PicksWhereOneWaits) (st : Setting) (u : SearchState) (going : u.ended ≡ None) (queue : u.queue ≡ []) where
  abbrev pick : Option Picked
  pick = picked st.options st.weight st.is_hinted u.waiting u.turn

  some_pick : is_some pick ≡ not (is_nil u.waiting)
  some_pick = picks st.options st.weight st.is_hinted u.waiting u.turn

  none_waits : (hs : List Held) → false ≡ not (is_nil hs) → hs ≡ []
  none_waits [] e = refl
  none_waits (h ∷ hs) e = absurd (true≢false (sym e))

  pub one_more : IsAtGiving st u → (given_next st u).given ≡ suc u.given
  one_more h = by pick refl
    where
      by : (o : Option Picked) → pick ≡ o → (given_next st u).given ≡ suc u.given
      by None e = absurd (h.waiting (none_waits u.waiting (sym (ap is_some e) ∙ some_pick)))
      by (Some p) e = picked_given st u p e (lt-leb st.options.max_given u.given h.below)

  pub none_more : (IsAtGiving st u → ⊥) → (given_next st u).given ≡ u.given
  none_more never = by pick refl (nat_le st.options.max_given u.given) refl
    where
      by : (o : Option Picked) → pick ≡ o → (b : Bool) → nat_le st.options.max_given u.given ≡ b → (given_next st u).given ≡ u.given
      by None e b f = ap (λ (v : SearchState). v.given) (none_picked st u e)
      by (Some p) e true f = ap (λ (v : SearchState). v.given) (all_given st u p e f)
      by (Some p) e false f = absurd (never (record {
        going = going;
        queue = queue;
        waiting = λ w. true≢false (sym (ap is_some e) ∙ some_pick ∙ ap (λ (hs : List Held). not (is_nil hs)) w);
        below = leb-false st.options.max_given u.given f;
      }))

-- each round leaves fewer to be given
pub round_falls : GivingFalls → (st : Setting) (t u v : SearchState) → given_left st u ≤ given_left st t → u.ended ≡ None → u.queue ≡ [] → v ≡ next_state st u → given_left st v < given_left st t
round_falls falls st t u v h going queue e = omega (arith, h, subst (λ (w : SearchState). given_left st w < given_left st u) (sym e) (falls st u going queue))

-- since a state no proof was found, and so often the clock was read
pub record IsSoughtTo (st : Setting) (seconds : Option ℕ) (s t : SearchState) (times times' : Times) : Type 0 where
  pub goes : FindsNone st s t
  pub ordered : IsInOrder t
  pub rises : s.given ≤ t.given
  pub reads : ReadsOn seconds 0 s t times times'

pub none_sought : (st : Setting) (seconds : Option ℕ) (s : SearchState) (a : Times) → IsInOrder s → IsSoughtTo st seconds s s a a
none_sought st seconds s a h = record { goes = finds_none_here st s; ordered = h; rises = omega arith; reads = reads_none seconds s a }

-- the queue is processed
pub queue_sought : (st : Setting) (seconds : Option ℕ) (s t u : SearchState) (a b : Times) → IsSoughtTo st seconds s t a b → FindsNone st t u → u.given ≡ t.given → IsInOrder u → IsSoughtTo st seconds s u a b
queue_sought st seconds s t u a b h goes same ordered = record {
  goes = finds_none_then st s t u h.goes goes;
  ordered = ordered;
  rises = omega (arith, h.rises, same);
  reads = reads_same seconds 0 s t u a b same h.reads;
}

-- the readings behind a look, if there was one, and the step that follows it
pub given_sought : PicksWhereOneWaits → NextKeepsOrder → (st : Setting) (seconds : Option ℕ) (s u v : SearchState) (a b c : Times) → IsSoughtTo st seconds s u a b → u.ended ≡ None → u.queue ≡ [] → v ≡ next_state st u → Rings st seconds u b c → IsSoughtTo st seconds s v a c
given_sought picks keeps st seconds s u v a b c h going queue e rings = record {
  goes = finds_none_on st s u v h.goes e (ap (λ (w : SearchState). w.proofs) next ∙ (given_same st u).1);
  ordered = subst IsInOrder (sym e) (keeps st u h.ordered);
  rises = risen rings;
  reads = read rings;
}
  where
    next : v ≡ given_next st u
    next = e ∙ gives_next st u going queue

    more : IsAtGiving st u → v.given ≡ suc u.given
    more at = ap (λ (w : SearchState). w.given) next ∙ one_more picks st u going queue at

    same : (IsAtGiving st u → ⊥) → v.given ≡ u.given
    same never = ap (λ (w : SearchState). w.given) next ∙ none_more picks st u going queue never

    risen : Rings st seconds u b c → s.given ≤ v.given
    risen (inl x) = omega (arith, h.rises, more x.0)
    risen (inr x) = omega (arith, h.rises, same x.0)

    read : Rings st seconds u b c → ReadsOn seconds 0 s v a c
    read (inl x) = reads_given seconds 0 s u v a c (more x.0) (reads_once seconds 0 s u a b c h.rises x.1 h.reads)
    read (inr x) = reads_same seconds 0 s u v a c (same x.0) (subst (λ (t : Times). ReadsOn seconds 0 s u a t) (sym x.1) h.reads)
