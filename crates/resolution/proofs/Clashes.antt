-- Ways gone through place by place.
use Rattle.std.proofs.Common.{◌≡◌, ℕ, suc, ◌+◌, ◌<◌, ◌≤◌, Bool, true, false, ◌==◌, ◌||◌, if◌then◌else◌, IsTrue, List, [], ◌∷◌, ◌++◌, length, get_or, map, flat_map, drop, Some, refl, sym, ap, ap₂, ◌∙◌, arith, append_assoc, add-one, drop-cons}
use Rattle.std.specs.Borrow.{Bor}
use Rattle.std.specs.List.{list_any}
use Rattle.std.proofs.lemmas.List.{append-nil, drop_all, map-append}
use Rattle.fol_core.specs.Literals.{ClauseTree}
use Rattle.derivation.specs.Lines.{resolved, inference_of, clash_inference}
use Rattle.derivation.specs.Rule.{UnifiesFamily}
use Rattle.derivation.specs.Words.{clash_rule}
use Rattle.substitutions.specs.Apart.{Own}
use Rattle.derivation.specs.declared.words.Satellite.{Satellite}
use Rattle.inference.specs.Judged.{clash_of}
use Rattle.inference.specs.Lent.{lent_clauses}
use Rattle.proof_words.specs.Written.{meant, satellite}
use Rattle.prover_steps.specs.Clashing.{Partner, Clashing, satellites_in}
use Rattle.prover_steps.specs.Concluded.{Conclusion, inferred}
use Rattle.resolution.specs.Trying.{clashing_word, partner_of, all_tried}
use Rattle.resolution.specs.Ways.{Tried, ways_of, takes_number, is_tried, comes_of, IsStuck}
use Rattle.resolution.specs.declared.partners.Candidate.{Candidate}
use Rattle.resolution.specs.declared.partners.ClashKind.{ClashKind}
use Rattle.resolution.specs.declared.partners.ClashKind.TheVariants.{Hyper, Units}
use Rattle.resolution.specs.declared.partners.Meetings.{Meetings}
use Rattle.resolution.proofs.Failing.{none_concluded, none_inferred, front_concluded}
use Rattle.resolution.proofs.Going.{flat_same, flat_mapped, flat_flat}

-- what comes of the ways with one partner for a place
abbrev pub ways_with : ClashKind → ℕ → ℕ → Bool → List Satellite → List ClauseTree → ℕ → List Tried → Partner → List Conclusion
ways_with kind n g used ss cs k ts p = flat_map (λ ms. comes_of (clashing_word kind n) g used ss cs ((k, p) ∷ ms)) (ways_of ts)

-- the first place, and then the others
pub ways_first : (f : Clashing → List Conclusion) (t : Tried) (ts : List Tried) → flat_map f (ways_of (t ∷ ts)) ≡ flat_map (λ p. flat_map (λ ms. f ((t.0, p) ∷ ms)) (ways_of ts)) t.1
ways_first f t ts =
    flat_flat f (λ p. map (λ ms. (t.0, p) ∷ ms) (ways_of ts)) t.1
    ∙ flat_same (λ p. flat_map f (map (λ ms. (t.0, p) ∷ ms) (ways_of ts))) (λ p. flat_map (λ ms. f ((t.0, p) ∷ ms)) (ways_of ts)) t.1 (λ p. flat_mapped f (λ ms. (t.0, p) ∷ ms) (ways_of ts))

-- a clause that isn't tried isn't taken
none_of_either : (p q : Bool) → p || q ≡ false → (p ≡ false) × (q ≡ false)
none_of_either true q h = cc
none_of_either false q h = (refl, h)

pub untried : (g : ℕ) (ts : List Tried) (f : Clashing → List Conclusion) → is_tried g ts ≡ false → ((ms : Clashing) → takes_number g ms ≡ false → f ms ≡ []) → flat_map f (ways_of ts) ≡ []
untried g [] f h none = append-nil (f []) ∙ none [] refl
untried g (t ∷ ts) f h none =
    let parts = none_of_either (list_any (λ (p : Partner). g == p.0.number) t.1) (is_tried g ts) h in
    ways_first f t ts ∙ each t.1 parts.0 (λ p e. untried g ts (λ ms. f ((t.0, p) ∷ ms)) parts.1 (λ ms free. none ((t.0, p) ∷ ms) (ap₂ (λ x y. x || y) e free)))
  where
    each : (ps : List Partner) → list_any (λ (p : Partner). g == p.0.number) ps ≡ false → ((p : Partner) → (g == p.0.number) ≡ false → flat_map (λ ms. f ((t.0, p) ∷ ms)) (ways_of ts) ≡ [])
        → flat_map (λ p. flat_map (λ ms. f ((t.0, p) ∷ ms)) (ways_of ts)) ps ≡ []
    each [] h one = refl
    each (p ∷ ps) h one =
        let parts = none_of_either (g == p.0.number) (list_any (λ (p : Partner). g == p.0.number) ps) h in
        ap₂ (λ x y. x ++ y) (one p parts.0) (each ps parts.1 one)

module _ (kind : ClashKind) (n g : ℕ) where
  -- no place is left
  pub finish_some : (used : Bool) (ss : List Satellite) (cs : List ClauseTree) → used ≡ true → comes_of (clashing_word kind n) g used ss cs [] ≡ inferred (clashing_word kind n ss) cs
  finish_some used ss cs e =
      ap (λ b. if b || false then inferred (clashing_word kind n (ss ++ [])) (cs ++ []) else []) e ∙ ap₂ (λ x y. inferred (clashing_word kind n x) y) (append-nil ss) (append-nil cs)

  pub clash_word : (ss : List Satellite) → inference_of (meant (clashing_word kind n ss)) ≡ Some (clash_inference n ss)
  clash_word ss = by kind
    where
      by : (kind : ClashKind) → inference_of (meant (clashing_word kind n ss)) ≡ Some (clash_inference n ss)
      by Hyper = refl
      by Units = refl

  stuck_inferred : (ss ts : List Satellite) (cs ds : List ClauseTree) → length cs ≡ length ss + 1 → IsStuck ss cs → inferred (clashing_word kind n (ss ++ ts)) (cs ++ ds) ≡ []
  stuck_inferred ss ts [] ds h stuck = absurd (omega arith)
  stuck_inferred ss ts (c ∷ cs) ds h stuck =
      none_inferred (clashing_word kind n (ss ++ ts)) (clash_inference n (ss ++ ts)) (c ∷ cs ++ ds) (clash_word (ss ++ ts)) (front_concluded n ss ts c cs ds stuck.0 (omega arith) stuck.1)

  -- nor goes on
  pub stuck_comes : (used : Bool) (ss : List Satellite) (cs : List ClauseTree) (ms : Clashing) → length cs ≡ length ss + 1 → IsStuck ss cs → comes_of (clashing_word kind n) g used ss cs ms ≡ []
  stuck_comes used ss cs ms h stuck = by (used || takes_number g ms)
    where
      by : (b : Bool) → (if b then inferred (clashing_word kind n (ss ++ satellites_in ms)) (cs ++ map (λ m. m.1.0.clause) ms) else []) ≡ []
      by true = stuck_inferred ss (satellites_in ms) cs (map (λ m. m.1.0.clause) ms) h stuck
      by false = refl

  -- one partner more
  or_moved : (p q r : Bool) → (p || q) || r ≡ (p || (q || r))
  or_moved true q r = refl
  or_moved false q r = refl

  pub one_more : (used : Bool) (ss : List Satellite) (cs : List ClauseTree) (k : ℕ) (p : Partner) (ms : Clashing)
      → comes_of (clashing_word kind n) g (used || g == p.0.number) (ss ++ satellite k p.0.number p.1 ∷ []) (cs ++ p.0.clause ∷ []) ms ≡ comes_of (clashing_word kind n) g used ss cs ((k, p) ∷ ms)
  one_more used ss cs k p ms =
      ap₂ (λ b (ns : List Conclusion). if b then ns else []) (or_moved used (g == p.0.number) (takes_number g ms))
      (ap₂ (λ x y. inferred (clashing_word kind n x) y) (append_assoc ss (satellite k p.0.number p.1 ∷ []) (satellites_in ms)) (append_assoc cs (p.0.clause ∷ []) (map (λ m. m.1.0.clause) ms)))

  pub more_ways : (used : Bool) (ss : List Satellite) (cs : List ClauseTree) (k : ℕ) (p : Partner) (ts : List Tried)
      → flat_map (comes_of (clashing_word kind n) g (used || g == p.0.number) (ss ++ satellite k p.0.number p.1 ∷ []) (cs ++ p.0.clause ∷ [])) (ways_of ts)
      ≡ flat_map (λ ms. comes_of (clashing_word kind n) g used ss cs ((k, p) ∷ ms)) (ways_of ts)
  more_ways used ss cs k p ts =
      flat_same (comes_of (clashing_word kind n) g (used || g == p.0.number) (ss ++ satellite k p.0.number p.1 ∷ []) (cs ++ p.0.clause ∷ [])) (λ ms. comes_of (clashing_word kind n) g used ss cs ((k, p) ∷ ms))
      (ways_of ts) (λ ms. one_more used ss cs k p ms)

  -- the given clause doesn't take part any more
  pub unused : (used : Bool) (ss : List Satellite) (cs : List ClauseTree) (k : ℕ) (p : Partner) (ts : List Tried) → (used || g == p.0.number) || is_tried g ts ≡ false
      → flat_map (λ ms. comes_of (clashing_word kind n) g used ss cs ((k, p) ∷ ms)) (ways_of ts) ≡ []
  unused used ss cs k p ts h =
      let parts = none_of_either (used || g == p.0.number) (is_tried g ts) h in
      untried g ts (λ ms. comes_of (clashing_word kind n) g used ss cs ((k, p) ∷ ms)) parts.1
      (λ ms free. ap (λ b. if b then inferred (clashing_word kind n (ss ++ satellite k p.0.number p.1 ∷ satellites_in ms)) (cs ++ p.0.clause ∷ map (λ m. m.1.0.clause) ms) else [])
      (sym (or_moved used (g == p.0.number) (takes_number g ms)) ∙ ap₂ (λ x y. x || y) parts.0 free))

-- what is tried, as the code has it
among_seen : (g : ℕ) (cs : List Candidate) → list_any (λ (c : Candidate). g == c.held.now.number) cs ≡ list_any (λ (p : Partner). g == p.0.number) (map partner_of cs)
among_seen g [] = refl
among_seen g (c ∷ cs) = ap (λ b. g == c.held.now.number || b) (among_seen g cs)

abbrev pub tried_from : ℕ → List Meetings → ℕ → Bool
tried_from g ms i = is_tried g (all_tried (drop i ms))

drop_next : (ms : List Meetings) (i : ℕ) (m : Meetings) → i < length ms → m ≡ get_or ms i m → drop i ms ≡ m ∷ drop (i + 1) ms
drop_next ms i m h is = rw (add-one, drop-cons ms i m) (ap (λ t. t ∷ drop (suc i) ms) (sym is))

tried_step : (g : ℕ) (ms : List Meetings) (i : ℕ) (m : Meetings) (b : Bool) → i < length ms → m ≡ get_or ms i m → b ≡ list_any (λ (c : Candidate). g == c.held.now.number) m.candidates.items
    → tried_from g ms i ≡ (b || tried_from g ms (i + 1))
tried_step g ms i m b h is was =
    ap (λ ns. is_tried g (all_tried ns)) (drop_next ms i m h is) ∙ ap (λ x. x || tried_from g ms (i + 1)) (sym (among_seen g m.candidates.items) ∙ sym was)

pub tried_here : (g : ℕ) (ms : List Meetings) (i : ℕ) (m : Meetings) → i < length ms → m ≡ get_or ms i m → true ≡ list_any (λ (c : Candidate). g == c.held.now.number) m.candidates.items
    → tried_from g ms 0 ≡ tried_from g ms i → true ≡ is_tried g (all_tried ms)
tried_here g ms i m h is was from = sym (from ∙ tried_step g ms i m true h is was)

pub tried_behind : (g : ℕ) (ms : List Meetings) (i : ℕ) (m : Meetings) → i < length ms → m ≡ get_or ms i m → false ≡ list_any (λ (c : Candidate). g == c.held.now.number) m.candidates.items
    → tried_from g ms 0 ≡ tried_from g ms i → tried_from g ms 0 ≡ tried_from g ms (i + 1)
tried_behind g ms i m h is was from = from ∙ tried_step g ms i m false h is was

pub tried_end : (g : ℕ) (ms : List Meetings) (i : ℕ) → length ms ≤ i → tried_from g ms 0 ≡ tried_from g ms i → false ≡ is_tried g (all_tried ms)
tried_end g ms i h from = sym (from ∙ ap (λ ns. is_tried g (all_tried ns)) (drop_all i ms h))

-- where nothing unifies it isn't gone on
abbrev pub NeverUnified : List Satellite → List ClauseTree → Type 0
NeverUnified ss cs = IsTrue ((clash_rule (map clash_of ss)).fits cs) → (own : Own) → UnifiesFamily (clash_rule (map clash_of ss)) cs own → ⊥

pub is_stuck : (ss : List Satellite) (cs : List ClauseTree) → 0 < length ss → NeverUnified ss cs → IsStuck ss cs
is_stuck ss cs some never = (some, none_concluded (resolved 0 ss) (clash_inference 0 ss) cs refl never)

-- one clause more that is lent
pub lent_more : (bs new : List (Bor ClauseTree)) (b : Bor ClauseTree) (c : ClauseTree) → new ≡ bs ++ b ∷ [] → b.now ≡ c → lent_clauses new ≡ lent_clauses bs ++ c ∷ []
lent_more bs new b c is same = ap lent_clauses is ∙ map-append (λ (d : Bor ClauseTree). d.now) bs (b ∷ []) ∙ ap (λ d. lent_clauses bs ++ d ∷ []) same
