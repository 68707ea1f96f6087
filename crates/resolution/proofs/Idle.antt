-- Nuclei of which nothing comes with the given clause, and partners that are no candidates.
use Rattle.std.proofs.Common.{◌≡◌, ◌⊎◌, inl, inr, ℕ, ◌<◌, ◌≤◌, Bool, true, false, not, ◌==◌, nat_lt, ◌||◌, if◌then◌else◌, List, [], ◌∷◌, ◌++◌, length, get_or, map, filter, flat_map, refl, sym, ap, ap₂, ◌∙◌, subst, eqb-true, eq-eqb}
use Rattle.std.specs.List.{list_any}
use Rattle.std.proofs.lemmas.Bool.{false≢true}
use Rattle.fol_core.specs.ClauseView.{literal_of}
use Rattle.fol_core.specs.Literals.{ClauseTree}
use Rattle.fol_core.specs.declared.clause.Literal.{Literal}
use Rattle.clause_index.specs.Numbered.{is_numbered}
use Rattle.clause_index.proofs.Numbers.{IsAmong, left_out, either_false, each_numbered}
use Rattle.proof_words.specs.Written.{by_ur}
use Rattle.prover_steps.specs.Clashing.{Held, Partner, is_same_held, clashings, clashes_of, satellites_in, places_of, places_with, has_negative, hyperresolvents_of, unit_resolvents_of}
use Rattle.prover_steps.specs.Concluded.{inferred}
use Rattle.resolution.specs.Meeting.{NeverClash}
use Rattle.resolution.specs.Opposing.{opposes, numbers_against, numbers_by, nuclei_numbers}
use Rattle.resolution.specs.Trying.{clashing_word, is_satellite, partners_in, partners_by}
use Rattle.resolution.specs.Ways.{Tried, is_tried, comes_of, StandFor, StandForEach}
use Rattle.resolution.specs.declared.partners.ClashKind.{ClashKind}
use Rattle.resolution.specs.declared.partners.ClashKind.TheVariants.{Hyper, Units}
use Rattle.resolution.proofs.AllWays.{clashes_made, units_are}
use Rattle.resolution.proofs.Clashes.{untried}
use Rattle.resolution.proofs.Going.{flat_kept, flat_none, flat_mapped, flat_flat}
use Rattle.resolution.proofs.Nucleated.{hyper_at, hyper_tried, hyper_are, units_at, units_tried, units_come}
use Rattle.resolution.proofs.Unopposed.{never_clashes, never_clash_at, never_there, turned, none_against}

-- elements of lists
in_either : {X : Type 0} (x : X) (xs ys : List X) → IsAmong x (xs ++ ys) → IsAmong x xs ⊎ IsAmong x ys
in_either x [] ys among = inr among
in_either x (y ∷ xs) ys (inl same) = inl (inl same)
in_either x (y ∷ xs) ys (inr behind) = by (in_either x xs ys behind)
  where
    by : IsAmong x xs ⊎ IsAmong x ys → IsAmong x (y ∷ xs) ⊎ IsAmong x ys
    by (inl front) = inl (inr front)
    by (inr back) = inr back

still_among : {X : Type 0} (test : X → Bool) (x : X) (xs : List X) → IsAmong x xs → test x ≡ true → IsAmong x (filter test xs)
still_among test x [] among passes = absurd among
still_among test x (y ∷ xs) among passes = by (test y) refl (λ behind. still_among test x xs behind passes) among
  where
    by : (b : Bool) → test y ≡ b → (IsAmong x xs → IsAmong x (filter test xs)) → IsAmong x (y ∷ xs) → IsAmong x (if b then y ∷ filter test xs else filter test xs)
    by true e rest (inl same) = inl same
    by true e rest (inr behind) = inr (rest behind)
    by false e rest (inl same) = absurd (false≢true (sym e ∙ ap test (sym same) ∙ passes))
    by false e rest (inr behind) = rest behind

none_of_them : {X : Type 0} (test : X → Bool) (x : X) (xs : List X) → IsAmong x xs → list_any test xs ≡ false → test x ≡ false
none_of_them test x [] among none = absurd among
none_of_them test x (y ∷ xs) (inl same) none = ap test same ∙ (either_false (test y) (list_any test xs) none).0
none_of_them test x (y ∷ xs) (inr behind) none = none_of_them test x xs behind (either_false (test y) (list_any test xs) none).1

-- a partner is a literal of a clause that may be a satellite
module _ (kind : ClashKind) where
  pub record IsLiteralOf (hs : List Held) (p : Partner) : Type 0 where
    pub among : IsAmong p.0 hs
    pub satellite : is_satellite kind p.0.clause ≡ true

  of_clause : (h : Held) (p : Partner) (ks : List ℕ) → IsAmong p (map (λ a. (h, a)) ks) → p.0 ≡ h
  of_clause h p [] among = absurd among
  of_clause h p (k ∷ ks) (inl same) = ap (λ (q : Partner). q.0) same
  of_clause h p (k ∷ ks) (inr behind) = of_clause h p ks behind

  pub literal_held : (hs : List Held) (p : Partner) → IsAmong p (partners_by kind hs) → IsLiteralOf hs p
  literal_held [] p among = absurd among
  literal_held (h ∷ hs) p among = by (is_satellite kind h.clause) refl (literal_held hs p) among
    where
      behind : IsLiteralOf hs p → IsLiteralOf (h ∷ hs) p
      behind is = record { among = inr is.among; satellite = is.satellite }

      by : (b : Bool) → is_satellite kind h.clause ≡ b → (IsAmong p (partners_by kind hs) → IsLiteralOf hs p)
          → IsAmong p (flat_map partners_in (if b then h ∷ filter (λ (k : Held). is_satellite kind k.clause) hs else filter (λ (k : Held). is_satellite kind k.clause) hs)) → IsLiteralOf (h ∷ hs) p
      by false e rest among = behind (rest among)
      by true e rest among = elim (in_either p (partners_in h) (partners_by kind hs) among) [
        | inl front ↦ let same = of_clause h p (places_of h.clause) front in record { among = inl same; satellite = ap (λ (k : Held). is_satellite kind k.clause) same ∙ e }
        | inr back ↦ behind (rest back)
      ]

  -- a nucleus that is none of the clauses of a number, and that doesn't clash with any of these, gives nothing
  module _ (hs : List Held) (g n : Held) (free : (h : Held) → IsAmong h hs → (g.number == h.number) ≡ true → is_satellite kind h.clause ≡ true → list_any (λ l. opposes l n) h.clause ≡ false) where
    not_false : (b : Bool) → not b ≡ false → b ≡ true
    not_false true e = refl
    not_false false e = cc

    others_stand : (k : ℕ) → StandFor n.clause k (filter (λ (p : Partner). not (g.number == p.0.number)) (partners_by kind hs)) (partners_by kind hs)
    others_stand k f out =
        left_out f (λ (p : Partner). not (g.number == p.0.number)) (partners_by kind hs)
        (λ p among e.
        let is = literal_held hs p among in
        out p (turned p.0.clause n.clause p.1 k (never_clashes p.0.clause n.clause n.number p.1 k (free p.0 is.among (not_false (g.number == p.0.number) e) is.satellite))))

    abbrev tries : List ℕ → List Tried
    tries ks = map (λ k. (k, filter (λ (p : Partner). not (g.number == p.0.number)) (partners_by kind hs))) ks

    all_stand : (ks : List ℕ) → StandForEach n.clause (tries ks) ks (partners_by kind hs)
    all_stand [] = tt
    all_stand (k ∷ ks) = (refl, others_stand k, all_stand ks)

    left_untried : (ps : List Partner) → list_any (λ (p : Partner). g.number == p.0.number) (filter (λ (p : Partner). not (g.number == p.0.number)) ps) ≡ false
    left_untried [] = refl
    left_untried (p ∷ ps) = by (g.number == p.0.number) refl (left_untried ps)
      where
        by : (b : Bool) → (g.number == p.0.number) ≡ b → list_any (λ (q : Partner). g.number == q.0.number) (filter (λ (q : Partner). not (g.number == q.0.number)) ps) ≡ false
            → list_any (λ (q : Partner). g.number == q.0.number) (if not b then p ∷ filter (λ (q : Partner). not (g.number == q.0.number)) ps else filter (λ (q : Partner). not (g.number == q.0.number)) ps) ≡ false
        by true e rest = rest
        by false e rest = ap₂ (λ (x y : Bool). x || y) e rest

    all_untried : (ks : List ℕ) → is_tried g.number (tries ks) ≡ false
    all_untried [] = refl
    all_untried (k ∷ ks) = ap₂ (λ (x y : Bool). x || y) (left_untried (partners_by kind hs)) (all_untried ks)

    pub idle : (ks : List ℕ) → is_same_held g n ≡ false → clashes_of (clashing_word kind) g n (clashings ks (partners_by kind hs)) ≡ []
    idle ks other =
        sym (clashes_made kind g n (tries ks) ks (partners_by kind hs) (all_stand ks))
        ∙ untried g.number (tries ks) (comes_of (clashing_word kind n.number) g.number (is_same_held g n) [] (n.clause ∷ [])) (all_untried ks)
        (λ ms none.
        ap₂ (λ (x y : Bool). if x || y then inferred (clashing_word kind n.number (satellites_in ms)) (n.clause ∷ map (λ m. m.1.0.clause) ms) else []) other none)

  -- partners of clauses that don't oppose the literal at a place aren't missed
  pub stand_of_some : (c : ClauseTree) (k : ℕ) (test : Held → Bool) (hs : List Held) → ((h : Held) → test h ≡ false → (a : ℕ) → NeverClash c k h.clause a) → StandFor c k (partners_by kind (filter test hs)) (partners_by kind hs)
  stand_of_some c k test hs never f out =
      spread (filter test hs)
      ∙ left_out (λ (h : Held). flat_map f (if is_satellite kind h.clause then partners_in h else [])) test hs (λ h among e. vanish h (is_satellite kind h.clause) (never h e))
      ∙ sym (spread hs)
    where
      spread : (ks : List Held) → flat_map f (partners_by kind ks) ≡ flat_map (λ (h : Held). flat_map f (if is_satellite kind h.clause then partners_in h else [])) ks
      spread ks = ap (flat_map f) (flat_kept (λ (h : Held). is_satellite kind h.clause) partners_in ks) ∙ flat_flat f (λ (h : Held). if is_satellite kind h.clause then partners_in h else []) ks

      vanish : (h : Held) (b : Bool) → ((a : ℕ) → NeverClash c k h.clause a) → flat_map f (if b then partners_in h else []) ≡ []
      vanish h false none = refl
      vanish h true none = flat_mapped f (λ a. (h, a)) (places_of h.clause) ∙ flat_none (λ a. f (h, a)) (places_of h.clause) (λ a. out (h, a) (none a))

  pub stand_found : (ls : List Literal) (c : ClauseTree) (k : ℕ) (l : Literal) (hs found : List Held) (few : List Partner) → map literal_of ls ≡ c → k < length ls → l ≡ get_or ls k l → found ≡ filter (opposes (literal_of l)) hs
      → StandFor c k few (partners_by kind found) → StandFor c k few (partners_by kind hs)
  stand_found ls c k l hs found few is lt at are stand f out =
      stand f out ∙ ap (λ ks. flat_map f (partners_by kind ks)) are
      ∙ stand_of_some c k (opposes (literal_of l)) hs (λ h e a. subst (λ d. NeverClash d k h.clause a) is (never_clash_at ls k l h a lt at e)) f out

  -- a place that isn't there
  pub stand_past : (ls : List Literal) (c : ClauseTree) (k : ℕ) (hs : List Held) (few : List Partner) → map literal_of ls ≡ c → length ls ≤ k → few ≡ [] → StandFor c k few (partners_by kind hs)
  stand_past ls c k hs few is past none f out =
      ap (flat_map f) none ∙ sym (flat_none f (partners_by kind hs) (λ p. out p (subst (λ d. NeverClash d k p.0.clause p.1) is (never_there ls k p.0.clause p.1 past))))

-- a clause without one of the numbers of nuclei
eq_turned : (m n : ℕ) → (m == n) ≡ false → (n == m) ≡ false
eq_turned m n e = by (n == m) refl
  where
    by : (b : Bool) → (n == m) ≡ b → (n == m) ≡ false
    by false f = f
    by true f = absurd (false≢true (sym e ∙ eq-eqb m n (sym (eqb-true n m f))))

module _ (kind : ClashKind) (hs : List Held) (g n : Held) (among : IsAmong n hs) (none : is_numbered (nuclei_numbers kind hs g.number) n ≡ false) where
  pub is_other : is_same_held g n ≡ false
  is_other = eq_turned n.number g.number (either_false (n.number == g.number) (is_numbered (flat_map (numbers_by kind hs) (filter (is_numbered (g.number ∷ [])) hs)) n) none).0

  or_false : (b : Bool) → (b || false) ≡ b
  or_false true = refl
  or_false false = refl

  pub is_free : (h : Held) → IsAmong h hs → (g.number == h.number) ≡ true → is_satellite kind h.clause ≡ true → list_any (λ l. opposes l n) h.clause ≡ false
  is_free h held same satellite =
      let numbered : is_numbered (g.number ∷ []) h ≡ true = or_false (h.number == g.number) ∙ eq-eqb h.number g.number (sym (eqb-true g.number h.number same)) in
      let each : list_any (λ k. is_numbered (numbers_by kind hs k) n) (filter (is_numbered (g.number ∷ [])) hs) ≡ false =
      sym (each_numbered (numbers_by kind hs) n (filter (is_numbered (g.number ∷ [])) hs))
      ∙ (either_false (n.number == g.number) (is_numbered (flat_map (numbers_by kind hs) (filter (is_numbered (g.number ∷ [])) hs)) n) none).1 in
      let one : is_numbered (numbers_by kind hs h) n ≡ false =
      none_of_them (λ k. is_numbered (numbers_by kind hs k) n) h (filter (is_numbered (g.number ∷ [])) hs) (still_among (is_numbered (g.number ∷ [])) h hs held numbered) each in
      none_against hs h.clause n among (ap (λ b. is_numbered (if b then numbers_against hs h.clause else []) n) (sym satellite) ∙ one)

no_hyper : (hs : List Held) (g n : Held) → IsAmong n hs → is_numbered (nuclei_numbers Hyper hs g.number) n ≡ false → hyper_tried hs g n ≡ []
no_hyper hs g n among none = by (has_negative n.clause)
  where
    by : (b : Bool) → (if b then hyper_at hs g n else []) ≡ []
    by false = refl
    by true = idle Hyper hs g n (is_free Hyper hs g n among none) (places_with false n.clause) (is_other Hyper hs g n among none)

pub hyper_left : (hs : List Held) (g : Held) → flat_map (hyper_tried hs g) (filter (is_numbered (nuclei_numbers Hyper hs g.number)) hs) ≡ hyperresolvents_of hs g
hyper_left hs g = left_out (hyper_tried hs g) (is_numbered (nuclei_numbers Hyper hs g.number)) hs (no_hyper hs g) ∙ hyper_are hs g

no_units : (hs : List Held) (g n : Held) → IsAmong n hs → is_numbered (nuclei_numbers Units hs g.number) n ≡ false → units_tried hs g n ≡ []
no_units hs g n among none = by (nat_lt 1 (length n.clause))
  where
    by : (b : Bool) → (if b then flat_map (units_at hs g n) (places_of n.clause) else []) ≡ []
    by false = refl
    by true =
        flat_none (units_at hs g n) (places_of n.clause)
        (λ left. ap (λ ps. clashes_of by_ur g n (clashings (filter (λ k. not (k == left)) (places_of n.clause)) ps)) (sym (units_are hs))
        ∙ idle Units hs g n (is_free Units hs g n among none) (filter (λ k. not (k == left)) (places_of n.clause)) (is_other Units hs g n among none))

pub units_left : (hs : List Held) (g : Held) → flat_map (units_tried hs g) (filter (is_numbered (nuclei_numbers Units hs g.number)) hs) ≡ unit_resolvents_of hs g
units_left hs g = left_out (units_tried hs g) (is_numbered (nuclei_numbers Units hs g.number)) hs (no_units hs g) ∙ units_come hs g
