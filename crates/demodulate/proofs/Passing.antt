-- Passes over a clause, from place to place.
use Rattle.std.proofs.Common.{◌≡◌, ℕ, zero, suc, ◌+◌, ◌<◌, ◌≤◌, Bool, true, false, if◌then◌else◌, length, List, [], ◌∷◌, ◌++◌, Option, Some, None, get_or, take, drop, map, refl, sym, ap, ap₂, ◌∙◌, append-nil, append_assoc, arith}
use Rattle.std.proofs.lemmas.List.{length-append, length-map, length-take-le, drop_all, take_all, take_at}
use Rattle.std.specs.Option.{option_map, option_map_or}
use Rattle.fol_core.specs.ClauseView.{literal_of}
use Rattle.fol_core.specs.Literals.{Lit, literal, ClauseTree}
use Rattle.fol_core.specs.Tree.{Tree}
use Rattle.fol_core.specs.declared.clause.Literal.{Literal}
use Rattle.inference.proofs.Placing.{with_atom_length}
use Rattle.demodulate.specs.Passes.{words_then, flips_behind, left_out_behind, FlipsOn, PassGoesOn}
use Rattle.derivation.specs.Equations.{equation, left_of, right_of}
use Rattle.derivation.specs.Later.{LaterWord, flipped, unit_deleted}
use Rattle.derivation.specs.Places.{atom_at, with_atom}
use Rattle.prover_steps.specs.Clashing.{Held}
use Rattle.prover_steps.specs.Rewriting.{Simplified, simplified, then_word}
use Rattle.prover_steps.specs.Shortening.{is_turned, flips_from, left_out, first_denying, is_denied, followed_by}

-- a clause taken apart at a place
take_next : (c : ClauseTree) (i : ℕ) (k : Lit) → i < length c → take (suc i) c ≡ take i c ++ get_or c i k ∷ []
take_next [] i k h = absurd (omega (arith, h))
take_next (l ∷ c) zero k h = refl
take_next (l ∷ c) (suc i) k h = ap (λ d. l ∷ d) (take_next c i k (omega (arith, h)))

drop_here : (c : ClauseTree) (i : ℕ) (k : Lit) → i < length c → drop i c ≡ get_or c i k ∷ drop (suc i) c
drop_here [] i k h = absurd (omega (arith, h))
drop_here (l ∷ c) zero k h = refl
drop_here (l ∷ c) (suc i) k h = drop_here c i k (omega (arith, h))

take_front : (c : ClauseTree) (i : ℕ) (d : ClauseTree) → i ≤ length c → take i (take i c ++ d) ≡ take i c
take_front c i d h = take_at (take i c) d i (length-take-le i c h)

drop_front : (c : ClauseTree) (i : ℕ) (d : ClauseTree) → i ≤ length c → drop i (take i c ++ d) ≡ d
drop_front c zero d h = refl
drop_front [] (suc i) d h = absurd (omega (arith, h))
drop_front (l ∷ c) (suc i) d h = drop_front c i d (omega (arith, h))

back_long : (c : ClauseTree) (i : ℕ) → i < length c → length (drop (suc i) c) + suc i ≡ length c
back_long [] i h = absurd (omega (arith, h))
back_long (l ∷ c) zero h = omega arith
back_long (l ∷ c) (suc i) h = let rest : length (drop (suc i) c) + suc i ≡ length c = back_long c i (omega (arith, h)) in omega (arith, rest)

-- the literal at a place, of the code
literal_there : (ls : List Literal) (i : ℕ) (l : Literal) → i < length ls → l ≡ get_or ls i l → get_or (map literal_of ls) i (literal_of l) ≡ literal_of l
literal_there [] i l h is = absurd (omega (arith, h))
literal_there (k ∷ ls) zero l h is = ap literal_of (sym is)
literal_there (k ∷ ls) (suc i) l h is = literal_there ls i l (omega (arith, h)) is

there_of : (ls : List Literal) (c : ClauseTree) → map literal_of ls ≡ c → (i : ℕ) (l : Literal) → i < length c → l ≡ get_or ls i l → get_or c i (literal_of l) ≡ literal_of l
there_of ls c view i l h is =
    let as_many : length (map literal_of ls) ≡ length ls = length-map ls literal_of in
    let same : length (map literal_of ls) ≡ length c = ap (λ d. length d) view in
    ap (λ d. get_or d i (literal_of l)) (sym view) ∙ literal_there ls i l (omega (arith, as_many, same, h)) is

module _ (out : ClauseTree → Lit → Option LaterWord) where
  out_step : (c : ClauseTree) (ws : List LaterWord) (i : ℕ) (k : Lit) → i < length c → get_or c i k ≡ k
      → left_out_behind out c ws i ≡ words_then ws (option_map_or (λ w. then_word w (left_out out (take i c) (drop (suc i) c))) (out (take i c) k) (left_out out (take i c ++ k ∷ []) (drop (suc i) c)))
  out_step c ws i k h is =
      ap (λ d. words_then ws (left_out out (take i c) d)) (drop_here c i k h ∙ ap (λ m. m ∷ drop (suc i) c) is)

  pub goes_past : (c : ClauseTree) (ws : List LaterWord) (i : ℕ) (k : Lit) → i < length c → get_or c i k ≡ k → out (take i c) k ≡ None → PassGoesOn out c ws i c ws (i + 1)
  goes_past c ws i k h is stays = record {
    same =
        let next : i + 1 ≡ suc i = omega arith in
        ap (left_out_behind out c ws) next
        ∙ ap (λ d. words_then ws (left_out out d (drop (suc i) c))) (take_next c i k h ∙ ap (λ m. take i c ++ m ∷ []) is)
        ∙ sym (out_step c ws i k h is ∙ ap (λ o. words_then ws (option_map_or (λ w. then_word w (left_out out (take i c) (drop (suc i) c))) o (left_out out (take i c ++ k ∷ []) (drop (suc i) c)))) stays);
    within = omega (arith, h);
    fewer = omega arith;
  }

  pub goes_out : (c : ClauseTree) (ws : List LaterWord) (i : ℕ) (k : Lit) (w : LaterWord) (d : ClauseTree) (vs : List LaterWord) → i < length c → get_or c i k ≡ k → out (take i c) k ≡ Some w
      → d ≡ take i c ++ drop (suc i) c → vs ≡ ws ++ w ∷ [] → PassGoesOn out c ws i d vs i
  goes_out c ws i k w d vs h is goes clause words =
      let front : length (take i c) ≡ i = length-take-le i c (omega (arith, h)) in
      let back : length (drop (suc i) c) + suc i ≡ length c = back_long c i h in
      let whole : length d ≡ length (take i c) + length (drop (suc i) c) = ap (λ e. length e) clause ∙ length-append (take i c) (drop (suc i) c) in
      record {
        same =
            ap₂ (λ e us. left_out_behind out e us i) clause words
            ∙ ap₂ (λ e f. words_then (ws ++ w ∷ []) (left_out out e f)) (take_front c i (drop (suc i) c) (omega (arith, h))) (drop_front c i (drop (suc i) c) (omega (arith, h)))
            ∙ ap (simplified (left_out out (take i c) (drop (suc i) c)).clause) (append_assoc ws (w ∷ []) (left_out out (take i c) (drop (suc i) c)).words)
            ∙ sym (out_step c ws i k h is ∙ ap (λ o. words_then ws (option_map_or (λ w. then_word w (left_out out (take i c) (drop (suc i) c))) o (left_out out (take i c ++ k ∷ []) (drop (suc i) c)))) goes);
        within = omega (arith, front, whole);
        fewer = omega (arith, front, back, whole);
      }

  pub pass_ends : (c : ClauseTree) (ws : List LaterWord) (i : ℕ) → length c ≤ i → left_out_behind out c ws i ≡ simplified c ws
  pass_ends c ws i h =
      ap (λ d. words_then ws (left_out out (take i c) d)) (drop_all i c h) ∙ ap₂ simplified (take_all i c h) (append-nil ws)

  pub pass_ended : (c : ClauseTree) (ws : List LaterWord) (i : ℕ) (s : Simplified) → length c ≤ i → left_out_behind out c ws i ≡ s → simplified c ws ≡ s
  pass_ended c ws i s h e = sym (pass_ends c ws i h) ∙ e

-- by the literals of the code
module _ (ls : List Literal) (c : ClauseTree) (view : map literal_of ls ≡ c) (i : ℕ) (l : Literal) (h : i < length c) (is : l ≡ get_or ls i l) where
  pub literal_at : get_or c i (literal_of l) ≡ literal_of l
  literal_at = there_of ls c view i l h is

  pub past_literal : (out : ClauseTree → Lit → Option LaterWord) (ws : List LaterWord) → out (take i c) (literal_of l) ≡ None → PassGoesOn out c ws i c ws (i + 1)
  past_literal out ws stays = goes_past out c ws i (literal_of l) h literal_at stays

  pub out_literal : (out : ClauseTree → Lit → Option LaterWord) (ws : List LaterWord) (w : LaterWord) (d : ClauseTree) (vs : List LaterWord) → out (take i c) (literal_of l) ≡ Some w
      → d ≡ take i c ++ drop (i + 1) c → vs ≡ ws ++ w ∷ [] → PassGoesOn out c ws i d vs i
  out_literal out ws w d vs goes clause words =
      let next : i + 1 ≡ suc i = omega arith in goes_out out c ws i (literal_of l) w d vs h literal_at goes (clause ∙ ap (λ n. take i c ++ drop n c) next) words

  front_is : length (take i c) ≡ i
  front_is = length-take-le i c (omega (arith, h))

  pub is_denied_there : (us : List Held) (o : Option ℕ) → o ≡ first_denying us (literal_of l) → is_denied us (take i c) (literal_of l) ≡ option_map (unit_deleted i) o
  is_denied_there us o e = ap (λ p. option_map (λ n. unit_deleted (length (take i c)) n) p) (sym e) ∙ ap (λ m. option_map (λ n. unit_deleted m n) o) front_is

-- exchanging sides
module _ (greater : Tree → Tree → Bool) where
  abbrev step_of_flips : ClauseTree → List LaterWord → ℕ → Lit → ClauseTree → Bool → Simplified
  step_of_flips c ws i k rest b =
      let tail = flips_from greater (suc i) rest in
      let s = if b then simplified (literal k.positive (equation (right_of k.atom) (left_of k.atom)) ∷ tail.clause) (flipped i ∷ tail.words) else simplified (k ∷ tail.clause) tail.words in
      simplified (take i c ++ s.clause) (ws ++ s.words)

  flips_step : (c : ClauseTree) (ws : List LaterWord) (i : ℕ) (k : Lit) → i < length c → get_or c i k ≡ k → flips_behind greater c ws i ≡ step_of_flips c ws i k (drop (suc i) c) (is_turned greater k)
  flips_step c ws i k h is =
      ap (λ d. simplified (take i c ++ (flips_from greater i d).clause) (ws ++ (flips_from greater i d).words)) (drop_here c i k h ∙ ap (λ m. m ∷ drop (suc i) c) is)

  pub flips_past : (c : ClauseTree) (ws : List LaterWord) (i : ℕ) (k : Lit) → i < length c → get_or c i k ≡ k → is_turned greater k ≡ false → FlipsOn greater c ws i c ws
  flips_past c ws i k h is stays = record {
    same =
        let next : i + 1 ≡ suc i = omega arith in
        ap (flips_behind greater c ws) next
        ∙ ap (λ d. simplified (d ++ (flips_from greater (suc i) (drop (suc i) c)).clause) (ws ++ (flips_from greater (suc i) (drop (suc i) c)).words)) (take_next c i k h ∙ ap (λ m. take i c ++ m ∷ []) is)
        ∙ ap (λ d. simplified d (ws ++ (flips_from greater (suc i) (drop (suc i) c)).words)) (append_assoc (take i c) (k ∷ []) (flips_from greater (suc i) (drop (suc i) c)).clause)
        ∙ sym (flips_step c ws i k h is ∙ ap (step_of_flips c ws i k (drop (suc i) c)) stays);
    as_many = refl;
  }

  take_with : (c : ClauseTree) (i : ℕ) (k : Lit) (t : Tree) → i < length c → get_or c i k ≡ k → take (suc i) (with_atom c i t) ≡ take i c ++ literal k.positive t ∷ []
  take_with [] i k t h is = absurd (omega (arith, h))
  take_with (l ∷ c) zero k t h is = ap (λ m. literal m.positive t ∷ []) is
  take_with (l ∷ c) (suc i) k t h is = ap (λ d. l ∷ d) (take_with c i k t (omega (arith, h)) is)

  drop_with : (c : ClauseTree) (i : ℕ) (t : Tree) → drop (suc i) (with_atom c i t) ≡ drop (suc i) c
  drop_with [] i t = refl
  drop_with (l ∷ c) zero t = refl
  drop_with (l ∷ c) (suc i) t = drop_with c i t

  atom_is : (c : ClauseTree) (i : ℕ) (k : Lit) → i < length c → get_or c i k ≡ k → atom_at c i ≡ k.atom
  atom_is [] i k h is = absurd (omega (arith, h))
  atom_is (l ∷ c) zero k h is = ap (λ m. m.atom) is
  atom_is (l ∷ c) (suc i) k h is = atom_is c i k (omega (arith, h)) is

  pub flips_turn : (c : ClauseTree) (ws : List LaterWord) (i : ℕ) (k : Lit) (d : ClauseTree) (vs : List LaterWord) → i < length c → get_or c i k ≡ k → is_turned greater k ≡ true
      → d ≡ with_atom c i (equation (right_of (atom_at c i)) (left_of (atom_at c i))) → vs ≡ ws ++ flipped i ∷ [] → FlipsOn greater c ws i d vs
  flips_turn c ws i k d vs h is turns clause words = record {
    same =
        let next : i + 1 ≡ suc i = omega arith in
        let new : d ≡ with_atom c i (equation (right_of k.atom) (left_of k.atom)) = clause ∙ ap (λ t. with_atom c i (equation (right_of t) (left_of t))) (atom_is c i k h is) in
        ap (flips_behind greater d vs) next ∙ ap₂ (λ e us. flips_behind greater e us (suc i)) new words
        ∙ ap₂ (λ e f. simplified (e ++ (flips_from greater (suc i) f).clause) ((ws ++ flipped i ∷ []) ++ (flips_from greater (suc i) f).words)) (take_with c i k (equation (right_of k.atom) (left_of k.atom)) h is) (drop_with c i (equation (right_of k.atom) (left_of k.atom)))
        ∙ ap₂ simplified (append_assoc (take i c) (literal k.positive (equation (right_of k.atom) (left_of k.atom)) ∷ []) (flips_from greater (suc i) (drop (suc i) c)).clause)
        (append_assoc ws (flipped i ∷ []) (flips_from greater (suc i) (drop (suc i) c)).words)
        ∙ sym (flips_step c ws i k h is ∙ ap (step_of_flips c ws i k (drop (suc i) c)) turns);
    as_many = ap (λ e. length e) clause ∙ with_atom_length c i (equation (right_of (atom_at c i)) (left_of (atom_at c i)));
  }

  pub flips_ended : (c : ClauseTree) (ws : List LaterWord) (i : ℕ) (s : Simplified) → length c ≤ i → flips_behind greater c ws i ≡ s → simplified c ws ≡ s
  flips_ended c ws i s h e =
      sym (ap (λ d. simplified (take i c ++ (flips_from greater i d).clause) (ws ++ (flips_from greater i d).words)) (drop_all i c h) ∙ ap₂ simplified (append-nil (take i c) ∙ take_all i c h) (append-nil ws)) ∙ e

-- two passes, one behind the other
pub followed_twice : (s : Simplified) (go then_go : ClauseTree → Simplified) → followed_by (followed_by s go) then_go ≡ followed_by s (λ c. followed_by (go c) then_go)
followed_twice s go then_go = ap (simplified (then_go (go s.clause).clause).clause) (append_assoc s.words (go s.clause).words (then_go (go s.clause).clause).words)
