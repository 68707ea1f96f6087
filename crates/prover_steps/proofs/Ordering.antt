-- Putting a clause in order goes by words of a derivation.
use Rattle.std.proofs.Common.{◌≡◌, ℕ, suc, ◌<◌, ◌⊎◌, inl, inr, Bool, true, false, not, ◌&&◌, ◌||◌, if◌then◌else◌, length, List, [], ◌∷◌, ◌++◌, Option, Some, None, is_some, slice_get, unwrap_or, refl, sym, ap, subst, ◌∙◌, append-nil, append_assoc, arith}
use Rattle.std.proofs.lemmas.Bool.{and_parts, or_cases, or_right, false≢true}
use Rattle.std.proofs.lemmas.List.{length-append}
use Rattle.std.specs.List.{AllByRecursion, list_any}
use Rattle.std.specs.Option.{option_map, option_map_or}
use Rattle.fol_core.specs.Literals.{Lit, literal, ClauseTree}
use Rattle.fol_core.specs.Tree.{Tree}
use Rattle.substitutions.specs.Bindings.{Binding, by_bindings}
use Rattle.unifiers.specs.Laws.{MatchesMake}
use Rattle.unifiers.specs.Matching.{matched}
use Rattle.derivation.specs.Equations.{equation, is_equation, left_of, right_of}
use Rattle.derivation.specs.Later.{LaterWord, flipped, merged, reflexive, unit_deleted, is_unit}
use Rattle.derivation.specs.Lines.{LineTree, clause_at}
use Rattle.derivation.specs.Places.{same_sign, has_literal, atom_at, with_atom, are_opposite}
use Rattle.derivation.proofs.PlaceLemmas.{sign_same}
use Rattle.unifiers.proofs.MatchesFound.{tree_same}
use Rattle.prover_steps.specs.Clashing.{Held}
use Rattle.prover_steps.specs.Rewriting.{Simplified, simplified, then_word}
use Rattle.prover_steps.specs.Shortening.{is_turned, flips_from, left_out, same_literal, is_merged, is_false_equation, is_left_out, denies, first_denying, is_denied, followed_by, put_in_order}
use Rattle.prover_steps.specs.StepLaws.{HaveClause}
use Rattle.prover_steps.proofs.Chains.{Word, Leading, leading_more, atom_behind, sign_behind, place_behind, with_behind, get_behind, get_front, others_behind}

module _ (ls : List LineTree) where
  -- one literal further
  shift : (done : ClauseTree) (l : Lit) (c d : ClauseTree) (ws : List LaterWord) → Leading ls ws ((done ++ l ∷ []) ++ c) ((done ++ l ∷ []) ++ d) → Leading ls ws (done ++ l ∷ c) (done ++ l ∷ d)
  shift done l c d ws h =
      subst (λ a. Leading ls ws a (done ++ l ∷ d)) (append_assoc done (l ∷ []) c)
      (subst (λ b. Leading ls ws ((done ++ l ∷ []) ++ c) b) (append_assoc done (l ∷ []) d) h)

  flips_lead : (greater : Tree → Tree → Bool) (done : ClauseTree) (a : ℕ) (c : ClauseTree) → length done ≡ a
      → Leading ls (flips_from greater a c).words (done ++ c) (done ++ (flips_from greater a c).clause)
  flips_lead greater done a [] e = refl
  flips_lead greater done a (l ∷ c) e = by (is_turned greater l) refl (λ k same. flips_lead greater (done ++ k ∷ []) (suc a) c same)
    where
      rest : Simplified
      rest = flips_from greater (suc a) c

      turned : Lit
      turned = literal l.positive (equation (right_of l.atom) (left_of l.atom))

      longer : (k : Lit) → length (done ++ k ∷ []) ≡ suc a
      longer k = length-append done (k ∷ []) ∙ omega (arith, e)

      word : is_turned greater l ≡ true → Word ls (flipped a) (done ++ l ∷ c) (done ++ turned ∷ c)
      word h =
          subst (λ n. Word ls (flipped n) (done ++ l ∷ c) (done ++ turned ∷ c)) e (
            [],
            tt,
            ap (λ b. b && is_equation (atom_at (done ++ l ∷ c) (length done))) (place_behind done l c) ∙ ap is_equation (atom_behind done l c) ∙ (and_parts _ _ h).0,
            sym (with_behind done l c (equation (right_of l.atom) (left_of l.atom))) ∙ ap (λ t. with_atom (done ++ l ∷ c) (length done) (equation (right_of t) (left_of t))) (sym (atom_behind done l c)),
          )

      by : (b : Bool) → is_turned greater l ≡ b → ((k : Lit) → length (done ++ k ∷ []) ≡ suc a → Leading ls rest.words ((done ++ k ∷ []) ++ c) ((done ++ k ∷ []) ++ rest.clause))
          → Leading ls (if b then simplified (turned ∷ rest.clause) (flipped a ∷ rest.words) else simplified (l ∷ rest.clause) rest.words).words (done ++ l ∷ c)
          (done ++ (if b then simplified (turned ∷ rest.clause) (flipped a ∷ rest.words) else simplified (l ∷ rest.clause) rest.words).clause)
      by true h more = (done ++ turned ∷ c, word h, shift done turned c rest.clause rest.words (more turned (longer turned)))
      by false h more = shift done l c rest.clause rest.words (more l (longer l))

  -- literals left out, where each goes by a word
  module _ (out : ClauseTree → Lit → Option LaterWord) (goes : (done : ClauseTree) (l : Lit) (c : ClauseTree) (w : LaterWord) → out done l ≡ Some w → Word ls w (done ++ l ∷ c) (done ++ c)) where
    left_out_leads : (done c : ClauseTree) → Leading ls (left_out out done c).words (done ++ c) (left_out out done c).clause
    left_out_leads done [] = append-nil done
    left_out_leads done (l ∷ c) = by (out done l) refl (left_out_leads done c) (left_out_leads (done ++ l ∷ []) c)
      where
        by : (o : Option LaterWord) → out done l ≡ o → Leading ls (left_out out done c).words (done ++ c) (left_out out done c).clause
            → Leading ls (left_out out (done ++ l ∷ []) c).words ((done ++ l ∷ []) ++ c) (left_out out (done ++ l ∷ []) c).clause
            → Leading ls (option_map_or (λ w. then_word w (left_out out done c)) o (left_out out (done ++ l ∷ []) c)).words (done ++ l ∷ c)
            (option_map_or (λ w. then_word w (left_out out done c)) o (left_out out (done ++ l ∷ []) c)).clause
        by (Some w) e rest more = (done ++ c, goes done l c w e, rest)
        by None e rest more = subst (λ a. Leading ls (left_out out (done ++ l ∷ []) c).words a (left_out out (done ++ l ∷ []) c).clause) (append_assoc done (l ∷ []) c) more

  -- a literal that stands before
  repeated : (done : ClauseTree) (l : Lit) → list_any (same_literal l) done ≡ true → (b : ℕ) × (b < length done) × (slice_get done b ≡ Some l)
  repeated [] l h = absurd (false≢true h)
  repeated (k ∷ done) l h = by (or_cases (same_literal l k) (list_any (same_literal l) done) h) (repeated done l)
    where
      same : same_literal l k ≡ true → Some k ≡ Some l
      same h =
          let s = and_parts _ _ h in
          let sign : l.positive ≡ k.positive = sign_same l.positive k.positive s.0 in
          let atom : l.atom ≡ k.atom = tree_same l.atom k.atom s.1 in ap (λ b. Some (literal b k.atom)) (sym sign) ∙ ap (λ t. Some (literal l.positive t)) (sym atom)

      by : (same_literal l k ≡ true) ⊎ (list_any (same_literal l) done ≡ true) → (list_any (same_literal l) done ≡ true → (b : ℕ) × (b < length done) × (slice_get done b ≡ Some l)) → (b : ℕ) × (b < length (k ∷ done)) × (slice_get (k ∷ done) b ≡ Some l)
      by (inl h) more = (0, omega arith, same h)
      by (inr h) more = let r = more h in (suc r.0, omega (arith, r.1), r.2)

  merged_goes : (done : ClauseTree) (l : Lit) (c : ClauseTree) (w : LaterWord) → is_merged done l ≡ Some w → Word ls w (done ++ l ∷ c) (done ++ c)
  merged_goes done l c w h = by (list_any (same_literal l) done) refl h
    where
      front : (b : ℕ) → b < length done → slice_get done b ≡ Some l → slice_get (done ++ l ∷ c) b ≡ Some l
      front b within there = get_front done (l ∷ c) b within ∙ there

      by : (t : Bool) → list_any (same_literal l) done ≡ t → (if t then Some (merged (length done)) else None) ≡ Some w → Word ls w (done ++ l ∷ c) (done ++ c)
      by true e h =
          let r = repeated done l e in
          subst (λ w. Word ls w (done ++ l ∷ c) (done ++ c)) (ap (λ o. unwrap_or o w) h)
          ([], tt, place_behind done l c, ((r.0, r.1, front r.0 r.1 r.2 ∙ sym (get_behind done l c)), sym (others_behind done l c)))
      by false e h = cc

  left_out_goes : (done : ClauseTree) (l : Lit) (c : ClauseTree) (w : LaterWord) → is_left_out done l ≡ Some w → Word ls w (done ++ l ∷ c) (done ++ c)
  left_out_goes done l c w h = by (is_false_equation l) refl h
    where
      negative : (b : Bool) → not b ≡ true → same_sign false b ≡ true
      negative true h = h
      negative false h = refl

      by : (t : Bool) → is_false_equation l ≡ t → (if t then Some (reflexive (length done)) else None) ≡ Some w → Word ls w (done ++ l ∷ c) (done ++ c)
      by true e h =
          let one = and_parts (not l.positive) _ e in
          let two = and_parts (is_equation l.atom) _ one.1 in
          subst (λ w. Word ls w (done ++ l ∷ c) (done ++ c)) (ap (λ o. unwrap_or o w) h) (
            [],
            tt,
            ap (λ b. b && is_equation (atom_at (done ++ l ∷ c) (length done))) (sign_behind false done l c ∙ negative l.positive one.0) ∙ ap is_equation (atom_behind done l c) ∙ two.0,
            (ap left_of (atom_behind done l c) ∙ tree_same (left_of l.atom) (right_of l.atom) two.1 ∙ ap right_of (sym (atom_behind done l c)), sym (others_behind done l c)),
          )
      by false e h = cc

  module _ (makes : MatchesMake) where
    -- the unit that denies a literal
    denying : (us : List Held) (l : Lit) (n : ℕ) → AllByRecursion (HaveClause ls) us → first_denying us l ≡ Some n → (u : Held) × (clause_at ls n ≡ Some u.clause) × (denies u l ≡ true)
    denying [] l n have h = cc
    denying (u ∷ us) l n have h = by (denies u l) refl h (denying us l n have.1)
      where
        by : (t : Bool) → denies u l ≡ t → (if t then Some u.number else first_denying us l) ≡ Some n → (first_denying us l ≡ Some n → (v : Held) × (clause_at ls n ≡ Some v.clause) × (denies v l ≡ true)) → (v : Held) × (clause_at ls n ≡ Some v.clause) × (denies v l ≡ true)
        by true e h more = (u, subst (λ m. clause_at ls m ≡ Some u.clause) (ap (λ o. unwrap_or o n) h) have.0, e)
        by false e h more = more h

    matching : (s t : Tree) → is_some (matched s t []) ≡ true → (bs : List Binding) × (matched s t [] ≡ Some bs)
    matching s t h = by (matched s t []) refl h
      where
        by : (o : Option (List Binding)) → matched s t [] ≡ o → is_some o ≡ true → (bs : List Binding) × (matched s t [] ≡ Some bs)
        by None e h = cc
        by (Some bs) e h = (bs, e)

    opposite : (b : Bool) (c d : ClauseTree) (a k : ℕ) → has_literal b c a ≡ true → has_literal (not b) d k ≡ true → are_opposite c a d k ≡ true
    opposite true c d a k h j = ap (λ t. (t && has_literal false d k) || (has_literal false c a && has_literal true d k)) h ∙ ap (λ t. t || (has_literal false c a && has_literal true d k)) j
    opposite false c d a k h j = or_right (has_literal true c a && has_literal false d k) (has_literal false c a && has_literal true d k) (ap (λ t. t && has_literal true d k) h ∙ j)

    one_clause : (c : ClauseTree) → is_unit c ≡ true → is_unit c ≡ true
    one_clause c h = h

    own_sign : (b : Bool) → same_sign b b ≡ true
    own_sign true = refl
    own_sign false = refl

    denied_goes : (us : List Held) → AllByRecursion (HaveClause ls) us → (done : ClauseTree) (l : Lit) (c : ClauseTree) (w : LaterWord) → is_denied us done l ≡ Some w → Word ls w (done ++ l ∷ c) (done ++ c)
    denied_goes us have done l c w h = by (first_denying us l) refl h
      where
        by : (o : Option ℕ) → first_denying us l ≡ o → option_map (λ n. unit_deleted (length done) n) o ≡ Some w → Word ls w (done ++ l ∷ c) (done ++ c)
        by None e h = cc
        by (Some n) e h =
            let d = denying us l n have e in
            let one = and_parts (is_unit d.0.clause) _ d.2 in
            let two = and_parts (has_literal (not l.positive) d.0.clause 0) _ one.1 in
            let m = matching (atom_at d.0.clause 0) l.atom two.1 in
            let sign : has_literal l.positive (done ++ l ∷ c) (length done) ≡ true = sign_behind l.positive done l c ∙ own_sign l.positive in
            subst (λ w. Word ls w (done ++ l ∷ c) (done ++ c)) (ap (λ o. unwrap_or o w) h) (
              d.0.clause ∷ [],
              (d.1, tt),
              ap (λ b. b && are_opposite (done ++ l ∷ c) (length done) d.0.clause 0) one.0 ∙ opposite l.positive (done ++ l ∷ c) d.0.clause (length done) 0 sign two.0,
              ((by_bindings m.0, makes (atom_at d.0.clause 0) l.atom m.0 m.1 ∙ sym (atom_behind done l c)), sym (others_behind done l c)),
            )

    pub order_leads : (greater : Tree → Tree → Bool) (units : Bool) (held : List Held) (c : ClauseTree) → AllByRecursion (HaveClause ls) held
        → Leading ls (put_in_order greater units held c).words c (put_in_order greater units held c).clause
    order_leads greater units held c have =
        leading_more ls start.words _ c start.clause _
        (leading_more ls second.words _ c second.clause _
        (leading_more ls (flips_from greater 0 c).words _ c (flips_from greater 0 c).clause _ (flips_lead greater [] 0 c refl) (left_out_leads is_merged merged_goes [] (flips_from greater 0 c).clause))
        (left_out_leads is_left_out left_out_goes [] second.clause))
        (by units)
      where
        second : Simplified
        second = followed_by (flips_from greater 0 c) (left_out is_merged [])

        start : Simplified
        start = followed_by second (left_out is_left_out [])

        by : (b : Bool) → Leading ls (if b then left_out (is_denied held) [] start.clause else simplified start.clause []).words start.clause (if b then left_out (is_denied held) [] start.clause else simplified start.clause []).clause
        by true = left_out_leads (is_denied held) (denied_goes held have) [] start.clause
        by false = refl
