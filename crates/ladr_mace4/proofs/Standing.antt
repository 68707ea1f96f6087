-- What stands in the output of a search is one of its blocks.
use Rattle.std.proofs.Common.{◌≡◌, ◌≢◌, ◌⊎◌, inl, inr, ℕ, ◌^◌, ◌<◌, true, List, [], ◌∷◌, ◌++◌, get_or, codes, refl, sym, ap, ◌∙◌, subst, append_assoc, append-nil, arith}
use Rattle.std.proofs.lemmas.Fmt.{decimal_injective}
use Rattle.std.proofs.lemmas.List.{append_cancel_left}
use Rattle.std.specs.Fmt.{decimal}
use Rattle.fol_problem.specs.Stated.{Stated}
use Rattle.ladr_mace4.proofs.ModelLines.{IsFurther, model_passed, model_lines, model_first}
use Rattle.ladr_mace4.proofs.SearchBlocks.{SearchBlock, begins, skips, shows, exhausts, block_text, blocks_text, IsShownAmong, IsGood, AreGood, Last, nothing, ends, grows, fails, last_text}
use Rattle.ladr_mace4.specs.Lines.{size_line, skipped_line, exhausted_line, last_lines, end_text}
use Rattle.ladr_mace4.specs.Shown.{IsShown, model_opening, ShowsModel, IsShownIsomorphic}
use Rattle.ladr_mace4.specs.Skolems.{all_symbols}
use Rattle.ladr_mace4.specs.declared.ends.SearchEnd.{SearchEnd}
use Rattle.ladr_mace4.specs.declared.ends.SearchEnd.TheVariants.{MaxModels, Exhausted, AllModels, MaxMegs, MaxSeconds, GroundLimit, ClauseLimit}
use Rattle.ladr_output.proofs.Standing.{is_unbroken, unbroken_append, decimal_unbroken, decimal_glyphs, glyphs_end, lines_append, line_ends, line_off, IsPassed, passed_line, one_front}
use Rattle.ladr_output.specs.Standing.{AreWholeLines, StandsAfter, Stands}
use Rattle.ladr_output.specs.Telling.{as_line}
use Rattle.ladr_lex.specs.declared.limits.TheConstants.{MOST_BYTES}
use Rattle.mace_search.specs.Models.{IsModel}
use Rattle.model_tables.specs.ModelText.{model_text}
use Rattle.model_tables.specs.Isomorphism.{IsIsomorphism}
use Rattle.model_tables.specs.Tables.{Finite}

-- the line of a size
abbrev domain_text : ℕ → List ℕ → List ℕ
domain_text n rest = codes "% Domain size " ++ decimal n ++ rest

domain_unbroken : (n : ℕ) (rest : List ℕ) → is_unbroken rest ≡ true → is_unbroken (domain_text n rest) ≡ true
domain_unbroken n rest h = unbroken_append (codes "% Domain size " ++ decimal n) rest (unbroken_append (codes "% Domain size ") (decimal n) refl (decimal_unbroken n)) h

block_passed : (p : Stated) (before : List SearchBlock) (b : SearchBlock) → IsGood p before b → IsPassed IsFurther (block_text p b)
block_passed p before (begins n) h = passed_line IsFurther (domain_text n (codes ".")) (domain_unbroken n (codes ".") refl)
block_passed p before (skips n) h = passed_line IsFurther (domain_text n (codes " skipped.")) (domain_unbroken n (codes " skipped.") refl)
block_passed p before (shows n k t) h = model_passed (all_symbols p) k t h.1
block_passed p before (exhausts n) h = passed_line IsFurther (domain_text n (codes " exhausted.")) (domain_unbroken n (codes " exhausted.") refl)

block_lines : (p : Stated) (b : SearchBlock) → AreWholeLines (block_text p b)
block_lines p (begins n) = line_ends (domain_text n (codes "."))
block_lines p (skips n) = line_ends (domain_text n (codes " skipped."))
block_lines p (shows n k t) = model_lines (all_symbols p) k t
block_lines p (exhausts n) = line_ends (domain_text n (codes " exhausted."))

-- a block begins here, behind others
abbrev BeginsBlock : Stated → List SearchBlock → List ℕ → List ℕ → List ℕ → Type 0
BeginsBlock p blocks last before tail = (bs : List SearchBlock) × ((b : SearchBlock) × ((cs : List SearchBlock) × (blocks ≡ bs ++ b ∷ cs) × (before ≡ blocks_text p bs) × (tail ≡ block_text p b ++ (blocks_text p cs ++ last))))

-- all blocks stand before this place
abbrev IsBehindBlocks : List ℕ → List ℕ → Type 0
IsBehindBlocks last tail = (b : List ℕ) × AreWholeLines b × (last ≡ b ++ tail)

begins_or : (p : Stated) (gone blocks : List SearchBlock) (last before tail : List ℕ) → AreGood p gone blocks → AreWholeLines before → blocks_text p blocks ++ last ≡ before ++ tail → IsFurther tail ⊎ (BeginsBlock p blocks last before tail ⊎ IsBehindBlocks last tail)
begins_or p gone [] last before tail g h e = inr (inr (before, h, e))
begins_or p gone (x ∷ xs) last before tail g h e =
    let there = sym (append_assoc (block_text p x) (blocks_text p xs) last) ∙ e in
    elim (block_passed p gone x g.0 (blocks_text p xs ++ last) before tail h there) [
      | inl none ↦ inr (inl ([], (x, (xs, refl, none, sym (there ∙ ap (λ (b : List ℕ). b ++ tail) none)))))
      | inr (inl inside) ↦ inl inside
      | inr (inr r) ↦ elim (begins_or p (gone ++ x ∷ []) xs last r.0 tail g.1 r.1 r.3) [
        | inl inside ↦ inl inside
        | inr (inl s) ↦ inr (inl (x ∷ s.0, (s.1.0, (s.1.1.0, ap (λ (l : List SearchBlock). x ∷ l) s.1.1.1, r.2 ∙ ap (λ (b : List ℕ). block_text p x ++ b) s.1.1.2, s.1.1.3))))
        | inr (inr s) ↦ inr (inr s)
      ]
    ]

-- a good block among good ones, and those before it
good_at : (p : Stated) (gone bs : List SearchBlock) (b : SearchBlock) (cs : List SearchBlock) → AreGood p gone (bs ++ b ∷ cs) → IsGood p (gone ++ bs) b
good_at p gone [] b cs g = subst (λ (l : List SearchBlock). IsGood p l b) (sym (append-nil gone)) g.0
good_at p gone (a ∷ bs) b cs g = subst (λ (l : List SearchBlock). IsGood p l b) (append_assoc gone (a ∷ []) bs) (good_at p (gone ++ a ∷ []) bs b cs g.1)

good_front : (p : Stated) (gone bs cs : List SearchBlock) → AreGood p gone (bs ++ cs) → AreGood p gone bs
good_front p gone [] cs g = tt
good_front p gone (a ∷ bs) cs g = (g.0, good_front p (gone ++ a ∷ []) bs cs g.1)

-- a model among blocks stands in their text
among_stands : (p : Stated) (n : ℕ) (t : Finite) (gone bs : List SearchBlock) → AreGood p gone bs → IsShownAmong n t bs → (k : ℕ) × IsShown p n k t × Stands (model_text (all_symbols p) k t) (blocks_text p bs)
among_stands p n t gone [] g h = absurd h
among_stands p n t gone (b ∷ bs) g (inl (k, e)) =
    let good : IsGood p gone (shows n k t) = subst (IsGood p gone) e g.0 in
    (k, good.0, ([], (tt, (blocks_text p bs, ap (λ (x : SearchBlock). block_text p x ++ blocks_text p bs) e))))
among_stands p n t gone (b ∷ bs) g (inr h) =
    let more = among_stands p n t (gone ++ b ∷ []) bs g.1 h in
    let stands = more.2 in
    let same = ap (λ (u : List ℕ). block_text p b ++ u) stands.1.1.1 ∙ sym (append_assoc (block_text p b) stands.0 (model_text (all_symbols p) more.0 t ++ stands.1.1.0)) in
    (more.0, more.1, (block_text p b ++ stands.0, (lines_append (block_text p b) stands.0 (block_lines p b) stands.1.0, (stands.1.1.0, same))))

-- what stands behind all blocks begins in no way like a block
abbrev first : List ℕ → ℕ
first text = get_or text 0 0

abbrev third : List ℕ → ℕ
third text = get_or text 2 0

abbrev IsOther : List ℕ → Type 0
IsOther tail = (first tail ≡ 0) ⊎ ((first tail ≡ 108) ⊎ ((first tail ≡ 37) × ((third tail ≡ 77) ⊎ (third tail ≡ 69))))

other_none : (b tail : List ℕ) → [] ≡ b ++ tail → IsOther tail
other_none [] tail e = inl (ap first (sym e))
other_none (x ∷ b) tail e = absurd cc

other_line : (l b tail : List ℕ) → is_unbroken l ≡ true → IsOther (as_line l) → AreWholeLines b → as_line l ≡ b ++ tail → IsOther tail
other_line l b tail u h lines e = elim (line_off l [] b tail u lines e) [
  | inl none ↦ subst IsOther (e ∙ ap (λ (x : List ℕ). x ++ tail) none) h
  | inr r ↦ other_none r.0 tail r.3
]

other_lines : (l m b tail : List ℕ) → is_unbroken l ≡ true → is_unbroken m ≡ true → IsOther (as_line l ++ as_line m) → IsOther (as_line m) → AreWholeLines b → as_line l ++ as_line m ≡ b ++ tail → IsOther tail
other_lines l m b tail u v h k lines e = elim (line_off l (as_line m) b tail u lines (sym (append_assoc l (10 ∷ []) (as_line m)) ∙ e)) [
  | inl none ↦ subst IsOther (e ∙ ap (λ (x : List ℕ). x ++ tail) none) h
  | inr r ↦ other_line m r.0 tail v k r.1 r.3
]

models_unbroken : (k : ℕ) → is_unbroken (codes "% Models=" ++ decimal k ++ codes ".") ≡ true
models_unbroken k = unbroken_append (codes "% Models=" ++ decimal k) (codes ".") (unbroken_append (codes "% Models=") (decimal k) refl (decimal_unbroken k)) refl

other_last : (k : ℕ) (reason b tail : List ℕ) → is_unbroken reason ≡ true → AreWholeLines b → last_lines k reason ≡ b ++ tail → IsOther tail
other_last k reason b tail u lines e =
    let exit = codes "% Exit " ++ reason ++ codes "." in
    let unbroken = unbroken_append (codes "% Exit " ++ reason) (codes ".") (unbroken_append (codes "% Exit ") reason refl u) refl in
    other_lines (codes "% Models=" ++ decimal k ++ codes ".") exit b tail (models_unbroken k) unbroken (inr (inr (refl, inl refl))) (inr (inr (refl, inr refl))) lines e

other_end : (k : ℕ) (end : SearchEnd) (b tail : List ℕ) → AreWholeLines b → end_text k end ≡ b ++ tail → IsOther tail
other_end k MaxModels b tail lines e = other_last k (codes "max_models") b tail refl lines e
other_end k Exhausted b tail lines e = other_last k (codes "exhausted") b tail refl lines e
other_end k AllModels b tail lines e = other_last k (codes "all_models") b tail refl lines e
other_end k MaxMegs b tail lines e = other_last k (codes "max_megs") b tail refl lines e
other_end k (MaxSeconds from to) b tail lines e =
    let opening = codes "% Exit max_seconds " ++ decimal from in
    let exit = opening ++ codes " " ++ decimal to ++ codes "." in
    let unbroken = unbroken_append (opening ++ codes " " ++ decimal to) (codes ".")
    (unbroken_append (opening ++ codes " ") (decimal to) (unbroken_append opening (codes " ") (unbroken_append (codes "% Exit max_seconds ") (decimal from) refl (decimal_unbroken from)) refl) (decimal_unbroken to)) refl in
    other_lines (codes "% Models=" ++ decimal k ++ codes ".") exit b tail (models_unbroken k) unbroken (inr (inr (refl, inl refl))) (inr (inr (refl, inr refl))) lines e
other_end k (GroundLimit size) b tail lines e =
    other_line (codes "ladr: ground limit at size " ++ decimal size) b tail (unbroken_append (codes "ladr: ground limit at size ") (decimal size) refl (decimal_unbroken size)) (inr (inl refl)) lines e
other_end k (ClauseLimit formula) b tail lines e =
    other_line (codes "ladr: clause limit at formula " ++ decimal formula) b tail (unbroken_append (codes "ladr: clause limit at formula ") (decimal formula) refl (decimal_unbroken formula)) (inr (inl refl)) lines e

other_behind : (last : Last) (b tail : List ℕ) → AreWholeLines b → last_text last ≡ b ++ tail → IsOther tail
other_behind nothing b tail lines e = other_none b tail e
other_behind (ends k end) b tail lines e = other_end k end b tail lines e
other_behind fails b tail lines e = other_line (codes "ladr: read fault") b tail refl (inr (inl refl)) lines e
other_behind grows b tail lines e =
    let opening = codes "ladr: too large at byte " ++ decimal MOST_BYTES in
    let unbroken = unbroken_append (opening ++ codes ": ") (codes "input") (unbroken_append opening (codes ": ") (unbroken_append (codes "ladr: too large at byte ") (decimal MOST_BYTES) refl (decimal_unbroken MOST_BYTES)) refl) refl in
    other_line (opening ++ codes ": " ++ codes "input") b tail unbroken (inr (inl refl)) lines e

-- lines of sizes tell the size
domain_opened : (n : ℕ) (s r : List ℕ) → as_line (domain_text n s) ++ r ≡ codes "% Domain size " ++ (decimal n ++ (s ++ 10 ∷ r))
domain_opened n s r = append_assoc (domain_text n s) (10 ∷ []) r ∙ append_assoc (codes "% Domain size " ++ decimal n) s (10 ∷ r) ∙ append_assoc (codes "% Domain size ") (decimal n) (s ++ 10 ∷ r)

domain_same : (n m : ℕ) (s v r w : List ℕ) → as_line (domain_text n s) ++ r ≡ as_line (domain_text m v) ++ w → decimal n ++ (s ++ 10 ∷ r) ≡ decimal m ++ (v ++ 10 ∷ w)
domain_same n m s v r w e = append_cancel_left (codes "% Domain size ") (decimal n ++ (s ++ 10 ∷ r)) (decimal m ++ (v ++ 10 ∷ w)) (sym (domain_opened n s r) ∙ e ∙ domain_opened m v w)

not_begun : (n m : ℕ) (r w : List ℕ) → exhausted_line n ++ r ≡ size_line m ++ w → ⊥
not_begun n m r w e =
    let parts = glyphs_end (decimal n) (decimal m) _ _ 32 46 (decimal_glyphs n) (decimal_glyphs m) (omega arith) (omega arith) (domain_same n m (codes " exhausted.") (codes ".") r w e) in
    let same : 32 ≡ 46 = ap first parts.1 in
    absurd (omega (arith, same))

not_skipped : (n m : ℕ) (r w : List ℕ) → exhausted_line n ++ r ≡ skipped_line m ++ w → ⊥
not_skipped n m r w e =
    let parts = glyphs_end (decimal n) (decimal m) _ _ 32 32 (decimal_glyphs n) (decimal_glyphs m) (omega arith) (omega arith) (domain_same n m (codes " exhausted.") (codes " skipped.") r w e) in
    let same : 101 ≡ 115 = ap (λ (l : List ℕ). get_or l 1 0) parts.1 in
    absurd (omega (arith, same))

same_exhausted : (n m : ℕ) (r w : List ℕ) → n < 2 ^ 64 → m < 2 ^ 64 → exhausted_line n ++ r ≡ exhausted_line m ++ w → n ≡ m
same_exhausted n m r w small few e =
    let parts = glyphs_end (decimal n) (decimal m) _ _ 32 32 (decimal_glyphs n) (decimal_glyphs m) (omega arith) (omega arith) (domain_same n m (codes " exhausted.") (codes " exhausted.") r w e) in
    decimal_injective n m small few parts.0

-- a text with this first byte is no further line of a model
not_further : (byte : ℕ) (tail : List ℕ) → first tail ≡ byte → byte ≢ 32 → byte ≢ 93 → IsFurther tail → ⊥
not_further byte tail e x y (rest, inl h) = x (sym e ∙ ap first h)
not_further byte tail e x y (rest, inr h) = y (sym e ∙ ap first h)

module _ (p : Stated) (blocks : List SearchBlock) (last : Last) (good : AreGood p [] blocks) (written rest : List ℕ) (parts : blocks_text p blocks ++ last_text last ≡ written ++ rest) where
  -- what stands in what was written stands in the whole text
  stands_in : (before text after : List ℕ) → written ≡ before ++ (text ++ after) → blocks_text p blocks ++ last_text last ≡ before ++ (text ++ (after ++ rest))
  stands_in before text after e = parts ∙ ap (λ (u : List ℕ). u ++ rest) e ∙ append_assoc before (text ++ after) rest ∙ ap (λ (u : List ℕ). before ++ u) (append_assoc text after rest)

  -- the block of an exhausted size
  exhausted_in : (n : ℕ) (before more : List ℕ) → n < 2 ^ 64 → BeginsBlock p blocks (last_text last) before (exhausted_line n ++ more) → (u : Finite) → IsModel p n u → IsShownIsomorphic p n u before
  exhausted_in n before more small (bs, (begins m, (cs, split, front, e))) u is = absurd (not_begun n m more _ e)
  exhausted_in n before more small (bs, (skips m, (cs, split, front, e))) u is = absurd (not_skipped n m more _ e)
  exhausted_in n before more small (bs, (shows m k t, (cs, split, front, e))) u is =
      let rest = model_first (all_symbols p) k t (blocks_text p cs ++ last_text last) in
      let same : 37 ≡ 105 = ap first (e ∙ rest.1) in
      absurd (omega (arith, same))
  exhausted_in n before more small (bs, (exhausts m, (cs, split, front, e))) u is =
      let whole : AreGood p [] (bs ++ exhausts m ∷ cs) = subst (AreGood p []) split good in
      let shown = good_at p [] bs (exhausts m) cs whole in
      let same = same_exhausted n m more _ small shown.0 e in
      let among = subst (λ (i : ℕ). (v : Finite) → IsModel p i v → (t : Finite) × IsShownAmong i t bs × ((r : ℕ → ℕ) × IsIsomorphism i p r v t)) (sym same) shown.1 u is in
      let stands = among_stands p n among.0 [] bs (good_front p [] bs (exhausts m ∷ cs) whole) among.1 in
      (stands.0, (among.0, stands.1, subst (Stands (model_text (all_symbols p) stands.0 among.0)) (sym front) stands.2, among.2))

  pub exhausted_stands : (n : ℕ) (before : List ℕ) → n < 2 ^ 64 → StandsAfter before (exhausted_line n) written → (u : Finite) → IsModel p n u → IsShownIsomorphic p n u before
  exhausted_stands n before small h u is =
      let more = h.1.0 ++ rest in
      elim (begins_or p [] blocks (last_text last) before (exhausted_line n ++ more) good h.0 (stands_in before (exhausted_line n) h.1.0 h.1.1)) [
        | inl further ↦ absurd (not_further 37 (exhausted_line n ++ more) refl (λ x. absurd (omega (arith, x))) (λ x. absurd (omega (arith, x))) further)
        | inr (inl block) ↦ exhausted_in n before more small block u is
        | inr (inr behind) ↦ elim (other_behind last behind.0 (exhausted_line n ++ more) behind.1 behind.2) [
          | inl none ↦ absurd (omega (arith, none))
          | inr (inl line) ↦ absurd (omega (arith, line))
          | inr (inr (_, inl models)) ↦ absurd (omega (arith, models))
          | inr (inr (_, inr exit)) ↦ absurd (omega (arith, exit))
        ]
      ]

  -- the block of a model
  model_in : (before after : List ℕ) → BeginsBlock p blocks (last_text last) before (model_opening ++ (after ++ rest)) → ShowsModel p (model_opening ++ after)
  model_in before after (bs, (begins m, (cs, split, front, e))) = let same : 105 ≡ 37 = ap first e in absurd (omega (arith, same))
  model_in before after (bs, (skips m, (cs, split, front, e))) = let same : 105 ≡ 37 = ap first e in absurd (omega (arith, same))
  model_in before after (bs, (exhausts m, (cs, split, front, e))) = let same : 105 ≡ 37 = ap first e in absurd (omega (arith, same))
  model_in before after (bs, (shows n k t, (cs, split, front, e))) =
      let shown = good_at p [] bs (shows n k t) cs (subst (AreGood p []) split good) in
      (n, k, (t, shown.0, one_front (model_opening ++ after) (model_text (all_symbols p) k t) rest (blocks_text p cs ++ last_text last) (append_assoc model_opening after rest ∙ e)))

  pub model_stands : (before after : List ℕ) → AreWholeLines before → written ≡ before ++ (model_opening ++ after) → ShowsModel p (model_opening ++ after)
  model_stands before after lines e =
      let tail = model_opening ++ (after ++ rest) in
      elim (begins_or p [] blocks (last_text last) before tail good lines (stands_in before model_opening after e)) [
        | inl further ↦ absurd (not_further 105 tail refl (λ x. absurd (omega (arith, x))) (λ x. absurd (omega (arith, x))) further)
        | inr (inl block) ↦ model_in before after block
        | inr (inr behind) ↦ elim (other_behind last behind.0 tail behind.1 behind.2) [
          | inl none ↦ absurd (omega (arith, none))
          | inr (inl line) ↦ absurd (omega (arith, line))
          | inr (inr (percent, _)) ↦ absurd (omega (arith, percent))
        ]
      ]
