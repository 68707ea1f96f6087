-- How far what begins with a byte goes.
use Rattle.std.proofs.Common.{◌≡◌, ℕ, ◌≤◌, true, List, [], ◌∷◌, ◌++◌, length, take, Option, Some, None, inl, inr, ⊎_elim, refl, sym, ap, ◌∙◌, subst, arith}
use Rattle.std.specs.Prelude.{not, ◌&&◌, ◌==◌, codes}
use Rattle.std.specs.Str.{bytes_eq}
use Rattle.std.proofs.lemmas.Bool.{cases_Bool, cases_eq, and_from, and_parts, not_from_false, or_cases, or_right, or_left, eqb-true, cond_both}
use Rattle.std.proofs.lemmas.Bool.Decides.{nat_tests}
use Rattle.std.proofs.lemmas.List.{take_all}
use Rattle.std.proofs.lemmas.List.Sums.{prefix_len-le-length}
use Rattle.std.proofs.lemmas.Slice.Eq.{bytes_eq-Decides}
use Rattle.ladr_lex.specs.Bytes.{is_blank, is_punctuation, is_ordinary, is_special, is_dash, is_quote}
use Rattle.ladr_lex.specs.Comments.{is_comment, is_open_block}
use Rattle.ladr_lex.specs.Cuts.{can_be, is_run, is_quoted, is_single, is_stray, is_special_run}
use Rattle.ladr_lex.specs.Lexed.{quote_ends, kind_begun_by, kind_beginning, kept, begins_with_dash, special_behind, quoted_behind, behind_in, length_behind}
use Rattle.ladr_lex.specs.Starts.{start_of}
use Rattle.ladr_lex.specs.declared.bytes.TokenStart.{TokenStart}
use Rattle.ladr_lex.specs.declared.bytes.TokenStart.TheVariants.{Blank, Word, Sign, Quote, Percent, Single}
use Rattle.ladr_lex.specs.declared.token.TokenKind.{TokenKind}
use Rattle.ladr_lex.specs.declared.token.TokenKind.TheVariants.{Open, Close, LeftSquare, RightSquare, Comma, Stop, Ordinary, Quoted, Special, Unreadable}
use Rattle.ladr_lex.proofs.Blocks.{comment_told, open_told, comment_grows, behind_percent, closed, unclosed}
use Rattle.ladr_lex.proofs.Classes.{blank_start, ordinary_start, special_start, stray_start, special_first, start_blank, start_ordinary, start_special, start_quote, start_percent, quote_begins, percent_begins}
use Rattle.ladr_lex.proofs.Kept.{kept_run, kept_within, kept_whole, kept_grows, run_more, run_passes, run_whole, run_grows}
use Rattle.ladr_lex.proofs.Quotes.{whole, quoted_front, quoted_within, quoted_stays}

-- all of a text is what begins with its first byte, and is of this kind
pub record Told (o : Option TokenKind) (b : ℕ) (m : List ℕ) : Type 0 where
  pub kind : kind_beginning b m ≡ o
  pub all : length_behind b m ≡ length m

told_at : (s : TokenStart) (kind : Option TokenKind) (b : ℕ) (m : List ℕ) → start_of b ≡ s → kind_begun_by s m ≡ kind → behind_in s b m ≡ length m → Told kind b m
told_at s kind b m e k n = record { kind = ap (λ (t : TokenStart). kind_begun_by t m) e ∙ k; all = ap (λ (t : TokenStart). behind_in t b m) e ∙ n }

abbrev pub ToldAll : Option TokenKind → List ℕ → Type 0
ToldAll kind [] = ⊥
ToldAll kind (b ∷ m) = Told kind b m

told_word : (kind : Option TokenKind) (word text : List ℕ) → bytes_eq text word ≡ true → ToldAll kind word → ToldAll kind text
told_word kind word text h t = subst (ToldAll kind) (sym ((bytes_eq-Decides text word).0 h)) t

-- a special symbol
special_whole : (b : ℕ) (m : List ℕ) → is_special_run (b ∷ m) ≡ true → special_behind b m ≡ length m
special_whole b [] h = grind (arith, nat_tests)
special_whole b (c ∷ cs) h = let k = kept_whole (c ∷ cs) (grind arith) in grind (arith, nat_tests)

told_run : (text : List ℕ) → is_special_run text ≡ true → ToldAll (Some Special) text
told_run [] h = cc
told_run (b ∷ m) h = told_at Sign (Some Special) b m (special_start b (special_first b m h)) refl (special_whole b m h)

told_special : (text : List ℕ) → can_be (Some Special) text ≡ true → ToldAll (Some Special) text
unfolding start_of is_special is_ordinary is_blank
told_special text h =
    let apostrophe : Told (Some Special) 39 [] = record { kind = refl; all = refl } in
    let dash : Told (Some Special) 45 [] = record { kind = refl; all = refl } in
    let arrow : Told (Some Special) 60 (45 ∷ []) = record { kind = refl; all = refl } in
    ⊎_elim
    (λ e. ⊎_elim
    (λ f. ⊎_elim (λ g. told_word (Some Special) (codes "'") text g apostrophe) (λ g. told_word (Some Special) (codes "-") text g dash) (or_cases _ _ f))
    (λ f. told_word (Some Special) (codes "<-") text f arrow) (or_cases _ _ e))
    (told_run text) (or_cases _ _ h)

told_quoted : (text : List ℕ) → is_quoted text ≡ true → ToldAll (Some Quoted) text
told_quoted [] h = cc
told_quoted (b ∷ m) h =
    let first = and_parts _ _ h in
    let w = whole m first.1 in
    subst (λ (c : ℕ). Told (Some Quoted) c m) (sym (eqb-true b 34 first.0)) (told_at Quote (Some Quoted) 34 m quote_begins (rw w.closed refl) (rw w.closed w.all))

told_stray : (text : List ℕ) → is_single is_stray text ≡ true → ToldAll (Some Unreadable) text
told_stray [] h = cc
told_stray (b ∷ []) h =
    elim (cases_Bool (is_quote b)) [
      | inl y ↦ told_at Quote (Some Unreadable) b [] (stray_start b h ∙ rw y refl) refl refl
      | inr y ↦ told_at (Single Unreadable) (Some Unreadable) b [] (stray_start b h ∙ rw y refl) refl refl
    ]
told_stray (b ∷ c ∷ cs) h = cc

first_percent : (b : ℕ) (m : List ℕ) → is_comment (b ∷ m) ≡ true → b ≡ 37
first_percent b m h = grind (arith, nat_tests)

first_open : (b : ℕ) (m : List ℕ) → is_open_block (b ∷ m) ≡ true → b ≡ 37
first_open b m h = grind (arith, nat_tests)

told_comment : (text : List ℕ) → is_comment text ≡ true → ToldAll None text
told_comment [] h = cc
told_comment (b ∷ m) h =
    let e = first_percent b m h in
    let t = comment_told m (subst (λ (c : ℕ). is_comment (c ∷ m) ≡ true) e h) in
    subst (λ (c : ℕ). Told None c m) (sym e) (told_at Percent None 37 m percent_begins t.kind t.all)

told_open : (text : List ℕ) → is_open_block text ≡ true → ToldAll (Some Unreadable) text
told_open [] h = cc
told_open (b ∷ m) h =
    let e = first_open b m h in
    let t = open_told m (subst (λ (c : ℕ). is_open_block (c ∷ m) ≡ true) e h) in
    subst (λ (c : ℕ). Told (Some Unreadable) c m) (sym e) (told_at Percent (Some Unreadable) 37 m percent_begins t.kind t.all)

told_blank : (text : List ℕ) → is_single is_blank text ≡ true → ToldAll None text
told_blank [] h = cc
told_blank (b ∷ []) h = told_at Blank None b [] (blank_start b h) refl refl
told_blank (b ∷ c ∷ cs) h = cc

told_ordinary : (text : List ℕ) → is_run is_ordinary text ≡ true → ToldAll (Some Ordinary) text
told_ordinary [] h = cc
told_ordinary (b ∷ m) h = let first = and_parts _ _ h in told_at Word (Some Ordinary) b m (ordinary_start b first.0) refl (run_whole is_ordinary m first.1)

pub told : (kind : Option TokenKind) (text : List ℕ) → can_be kind text ≡ true → ToldAll kind text
unfolding start_of is_special is_ordinary is_blank
told None text h = ⊎_elim (told_blank text) (told_comment text) (or_cases _ _ h)
told (Some Open) text h = told_word (Some Open) (codes "(") text h (record { kind = refl; all = refl })
told (Some Close) text h = told_word (Some Close) (codes ")") text h (record { kind = refl; all = refl })
told (Some LeftSquare) text h = told_word (Some LeftSquare) (codes "[") text h (record { kind = refl; all = refl })
told (Some RightSquare) text h = told_word (Some RightSquare) (codes "]") text h (record { kind = refl; all = refl })
told (Some Comma) text h = told_word (Some Comma) (codes ",") text h (record { kind = refl; all = refl })
told (Some Stop) text h = told_word (Some Stop) (codes ".") text h (record { kind = refl; all = refl })
told (Some Ordinary) text h = told_ordinary text h
told (Some Quoted) text h = told_quoted text h
told (Some Special) text h = told_special text h
told (Some Unreadable) text h = ⊎_elim (told_stray text) (told_open text) (or_cases _ _ h)

-- more bytes behind make it no shorter
special_grows : (b : ℕ) (m r : List ℕ) → special_behind b m ≤ special_behind b (m ++ r)
special_grows b [] r = grind (arith, nat_tests)
special_grows b (c ∷ cs) r = let k = kept_grows (c ∷ cs) r in grind (arith, nat_tests)

quoted_grows : (m r : List ℕ) → quoted_behind m ≤ quoted_behind (m ++ r)
quoted_grows m r =
    elim (cases_Bool (quote_ends m)) [
      | inl y ↦ (let s = quoted_stays m r y in rw (y, s.closed, s.same) (omega arith))
      | inr y ↦ rw y (omega arith)
    ]

pub behind_grows : (s : TokenStart) (b : ℕ) (m r : List ℕ) → behind_in s b m ≤ behind_in s b (m ++ r)
behind_grows Blank b m r = omega arith
behind_grows Word b m r = run_grows is_ordinary m r
behind_grows Sign b m r = special_grows b m r
behind_grows Quote b m r = quoted_grows m r
behind_grows Percent b m r = comment_grows m r
behind_grows (Single kind) b m r = omega arith

-- what is computed is of its kind
pub record Extent (s : TokenStart) (b : ℕ) (bs : List ℕ) : Type 0 where
  pub within : behind_in s b bs ≤ length bs
  pub fits : can_be (kind_begun_by s bs) (b ∷ take (behind_in s b bs) bs) ≡ true

single_special : (b : ℕ) → is_special b ≡ true → can_be (Some Special) (b ∷ []) ≡ true
single_special b s =
    elim (cases_Bool (is_dash b)) [
      | inl d ↦ (let e : 45 ≡ b = sym (eqb-true b 45 d) in subst (λ (c : ℕ). can_be (Some Special) (c ∷ []) ≡ true) e refl)
      | inr d ↦ or_right _ _ (and_from (is_special b) (not (is_dash b)) s (not_from_false (is_dash b) d))
    ]

arrow_fits : (bs : List ℕ) → begins_with_dash bs ≡ true → can_be (Some Special) (60 ∷ take 1 bs) ≡ true
arrow_fits [] d = cc
arrow_fits (c ∷ cs) d = let e : c ≡ 45 = eqb-true c 45 d in rw e refl

dash_some : (bs : List ℕ) → begins_with_dash bs ≡ true → 1 ≤ length bs
dash_some [] d = cc
dash_some (c ∷ cs) d = omega arith

kept_fits : (b : ℕ) (bs : List ℕ) → is_special b ≡ true → can_be (Some Special) (b ∷ take (kept bs) bs) ≡ true
kept_fits b bs s =
    elim (cases_eq (kept bs) 0) [
      | inl k ↦ ap (λ (n : ℕ). can_be (Some Special) (b ∷ take n bs)) k ∙ single_special b s
      | inr k ↦ or_right _ _ (run_more b (take (kept bs) bs) s (kept_run bs k))
    ]

special_extent : (b : ℕ) (bs : List ℕ) → is_special b ≡ true → Extent Sign b bs
special_extent b bs s = record {
  within = cond_both (b == 60 && kept bs == 0 && begins_with_dash bs) 1 (kept bs) (λ (n : ℕ). n ≤ length bs) (λ t. dash_some bs (and_parts _ _ t).1) (λ f. kept_within bs);
  fits = cond_both (b == 60 && kept bs == 0 && begins_with_dash bs) 1 (kept bs) (λ (n : ℕ). can_be (Some Special) (b ∷ take n bs) ≡ true)
      (λ t. let parts = and_parts _ _ t in subst (λ (c : ℕ). can_be (Some Special) (c ∷ take 1 bs) ≡ true) (sym (eqb-true b 60 (and_parts _ _ parts.0).0)) (arrow_fits bs parts.1))
      (λ f. kept_fits b bs s);
}

quoted_extent : (bs : List ℕ) → Extent Quote 34 bs
unfolding is_stray is_punctuation is_special is_ordinary is_blank
quoted_extent bs =
    elim (cases_Bool (quote_ends bs)) [
      | inl y ↦ record { within = rw y (quoted_within bs y); fits = rw y (quoted_front bs y) }
      | inr y ↦ record { within = rw y (omega arith); fits = rw y refl }
    ]

comment_extent : (bs : List ℕ) → Extent Percent 37 bs
comment_extent bs =
    elim (behind_percent bs) [
      | closed k w f ↦ record { within = w; fits = ap (λ (o : Option TokenKind). can_be o (37 ∷ take (behind_in Percent 37 bs) bs)) k ∙ or_right _ _ f }
      | unclosed k w f ↦ record {
        within = omega arith;
        fits = ap (λ (o : Option TokenKind). can_be o (37 ∷ take (behind_in Percent 37 bs) bs)) k
            ∙ or_right _ _ (ap (λ (l : List ℕ). is_open_block (37 ∷ l)) (take_all (behind_in Percent 37 bs) bs (omega arith)) ∙ f);
      }
    ]

single_fits : (kind : TokenKind) (b : ℕ) → start_of b ≡ Single kind → can_be (Some kind) (b ∷ []) ≡ true
unfolding start_of is_stray is_punctuation
single_fits Open b h = grind (arith, nat_tests)
single_fits Close b h = grind (arith, nat_tests)
single_fits LeftSquare b h = grind (arith, nat_tests)
single_fits RightSquare b h = grind (arith, nat_tests)
single_fits Comma b h = grind (arith, nat_tests)
single_fits Stop b h = grind (arith, nat_tests)
single_fits Ordinary b h = absurd (grind arith)
single_fits Quoted b h = absurd (grind arith)
single_fits Special b h = grind (arith, nat_tests)
single_fits Unreadable b h = grind (arith, nat_tests)

pub extent : (s : TokenStart) (b : ℕ) (bs : List ℕ) → start_of b ≡ s → Extent s b bs
extent Blank b bs h = record { within = omega arith; fits = or_left _ _ (start_blank b h) }
extent Word b bs h = record { within = prefix_len-le-length is_ordinary bs; fits = and_from (is_ordinary b) _ (start_ordinary b h) (run_passes is_ordinary bs) }
extent Sign b bs h = special_extent b bs (start_special b h)
extent Quote b bs h = subst (λ (c : ℕ). Extent Quote c bs) (sym (start_quote b h)) (quoted_extent bs)
extent Percent b bs h = subst (λ (c : ℕ). Extent Percent c bs) (sym (start_percent b h)) (comment_extent bs)
extent (Single kind) b bs h = record { within = omega arith; fits = single_fits kind b h }
