-- A token is as long as it can be where the text behind doesn't go on with it.
use Rattle.std.proofs.Common.{◌≡◌, ℕ, suc, Bool, true, false, List, [], ◌∷◌, ◌++◌, length, take, drop, Option, Some, inl, inr, ⊎_elim, refl, sym, ap, ◌∙◌, subst, arith}
use Rattle.std.specs.Prelude.{not, codes}
use Rattle.std.specs.List.{list_all, prefix_len}
use Rattle.std.specs.Str.{bytes_eq}
use Rattle.std.proofs.Math.Numerals.{one-add}
use Rattle.std.proofs.Math.Seq.{take-append_seam, drop-append_seam}
use Rattle.std.proofs.lemmas.Bool.{cases_Bool, and_parts, and_from, or_cases, or_left, or_right, eqb-true, both_ways, not_from_false}
use Rattle.std.proofs.lemmas.Bool.Decides.{nat_tests}
use Rattle.std.proofs.lemmas.Slice.Eq.{bytes_eq-Decides}
use Rattle.ladr_lex.specs.Bytes.{is_blank, is_ordinary, is_special, is_dash}
use Rattle.ladr_lex.specs.Cuts.{can_be, is_run, is_quoted, is_special_run, IsLongest}
use Rattle.ladr_lex.specs.Lexed.{kind_beginning, kind_begun_by, length_behind, behind_in, kept, special_behind}
use Rattle.ladr_lex.specs.Starts.{start_of}
use Rattle.ladr_lex.specs.declared.bytes.TokenStart.{TokenStart}
use Rattle.ladr_lex.specs.declared.bytes.TokenStart.TheVariants.{Word, Sign, Quote}
use Rattle.ladr_lex.specs.declared.token.TokenKind.{TokenKind}
use Rattle.ladr_lex.specs.declared.token.TokenKind.TheVariants.{Ordinary, Quoted, Special}
use Rattle.ladr_lex.proofs.Classes.{ordinary_start, special_start, quote_begins}
use Rattle.ladr_lex.proofs.Extents.{told}
use Rattle.ladr_lex.proofs.Lexing.{longest_at}
use Rattle.ladr_lex.proofs.Quotes.{whole, quoted_stays}
use Rattle.ladr_print.specs.Spacing.{run_together, runs_into}

-- no byte of a class begins the text
abbrev pub stops : (ℕ → Bool) → List ℕ → Bool
stops p [] = true
stops p (b ∷ bs) = not (p b)

-- what is all of a class, and doesn't run into what is behind it
pub stops_behind :
    (p : ℕ → Bool) → ((a c : ℕ) → p a ≡ true → p c ≡ true → run_together a c ≡ true) → (b : ℕ) (m r : List ℕ) → list_all p (b ∷ m) ≡ true →
    runs_into (b ∷ m) r ≡ false → stops p r ≡ true
stops_behind p join b [] [] a h = refl
stops_behind p join b [] (c ∷ cs) a h =
    elim (cases_Bool (p c)) [
      | inl y ↦ absurd (both_ways (run_together b c) h (join b c (and_parts (p b) true a).0 y))
      | inr y ↦ not_from_false (p c) y
    ]
stops_behind p join b (d ∷ m) r a h = stops_behind p join d m r (and_parts (p b) (list_all p (d ∷ m)) a).1 h

specials_join : (a c : ℕ) → is_special a ≡ true → is_special c ≡ true → run_together a c ≡ true
specials_join a c h k = or_left _ _ (and_from _ _ h k)

ordinaries_join : (a c : ℕ) → is_ordinary a ≡ true → is_ordinary c ≡ true → run_together a c ≡ true
ordinaries_join a c h k = or_right _ _ (and_from _ _ (or_left _ _ h) (or_left _ _ k))

-- runs end there
prefix_stops : (p : ℕ → Bool) (m r : List ℕ) → list_all p m ≡ true → stops p r ≡ true → prefix_len p (m ++ r) ≡ length m
prefix_stops p [] [] a s = refl
prefix_stops p [] (b ∷ r) a s = grind (arith, nat_tests)
prefix_stops p (b ∷ m) r a s =
    let parts = and_parts (p b) (list_all p m) a in
    let more = prefix_stops p m r parts.1 s in
    rw (parts.0, more, one-add) refl

kept_stops : (m r : List ℕ) → stops is_special r ≡ true → kept (m ++ r) ≡ kept m
kept_stops [] [] s = refl
kept_stops [] (b ∷ r) s = grind arith
kept_stops (b ∷ m) r s = let e = kept_stops m r s in rw e refl

dash_special : (b : ℕ) → is_special b ≡ false → is_dash b ≡ false
unfolding is_special
dash_special b h = grind (arith, nat_tests)

special_stops : (b : ℕ) (m r : List ℕ) → stops is_special r ≡ true → special_behind b (m ++ r) ≡ special_behind b m
special_stops b [] [] s = refl
special_stops b [] (c ∷ r) s =
    let n : is_special c ≡ false = grind arith in
    let d = dash_special c n in
    grind (arith, nat_tests)
special_stops b (c ∷ m) r s = let e : kept (c ∷ m ++ r) ≡ kept (c ∷ m) = kept_stops (c ∷ m) r s in rw e refl

-- where what begins with the first byte ends with the text
pub longest_front :
    (o : Option TokenKind) (b : ℕ) (m r : List ℕ) → kind_beginning b (m ++ r) ≡ o → length_behind b (m ++ r) ≡ length m → IsLongest o (b ∷ m) r
longest_front o b m r k e =
    let front : take (length_behind b (m ++ r)) (m ++ r) ≡ m = ap (λ (n : ℕ). take n (m ++ r)) e ∙ take-append_seam m r in
    let back : drop (length_behind b (m ++ r)) (m ++ r) ≡ r = ap (λ (n : ℕ). drop n (m ++ r)) e ∙ drop-append_seam m r in
    subst (λ (l : List ℕ). IsLongest o (b ∷ m) l) back
    (subst (λ (l : List ℕ). IsLongest o (b ∷ l) (drop (length_behind b (m ++ r)) (m ++ r))) front
    (subst (λ (x : Option TokenKind). IsLongest x (b ∷ take (length_behind b (m ++ r)) (m ++ r)) (drop (length_behind b (m ++ r)) (m ++ r))) k (longest_at b (m ++ r))))

longest_by :
    (t : TokenStart) (o : Option TokenKind) (b : ℕ) (m r : List ℕ) → start_of b ≡ t → kind_begun_by t (m ++ r) ≡ o → behind_in t b (m ++ r) ≡ length m →
    IsLongest o (b ∷ m) r
longest_by t o b m r s k e =
    longest_front o b m r (ap (λ (x : TokenStart). kind_begun_by x (m ++ r)) s ∙ k) (ap (λ (x : TokenStart). behind_in x b (m ++ r)) s ∙ e)

pub ordinary_longest : (s r : List ℕ) → is_run is_ordinary s ≡ true → runs_into s r ≡ false → IsLongest (Some Ordinary) s r
ordinary_longest [] r h n = absurd (cc)
ordinary_longest (b ∷ m) r h n =
    let parts = and_parts (is_ordinary b) (list_all is_ordinary m) h in
    longest_by Word (Some Ordinary) b m r (ordinary_start b parts.0) refl (prefix_stops is_ordinary m r parts.1 (stops_behind is_ordinary ordinaries_join b m r h n))

pub quoted_longest : (s r : List ℕ) → is_quoted s ≡ true → IsLongest (Some Quoted) s r
quoted_longest [] r h = absurd (cc)
quoted_longest (b ∷ m) r h =
    let first = and_parts _ _ h in
    let w = whole m first.1 in
    let s = quoted_stays m r w.closed in
    subst (λ (c : ℕ). IsLongest (Some Quoted) (c ∷ m) r) (sym (eqb-true b 34 first.0))
    (longest_by Quote (Some Quoted) 34 m r quote_begins (rw s.closed refl) (rw s.closed (ap suc s.same ∙ w.all)))

-- special runs
all_special : (m : List ℕ) → is_special_run m ≡ true → list_all is_special m ≡ true
all_special [] h = refl
all_special (b ∷ []) h = and_from _ _ (and_parts _ _ h).0 refl
all_special (b ∷ c ∷ cs) h = let parts = and_parts (is_special b) (is_special_run (c ∷ cs)) h in and_from _ _ parts.0 (all_special (c ∷ cs) parts.1)

signs_longest : (s r : List ℕ) → list_all is_special s ≡ true → can_be (Some Special) s ≡ true → runs_into s r ≡ false → IsLongest (Some Special) s r
signs_longest [] r a h n = absurd (told (Some Special) [] h)
signs_longest (b ∷ m) r a h n =
    let first : is_special b ≡ true = (and_parts (is_special b) (list_all is_special m) a).0 in
    let start = special_start b first in
    let all : special_behind b m ≡ length m = sym (ap (λ (x : TokenStart). behind_in x b m) start) ∙ (told (Some Special) (b ∷ m) h).all in
    longest_by Sign (Some Special) b m r start refl (special_stops b m r (stops_behind is_special specials_join b m r a n) ∙ all)

apostrophe_longest : (r : List ℕ) → IsLongest (Some Special) (39 ∷ []) r
unfolding start_of is_special is_ordinary is_blank
apostrophe_longest r = longest_front (Some Special) 39 [] r refl refl

word_longest : (word s r : List ℕ) → bytes_eq s word ≡ true → IsLongest (Some Special) word r → IsLongest (Some Special) s r
word_longest word s r h l = subst (λ (x : List ℕ). IsLongest (Some Special) x r) (sym ((bytes_eq-Decides s word).0 h)) l

of_word : (word s : List ℕ) → bytes_eq s word ≡ true → list_all is_special word ≡ true → list_all is_special s ≡ true
of_word word s h a = subst (λ (x : List ℕ). list_all is_special x ≡ true) (sym ((bytes_eq-Decides s word).0 h)) a

pub special_longest : (s r : List ℕ) → can_be (Some Special) s ≡ true → runs_into s r ≡ false → IsLongest (Some Special) s r
unfolding is_special
special_longest s r h n =
    ⊎_elim
    (λ e. ⊎_elim
    (λ f. ⊎_elim (λ g. word_longest (codes "'") s r g (apostrophe_longest r)) (λ g. signs_longest s r (of_word (codes "-") s g refl) h n) (or_cases _ _ f))
    (λ f. signs_longest s r (of_word (codes "<-") s f refl) h n) (or_cases _ _ e))
    (λ e. signs_longest s r (all_special s e) h n) (or_cases _ _ h)
