-- No line goes on with a bad token.
use Rattle.std.proofs.Common.{◌≡◌, ◌∙◌, ◌⊎◌, inl, inr, ℕ, suc, zero, ◌+◌, ◌≤◌, ◌<◌, Bool, true, false, not, List, [], ◌∷◌, ◌++◌, length, take, drop, refl, ap, ap₂, sym, subst, append-nil, arith}
use Rattle.std.proofs.lemmas.Bool.{false≢true}
use Rattle.std.proofs.lemmas.Bool.Decides.{nat_tests}
use Rattle.std.proofs.lemmas.List.{length-append, take-append-drop, length-take-le, take_all, drop-take}
use Rattle.std.proofs.Math.Seq.{take-append_seam}
use Rattle.fol_core.specs.RawTree.{RawTree}
use Rattle.ladr_commands.specs.Wanted.{is_stop}
use Rattle.ladr_lex.specs.Lexeme.{Lexeme}
use Rattle.ladr_reader.specs.Reads.{Item, BeginsItem}
use Rattle.ladr_reader.specs.Table.{OperatorTable}
use Rattle.ladr_reader.proofs.Complete.{item_one}
use Rattle.proof_lines.specs.ContentTokens.{LineTables, IsContent, IsSomeContent, IsPlainItem, IsFarItem, IsAnsweredItem, IsClauseWith, HasKind, content_in, behind_content_in}
use Rattle.proof_lines.specs.AnswerMarks.{begins_answer, noted}
use Rattle.proof_lines.specs.Answered.{ReadAnswer, is_answered}
use Rattle.proof_lines.specs.Faults.{IsNoItem, IsNoPlain, IsNoMarked, IsNoAnswered, IsNoClause, IsNoContent, HasBadWords, IsBadBehindNumber, IsBadOfLine, IsBadLineToken}
use Rattle.proof_lines.specs.Lines.{LineParts, IsProofLine, IsFirstLine}
use Rattle.proof_lines.specs.Literals.{may_be_clause}
use Rattle.proof_lines.specs.declared.marks.Spot.TheVariants.{Elsewhere}
use Rattle.proof_lines.proofs.AnsweredClauses.{answered_is, near_may_be}
use Rattle.proof_lines.proofs.Clauses.{too_deep_clause}
use Rattle.proof_lines.proofs.Contents.{content_whole}
use Rattle.proof_lines.proofs.Noting.{noted_long, noted_take, content_noted, content_lengths, unmarked}
use Rattle.proof_lines.proofs.FirstWords.{narrower}
use Rattle.proof_lines.proofs.OneLine.{content_cut, head_or, behind_head, FirstParts, first_parts}
use Rattle.proof_lines.proofs.Stops.{item_cut}
use Rattle.proof_words.specs.Classes.{is_of}
use Rattle.proof_words.specs.Faults.{BeginsWords, AreFirstWords, IsBadWordToken}
use Rattle.proof_words.specs.Spelling.{Spelling, SaysWords, line_words}
use Rattle.proof_words.specs.Written.{Written, WrittenFirst, states_formula, suits}
use Rattle.proof_words.specs.declared.class.TokenClass.TheVariants.{Number}
use Rattle.proof_words.specs.declared.names.ContentKind.{ContentKind}
use Rattle.proof_words.specs.declared.names.ContentKind.TheVariants.{Formula, Clause, Either}

less_or_not : (a b : ℕ) → (a < b) ⊎ (b ≤ a)
less_or_not a b = grind (arith, nat_tests)

le_or_more : (a b : ℕ) → a ≤ b → (a < b) ⊎ (a ≡ b)
le_or_more a b h = grind (arith, nat_tests)

-- other tokens that are the same up to and with token k, or all the same
abbrev Alike : ℕ → List Lexeme → List Lexeme → Type 0
Alike k xs ys = ((k < length xs) × (take (suc k) ys ≡ take (suc k) xs)) ⊎ (ys ≡ xs)

-- what begins with as many tokens that are the same, begins with fewer
take_less : (n m : ℕ) (xs ys : List Lexeme) → n ≤ m → take m ys ≡ take m xs → take n ys ≡ take n xs
take_less zero m xs ys h e = refl
take_less (suc n) zero xs ys h e = absurd (omega arith)
take_less (suc n) (suc m) [] [] h e = refl
take_less (suc n) (suc m) (x ∷ xs) [] h e = absurd (omega (arith, ap length e))
take_less (suc n) (suc m) [] (y ∷ ys) h e = absurd (omega (arith, ap length e))
take_less (suc n) (suc m) (x ∷ xs) (y ∷ ys) h e = ap₂ (λ z zs. z ∷ zs) (ap (head_of x) e) (take_less n m xs ys (omega arith) (ap tail_of e))
  where
    head_of : Lexeme → List Lexeme → Lexeme
    head_of d [] = d
    head_of d (z ∷ zs) = z

    tail_of : List Lexeme → List Lexeme
    tail_of [] = []
    tail_of (z ∷ zs) = zs

-- of the content, either a full stop is in it and ends it, or it is all of the tokens
stop_or_all : (xs : List Lexeme) → ((more : List Lexeme) → content_in (content_in xs ++ more) ≡ content_in xs) ⊎ (content_in xs ≡ xs)
stop_or_all [] = inr refl
stop_or_all (x ∷ xs) = by (is_stop x) refl (stop_or_all xs)
  where
    by : (b : Bool) → is_stop x ≡ b → ((more : List Lexeme) → content_in (content_in xs ++ more) ≡ content_in xs) ⊎ (content_in xs ≡ xs)
        → ((more : List Lexeme) → content_in (content_in (x ∷ xs) ++ more) ≡ content_in (x ∷ xs)) ⊎ (content_in (x ∷ xs) ≡ x ∷ xs)
    by true e h = inl (λ more. rw e (rw e refl))
    by false e (inl h) = inl (λ more. rw e (rw e (ap (λ us. x ∷ us) (h more))))
    by false e (inr h) = inr (rw e (ap (λ us. x ∷ us) h))

-- tokens begin with their content
front_is : (xs : List Lexeme) → take (length (content_in xs)) xs ≡ content_in xs
front_is xs = ap (take (length (content_in xs))) (sym (content_whole xs)) ∙ take-append_seam (content_in xs) (behind_content_in xs)

content_short : (xs : List Lexeme) → length (content_in xs) + length (behind_content_in xs) ≡ length xs
content_short xs = sym (length-append (content_in xs) (behind_content_in xs)) ∙ ap length (content_whole xs)

take_within : (n m : ℕ) (xs : List Lexeme) → n ≤ m → take n (take m xs) ≡ take n xs
take_within zero m xs h = refl
take_within (suc n) zero xs h = absurd (omega arith)
take_within (suc n) (suc m) [] h = refl
take_within (suc n) (suc m) (x ∷ xs) h = ap (λ us. x ∷ us) (take_within n m xs (omega arith))

-- an item that tokens begin with is their content
item_front : (g : OperatorTable) (item xs : List Lexeme) (t : RawTree) → Item g item t → take (length item) xs ≡ item → content_in xs ≡ item
item_front g item xs t i e =
    let whole : xs ≡ item ++ drop (length item) xs = sym (take-append-drop (length item) xs) ∙ ap (λ us. us ++ drop (length item) xs) e in
    ap content_in whole ∙ (item_cut g item (drop (length item) xs) t i).0

-- fewer tokens than a front has
take_front : (n : ℕ) (front ys : List Lexeme) → n ≤ length front → take (length front) ys ≡ front → take n ys ≡ take n front
take_front n front ys h e = take_less n (length front) front ys h (e ∙ sym (take_all (length front) front (omega arith)))

ends_twice : (g : OperatorTable) (C more : List Lexeme) (t : RawTree) → content_in (C ++ more) ≡ C → Item g (C ++ more) t → Item g C t
ends_twice g C more t f i =
    let whole : content_in (C ++ more) ≡ C ++ more = ap content_in (sym (append-nil (C ++ more))) ∙ (item_cut g (C ++ more) [] t i).0 in
    subst (λ us. Item g us t) (sym whole ∙ f) i

-- where tokens go on as bad ones do, their content is no item either
at_end_none : (g : OperatorTable) (xs : List Lexeme) (a j : ℕ) → IsNoItem g (content_in xs) a → a ≡ length (content_in xs) → a ≤ j → j < length xs
    → ((more : List Lexeme) → content_in (content_in xs ++ more) ≡ content_in xs) ⊎ (content_in xs ≡ xs) → ⊥
at_end_none g xs a j bad e h l (inr s) = (let n : length (content_in xs) ≡ length xs = ap length s in omega (arith, n, e, h, l))
at_end_none g xs a j bad e h l (inl f) =
    let all : take a (content_in xs) ≡ content_in xs = take_all a (content_in xs) (omega (arith, e)) in
    let begun = bad.0.before in
    let item : Item g (content_in xs ++ begun.more) begun.tree = subst (λ us. Item g (us ++ begun.more) begun.tree) all begun.item in
    bad.1 begun.tree (ends_twice g (content_in xs) begun.more begun.tree (f begun.more) item)

goes_on : (g : OperatorTable) (xs ys : List Lexeme) (a j : ℕ) (t : RawTree) → IsNoItem g (content_in xs) a → a ≤ j → j < length xs
    → take (suc j) ys ≡ take (suc j) xs → Item g (content_in ys) t → suc j < length (content_in ys) → ⊥
goes_on g xs ys a j t bad h l e i m =
    let same : take (a + 1) ys ≡ take (a + 1) xs = take_less (a + 1) (suc j) xs ys (omega (arith, h)) e in
    let front : take (a + 1) ys ≡ take (a + 1) (content_in ys) = take_front (a + 1) (content_in ys) ys (omega (arith, h, m)) (front_is ys) in
    let begun : BeginsItem g (take (a + 1) (content_in ys)) = record {
      more = drop (a + 1) (content_in ys);
      tree = t;
      item = subst (λ us. Item g us t) (sym (take-append-drop (a + 1) (content_in ys))) i;
    } in
    let there : BeginsItem g (take (a + 1) xs) = subst (BeginsItem g) (sym front ∙ same) begun in
    elim (le_or_more a (length (content_in xs)) bad.0.within) [
      | inl less ↦ bad.0.here less (subst (BeginsItem g) (take_front (a + 1) (content_in xs) xs (omega (arith, less)) (front_is xs)) there)
      | inr all ↦ at_end_none g xs a j bad all h l (stop_or_all xs)
    ]

no_item : (g : OperatorTable) (xs ys : List Lexeme) (a j : ℕ) (t : RawTree) → IsNoItem g (content_in xs) a → a ≤ j → Alike j xs ys → ¬ Item g (content_in ys) t
no_item g xs ys a j t bad h (inr e) = λ i. bad.1 t (subst (λ us. Item g (content_in us) t) e i)
no_item g xs ys a j t bad h (inl e) = λ i.
    elim (less_or_not (suc j) (length (content_in ys))) [
      | inl m ↦ goes_on g xs ys a j t bad h e.0 e.1 i m
      | inr m ↦ bad.1 t (subst (λ us. Item g us t)
          (sym (item_front g (content_in ys) xs t i (sym (take_less (length (content_in ys)) (suc j) xs ys m e.1) ∙ front_is ys))) i)
    ]

-- nor a clause
same_content : (g : OperatorTable) (xs ys : List Lexeme) (j : ℕ) (u : RawTree) → Item g (content_in xs) u → length (content_in xs) ≤ suc j → Alike j xs ys → content_in ys ≡ content_in xs
same_content g xs ys j u i h (inr e) = ap content_in e
same_content g xs ys j u i h (inl e) = item_front g (content_in xs) ys u i (take_less (length (content_in xs)) (suc j) xs ys h e.1 ∙ front_is xs)

no_plain : (g : OperatorTable) (xs ys : List Lexeme) (b j : ℕ) (t : RawTree) → IsNoPlain g (content_in xs) b → b ≤ j → Alike j xs ys → Item g (content_in ys) t → may_be_clause t ≡ true → ⊥
no_plain g xs ys b j t (inl bad) h like i m = no_item g xs ys b j t bad h like i
no_plain g xs ys b j t (inr other) h like i m =
    let u : RawTree = other.1.0 in
    let same = same_content g xs ys j u other.1.1 (omega (arith, other.0, h)) like in
    let there : Item g (content_in xs) t = subst (λ us. Item g us t) same i in
    let is : t ≡ u = item_one g (content_in xs) t u there other.1.1 in
    false≢true (sym other.1.2 ∙ ap may_be_clause (sym is) ∙ m)

-- nor one with answers: a mark looks back alone
noted_alike : (k : ℕ) (xs ys : List Lexeme) → Alike k xs ys → Alike k (noted xs) (noted ys)
noted_alike k xs ys (inr e) = inr (ap noted e)
noted_alike k xs ys (inl e) =
    let long : length (noted xs) ≡ length xs = noted_long Elsewhere xs in
    inl (omega (arith, e.0, long), noted_take (suc k) ys ∙ ap noted e.1 ∙ sym (noted_take (suc k) xs))

no_marked : (g : OperatorTable) (xs ys : List Lexeme) (b j : ℕ) (t : RawTree) → IsNoMarked g (content_in xs) b → b ≤ j → Alike j xs ys → Item g (noted (content_in ys)) t → is_answered t ≡ true → ⊥
no_marked g xs ys b j t (inl bad) h like i m =
    no_item g (noted xs) (noted ys) b j t (subst (λ us. IsNoItem g us b) (sym (content_noted xs)) bad) h (noted_alike j xs ys like) (subst (λ us. Item g us t) (sym (content_noted ys)) i)
no_marked g xs ys b j t (inr other) h like i m =
    let u : RawTree = other.1.0 in
    let item : Item g (content_in (noted xs)) u = subst (λ us. Item g us u) (sym (content_noted xs)) other.1.1 in
    let long : length (content_in (noted xs)) ≡ length (content_in xs) = content_lengths Elsewhere xs in
    let same = same_content g (noted xs) (noted ys) j u item (omega (arith, other.0, h, long)) (noted_alike j xs ys like) in
    let there : Item g (content_in (noted xs)) t = subst (λ us. Item g us t) (sym (content_noted ys) ∙ same) i in
    let is : t ≡ u = item_one g (content_in (noted xs)) t u there item in
    false≢true (sym other.1.2 ∙ ap is_answered (sym is) ∙ m)

no_answered : (g : OperatorTable) (xs ys : List Lexeme) (b j : ℕ) (t : RawTree) (us : List ReadAnswer) → IsNoAnswered g (content_in xs) b → b ≤ j → Alike j xs ys → ¬ IsAnsweredItem g (content_in ys) t us
no_answered g xs ys b j t us (inr begun) h like = λ i. no_marked g xs ys b j i.0 begun.1 h like i.1 (answered_is i.0 t us i.2 i.3 i.4)
no_answered g xs ys b j t us (inl (none, inl bad)) h like = λ i.
    no_marked g xs ys b j i.0 (inl (subst (λ ts. IsNoItem g ts b) (sym (unmarked (content_in xs) none)) bad)) h like i.1 (answered_is i.0 t us i.2 i.3 i.4)
no_answered g xs ys b j t us (inl (none, inr other)) h like = λ i.
    let same = same_content g xs ys j other.1.0 other.1.1 (omega (arith, other.0, h)) like in
    false≢true (sym none ∙ ap begins_answer (sym same) ∙ i.5)

no_clause : (g : OperatorTable) (xs ys : List Lexeme) (b j : ℕ) (t : RawTree) (us : List ReadAnswer) → IsNoClause g (content_in xs) b → b ≤ j → Alike j xs ys → ¬ IsClauseWith g (content_in ys) t us
no_clause g xs ys b j t [] bad h like = λ i. by i.0
  where
    by : IsPlainItem g (content_in ys) t ⊎ IsFarItem g (content_in ys) t → ⊥
    by (inl plain) = no_plain g xs ys bad.plain j t bad.no_plain (omega (arith, bad.later, h)) like plain.0 (near_may_be t plain.2)
    by (inr far) = no_plain g xs ys bad.plain j t bad.no_plain (omega (arith, bad.later, h)) like far.0 (too_deep_clause t far.1)
no_clause g xs ys b j t (a ∷ us) bad h like = no_answered g xs ys bad.answered j t (a ∷ us) bad.no_answered (omega (arith, bad.later, h)) like

-- content of this kind suits the words that it stands with
kind_suits : (g : LineTables) (item : List Lexeme) (kind : ContentKind) (w : WrittenFirst) → HasKind g item kind
    → IsSomeContent g (states_formula w) item → suits kind w ≡ true
kind_suits g item Formula w h i = by (states_formula w) refl i
  where
    by : (b : Bool) → states_formula w ≡ b → IsSomeContent g b item → states_formula w ≡ true
    by true e i = e
    by false e i = absurd (h.1 i)
kind_suits g item Clause w h i = by (states_formula w) refl i
  where
    by : (b : Bool) → states_formula w ≡ b → IsSomeContent g b item → not (states_formula w) ≡ true
    by true e i = absurd (h.0 i)
    by false e i = ap not e
kind_suits g item Either w h i = refl

-- content of a kind is an item of a table
pub record SomeContent (g : LineTables) (item : List Lexeme) : Type 0 where
  pub by_formula : Bool
  pub tree : RawTree
  pub answers : List ReadAnswer
  pub is : IsContent g by_formula item tree answers

some_content : (g : LineTables) (item : List Lexeme) (kind : ContentKind) → HasKind g item kind → SomeContent g item
some_content g item Formula h = record { by_formula = true; tree = h.0.0; answers = h.0.1; is = h.0.2 }
some_content g item Clause h = record { by_formula = false; tree = h.1.0; answers = h.1.1; is = h.1.2 }
some_content g item Either h = record { by_formula = true; tree = h.0.0; answers = h.0.1; is = h.0.2 }

-- tokens that begin with content have it, and what is behind it
content_front : (g : LineTables) (item ys : List Lexeme) → SomeContent g item → take (length item) ys ≡ item
    → (content_in ys ≡ item) × (behind_content_in ys ≡ drop (length item) ys)
content_front g item ys c e =
    let whole : ys ≡ item ++ drop (length item) ys = sym (take-append-drop (length item) ys) ∙ ap (λ us. us ++ drop (length item) ys) e in
    let cut = content_cut g c.by_formula item (drop (length item) ys) c.tree c.answers c.is in
    (ap content_in whole ∙ cut.0, ap behind_content_in whole ∙ cut.1)

-- what stands behind content that tokens share is alike too
pub record Shares (xs ys : List Lexeme) (m : ℕ) : Type 0 where
  pub content : content_in ys ≡ content_in xs
  pub behind : Alike m (behind_content_in xs) (behind_content_in ys)

shares : (g : LineTables) (xs ys : List Lexeme) (m : ℕ) → SomeContent g (content_in xs) → Alike (length (content_in xs) + m) xs ys → Shares xs ys m
shares g xs ys m c (inr e) = record { content = ap content_in e; behind = inr (ap behind_content_in e) }
shares g xs ys m c (inl e) =
    let n : ℕ = length (content_in xs) in
    let front : take n ys ≡ content_in xs = take_less n (suc (n + m)) xs ys (omega arith) e.1 ∙ front_is xs in
    let a = content_front g (content_in xs) xs c (front_is xs) in
    let b = content_front g (content_in xs) ys c front in
    let k : suc (n + m) ≡ n + suc m = omega arith in
    let same : take (suc m) (drop n ys) ≡ take (suc m) (drop n xs) =
    sym (drop-take n (suc m) ys) ∙ ap (drop n) (ap (λ (i : ℕ). take i ys) (sym k) ∙ e.1 ∙ ap (λ (i : ℕ). take i xs) k) ∙ drop-take n (suc m) xs in
    let l : m < length (behind_content_in xs) = omega (arith, content_short xs, e.0) in
    record { content = b.0; behind = inl (l, ap (take (suc m)) b.1 ∙ same ∙ ap (take (suc m)) (sym a.1)) }

-- where tokens go on as those with bad words do, no words are there
no_words : (f : Spelling) (xs ys : List Lexeme) (m count : ℕ) (w : Written) → IsBadWordToken f xs m → Alike m xs ys → count ≤ length ys → ¬ SaysWords f (take count ys) w
no_words f xs ys m count w bad (inr e) h = λ says.
    bad.none (take count xs) (drop count xs) w (sym (take-append-drop count xs)) (subst (λ us. SaysWords f (take count us) w) e says)
no_words f xs ys m count w bad (inl e) h = λ says.
    elim (less_or_not m count) [
      | inl less ↦ (
          let n : m + 1 ≡ suc m = omega arith in
          let front : take (m + 1) (take count ys) ≡ take (m + 1) ys = take_within (m + 1) count ys (omega (arith, less)) in
          let same : take (m + 1) (take count ys) ≡ take (m + 1) xs = front ∙ ap (λ (i : ℕ). take i ys) n ∙ e.1 ∙ ap (λ (i : ℕ). take i xs) (sym n) in
          let begun : BeginsWords f (take (m + 1) (take count ys)) = record {
            more = drop (m + 1) (take count ys);
            words = w;
            says = subst (λ us. SaysWords f us w) (sym (take-append-drop (m + 1) (take count ys))) says;
          } in
          bad.here e.0 (subst (BeginsWords f) same begun))
      | inr most ↦ (
          let same : take count ys ≡ take count xs = take_less count (suc m) xs ys (omega (arith, most)) e.1 in
          bad.none (take count xs) (drop count xs) w (sym (take-append-drop count xs)) (subst (λ us. SaysWords f us w) same says))
    ]

no_bad_words : (g : LineTables) (xs ys : List Lexeme) (k count : ℕ) (w : Written) → HasBadWords g xs k → Alike k xs ys
    → IsSomeContent g (states_formula w.first) (content_in ys) → ¬ AreFirstWords (line_words Either) (behind_content_in ys) w count
no_bad_words g xs ys k count w bad like i = λ words.
    let c = some_content g (content_in xs) bad.kind bad.content in
    let both = shares g xs ys bad.token c (subst (λ (j : ℕ). Alike j xs ys) bad.behind like) in
    let suit = kind_suits g (content_in xs) bad.kind w.first bad.content (subst (IsSomeContent g (states_formula w.first)) both.content i) in
    no_words (line_words bad.kind) (behind_content_in xs) (behind_content_in ys) bad.token count w bad.bad both.behind words.0
    (narrower bad.kind (take count (behind_content_in ys)) [] w suit words.1)

no_bad_content : (g : LineTables) (xs ys : List Lexeme) (k : ℕ) (by_formula : Bool) (t : RawTree) (us : List ReadAnswer) → IsNoContent g (content_in xs) k → Alike k xs ys
    → ¬ IsContent g by_formula (content_in ys) t us
no_bad_content g xs ys k true t us bad like = λ i. no_item g.formulas xs ys bad.formula k t bad.no_formula (omega (arith, bad.later)) like i.0
no_bad_content g xs ys k false t us bad like = no_clause g.clauses xs ys bad.clause k t us bad.no_clause (omega (arith, bad.later)) like

-- of the tokens behind a number that are alike
behind_alike : (t u : Lexeme) (xs ys vs : List Lexeme) (k : ℕ) → vs ≡ u ∷ ys → Alike (suc k) (t ∷ xs) vs → (u ≡ t) × Alike k xs ys
behind_alike t u xs ys vs k i (inr e) = (ap (head_or t) (sym i ∙ e), inr (ap behind_head (sym i ∙ e)))
behind_alike t u xs ys vs k i (inl e) =
    let both : u ∷ take (suc k) ys ≡ t ∷ take (suc k) xs = ap (take (suc (suc k))) (sym i) ∙ e.1 in
    (ap (head_or t) both, inl (omega (arith, e.0), ap behind_head both))

first_alike : (t u : Lexeme) (xs ys vs : List Lexeme) (k : ℕ) → vs ≡ u ∷ ys → Alike k (t ∷ xs) vs → u ≡ t
first_alike t u xs ys vs k i (inr e) = ap (head_or t) (sym i ∙ e)
first_alike t u xs ys vs k i (inl e) = ap (head_or t) (ap (take (suc k)) (sym i) ∙ e.1)

no_line_behind : (g : LineTables) (xs : List Lexeme) (k : ℕ) (vs : List Lexeme) (l : LineParts) (n : ℕ) (p : FirstParts g vs l n) → IsBadBehindNumber g xs k → Alike k xs p.rest → ⊥
no_line_behind g xs k vs l n p (inl bad) like = no_bad_content g xs p.rest k (states_formula l.words.first) l.content l.answers bad like p.content
no_line_behind g xs k vs l n p (inr bad) like = no_bad_words g xs p.rest k p.count l.words bad like (l.content, l.answers, p.content) p.words

no_line_at : (g : LineTables) (ts : List Lexeme) (k : ℕ) (vs : List Lexeme) (l : LineParts) (n : ℕ) → IsBadOfLine g ts k → Alike k ts vs → FirstParts g vs l n → ⊥
no_line_at g [] k vs l n bad (inl e) p = omega (arith, e.0)
no_line_at g [] k vs l n bad (inr e) p = (let z : [] ≡ p.number ∷ p.rest = sym e ∙ p.is in omega (arith, ap length z))
no_line_at g (t ∷ ts) k vs l n (inl bad) like p =
    false≢true (sym bad.0 ∙ ap (is_of Number) (sym (first_alike t p.number ts p.rest vs k p.is like)) ∙ p.fits)
no_line_at g (t ∷ ts) k vs l n (inr bad) like p =
    let both = behind_alike t p.number ts p.rest vs bad.1.0 p.is (subst (λ (j : ℕ). Alike j (t ∷ ts) vs) bad.1.1 like) in
    no_line_behind g ts bad.1.0 vs l n p bad.1.2 both.1

whole_first : (g : LineTables) (vs : List Lexeme) (l : LineParts) → IsProofLine g vs l → IsFirstLine g vs l (length vs)
whole_first g vs l line = (omega arith, subst (λ us. IsProofLine g us l) (sym (take_all (length vs) vs (omega arith))) line)

pub bad_line_token : (g : LineTables) (ts : List Lexeme) (k : ℕ) → IsBadOfLine g ts k → IsBadLineToken g ts k
bad_line_token g ts k bad = record {
  here = λ h b.
      let us : List Lexeme = take (k + 1) ts in
      let next : k + 1 ≡ suc k = omega arith in
      let within : k + 1 ≤ length ts = omega (arith, h) in
      let long : length us ≡ suc k = length-take-le (k + 1) ts within ∙ next in
      let front : take (suc k) (us ++ b.more) ≡ take (suc k) ts = ap (λ (n : ℕ). take n (us ++ b.more)) (sym long) ∙ take-append_seam us b.more ∙ ap (λ (n : ℕ). take n ts) next in
      no_line_at g ts k (us ++ b.more) b.line (length (us ++ b.more)) bad (inl (h, front)) (first_parts g (us ++ b.more) b.line (length (us ++ b.more)) (whole_first g (us ++ b.more) b.line b.is));
  none = λ front rest l split line.
      let here : take (length front) ts ≡ front = ap (take (length front)) split ∙ take-append_seam front rest in
      let long : length ts ≡ length front + length rest = ap length split ∙ length-append front rest in
      no_line_at g ts k ts l (length front) bad (inr refl) (first_parts g ts l (length front) (omega (arith, long), subst (λ us. IsProofLine g us l) (sym here) line));
}
