-- Input clauses with their answers, one after the other.
use Rattle.std.proofs.Common.{◌≡◌, ◌↔◌, IsTrue, inl, inr, ℕ, zero, suc, ◌+◌, ◌<◌, ◌≤◌, Bool, if◌then◌else◌, List, [], ◌∷◌, length, get_or, drop, Option, Some, None, unwrap_or, refl, sym, ap, ◌∙◌, subst, arith, add-one}
use Rattle.std.proofs.lemmas.List.{drop_all}
use Rattle.answered_lines.specs.Lines.{Asked, AnsweredLine, AnsweredRow, IsSome, counted, answered_row, IsSaidWith, IsRowWith, IsClauseWith, row_answers, asked_at}
use Rattle.answers.specs.AnswerTrees.{Answer}
use Rattle.derivation.specs.Lines.{ContentTree, formula, clause, InputRow, assumed, wanted}
use Rattle.fol_core.specs.Fol.{Fol}
use Rattle.fol_core.specs.Literals.{ClauseTree}
use Rattle.fol_core.specs.Tree.{Tree, trees_of}
use Rattle.stated_lines.specs.Held.{rows_with, row_at, IsInputOfLine}

module _ (goal : Bool) (f : Fol) (asks : Option (List ℕ)) (ss : List Asked) (n : ℕ) (content : ContentTree) (us : List Answer) (r : AnsweredRow) where
  pub row_missing : None ≡ asked_at ss r.row.0 → IsRowWith goal f asks ss n content us r → ⊥
  row_missing none row = let e = none ∙ row.1 in cc

  pub row_other : (s : Asked) → Some s ≡ asked_at ss r.row.0 → (IsSaidWith goal f asks s → ⊥) → IsRowWith goal f asks ss n content us r → ⊥
  row_other s there apart row = let same : s ≡ row.0 = ap (λ o. unwrap_or o s) (there ∙ row.1) in apart (subst (IsSaidWith goal f asks) (sym same) row.2)

  pub row_clause : (s : Asked) (bs : List Answer) (b : Bool) → Some s ≡ asked_at ss r.row.0 → IsSaidWith goal f asks s → bs ≡ row_answers asks n r.terms
      → IsTrue b ↔ IsClauseWith content us r.row.1 bs → IsTrue b ↔ IsRowWith goal f asks ss n content us r
  row_clause s bs b there said are h =
      let with_own = subst (λ (vs : List Answer). IsTrue b ↔ IsClauseWith content us r.row.1 vs) are h in
      (λ yes. (s, sym there, said, with_own.0 yes), λ row. with_own.1 row.3)

-- what stands at a place is there whatever stands for what is past the end
pub there : {X : Type 0} (xs : List X) (i : ℕ) (x d : X) → i < length xs → x ≡ get_or xs i x → x ≡ get_or xs i d
there xs i x d h is = is ∙ defaults xs i x d h
  where
    defaults : {X : Type 0} (xs : List X) (i : ℕ) (x d : X) → i < length xs → get_or xs i x ≡ get_or xs i d
    defaults [] i x d h = absurd (omega arith)
    defaults (y ∷ xs) zero x d h = refl
    defaults (y ∷ xs) (suc i) x d h = defaults xs i x d (omega arith)

pub past : {X : Type 0} (xs : List X) (i : ℕ) (d : X) → length xs ≤ i → get_or xs i d ≡ d
past [] i d h = refl
past (y ∷ xs) zero d h = absurd (omega arith)
past (y ∷ xs) (suc i) d h = past xs i d (omega arith)

pub row_is : (rows : List InputRow) (lists : List (List Tree)) (i : ℕ) (r : InputRow) (ts none : List Tree) → i < length rows → r ≡ get_or rows i r → ts ≡ get_or lists i none → none ≡ []
    → answered_row r (trees_of ts) ≡ row_at rows lists i
row_is rows lists i r ts none h is are empty =
    ap (λ (q : InputRow). answered_row q (trees_of ts)) (there rows i r (0, []) h is) ∙ ap (λ (us : List Tree). answered_row (get_or rows i (0, [])) (trees_of us)) (are ∙ ap (get_or lists i) empty)

-- the rows from a place on
nothing : {X : Type 0} (i : ℕ) → drop {A = X} i [] ≡ []
nothing i = drop_all i [] (omega arith)

next : (rows : List InputRow) (lists : List (List Tree)) (i : ℕ) → i < length rows → rows_with (drop i rows) (drop i lists) ≡ row_at rows lists i ∷ rows_with (drop (suc i) rows) (drop (suc i) lists)
next [] lists i h = absurd (omega arith)
next (r ∷ rows) [] zero h = refl
next (r ∷ rows) (ts ∷ lists) zero h = refl
next (r ∷ rows) [] (suc i) h =
    ap (λ (ls : List (List Tree)). rows_with (drop i rows) ls) (sym (nothing i)) ∙ next rows [] i (omega arith)
    ∙ ap (λ (ts : List Tree). answered_row (get_or rows i (0, [])) (trees_of ts) ∷ rows_with (drop (suc i) rows) []) (past [] i [] (omega arith))
next (r ∷ rows) (ts ∷ lists) (suc i) h = next rows lists i (omega arith)

next_row : (rows : List InputRow) (lists : List (List Tree)) (i : ℕ) → i < length rows → rows_with (drop i rows) (drop i lists) ≡ row_at rows lists i ∷ rows_with (drop (i + 1) rows) (drop (i + 1) lists)
next_row rows lists i h = rw (add-one) (next rows lists i h)

-- what is among the rows from one on is among all, and only there
pub record Rowed (P : AnsweredRow → Type 0) (rows : List InputRow) (lists : List (List Tree)) (i : ℕ) : Type 0 where
  pub there : IsSome P (rows_with (drop i rows) (drop i lists)) → IsSome P (rows_with rows lists)
  pub only : IsSome P (rows_with rows lists) → IsSome P (rows_with (drop i rows) (drop i lists))

pub rows_start : (P : AnsweredRow → Type 0) (rows : List InputRow) (lists : List (List Tree)) → Rowed P rows lists 0
rows_start P rows lists = record { there = λ h. h; only = λ h. h }

module _ (P : AnsweredRow → Type 0) (rows : List InputRow) (lists : List (List Tree)) (i : ℕ) where
  pub rows_here : Rowed P rows lists i → i < length rows → P (row_at rows lists i) → IsSome P (rows_with rows lists)
  rows_here rowed h row = rowed.there (subst (IsSome P) (sym (next_row rows lists i h)) (inl row))

  pub rows_behind : Rowed P rows lists i → i < length rows → (P (row_at rows lists i) → ⊥) → Rowed P rows lists (i + 1)
  rows_behind rowed h apart = record {
    there = λ k. rowed.there (subst (IsSome P) (sym (next_row rows lists i h)) (inr k));
    only = λ k. elim (subst (IsSome P) (next_row rows lists i h) (rowed.only k)) [ inl row ↦ absurd (apart row) | inr rest ↦ rest ];
  }

  pub rows_end : Rowed P rows lists i → length rows ≤ i → IsSome P (rows_with rows lists) → ⊥
  rows_end rowed h k = subst (λ (rest : List InputRow). IsSome P (rows_with rest (drop i lists))) (drop_all i rows h) (rowed.only k)

-- and the row at a place is one of the rows
pub row_there : (P : AnsweredRow → Type 0) (rows : List InputRow) (lists : List (List Tree)) (i : ℕ) → i < length rows → P (row_at rows lists i) → IsSome P (rows_with rows lists)
row_there P [] lists i h row = absurd (omega arith)
row_there P (r ∷ rows) [] zero h row = inl row
row_there P (r ∷ rows) (ts ∷ lists) zero h row = inl row
row_there P (r ∷ rows) [] (suc i) h row = inr (row_there P rows [] i (omega arith) (subst (λ (ts : List Tree). P (answered_row (get_or rows i (0, [])) (trees_of ts))) (sym (past [] i [] (omega arith))) row))
row_there P (r ∷ rows) (ts ∷ lists) (suc i) h row = inr (row_there P rows lists i (omega arith) row)

module _ (ss : List Asked) (rows : List AnsweredRow) (l : AnsweredLine) (goal : Bool) (content : ContentTree) (us : List Answer) where
  pub input_clause : (c : ClauseTree) → l.line.content ≡ clause c → IsInputOfLine ss rows l goal content us → ⊥
  input_clause c is h =
      let e : clause c ≡ formula h.0 = sym is ∙ h.2.0 in
      cc

  pub input_word : (l.line.first ≡ (if goal then wanted else assumed) → ⊥) → IsInputOfLine ss rows l goal content us → ⊥
  input_word apart h = apart h.2.1

  pub input_where : (f : Fol) (asks : Option (List ℕ)) (b : Bool) → l.line.content ≡ formula f → l.line.first ≡ (if goal then wanted else assumed) → asks ≡ counted goal l.asks
      → IsTrue b ↔ IsSome (IsRowWith goal f asks ss l.line.number content us) rows → IsTrue b ↔ IsInputOfLine ss rows l goal content us
  input_where f asks b is word counts h = (
    λ yes. (f, asks, (is, word, sym counts), h.0 yes),
    λ k.
        let e : formula f ≡ formula k.0 = sym is ∙ k.2.0 in
        let same : k.0 ≡ f = cc in
        let asking : k.1 ≡ asks = sym k.2.2 ∙ sym counts in
        h.1 (subst (λ (o : Option (List ℕ)). IsSome (IsRowWith goal f o ss l.line.number content us) rows) asking (subst (λ (g : Fol). IsSome (IsRowWith goal g k.1 ss l.line.number content us) rows) same k.3)),
  )
