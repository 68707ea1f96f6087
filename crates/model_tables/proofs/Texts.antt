-- The text of an interpretation, entry by entry.
use Rattle.std.proofs.Common.{◌≡◌, ℕ, zero, suc, ◌+◌, ◌<◌, ◌≤◌, ◌==◌, ◌||◌, not, Bool, true, false, if◌then◌else◌, List, [], ◌∷◌, ◌++◌, length, min, drop, get_or, codes, refl, sym, ap, ◌∙◌, append_assoc, arith}
use Rattle.std.proofs.lemmas.List.{drop_all}
use Rattle.fol_core.specs.SymbolTable.{Symbol, name_at, arity_at}
use Rattle.model_tables.specs.ModelText.{entry_text, entry_line, entries_of, entry_lines, lines_behind, lines_end, text_end}
use Rattle.model_tables.specs.Tables.{Listing}

-- the entries from i on
abbrev pub rest_of : List Symbol → List Listing → ℕ → List (List ℕ)
rest_of ss ls i = entries_of (drop i ss) (drop i ls)

-- their lines, where an entry stands before or none does
abbrev pub lines_from : Bool → List (List ℕ) → List ℕ
lines_from before es = if before then lines_behind es else entry_lines es

next : (ss : List Symbol) (ls : List Listing) (i : ℕ) (l : Listing) → i < length ls → i < length ss → l ≡ get_or ls i l
    → rest_of ss ls i ≡ (if length l.values == 0 then rest_of ss ls (i + 1) else entry_text (name_at ss i) (arity_at ss i) l.kind l.values ∷ rest_of ss ls (i + 1))
next ss [] i l a b e = absurd (omega arith)
next [] (m ∷ ls) i l a b e = absurd (omega arith)
next (s ∷ ss) (m ∷ ls) zero l a b e = rw e refl
next (s ∷ ss) (m ∷ ls) (suc i) l a b e = let same : suc i + 1 ≡ suc (i + 1) = omega arith in rw same (next ss ls i l (omega arith) (omega arith) e)

step : (before empty : Bool) (e : List ℕ) (es : List (List ℕ)) → lines_from before (if empty then es else e ∷ es)
    ≡ (if empty then [] else (if before then codes ",\n    " else codes "\n    ") ++ e) ++ lines_from (before || not empty) es
step true true e es = refl
step false true e es = refl
step true false e es = sym (append_assoc (codes ",\n    ") e (lines_behind es))
step false false e es = sym (append_assoc (codes "\n    ") e (lines_behind es))

-- the lines from i on are the line of i, if it has values, and those behind it
pub lines_next : (ss : List Symbol) (ls : List Listing) (i : ℕ) (l : Listing) (before : Bool) → i < length ls → i < length ss → l ≡ get_or ls i l
    → lines_from before (rest_of ss ls i) ≡ entry_line before (name_at ss i) (arity_at ss i) l ++ lines_from (before || not (length l.values == 0)) (rest_of ss ls (i + 1))
lines_next ss ls i l before a b e =
    ap (lines_from before) (next ss ls i l a b e) ∙ step before (length l.values == 0) (entry_text (name_at ss i) (arity_at ss i) l.kind l.values) (rest_of ss ls (i + 1))

no_listings : (ss : List Symbol) → entries_of ss [] ≡ []
no_listings [] = refl
no_listings (s ∷ ss) = refl

none_left : (ss : List Symbol) (ls : List Listing) (i : ℕ) → min (length ls) (length ss) ≤ i → rest_of ss ls i ≡ []
none_left [] ls i l = let none : drop {A = Symbol} i [] ≡ [] = drop_all i [] (omega arith) in rw none refl
none_left (s ∷ ss) [] zero l = refl
none_left (s ∷ ss) [] (suc i) l = let none : drop {A = Listing} (suc i) [] ≡ [] = drop_all (suc i) [] (omega arith) in rw none (no_listings (drop i ss))
none_left (s ∷ ss) (m ∷ ls) zero l = absurd (omega arith)
none_left (s ∷ ss) (m ∷ ls) (suc i) l = none_left ss ls i (omega arith)

-- what ends the lines
pub lines_over : (ss : List Symbol) (ls : List Listing) (i : ℕ) (before : Bool) → min (length ls) (length ss) ≤ i → lines_from before (rest_of ss ls i) ≡ lines_end before
lines_over ss ls i before l = ap (lines_from before) (none_left ss ls i l) ∙ by before
  where
    by : (b : Bool) → lines_from b [] ≡ lines_end b
    by true = refl
    by false = refl

-- what ends the text stands behind the lines
pub closed_text : (start lines out : List ℕ) (before : Bool) → out ++ lines_end before ≡ start ++ lines → out ++ text_end before ≡ start ++ lines ++ codes "]).\n"
closed_text start lines out before e = sym (append_assoc out (lines_end before) (codes "]).\n")) ∙ ap (λ (t : List ℕ). t ++ codes "]).\n") e
