-- The text of a model, line by line.
use Rattle.std.proofs.Common.{◌≡◌, ◌⊎◌, inl, inr, ℕ, zero, suc, ◌+◌, ◌==◌, Bool, true, false, if◌then◌else◌, List, [], ◌∷◌, ◌++◌, length, codes, refl, sym, ap, ◌∙◌, subst, append_assoc}
use Rattle.std.proofs.lemmas.Bool.{and_parts}
use Rattle.std.specs.Fmt.{decimal}
use Rattle.fol_core.specs.SymbolTable.{Symbol}
use Rattle.fol_core.specs.declared.symbols.Kind.{Kind}
use Rattle.fol_core.specs.declared.symbols.Kind.TheVariants.{Function, Relation}
use Rattle.ladr_intake.proofs.Names.{name_unbroken}
use Rattle.ladr_output.proofs.Standing.{is_unbroken, unbroken_append, decimal_unbroken, line_ends, IsPassed, passed_line, passed_both}
use Rattle.ladr_output.specs.Standing.{AreWholeLines}
use Rattle.ladr_output.specs.Telling.{as_line}
use Rattle.ladr_problem.specs.Names.{is_name, are_named}
use Rattle.model_tables.specs.ModelText.{numbers_behind, numbers_text, further_places, places_text, kind_text, entry_text, entries_of, lines_behind, entry_lines, model_text}
use Rattle.model_tables.specs.Tables.{Listing, Finite}

-- a line of a model begins here behind its first one
abbrev pub IsFurther : List ℕ → Type 0
IsFurther tail = (rest : List ℕ) × ((tail ≡ 32 ∷ rest) ⊎ (tail ≡ 93 ∷ rest))

numbers_behind_unbroken : (xs : List ℕ) → is_unbroken (numbers_behind xs) ≡ true
numbers_behind_unbroken [] = refl
numbers_behind_unbroken (x ∷ xs) = unbroken_append (codes "," ++ decimal x) (numbers_behind xs) (unbroken_append (codes ",") (decimal x) refl (decimal_unbroken x)) (numbers_behind_unbroken xs)

numbers_unbroken : (xs : List ℕ) → is_unbroken (numbers_text xs) ≡ true
numbers_unbroken [] = refl
numbers_unbroken (x ∷ xs) = unbroken_append (decimal x) (numbers_behind xs) (decimal_unbroken x) (numbers_behind_unbroken xs)

further_unbroken : (n : ℕ) → is_unbroken (further_places n) ≡ true
further_unbroken zero = refl
further_unbroken (suc n) = unbroken_append (codes ",_") (further_places n) refl (further_unbroken n)

places_unbroken : (n : ℕ) → is_unbroken (places_text n) ≡ true
places_unbroken zero = refl
places_unbroken (suc n) = unbroken_append (codes "(_" ++ further_places n) (codes ")") (unbroken_append (codes "(_") (further_places n) refl (further_unbroken n)) refl

word_unbroken : (kind : Kind) → is_unbroken (kind_text kind) ≡ true
word_unbroken Function = refl
word_unbroken Relation = refl

entry_unbroken : (name : List ℕ) (arity : ℕ) (kind : Kind) (values : List ℕ) → is_unbroken name ≡ true → is_unbroken (entry_text name arity kind values) ≡ true
entry_unbroken name arity kind values h =
    let word = kind_text kind ++ codes "(" in
    let head = word ++ name ++ places_text arity in
    unbroken_append (head ++ codes ", [" ++ numbers_text values) (codes "])") (unbroken_append (head ++ codes ", [") (numbers_text values)
    (unbroken_append head (codes ", [") (unbroken_append (word ++ name) (places_text arity) (unbroken_append word name (unbroken_append (kind_text kind) (codes "(") (word_unbroken kind) refl) h) (places_unbroken arity)) refl) (numbers_unbroken values)) refl

abbrev AreUnbroken : List (List ℕ) → Type 0
AreUnbroken [] = Unit {0}
AreUnbroken (e ∷ es) = (is_unbroken e ≡ true) × AreUnbroken es

entries_unbroken : (ss : List Symbol) (ls : List Listing) → are_named ss ≡ true → AreUnbroken (entries_of ss ls)
entries_unbroken [] ls h = tt
entries_unbroken (s ∷ ss) [] h = tt
entries_unbroken (s ∷ ss) (l ∷ ls) h =
    let parts = and_parts (is_name s.name) (are_named ss) h in
    by (length l.values == 0) (entry_unbroken s.name s.arity l.kind l.values (name_unbroken s.name parts.0)) (entries_unbroken ss ls parts.1)
  where
    by : (b : Bool) → is_unbroken (entry_text s.name s.arity l.kind l.values) ≡ true → AreUnbroken (entries_of ss ls) → AreUnbroken (if b then entries_of ss ls else entry_text s.name s.arity l.kind l.values ∷ entries_of ss ls)
    by true first others = others
    by false first others = (first, others)

-- the lines from an entry on
abbrev lines_on : List ℕ → List (List ℕ) → List ℕ
lines_on e es = codes "    " ++ e ++ (lines_behind es ++ codes "]).\n")

lines_passed : (e : List ℕ) (es : List (List ℕ)) → is_unbroken e ≡ true → AreUnbroken es → IsPassed IsFurther (lines_on e es)
lines_passed e [] u us =
    let first = codes "    " ++ e in
    let both = passed_both IsFurther (as_line first) (as_line (codes "]).")) (passed_line IsFurther first (unbroken_append (codes "    ") e refl u)) (passed_line IsFurther (codes "]).") refl) (λ rest. (_, inr refl)) in
    subst (IsPassed IsFurther) (append_assoc first (10 ∷ []) (as_line (codes "])."))) both
lines_passed e (f ∷ fs) u us =
    let first = codes "    " ++ e in
    let others = lines_on f fs in
    let unbroken = unbroken_append first (codes ",") (unbroken_append (codes "    ") e refl u) refl in
    let both = passed_both IsFurther (as_line (first ++ codes ",")) others (passed_line IsFurther (first ++ codes ",") unbroken) (lines_passed f fs us.0 us.1) (λ rest. (_, inl refl)) in
    subst (IsPassed IsFurther) (append_assoc (first ++ codes ",") (10 ∷ []) others ∙ append_assoc first (codes ",") (10 ∷ others) ∙ ap (λ (u : List ℕ). first ++ (44 ∷ 10 ∷ 32 ∷ 32 ∷ 32 ∷ 32 ∷ u)) (sym (append_assoc f (lines_behind fs) (codes "]).\n")))) both

-- the first line, without what stands at its end
abbrev head_text : ℕ → ℕ → List ℕ
head_text n k = codes "interpretation(" ++ decimal n ++ codes ", [number = " ++ decimal k ++ codes ",seconds = 0], ["

head_unbroken : (n k : ℕ) → is_unbroken (head_text n k) ≡ true
head_unbroken n k =
    let opening = codes "interpretation(" ++ decimal n in
    unbroken_append (opening ++ codes ", [number = " ++ decimal k) (codes ",seconds = 0], [")
    (unbroken_append (opening ++ codes ", [number = ") (decimal k) (unbroken_append opening (codes ", [number = ") (unbroken_append (codes "interpretation(") (decimal n) refl (decimal_unbroken n)) refl) (decimal_unbroken k)) refl

entries_passed : (head : List ℕ) (es : List (List ℕ)) → is_unbroken head ≡ true → AreUnbroken es → IsPassed IsFurther (head ++ entry_lines es ++ codes "]).\n")
entries_passed head [] u us =
    let whole = head ++ [] in
    subst (IsPassed IsFurther) (append_assoc whole (codes "]).") (10 ∷ [])) (passed_line IsFurther (whole ++ codes "]).") (unbroken_append whole (codes "]).") (unbroken_append head [] u refl) refl))
entries_passed head (e ∷ es) u us =
    let others = lines_on e es in
    let both = passed_both IsFurther (as_line head) others (passed_line IsFurther head u) (lines_passed e es us.0 us.1) (λ rest. (_, inl refl)) in
    subst (IsPassed IsFurther)
    (append_assoc head (10 ∷ []) others ∙ ap (λ (v : List ℕ). head ++ (10 ∷ 32 ∷ 32 ∷ 32 ∷ 32 ∷ v)) (sym (append_assoc e (lines_behind es) (codes "]).\n"))) ∙ sym (append_assoc head (entry_lines (e ∷ es)) (codes "]).\n"))) both

pub model_passed : (ss : List Symbol) (k : ℕ) (t : Finite) → are_named ss ≡ true → IsPassed IsFurther (model_text ss k t)
unfolding model_text
model_passed ss k t h = entries_passed (head_text (t.top + 1) k) (entries_of ss t.rows) (head_unbroken (t.top + 1) k) (entries_unbroken ss t.rows h)

pub model_lines : (ss : List Symbol) (k : ℕ) (t : Finite) → AreWholeLines (model_text ss k t)
unfolding model_text
model_lines ss k t =
    let front = head_text (t.top + 1) k ++ entry_lines (entries_of ss t.rows) in
    subst AreWholeLines (append_assoc front (codes "]).") (10 ∷ [])) (line_ends (front ++ codes "])."))

-- its first byte
pub model_first : (ss : List Symbol) (k : ℕ) (t : Finite) (rest : List ℕ) → (more : List ℕ) × (model_text ss k t ++ rest ≡ 105 ∷ more)
unfolding model_text
model_first ss k t rest = (_, refl)
