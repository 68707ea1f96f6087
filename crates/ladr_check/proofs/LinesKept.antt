-- What the lines of proofs leave of a table of symbols.
use Rattle.std.proofs.Common.{◌≡◌, ◌⊎◌, ℕ, zero, suc, ◌^◌, ◌<◌, ◌≤◌, Bool, true, false, List, [], ◌∷◌, length, drop, Option, Some, None, refl, sym, ap, ◌∙◌, subst, inl, inr, arith}
use Rattle.std.specs.Prelude.{not, ◌==◌, ◌||◌, ◌&&◌, slice_get}
use Rattle.std.specs.List.{list_any}
use Rattle.std.proofs.lemmas.Bool.{true≢false, and_from, or_left, or_right, or_parts, cases_lt, eq-eqb}
use Rattle.std.specs.Fmt.{decimal}
use Rattle.clausify.specs.Names.{letter_numbered, HasNoSkolemRelation}
use Rattle.derivation.specs.declared.line.Line.{Line}
use Rattle.fol_core.specs.RawTree.{RawTree}
use Rattle.fol_core.specs.SymbolTable.{Symbol, name_at, kind_at, is_same_kind, KeepsNumbers}
use Rattle.fol_core.specs.declared.symbols.Kind.{Kind}
use Rattle.fol_core.specs.declared.symbols.Kind.TheVariants.{Function, Relation}
use Rattle.proof_lines.proofs.WideNumerals.{numeral_wide}
use Rattle.ladr_formulas.proofs.Growing.{grows_formula, grows_terms}
use Rattle.ladr_formulas.specs.Formulas.{Reading, meets, terms_of, unread}
use Rattle.ladr_formulas.specs.declared.styles.Style.{Style}
use Rattle.ladr_lex.specs.Cuts.{Piece}
use Rattle.ladr_lex.specs.Lexeme.{Lexeme}
use Rattle.ladr_lex.specs.Numeral.{is_numeral}
use Rattle.ladr_lex.specs.declared.misuse.Misuse.TheVariants.{TwoKinds, UnfitAttribute}
use Rattle.ladr_rules.specs.Attributes.{attributed}
use Rattle.proof_lines.specs.Answered.{ReadAnswer}
use Rattle.proof_lines.specs.ContentTokens.{LineTables}
use Rattle.proof_lines.specs.Faults.{IsLineRead}
use Rattle.proof_lines.specs.Stated.{answers_made, answers_read_behind, line_made, line_misuse, is_unfit, symbols_behind}
use Rattle.proof_lines.specs.Strays.{is_skolem_name, has_name, is_stray_relation, brings_stray}
use Rattle.proof_lines.specs.declared.line.LineRead.{LineRead}
use Rattle.proof_text.specs.Blocks.{TextBlock}
use Rattle.proof_text.specs.Proofs.{Reader, HasLines, HasProofs}
use Rattle.proof_text.specs.Proofs as proofs
use Rattle.proof_words.specs.Written.{states_formula}

line_keeps : (st : Style) (table : List Symbol) (by_formula : Bool) (t : RawTree) → KeepsNumbers table (line_made st table by_formula t).reading.symbols
line_keeps st table true t = (grows_formula st [] (attributed t).formula (unread table)).symbols
line_keeps st table false t = (grows_formula st [] t (unread table)).symbols

keeps_both : (a b c : List Symbol) → KeepsNumbers a b → KeepsNumbers b c → KeepsNumbers a c
keeps_both a b c h k = λ n s e. k n s (h n s e)

answers_keep : (st : Style) (s : Reading) (us : List ReadAnswer) → KeepsNumbers s.symbols (answers_made st s us).reading.symbols
answers_keep st s [] = λ n x e. e
answers_keep st s (a ∷ us) =
    let first : Reading = (terms_of st [] s a.terms).reading in
    keeps_both s.symbols first.symbols (answers_made st first us).reading.symbols (grows_terms st [] s a.terms).symbols (answers_keep st first us)

whole_keeps : (st : Style) (table : List Symbol) (by_formula : Bool) (t : RawTree) (us : List ReadAnswer) → KeepsNumbers table (symbols_behind st table by_formula t us)
whole_keeps st table by_formula t us =
    keeps_both table (line_made st table by_formula t).reading.symbols (symbols_behind st table by_formula t us) (line_keeps st table by_formula t) (answers_keep st (line_made st table by_formula t).reading us)

-- a line that breaks no row brings no stray relation
unbroken : (stray : Bool) (s : Reading) → (meets stray TwoKinds s).least ≡ None → stray ≡ false
unbroken true s e = absurd cc
unbroken false s e = refl

no_stray : (st : Style) (problem table : List Symbol) (by_formula : Bool) (t : RawTree) (us : List ReadAnswer) → line_misuse st problem table by_formula t us ≡ None
    → brings_stray problem (length table) (symbols_behind st table by_formula t us) ≡ false
no_stray st problem table by_formula t us e =
    unbroken (brings_stray problem (length table) (symbols_behind st table by_formula t us)) (meets (is_unfit by_formula t) UnfitAttribute (answers_read_behind st table by_formula t us).reading) e

-- what stands behind the first k fails a test that all of it fails
behind : (test : Symbol → Bool) (k r : ℕ) (table : List Symbol) (s : Symbol) → k ≤ r → slice_get table r ≡ Some s → list_any test (drop k table) ≡ false → test s ≡ false
behind test zero r [] s h e none = absurd cc
behind test zero zero (x ∷ xs) s h e none = let same : x ≡ s = cc in subst (λ (y : Symbol). test y ≡ false) same (or_parts (test x) (list_any test xs) none).0
behind test zero (suc r) (x ∷ xs) s h e none = behind test zero r xs s (omega arith) e (or_parts (test x) (list_any test xs) none).1
behind test (suc k) r [] s h e none = absurd cc
behind test (suc k) zero (x ∷ xs) s h e none = absurd (omega (arith, h))
behind test (suc k) (suc r) (x ∷ xs) s h e none = behind test k r xs s (omega (arith, h)) e none

inside : (table : List Symbol) (r : ℕ) → r < length table → (s : Symbol) × (slice_get table r ≡ Some s)
inside [] r h = absurd (omega (arith, h))
inside (x ∷ xs) zero h = (x, refl)
inside (x ∷ xs) (suc r) h = inside xs r (omega (arith, h))

-- a relation stands in the table
related : (table : List Symbol) (r : ℕ) → kind_at table r ≡ Relation → (s : Symbol) × (slice_get table r ≡ Some s)
related table r k = by (slice_get table r) refl
  where
    by : (o : Option Symbol) → slice_get table r ≡ o → (s : Symbol) × (slice_get table r ≡ Some s)
    by (Some s) e = (s, e)
    by None e = absurd (let f : kind_at table r ≡ Function = rw e refl in cc)

skolem_name : (letter n : ℕ) → n < 10 ^ 64 → (letter ≡ 99) ⊎ (letter ≡ 102) → is_skolem_name (letter_numbered letter n) ≡ true
skolem_name letter n few (inl c) = and_from (letter == 99 || letter == 102) (is_numeral (decimal n)) (or_left (letter == 99) (letter == 102) (eq-eqb letter 99 c)) (numeral_wide n few)
skolem_name letter n few (inr f) = and_from (letter == 99 || letter == 102) (is_numeral (decimal n)) (or_right (letter == 99) (letter == 102) (eq-eqb letter 102 f)) (numeral_wide n few)

-- a relation named like a Skolem symbol that isn't stray has a name of the problem
unstray : (problem : List Symbol) (s : Symbol) (name : List ℕ) → s.kind ≡ Relation → s.name ≡ name → is_skolem_name name ≡ true → is_stray_relation problem s ≡ false → has_name problem name ≡ true
unstray problem s name kind is skolem none = by (has_name problem name) refl
  where
    by : (b : Bool) → has_name problem name ≡ b → b ≡ true
    by true e = refl
    by false e =
        let like : is_skolem_name s.name ≡ true = ap is_skolem_name is ∙ skolem in
        let lacking : not (has_name problem s.name) ≡ true = ap not (ap (has_name problem) is ∙ e) in
        let related : is_same_kind s.kind Relation ≡ true = ap (λ (k : Kind). is_same_kind k Relation) kind in
        let stray = and_from (is_same_kind s.kind Relation) (is_skolem_name s.name && not (has_name problem s.name)) related (and_from (is_skolem_name s.name) (not (has_name problem s.name)) like lacking) in
        absurd (true≢false (sym stray ∙ none))

-- the symbols keep their numbers, and no relation that comes is named like a Skolem symbol but by the problem
pub record Goes (problem old new : List Symbol) : Type 0 where
  pub kept : KeepsNumbers old new
  pub no_relation : HasNoSkolemRelation problem old → HasNoSkolemRelation problem new

goes_both : (problem a b c : List Symbol) → Goes problem a b → Goes problem b c → Goes problem a c
goes_both problem a b c h k = record { kept = λ n s e. k.kept n s (h.kept n s e); no_relation = λ none. k.no_relation (h.no_relation none) }

line_goes : (g : LineTables) (st : Style) (problem table after : List Symbol) (ts : List Lexeme) (r : LineRead) → IsLineRead g st problem table ts r after → Goes problem table after
line_goes g st problem table after ts r h = record { kept = kept; no_relation = relations }
  where
    by_formula : Bool
    by_formula = states_formula h.parts.words.first

    kept : KeepsNumbers table after
    kept = subst (λ (s : List Symbol). KeepsNumbers table s) (sym h.symbols) (whole_keeps st table by_formula h.parts.content h.parts.answers)

    strays : brings_stray problem (length table) after ≡ false
    strays = ap (brings_stray problem (length table)) h.symbols ∙ no_stray st problem table by_formula h.parts.content h.parts.answers h.unmisused

    relations : HasNoSkolemRelation problem table → HasNoSkolemRelation problem after
    relations none r letter n few kind skolem is =
        elim (cases_lt r (length table)) [
          | inl before ↦ (
              let old = inside table r before in
              let new = kept r old.0 old.1 in
              let kinds : kind_at table r ≡ kind_at after r = rw (old.1, new) refl in
              let names : name_at table r ≡ name_at after r = rw (old.1, new) refl in
              none r letter n few (kinds ∙ kind) skolem (names ∙ is))
          | inr past ↦ (
              let found = related after r kind in
              let at : kind_at after r ≡ found.0.kind = rw found.1 refl in
              let named : name_at after r ≡ found.0.name = rw found.1 refl in
              unstray problem found.0 (letter_numbered letter n) (sym at ∙ kind) (sym named ∙ is) (skolem_name letter n few skolem)
              (behind (is_stray_relation problem) (length table) r after found.0 past found.1 strays))
        ]

lines_go : (g : Reader) (table last : List Symbol) (ts us : List Piece) (ls : List Line) → HasLines g table ts ls last us → Goes g.problem table last
lines_go g table last ts us ls proofs.no_line = record { kept = λ n s e. e; no_relation = λ none. none }
lines_go g table last ts us ls (proofs.further_line r first h) = goes_both g.problem table _ last (line_goes g.tables g.style g.problem table _ _ r first) (lines_go g _ last _ us _ h)

pub proofs_go : (g : Reader) (table last : List Symbol) (bs : List TextBlock) (ps : List (List Line)) → HasProofs g table bs ps last → Goes g.problem table last
proofs_go g table last bs ps proofs.no_block = record { kept = λ n s e. e; no_relation = λ none. none }
proofs_go g table last bs ps (proofs.further_block h k) = goes_both g.problem table _ last (lines_go g table _ h.0 [] _ h.2) (proofs_go g _ last _ _ k)
