-- A printed refutation worked out.
use Rattle.std.proofs.Common.{◌≡◌, inl, inr, ℕ, zero, suc, Bool, true, false, List, [], ◌∷◌, ◌++◌, map, Some, None, lit<, lit≤, refl, sym, subst, arith}
use Rattle.std.specs.Prelude.{codes}
use Rattle.std.specs.Global.{Vec}
use Rattle.std.specs.Fmt.{decimal}
use Rattle.std.specs.Str.{bytes_eq}
use Rattle.std.proofs.lemmas.Bool.{cases_Bool}
use Rattle.std.proofs.lemmas.Fmt.{decimal_digit}
use Rattle.clausify.specs.Input.{clauses_in_table}
use Rattle.derivation.specs.Later.{LaterWord}
use Rattle.derivation.specs.Lines.{FirstWord, ContentTree, assumed, wanted, clausified, denied, resolved, formula, clause, LineTree, IsRefutation}
use Rattle.derivation.specs.View.{later_of}
use Rattle.derivation.specs.declared.words.Later.{Later}
use Rattle.fol_core.specs.Fol.{Fol, atom}
use Rattle.fol_core.specs.Literals.{literal}
use Rattle.fol_problem.specs.Stated.{said}
use Rattle.fol_core.specs.SymbolTable.{Symbol, symbol}
use Rattle.fol_core.specs.Tree.{app, none, more, var}
use Rattle.fol_problem.specs.declared.problem.Role.TheVariants.{Assumption, Goal}
use Rattle.fol_core.specs.declared.symbols.Kind.TheVariants.{Function, Relation}
use Rattle.fol_core.specs.SymbolTable.{number_of, FindsEach}
use Rattle.derivation.specs.declared.line.Content.{Content}
use Rattle.derivation.specs.declared.line.LineNotes.{LineNotes}
use Rattle.derivation.specs.declared.line.Content.TheVariants as content
use Rattle.ladr_formulas.specs.Formulas.{named_variable, style_of}
use Rattle.ladr_formulas.specs.declared.styles.Mode.TheVariants.{Prover}
use Rattle.ladr_formulas.specs.declared.styles.Style.{Style}
use Rattle.ladr_lex.specs.Bytes.{is_ordinary, is_special}
use Rattle.ladr_lex.specs.ClauseNames.{FreesVariables}
use Rattle.ladr_lex.specs.Lexeme.{ordinary}
use Rattle.ladr_lex.specs.Operators.{standard_rows}
use Rattle.ladr_print.specs.HasText.{plain, CanName}
use Rattle.ladr_reader.specs.Table.{table_of}
use Rattle.printed_proofs.specs.WorkedLines.{two_symbols, the_atom, assumed_and_wanted, the_formula, five_lines, five_texts}
use Rattle.proof_lines.specs.Noted.{asks_in}
use Rattle.proof_lines.specs.ContentTokens.{LineTables}
use Rattle.proof_lines.specs.WorkedLines.{worked_tables}
use Rattle.proof_print.specs.LineTexts.{content_text, lines_text}
use Rattle.proof_print.specs.Reread.{CanPrint, row_tables, IsPrintableContent, ReadsLines}
use Rattle.proof_print.specs.Rereadable.{ReadsAsItself, AreReadable}
use Rattle.proof_print.proofs.LinesBack.{lines_read}
use Rattle.proof_words.specs.Written.{WrittenFirst, as_assumption, as_goal, by_clausify, by_deny, by_resolve, written, satellite}
use Rattle.words_print.specs.Sayable.{AreSayable}
use Rattle.words_print.specs.WordTokens.{words_text}

abbrev f0 : Fol
f0 = atom 1 (more (app 0 none) none)

abbrev tree : ℕ → ContentTree → FirstWord → List LaterWord → LineTree
tree n content first later = record { number = n; content = content; first = first; later = later }

abbrev trees : List LaterWord → List LineTree
trees later =
    tree 1 (formula f0) assumed later ∷ tree 2 (formula f0) wanted later ∷ tree 3 (clause (literal true the_atom ∷ [])) (clausified 1) later
    ∷ tree 4 (clause (literal false the_atom ∷ [])) (denied 2) later ∷ tree 5 (clause []) (resolved 3 (record { place = 0; clause = 4; literal = 0 } ∷ [])) later ∷ []

-- nothing is bound in clauses without variables
pub refuted : (later : List LaterWord) → later ≡ [] → IsRefutation assumed_and_wanted.formulas (clauses_in_table two_symbols assumed_and_wanted) (trees later)
refuted later e = subst (λ (ws : List LaterWord). IsRefutation assumed_and_wanted.formulas (clauses_in_table two_symbols assumed_and_wanted) (trees ws)) (sym e) (
  (
    tt,
    (inl (refl, refl), refl),
    (
      lit< tt,
      (inr (inl (refl, refl)), refl),
      (
        lit< tt,
        ((f0, (tree 1 (formula f0) assumed [], refl, refl, refl), inl (said Assumption f0, refl, (refl, refl), refl)), refl),
        (
          lit< tt,
          ((f0, (tree 2 (formula f0) wanted [], refl, refl, refl), inr (inl (said Goal f0, refl, (refl, refl), refl))), refl),
          (lit< tt, ((literal true the_atom ∷ []) ∷ (literal false the_atom ∷ []) ∷ [], [], (refl, (refl, tt)), refl, (λ k. var, record { unifies = (refl, tt); general = λ other h. (var, refl) }, refl), refl), tt),
        ),
      ),
    ),
  ),
  refl,
)

-- their texts, word by word
abbrev text_by : ℕ → List ℕ → WrittenFirst → List LaterWord → List ℕ
text_by n content first later = decimal n ++ (codes " " ++ (content ++ (codes ".  " ++ (words_text (written first later) ++ codes "\n"))))

abbrev IsText : ℕ → Content → WrittenFirst → List ℕ → List LaterWord → Type 0
IsText n c first told later = text_by n (content_text worked_tables two_symbols false c) first later ≡ told

one_text : IsText 1 the_formula as_assumption (codes "1 p(a).  [assumption].\n") []
unfolding is_ordinary is_special
one_text = simp (decimal_digit 1 (omega arith))

two_text : IsText 2 the_formula as_goal (codes "2 p(a).  [goal].\n") []
unfolding is_ordinary is_special
two_text = simp (decimal_digit 2 (omega arith))

three_text : IsText 3 (content.Clause (literal true the_atom ∷ [])) (by_clausify 1) (codes "3 p(a).  [clausify(1)].\n") []
unfolding is_ordinary is_special
three_text = simp (decimal_digit 1 (omega arith), decimal_digit 3 (omega arith))

four_text : IsText 4 (content.Clause (literal false the_atom ∷ [])) (by_deny 2) (codes "4 -p(a).  [deny(2)].\n") []
unfolding is_ordinary is_special
four_text = simp (decimal_digit 2 (omega arith), decimal_digit 4 (omega arith))

five_text : IsText 5 (content.Clause []) (by_resolve 3 (satellite 0 4 0)) (codes "5 $F.  [resolve(3,a,4,a)].\n") []
unfolding is_ordinary is_special
five_text = simp (decimal_digit 3 (omega arith), decimal_digit 4 (omega arith), decimal_digit 5 (omega arith))

pub texts_are : (later : Vec Later) (notes : LineNotes) → map later_of later.items ≡ [] → lines_text worked_tables two_symbols false (five_lines later notes) ≡ five_texts
texts_are later notes e =
    let a = subst (IsText 1 the_formula as_assumption (codes "1 p(a).  [assumption].\n")) (sym e) one_text in
    let b = subst (IsText 2 the_formula as_goal (codes "2 p(a).  [goal].\n")) (sym e) two_text in
    let c = subst (IsText 3 (content.Clause (literal true the_atom ∷ [])) (by_clausify 1) (codes "3 p(a).  [clausify(1)].\n")) (sym e) three_text in
    let d = subst (IsText 4 (content.Clause (literal false the_atom ∷ [])) (by_deny 2) (codes "4 -p(a).  [deny(2)].\n")) (sym e) four_text in
    let f = subst (IsText 5 (content.Clause []) (by_resolve 3 (satellite 0 4 0)) (codes "5 $F.  [resolve(3,a,4,a)].\n")) (sym e) five_text in
    λ i. a i ++ (b i ++ (c i ++ (d i ++ (f i ++ []))))

-- the symbols are readable, and the operators at the start are such as clauses want
constant_named : CanName (table_of standard_rows) (codes "a") 0
unfolding is_ordinary
constant_named = record { sort = ordinary; written = refl; allowed = plain refl refl }

relation_named : CanName (table_of standard_rows) (codes "p") 1
unfolding is_ordinary
relation_named = record { sort = ordinary; written = refl; allowed = plain refl refl }

abbrev st : Style
st = style_of Prover false

constant_reads : (x : Symbol) → Some (symbol (codes "a") 0 Function) ≡ Some x → ReadsAsItself st x
constant_reads x e =
    let same : symbol (codes "a") 0 Function ≡ x = cc in
    subst (ReadsAsItself st) same (record { no_attribute = refl; no_variable = λ h. refl; relation = λ h. refl })

relation_reads : (x : Symbol) → Some (symbol (codes "p") 1 Relation) ≡ Some x → ReadsAsItself st x
relation_reads x e =
    let same : symbol (codes "p") 1 Relation ≡ x = cc in
    subst (ReadsAsItself st) same (record { no_attribute = refl; no_variable = λ h. refl; relation = λ h. refl })

two_readable : (is_used : ℕ → Bool) → AreReadable (table_of standard_rows) st two_symbols is_used
two_readable is_used zero h u = record { named = constant_named; itself = constant_reads }
two_readable is_used (suc zero) h u = record { named = relation_named; itself = relation_reads }
two_readable is_used (suc (suc n)) h u = absurd (omega (arith, h))

two_found : FindsEach two_symbols
two_found zero s e = (let same : symbol (codes "a") 0 Function ≡ s = cc in subst (λ (x : Symbol). number_of two_symbols x.name x.arity ≡ Some 0) same refl)
two_found (suc zero) s e = (let same : symbol (codes "p") 1 Relation ≡ s = cc in subst (λ (x : Symbol). number_of two_symbols x.name x.arity ≡ Some 1) same refl)
two_found (suc (suc n)) s e = absurd (cc)

free_names : FreesVariables false standard_rows
free_names zero h = refl
free_names (suc zero) h = refl
free_names (suc (suc zero)) h = refl
free_names (suc (suc (suc zero))) h = refl
free_names (suc (suc (suc (suc zero)))) h = refl
free_names (suc (suc (suc (suc (suc n))))) h =
    elim (cases_Bool (bytes_eq (118 ∷ decimal (suc (suc (suc (suc (suc n)))))) (codes "v"))) [
      | inl y ↦ rw y refl
      | inr k ↦ rw k refl
    ]

can_print : CanPrint standard_rows false two_symbols
unfolding is_ordinary is_special
can_print = record { lawful = refl; fixed = λ name h. refl; frees = free_names; few = lit≤ tt; finds = two_found }

abbrev g : LineTables
g = row_tables standard_rows standard_rows

clause_is : (positive : Bool) → IsPrintableContent g false two_symbols two_symbols (content.Clause (literal positive the_atom ∷ []))
clause_is true = record { over = ((inl (lit< tt, refl), (((lit< tt, refl), tt), tt)), tt); kinds = ((inr refl, ((refl, tt), tt)), tt); readable = two_readable _; numbered = refl; few = lit≤ tt; shallow = refl }
clause_is false = record { over = ((inl (lit< tt, refl), (((lit< tt, refl), tt), tt)), tt); kinds = ((inr refl, ((refl, tt), tt)), tt); readable = two_readable _; numbered = refl; few = lit≤ tt; shallow = refl }

empty_is : IsPrintableContent g false two_symbols two_symbols (content.Clause [])
empty_is = record { over = tt; kinds = tt; readable = two_readable _; numbered = refl; few = lit≤ tt; shallow = refl }

formula_is : IsPrintableContent g false two_symbols two_symbols the_formula
unfolding named_variable
formula_is = ((relation_named, ((constant_named, tt), tt)), record { shallow = refl; unmisused = refl; asks = λ e. refl; means = (refl, refl, refl); symbols = refl })

pub lines_back : (later : Vec Later) (notes : LineNotes) → map later_of later.items ≡ [] → asks_in notes ≡ None → notes.answers.items ≡ [] → ReadsLines g false two_symbols two_symbols (five_lines later notes)
lines_back later notes e asks answers =
    let none : AreSayable (map later_of later.items) = subst AreSayable (sym e) tt in
    lines_read standard_rows standard_rows false two_symbols two_symbols (five_lines later notes) can_print.lawful can_print (
      record { number = lit< tt; words = record { first = tt; later = none; alone = λ h. e }; suits = refl; content = formula_is; asks = asks; answers = answers },
      (
        record { number = lit< tt; words = record { first = tt; later = none; alone = λ h. e }; suits = refl; content = formula_is; asks = asks; answers = answers },
        (
          record { number = lit< tt; words = record { first = lit< tt; later = none; alone = λ h. e }; suits = refl; content = clause_is true; asks = asks; answers = answers },
          (
            record { number = lit< tt; words = record { first = lit< tt; later = none; alone = λ h. e }; suits = refl; content = clause_is false; asks = asks; answers = answers },
            (
              record { number = lit< tt; words = record { first = (lit< tt, (lit< tt, lit< tt, lit< tt)); later = none; alone = λ h. e }; suits = refl; content = empty_is; asks = asks; answers = answers },
              tt,
            ),
          ),
        ),
      ),
    )
