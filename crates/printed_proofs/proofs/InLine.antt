-- Texts of terms, contents and words have no end of a line in them.
use Rattle.std.proofs.Common.{◌≡◌, ℕ, ◌<◌, ◌^◌, Bool, true, false, List, [], ◌∷◌, ◌++◌, Option, Some, None, inl, inr, refl, sym, ap, ◌∙◌, subst}
use Rattle.std.specs.Prelude.{not, if◌then◌else◌, codes}
use Rattle.std.specs.Fmt.{decimal}
use Rattle.std.specs.List.{list_all}
use Rattle.std.specs.Str.{bytes_eq}
use Rattle.std.proofs.lemmas.Bool.{cases_eq, ne_eqb, and_parts, and_from, or_cases, both_ways}
use Rattle.std.proofs.lemmas.Slice.Eq.{bytes_eq-Decides}
use Rattle.derivation.specs.declared.line.Content.{Content}
use Rattle.derivation.specs.declared.line.Content.TheVariants.{Formula, Clause}
use Rattle.fol_core.specs.FormulaView.{fol_of}
use Rattle.fol_core.specs.RawTree.{RawTree, named, quantified, RawTrees, no_raws, more_raws}
use Rattle.fol_core.specs.SymbolTable.{Symbol}
use Rattle.fol_core.specs.declared.raw.Quantifier.{Quantifier}
use Rattle.fol_core.specs.declared.raw.Quantifier.TheVariants.{All, Exists}
use Rattle.ladr_lex.specs.Bytes.{is_ordinary, is_special, is_quote, is_quotable}
use Rattle.ladr_lex.specs.ClauseNames.{clause_variable}
use Rattle.ladr_lex.specs.Comments.{is_in_line}
use Rattle.ladr_lex.specs.Cuts.{can_be, is_run, is_special_run, ends_quoted}
use Rattle.ladr_lex.specs.Lexeme.{Lexeme, Sort, ordinary, quoted, special, open_paren, close_paren, open_square, close_square, comma, full_stop, symbol, unreadable}
use Rattle.ladr_lex.specs.Operators.{OperatorRow, is_prefix}
use Rattle.ladr_lex.specs.declared.operators.Operator.{Operator}
use Rattle.ladr_lex.proofs.Numerals.{ordinary_decimal}
use Rattle.ladr_print.specs.ClauseText.{clause_raw, clause_bytes}
use Rattle.ladr_print.specs.HasText.{kind_of, HasText, HaveTexts}
use Rattle.ladr_print.specs.Precedences.{is_infix}
use Rattle.ladr_print.specs.RawText.{Printed, wrapped, left_argument, right_argument, body, word, further, commas, application_text, with_one, with_two, arranged, text_of, printed, printed_all}
use Rattle.ladr_print.specs.Spacing.{kept_apart, runs_into}
use Rattle.ladr_print.proofs.Disjunctions.{clause_is}
use Rattle.ladr_reader.specs.Table.{OperatorTable, table_of, left, right, takes, ends}
use Rattle.ladr_reader.specs.declared.sides.Side.TheVariants.{UpTo}
use Rattle.proof_print.specs.LineTexts.{content_text, formula_term}
use Rattle.proof_print.proofs.NamedClauses.{clause_has}
use Rattle.proof_print.specs.Reread.{CanPrint, IsPrintableContent, row_tables}
use Rattle.proof_print.proofs.Joined.{Stands, Tidy, is_mark}
use Rattle.words_print.specs.WordTokens.{token_text, joint_text}

abbrev pub InLine : List ℕ → Type 0
InLine bs = list_all is_in_line bs ≡ true

pub in_append : (xs ys : List ℕ) → InLine xs → InLine ys → InLine (xs ++ ys)
in_append [] ys h k = k
in_append (x ∷ xs) ys h k =
    let parts = and_parts (is_in_line x) (list_all is_in_line xs) h in
    and_from (is_in_line x) (list_all is_in_line (xs ++ ys)) parts.0 (in_append xs ys parts.1 k)

-- what a class without the end of a line has
class_in : (p : ℕ → Bool) → p 10 ≡ false → (b : ℕ) → p b ≡ true → is_in_line b ≡ true
class_in p n b h =
    elim (cases_eq b 10) [
      | inl e ↦ absurd (both_ways (p 10) n (sym (ap p e) ∙ h))
      | inr d ↦ ap not (ne_eqb b 10 d)
    ]

all_in : (p : ℕ → Bool) → p 10 ≡ false → (bs : List ℕ) → list_all p bs ≡ true → InLine bs
all_in p n [] h = refl
all_in p n (b ∷ bs) h =
    let parts = and_parts (p b) (list_all p bs) h in
    and_from (is_in_line b) (list_all is_in_line bs) (class_in p n b parts.0) (all_in p n bs parts.1)

pub ordinary_in : (b : ℕ) → is_ordinary b ≡ true → is_in_line b ≡ true
unfolding is_ordinary
ordinary_in b h = class_in is_ordinary refl b h

pub run_in : (bs : List ℕ) → is_run is_ordinary bs ≡ true → InLine bs
unfolding is_ordinary
run_in [] h = refl
run_in (b ∷ bs) h = all_in is_ordinary refl (b ∷ bs) h

pub decimal_in : (n : ℕ) → n < 2 ^ 64 → InLine (decimal n)
decimal_in n h = run_in (decimal n) (ordinary_decimal n h)

special_in : (bs : List ℕ) → is_special_run bs ≡ true → InLine bs
unfolding is_special
special_in [] h = refl
special_in (b ∷ []) h = and_from (is_in_line b) true (class_in is_special refl b (and_parts _ _ h).0) refl
special_in (b ∷ c ∷ cs) h =
    let parts = and_parts (is_special b) (is_special_run (c ∷ cs)) h in
    and_from (is_in_line b) _ (class_in is_special refl b parts.0) (special_in (c ∷ cs) parts.1)

quoted_in : (bs : List ℕ) → ends_quoted bs ≡ true → InLine bs
quoted_in [] h = refl
quoted_in (b ∷ []) h = and_from (is_in_line b) true (class_in is_quote refl b h) refl
quoted_in (b ∷ c ∷ cs) h =
    let parts = and_parts (is_quotable b) (ends_quoted (c ∷ cs)) h in
    and_from (is_in_line b) _ (class_in is_quotable refl b parts.0) (quoted_in (c ∷ cs) parts.1)

same_in : (s w : List ℕ) → bytes_eq s w ≡ true → InLine w → InLine s
same_in s w h k = subst InLine (sym ((bytes_eq-Decides s w).0 h)) k

sign_in : (s : List ℕ) → can_be (Some (kind_of special)) s ≡ true → InLine s
sign_in s h =
    elim (or_cases _ _ h) [
      | inl a ↦ elim (or_cases _ _ a) [
        | inl b ↦ elim (or_cases _ _ b) [ inl c ↦ same_in s (codes "'") c refl | inr c ↦ same_in s (codes "-") c refl ]
        | inr b ↦ same_in s (codes "<-") b refl
      ]
      | inr a ↦ special_in s a
    ]

name_in_line : (k : Sort) (s : List ℕ) → can_be (Some (kind_of k)) s ≡ true → InLine s
name_in_line ordinary s h = run_in s h
name_in_line quoted [] h = refl
name_in_line quoted (b ∷ bs) h =
    let parts = and_parts (is_quote b) (ends_quoted bs) h in
    and_from (is_in_line b) _ (class_in is_quote refl b parts.0) (quoted_in bs parts.1)
name_in_line special s h = sign_in s h

-- printed terms
if_in : (b : Bool) (x y : List ℕ) → InLine x → InLine y → InLine (if b then x else y)
if_in true x y h k = h
if_in false x y h k = k

abbrev AllIn : List Printed → Type 0
AllIn [] = Unit {0}
AllIn (p ∷ ps) = InLine p.text × AllIn ps

wrapped_in : (b : Bool) (t : List ℕ) → InLine t → InLine (wrapped b t)
wrapped_in true t h = h
wrapped_in false t h = in_append (codes "(" ++ t) (codes ")") (in_append (codes "(") t refl h) refl

beside_in : (a b : List ℕ) → InLine a → InLine b → InLine (kept_apart a b)
beside_in a b h k = in_append (a ++ (if runs_into a b then codes " " else [])) b (in_append a _ h (if_in (runs_into a b) (codes " ") [] refl refl)) k

further_in : (ps : List Printed) → AllIn ps → InLine (further ps)
further_in [] h = refl
further_in (p ∷ ps) h = in_append (codes "," ++ p.text) (further ps) (in_append (codes ",") p.text refl h.0) (further_in ps h.1)

application_in : (s : List ℕ) (ps : List Printed) → InLine s → AllIn ps → InLine (application_text s ps)
application_in s [] h k = h
application_in s (p ∷ ps) h k =
    in_append (s ++ codes "(" ++ commas (p ∷ ps)) (codes ")")
    (in_append (s ++ codes "(") (commas (p ∷ ps)) (in_append s (codes "(") h refl) (in_append p.text (further ps) k.0 (further_in ps k.1))) refl

one_in : (o : Operator) (s : List ℕ) (p : Printed) → InLine s → InLine p.text → InLine (with_one o s p)
one_in o s p h k =
    if_in (is_infix o.kind) _ _ (application_in s (p ∷ []) h (k, tt))
    (if_in (is_prefix o.kind) _ _ (beside_in s (right_argument o p) h (wrapped_in (ends (right o.kind) o.precedence p.precedence p.grows) p.text k))
    (beside_in (left_argument o p) s (wrapped_in (takes (left o.kind) o.precedence p.precedence) p.text k) h))

two_in : (o : Operator) (s : List ℕ) (p q : Printed) → InLine s → InLine p.text → InLine q.text → InLine (with_two o s p q)
two_in o s p q h k j =
    if_in (is_infix o.kind) _ _
    (in_append (left_argument o p ++ codes " " ++ s ++ codes " ") (right_argument o q)
    (in_append (left_argument o p ++ codes " " ++ s) (codes " ")
    (in_append (left_argument o p ++ codes " ") s (in_append (left_argument o p) (codes " ") (wrapped_in (takes (left o.kind) o.precedence p.precedence) p.text k) refl) h) refl)
    (wrapped_in (ends (right o.kind) o.precedence q.precedence q.grows) q.text j))
    (application_in s (p ∷ q ∷ []) h (k, (j, tt)))

arranged_in : (o : Option Operator) (s : List ℕ) (ps : List Printed) → InLine s → AllIn ps → InLine (arranged o s ps)
arranged_in None s ps h k = application_in s ps h k
arranged_in (Some o) s [] h k = h
arranged_in (Some o) s (p ∷ []) h k = one_in o s p h k.0
arranged_in (Some o) s (p ∷ q ∷ []) h k = two_in o s p q h k.0 k.1.0
arranged_in (Some o) s (p ∷ q ∷ r ∷ ps) h k = application_in s (p ∷ q ∷ r ∷ ps) h k

quantifier_in : (q : Quantifier) → InLine (word q)
quantifier_in All = refl
quantifier_in Exists = refl

mutual
  pub text_in : (g : OperatorTable) (t : RawTree) → HasText g t → InLine (text_of g t)
  text_in g (named s ts) h = arranged_in (g.op s) s (printed_all g ts) (name_in_line h.0.sort s h.0.written) (texts_in g ts h.1)
  text_in g (quantified q x t) h =
      in_append (word q ++ codes " " ++ x ++ codes " ") (body (printed g t))
      (in_append (word q ++ codes " " ++ x) (codes " ") (in_append (word q ++ codes " ") x (in_append (word q) (codes " ") (quantifier_in q) refl) (name_in_line h.0.sort x h.0.written)) refl)
      (wrapped_in (ends UpTo 750 (printed g t).precedence (printed g t).grows) (text_of g t) (text_in g t h.1))

  texts_in : (g : OperatorTable) (ts : RawTrees) → HaveTexts g ts → AllIn (printed_all g ts)
  texts_in g no_raws h = tt
  texts_in g (more_raws t ts) h = (text_in g t h.0, texts_in g ts h.1)

pub content_in : (formulas clauses : List OperatorRow) (prolog : Bool) (problem T : List Symbol) (content : Content) → CanPrint clauses prolog T →
    IsPrintableContent (row_tables formulas clauses) prolog problem T content → InLine (content_text (row_tables formulas clauses) T prolog content)
content_in formulas clauses prolog problem T (Formula f label) can p = text_in (table_of formulas) (formula_term T (fol_of f.shape) f.names label) p.0
content_in formulas clauses prolog problem T (Clause c) can p =
    let v = clause_variable prolog in
    let over = clause_has clauses can.fixed prolog can.frees T can.few c p.over (λ n h e. (p.readable n h e).named) in
    let text = ap (clause_bytes (table_of clauses) T v) p.numbered ∙ clause_is clauses can.fixed T v c in
    subst InLine (sym text) (text_in (table_of clauses) (clause_raw T v c) over)

-- the texts of tokens that stand apart
mark_in : (t : Lexeme) → is_mark t ≡ true → InLine (token_text t)
mark_in open_paren h = refl
mark_in close_paren h = refl
mark_in open_square h = refl
mark_in close_square h = refl
mark_in comma h = refl
mark_in full_stop h = refl
mark_in (symbol s text) h = absurd (cc)
mark_in unreadable h = absurd (cc)

token_in : (t : Lexeme) (ts : List Lexeme) → Stands t ts → InLine (token_text t)
token_in t ts (inl m) = mark_in t m
token_in t ts (inr w) = subst (λ (u : Lexeme). InLine (token_text u)) (sym w.1) (run_in w.0 w.2)

pub joint_in : (ts : List Lexeme) → Tidy ts → InLine (joint_text ts)
joint_in [] d = refl
joint_in (t ∷ ts) d = in_append (token_text t) (joint_text ts) (token_in t ts d.0) (joint_in ts d.1)
