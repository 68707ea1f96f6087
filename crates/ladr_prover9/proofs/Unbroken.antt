-- Texts of terms, clauses and words are within a line where the names in them are.
use Rattle.std.proofs.Common.{◌≡◌, ℕ, zero, suc, ◌+◌, ◌/◌, ◌%◌, ◌==◌, not, Bool, true, false, if◌then◌else◌, List, [], ◌∷◌, ◌++◌, Option, Some, None, codes, refl, arith}
use Rattle.std.proofs.lemmas.Bool.{and_from}
use Rattle.std.proofs.lemmas.Bool.Decides.{nat_tests}
use Rattle.std.specs.Prelude.{IfSome}
use Rattle.std.specs.Str.{bytes_eq}
use Rattle.derivation.specs.Later.{LaterWord, flipped, merged, reflexive, unit_deleted, rewritten}
use Rattle.derivation.specs.declared.words.Satellite.{Satellite}
use Rattle.fol_core.specs.Fol.{Fol, verum, falsum, equal, atom, negation, conjunction, disjunction, implication, equivalence, forall, exists}
use Rattle.fol_core.specs.Literals.{Lit, ClauseTree, equality}
use Rattle.fol_core.specs.RawTree.{RawTree, named, quantified, RawTrees, no_raws, more_raws}
use Rattle.fol_core.specs.SymbolTable.{Symbol, name_at}
use Rattle.fol_core.specs.Tree.{Tree, var, elem, app, Trees, none, more}
use Rattle.fol_core.specs.declared.raw.Quantifier.{Quantifier}
use Rattle.fol_core.specs.declared.raw.Quantifier.TheVariants.{All, Exists}
use Rattle.ladr_lex.specs.Lexeme.{Lexeme, close_paren, comma}
use Rattle.ladr_lex.specs.Operators.{is_prefix}
use Rattle.ladr_lex.specs.declared.operators.Operator.{Operator}
use Rattle.ladr_output.proofs.Standing.{is_unbroken, unbroken_append, decimal_unbroken}
use Rattle.ladr_print.specs.ClauseText.{literal_raw, bar, clause_disjunction, clause_bytes}
use Rattle.ladr_print.specs.FormulaText.{two, denial, formula_raw, with_attribute}
use Rattle.ladr_print.specs.Precedences.{is_infix}
use Rattle.ladr_print.specs.RawText.{Printed, wrapped, left_argument, right_argument, body, word, further, commas, application_text, with_one, with_two, arranged, text_of, printed, printed_all}
use Rattle.ladr_print.specs.Spacing.{kept_apart, runs_into}
use Rattle.ladr_print.specs.TermText.{Naming, symbol_name, term_raw, terms_raw}
use Rattle.ladr_reader.specs.Table.{OperatorTable, left, right, takes, ends}
use Rattle.ladr_reader.specs.declared.sides.Side.TheVariants.{UpTo}
use Rattle.proof_words.specs.Written.{Written, WrittenFirst, as_assumption, as_goal, by_clausify, by_deny, by_copy, by_back_rewrite, by_back_unit_del, by_resolve, by_hyper, by_ur, by_factor, by_para, by_xx_res, by_instantiate}
use Rattle.words_print.specs.WordTokens.{letters_within, literal_name, number_token, literal_token, in_parens, further_numbers, further_satellites, subterm_tokens, first_tokens, is_rewriting, later_tokens, between_words, behind_words, further_tokens, words_tokens, token_text, joint_text, words_text}

abbrev pub IsFlat : List ℕ → Type 0
IsFlat bs = is_unbroken bs ≡ true

abbrev mutual
  -- all names of a term, those of its quantifiers too
  pub HasFlatNames : RawTree → Type 0
  HasFlatNames (named s ts) = IsFlat s × HaveFlatNames ts
  HasFlatNames (quantified q x t) = IsFlat x × HasFlatNames t

  pub HaveFlatNames : RawTrees → Type 0
  HaveFlatNames no_raws = Unit {0}
  HaveFlatNames (more_raws t ts) = HasFlatNames t × HaveFlatNames ts

-- printed terms
flat_if : (b : Bool) (x y : List ℕ) → IsFlat x → IsFlat y → IsFlat (if b then x else y)
flat_if true x y h k = h
flat_if false x y h k = k

abbrev AreFlat : List Printed → Type 0
AreFlat [] = Unit {0}
AreFlat (p ∷ ps) = IsFlat p.text × AreFlat ps

wrapped_flat : (b : Bool) (t : List ℕ) → IsFlat t → IsFlat (wrapped b t)
wrapped_flat true t h = h
wrapped_flat false t h = unbroken_append (codes "(" ++ t) (codes ")") (unbroken_append (codes "(") t refl h) refl

beside_flat : (a b : List ℕ) → IsFlat a → IsFlat b → IsFlat (kept_apart a b)
beside_flat a b h k = unbroken_append (a ++ (if runs_into a b then codes " " else [])) b (unbroken_append a _ h (flat_if (runs_into a b) (codes " ") [] refl refl)) k

further_flat : (ps : List Printed) → AreFlat ps → IsFlat (further ps)
further_flat [] h = refl
further_flat (p ∷ ps) h = unbroken_append (codes "," ++ p.text) (further ps) (unbroken_append (codes ",") p.text refl h.0) (further_flat ps h.1)

application_flat : (s : List ℕ) (ps : List Printed) → IsFlat s → AreFlat ps → IsFlat (application_text s ps)
application_flat s [] h k = h
application_flat s (p ∷ ps) h k =
    unbroken_append (s ++ codes "(" ++ commas (p ∷ ps)) (codes ")")
    (unbroken_append (s ++ codes "(") (commas (p ∷ ps)) (unbroken_append s (codes "(") h refl) (unbroken_append p.text (further ps) k.0 (further_flat ps k.1))) refl

left_flat : (o : Operator) (p : Printed) → IsFlat p.text → IsFlat (left_argument o p)
left_flat o p k = wrapped_flat (takes (left o.kind) o.precedence p.precedence) p.text k

right_flat : (o : Operator) (p : Printed) → IsFlat p.text → IsFlat (right_argument o p)
right_flat o p k = wrapped_flat (ends (right o.kind) o.precedence p.precedence p.grows) p.text k

one_flat : (o : Operator) (s : List ℕ) (p : Printed) → IsFlat s → IsFlat p.text → IsFlat (with_one o s p)
one_flat o s p h k =
    flat_if (is_infix o.kind) _ _ (application_flat s (p ∷ []) h (k, tt))
    (flat_if (is_prefix o.kind) _ _ (beside_flat s (right_argument o p) h (right_flat o p k)) (beside_flat (left_argument o p) s (left_flat o p k) h))

two_flat : (o : Operator) (s : List ℕ) (p q : Printed) → IsFlat s → IsFlat p.text → IsFlat q.text → IsFlat (with_two o s p q)
two_flat o s p q h k j =
    flat_if (is_infix o.kind) _ _
    (unbroken_append (left_argument o p ++ codes " " ++ s ++ codes " ") (right_argument o q)
    (unbroken_append (left_argument o p ++ codes " " ++ s) (codes " ")
    (unbroken_append (left_argument o p ++ codes " ") s (unbroken_append (left_argument o p) (codes " ") (left_flat o p k) refl) h) refl)
    (right_flat o q j))
    (application_flat s (p ∷ q ∷ []) h (k, (j, tt)))

arranged_flat : (o : Option Operator) (s : List ℕ) (ps : List Printed) → IsFlat s → AreFlat ps → IsFlat (arranged o s ps)
arranged_flat None s ps h k = application_flat s ps h k
arranged_flat (Some o) s [] h k = h
arranged_flat (Some o) s (p ∷ []) h k = one_flat o s p h k.0
arranged_flat (Some o) s (p ∷ q ∷ []) h k = two_flat o s p q h k.0 k.1.0
arranged_flat (Some o) s (p ∷ q ∷ r ∷ ps) h k = application_flat s (p ∷ q ∷ r ∷ ps) h k

quantifier_flat : (q : Quantifier) → IsFlat (word q)
quantifier_flat All = refl
quantifier_flat Exists = refl

mutual
  pub text_flat : (g : OperatorTable) (t : RawTree) → HasFlatNames t → IsFlat (text_of g t)
  text_flat g (named s ts) h = arranged_flat (g.op s) s (printed_all g ts) h.0 (texts_flat g ts h.1)
  text_flat g (quantified q x t) h =
      unbroken_append (word q ++ codes " " ++ x ++ codes " ") (body (printed g t))
      (unbroken_append (word q ++ codes " " ++ x) (codes " ") (unbroken_append (word q ++ codes " ") x (unbroken_append (word q) (codes " ") (quantifier_flat q) refl) h.0) refl)
      (wrapped_flat (ends UpTo 750 (printed g t).precedence (printed g t).grows) (text_of g t) (text_flat g t h.1))

  texts_flat : (g : OperatorTable) (ts : RawTrees) → HaveFlatNames ts → AreFlat (printed_all g ts)
  texts_flat g no_raws h = tt
  texts_flat g (more_raws t ts) h = (text_flat g t h.0, texts_flat g ts h.1)

-- the names of a table's symbols
abbrev pub HasFlatSymbols : List Symbol → Type 0
HasFlatSymbols [] = Unit {0}
HasFlatSymbols (s ∷ ss) = IsFlat s.name × HasFlatSymbols ss

symbol_flat : (table : List Symbol) → HasFlatSymbols table → (n : ℕ) → IsFlat (name_at table n)
symbol_flat [] h n = refl
symbol_flat (s ∷ ss) h zero = h.0
symbol_flat (s ∷ ss) h (suc n) = symbol_flat ss h.1 n

named_flat : (table : List Symbol) → HasFlatSymbols table → (n : ℕ) → IsFlat (symbol_name table n)
named_flat table h n = flat_if (n == equality) (codes "=") (name_at table n) refl (symbol_flat table h n)

-- terms, atoms, literals and formulas as terms that are read
module _ (table : List Symbol) (symbols : HasFlatSymbols table) (v : Naming) (variables : (x : ℕ) → IsFlat (v x)) where
  mutual
    term_flat : (t : Tree) → HasFlatNames (term_raw table v t)
    term_flat (var x) = (variables x, tt)
    term_flat (elem k) = (decimal_unbroken k, tt)
    term_flat (app s ts) = (named_flat table symbols s, terms_flat ts)

    terms_flat : (ts : Trees) → HaveFlatNames (terms_raw table v ts)
    terms_flat none = tt
    terms_flat (more t ts) = (term_flat t, terms_flat ts)

  denial_flat : (t : RawTree) → HasFlatNames t → HasFlatNames (denial t)
  denial_flat (quantified q x t) h = (refl, (h, tt))
  denial_flat (named s no_raws) h = (refl, (h, tt))
  denial_flat (named s (more_raws t no_raws)) h = (refl, (h, tt))
  denial_flat (named s (more_raws t (more_raws u no_raws))) h = by (bytes_eq s (codes "="))
    where
      by : (b : Bool) → HasFlatNames (if b then two (codes "!=") t u else named (codes "-") (more_raws (two s t u) no_raws))
      by true = (refl, h.1)
      by false = (refl, (h, tt))
  denial_flat (named s (more_raws t (more_raws u (more_raws w ts)))) h = (refl, (h, tt))

  literal_flat : (l : Lit) → HasFlatNames (literal_raw table v l)
  literal_flat l = by l.positive
    where
      by : (b : Bool) → HasFlatNames (if b then term_raw table v l.atom else denial (term_raw table v l.atom))
      by true = term_flat l.atom
      by false = denial_flat (term_raw table v l.atom) (term_flat l.atom)

  pub formula_flat : (f : Fol) → HasFlatNames (formula_raw table v f)
  formula_flat verum = (refl, tt)
  formula_flat falsum = (refl, tt)
  formula_flat (equal s t) = (refl, (term_flat s, (term_flat t, tt)))
  formula_flat (atom r ts) = (named_flat table symbols r, terms_flat ts)
  formula_flat (negation f) = denial_flat (formula_raw table v f) (formula_flat f)
  formula_flat (conjunction f g) = (refl, (formula_flat f, (formula_flat g, tt)))
  formula_flat (disjunction f g) = (refl, (formula_flat f, (formula_flat g, tt)))
  formula_flat (implication f g) = (refl, (formula_flat f, (formula_flat g, tt)))
  formula_flat (equivalence f g) = (refl, (formula_flat f, (formula_flat g, tt)))
  formula_flat (forall x f) = (variables x, formula_flat f)
  formula_flat (exists x f) = (variables x, formula_flat f)

  -- the text of a clause
  disjunction_flat : (g : OperatorTable) (l : Lit) (c : ClauseTree) → IsFlat (clause_disjunction g table v l c)
  disjunction_flat g l [] = right_flat bar (printed g (literal_raw table v l)) (text_flat g (literal_raw table v l) (literal_flat l))
  disjunction_flat g l (m ∷ c) =
      unbroken_append (left_argument bar (printed g (literal_raw table v l)) ++ codes " | ") (clause_disjunction g table v m c)
      (unbroken_append (left_argument bar (printed g (literal_raw table v l))) (codes " | ") (left_flat bar (printed g (literal_raw table v l)) (text_flat g (literal_raw table v l) (literal_flat l))) refl)
      (disjunction_flat g m c)

  pub clause_flat : (g : OperatorTable) (c : ClauseTree) → IsFlat (clause_bytes g table v c)
  clause_flat g [] = refl
  clause_flat g (l ∷ []) = text_flat g (literal_raw table v l) (literal_flat l)
  clause_flat g (l ∷ m ∷ c) = disjunction_flat g l (m ∷ c)

-- a formula with its label
abbrev pub HasFlatLabel : Option RawTree → Type 0
HasFlatLabel label = IfSome label HasFlatNames

pub labelled_flat : (label : Option RawTree) (t : RawTree) → HasFlatLabel label → HasFlatNames t → HasFlatNames (with_attribute label t)
labelled_flat None t l h = h
labelled_flat (Some a) t l h = (refl, (h, (l, tt)))

-- the texts of words
abbrev AreFlatTokens : List Lexeme → Type 0
AreFlatTokens [] = Unit {0}
AreFlatTokens (t ∷ ts) = IsFlat (token_text t) × AreFlatTokens ts

tokens_append : (ts us : List Lexeme) → AreFlatTokens ts → AreFlatTokens us → AreFlatTokens (ts ++ us)
tokens_append [] us h k = k
tokens_append (t ∷ ts) us h k = (h.0, tokens_append ts us h.1 k)

letters_flat : (steps n : ℕ) → IsFlat (letters_within steps n)
letters_flat zero n = refl
letters_flat (suc steps) zero = refl
letters_flat (suc steps) (suc a) = unbroken_append (letters_within steps (a / 26)) ((97 + a % 26) ∷ []) (letters_flat steps (a / 26)) (and_from (not ((97 + a % 26) == 10)) true (grind (arith, nat_tests)) refl)

place_flat : (a : ℕ) → IsFlat (literal_name a)
place_flat a = letters_flat (suc a) (suc a)

parens_flat : (ts : List Lexeme) → AreFlatTokens ts → AreFlatTokens (in_parens ts)
parens_flat ts h = (refl, tokens_append ts (close_paren ∷ []) h (refl, tt))

numbers_flat : (ns : List ℕ) → AreFlatTokens (further_numbers ns)
numbers_flat [] = tt
numbers_flat (n ∷ ns) = (refl, (decimal_unbroken n, numbers_flat ns))

satellites_flat : (ss : List Satellite) → AreFlatTokens (further_satellites ss)
satellites_flat [] = tt
satellites_flat (s ∷ ss) = (refl, (place_flat s.place, (refl, (decimal_unbroken s.clause, (refl, (place_flat s.literal, satellites_flat ss))))))

subterm_flat : (n a : ℕ) (path : List ℕ) → AreFlatTokens (subterm_tokens n a path)
subterm_flat n a path = (decimal_unbroken n, parens_flat (literal_token a ∷ further_numbers path) (place_flat a, numbers_flat path))

first_flat : (w : WrittenFirst) → AreFlatTokens (first_tokens w)
first_flat as_assumption = (refl, tt)
first_flat as_goal = (refl, tt)
first_flat (by_clausify n) = (refl, parens_flat (number_token n ∷ []) (decimal_unbroken n, tt))
first_flat (by_deny n) = (refl, parens_flat (number_token n ∷ []) (decimal_unbroken n, tt))
first_flat (by_copy n) = (refl, parens_flat (number_token n ∷ []) (decimal_unbroken n, tt))
first_flat (by_back_rewrite n) = (refl, parens_flat (number_token n ∷ []) (decimal_unbroken n, tt))
first_flat (by_back_unit_del n) = (refl, parens_flat (number_token n ∷ []) (decimal_unbroken n, tt))
first_flat (by_resolve n s) = (refl, parens_flat (number_token n ∷ further_satellites (s ∷ [])) (decimal_unbroken n, satellites_flat (s ∷ [])))
first_flat (by_hyper n ss) = (refl, parens_flat (number_token n ∷ further_satellites ss) (decimal_unbroken n, satellites_flat ss))
first_flat (by_ur n ss) = (refl, parens_flat (number_token n ∷ further_satellites ss) (decimal_unbroken n, satellites_flat ss))
first_flat (by_factor n a b) = (refl, parens_flat (number_token n ∷ comma ∷ literal_token a ∷ comma ∷ literal_token b ∷ []) (decimal_unbroken n, (refl, (place_flat a, (refl, (place_flat b, tt))))))
first_flat (by_para n a side m b path) = (
  refl,
  parens_flat (number_token n ∷ (in_parens (literal_token a ∷ comma ∷ number_token side ∷ []) ++ (comma ∷ subterm_tokens m b path))) (
    decimal_unbroken n,
    tokens_append (in_parens (literal_token a ∷ comma ∷ number_token side ∷ [])) (comma ∷ subterm_tokens m b path)
        (parens_flat (literal_token a ∷ comma ∷ number_token side ∷ []) (place_flat a, (refl, (decimal_unbroken side, tt)))) (refl, subterm_flat m b path),
  ),
)
first_flat (by_xx_res n a) = (refl, parens_flat (number_token n ∷ comma ∷ literal_token a ∷ []) (decimal_unbroken n, (refl, (place_flat a, tt))))
first_flat (by_instantiate n es) = (refl, parens_flat (number_token n ∷ []) (decimal_unbroken n, tt))

later_flat : (w : LaterWord) → AreFlatTokens (later_tokens w)
later_flat (rewritten n a path) = subterm_flat n a path
later_flat (flipped a) = (refl, parens_flat (literal_token a ∷ []) (place_flat a, tt))
later_flat (merged a) = (refl, parens_flat (literal_token a ∷ []) (place_flat a, tt))
later_flat (reflexive a) = (refl, parens_flat (literal_token a ∷ []) (place_flat a, tt))
later_flat (unit_deleted a n) = (refl, parens_flat (literal_token a ∷ comma ∷ number_token n ∷ []) (place_flat a, (refl, (decimal_unbroken n, tt))))

between_flat : (a b : Bool) → AreFlatTokens (between_words a b)
between_flat false false = (refl, tt)
between_flat false true = (refl, (refl, (refl, (refl, tt))))
between_flat true false = (refl, (refl, (refl, tt)))
between_flat true true = (refl, tt)

behind_flat : (a : Bool) → AreFlatTokens (behind_words a)
behind_flat false = (refl, (refl, tt))
behind_flat true = (refl, (refl, (refl, (refl, tt))))

words_further_flat : (inside : Bool) (ws : List LaterWord) → AreFlatTokens (further_tokens inside ws)
words_further_flat inside [] = behind_flat inside
words_further_flat inside (w ∷ ws) =
    tokens_append (between_words inside (is_rewriting w)) (later_tokens w ++ further_tokens (is_rewriting w) ws) (between_flat inside (is_rewriting w))
    (tokens_append (later_tokens w) (further_tokens (is_rewriting w) ws) (later_flat w) (words_further_flat (is_rewriting w) ws))

joint_flat : (ts : List Lexeme) → AreFlatTokens ts → IsFlat (joint_text ts)
joint_flat [] h = refl
joint_flat (t ∷ ts) h = unbroken_append (token_text t) (joint_text ts) h.0 (joint_flat ts h.1)

pub words_flat : (w : Written) → IsFlat (words_text w)
words_flat w = joint_flat (words_tokens w) (refl, tokens_append (first_tokens w.first) (further_tokens false w.later) (first_flat w.first) (words_further_flat false w.later))
