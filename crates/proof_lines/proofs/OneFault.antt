-- Tokens have one fault at most.
use Rattle.std.proofs.Common.{◌≡◌, ◌∙◌, inl, inr, ℕ, zero, suc, ◌+◌, ◌≤◌, ◌<◌, max, Bool, List, [], ◌∷◌, ◌++◌, length, take, drop, Option, Some, refl, sym, ap, ap₂, subst, append_assoc, arith}
use Rattle.std.proofs.lemmas.Bool.{true≢false, cases_lt}
use Rattle.std.proofs.lemmas.List.{take-append-drop}
use Rattle.fol_core.specs.SymbolTable.{Symbol}
use Rattle.ladr_formulas.specs.declared.styles.Style.{Style}
use Rattle.ladr_lex.specs.Lexeme.{Lexeme}
use Rattle.ladr_lex.specs.declared.misuse.Misuse.{Misuse}
use Rattle.ladr_reader.specs.Reads.{Item, BeginsItem, IsBadToken}
use Rattle.ladr_reader.specs.Table.{OperatorTable}
use Rattle.proof_lines.specs.ContentTokens.{LineTables, HasKind, content_in, behind_content_in}
use Rattle.proof_lines.specs.AnswerMarks.{begins_answer, noted}
use Rattle.proof_lines.specs.Faults.{IsNoPlain, IsNoMarked, IsNoAnswered, IsNoClause, IsNoContent, IsBadBehindNumber, IsBadOfLine, IsLineFault}
use Rattle.proof_lines.specs.Lines.{LineParts, IsFirstLine}
use Rattle.proof_lines.specs.Stated.{is_deep_with, line_misuse}
use Rattle.proof_lines.specs.declared.fault.LineFault.{LineFault}
use Rattle.proof_lines.specs.declared.fault.LineFault.TheVariants.{Bad, Deep, Misused, Memory}
use Rattle.proof_lines.proofs.AnsweredClauses.{no_clause_none}
use Rattle.proof_lines.proofs.BadTokens.{bad_line_token}
use Rattle.proof_lines.proofs.OneLine.{one_line}
use Rattle.proof_words.specs.Faults.{BeginsWords, IsBadWordToken}
use Rattle.proof_words.specs.Spelling.{Spelling, SaysWords, line_words}
use Rattle.proof_words.specs.Written.{states_formula}
use Rattle.proof_words.specs.declared.names.ContentKind.{ContentKind}
use Rattle.proof_words.specs.declared.names.ContentKind.TheVariants.{Formula, Clause, Either}

-- more tokens go on with the fewer
further : (j k : ℕ) (ts : List Lexeme) → j ≤ k → (us : List Lexeme) × (take k ts ≡ take j ts ++ us)
further zero k ts h = (take k ts, refl)
further (suc j) zero ts h = absurd (omega (arith, h))
further (suc j) (suc k) [] h = ([], refl)
further (suc j) (suc k) (t ∷ ts) h = let rest = further j k ts (omega (arith, h)) in (rest.0, ap (λ (us : List Lexeme). t ∷ us) rest.1)

-- the first token that goes on with nothing is one
module _ (Begins : List Lexeme → Type 0) (front : (ts us : List Lexeme) → Begins (ts ++ us) → Begins ts) (ts : List Lexeme) where
  not_before : (j k : ℕ) → j < k → k ≤ length ts → Begins (take k ts) → (j < length ts → ¬ Begins (take (j + 1) ts)) → ⊥
  not_before j k h within begins here =
      let more = further (j + 1) k ts (omega (arith, h)) in
      here (omega (arith, h, within)) (front (take (j + 1) ts) more.0 (subst Begins more.1 begins))

  first_once : (j k : ℕ) → j ≤ length ts → k ≤ length ts → Begins (take j ts) → Begins (take k ts) → (j < length ts → ¬ Begins (take (j + 1) ts)) → (k < length ts → ¬ Begins (take (k + 1) ts)) → j ≡ k
  first_once j k a b x y h i =
      elim (cases_lt j k) [
        | inl l ↦ absurd (not_before j k l b y h)
        | inr m ↦ elim (cases_lt k j) [ inl l ↦ absurd (not_before k j l a x i) | inr n ↦ omega (arith, m, n) ]
      ]

item_front : (g : OperatorTable) (ts us : List Lexeme) → BeginsItem g (ts ++ us) → BeginsItem g ts
item_front g ts us b = record { more = us ++ b.more; tree = b.tree; item = subst (λ (vs : List Lexeme). Item g vs b.tree) (append_assoc ts us b.more) b.item }

words_front : (f : Spelling) (ts us : List Lexeme) → BeginsWords f (ts ++ us) → BeginsWords f ts
words_front f ts us b = record { more = us ++ b.more; words = b.words; says = subst (λ (vs : List Lexeme). SaysWords f vs b.words) (append_assoc ts us b.more) b.says }

token_once : (g : OperatorTable) (ts : List Lexeme) (j k : ℕ) → IsBadToken g ts j → IsBadToken g ts k → j ≡ k
token_once g ts j k a b = first_once (BeginsItem g) (item_front g) ts j k a.within b.within a.before b.before a.here b.here

word_once : (f : Spelling) (ts : List Lexeme) (j k : ℕ) → IsBadWordToken f ts j → IsBadWordToken f ts k → j ≡ k
word_once f ts j k a b = first_once (BeginsWords f) (words_front f) ts j k a.within b.within a.before b.before a.here b.here

plain_once : (g : OperatorTable) (ts : List Lexeme) (j k : ℕ) → IsNoPlain g ts j → IsNoPlain g ts k → j ≡ k
plain_once g ts j k (inl a) (inl b) = token_once g ts j k a.0 b.0
plain_once g ts j k (inl a) (inr b) = absurd (a.1 b.1.0 b.1.1)
plain_once g ts j k (inr a) (inl b) = absurd (b.1 a.1.0 a.1.1)
plain_once g ts j k (inr a) (inr b) = omega (arith, a.0, b.0)

marked_once : (g : OperatorTable) (ts : List Lexeme) (j k : ℕ) → IsNoMarked g ts j → IsNoMarked g ts k → j ≡ k
marked_once g ts j k (inl a) (inl b) = token_once g (noted ts) j k a.0 b.0
marked_once g ts j k (inl a) (inr b) = absurd (a.1 b.1.0 b.1.1)
marked_once g ts j k (inr a) (inl b) = absurd (b.1 a.1.0 a.1.1)
marked_once g ts j k (inr a) (inr b) = omega (arith, a.0, b.0)

answered_once : (g : OperatorTable) (ts : List Lexeme) (j k : ℕ) → IsNoAnswered g ts j → IsNoAnswered g ts k → j ≡ k
answered_once g ts j k (inl a) (inl b) = plain_once g ts j k a.1 b.1
answered_once g ts j k (inl a) (inr b) = absurd (true≢false (sym b.0 ∙ a.0))
answered_once g ts j k (inr a) (inl b) = absurd (true≢false (sym a.0 ∙ b.0))
answered_once g ts j k (inr a) (inr b) = marked_once g ts j k a.1 b.1

clause_once : (g : OperatorTable) (ts : List Lexeme) (j k : ℕ) → IsNoClause g ts j → IsNoClause g ts k → j ≡ k
clause_once g ts j k a b = a.later ∙ ap₂ max (plain_once g ts a.plain b.plain a.no_plain b.no_plain) (answered_once g ts a.answered b.answered a.no_answered b.no_answered) ∙ sym b.later

content_once : (g : LineTables) (ts : List Lexeme) (j k : ℕ) → IsNoContent g ts j → IsNoContent g ts k → j ≡ k
content_once g ts j k a b =
    a.later ∙ ap₂ max (token_once g.formulas ts a.formula b.formula a.no_formula.0 b.no_formula.0) (clause_once g.clauses ts a.clause b.clause a.no_clause b.no_clause) ∙ sym b.later

-- tokens that are no content have no kind
kindless : (g : LineTables) (ts : List Lexeme) (k : ℕ) (kind : ContentKind) → IsNoContent g ts k → HasKind g ts kind → ⊥
kindless g ts k Formula a h = a.no_formula.1 h.0.0 h.0.2.0
kindless g ts k Clause a h = no_clause_none g.clauses ts a.clause a.no_clause h.1.0 h.1.1 h.1.2
kindless g ts k Either a h = a.no_formula.1 h.0.0 h.0.2.0

kind_once : (g : LineTables) (ts : List Lexeme) (a b : ContentKind) → HasKind g ts a → HasKind g ts b → a ≡ b
kind_once g ts Formula Formula h k = refl
kind_once g ts Formula Clause h k = absurd (h.1 k.1)
kind_once g ts Formula Either h k = absurd (h.1 k.1)
kind_once g ts Clause Formula h k = absurd (h.0 k.0)
kind_once g ts Clause Clause h k = refl
kind_once g ts Clause Either h k = absurd (h.0 k.0)
kind_once g ts Either Formula h k = absurd (k.1 h.1)
kind_once g ts Either Clause h k = absurd (k.0 h.0)
kind_once g ts Either Either h k = refl

behind_once : (g : LineTables) (ts : List Lexeme) (j k : ℕ) → IsBadBehindNumber g ts j → IsBadBehindNumber g ts k → j ≡ k
behind_once g ts j k (inl a) (inl b) = content_once g (content_in ts) j k a b
behind_once g ts j k (inl a) (inr b) = absurd (kindless g (content_in ts) j b.kind a b.content)
behind_once g ts j k (inr a) (inl b) = absurd (kindless g (content_in ts) k a.kind b a.content)
behind_once g ts j k (inr a) (inr b) =
    let kinds = kind_once g (content_in ts) a.kind b.kind a.content b.content in
    let moved = subst (λ (x : ContentKind). IsBadWordToken (line_words x) (behind_content_in ts) a.token) kinds a.bad in
    a.behind ∙ ap (λ (n : ℕ). length (content_in ts) + n) (word_once (line_words b.kind) (behind_content_in ts) a.token b.token moved b.bad) ∙ sym b.behind

bad_once : (g : LineTables) (ts : List Lexeme) (j k : ℕ) → IsBadOfLine g ts j → IsBadOfLine g ts k → j ≡ k
bad_once g [] j k a b = a ∙ sym b
bad_once g (t ∷ ts) j k (inl a) (inl b) = a.1 ∙ sym b.1
bad_once g (t ∷ ts) j k (inl a) (inr b) = absurd (true≢false (sym b.0 ∙ a.0))
bad_once g (t ∷ ts) j k (inr a) (inl b) = absurd (true≢false (sym a.0 ∙ b.0))
bad_once g (t ∷ ts) j k (inr a) (inr b) = a.1.1 ∙ ap suc (behind_once g ts a.1.0 b.1.0 a.1.2 b.1.2) ∙ sym b.1.1

module _ (g : LineTables) (st : Style) (problem table : List Symbol) (ts : List Lexeme) where
  -- a token is bad of no line
  unbroken : (k : ℕ) (l : LineParts) (n : ℕ) → IsBadOfLine g ts k → IsFirstLine g ts l n → ⊥
  unbroken k l n bad first = (bad_line_token g ts k bad).none (take n ts) (drop n ts) l (sym (take-append-drop n ts)) first.1

  abbrev too_deep : LineParts → Bool
  too_deep l = is_deep_with (states_formula l.words.first) l.content l.answers

  abbrev misuse_of : LineParts → Option Misuse
  misuse_of l = line_misuse st problem table (states_formula l.words.first) l.content l.answers

  pub fault_once : (a b : LineFault) → IsLineFault g st problem table ts a → IsLineFault g st problem table ts b → ¬ a ≡ Memory → ¬ b ≡ Memory → a ≡ b
  fault_once (Bad j) (Bad k) h i m n = ap Bad (bad_once g ts j k h i)
  fault_once (Bad j) Deep h i m n = absurd (unbroken j i.0 i.1 h i.2)
  fault_once (Bad j) (Misused q) h i m n = absurd (unbroken j i.0 i.1 h i.2)
  fault_once Deep (Bad k) h i m n = absurd (unbroken k h.0 h.1 i h.2)
  fault_once Deep Deep h i m n = refl
  fault_once Deep (Misused q) h i m n =
      let same = one_line g ts h.0 i.0 h.1 i.1 h.2 i.2 in
      absurd (true≢false (sym h.3 ∙ ap too_deep same.0 ∙ i.3))
  fault_once (Misused p) (Bad k) h i m n = absurd (unbroken k h.0 h.1 i h.2)
  fault_once (Misused p) Deep h i m n =
      let same = one_line g ts h.0 i.0 h.1 i.1 h.2 i.2 in
      absurd (true≢false (sym i.3 ∙ ap too_deep (sym same.0) ∙ h.3))
  fault_once (Misused p) (Misused q) h i m n =
      let same = one_line g ts h.0 i.0 h.1 i.1 h.2 i.2 in
      let told : Some p ≡ Some q = sym h.4 ∙ ap misuse_of same.0 ∙ i.4 in
      let row : p ≡ q = cc in
      ap Misused row
  fault_once Memory b h i m n = absurd (m refl)
  fault_once (Bad j) Memory h i m n = absurd (n refl)
  fault_once Deep Memory h i m n = absurd (n refl)
  fault_once (Misused p) Memory h i m n = absurd (n refl)
