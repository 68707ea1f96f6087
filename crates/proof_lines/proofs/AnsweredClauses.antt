-- Tokens that are a clause, without answers or with some.
use Rattle.std.proofs.Common.{◌≡◌, ◌∙◌, ◌⊎◌, inl, inr, ℕ, suc, ◌-◌, ◌≤◌, max, Bool, true, false, ◌||◌, ◌&&◌, not, List, [], ◌∷◌, length, Option, Some, None, refl, ap, sym, arith}
use Rattle.std.proofs.lemmas.Bool.{true≢false}
use Rattle.std.specs.Prelude.{is_some, nat_le, if◌then◌else◌}
use Rattle.fol_core.specs.RawTree.{RawTree, depth}
use Rattle.fol_core.specs.RawView.{raw_list}
use Rattle.fol_core.specs.declared.raw.Raw.{Raw}
use Rattle.ladr_lex.specs.Lexeme.{Lexeme, lexemes_of}
use Rattle.ladr_lex.specs.declared.token.Token.{Token}
use Rattle.ladr_reader.specs.Capped.{disjuncts, all_within}
use Rattle.ladr_reader.specs.Reads.{Item}
use Rattle.ladr_reader.specs.Table.{OperatorTable}
use Rattle.ladr_reader.proofs.Complete.{item_one}
use Rattle.ladr_rules.specs.Attributes.{attributed}
use Rattle.proof_lines.specs.AnswerMarks.{begins_answer, noted}
use Rattle.proof_lines.specs.Answered.{ReadAnswer, all_answers, answer_read, answers_behind, clause_part, is_answered, some_answers, with_answer}
use Rattle.proof_lines.specs.declared.answered.TheConstants.{MOST_ANSWERED_LEVELS}
use Rattle.proof_lines.specs.ContentTokens.{IsPlainItem, IsFarItem, IsAnsweredItem, HasAnswers, IsClauseWith}
use Rattle.proof_lines.specs.Faults.{IsNoPlain, IsNoMarked, IsNoAnswered, IsNoClause}
use Rattle.proof_lines.specs.Literals.{read_as_clause, may_be_clause}
use Rattle.proof_lines.proofs.Clauses.{clause_may_not, item_some}
use Rattle.proof_lines.proofs.Contents.{lexemes_long}
use Rattle.proof_lines.proofs.Noting.{noted_long}
use Rattle.proof_lines.specs.declared.marks.Spot.TheVariants.{Elsewhere}

-- there is one answer at least
some_with : (o : Option ReadAnswer) (bs : Option (List ReadAnswer)) → with_answer o bs ≡ Some [] → ⊥
some_with None bs e = absurd cc
some_with (Some a) None e = absurd cc
some_with (Some a) (Some bs) e = absurd cc

some_there : (ts : List RawTree) → some_answers ts ≡ Some [] → ⊥
some_there [] e = absurd cc
some_there (t ∷ ts) e = some_with (answer_read t) (all_answers ts) e

pub never_none : (t : RawTree) → answers_behind t ≡ Some [] → ⊥
never_none t e = by (nat_le (depth t) MOST_ANSWERED_LEVELS) e
  where
    by : (b : Bool) → (if b then some_answers (attributed t).attributes else None) ≡ Some [] → ⊥
    by true h = some_there (attributed t).attributes h
    by false h = absurd cc

-- a clause with answers
pub with_some : (g : OperatorTable) (ts : List Lexeme) (t : RawTree) (us : List ReadAnswer) → IsAnsweredItem g ts t us → IsClauseWith g ts t us
with_some g ts t [] i = absurd (never_none i.0 i.2)
with_some g ts t (a ∷ us) i = i

-- there is none where no answer begins
pub unbegun : (g : OperatorTable) (ts : List Lexeme) → begins_answer ts ≡ false → ¬ HasAnswers g ts
unbegun g ts e = λ h. true≢false (sym h.2.5 ∙ e)

-- what stands as a clause and isn't too deep
or_second : (a b : Bool) → (not a || b) ≡ false → (a ≡ true) × (b ≡ false)
or_second true b e = (refl, e)
or_second false b e = absurd (true≢false e)

pub near_may_be : (t : RawTree) → read_as_clause (disjuncts t) ≡ true → may_be_clause t ≡ true
near_may_be t h = by (not (all_within 1001 (disjuncts t)))
  where
    by : (b : Bool) → (b || read_as_clause (disjuncts t)) ≡ true
    by true = refl
    by false = h

pub no_plain_none : (g : OperatorTable) (ts : List Lexeme) (k : ℕ) → IsNoPlain g ts k → (p : RawTree) → ¬ IsPlainItem g ts p
no_plain_none g ts k (inl bad) p = λ i. bad.1 p i.0
no_plain_none g ts k (inr other) p = λ i.
    let is : p ≡ other.1.0 = item_one g ts p other.1.0 i.0 other.1.1 in
    let no = or_second (all_within 1001 (disjuncts p)) (read_as_clause (disjuncts p)) (ap may_be_clause is ∙ other.1.2) in
    true≢false (sym i.2 ∙ no.1)

pub no_plain_far : (g : OperatorTable) (ts : List Lexeme) (k : ℕ) → IsNoPlain g ts k → (p : RawTree) → ¬ IsFarItem g ts p
no_plain_far g ts k (inl bad) p = λ i. bad.1 p i.0
no_plain_far g ts k (inr other) p = λ i.
    let is : p ≡ other.1.0 = item_one g ts p other.1.0 i.0 other.1.1 in
    let no = or_second (all_within 1001 (disjuncts p)) (read_as_clause (disjuncts p)) (ap may_be_clause is ∙ other.1.2) in
    true≢false (sym no.0 ∙ i.1)

some_is : (o : Option (List ReadAnswer)) (us : List ReadAnswer) → o ≡ Some us → is_some o ≡ true
some_is o us e = ap is_some e

pub answered_is : (t c : RawTree) (us : List ReadAnswer) → answers_behind t ≡ Some us → clause_part t ≡ c → read_as_clause (disjuncts c) ≡ true → is_answered t ≡ true
answered_is t c us e p h = both (is_some (answers_behind t)) (read_as_clause (disjuncts (clause_part t))) (some_is (answers_behind t) us e) (ap (λ d. read_as_clause (disjuncts d)) p ∙ h)
  where
    both : (a b : Bool) → a ≡ true → b ≡ true → (a && b) ≡ true
    both a b i j = rw (i, j) refl

pub no_marked_none : (g : OperatorTable) (ts : List Lexeme) (k : ℕ) → IsNoMarked g ts k → ¬ HasAnswers g ts
no_marked_none g ts k (inl bad) = λ h. bad.1 h.2.0 h.2.1
no_marked_none g ts k (inr other) = λ h.
    let is : h.2.0 ≡ other.1.0 = item_one g (noted ts) h.2.0 other.1.0 h.2.1 other.1.1 in
    true≢false (sym (answered_is h.2.0 h.0 h.1 h.2.2 h.2.3 h.2.4) ∙ ap is_answered is ∙ other.1.2)

pub no_answers_none : (g : OperatorTable) (ts : List Lexeme) (k : ℕ) → IsNoAnswered g ts k → ¬ HasAnswers g ts
no_answers_none g ts k (inl none) = unbegun g ts none.0
no_answers_none g ts k (inr begun) = no_marked_none g ts k begun.1

-- both bad tokens
pub neither : (g : OperatorTable) (ts : List Lexeme) (k j : ℕ) → IsNoPlain g ts k → IsNoMarked g ts j → begins_answer ts ≡ true → IsNoClause g ts (max k j)
neither g ts k j a b begun = record { plain = k; answered = j; no_plain = a; no_answered = inr (begun, b); later = refl }

-- and the one where no answer begins
max_once : (k : ℕ) → k ≡ max k k
max_once k = omega arith

pub never_begun : (g : OperatorTable) (ts : List Lexeme) (k : ℕ) → IsNoPlain g ts k → begins_answer ts ≡ false → IsNoClause g ts k
never_begun g ts k a none = record { plain = k; answered = k; no_plain = a; no_answered = inl (none, a); later = max_once k }

pub no_plain_within : (g : OperatorTable) (ts : List Lexeme) (k : ℕ) → IsNoPlain g ts k → k ≤ length ts
no_plain_within g ts k (inl bad) = bad.0.within
no_plain_within g ts k (inr other) = omega (arith, other.0)

no_marked_within : (g : OperatorTable) (ts : List Lexeme) (k : ℕ) → IsNoMarked g ts k → k ≤ length ts
no_marked_within g ts k (inl bad) = (let long : length (noted ts) ≡ length ts = noted_long Elsewhere ts in omega (arith, bad.0.within, long))
no_marked_within g ts k (inr other) = omega (arith, other.0)

pub no_answered_within : (g : OperatorTable) (ts : List Lexeme) (k : ℕ) → IsNoAnswered g ts k → k ≤ length ts
no_answered_within g ts k (inl none) = no_plain_within g ts k none.1
no_answered_within g ts k (inr begun) = no_marked_within g ts k begun.1

pub no_clause_within : (g : OperatorTable) (ts : List Lexeme) (k : ℕ) → IsNoClause g ts k → k ≤ length ts
no_clause_within g ts k bad =
    let a = no_plain_within g ts bad.plain bad.no_plain in
    let b = no_answered_within g ts bad.answered bad.no_answered in
    omega (arith, a, b, bad.later)

pub no_clause_none : (g : OperatorTable) (ts : List Lexeme) (k : ℕ) → IsNoClause g ts k → (t : RawTree) (us : List ReadAnswer) → ¬ IsClauseWith g ts t us
no_clause_none g ts k bad t [] = λ i. by i.0
  where
    by : IsPlainItem g ts t ⊎ IsFarItem g ts t → ⊥
    by (inl plain) = no_plain_none g ts bad.plain bad.no_plain t plain
    by (inr far) = no_plain_far g ts bad.plain bad.no_plain t far
no_clause_none g ts k bad t (a ∷ us) = λ i. no_answers_none g ts bad.answered bad.no_answered (t, a ∷ us, i)

-- a clause is one, with its answers
one_of : {A : Type 0} (o : Option A) (x y : A) → o ≡ Some x → o ≡ Some y → x ≡ y
one_of {A} o x y e i = (let both : Some x ≡ Some y = sym e ∙ i in cc)

pub item_of : (g : OperatorTable) (ts : List Lexeme) (t : RawTree) → IsPlainItem g ts t ⊎ IsFarItem g ts t → Item g ts t
item_of g ts t (inl plain) = plain.0
item_of g ts t (inr far) = far.0

pub clause_one : (g : OperatorTable) (ts : List Lexeme) (t u : RawTree) (us vs : List ReadAnswer) → IsClauseWith g ts t us → IsClauseWith g ts u vs → (t ≡ u) × (us ≡ vs)
clause_one g ts t u [] [] i k = (item_one g ts t u (item_of g ts t i.0) (item_of g ts u k.0), refl)
clause_one g ts t u [] (b ∷ vs) i k = absurd (i.1 (u, b ∷ vs, k))
clause_one g ts t u (a ∷ us) [] i k = absurd (k.1 (t, a ∷ us, i))
clause_one g ts t u (a ∷ us) (b ∷ vs) i k =
    let is : i.0 ≡ k.0 = item_one g (noted ts) i.0 k.0 i.1 k.1 in (
      sym i.3 ∙ ap clause_part is ∙ k.3,
      one_of (answers_behind k.0) (a ∷ us) (b ∷ vs) (ap answers_behind (sym is) ∙ i.2) k.2,
    )

-- the last token of those that are a term, as they are read
pub last_token : (g : OperatorTable) (ts : List Token) (t : RawTree) → Item g (noted (lexemes_of ts)) t → suc (length ts - 1) ≡ length (lexemes_of ts)
last_token g ts t i =
    let some : 1 ≤ length (noted (lexemes_of ts)) = item_some g (noted (lexemes_of ts)) t i in
    let long : length (noted (lexemes_of ts)) ≡ length (lexemes_of ts) = noted_long Elsewhere (lexemes_of ts) in
    let all : length (lexemes_of ts) ≡ length ts = lexemes_long ts in
    omega (arith, some, long, all)

pub none_answered : (t : RawTree) → answers_behind t ≡ None → is_answered t ≡ false
none_answered t e = ap (λ (o : Option (List ReadAnswer)). is_some o && read_as_clause (disjuncts (clause_part t))) e

pub unfit_answered : (t : RawTree) → read_as_clause (disjuncts (clause_part t)) ≡ false → is_answered t ≡ false
unfit_answered t e = ap (λ b. is_some (answers_behind t) && b) e ∙ by (is_some (answers_behind t))
  where
    by : (b : Bool) → (b && false) ≡ false
    by true = refl
    by false = refl

-- of a term that is looked at and is no clause the full stop is told
pub plain_token : (g : OperatorTable) (ts : List Token) (t : RawTree) (ls : List Raw) → Item g (lexemes_of ts) t → raw_list ls ≡ disjuncts t → all_within 1001 (raw_list ls) ≡ true → read_as_clause (raw_list ls) ≡ false
    → IsNoPlain g (lexemes_of ts) (length ts - 1)
plain_token g ts t ls i e w h =
    let some : 1 ≤ length (lexemes_of ts) = item_some g (lexemes_of ts) t i in
    let long : length (lexemes_of ts) ≡ length ts = lexemes_long ts in
    let last : suc (length ts - 1) ≡ length (lexemes_of ts) = omega (arith, some, long) in
    inr (last, (t, i, clause_may_not t ls e (ap (all_within 1001) (sym e) ∙ w) h))
