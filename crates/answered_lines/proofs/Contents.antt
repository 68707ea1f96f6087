-- A line that is inferred has one content, with one list of answers.
use Rattle.std.proofs.Common.{◌≡◌, ◌<◌, inl, inr, ℕ, ◌+◌, Bool, true, false, ◌==◌, if◌then◌else◌, IsTrue, List, [], ◌∷◌, ◌++◌, unwrap_or, refl, sym, ap, ◌∙◌, subst, arith}
use Rattle.std.proofs.lemmas.Bool.{or_cases, eqb-true, false≢true}
use Rattle.answers.specs.AnswerTrees.{Answer, each_once, above_all, fresh_for, whole, numbered_answers, IsSame}
use Rattle.answered_lines.specs.Lines.{AnsweredLine, plain_lines, answers_of_line, answers_at, AfterWith, IsInferredWith, clause_put_in, answers_put_in, IsInstanceWith}
use Rattle.answered_lines.specs.Steps.{ConcludesWith, used_by, Joins, only_answers, Brings}
use Rattle.answered_lines.proofs.AnswerInstances.{answers_alike}
use Rattle.answered_lines.specs.Laws.{MatchBrings, NewAreAbove, NothingInferred, NothingPutIn}
use Rattle.answered_lines.proofs.Conclusions.{one_conclusion_with}
use Rattle.answered_lines.proofs.PlainLines.{inferred_none, instance_none}
use Rattle.substitutions.specs.Bindings.{Binding}
use Rattle.derivation.specs.Later.{LaterWord, flipped, merged, reflexive, unit_deleted, rewritten, later_parents, Leads}
use Rattle.derivation.specs.Lines.{Inference, clause}
use Rattle.derivation.specs.Equations.{left_of, term_below}
use Rattle.derivation.specs.Places.{atom_at}
use Rattle.derivation.specs.Words.{only_of}
use Rattle.derivation.proofs.Conclusions.{IsNatural, one_lead}
use Rattle.derivation.proofs.Lawful.{IsLawfulRule}
use Rattle.derivation.proofs.Rows.{clauses_once, word_lawful}
use Rattle.fol_core.specs.Free.{is_in}
use Rattle.fol_core.specs.Literals.{ClauseTree}
use Rattle.fol_core.specs.Renumbered.{clause_variables}
use Rattle.fol_core.specs.Substitutions.{Substitution, substitute}
use Rattle.fol_core.specs.Tree.{Tree, var}
use Rattle.substitutions.specs.Occurring.{has_variable}
use Rattle.substitutions.proofs.Composing.{agrees, clause_listed}

-- by whatever match
pub used_alike : (general : Tree) (s u : Substitution) (fresh : ℕ) → substitute s general ≡ substitute u general → (x : ℕ) → used_by general s fresh x ≡ used_by general u fresh x
used_alike general s u fresh same x = by (has_variable x general) (λ i. agrees s u general same x i)
  where
    by : (b : Bool) → (IsTrue b → s x ≡ u x) → (if b then s x else var (x + fresh)) ≡ (if b then u x else var (x + fresh))
    by true h = h refl
    by false h = refl

-- and by one that is the match already
match_used : (general : Tree) (s : Substitution) (fresh x : ℕ) → (has_variable x general ≡ false → s x ≡ var (x + fresh)) → used_by general s fresh x ≡ s x
match_used general s fresh x new = by (has_variable x general) new
  where
    by : (b : Bool) → (b ≡ false → s x ≡ var (x + fresh)) → (if b then s x else var (x + fresh)) ≡ s x
    by true h = refl
    by false h = sym (h refl)

pub match_brings : MatchBrings
match_brings general special c us bs s match new =
    (s, match, ap (λ vs. each_once (us ++ vs)) (sym (answers_alike (used_by general s (fresh_for c us)) s bs (λ x i. match_used general s (fresh_for c us) x (new x i)))))

below_all : (xs : List ℕ) (x : ℕ) → IsTrue (is_in x xs) → x < above_all xs
below_all [] x i = absurd (false≢true i)
below_all (y ∷ ys) x i = elim (or_cases (x == y) (is_in x ys) i) [
  | inl here ↦ let e : x ≡ y = eqb-true x y here in omega (arith, e)
  | inr there ↦ let h : x < above_all ys = below_all ys x there in omega (arith, h)
]

pub new_above : NewAreAbove
new_above c us x i = below_all (clause_variables (whole c us)) x (sym (clause_listed x (whole c us)) ∙ i)

joins_one : (general special : Tree) (c : ClauseTree) (us bs made other : List Answer) → Joins general special c us bs made → Joins general special c us bs other → made ≡ other
joins_one general special c us bs made other (s, match, is) (u, matched, was) =
    is ∙ ap (λ vs. each_once (us ++ vs)) (answers_alike (used_by general s (fresh_for c us)) (used_by general u (fresh_for c us)) bs (λ x i. used_alike general s u (fresh_for c us) (match ∙ sym matched) x)) ∙ sym was

-- what a word makes of answers is one
pub brings_one : (w : LaterWord) (c : ClauseTree) (us : List Answer) (ps : List ClauseTree) (answers : List (List Answer)) (made other : List Answer) → Brings w c us ps answers made → Brings w c us ps answers other → made ≡ other
brings_one (flipped a) c us ps answers made other is was = is ∙ sym was
brings_one (merged a) c us ps answers made other is was = is ∙ sym was
brings_one (reflexive a) c us ps answers made other is was = is ∙ sym was
brings_one (unit_deleted a n) c us ps answers made other is was = joins_one (atom_at (only_of ps) 0) (atom_at c a) c us (only_answers answers) made other is was
brings_one (rewritten n a path) c us ps answers made other is was =
    joins_one (left_of (atom_at (only_of ps) 0)) (term_below (atom_at c a) path) c us (only_answers answers) made other is was

-- so is what words lead to
after_one_with : (ls : List AnsweredLine) (ws : List LaterWord) (d : ClauseTree) (bs : List Answer) (c e : ClauseTree) (us vs : List Answer)
    → AfterWith ls ws d bs (clause c) us → AfterWith ls ws d bs (clause e) vs → IsSame c us e vs
after_one_with ls [] d bs c e us vs is was = (is.0 ∙ sym was.0, is.1 ∙ sym was.1)
after_one_with ls (w ∷ ws) d bs c e us vs (ps, b, made, are, fits, leads, brings, after) (qs, a, other, were, fitted, led, brought, onward) =
    let same = clauses_once (plain_lines ls) (later_parents w) qs ps were are in
    let one : a ≡ b = one_lead w d ps a b fits (subst (λ ps. Leads w d ps a) same led) leads in
    let joined : other ≡ made = brings_one w d bs ps (answers_at ls (later_parents w)) other made (subst (λ ps. Brings w d bs ps (answers_at ls (later_parents w)) other) same brought) brings in
    after_one_with ls ws b made c e us vs after (subst (λ vs0. AfterWith ls ws b vs0 (clause e) vs) joined (subst (λ a. AfterWith ls ws a other (clause e) vs) one onward))

pub inferred_one_with : (ls : List AnsweredLine) (i : Inference) → IsLawfulRule i.rule → IsNatural i.rule → (ws : List LaterWord) (c e : ClauseTree) (us vs : List Answer)
    → IsInferredWith ls i ws (clause c) us → IsInferredWith ls i ws (clause e) vs → IsSame c us e vs
inferred_one_with ls i law natural ws c e us vs (ps, d, bs, are, fits, concludes, after) (qs, a, bs2, were, fitted, concluded, onward) =
    let same = clauses_once (plain_lines ls) i.parents qs ps were are in
    let one = one_conclusion_with i.rule law natural ps (answers_at ls i.parents) a d bs2 bs fits (subst (λ ps. ConcludesWith i.rule ps (answers_at ls i.parents) a bs2) same concluded) concludes in
    after_one_with ls ws d bs c e us vs after (subst (λ b. AfterWith ls ws d b (clause e) vs) one.1 (subst (λ a. AfterWith ls ws a bs2 (clause e) vs) one.0 onward))

-- and an instance
instance_one_with : (ls : List AnsweredLine) (n : ℕ) (es : List Binding) (ws : List LaterWord) (c e : ClauseTree) (us vs : List Answer)
    → IsInstanceWith ls n es ws (clause c) us → IsInstanceWith ls n es ws (clause e) vs → IsSame c us e vs
instance_one_with ls n es ws c e us vs (d, at, after) (b, there, onward) =
    let bs = answers_of_line ls n in
    let same : b ≡ d = ap (λ o. unwrap_or o b) (sym there ∙ at) in
    after_one_with ls ws (clause_put_in es d bs) (answers_put_in es d bs) c e us vs after
    (subst (λ x. AfterWith ls ws (clause_put_in es x bs) (answers_put_in es x bs) (clause e) vs) same onward)

-- a list of answers that is empty when it is numbered
numbered_empty : (c : ClauseTree) (us : List Answer) → numbered_answers c us ≡ [] → us ≡ []
numbered_empty c [] h = refl
numbered_empty c (a ∷ us) h = cc

-- where parents have no answers there are none
pub nothing_inferred : NothingInferred
nothing_inferred ls w i ws c us is none plain =
    let laws = word_lawful w i is in
    let empty = inferred_none ls i ws (clause c) none plain in
    (λ h. numbered_empty c us (inferred_one_with ls i laws.0 laws.1 ws c c us [] h empty).1, λ h. subst (IsInferredWith ls i ws (clause c)) (sym h) empty)

pub nothing_put_in : NothingPutIn
nothing_put_in ls n es ws c us none plain =
    let empty = instance_none ls n es ws (clause c) none plain in
    (λ h. numbered_empty c us (instance_one_with ls n es ws c c us [] h empty).1, λ h. subst (IsInstanceWith ls n es ws (clause c)) (sym h) empty)
