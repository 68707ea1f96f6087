-- Answers that are the same, one by one.
use Rattle.std.proofs.Common.{◌≡◌, ◌↔◌, IsTrue, [], ◌∷◌, arith, ◌<◌, ◌≤◌, ◌+◌, ◌∙◌, ℕ, true, false, ◌==◌, List, length, get_or, take, refl, sym, ap, ap₂, Bool, add-one}
use Rattle.std.proofs.lemmas.Bool.{and_from, and_parts, eq-eqb, eqb-true, false≢true}
use Rattle.answered_lines.specs.Lines.{IsClauseWith}
use Rattle.answers.proofs.Prefix.{numbered_is}
use Rattle.answers.specs.AnswerTrees as trees
use Rattle.answers.specs.AnswerView.{answer_of, answers_of}
use Rattle.answers.specs.declared.answer.Answer.{Answer}
use Rattle.clause_limits.proofs.Numbered.{numbered_size}
use Rattle.clause_limits.specs.Sizes.{clause_size}
use Rattle.derivation.specs.Lines.{ContentTree, formula, clause, IsClause}
use Rattle.fol_core.specs.Literals.{ClauseTree}
use Rattle.fol_core.specs.Renumbered.{renumbered}
use Rattle.substitutions.proofs.Elements.{front_more, element_same, length_same, all_same}
use Rattle.unifiers.specs.Matching.{same_trees}
use Rattle.unifiers.proofs.MatchesFound.{trees_same, same_themselves}

-- answers for which the test says so are the same, and only these
is_one : (a b : trees.Answer) → trees.same_answer a b ≡ true → a ≡ b
is_one a b h = let p = and_parts (a.goal == b.goal) (same_trees a.terms b.terms) h in ap₂ trees.answer (eqb-true a.goal b.goal p.0) (trees_same a.terms b.terms p.1)

is_none : (a b : trees.Answer) → trees.same_answer a b ≡ false → a ≡ b → ⊥
is_none a b h e = let itself : trees.same_answer a a ≡ true = and_from (a.goal == a.goal) (same_trees a.terms a.terms) (eq-eqb a.goal a.goal refl) (same_themselves a.terms) in
    false≢true (sym h ∙ ap (trees.same_answer a) (sym e) ∙ itself)

pub answers_length : (ls rs : List Answer) → (length ls ≡ length rs → ⊥) → answers_of ls ≡ answers_of rs → ⊥
answers_length ls rs apart same = apart (length_same answer_of ls rs same)

pub answers_apart : (ls rs : List Answer) (i : ℕ) (l r : Answer) → i < length ls → l ≡ get_or ls i l → r ≡ get_or rs i r → trees.same_answer (answer_of l) (answer_of r) ≡ false → answers_of ls ≡ answers_of rs → ⊥
answers_apart ls rs i l r h is was apart same = is_none (answer_of l) (answer_of r) apart (ap answer_of is ∙ element_same answer_of ls rs i l r h same ∙ sym (ap answer_of was))

pub answers_next : (ls rs : List Answer) (i : ℕ) (l r : Answer) → i < length ls → i < length rs → l ≡ get_or ls i l → r ≡ get_or rs i r → answers_of (take i ls) ≡ answers_of (take i rs)
    → trees.same_answer (answer_of l) (answer_of r) ≡ true → answers_of (take (i + 1) ls) ≡ answers_of (take (i + 1) rs)
answers_next ls rs i l r h k is was front same =
    ap (λ n. answers_of (take n ls)) (add-one i) ∙ front_more answer_of ls rs i l r h k front (sym (ap answer_of is) ∙ is_one (answer_of l) (answer_of r) same ∙ ap answer_of was) ∙ sym (ap (λ n. answers_of (take n rs)) (add-one i))

pub answers_end : (ls rs : List Answer) (i : ℕ) → length ls ≤ i → length rs ≤ i → answers_of (take i ls) ≡ answers_of (take i rs) → answers_of ls ≡ answers_of rs
answers_end ls rs i h k front = all_same answer_of ls rs i h k front

-- clauses with answers, both numbered
module _ (c d n m : ClauseTree) (us bs xs ys : List trees.Answer) where
  pub clauses_apart : n ≡ trees.numbered_clause c us → m ≡ trees.numbered_clause d bs → (n ≡ m → ⊥) → trees.IsSame c us d bs → ⊥
  clauses_apart first second apart same = apart (first ∙ same.0 ∙ sym second)

  pub answers_differ : xs ≡ trees.numbered_answers c us → ys ≡ trees.numbered_answers d bs → (xs ≡ ys → ⊥) → trees.IsSame c us d bs → ⊥
  answers_differ first second apart same = apart (first ∙ same.1 ∙ sym second)

  pub same_with : n ≡ trees.numbered_clause c us → m ≡ trees.numbered_clause d bs → n ≡ m → xs ≡ trees.numbered_answers c us → ys ≡ trees.numbered_answers d bs → xs ≡ ys → trees.IsSame c us d bs
  same_with first second same told other are = (sym first ∙ same ∙ second, sym told ∙ are ∙ other)

-- clauses that are the same, but for their variables, have one size
pub same_sizes : (c d : ClauseTree) → renumbered c ≡ renumbered d → clause_size c ≡ clause_size d
same_sizes c d same = sym (numbered_size c) ∙ ap clause_size same ∙ numbered_size d

-- with their answers they are the same without
same_plainly : (c d : ClauseTree) (us bs : List trees.Answer) → trees.IsSame c us d bs → renumbered c ≡ renumbered d
same_plainly c d us bs same = sym (numbered_is c us) ∙ same.0 ∙ numbered_is d bs

pub plainly_apart : (c d : ClauseTree) (us bs : List trees.Answer) (b : Bool) → (renumbered c ≡ renumbered d → b ≡ true) → b ≡ false → trees.IsSame c us d bs → ⊥
plainly_apart c d us bs b may other same = false≢true (sym other ∙ may (same_plainly c d us bs same))

-- where neither has answers the clauses decide
pub plain_decides : (content : ContentTree) (d : ClauseTree) (us bs : List Answer) (b : Bool) → length us ≡ 0 → length bs ≡ 0 → IsTrue b ↔ IsClause content d → IsTrue b ↔ IsClauseWith content (answers_of us) d (answers_of bs)
plain_decides content d [] [] b none other h = by content h
  where
    by : (content : ContentTree) → IsTrue b ↔ IsClause content d → IsTrue b ↔ IsClauseWith content [] d []
    by (formula f) h = h
    by (clause c) h = (λ yes. (numbered_is c [] ∙ h.0 yes ∙ sym (numbered_is d []), refl), λ same. h.1 (same_plainly c d [] [] same))
plain_decides content d [] (x ∷ bs) b none other h = absurd (omega arith)
plain_decides content d (x ∷ us) bs b none other h = absurd (omega arith)
