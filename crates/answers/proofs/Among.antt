-- One answer more beside others.
use Rattle.std.proofs.Common.{◌≡◌, ◌<◌, ◌≤◌, ◌+◌, ◌∙◌, ℕ, Bool, true, false, ◌||◌, if◌then◌else◌, List, [], ◌∷◌, ◌++◌, length, get_or, drop, refl, sym, ap}
use Rattle.std.specs.List.{list_any}
use Rattle.std.proofs.lemmas.List.{drop_all}
use Rattle.clause_limits.proofs.Measures.{next_item}
use Rattle.answers.specs.AnswerTrees.{same_answer, added, all_added}
use Rattle.answers.specs.AnswerTrees as plain
use Rattle.answers.specs.AnswerView.{answer_of, answers_of}
use Rattle.answers.specs.declared.answer.Answer.{Answer}

-- whether one of the answers from a place on is the same
abbrev pub among_from : plain.Answer → List Answer → ℕ → Bool
among_from a us i = list_any (same_answer a) (answers_of (drop i us))

pub among_here : (a : plain.Answer) (us : List Answer) (i : ℕ) (u : Answer) → i < length us → u ≡ get_or us i u → same_answer a (answer_of u) ≡ true → among_from a us i ≡ true
among_here a us i u h is e = ap (λ vs. list_any (same_answer a) (answers_of vs)) (next_item us i u h is) ∙ ap (λ b. b || among_from a us (i + 1)) e

pub among_behind : (a : plain.Answer) (us : List Answer) (i : ℕ) (u : Answer) → i < length us → u ≡ get_or us i u → same_answer a (answer_of u) ≡ false → among_from a us i ≡ among_from a us (i + 1)
among_behind a us i u h is e = ap (λ vs. list_any (same_answer a) (answers_of vs)) (next_item us i u h is) ∙ ap (λ b. b || among_from a us (i + 1)) e

pub among_end : (a : plain.Answer) (us : List Answer) (i : ℕ) → length us ≤ i → among_from a us i ≡ false
among_end a us i h = ap (λ vs. list_any (same_answer a) (answers_of vs)) (drop_all i us h)

-- one more of those that are added one by one
all_added_more : (us as_ : List plain.Answer) (b : plain.Answer) → all_added us (as_ ++ b ∷ []) ≡ added (all_added us as_) b
all_added_more us [] b = refl
all_added_more us (a ∷ as_) b = all_added_more (added us a) as_ b

pub added_there : (us bs : List plain.Answer) (a : plain.Answer) → us ≡ all_added [] bs → list_any (same_answer a) us ≡ true → us ≡ all_added [] (bs ++ a ∷ [])
added_there us bs a is e = is ∙ sym (ap (λ b. if b then all_added [] bs else all_added [] bs ++ a ∷ []) (ap (list_any (same_answer a)) (sym is) ∙ e)) ∙ sym (all_added_more [] bs a)

pub added_new : (us bs : List plain.Answer) (a : plain.Answer) → us ≡ all_added [] bs → list_any (same_answer a) us ≡ false → us ++ a ∷ [] ≡ all_added [] (bs ++ a ∷ [])
added_new us bs a is e = ap (λ vs. vs ++ a ∷ []) is ∙ sym (ap (λ b. if b then all_added [] bs else all_added [] bs ++ a ∷ []) (ap (list_any (same_answer a)) (sym is) ∙ e)) ∙ sym (all_added_more [] bs a)
