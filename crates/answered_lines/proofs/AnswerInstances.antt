-- Answers with terms put in for their variables, and clauses with the terms of answers behind.
use Rattle.std.proofs.Common.{◌≡◌, ℕ, true, ◌||◌, IsTrue, List, [], ◌∷◌, ◌++◌, slice_index, refl, sym, ap, ap₂, ◌∙◌}
use Rattle.std.proofs.lemmas.Bool.{or_left, or_right}
use Rattle.std.proofs.lemmas.List.Folds.{list_any-append}
use Rattle.answers.specs.AnswerTrees.{Answer, answer, substitute_answers, literals_of, riders, whole, numbering, numbered_clause, numbered_answers, IsSame}
use Rattle.answered_lines.specs.Laws.{stands_in}
use Rattle.derivation.proofs.Naturality.{append_put}
use Rattle.fol_core.specs.Literals.{ClauseTree, literal}
use Rattle.fol_core.specs.Renumbered.{clause_variables, renumbered}
use Rattle.fol_core.specs.Substitutions.{Substitution, substitute, substitute_all}
use Rattle.fol_core.specs.Tree.{var, Trees, none, more}
use Rattle.substitutions.specs.Instances.{substitute_clause, followed}
use Rattle.substitutions.specs.Occurring.{has_variable, have_variable, occurs_in_clause}
use Rattle.substitutions.proofs.Composing.{substitute_twice_all, substitute_alike_all, substitute_variables_all, substitute_twice_clause, substitute_alike_clause, substitute_variables_clause, clause_listed, first_atom, other_literals}
use Rattle.substitutions.proofs.Numbering.{at_place}

pub answers_twice : (s u : Substitution) (us : List Answer) → substitute_answers u (substitute_answers s us) ≡ substitute_answers (followed s u) us
answers_twice s u [] = refl
answers_twice s u (a ∷ us) = ap₂ (λ ts bs. answer a.goal ts ∷ bs) (substitute_twice_all s u a.terms) (answers_twice s u us)

-- what a substitution does elsewhere doesn't count
pub answers_alike : (s u : Substitution) (us : List Answer) → ((x : ℕ) → IsTrue (stands_in x us) → s x ≡ u x) → substitute_answers s us ≡ substitute_answers u us
answers_alike s u [] h = refl
answers_alike s u (a ∷ us) h = ap₂ (λ ts bs. answer a.goal ts ∷ bs)
    (substitute_alike_all s u a.terms (λ x i. h x (or_left (have_variable x a.terms) (stands_in x us) i)))
    (answers_alike s u us (λ x i. h x (or_right (have_variable x a.terms) (stands_in x us) i)))

pub answers_both : (s : Substitution) (us bs : List Answer) → substitute_answers s (us ++ bs) ≡ substitute_answers s us ++ substitute_answers s bs
answers_both s [] bs = refl
answers_both s (a ∷ us) bs = ap (λ vs. answer a.goal (substitute_all s a.terms) ∷ vs) (answers_both s us bs)

answers_variables : (us : List Answer) → substitute_answers var us ≡ us
answers_variables [] = refl
answers_variables (a ∷ us) = ap₂ (λ ts bs. answer a.goal ts ∷ bs) (substitute_variables_all a.terms) (answers_variables us)

-- the variables of a clause with the terms of answers behind
in_literals : (x : ℕ) (ts : Trees) → occurs_in_clause x (literals_of ts) ≡ have_variable x ts
in_literals x none = refl
in_literals x (more t ts) = ap (λ b. has_variable x t || b) (in_literals x ts)

in_riders : (x : ℕ) (us : List Answer) → occurs_in_clause x (riders us) ≡ stands_in x us
in_riders x [] = refl
in_riders x (a ∷ us) = list_any-append (λ l. has_variable x l.atom) (literals_of a.terms) (riders us) ∙ ap₂ (λ b c. b || c) (in_literals x a.terms) (in_riders x us)

pub in_whole : (x : ℕ) (c : ClauseTree) (us : List Answer) → occurs_in_clause x (whole c us) ≡ (occurs_in_clause x c || stands_in x us)
in_whole x c us = list_any-append (λ l. has_variable x l.atom) c (riders us) ∙ ap (λ b. occurs_in_clause x c || b) (in_riders x us)

-- from the numbers back to the variables
abbrev pub unnumbered : ClauseTree → List Answer → Substitution
unnumbered c us = λ n. var (slice_index (clause_variables (whole c us)) n)

at_own : (c : ClauseTree) (us : List Answer) (x : ℕ) → IsTrue (occurs_in_clause x (whole c us)) → followed (numbering c us) (unnumbered c us) x ≡ var x
at_own c us x i = ap var (at_place (clause_variables (whole c us)) x (sym (clause_listed x (whole c us)) ∙ i))

clause_back : (c : ClauseTree) (us : List Answer) → substitute_clause (unnumbered c us) (numbered_clause c us) ≡ c
clause_back c us = substitute_twice_clause (numbering c us) (unnumbered c us) c
    ∙ substitute_alike_clause (followed (numbering c us) (unnumbered c us)) var c (λ x i. at_own c us x (in_whole x c us ∙ or_left (occurs_in_clause x c) (stands_in x us) i))
    ∙ substitute_variables_clause c

answers_back : (c : ClauseTree) (us : List Answer) → substitute_answers (unnumbered c us) (numbered_answers c us) ≡ us
answers_back c us = answers_twice (numbering c us) (unnumbered c us) us
    ∙ answers_alike (followed (numbering c us) (unnumbered c us)) var us (λ x i. at_own c us x (in_whole x c us ∙ or_right (occurs_in_clause x c) (stands_in x us) i))
    ∙ answers_variables us

-- where a clause with answers is another one but for numbers of variables, both are instances, by this
abbrev pub leading : ClauseTree → List Answer → ClauseTree → List Answer → Substitution
leading d bs c us = followed (numbering d bs) (unnumbered c us)

pub clause_led : (c : ClauseTree) (us : List Answer) (d : ClauseTree) (bs : List Answer) → IsSame c us d bs → c ≡ substitute_clause (leading d bs c us) d
clause_led c us d bs same = sym (clause_back c us) ∙ ap (substitute_clause (unnumbered c us)) same.0 ∙ substitute_twice_clause (numbering d bs) (unnumbered c us) d

pub answers_led : (c : ClauseTree) (us : List Answer) (d : ClauseTree) (bs : List Answer) → IsSame c us d bs → us ≡ substitute_answers (leading d bs c us) bs
answers_led c us d bs same = sym (answers_back c us) ∙ ap (substitute_answers (unnumbered c us)) same.1 ∙ answers_twice (numbering d bs) (unnumbered c us) bs

-- an instance of a whole clause is that of its parts
literals_put : (s : Substitution) (ts : Trees) → literals_of (substitute_all s ts) ≡ substitute_clause s (literals_of ts)
literals_put s none = refl
literals_put s (more t ts) = ap (λ c. literal true (substitute s t) ∷ c) (literals_put s ts)

riders_put : (s : Substitution) (us : List Answer) → riders (substitute_answers s us) ≡ substitute_clause s (riders us)
riders_put s [] = refl
riders_put s (a ∷ us) = ap₂ (λ x y. x ++ y) (literals_put s a.terms) (riders_put s us) ∙ sym (append_put s (literals_of a.terms) (riders us))

pub whole_put : (s : Substitution) (c : ClauseTree) (us : List Answer) → whole (substitute_clause s c) (substitute_answers s us) ≡ substitute_clause s (whole c us)
whole_put s c us = ap (λ x. substitute_clause s c ++ x) (riders_put s us) ∙ sym (append_put s c (riders us))

pub numbered_whole : (c : ClauseTree) (us : List Answer) → renumbered (whole c us) ≡ whole (numbered_clause c us) (numbered_answers c us)
numbered_whole c us = sym (whole_put (numbering c us) c us)

-- two instances are the same where the literals are that their terms give
same_terms : (s u : Substitution) (ts : Trees) (x y : ClauseTree) → literals_of (substitute_all s ts) ++ x ≡ literals_of (substitute_all u ts) ++ y → (substitute_all s ts ≡ substitute_all u ts) × (x ≡ y)
same_terms s u none x y h = (refl, h)
same_terms s u (more t ts) x y h =
    let l = literal true (substitute s t) in
    let k = literal true (substitute u t) in
    let rest = same_terms s u ts x y (other_literals l k (literals_of (substitute_all s ts) ++ x) (literals_of (substitute_all u ts) ++ y) h) in
    (ap₂ more (first_atom l k (literals_of (substitute_all s ts) ++ x) (literals_of (substitute_all u ts) ++ y) h) rest.0, rest.1)

pub same_riders : (s u : Substitution) (us : List Answer) → riders (substitute_answers s us) ≡ riders (substitute_answers u us) → substitute_answers s us ≡ substitute_answers u us
same_riders s u [] h = refl
same_riders s u (a ∷ us) h =
    let parts = same_terms s u a.terms (riders (substitute_answers s us)) (riders (substitute_answers u us)) h in
    ap₂ (λ ts bs. answer a.goal ts ∷ bs) parts.0 (same_riders s u us parts.1)

-- what stands behind the same literals
pub same_behind : (c d x y : ClauseTree) → c ≡ d → c ++ x ≡ d ++ y → x ≡ y
same_behind c d x y same h = cut c x y (h ∙ ap (λ z. z ++ y) (sym same))
  where
    cut : (c x y : ClauseTree) → c ++ x ≡ c ++ y → x ≡ y
    cut [] x y h = h
    cut (l ∷ c) x y h = cut c x y (other_literals l l (c ++ x) (c ++ y) h)
