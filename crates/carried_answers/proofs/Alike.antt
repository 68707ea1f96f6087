-- Words lead from clauses with answers that are the same, but for the numbers of variables, to the same.
use Rattle.std.proofs.Common.{◌≡◌, ℕ, ◌+◌, ◌-◌, ◌<◌, Bool, true, false, ◌&&◌, nat_lt, if◌then◌else◌, IsTrue, List, [], ◌∷◌, ◌++◌, Some, unwrap_or, ◌↔◌, refl, sym, ap, ap₂, ◌∙◌, subst, arith}
use Rattle.std.proofs.lemmas.Bool.{and_parts, or_left, or_right, false≢true, lt-ltb, ltb-true}
use Rattle.answers.specs.AnswerTrees.{Answer, substitute_answers, each_once, fresh_for, whole, IsSame}
use Rattle.answered_lines.specs.Laws.{stands_in}
use Rattle.answered_lines.specs.Lines.{AnsweredLine, plain_lines, answers_at, AfterWith, IsClauseWith}
use Rattle.answered_lines.specs.Steps.{used_by, Joins, only_answers, Brings}
use Rattle.answered_lines.proofs.AnswerInstances.{answers_alike, answers_both, answers_twice, in_whole, leading, clause_led, answers_led}
use Rattle.answered_lines.proofs.Conclusions.{numbered_alike}
use Rattle.answered_lines.proofs.Contents.{new_above, used_alike}
use Rattle.carried_answers.specs.Leading.{AfterAlike}
use Rattle.carried_answers.proofs.Once.{once_put, once_back}
use Rattle.derivation.specs.Equations.{below, is_there, left_of, term_below}
use Rattle.derivation.specs.Later.{LaterWord, flipped, merged, reflexive, unit_deleted, rewritten, later_parents, later_fits, Leads, is_rule_equation, is_unit}
use Rattle.derivation.specs.Lines.{ContentTree, formula, clause}
use Rattle.derivation.specs.Places.{are_opposite, atom_at, has_literal, has_place}
use Rattle.derivation.specs.Words.{is_one_clause, only_of}
use Rattle.derivation.proofs.LaterSound.{there_is}
use Rattle.derivation.proofs.Naturality.{atom_at_put, below_put, opposite_places}
use Rattle.fol_core.specs.Literals.{ClauseTree}
use Rattle.fol_core.specs.Substitutions.{Substitution, substitute}
use Rattle.fol_core.specs.Tree.{Tree, var}
use Rattle.shared_clauses.proofs.Alike.{fits_alike, leads_alike, made_back}
use Rattle.substitutions.specs.Instances.{followed, substitute_clause}
use Rattle.substitutions.specs.Occurring.{has_variable, occurs_in_clause}
use Rattle.substitutions.proofs.Composing.{substitute_twice, substitute_alike_clause}

-- a substitution for the variables below a number; those from there on stand from another number on
abbrev pub carried_on : Substitution → ℕ → ℕ → Substitution
carried_on s n m = λ x. if nat_lt x n then s x else var ((x - n) + m)

on_below : (s : Substitution) (n m x : ℕ) → x < n → carried_on s n m x ≡ s x
on_below s n m x h = by (nat_lt x n) refl
  where
    by : (b : Bool) → nat_lt x n ≡ b → (if b then s x else var ((x - n) + m)) ≡ s x
    by true e = refl
    by false e = absurd (false≢true (sym e ∙ lt-ltb x n h))

on_above : (s : Substitution) (n m x : ℕ) → carried_on s n m (x + n) ≡ var (x + m)
on_above s n m x = by (nat_lt (x + n) n) refl
  where
    by : (b : Bool) → nat_lt (x + n) n ≡ b → (if b then s (x + n) else var (((x + n) - n) + m)) ≡ var (x + m)
    by true e = let less : x + n < n = ltb-true (x + n) n e in absurd (omega (arith, less))
    by false e = let same : (x + n) - n ≡ x = omega arith in ap (λ k. var (k + m)) same

-- of the clause and its answers it makes the same
on_clause : (s : Substitution) (m : ℕ) (c : ClauseTree) (us : List Answer) → substitute_clause (carried_on s (fresh_for c us) m) c ≡ substitute_clause s c
on_clause s m c us = substitute_alike_clause (carried_on s (fresh_for c us) m) s c
    (λ x i. on_below s (fresh_for c us) m x (new_above c us x (in_whole x c us ∙ or_left (occurs_in_clause x c) (stands_in x us) i)))

on_answers : (s : Substitution) (m : ℕ) (c : ClauseTree) (us : List Answer) → substitute_answers (carried_on s (fresh_for c us) m) us ≡ substitute_answers s us
on_answers s m c us = answers_alike (carried_on s (fresh_for c us) m) s us
    (λ x i. on_below s (fresh_for c us) m x (new_above c us x (in_whole x c us ∙ or_right (occurs_in_clause x c) (stands_in x us) i)))

-- clauses with answers of which each is what a substitution makes of the other
pub record LeadEach (s u : Substitution) (d : ClauseTree) (bs : List Answer) (e : ClauseTree) (cs : List Answer) : Type 0 where
  pub there : e ≡ substitute_clause s d
  pub back : d ≡ substitute_clause u e
  pub answers_there : cs ≡ substitute_answers s bs
  pub answers_back : bs ≡ substitute_answers u cs

lead_on : (s u : Substitution) (d : ClauseTree) (bs : List Answer) (e : ClauseTree) (cs : List Answer) → LeadEach s u d bs e cs
    → LeadEach (carried_on s (fresh_for d bs) (fresh_for e cs)) (carried_on u (fresh_for e cs) (fresh_for d bs)) d bs e cs
lead_on s u d bs e cs h = record {
  there = h.there ∙ sym (on_clause s (fresh_for e cs) d bs);
  back = h.back ∙ sym (on_clause u (fresh_for d bs) e cs);
  answers_there = h.answers_there ∙ sym (on_answers s (fresh_for e cs) d bs);
  answers_back = h.answers_back ∙ sym (on_answers u (fresh_for d bs) e cs);
}

-- what is used by a match is used by the match that a substitution makes of it
used_put : (general : Tree) (m s t : Substitution) (n k : ℕ) (us : List Answer) → ((x : ℕ) → s (x + n) ≡ var (x + k)) → substitute t general ≡ substitute (followed m s) general
    → substitute_answers s (substitute_answers (used_by general m n) us) ≡ substitute_answers (used_by general t k) us
used_put general m s t n k us new same =
    answers_twice (used_by general m n) s us
    ∙ answers_alike (followed (used_by general m n) s) (used_by general t k) us (λ x i. by x (has_variable x general) ∙ used_alike general (followed m s) t k (sym same) x)
  where
    by : (x : ℕ) (b : Bool) → substitute s (if b then m x else var (x + n)) ≡ (if b then followed m s x else var (x + k))
    by x true = refl
    by x false = new x

-- answers that are joined, of clauses that lead to each other
joins_alike : (s u : Substitution) (general special other : Tree) (d : ClauseTree) (bs : List Answer) (e : ClauseTree) (cs used made : List Answer)
    → LeadEach s u d bs e cs → ((x : ℕ) → s (x + fresh_for d bs) ≡ var (x + fresh_for e cs)) → ((x : ℕ) → u (x + fresh_for e cs) ≡ var (x + fresh_for d bs))
    → other ≡ substitute s special → special ≡ substitute u other → Joins general special d bs used made
    → Joins general other e cs used (substitute_answers s made) × (made ≡ substitute_answers u (substitute_answers s made))
joins_alike s u general special other d bs e cs used made h new old there back (m, match, is) =
    let n = fresh_for d bs in
    let k = fresh_for e cs in
    let t = followed m s in
    let x = substitute_answers (used_by general m n) used in
    let y = substitute_answers (used_by general t k) used in
    let first : substitute_answers s x ≡ y = used_put general m s t n k used new refl in
    let matched : substitute t general ≡ other = sym (substitute_twice m s general) ∙ ap (substitute s) match ∙ sym there in
    let backed : substitute m general ≡ substitute (followed t u) general = match ∙ back ∙ ap (substitute u) (sym matched) ∙ substitute_twice t u general in
    let second : substitute_answers u y ≡ x = used_put general t u m k n used old backed in
    let all : substitute_answers s (bs ++ x) ≡ cs ++ y = answers_both s bs x ∙ ap₂ (λ v w. v ++ w) (sym h.answers_there) first in
    let returned : substitute_answers u (substitute_answers s (bs ++ x)) ≡ bs ++ x = ap (substitute_answers u) all ∙ answers_both u cs y ∙ ap₂ (λ v w. v ++ w) (sym h.answers_back) second in (
      (t, matched, ap (substitute_answers s) is ∙ sym (once_put s u (bs ++ x) returned) ∙ ap each_once all),
      is ∙ sym (once_back s u (bs ++ x) returned) ∙ ap (λ v. substitute_answers u (substitute_answers s v)) (sym is),
    )

-- the places that words take
unit_place : (c : ClauseTree) (a n : ℕ) (ps : List ClauseTree) → IsTrue (later_fits (unit_deleted a n) c ps) → IsTrue (has_place c a)
unit_place c a n ps h =
    let p0 = and_parts (is_one_clause ps) (is_unit (only_of ps) && are_opposite c a (only_of ps) 0) h in
    let p1 = and_parts (is_unit (only_of ps)) (are_opposite c a (only_of ps) 0) p0.1 in
    (opposite_places c a (only_of ps) 0 p1.1).0

rule_place : (c : ClauseTree) (a n : ℕ) (path : List ℕ) (ps : List ClauseTree) → IsTrue (later_fits (rewritten n a path) c ps) → IsTrue (has_place c a) × IsTrue (is_there (below (atom_at c a) path))
rule_place c a n path ps h =
    let r = only_of ps in
    let p0 = and_parts (is_one_clause ps) (is_unit r && (has_literal true r 0 && (is_rule_equation (atom_at r 0) && (has_place c a && is_there (below (atom_at c a) path))))) h in
    let p1 = and_parts (is_unit r) (has_literal true r 0 && (is_rule_equation (atom_at r 0) && (has_place c a && is_there (below (atom_at c a) path)))) p0.1 in
    let p2 = and_parts (has_literal true r 0) (is_rule_equation (atom_at r 0) && (has_place c a && is_there (below (atom_at c a) path))) p1.1 in
    let p3 = and_parts (is_rule_equation (atom_at r 0)) (has_place c a && is_there (below (atom_at c a) path)) p2.1 in
    and_parts (has_place c a) (is_there (below (atom_at c a) path)) p3.1

atom_led : (s : Substitution) (d e : ClauseTree) (a : ℕ) → e ≡ substitute_clause s d → IsTrue (has_place d a) → atom_at e a ≡ substitute s (atom_at d a)
atom_led s d e a there place = ap (λ (c : ClauseTree). atom_at c a) there ∙ atom_at_put s d a place

part_led : (s : Substitution) (d e : ClauseTree) (a n : ℕ) (path : List ℕ) (ps : List ClauseTree) → e ≡ substitute_clause s d → IsTrue (later_fits (rewritten n a path) d ps)
    → term_below (atom_at e a) path ≡ substitute s (term_below (atom_at d a) path)
part_led s d e a n path ps there fits =
    let p = rule_place d a n path ps fits in
    let v = there_is (below (atom_at d a) path) p.1 in
    ap (λ t. term_below t path) (atom_led s d e a there p.0) ∙ ap (λ o. unwrap_or o (var 0)) (below_put s (atom_at d a) path v.0 v.1)
    ∙ ap (λ o. substitute s (unwrap_or o (var 0))) (sym v.1)

-- what a word brings
module _ (s u : Substitution) (d : ClauseTree) (bs : List Answer) (e : ClauseTree) (cs : List Answer) (h : LeadEach s u d bs e cs)
    (new : (x : ℕ) → s (x + fresh_for d bs) ≡ var (x + fresh_for e cs)) (old : (x : ℕ) → u (x + fresh_for e cs) ≡ var (x + fresh_for d bs)) where
  kept : (made : List Answer) → made ≡ bs → (substitute_answers s made ≡ cs) × (made ≡ substitute_answers u (substitute_answers s made))
  kept made is = (ap (substitute_answers s) is ∙ sym h.answers_there, is ∙ h.answers_back ∙ ap (substitute_answers u) (h.answers_there ∙ ap (substitute_answers s) (sym is)))

  brings_alike : (w : LaterWord) (ps : List ClauseTree) (answers : List (List Answer)) (made : List Answer) → IsTrue (later_fits w d ps) → IsTrue (later_fits w e ps) → Brings w d bs ps answers made
      → Brings w e cs ps answers (substitute_answers s made) × (made ≡ substitute_answers u (substitute_answers s made))
  brings_alike (flipped a) ps answers made fits there is = kept made is
  brings_alike (merged a) ps answers made fits there is = kept made is
  brings_alike (reflexive a) ps answers made fits there is = kept made is
  brings_alike (unit_deleted a n) ps answers made fits there is =
      joins_alike s u (atom_at (only_of ps) 0) (atom_at d a) (atom_at e a) d bs e cs (only_answers answers) made h new old
      (atom_led s d e a h.there (unit_place d a n ps fits)) (atom_led u e d a h.back (unit_place e a n ps there)) is
  brings_alike (rewritten n a path) ps answers made fits there is =
      joins_alike s u (left_of (atom_at (only_of ps) 0)) (term_below (atom_at d a) path) (term_below (atom_at e a) path) d bs e cs (only_answers answers) made h new old
      (part_led s d e a n path ps h.there fits) (part_led u e d a n path ps h.back there) is

after_led : (ls : List AnsweredLine) (ws : List LaterWord) (s u : Substitution) (d : ClauseTree) (bs : List Answer) (e : ClauseTree) (cs : List Answer) (content : ContentTree) (us : List Answer)
    → LeadEach s u d bs e cs → AfterWith ls ws d bs content us → AfterWith ls ws e cs content us
after_led ls [] s u d bs e cs (formula f) us h is = absurd is
after_led ls [] s u d bs e cs (clause c) us h is =
    let same = numbered_alike d e bs cs s u h.there h.answers_there h.back h.answers_back in
    (is.0 ∙ same.0, is.1 ∙ same.1)
after_led ls (w ∷ ws) s u d bs e cs content us h (ps, f, made, are, fits, leads, brings, after) =
    let n = fresh_for d bs in
    let k = fresh_for e cs in
    let t = carried_on s n k in
    let v = carried_on u k n in
    let on = lead_on s u d bs e cs h in
    let fitted = fits_alike t v w d e ps on.there fits in
    let brought = brings_alike t v d bs e cs on (λ x. on_above s n k x) (λ x. on_above u k n x) w ps (answers_at ls (later_parents w)) made fits fitted brings in (
      ps,
      substitute_clause t f,
      substitute_answers t made,
      are,
      fitted,
      leads_alike t v w d e ps f on.there fits leads,
      brought.0,
      after_led ls ws t v f made (substitute_clause t f) (substitute_answers t made) content us
          (record { there = refl; back = made_back t v w d e ps f on.there on.back fits leads; answers_there = refl; answers_back = brought.1 }) after,
    )

pub after_alike : AfterAlike
after_alike ls ws d e bs cs content us same after =
    after_led ls ws (leading d bs e cs) (leading e cs d bs) d bs e cs content us
    (record {
      there = clause_led e cs d bs (sym same.0, sym same.1);
      back = clause_led d bs e cs same;
      answers_there = answers_led e cs d bs (sym same.0, sym same.1);
      answers_back = answers_led d bs e cs same;
    }) after
