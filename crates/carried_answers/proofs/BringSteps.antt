-- The answers of what a word uses.
use Rattle.std.proofs.Common.{◌≡◌, ◌⊎◌, inl, inr, ℕ, zero, suc, ◌+◌, ◌<◌, ◌≤◌, Bool, true, false, ◌&&◌, ◌||◌, IsTrue, List, [], ◌∷◌, ◌++◌, length, map, slice_get, slice_index_or, Option, Some, None, option_map, unwrap_or, OnOk, Result, Ok, Err, refl, sym, ap, ap₂, ◌∙◌, subst, arith}
use Rattle.std.specs.Borrow.{Bor}
use Rattle.std.proofs.lemmas.Bool.{and_from, and_parts, false≢true}
use Rattle.answered_lines.specs.Steps.{Brings, Joins, only_answers, used_by}
use Rattle.answers.specs.AnswerTrees.{Answer, above_all, each_once, fresh_for, substitute_answers}
use Rattle.answers.specs.AnswerView.{answers_of}
use Rattle.answers.specs.Packed.{packed}
use Rattle.answers.specs.declared.answer.Answer as code
use Rattle.answers.proofs.Packing.{whole_variables}
use Rattle.carried_answers.specs.Brought.{AreBrought, AreUsedOn, BringsBehind, IsUsedAt, settled}
use Rattle.carried_answers.specs.Carried.{lent_answers}
use Rattle.carried_answers.specs.Leading.{place_of}
use Rattle.carried_answers.proofs.Behind.{atom_front}
use Rattle.carried_answers.proofs.WholeSteps.{packed_put}
use Rattle.derivation.specs.Equations.{below, is_there, left_of, term_below}
use Rattle.derivation.specs.Later.{LaterWord, flipped, merged, reflexive, unit_deleted, rewritten, later_fits, Leads, is_rule_equation, is_unit}
use Rattle.derivation.specs.Places.{are_opposite, atom_at, has_literal, has_place}
use Rattle.derivation.specs.Words.{is_one_clause, only_of}
use Rattle.fol_core.specs.Literals.{ClauseTree, Lit}
use Rattle.fol_core.specs.Renumbered.{clause_variables}
use Rattle.fol_core.specs.Substitutions.{Substitution, substitute}
use Rattle.fol_core.specs.Tree.{Tree, var}
use Rattle.inference.specs.Followed.{AreRuleSides, is_rule_clause}
use Rattle.inference.specs.Lent.{lent_clauses}
use Rattle.shared_clauses.specs.Used.{IsUsedOn}
use Rattle.substitutions.specs.Instances.{substitute_clause}
use Rattle.substitutions.specs.Paths.{subterm_at}

nil_clause : (c : ClauseTree) → c ≡ c ++ []
nil_clause [] = refl
nil_clause (l ∷ c) = ap (λ d. l ∷ d) (nil_clause c)

-- by a match, or nothing where there are no answers
pub used_at : (c d : ClauseTree) (place : ℕ) (path : List ℕ) (general : Tree) (us : List Answer) (used : ClauseTree) (n : ℕ) → used ≡ packed us → n ≡ above_all (clause_variables c) → IsUsedOn c place path general used n d → IsUsedAt c place path general us d
used_at c d place path general us used n is fresh (made, behind, by) = (
  made,
  behind,
  λ special t there match.
      let w = by special there t match in
      (w.0, w.1, w.2 ∙ ap₂ (λ v m. substitute_clause (used_by general w.0 m) v) is fresh ∙ packed_put (used_by general w.0 (above_all (clause_variables c))) us),
)

pub used_nothing : (c : ClauseTree) (place : ℕ) (path : List ℕ) (general : Tree) (us : List Answer) → us ≡ [] → IsUsedAt c place path general us c
used_nothing c place path general us none = (
  [],
  nil_clause c,
  λ special t there match. (t, match, sym (ap (λ vs. packed (substitute_answers (used_by general t (above_all (clause_variables c))) vs)) none)),
)

-- where a word doesn't fit, nothing matters
pub brings_misfit : (w : LaterWord) (c : ClauseTree) (ps : List ClauseTree) (lists : List (List Answer)) → later_fits w c ps ≡ false → BringsBehind w c ps lists c
brings_misfit w c ps lists never = ([], nil_clause c, λ fits. absurd (false≢true (sym never ∙ fits)))

pub unit_alone : (c : ClauseTree) (a n : ℕ) (ps : List (Bor ClauseTree)) (lists : List (List Answer)) → (length ps ≡ 1 → ⊥) → BringsBehind (unit_deleted a n) c (lent_clauses ps) lists c
unit_alone c a n ps lists h = brings_misfit (unit_deleted a n) c (lent_clauses ps) lists (by ps h)
  where
    by : (ps : List (Bor ClauseTree)) → (length ps ≡ 1 → ⊥) → later_fits (unit_deleted a n) c (lent_clauses ps) ≡ false
    by [] h = refl
    by (p ∷ []) h = absurd (h refl)
    by (p ∷ q ∷ ps) h = refl

pub rule_alone : (c : ClauseTree) (n a : ℕ) (path : List ℕ) (ps : List (Bor ClauseTree)) (lists : List (List Answer)) → (length ps ≡ 1 → ⊥) → BringsBehind (rewritten n a path) c (lent_clauses ps) lists c
rule_alone c n a path ps lists h = brings_misfit (rewritten n a path) c (lent_clauses ps) lists (by ps h)
  where
    by : (ps : List (Bor ClauseTree)) → (length ps ≡ 1 → ⊥) → later_fits (rewritten n a path) c (lent_clauses ps) ≡ false
    by [] h = refl
    by (p ∷ []) h = absurd (h refl)
    by (p ∷ q ∷ ps) h = refl

-- the one parent and its answers
pub one_list : (lists : List (Bor (List code.Answer))) (us : Bor (List code.Answer)) → length lists ≡ 1 → us ≡ slice_index_or lists 0 us → lent_answers lists ≡ answers_of us.now ∷ []
one_list [] us h is = absurd (omega (arith, h))
one_list (q ∷ []) us h is = ap (λ (b : Bor (List code.Answer)). answers_of b.now ∷ []) (sym is)
one_list (q ∷ r ∷ lists) us h is = absurd (omega (arith, h))

-- a unit's
pub unit_none : (c u : ClauseTree) (a n : ℕ) (ps : List ClauseTree) (lists : List (List Answer)) → ps ≡ u ∷ [] → None ≡ slice_get u 0 → BringsBehind (unit_deleted a n) c ps lists c
unit_none c u a n ps lists is none = brings_misfit (unit_deleted a n) c ps lists (ap (later_fits (unit_deleted a n) c) is ∙ by u none)
  where
    by : (u : ClauseTree) → None ≡ slice_get u 0 → later_fits (unit_deleted a n) c (u ∷ []) ≡ false
    by [] e = refl
    by (l ∷ u) e = let f : None ≡ Some l = e in absurd (cc)

first_atom : (u : ClauseTree) (l : Lit) → Some l ≡ slice_get u 0 → l.atom ≡ atom_at u 0
first_atom [] l e = let f : Some l ≡ None = e in absurd (cc)
first_atom (m ∷ u) l e = let f : Some l ≡ Some m = e in let g : l ≡ m = cc in ap (λ (k : Lit). k.atom) g

pub unit_brings : (c u d : ClauseTree) (l : Lit) (a n : ℕ) (us : List Answer) (ps : List ClauseTree) (lists : List (List Answer)) → ps ≡ u ∷ [] → lists ≡ us ∷ [] → Some l ≡ slice_get u 0 → IsUsedAt c a [] l.atom us d → BringsBehind (unit_deleted a n) c ps lists d
unit_brings c u d l a n us ps lists is that first (made, behind, by) = (
  made,
  behind,
  λ fits e ((s, match), out).
      let general : l.atom ≡ atom_at (only_of ps) 0 = first_atom u l first ∙ ap (λ qs. atom_at (only_of qs) 0) (sym is) in
      let w = by (atom_at c a) s refl (ap (substitute s) general ∙ match) in
      let answers : us ≡ only_answers lists = ap only_answers (sym that) in (
        w.0,
        ap (substitute w.0) (sym general) ∙ w.1,
        w.2 ∙ ap₂ (λ t vs. packed (substitute_answers (used_by t w.0 (above_all (clause_variables c))) vs)) general answers,
      ),
)

-- a rule's
fits_rule : (c : ClauseTree) (n a : ℕ) (path : List ℕ) (r : ClauseTree) → is_rule_clause r ≡ false → later_fits (rewritten n a path) c (r ∷ []) ≡ false
fits_rule c n a path r never = by (is_unit r) (has_literal true r 0) (is_rule_equation (atom_at r 0)) (has_place c a && is_there (below (atom_at c a) path)) never
  where
    by : (u p q h : Bool) → (u && (p && q)) ≡ false → (u && (p && (q && h))) ≡ false
    by false p q h e = refl
    by true false q h e = refl
    by true true false h e = refl
    by true true true h e = absurd (false≢true (sym e))

pub rule_none : (c r : ClauseTree) (n a : ℕ) (path : List ℕ) (ps : List ClauseTree) (lists : List (List Answer)) → ps ≡ r ∷ [] → is_rule_clause r ≡ false → BringsBehind (rewritten n a path) c ps lists c
rule_none c r n a path ps lists is never = brings_misfit (rewritten n a path) c ps lists (ap (later_fits (rewritten n a path) c) is ∙ fits_rule c n a path r never)

below_is : (t u : Tree) (path : List ℕ) → below t path ≡ Some u → subterm_at t path ≡ Some u
below_is t u [] e = absurd (cc)
below_is t u (k ∷ path) e = e

pub rule_brings : (c r d : ClauseTree) (left right : Tree) (n a : ℕ) (path : List ℕ) (us : List Answer) (ps : List ClauseTree) (lists : List (List Answer)) → ps ≡ r ∷ [] → lists ≡ us ∷ [] → AreRuleSides r left right → IsUsedAt c a path left us d → BringsBehind (rewritten n a path) c ps lists d
rule_brings c r d left right n a path us ps lists is that sides (made, behind, by) = (
  made,
  behind,
  λ fits e (s, there, out).
      let general : left ≡ left_of (atom_at (only_of ps) 0) = sides.left_is ∙ ap (λ qs. left_of (atom_at (only_of qs) 0)) (sym is) in
      let special : Tree = substitute s (left_of (atom_at (only_of ps) 0)) in
      let w = by special s (below_is (atom_at c a) special path there) (ap (substitute s) general) in
      let answers : us ≡ only_answers lists = ap only_answers (sym that) in (
        w.0,
        ap (substitute w.0) (sym general) ∙ w.1 ∙ ap (λ o. unwrap_or o (var 0)) (sym there),
        w.2 ∙ ap₂ (λ t vs. packed (substitute_answers (used_by t w.0 (above_all (clause_variables c))) vs)) general answers,
      ),
)

-- words that use no clause
pub brings_nothing : (w : LaterWord) (c : ClauseTree) (ps : List ClauseTree) (lists : List (List Answer)) → AreBrought w c ps lists [] → BringsBehind w c ps lists c
brings_nothing w c ps lists is = ([], nil_clause c, λ fits e leads. is)

-- what is brought is what the word brings
pub record Bringing (w : LaterWord) (c : ClauseTree) (us : List Answer) (ps : List ClauseTree) (lists : List (List Answer)) (made : ClauseTree) : Type 0 where
  pub answers : List Answer
  pub made_is : made ≡ packed answers
  pub brings : Brings w c us ps lists (settled w (us ++ answers))

nil_answers : (us : List Answer) → us ++ [] ≡ us
nil_answers [] = refl
nil_answers (a ∷ us) = ap (λ vs. a ∷ vs) (nil_answers us)

joined_on : (general special other : Tree) (whole c : ClauseTree) (us bs : List Answer) (made : ClauseTree) → whole ≡ c ++ packed us → special ≡ other → AreUsedOn general special whole bs made
    → (vs : List Answer) × (made ≡ packed vs) × Joins general other c us bs (each_once (us ++ vs))
joined_on general special other whole c us bs made is same (s, match, put) =
    let fresh : above_all (clause_variables whole) ≡ fresh_for c us = ap (λ d. above_all (clause_variables d)) is ∙ ap above_all (whole_variables c us) in (
      substitute_answers (used_by general s (above_all (clause_variables whole))) bs,
      put,
      (s, match ∙ same, ap (λ n. each_once (us ++ substitute_answers (used_by general s n) bs)) fresh),
    )

pub brought : (w : LaterWord) (whole c : ClauseTree) (us : List Answer) (ps : List ClauseTree) (lists : List (List Answer)) (made : ClauseTree) → whole ≡ c ++ packed us → place_of w < length c → AreBrought w whole ps lists made → Bringing w c us ps lists made
brought (flipped a) whole c us ps lists made is h none = record { answers = []; made_is = none; brings = nil_answers us }
brought (merged a) whole c us ps lists made is h none = record { answers = []; made_is = none; brings = nil_answers us }
brought (reflexive a) whole c us ps lists made is h none = record { answers = []; made_is = none; brings = nil_answers us }
brought (unit_deleted a n) whole c us ps lists made is h used =
    let j = joined_on (atom_at (only_of ps) 0) (atom_at whole a) (atom_at c a) whole c us (only_answers lists) made is (ap (λ d. atom_at d a) is ∙ atom_front c (packed us) a h) used in
    record { answers = j.0; made_is = j.1; brings = j.2 }
brought (rewritten n a path) whole c us ps lists made is h used =
    let j = joined_on (left_of (atom_at (only_of ps) 0)) (term_below (atom_at whole a) path) (term_below (atom_at c a) path) whole c us (only_answers lists) made is (ap (λ t. term_below t path) (ap (λ d. atom_at d a) is ∙ atom_front c (packed us) a h)) used in
    record { answers = j.0; made_is = j.1; brings = j.2 }

pub on_ok : {T E : Type 0} (r : Result T E) (P Q : Type 0) → (P → Q) → OnOk r P → OnOk r Q
on_ok (Ok x) P Q f p = f p
on_ok (Err x) P Q f p = tt
