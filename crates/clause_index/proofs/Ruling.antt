-- Rules with the index of their left sides.
use Rattle.std.proofs.Common.{◌≡◌, ℕ, ◌==◌, Bool, if◌then◌else◌, true, false, not, ◌&&◌, is_some, List, [], ◌∷◌, Option, Some, None, slice_get, filter, refl, sym, ap, ap₂, ◌∙◌, subst}
use Rattle.std.specs.List.{find}
use Rattle.std.specs.Option.{option_map}
use Rattle.clause_index.proofs.Entries.{none_entered, entered, entries_left, numbers_are, first_none, first_some, find_same}
use Rattle.clause_index.proofs.Removals.{but_for, taken_back}
use Rattle.clause_index.specs.Entries.{rule_left, left_sides, AreIndexed}
use Rattle.clause_index.specs.Places.{with_number}
use Rattle.derivation.specs.Equations.{right_of}
use Rattle.derivation.specs.Places.{atom_at}
use Rattle.discrim_tree.specs.Entries.{Indexed, indexed, has_number, with_entry, without_entry, numbers_found}
use Rattle.discrim_tree.specs.Terms.{has_instance}
use Rattle.discrim_tree.specs.Tries.{count_up_to}
use Rattle.discrim_tree.specs.declared.sought.Sought.TheVariants.{Generalizations}
use Rattle.fol_core.specs.Substitutions.{substitute}
use Rattle.fol_core.specs.Tree.{Tree}
use Rattle.prover_steps.proofs.Rising.{put_rises, kept_rises}
use Rattle.prover_steps.specs.Clashing.{Held}
use Rattle.prover_steps.specs.HeldOrder.{numbers_of, IsNoneOf}
use Rattle.prover_steps.specs.Rewriting.{rewritten_by}
use Rattle.prover_steps.specs.Searching.{put_in}
use Rattle.substitutions.specs.Bindings.{Binding, by_bindings}
use Rattle.unifiers.specs.Matching.{matched}

-- a rule rewrites a term that is an instance of its left side
fits_instance : (t : Tree) (r : Held) → (true && has_instance (rule_left r) t) ≡ is_some (rewritten_by r t)
fits_instance t r = by (matched (rule_left r) t [])
  where
    by : (o : Option (List Binding)) → is_some o ≡ is_some (option_map (λ bs. substitute (by_bindings bs) (right_of (atom_at r.clause 0))) o)
    by None = refl
    by (Some bs) = refl

abbrev fitting : Tree → List Indexed → List ℕ
fitting t es = numbers_found (λ s. has_instance s t) es

fitting_are : (t : Tree) (rs : List Held) (es : List Indexed) → AreIndexed rs es → fitting t es ≡ numbers_of (filter (λ r. true && has_instance (rule_left r) t) rs)
fitting_are t rs es are = ap (fitting t) are.tied ∙ numbers_are (λ r. true) rule_left (λ s. has_instance s t) rs

pub rule_found : (t : Tree) (rs : List Held) (es : List Indexed) (n : ℕ) → AreIndexed rs es → slice_get (fitting t es) 0 ≡ Some n → with_number n rs ≡ find (λ r. is_some (rewritten_by r t)) rs
rule_found t rs es n are e =
    first_some (λ r. true && has_instance (rule_left r) t) n rs are.rising (sym (ap (λ ns. slice_get ns 0) (fitting_are t rs es are)) ∙ e)
    ∙ find_same (λ r. true && has_instance (rule_left r) t) (λ r. is_some (rewritten_by r t)) (fits_instance t) rs

pub no_rule_found : (t : Tree) (rs : List Held) (es : List Indexed) → AreIndexed rs es → slice_get (fitting t es) 0 ≡ None → find (λ r. is_some (rewritten_by r t)) rs ≡ None
no_rule_found t rs es are e =
    sym (find_same (λ r. true && has_instance (rule_left r) t) (λ r. is_some (rewritten_by r t)) (fits_instance t) rs)
    ∙ first_none (λ r. true && has_instance (rule_left r) t) rs (sym (ap (λ ns. slice_get ns 0) (fitting_are t rs es are)) ∙ e)

-- the number that is found is that of the first rule that rewrites the term
first_number : (test : Held → Bool) (rs : List Held) → slice_get (numbers_of (filter test rs)) 0 ≡ option_map (λ r. r.number) (find test rs)
first_number test [] = refl
first_number test (r ∷ rs) = by (test r) (first_number test rs)
  where
    by : (b : Bool) → slice_get (numbers_of (filter test rs)) 0 ≡ option_map (λ q. q.number) (find test rs)
        → slice_get (numbers_of (if b then r ∷ filter test rs else filter test rs)) 0 ≡ option_map (λ q. q.number) (if b then Some r else find test rs)
    by true rest = refl
    by false rest = rest

-- so many tests are those up to it
pub tests_counted : (P : ℕ → Type 0) (t : Tree) (rs now : List Held) (es : List Indexed) (found : Option ℕ) → AreIndexed rs es → rs ≡ now → found ≡ slice_get (fitting t es) 0 → P (count_up_to Generalizations t es found)
    → P (count_up_to Generalizations t (left_sides now) (option_map (λ r. r.number) (find (λ r. is_some (rewritten_by r t)) now)))
tests_counted P t rs now es found are same is h =
    subst (λ (qs : List Held). P (count_up_to Generalizations t (left_sides qs) (option_map (λ r. r.number) (find (λ r. is_some (rewritten_by r t)) qs)))) same
    (subst (λ (o : Option ℕ). P (count_up_to Generalizations t (left_sides rs) o))
    (is ∙ ap (λ ns. slice_get ns 0) (fitting_are t rs es are) ∙ first_number (λ r. true && has_instance (rule_left r) t) rs
    ∙ ap (option_map (λ (r : Held). r.number)) (find_same (λ r. true && has_instance (rule_left r) t) (λ r. is_some (rewritten_by r t)) (fits_instance t) rs))
    (subst (λ (ds : List Indexed). P (count_up_to Generalizations t ds found)) are.tied h))

-- no rule has the number of another one
pub no_left : (n : ℕ) (r : Held) (rs : List Held) (es : List Indexed) → AreIndexed rs es → n ≡ r.number → IsNoneOf r.number (numbers_of rs) → has_number n es ≡ false
no_left n r rs es are same none = ap₂ has_number same are.tied ∙ none_entered (λ q. true) rule_left r.number rs none

-- it is put in
module _ (n : ℕ) (t : Tree) (r : Held) (rs : List Held) (es new : List Indexed) (are : AreIndexed rs es) (none : IsNoneOf r.number (numbers_of rs)) (number : n ≡ r.number) (term : t ≡ rule_left r) (grown : new ≡ with_entry (indexed n t) es) where
  now_left : new ≡ left_sides (put_in r rs)
  now_left =
      grown ∙ ap (λ e. with_entry e es) (ap₂ indexed number term) ∙ ap (with_entry (indexed r.number (rule_left r))) are.tied
      ∙ entered (λ q. true) rule_left r rs are.rising none refl

  pub rule_put : (now : List Held) → now ≡ put_in r rs → AreIndexed now new
  rule_put now is = subst (λ qs. AreIndexed qs new) (sym is) (record { rising = put_rises r rs are.rising none; tied = now_left })

  pub rule_taken_back : (now : List Held) (left : List Indexed) → now ≡ rs → left ≡ without_entry n new → AreIndexed now left
  rule_taken_back now left is taken =
      subst (λ qs. AreIndexed qs left) (sym is) (record {
        rising = are.rising;
        tied =
            taken ∙ ap₂ without_entry number now_left ∙ entries_left (λ q. true) rule_left r.number (put_in r rs)
            ∙ ap left_sides (taken_back r rs none);
      })

-- one is taken out
pub rule_out : (n : ℕ) (rs now : List Held) (es left : List Indexed) → AreIndexed rs es → left ≡ without_entry n es → now ≡ but_for n rs → AreIndexed now left
rule_out n rs now es left are taken is =
    subst (λ qs. AreIndexed qs left) (sym is) (record {
      rising = kept_rises (λ r. not (r.number == n)) rs are.rising;
      tied = taken ∙ ap (without_entry n) are.tied ∙ entries_left (λ q. true) rule_left n rs;
    })
