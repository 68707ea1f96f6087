use Rattle.std.proofs.Common.{◌≡◌, ℕ, ◌+◌, ◌≤◌, Bool, true, false, ◌&&◌, ◌||◌, if◌then◌else◌, List, [], ◌∷◌, Option, is_some, slice_get, filter, refl, subst, ap, ◌∙◌}
use Rattle.std.specs.List.{list_any}
use Rattle.clause_index.specs.Entries.{is_short_of, first_atom, short_atoms}
use Rattle.discrim_tree.specs.Entries.{Indexed, numbers_found}
use Rattle.discrim_tree.specs.Terms.{has_instance}
use Rattle.discrim_tree.specs.Tries.{count_up_to, HasRisen}
use Rattle.discrim_tree.specs.declared.sought.Sought.TheVariants.{Generalizations}
use Rattle.fol_core.specs.Tree.{Tree}
use Rattle.fol_core.specs.TermView.{tree_of}
use Rattle.prover_steps.specs.Clashing.{Held}
use Rattle.prover_steps.specs.HeldOrder.{numbers_of}
use Rattle.clause_index.proofs.Entries.{numbers_are}
use Rattle.clause_index.proofs.listed.Listed.has_short_above.Goals as goal

-- one passes where there is a first of those that pass
first_passes : (test : Held → Bool) (hs : List Held) → is_some (slice_get (numbers_of (filter test hs)) 0) ≡ list_any test hs
first_passes test [] = refl
first_passes test (h ∷ hs) = by (test h) (first_passes test hs)
  where
    by : (b : Bool) → is_some (slice_get (numbers_of (filter test hs)) 0) ≡ list_any test hs → is_some (slice_get (numbers_of (if b then h ∷ filter test hs else filter test hs)) 0) ≡ (b || list_any test hs)
    by true rest = refl
    by false rest = rest

short_passes : (sign : Bool) (test : Tree → Bool) (hs : List Held) (es : List Indexed) (o : Option ℕ) → es ≡ short_atoms sign hs → o ≡ slice_get (numbers_found test es) 0
    → is_some o ≡ list_any (λ h. is_short_of sign h && test (first_atom h)) hs
short_passes sign test hs es o tied found =
    ap is_some found ∙ ap (λ ds. is_some (slice_get (numbers_found test ds) 0)) tied
    ∙ ap (λ ns. is_some (slice_get ns 0)) (numbers_are (is_short_of sign) first_atom test hs)
    ∙ first_passes (λ h. is_short_of sign h && test (first_atom h)) hs

pub returns-clause-found : goal.returns-clause-found
returns-clause-found c =
    c.is_some.ensures ∙ short_passes c.args.sign (λ s. has_instance s (tree_of c.args.atom.now)) c.args.self.now c.index.result.now c.in_ok-first.first c.index.ensures c.in_ok-first.ensures.found

pub returns-clause-no_more : goal.returns-clause-no_more
returns-clause-no_more c =
    let t = tree_of c.args.atom.now in
    subst
    (λ (es : List Indexed). c.first_generalization.new.tries ≤ c.args.tries.now + count_up_to Generalizations t es (slice_get (numbers_found (λ s. has_instance s t) es) 0))
    c.index.ensures
    (subst (λ (o : Option ℕ). c.first_generalization.new.tries ≤ c.args.tries.now + count_up_to Generalizations t c.index.result.now o) c.in_ok-first.ensures.found c.in_ok-first.ensures.no_more)

pub returns-clause-tested : goal.returns-clause-tested
returns-clause-tested c =
    let t = tree_of c.args.atom.now in
    subst
    (λ (es : List Indexed). HasRisen (count_up_to Generalizations t es (slice_get (numbers_found (λ s. has_instance s t) es) 0)) c.args.tries.now c.first_generalization.new.tries)
    c.index.ensures
    (subst (λ (o : Option ℕ). HasRisen (count_up_to Generalizations t c.index.result.now o) c.args.tries.now c.first_generalization.new.tries) c.in_ok-first.ensures.found c.in_ok-first.ensures.tested)
