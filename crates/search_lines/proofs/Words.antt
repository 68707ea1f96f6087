-- The words that tell of rewriting and of putting in order are fit.
use Rattle.std.proofs.Common.{ℕ, suc, ◌<◌, Bool, true, false, if◌then◌else◌, length, List, [], ◌∷◌, ◌++◌, Option, Some, None, subst, arith}
use Rattle.std.specs.List.{AllByRecursion, list_any}
use Rattle.std.specs.Option.{IfSome, option_map, option_map_or}
use Rattle.derivation.specs.Equations.{equation, left_of, right_of}
use Rattle.derivation.specs.Later.{LaterWord, flipped, merged, reflexive, unit_deleted, rewritten}
use Rattle.fol_core.specs.Literals.{Lit, literal, ClauseTree}
use Rattle.fol_core.specs.Tree.{Tree, var, elem, app, Trees, none, more}
use Rattle.search_lines.specs.Shapes.{IsFitLater}
use Rattle.prover_steps.proofs.Lists.{all_append}
use Rattle.prover_steps.proofs.Stops.{rewriting_stops}
use Rattle.prover_steps.specs.Clashing.{Held}
use Rattle.prover_steps.specs.Rewriting.{RewriteStep, first_of, widened, in_argument, first_step, step_in, atom_step, Simplified, simplified, then_word, clause_step, normal_form}
use Rattle.prover_steps.specs.Shortening.{is_turned, flips_from, left_out, same_literal, is_merged, is_false_equation, is_left_out, first_denying, is_denied, followed_by, put_in_order}
use Rattle.prover_steps.specs.StopLaws.{AreFirstSteps}

abbrev HasPath : {X : Type 0} → RewriteStep X → Type 0
HasPath r = 0 < length r.path

abbrev IsFitStep : LaterWord × ClauseTree → Type 0
IsFitStep s = IsFitLater s.0

first_has : {X : Type 0} (P : X → Type 0) (o p : Option X) → IfSome o P → IfSome p P → IfSome (first_of o p) P
first_has P None p has other = other
first_has P (Some x) p has other = has

mapped_has : {X A : Type 0} (P : A → Type 0) (f : X → A) (o : Option X) → IfSome o (λ x. P (f x)) → IfSome (option_map f o) P
mapped_has P f None has = tt
mapped_has P f (Some x) has = has

-- a step in an argument has a path
module _ (rs : List Held) where
  argument_has : (k : ℕ) (ts : Trees) (o : Option (RewriteStep Tree)) → IfSome (option_map (in_argument k ts) o) HasPath
  argument_has k ts None = tt
  argument_has k ts (Some r) = omega arith

  steps_have : (k : ℕ) (ts : Trees) → IfSome (step_in rs k ts) HasPath
  steps_have k none = tt
  steps_have k (more t ts) =
      first_has HasPath _ _ (argument_has k ts (first_step rs t))
      (mapped_has HasPath (widened (more t)) (step_in rs (suc k) ts) (steps_have (suc k) ts))

  atom_has : (t : Tree) → IfSome (atom_step rs t) HasPath
  atom_has (var x) = tt
  atom_has (elem k) = tt
  atom_has (app f ts) = mapped_has HasPath (widened (app f)) (step_in rs 1 ts) (steps_have 1 ts)

  clause_fit : (a : ℕ) (c : ClauseTree) → IfSome (clause_step rs a c) IsFitStep
  clause_fit a [] = tt
  clause_fit a (l ∷ c) = by (atom_step rs l.atom) (atom_has l.atom) (clause_fit (suc a) c)
    where
      by : (o : Option (RewriteStep Tree)) → IfSome o HasPath → IfSome (clause_step rs (suc a) c) IsFitStep
          → IfSome (option_map_or (λ r. Some (rewritten r.rule a r.path, literal l.positive r.result ∷ c)) o (option_map (λ s. (s.0, l ∷ s.1)) (clause_step rs (suc a) c))) IsFitStep
      by None has rest = mapped_has IsFitStep (λ s. (s.0, l ∷ s.1)) (clause_step rs (suc a) c) rest
      by (Some r) has rest = has

  steps_fit : (too_large : ClauseTree → Bool) (ws : List LaterWord) (c d : ClauseTree) → AreFirstSteps too_large rs ws c d → AllByRecursion IsFitLater ws
  steps_fit too_large [] c d same = tt
  steps_fit too_large (w ∷ ws) c d (b, e, small, steps) = (subst (λ o. IfSome o IsFitStep) e (clause_fit 0 c), steps_fit too_large ws b d steps)

  normal_fit : (too_large : ClauseTree → Bool) (k : ℕ) (c : ClauseTree) → AllByRecursion IsFitLater (normal_form too_large rs k c).words
  normal_fit too_large k c = steps_fit too_large (normal_form too_large rs k c).words c _ (rewriting_stops too_large rs k c).steps

-- sides exchanged
flips_fit : (greater : Tree → Tree → Bool) (a : ℕ) (c : ClauseTree) → AllByRecursion IsFitLater (flips_from greater a c).words
flips_fit greater a [] = tt
flips_fit greater a (l ∷ c) = by (is_turned greater l) (flips_fit greater (suc a) c)
  where
    rest : Simplified
    rest = flips_from greater (suc a) c

    by : (b : Bool) → AllByRecursion IsFitLater rest.words
        → AllByRecursion IsFitLater (if b then simplified (literal l.positive (equation (right_of l.atom) (left_of l.atom)) ∷ rest.clause) (flipped a ∷ rest.words) else simplified (l ∷ rest.clause) rest.words).words
    by true others = (tt, others)
    by false others = others

-- literals left out
left_out_fit : (out : ClauseTree → Lit → Option LaterWord) → ((done : ClauseTree) (l : Lit) → IfSome (out done l) IsFitLater) → (done c : ClauseTree) → AllByRecursion IsFitLater (left_out out done c).words
left_out_fit out each done [] = tt
left_out_fit out each done (l ∷ c) = by (out done l) (each done l) (left_out_fit out each done c) (left_out_fit out each (done ++ l ∷ []) c)
  where
    by : (o : Option LaterWord) → IfSome o IsFitLater → AllByRecursion IsFitLater (left_out out done c).words → AllByRecursion IsFitLater (left_out out (done ++ l ∷ []) c).words
        → AllByRecursion IsFitLater (option_map_or (λ w. then_word w (left_out out done c)) o (left_out out (done ++ l ∷ []) c)).words
    by None fit gone stays = stays
    by (Some w) fit gone stays = (fit, gone)

merged_fit : (done : ClauseTree) (l : Lit) → IfSome (is_merged done l) IsFitLater
merged_fit done l = by (list_any (same_literal l) done)
  where
    by : (b : Bool) → IfSome (if b then Some (merged (length done)) else None) IsFitLater
    by true = tt
    by false = tt

reflexive_fit : (done : ClauseTree) (l : Lit) → IfSome (is_left_out done l) IsFitLater
reflexive_fit done l = by (is_false_equation l)
  where
    by : (b : Bool) → IfSome (if b then Some (reflexive (length done)) else None) IsFitLater
    by true = tt
    by false = tt

denied_fit : (held : List Held) (done : ClauseTree) (l : Lit) → IfSome (is_denied held done l) IsFitLater
denied_fit held done l = by (first_denying held l)
  where
    by : (o : Option ℕ) → IfSome (option_map (λ n. unit_deleted (length done) n) o) IsFitLater
    by None = tt
    by (Some n) = tt

order_fit : (greater : Tree → Tree → Bool) (units : Bool) (held : List Held) (c : ClauseTree) → AllByRecursion IsFitLater (put_in_order greater units held c).words
order_fit greater units held c =
    let turned : ClauseTree = (flips_from greater 0 c).clause in
    let once : ClauseTree = (left_out is_merged [] turned).clause in
    all_append IsFitLater _ _
    (all_append IsFitLater _ _
    (all_append IsFitLater _ _ (flips_fit greater 0 c) (left_out_fit is_merged merged_fit [] turned))
    (left_out_fit is_left_out reflexive_fit [] once))
    (by units (left_out is_left_out [] once).clause)
  where
    by : (b : Bool) (d : ClauseTree) → AllByRecursion IsFitLater (if b then left_out (is_denied held) [] d else simplified d []).words
    by true d = left_out_fit (is_denied held) (denied_fit held) [] d
    by false d = tt

-- so those of both are
pub tidied_words : (too_large : ClauseTree → Bool) (greater : Tree → Tree → Bool) (units : Bool) (rules held : List Held) (k : ℕ) (c : ClauseTree)
    → AllByRecursion IsFitLater (followed_by (normal_form too_large rules k c) (put_in_order greater units held)).words
tidied_words too_large greater units rules held k c =
    all_append IsFitLater _ _ (normal_fit rules too_large k c) (order_fit greater units held (normal_form too_large rules k c).clause)
