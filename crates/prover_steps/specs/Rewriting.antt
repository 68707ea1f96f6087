-- A clause rewritten by rules, step by step.
use Rattle.std.specs.Prelude.{ℕ, zero, suc, Bool, true, ◌&&◌, if◌then◌else◌, List, [], ◌∷◌, Option, Some, None}
use Rattle.std.specs.Option.{option_map, option_map_or}
use Rattle.fol_core.specs.Literals.{literal, ClauseTree}
use Rattle.fol_core.specs.Substitutions.{substitute}
use Rattle.fol_core.specs.Tree.{Tree, var, elem, app, Trees, none, more}
use Rattle.substitutions.specs.Bindings.{by_bindings}
use Rattle.unifiers.specs.Matching.{matched}
use Rattle.derivation.specs.Equations.{left_of, right_of}
use Rattle.derivation.specs.Later.{LaterWord, rewritten, is_unit, is_rule_equation}
use Rattle.derivation.specs.Places.{atom_at, has_literal}
use Rattle.prover_steps.specs.Clashing.{Held}

-- whether a clause is a rule: one equation, whose right side has no variable of its own
abbrev pub is_rule_clause : ClauseTree → Bool
is_rule_clause c = is_unit c && (has_literal true c 0 && is_rule_equation (atom_at c 0))

-- what a rule makes of a term that is an instance of its left side
abbrev pub rewritten_by : Held → Tree → Option Tree
rewritten_by r t =
    option_map (λ bs. substitute (by_bindings bs) (right_of (atom_at r.clause 0)))
    (matched (left_of (atom_at r.clause 0)) t [])

-- a step: the number of its rule, its place, and what becomes of the whole
pub record RewriteStep (X : Type 0) : Type 0 where
  pub rule : ℕ
  pub path : List ℕ
  pub result : X

-- the first one of two steps
abbrev pub first_of : {X : Type 0} → Option X → Option X → Option X
first_of None o = o
first_of (Some x) o = Some x

-- the step of the first rule that fits a term as a whole
abbrev pub step_at_top : List Held → Tree → Option (RewriteStep Tree)
step_at_top [] t = None
step_at_top (r ∷ rs) t =
    option_map_or (λ u. Some (record { rule = r.number; path = []; result = u }))
    (rewritten_by r t) (step_at_top rs t)

-- a step of a part is one of the whole
abbrev pub widened : {X Y : Type 0} → (X → Y) → RewriteStep X → RewriteStep Y
widened whole r = record { rule = r.rule; path = r.path; result = whole r.result }

abbrev pub in_argument : ℕ → Trees → RewriteStep Tree → RewriteStep Trees
in_argument k ts r = record { rule = r.rule; path = k ∷ r.path; result = more r.result ts }

abbrev mutual
  -- the first step of a term: in its arguments, from the left, else as a whole
  pub first_step : List Held → Tree → Option (RewriteStep Tree)
  first_step rs (var x) = None
  first_step rs (elem k) = None
  first_step rs (app f ts) =
      first_of (option_map (widened (app f)) (step_in rs 1 ts)) (step_at_top rs (app f ts))

  -- of arguments, the first of which has this number
  pub step_in : List Held → ℕ → Trees → Option (RewriteStep Trees)
  step_in rs k none = None
  step_in rs k (more t ts) =
      first_of (option_map (in_argument k ts) (first_step rs t))
      (option_map (widened (more t)) (step_in rs (suc k) ts))

-- of an atom: below it
abbrev pub atom_step : List Held → Tree → Option (RewriteStep Tree)
atom_step rs (var x) = None
atom_step rs (elem k) = None
atom_step rs (app r ts) = option_map (widened (app r)) (step_in rs 1 ts)

-- a clause, and the words that led to it
pub record Simplified : Type 0 where
  pub clause : ClauseTree
  pub words : List LaterWord

abbrev pub simplified : ClauseTree → List LaterWord → Simplified
simplified c ws = record { clause = c; words = ws }

abbrev pub then_word : LaterWord → Simplified → Simplified
then_word w s = simplified s.clause (w ∷ s.words)

-- the first step of a clause, by the literals from the left, the first of which has this place
abbrev pub clause_step : List Held → ℕ → ClauseTree → Option (LaterWord × ClauseTree)
clause_step rs a [] = None
clause_step rs a (l ∷ c) =
    option_map_or
    (λ r. Some (rewritten r.rule a r.path, literal l.positive r.result ∷ c))
    (atom_step rs l.atom)
    (option_map (λ s. (s.0, l ∷ s.1)) (clause_step rs (suc a) c))

-- so many steps, or as many as there are, or as don't make the clause too large
abbrev pub normal_form : (ClauseTree → Bool) → List Held → ℕ → ClauseTree → Simplified
normal_form too_large rs zero c = simplified c []
normal_form too_large rs (suc k) c =
    option_map_or
    (λ s. if too_large s.1 then simplified c []
    else then_word s.0 (normal_form too_large rs k s.1))
    (clause_step rs 0 c) (simplified c [])
