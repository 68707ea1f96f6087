-- Going over instances is a pass of the plain search over them.
use Rattle.std.proofs.Common.{◌≡◌, ℕ, ◌<◌, Bool, true, false, List, [], ◌∷◌, ◌++◌, length, map, get_or, Option, None, Some, refl, sym, ap, ◌∙◌, subst}
use Rattle.std.specs.List.{AllByRecursion}
use Rattle.std.specs.Option.{option_and_then}
use Rattle.fol_core.specs.Literals.{ClauseTree}
use Rattle.mace_cells.specs.Trails.{Partial}
use Rattle.mace_cells.specs.World.{World}
use Rattle.mace_ground.specs.Instances.{variables_in, assigned_by}
use Rattle.model_tables.specs.Size.{AllBelow}
use Rattle.plain_search.specs.Closing.{Told, told, followed, Ground, ground, pass, instances_of}
use Rattle.plain_search.specs.Lefts.{ValuesLeft}
use Rattle.plain_search.specs.Orders.{IsInstanceIn, Obeys}
use Rattle.cell_search.proofs.Instances.{clause_fits, first_elements, first_same, is_instance, row_instance, told_alike}
use Rattle.cell_search.proofs.Obeying.{followed_obeyed}
use Rattle.cell_search.proofs.Pursuing.{row_has}
use Rattle.cell_search.proofs.Telling.{told_as_seen}
use Rattle.cell_search.proofs.Viewing.{view_has_values}
use Rattle.cell_search.specs.Covering.{IsDone}
use Rattle.cell_search.specs.Following.{AreWellLeft, left_after, IsFollowed, IsPass, GoesOver}
use Rattle.cell_search.specs.Searchable.{HasAllCells, IsClauseOfCells}
use Rattle.cell_search.specs.Telling.{told_of, told_seen}
use Rattle.cell_search.specs.Viewing.{left_in}
use Rattle.cell_search.specs.declared.look.Verdict.{Verdict}

pass_append : (n : ℕ) (gs hs : List Ground) (p : ValuesLeft) → pass n (gs ++ hs) p ≡ option_and_then (pass n hs) (pass n gs p)
pass_append n [] hs p = refl
pass_append n (g ∷ gs) hs p = by (followed p (told n p (assigned_by g.elements) g.clause)) (pass_append n gs hs)
  where
    by : (o : Option ValuesLeft) → ((q : ValuesLeft) → pass n (gs ++ hs) q ≡ option_and_then (pass n hs) (pass n gs q))
        → option_and_then (pass n (gs ++ hs)) o ≡ option_and_then (pass n hs) (option_and_then (pass n gs) o)
    by None rest = refl
    by (Some q) rest = rest q

both_in : (all gs hs : List Ground) → AllByRecursion (λ g. IsInstanceIn g all) gs → AllByRecursion (λ g. IsInstanceIn g all) hs → AllByRecursion (λ g. IsInstanceIn g all) (gs ++ hs)
both_in all [] hs i j = j
both_in all (g ∷ gs) hs i j = (i.0, both_in all gs hs i.1 j)

-- no instance, and some more
pub goes_nowhere : (w : World) (t : Partial) → GoesOver w t true t
goes_nowhere w t cells well = (([], (tt, refl)), λ _. well)

pub goes_on : (w : World) (t u : Partial) (done : Bool) (v : Partial) → GoesOver w t true u → GoesOver w u done v → GoesOver w t done v
goes_on w t u done v first second cells well =
    let a = first cells well in
    let b = second cells (a.1 refl) in (
      (
        a.0.0 ++ b.0.0,
        (
          both_in (instances_of w.size w.clauses) a.0.0 b.0.0 a.0.1.0 b.0.1.0,
          pass_append w.size a.0.0 b.0.0 (left_in w t) ∙ ap (option_and_then (pass w.size b.0.0)) a.0.1.1 ∙ b.0.1.1,
        ),
      ),
      b.1,
    )

ends : (w : World) (done : Bool) (t : Partial) → option_and_then (pass w.size []) (left_after w done t) ≡ left_after w done t
ends w true t = refl
ends w false t = refl

-- one instance, of a clause by its row
module _ (w : World) (t : Partial) (rows : List (ℕ × ClauseTree)) (i : ℕ) (row : ℕ × ClauseTree) (env : List ℕ) (ls : ClauseTree)
    (same : map (λ r. r.1) rows ≡ w.clauses) (within : i < length rows) (is : row ≡ get_or rows i row) (some : 0 < w.size) (below : AllBelow w.size env) (literals : ls ≡ row.1) (verdict : Verdict)
    (seen : told_of w verdict ≡ told_seen w t.entries (assigned_by env) ls) (cells : HasAllCells w) (well : AreWellLeft w t) where
  abbrev elements : List ℕ
  elements = first_elements (variables_in row.1) env

  tells_env : told w.size (left_in w t) (assigned_by env) row.1 ≡ told_of w verdict
  tells_env =
      let of_cells : IsClauseOfCells w row.1 = row_has (IsClauseOfCells w) rows i row (subst (λ (cs : List ClauseTree). AllByRecursion (IsClauseOfCells w) cs) (sym same) cells.clauses) within is in
      told_as_seen w t.entries (left_in w t) (assigned_by env) row.1 (view_has_values w t cells well) (clause_fits w row.1 of_cells)
      ∙ ap (told_seen w t.entries (assigned_by env)) (sym literals) ∙ sym seen

  tells : told w.size (left_in w t) (assigned_by elements) row.1 ≡ told_of w verdict
  tells = told_alike w.size (left_in w t) (assigned_by elements) (assigned_by env) row.1 (λ x h. first_same (variables_in row.1) env x h) ∙ tells_env

  there : IsInstanceIn (ground row.1 elements) (instances_of w.size w.clauses)
  there =
      subst (λ (cs : List ClauseTree). IsInstanceIn (ground row.1 elements) (instances_of w.size cs)) same
      (row_instance w.size rows i row elements within is (is_instance w.size row.1 env some below))

  pub goes_once : (done : Bool) (t' : Partial) → IsFollowed w t (told_of w verdict) done t' → IsPass w t done t'
  goes_once done t' did = (
    ground row.1 elements ∷ [],
    ((there, tt), ap (λ (o : Told). option_and_then (pass w.size []) (followed (left_in w t) o)) tells ∙ ap (option_and_then (pass w.size [])) did ∙ ends w done t'),
  )

  pub done_once : (t' : Partial) (c : ClauseTree) → IsFollowed w t (told_of w verdict) true t' → row.1 ≡ c → IsDone w c env t t'
  done_once t' c did named =
      subst (λ (o : Told). Obeys (left_in w t') o)
      (sym (ap (told w.size (left_in w t) (assigned_by env)) (sym named) ∙ tells_env)) (followed_obeyed (left_in w t) (left_in w t') (told_of w verdict) did)
