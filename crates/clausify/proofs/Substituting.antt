-- Terms that are found by their variables.
use Rattle.std.proofs.Common.{◌≡◌, ◌==◌, ◌<◌, ℕ, ◌+◌, Bool, true, false, List, length, take, get_or, Option, Some, cond, inl, inr, refl, sym, ap, ◌∙◌}
use Rattle.std.specs.Borrow.{Bor}
use Rattle.std.specs.Option.{option_map_or}
use Rattle.std.proofs.lemmas.Bool.{cases_eq, eq-eqb, ne_eqb}
use Rattle.std.proofs.lemmas.List.Sums.{fold_more}
use Rattle.indexmap.specs.IndexMap.{IndexMap, Updates}
use Rattle.fol_core.specs.Substitutions.{Substitution, with_term}
use Rattle.fol_core.specs.Tree.{Tree, var}
use Rattle.fol_core.specs.TermView.{tree_of}
use Rattle.fol_core.specs.declared.term.Term.{Term}
use Rattle.clausify.specs.View.{put_by, substitution_kept}

turned : (x y : ℕ) → (x == y) ≡ (y == x)
turned x y = elim (cases_eq x y) [
  | inl same ↦ eq-eqb x y same ∙ sym (eq-eqb y x (sym same))
  | inr apart ↦ ne_eqb x y apart ∙ sym (ne_eqb y x (λ h. apart (sym h)))
]

chosen : (b : Bool) (f : Bor Term → Tree) (t : Bor Term) (o : Option (Bor Term)) (d : Tree) → option_map_or f (cond b (Some t) o) d ≡ cond b (f t) (option_map_or f o d)
chosen true f t o d = refl
chosen false f t o d = refl

-- a row for one more variable
put_more : {S : Type 0} (old new : IndexMap ℕ (Bor Term) S) (y : ℕ) (t : Bor Term) → Updates (λ x z. x == z) old new y (Some t) → put_by new ≡ with_term (put_by old) y (tree_of t.now)
put_more old new y t updated = λ i x. (
    ap (λ (o : Option (Bor Term)). option_map_or (λ (u : Bor Term). tree_of u.now) o (var x)) (updated.0 x)
    ∙ chosen (y == x) (λ u. tree_of u.now) t _ (var x)
    ∙ ap (λ b. cond b (tree_of t.now) (put_by old x)) (turned y x)
    ) i

-- the rows of one more value
pub rows_next : {S : Type 0} (old new : IndexMap ℕ (Bor Term) S) (values : List (ℕ × Term)) (i : ℕ) (v : ℕ × Term) (t : Bor Term) → i < length values → v ≡ get_or values i v → t.now ≡ v.1
    → Updates (λ x z. x == z) old new v.0 (Some t) → put_by old ≡ substitution_kept (take i values) → put_by new ≡ substitution_kept (take (i + 1) values)
rows_next old new values i v t within is term updated before =
    put_more old new v.0 t updated
    ∙ ap (λ (s : Substitution). with_term s v.0 (tree_of t.now)) before
    ∙ ap (λ u. with_term (substitution_kept (take i values)) v.0 (tree_of u)) term
    ∙ ap (λ (w : ℕ × Term). with_term (substitution_kept (take i values)) w.0 (tree_of w.1)) is
    ∙ sym (fold_more (λ (terms : Substitution) (w : ℕ × Term). with_term terms w.0 (tree_of w.1)) var values i v within)
