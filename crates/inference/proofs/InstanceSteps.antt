-- How large an instance of a clause is, one literal after the other.
use Rattle.std.proofs.Common.{◌≡◌, ℕ, ◌+◌, ◌<◌, ◌≤◌, List, [], ◌∷◌, ◌++◌, map, length, take, slice_index_or, zero, suc, drop, if◌then◌else◌, arith, sym, ap, ◌∙◌}
use Rattle.std.proofs.lemmas.Bool.{eq-eqb}
use Rattle.std.proofs.lemmas.List.{map_more, map-append, take_all}
use Rattle.clause_limits.specs.Sizes.{beside, measured}
use Rattle.clause_limits.specs.declared.measured.Measure.{Measure}
use Rattle.fol_core.specs.ClauseView.{literal_of}
use Rattle.fol_core.specs.Substitutions.{Substitution, substitute}
use Rattle.fol_core.specs.TermView.{tree_of}
use Rattle.fol_core.specs.declared.clause.Literal.{Literal}
use Rattle.fol_core.specs.declared.term.Term.{Term}
use Rattle.substitutions.specs.Bindings.{by_bindings}
use Rattle.substitutions.specs.View.{binding_of}
use Rattle.substitutions.specs.Instances.{substitute_clause, substitute_literal}
use Rattle.inference.specs.Instance.{all_measured}
use Rattle.inference.specs.Measured.{clause_measured}
use Rattle.inference.proofs.MeasureSteps.{literal_beside}

pub instance_next : (s : Substitution) (ls : List Literal) (i : ℕ) (l : Literal) (m n all : Measure) → i < length ls → l ≡ slice_index_or ls i l → m ≡ clause_measured (substitute_clause s (map literal_of (take i ls)))
    → n ≡ measured (substitute s (tree_of l.atom)) → all ≡ beside m n → all ≡ clause_measured (substitute_clause s (map literal_of (take (i + 1) ls)))
instance_next s ls i l m n all h at before one is =
    let front = map literal_of (take i ls) in
    literal_beside (substitute_clause s front) (substitute_literal s (literal_of l)) m n all before one is
    ∙ ap clause_measured
    (sym (ap (substitute_clause s) (map_more literal_of ls i l h ∙ ap (λ k. front ++ literal_of k ∷ []) (sym at)) ∙ map-append (substitute_literal s) front (literal_of l ∷ [])))

pub instance_all : (s : Substitution) (ls : List Literal) (i : ℕ) (m : Measure) → length ls ≤ i → m ≡ clause_measured (substitute_clause s (map literal_of (take i ls))) → m ≡ clause_measured (substitute_clause s (map literal_of ls))
instance_all s ls i m h is = is ∙ ap (λ ks. clause_measured (substitute_clause s (map literal_of ks))) (take_all i ls h)

-- what stands for a variable is as large as it was measured
pub value_here : (es : List (ℕ × Term)) (i x : ℕ) (d : Measure) (e : ℕ × Term) → i < length es → x ≡ (slice_index_or es i e).0 → slice_index_or (all_measured (map binding_of es)) i d ≡ measured (by_bindings (map binding_of (drop i es)) x)
value_here [] i x d e h is = absurd (omega arith)
value_here (b ∷ es) zero x d e h is =
    ap measured (sym (ap (λ t. if t then tree_of b.1 else by_bindings (map binding_of es) x) (eq-eqb x b.0 is)))
value_here (b ∷ es) (suc i) x d e h is = value_here es i x d e (omega arith) is
