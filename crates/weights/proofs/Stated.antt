-- The rules and hints of a problem, one after the other.
use Rattle.std.proofs.Common.{◌≡◌, ℕ, ◌+◌, ◌<◌, ◌≤◌, Bool, true, false, if◌then◌else◌, List, [], ◌∷◌, map, drop, get_or, length, Option, Some, None, ap, ap₂, refl, ◌∙◌, ◌==◌, ◌&&◌}
use Rattle.std.specs.Prelude.{codes}
use Rattle.std.specs.Str.{bytes_eq}
use Rattle.std.proofs.lemmas.Bool.{eq-eqb, eqb-true, false_from_ne_true}
use Rattle.std.specs.Option.{option_map_or}
use Rattle.std.proofs.lemmas.List.{drop_all}
use Rattle.fol_core.specs.Literals.{equality}
use Rattle.fol_core.specs.RuleView.{rule_of}
use Rattle.fol_core.specs.SymbolTable.{Symbol, number_of}
use Rattle.fol_core.specs.Tree.{trees_of}
use Rattle.fol_core.specs.WeightView.{weight_of}
use Rattle.fol_core.specs.declared.weights.WeightRule.{WeightRule}
use Rattle.substitutions.proofs.Elements.{list_back}
use Rattle.weights.specs.Heads.{pattern_arity, head_of, rows_for}
use Rattle.weights.specs.Weighing.{WeightRow}
use Rattle.weights.proofs.Items.{next}

abbrev row_with : ℕ → WeightRule → WeightRow
row_with f r = record { head = f; arguments = trees_of r.arguments; weight = weight_of r.weight }

rule_step : (table : List Symbol) (rs : List WeightRule) (i : ℕ) (r : WeightRule) (o : Option ℕ) → i < length rs → r ≡ get_or rs i r → head_of table (rule_of r) ≡ o
    → rows_for table (map rule_of (drop i rs)) ≡ option_map_or (λ f. row_with f r ∷ rows_for table (map rule_of (drop (i + 1) rs))) o (rows_for table (map rule_of (drop (i + 1) rs)))
rule_step table rs i r o h is e =
    ap (λ qs. rows_for table (map rule_of qs)) (next rs i r h is)
    ∙ ap (λ p. option_map_or (λ f. row_with f r ∷ rows_for table (map rule_of (drop (i + 1) rs))) p (rows_for table (map rule_of (drop (i + 1) rs)))) e

pub rule_here : (table : List Symbol) (rs : List WeightRule) (i : ℕ) (r : WeightRule) (f : ℕ) → i < length rs → r ≡ get_or rs i r → head_of table (rule_of r) ≡ Some f
    → rows_for table (map rule_of (drop i rs)) ≡ record { head = f; arguments = trees_of r.arguments; weight = weight_of r.weight } ∷ rows_for table (map rule_of (drop (i + 1) rs))
rule_here table rs i r f h is e = rule_step table rs i r (Some f) h is e

pub rule_without : (table : List Symbol) (rs : List WeightRule) (i : ℕ) (r : WeightRule) → i < length rs → r ≡ get_or rs i r → head_of table (rule_of r) ≡ None
    → rows_for table (map rule_of (drop i rs)) ≡ rows_for table (map rule_of (drop (i + 1) rs))
rule_without table rs i r h is e = rule_step table rs i r None h is e

pub no_rules : (table : List Symbol) (rs : List WeightRule) (i : ℕ) → length rs ≤ i → rows_for table (map rule_of (drop i rs)) ≡ []
no_rules table rs i h = ap (λ qs. rows_for table (map rule_of qs)) (drop_all i rs h)

arity_is : (r : WeightRule) → pattern_arity (rule_of r) ≡ length r.arguments
arity_is r = ap length (list_back r.arguments)

heads : (table : List Symbol) (r : WeightRule) (b d : Bool) → bytes_eq r.head (codes "=") ≡ b → (length r.arguments == 2) ≡ d
    → head_of table (rule_of r) ≡ (if b && d then Some equality else number_of table r.head (length r.arguments))
heads table r b d e f =
    ap₂ (λ p n. if bytes_eq r.head (codes "=") && p then Some equality else number_of table r.head n) (ap (λ n. n == 2) (arity_is r)) (arity_is r)
    ∙ ap₂ (λ p q. if p && q then Some equality else number_of table r.head (length r.arguments)) e f

pub head_equal : (table : List Symbol) (r : WeightRule) → bytes_eq r.head (codes "=") ≡ true → length r.arguments ≡ 2 → head_of table (rule_of r) ≡ Some equality
head_equal table r e f = heads table r true true e (eq-eqb (length r.arguments) 2 f)

pub head_named : (table : List Symbol) (r : WeightRule) → bytes_eq r.head (codes "=") ≡ false → head_of table (rule_of r) ≡ number_of table r.head (length r.arguments)
head_named table r e = heads table r false (length r.arguments == 2) e refl

pub head_counted : (table : List Symbol) (r : WeightRule) → (length r.arguments ≡ 2 → ⊥) → bytes_eq r.head (codes "=") ≡ true → head_of table (rule_of r) ≡ number_of table r.head (length r.arguments)
head_counted table r f e = heads table r true false e (false_from_ne_true (length r.arguments == 2) (λ h. f (eqb-true (length r.arguments) 2 h)))
