-- Rules of the lists of weights: `weight(pattern) = value` and, for KBO, `name = number`.
use Rattle.std.specs.Prelude.{ℕ, Bool, true, false, not, ◌&&◌, ◌||◌, ◌==◌, if◌then◌else◌, List, [], ◌∷◌, ◌++◌, Option, Some, None, is_some, unwrap_or, codes}
use Rattle.std.specs.Option.{option_map, option_map_or}
use Rattle.std.specs.Str.{bytes_eq}
use Rattle.fol_core.specs.NamesOnce.{is_in}
use Rattle.fol_core.specs.RawTree.{RawTree, RawTrees, named, quantified, no_raws, more_raws}
use Rattle.fol_core.specs.Weights.{WeightTree, Rule, number, of_variable, plus, times}
use Rattle.fol_core.specs.SymbolTable.{Symbol}
use Rattle.ladr_lex.specs.Misuses.{misuse_row}
use Rattle.ladr_lex.specs.declared.misuse.Misuse.{Misuse}
use Rattle.ladr_lex.specs.declared.misuse.Misuse.TheVariants.{TwoKinds, UnfitNumeral}
use Rattle.ladr_formulas.specs.Formulas.{Made, Variable, is_free_name, is_too_great, terms_of, unread, free_number}
use Rattle.ladr_formulas.specs.declared.styles.Style.{Style}
use Rattle.ladr_rules.specs.declared.bounds.TheConstants.{MOST_SYMBOL_WEIGHT, MOST_WEIGHT}
use Rattle.ladr_rules.specs.Attributes.{limited_number}

abbrev mutual
  -- whether a quantifier stands in a term
  pub quantifies : RawTree → Bool
  quantifies (quantified q x t) = true
  quantifies (named s ts) = some_quantifies ts

  pub some_quantifies : RawTrees → Bool
  some_quantifies no_raws = false
  some_quantifies (more_raws t ts) = quantifies t || some_quantifies ts

abbrev mutual
  -- the names of the variables of a term without quantifiers
  pub variable_names : Style → RawTree → List (List ℕ)
  variable_names st (quantified q x t) = variable_names st t
  variable_names st (named s no_raws) = if is_free_name st s then s ∷ [] else []
  variable_names st (named s (more_raws t ts)) = variable_names st t ++ all_names st ts

  pub all_names : Style → RawTrees → List (List ℕ)
  all_names st no_raws = []
  all_names st (more_raws t ts) = variable_names st t ++ all_names st ts

-- `weight(x)` for one of these variables
abbrev pub single_value : List (List ℕ) → List ℕ → RawTree → Bool
single_value names s (named x no_raws) = bytes_eq s (codes "weight") && is_in x names
single_value names s t = false

-- whether a term is a value: whole numbers up to the greatest weight, `+`, `*`, and `weight(x)` for
-- one of these variables
abbrev pub is_value : List (List ℕ) → RawTree → Bool
is_value names (quantified q x t) = false
is_value names (named s no_raws) = is_some (limited_number MOST_WEIGHT (named s no_raws))
is_value names (named s (more_raws t no_raws)) = single_value names s t
is_value names (named s (more_raws t (more_raws u no_raws))) =
    (bytes_eq s (codes "+") || bytes_eq s (codes "*")) && is_value names t && is_value names u
is_value names (named s (more_raws t (more_raws u (more_raws v ts)))) = false

-- the weight of a variable
abbrev pub single_weight : List Variable → RawTree → WeightTree
single_weight vs (named x ts) = of_variable (unwrap_or (free_number 0 vs x) 0)
single_weight vs (quantified q x t) = number 0

-- a sum or a product
abbrev pub combined : List ℕ → WeightTree → WeightTree → WeightTree
combined s v w = if bytes_eq s (codes "+") then plus v w else times v w

-- the weight that a value is, with the numbers of the variables
abbrev pub weight_of_value : List Variable → RawTree → WeightTree
weight_of_value vs (quantified q x t) = number 0
weight_of_value vs (named s no_raws) =
    number (unwrap_or (limited_number MOST_WEIGHT (named s no_raws)) 0)
weight_of_value vs (named s (more_raws t no_raws)) = single_weight vs t
weight_of_value vs (named s (more_raws t (more_raws u no_raws))) =
    combined s (weight_of_value vs t) (weight_of_value vs u)
weight_of_value vs (named s (more_raws t (more_raws u (more_raws v ts)))) = number 0

-- a pattern and the term behind `=`
pub record Sides : Type 0 where
  pub head : List ℕ
  pub parts : RawTrees
  pub value : RawTree

-- the sides of `weight(pattern) = value`, the pattern being no variable
abbrev pub pattern_sides : List ℕ → RawTree → RawTree → Option Sides
pattern_sides s (named h ts) value =
    if bytes_eq s (codes "weight") then Some (record { head = h; parts = ts; value = value })
    else None
pattern_sides s (quantified q x t) value = None

abbrev pub equation_sides : List ℕ → RawTree → RawTree → Option Sides
equation_sides s (named w (more_raws pattern no_raws)) value =
    if bytes_eq s (codes "=") then pattern_sides w pattern value else None
equation_sides s t value = None

abbrev pub sides_of : RawTree → Option Sides
sides_of (named s (more_raws t (more_raws u no_raws))) = equation_sides s t u
sides_of t = None

abbrev pub is_bare : RawTrees → Bool
is_bare no_raws = true
is_bare (more_raws t ts) = false

-- the shape of a rule: of another one no symbol is entered
abbrev pub is_shaped : Style → Sides → Bool
is_shaped st r =
    not (some_quantifies r.parts || quantifies r.value
    || (is_bare r.parts && is_free_name st r.head)) && is_value (all_names st r.parts) r.value

abbrev mutual
  -- whether a numeral of a term is too great for an element
  pub too_great : Style → RawTree → Bool
  too_great st (quantified q x t) = too_great st t
  too_great st (named s ts) = is_too_great st s || some_too_great st ts

  pub some_too_great : Style → RawTrees → Bool
  some_too_great st no_raws = false
  some_too_great st (more_raws t ts) = too_great st t || some_too_great st ts

abbrev pub is_clash_met : Option Misuse → Bool
is_clash_met None = false
is_clash_met (Some m) = misuse_row m == misuse_row TwoKinds

-- how a pattern is misused, where this was met in it: a clash of kinds counts, then too great a
-- numeral; `#` is a symbol of patterns like others
abbrev pub pattern_misuse : Style → Sides → Option Misuse → Option Misuse
pattern_misuse st r met =
    if is_clash_met met then met
    else (if is_too_great st r.head || some_too_great st r.parts then Some UnfitNumeral else None)

-- a rule behind these symbols; the head of its pattern is a name alone
abbrev pub rule_made : Style → List Symbol → Sides → Made Rule
rule_made st table r =
    let arguments = terms_of st [] (unread table) r.parts in
    record {
      tree = record {
        head = r.head;
        arguments = arguments.tree;
        weight = weight_of_value arguments.reading.variables r.value;
      };
      reading = record arguments.reading { least = pattern_misuse st r arguments.reading.least };
    }

-- the sides of a term that is a rule
abbrev pub shaped_sides : Style → RawTree → Option Sides
shaped_sides st t = option_map_or (λ r. if is_shaped st r then Some r else None) (sides_of t) None

-- the rule that a term is behind these symbols, if it has the shape of one
abbrev pub rule_in : Style → List Symbol → RawTree → Option (Made Rule)
rule_in st table t = option_map (rule_made st table) (shaped_sides st t)

-- the weight of a symbol that a term is, and 0 where it is none
abbrev pub symbol_weight : RawTree → ℕ
symbol_weight value = unwrap_or (limited_number MOST_SYMBOL_WEIGHT value) 0

-- `name = number` with a number from 1 to the greatest weight of a symbol
abbrev pub kbo_sides : List ℕ → RawTree → RawTree → Option (List ℕ × ℕ)
kbo_sides s (named f no_raws) value =
    if bytes_eq s (codes "=") && not (symbol_weight value == 0) then Some (f, symbol_weight value)
    else None
kbo_sides s t value = None

abbrev pub kbo_rule : RawTree → Option (List ℕ × ℕ)
kbo_rule (named s (more_raws t (more_raws u no_raws))) = kbo_sides s t u
kbo_rule t = None
