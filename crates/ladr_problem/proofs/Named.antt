-- The names of a term that is read are symbols of the language.
use Rattle.std.proofs.Common.{◌≡◌, ℕ, Bool, true, false, if◌then◌else◌, List, [], Option, Some, None}
use Rattle.std.specs.Prelude.{IfSome, codes}
use Rattle.std.specs.Option.{option_map_or}
use Rattle.std.specs.Str.{bytes_eq}
use Rattle.std.proofs.lemmas.Bool.{or_left, or_right}
use Rattle.fol_core.specs.RawTree.{RawTree, named, quantified, RawTrees, no_raws, more_raws}
use Rattle.ladr_lex.specs.Cuts.{can_be, is_plain_symbol, is_quoted}
use Rattle.ladr_lex.specs.Lexeme.{Sort, ordinary, quoted, special}
use Rattle.ladr_lex.specs.declared.token.TokenKind.TheVariants.{Ordinary, Special}
use Rattle.ladr_problem.specs.Names.{is_name}
use Rattle.ladr_reader.specs.HasText.{kind_of, HasText, HaveTexts}
use Rattle.ladr_reader.specs.Table.{OperatorTable}
use Rattle.ladr_formulas.specs.declared.styles.Style.{Style}
use Rattle.ladr_rules.specs.Attributes.{Attributed, attributed, attributes_in}
use Rattle.ladr_rules.specs.Rules.{Sides, pattern_sides, equation_sides, sides_of, is_shaped, shaped_sides}

-- the names of a term, but for the variables of its quantifiers
abbrev mutual
  pub IsNamed : RawTree → Type 0
  IsNamed (named s ts) = (is_name s ≡ true) × AreNamed ts
  IsNamed (quantified q x t) = IsNamed t

  pub AreNamed : RawTrees → Type 0
  AreNamed no_raws = Unit {0}
  AreNamed (more_raws t ts) = IsNamed t × AreNamed ts

-- a symbol's text is a name
pub name_of_sort : (k : Sort) (s : List ℕ) → can_be (Some (kind_of k)) s ≡ true → is_name s ≡ true
name_of_sort ordinary s h = or_left (is_plain_symbol s) (is_quoted s) (or_left (can_be (Some Ordinary) s) (can_be (Some Special) s) h)
name_of_sort quoted s h = or_right (is_plain_symbol s) (is_quoted s) h
name_of_sort special s h = or_left (is_plain_symbol s) (is_quoted s) (or_right (can_be (Some Ordinary) s) (can_be (Some Special) s) h)

-- those of a term that has a text are names
mutual
  pub named_of_text : (g : OperatorTable) (t : RawTree) → HasText g t → IsNamed t
  named_of_text g (named s ts) h = (name_of_sort h.0.sort s h.0.written, all_of_text g ts h.1)
  named_of_text g (quantified q x t) h = named_of_text g t h.1

  all_of_text : (g : OperatorTable) (ts : RawTrees) → HaveTexts g ts → AreNamed ts
  all_of_text g no_raws h = tt
  all_of_text g (more_raws t ts) h = (named_of_text g t h.0, all_of_text g ts h.1)

-- parts of a term
pub attributed_named : (t : RawTree) → IsNamed t → IsNamed (attributed t).formula
attributed_named (quantified q x t) h = h
attributed_named (named s no_raws) h = h
attributed_named (named s (more_raws t no_raws)) h = h
attributed_named (named s (more_raws t (more_raws u no_raws))) h = by (bytes_eq s (codes "#"))
  where
    whole : Attributed
    whole = record { formula = named s (more_raws t (more_raws u no_raws)); attributes = [] }

    by : (b : Bool) → IsNamed (if b then record { formula = t; attributes = attributes_in u } else whole).formula
    by true = h.1.0
    by false = h
attributed_named (named s (more_raws t (more_raws u (more_raws v ts)))) h = h

abbrev pub HasNamedParts : Option Sides → Type 0
HasNamedParts o = IfSome o (λ r. AreNamed r.parts)

pattern_named : (s : List ℕ) (pattern value : RawTree) → IsNamed pattern → HasNamedParts (pattern_sides s pattern value)
pattern_named s (named f ts) value h = by (bytes_eq s (codes "weight"))
  where
    by : (b : Bool) → HasNamedParts (if b then Some (record { head = f; parts = ts; value = value }) else None)
    by true = h.1
    by false = tt
pattern_named s (quantified q x t) value h = tt

equation_named : (s : List ℕ) (t value : RawTree) → IsNamed t → HasNamedParts (equation_sides s t value)
equation_named s (named w no_raws) value h = tt
equation_named s (named w (more_raws pattern no_raws)) value h = by (bytes_eq s (codes "="))
  where
    by : (b : Bool) → HasNamedParts (if b then pattern_sides w pattern value else None)
    by true = pattern_named w pattern value h.1.0
    by false = tt
equation_named s (named w (more_raws t (more_raws u ts))) value h = tt
equation_named s (quantified q x t) value h = tt

sides_named : (t : RawTree) → IsNamed t → HasNamedParts (sides_of t)
sides_named (quantified q x t) h = tt
sides_named (named s no_raws) h = tt
sides_named (named s (more_raws t no_raws)) h = tt
sides_named (named s (more_raws t (more_raws u no_raws))) h = equation_named s t u h.1.0
sides_named (named s (more_raws t (more_raws u (more_raws v ts)))) h = tt

pub shaped_named : (st : Style) (t : RawTree) → IsNamed t → HasNamedParts (shaped_sides st t)
shaped_named st t h = by (sides_of t) (sides_named t h)
  where
    shaped : (b : Bool) (r : Sides) → AreNamed r.parts → HasNamedParts (if b then Some r else None)
    shaped true r k = k
    shaped false r k = tt

    by : (o : Option Sides) → HasNamedParts o → HasNamedParts (option_map_or (λ r. if is_shaped st r then Some r else None) o None)
    by None k = tt
    by (Some r) k = shaped (is_shaped st r) r k
