use Rattle.std.proofs.Common.{◌≡◌, ◌∙◌, List, Option, Some, sym, ap, subst}
use Rattle.std.specs.Option.{option_map}
use Rattle.fol_core.specs.RawTree.{RawTree}
use Rattle.fol_core.specs.RawView.{raw_of}
use Rattle.fol_core.specs.SymbolTable.{Symbol}
use Rattle.ladr_formulas.specs.Formulas.{style_of}
use Rattle.ladr_formulas.specs.declared.styles.Style.{Style}
use Rattle.ladr_rules.specs.RuleSeen.{IsRule, IsRuleIn}
use Rattle.ladr_rules.specs.Rules.{Sides, shaped_sides, rule_made, rule_in}
use Rattle.ladr_rules.specs.SidesView.{sides_view}
use Rattle.ladr_rules.specs.declared.rules.RuleRead.{RuleRead}
use Rattle.ladr_rules.proofs.rules.weight_rule.Goals as goal

-- the rule of the sides is that of the term
rule_there : (style st : Style) (old new : List Symbol) (t : RawTree) (s : Sides) (r : RuleRead) → style ≡ st → Some s ≡ shaped_sides style t → IsRule (rule_made style old s) r new → IsRuleIn (rule_in st old t) (Some r) old new
rule_there style st old new t s r same e h =
    subst (λ (u : Style). IsRuleIn (rule_in u old t) (Some r) old new) same
    (subst (λ (o : Option Sides). IsRuleIn (option_map (rule_made style old) o) (Some r) old new) e h)

pub returns-in_ok-shaped_rule-in-Some-clause-read : goal.returns-in_ok-shaped_rule-in-Some-clause-read
returns-in_ok-shaped_rule-in-Some-clause-read c =
    rule_there c.style_of-style.result (style_of c.args.mode c.args.prolog) c.args.symbols.now c.shaped_rule.new.symbols (raw_of c.args.raw.now) (sides_view c.in-Some.sides) _
    c.style_of-style.ensures (sym (ap (option_map sides_view) c.in-Some.is) ∙ c.in_ok-sides.ensures) c.in_ok-shaped_rule-in-Some.ensures.read
