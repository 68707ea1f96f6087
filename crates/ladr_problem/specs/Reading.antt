-- The formula of an item as the code has read it.
use Rattle.std.specs.Prelude.{◌≡◌, ℕ, nat_lt, not, if◌then◌else◌, List, [], ◌∷◌, ◌++◌, length, take, Option}
use Rattle.std.specs.Option.{option_map, option_map_or}
use Rattle.std.specs.declared.result.Result.{Result}
use Rattle.std.specs.declared.result.Result.TheVariants.{Ok, Err}
use Rattle.fol_core.specs.FormulaView.{fol_of}
use Rattle.fol_core.specs.RawView.{raw_of}
use Rattle.fol_core.specs.RuleView.{rule_of}
use Rattle.ladr_lex.specs.declared.limits.TheConstants.{MOST_SYMBOLS}
use Rattle.ladr_lex.specs.Lexeme.{Lexeme}
use Rattle.ladr_problem.specs.Adding.{FileItem, IsItemRead, after_item, kept_answer, least_misuse, with_listed}
use Rattle.ladr_problem.specs.Sofar.{Sofar, listed_of}
use Rattle.ladr_problem.specs.declared.refusal.Refusal.{Refusal}
use Rattle.ladr_problem.specs.declared.refusal.Limit.TheVariants as limit
use Rattle.ladr_problem.specs.declared.refusal.Refusal.TheVariants.{Bad, Large, Misused, Memory}
use Rattle.ladr_formulas.specs.declared.formulas.FormulaRead.{FormulaRead}
use Rattle.ladr_formulas.specs.declared.styles.Mode.{Mode}
use Rattle.ladr_rules.specs.declared.attributes.Notes.{Notes}
use Rattle.ladr_rules.specs.declared.rules.RuleRead.{RuleRead}
use Rattle.ladr_settings.specs.Settings.{is_meant}
use Rattle.ladr_settings.specs.declared.lists.FormulaList.{FormulaList}

-- a term of a list is refused for this; nothing is said of memory
abbrev pub IsNo : Result Sofar Refusal → Refusal → Type 0
IsNo r (Bad k) = ⊥
IsNo r (Large what) = r ≡ Err (Large what)
IsNo r (Misused k) = r ≡ Err (Misused k)
IsNo r Memory = Unit {0}

-- the tokens stay where one of them can't be read
abbrev pub IsKept : {X : Type 0} → List X → List X → Refusal → Type 0
IsKept old new why = (k : ℕ) → why ≡ Bad k → new ≡ old

-- what was read with the formula's symbols, and then the formula
abbrev pub with_read : FormulaList → ℕ → Sofar → Notes → List ℕ → FormulaRead →
    Result Sofar Refusal
with_read list byte s a answer r =
    option_map_or (λ k. Err (Misused k))
    (least_misuse list a.misused (fol_of r.formula.shape) r.least)
    (Ok (with_listed list (listed_of r.formula (option_map raw_of a.label)
    (kept_answer list answer (fol_of r.formula.shape)) byte) a.hint_weight s))

-- the table has the formula's symbols behind so many
abbrev pub after_formula_read : Mode → Option FormulaList → ℕ → ℕ → Sofar → Notes → List ℕ →
    FormulaRead → Result Sofar Refusal
after_formula_read m list byte before s a answer r =
    if nat_lt MOST_SYMBOLS (length s.symbols) then Err (Large limit.Symbols)
    else (if r.large then Err (Large limit.Arity)
    else (if not (is_meant m s.settings) then Ok (record s { symbols = take before s.symbols })
    else option_map_or (λ l. with_read l byte s a answer r) list
    (Ok (record s { symbols = take before s.symbols }))))

-- an item is read, and makes this of what was read so far
abbrev pub IsTaken : Mode → ℕ → Sofar → List Lexeme → Sofar → Type 0
IsTaken m byte s ts t = (i : FileItem) × IsItemRead m s ts i × (after_item m byte s ts i ≡ Ok t)

-- what was read with the symbols of a rule of weights, and then the rule; the table has its symbols
-- behind so many
abbrev pub after_rule_read : Mode → ℕ → Sofar → RuleRead → Result Sofar Refusal
after_rule_read m before s r =
    if nat_lt MOST_SYMBOLS (length s.symbols) then Err (Large limit.Symbols)
    else (if r.large then Err (Large limit.Arity)
    else (if not (is_meant m s.settings) then Ok (record s { symbols = take before s.symbols })
    else option_map_or (λ k. Err (Misused k)) r.least
    (Ok (record s { weights = s.weights ++ rule_of r.rule ∷ [] }))))
