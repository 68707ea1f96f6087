-- What the code has read of a file is what the file asks for.
use Rattle.std.proofs.Common.{◌≡◌, ◌<◌, ◌^◌, ℕ, suc, refl, sym, ap, ap₂, ◌∙◌, List, [], ◌∷◌, ◌++◌, map}
use Rattle.clause_store.specs.Lines.{PlainLine, formula_lines}
use Rattle.fol_core.specs.RuleView.{rule_of}
use Rattle.fol_problem.specs.Stated.{Stated, Said, said, stated, stated_of, said_of, all_said}
use Rattle.fol_core.specs.SymbolTable.{Symbol}
use Rattle.fol_core.specs.Weights.{Rule}
use Rattle.fol_problem.specs.declared.problem.Hint.{Hint}
use Rattle.fol_problem.specs.declared.problem.Input.{Input}
use Rattle.fol_problem.specs.declared.problem.Role.{Role}
use Rattle.ladr_formulas.specs.declared.styles.Mode.TheVariants.{Prover}
use Rattle.ladr_lex.specs.Operators.{OperatorRow}
use Rattle.ladr_options.specs.declared.options.Options.{Options}
use Rattle.ladr_problem.specs.File.{Says, problem}
use Rattle.ladr_problem.specs.Sofar.{Sofar, Listed, said_in, input_of, hint_of}
use Rattle.ladr_problem.specs.Whole.{IsOf}
use Rattle.ladr_problem.specs.declared.read.FileRead.{FileRead}
use Rattle.ladr_prover9.specs.Quests.{Quest, listed_lines, listed_hint, search_by, quest_by, quest_in, asks, IsHad}
use Rattle.proof_lines.specs.ContentTokens.{line_tables}
use Rattle.prover_setup.specs.SearchInputs.{SearchInput, input_in}
use Rattle.weights.specs.Hints.{HintRow}
use Rattle.weights.specs.HintRows.{row_of_hint}

lines_same : (n : ℕ) (is : List Input) → listed_lines n (map input_of is) ≡ formula_lines n is
lines_same n [] = refl
lines_same n (i ∷ is) = ap (λ (ls : List PlainLine). formula_lines n (i ∷ []) ++ ls) (lines_same (suc n) is)

said_same : (is : List Input) → map (λ (f : Role × Listed). said f.0 f.1.formula) (map input_of is) ≡ all_said is
said_same [] = refl
said_same (i ∷ is) = ap (λ (ss : List Said). said_of i ∷ ss) (said_same is)

hints_same : (hs : List Hint) → map listed_hint (map hint_of hs) ≡ map row_of_hint hs
hints_same [] = refl
hints_same (h ∷ hs) = ap (λ (rs : List HintRow). row_of_hint h ∷ rs) (hints_same hs)

module _ (s : Sofar) (r : FileRead) (is : IsOf s r) where
  pub stated_same : stated s.symbols (said_in s) ≡ stated_of r.problem
  stated_same = ap₂ (λ (x : List Symbol) (y : List Said). stated x y) (sym is.symbols) (ap (map (λ (f : Role × Listed). said f.0 f.1.formula)) (sym is.formulas) ∙ said_same r.problem.inputs.items)

  abbrev input_with : Options → Stated → List HintRow → List Rule → List (List ℕ × ℕ) → List (List ℕ) → SearchInput
  input_with o p hs ws ks ns = record { options = o; stated = p; hints = hs; weights = ws; name_weights = ks; listed = ns }

  input_same : search_by s ≡ input_in r.problem
  input_same =
      ap (λ x. input_with x (stated s.symbols (said_in s)) (map listed_hint s.hints) s.weights s.kbo_weights s.settings.function_order) (sym is.options)
      ∙ ap (λ x. input_with r.problem.options x (map listed_hint s.hints) s.weights s.kbo_weights s.settings.function_order) stated_same
      ∙ ap (λ x. input_with r.problem.options (stated_of r.problem) x s.weights s.kbo_weights s.settings.function_order) (ap (map listed_hint) (sym is.hints) ∙ hints_same r.problem.hints.items)
      ∙ ap (λ x. input_with r.problem.options (stated_of r.problem) (map row_of_hint r.problem.hints.items) x s.kbo_weights s.settings.function_order) (sym is.weights)
      ∙ ap (λ x. input_with r.problem.options (stated_of r.problem) (map row_of_hint r.problem.hints.items) (map rule_of r.problem.weights.items) x s.settings.function_order) (sym is.kbo_weights)
      ∙ ap (λ x. input_with r.problem.options (stated_of r.problem) (map row_of_hint r.problem.hints.items) (map rule_of r.problem.weights.items) r.problem.kbo_weights x) (sym is.function_order)

  pub quest_same : (bytes : List ℕ) → quest_by bytes s ≡ quest_in bytes r
  quest_same bytes =
      ap (λ (x : SearchInput). with_all x (listed_lines 1 s.formulas) s.settings.options s.settings.operators) input_same
      ∙ ap (λ (x : List PlainLine). with_all (input_in r.problem) x s.settings.options s.settings.operators) (ap (listed_lines 1) (sym is.formulas) ∙ lines_same 1 r.problem.inputs.items)
      ∙ ap (λ (x : Options). with_all (input_in r.problem) (formula_lines 1 r.problem.inputs.items) x s.settings.operators) (sym is.options)
      ∙ ap (λ (x : List OperatorRow). with_all (input_in r.problem) (formula_lines 1 r.problem.inputs.items) r.problem.options x) (sym is.operators)
    where
      with_all : SearchInput → List PlainLine → Options → List OperatorRow → Quest
      with_all x ls o rows = record { input = bytes; search = x; formulas = ls; operators = line_tables o.prolog_style_variables rows }

pub read_asks : (bytes : List ℕ) (s : Sofar) (r : FileRead) → Says Prover bytes (problem s) → IsOf s r → asks bytes (quest_in bytes r)
read_asks bytes s r says is = (s, says, quest_same s r is bytes)

-- the bytes state what the code has read
pub read_had : (bytes : List ℕ) (r : FileRead) → r.problem.options.max_proofs < 2 ^ 32 → (s : Sofar) × Says Prover bytes (problem s) × IsOf s r → IsHad bytes
read_had bytes r few h = record { says = h.0; is_said = h.1; had = r; is_had = h.2; wanted = few }
