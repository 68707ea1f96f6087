-- What lines say in a derivation.
use Rattle.std.proofs.Common.{◌≡◌, ℕ, suc, Bool, true, false, if◌then◌else◌, refl, sym, ap, ap₂, ◌∙◌, List, [], ◌∷◌, ◌++◌, length, map}
use Rattle.std.proofs.lemmas.List.{map-append, length-map}
use Rattle.clause_store.specs.Lines.{plain_tree, plain_trees, formula_line, formula_lines, stating_word}
use Rattle.derivation.specs.Lines.{FirstWord, assumed, wanted, clausified, denied, InputRow, LineTree, formula, clause, is_goal}
use Rattle.fol_core.specs.FormulaView.{fol_of}
use Rattle.fol_problem.specs.Stated.{Said, said_of, all_said}
use Rattle.fol_problem.specs.declared.problem.Input.{Input}
use Rattle.fol_problem.specs.declared.problem.Role.{Role}
use Rattle.fol_problem.specs.declared.problem.Role.TheVariants.{Assumption, Usable, Demodulator, Goal}
use Rattle.proof_words.specs.Written.{by_clausify, by_deny, meant}
use Rattle.prover_proofs.specs.ProofLaws.{FormulaLinesSay, StateLinesSay}
use Rattle.prover_proofs.specs.SearchLines.{clausal_line, clausal_lines, made_plain}
use Rattle.prover_steps.specs.SearchLaws.{line_tree_of}
use Rattle.prover_steps.specs.Searching.{MadeLine}
use Rattle.prover_steps.specs.Starting.{said_line, said_lines, role_of, input_line, input_lines}

stating : (r : Role) → meant (stating_word r) ≡ (if is_goal r then wanted else assumed)
stating Assumption = refl
stating Usable = refl
stating Demodulator = refl
stating Goal = refl

formula_says : (n : ℕ) (i : Input) → plain_tree (formula_line n i) ≡ said_line n (said_of i)
formula_says n i = ap with_first (stating i.role)
  where
    with_first : FirstWord → LineTree
    with_first w = record { number = n; content = formula (fol_of i.formula.shape); first = w; later = [] }

formulas_say : (n : ℕ) (is : List Input) → plain_trees (formula_lines n is) ≡ said_lines n (all_said is)
formulas_say n [] = refl
formulas_say n (i ∷ is) = ap₂ (λ (x : LineTree) (xs : List LineTree). x ∷ xs) (formula_says n i) (formulas_say (suc n) is)

pub formula_lines_say : FormulaLinesSay
formula_lines_say is = formulas_say 1 is

clausal_says : (ss : List Said) (n : ℕ) (r : InputRow) → plain_tree (clausal_line ss n r) ≡ input_line ss n r
clausal_says ss n r = ap with_first (by (is_goal (role_of ss r)))
  where
    with_first : FirstWord → LineTree
    with_first w = record { number = n; content = clause r.1; first = w; later = [] }

    by : (b : Bool) → meant (if b then by_deny r.0 else by_clausify r.0) ≡ (if b then denied r.0 else clausified r.0)
    by true = refl
    by false = refl

clausals_say : (ss : List Said) (n : ℕ) (rows : List InputRow) → plain_trees (clausal_lines ss n rows) ≡ input_lines ss n rows
clausals_say ss n [] = refl
clausals_say ss n (r ∷ rows) = ap₂ (λ (x : LineTree) (xs : List LineTree). x ∷ xs) (clausal_says ss n r) (clausals_say ss (suc n) rows)

made_say : (ls : List MadeLine) → plain_trees (map made_plain ls) ≡ map line_tree_of ls
made_say [] = refl
made_say (l ∷ ls) = ap (λ (xs : List LineTree). line_tree_of l ∷ xs) (made_say ls)

said_length : (n : ℕ) (ss : List Said) → length (said_lines n ss) ≡ length ss
said_length n [] = refl
said_length n (s ∷ ss) = ap suc (said_length (suc n) ss)

pub state_lines_say : StateLinesSay
state_lines_say formulas ss rows t say =
    map-append plain_tree (formulas ++ clausal_lines ss (suc (length formulas)) rows) (map made_plain t.lines)
    ∙ ap₂ (λ (x : List LineTree) (y : List LineTree). x ++ y) (map-append plain_tree formulas (clausal_lines ss (suc (length formulas)) rows) ∙ ap₂ (λ (x : List LineTree) (y : List LineTree). x ++ y) say inputs) (made_say t.lines)
  where
    many : length formulas ≡ length ss
    many = sym (length-map formulas plain_tree) ∙ ap length say ∙ said_length 1 ss

    inputs : plain_trees (clausal_lines ss (suc (length formulas)) rows) ≡ input_lines ss (suc (length ss)) rows
    inputs = ap (λ n. plain_trees (clausal_lines ss (suc n) rows)) many ∙ clausals_say ss (suc (length ss)) rows
