-- What a file asks for is sound.
use Rattle.std.proofs.Common.{◌≡◌, ℕ, suc, refl, ap₂, subst, List, [], ◌∷◌, map}
use Rattle.clause_store.specs.Lines.{plain_tree, plain_trees, stating_line}
use Rattle.clausify.specs.Input.{all_rows, skolem_numbers}
use Rattle.derivation.specs.Lines.{LineTree}
use Rattle.fol_problem.specs.Stated.{Said, said}
use Rattle.fol_core.specs.SymbolTable.{Symbol}
use Rattle.fol_problem.specs.declared.problem.Role.{Role}
use Rattle.fol_problem.specs.declared.problem.Role.TheVariants.{Assumption, Usable, Demodulator, Goal}
use Rattle.held_clauses.specs.Order.{greater_by}
use Rattle.ladr_formulas.specs.declared.styles.Mode.{Mode}
use Rattle.ladr_formulas.specs.declared.styles.Mode.TheVariants.{Prover}
use Rattle.ladr_options.specs.declared.options.Order.{Order}
use Rattle.ladr_problem.specs.File.{Says, problem}
use Rattle.ladr_problem.specs.Sofar.{Sofar, Listed, said_in, stated_in}
use Rattle.ladr_prover9.specs.Askings.{IsSoundQuest}
use Rattle.ladr_prover9.specs.Quests.{Quest, listed_content, listed_lines, search_by, quest_by, asks}
use Rattle.search_lines.specs.Fitness.{AreFit, AreHeavy, IsFitFile}
use Rattle.prover_proofs.specs.ProofLaws.{SayWhatIsSaid}
use Rattle.prover_setup.specs.SearchInputs.{symbols_in}
use Rattle.prover_steps.specs.SearchLaws.{KeepsVariables}
use Rattle.prover_steps.specs.Starting.{said_line, said_lines, AreRowsOf}
use Rattle.term_order.specs.Listed.{symbol_rows}
use Rattle.term_order.specs.Precedences.{stands_above, weight_at}

-- the lines of a file's formulas say what is said
listed_says : (n : ℕ) (r : Role) (l : Listed) → plain_tree (stating_line n r (listed_content l)) ≡ said_line n (said r l.formula)
listed_says n Assumption l = refl
listed_says n Usable l = refl
listed_says n Demodulator l = refl
listed_says n Goal l = refl

listed_say : (n : ℕ) (fs : List (Role × Listed)) → plain_trees (listed_lines n fs) ≡ said_lines n (map (λ f. said f.0 f.1.formula) fs)
listed_say n [] = refl
listed_say n (f ∷ fs) = ap₂ (λ (x : LineTree) (xs : List LineTree). x ∷ xs) (listed_says n f.0 f.1) (listed_say (suc n) fs)

file_says : (s : Sofar) → SayWhatIsSaid (listed_lines 1 s.formulas) (said_in s)
file_says s = listed_say 1 s.formulas

-- whatever the bytes ask for is sound, by the laws of what files say
module _ (fit : (m : Mode) (bytes : List ℕ) (s : Sofar) → Says m bytes (problem s) → IsFitFile s)
    (rows : (symbols : List ℕ) (ss : List Said) → AreFit ss → AreRowsOf ss (all_rows symbols ss))
    (orders : (o : Order) (listed : List (List ℕ)) (weights : List (List ℕ × ℕ)) (table : List Symbol) → AreHeavy weights
    → KeepsVariables (greater_by o (stands_above (symbol_rows listed weights table)) (weight_at (symbol_rows listed weights table)))) where
  file_sound : (bytes : List ℕ) (s : Sofar) → Says Prover bytes (problem s) → IsSoundQuest (quest_by bytes s)
  file_sound bytes s says =
      let is = fit Prover bytes s says in
      record {
        keeps = orders s.settings.options.order s.settings.function_order s.kbo_weights (symbols_in (search_by s)) is.weights;
        rows = rows (skolem_numbers s.symbols (stated_in s)) (said_in s) is.formulas;
        say = file_says s;
      }

  pub asked_sound : (bytes : List ℕ) (q : Quest) → asks bytes q → IsSoundQuest q
  asked_sound bytes q h = subst IsSoundQuest h.2 (file_sound bytes h.0 h.1)
