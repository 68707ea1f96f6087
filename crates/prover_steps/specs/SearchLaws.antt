-- What holds of each state that a search reaches.
use Rattle.std.specs.Prelude.{ℕ, ◌≡◌, ◌<◌, ◌≤◌, Bool, true, List, [], ◌++◌, map, Some, is_some}
use Rattle.std.specs.List.{AllByRecursion, list_all}
use Rattle.fol_core.specs.Free.{variables_of}
use Rattle.fol_core.specs.Renumbered.{renumbered}
use Rattle.fol_problem.specs.Stated.{Said}
use Rattle.fol_core.specs.Tree.{Tree}
use Rattle.substitutions.specs.Occurring.{has_variable}
use Rattle.derivation.specs.Lines.{clause, InputRow, LineTree, clause_at, IsDerivation}
use Rattle.proof_words.specs.Written.{meant, by_copy}
use Rattle.prover_steps.specs.Clashing.{Held}
use Rattle.prover_steps.specs.Searching.{Setting, Queued, MadeLine, FoundProof, SearchState, SearchReaches}
use Rattle.prover_steps.specs.StepLaws.{HaveClause}
use Rattle.term_order.specs.Kbo.{kbo_greater}
use Rattle.term_order.specs.Laws.{IsSymbolOrder}
use Rattle.term_order.specs.Lpo.{lpo_greater}
use Rattle.prover_steps.specs.TidyLaws.{HaveRule}

-- a line that was made, as one of a derivation
abbrev pub line_tree_of : MadeLine → LineTree
line_tree_of l = record {
  number = l.number;
  content = clause l.clause;
  first = meant l.first;
  later = l.later;
}

-- all lines: those of the problem, and those that were made
abbrev pub all_lines : List LineTree → SearchState → List LineTree
all_lines base t = base ++ map line_tree_of t.lines

-- a proof ends with the empty clause
abbrev pub EndsEmpty : List LineTree → FoundProof → Type 0
EndsEmpty ls p = clause_at ls p.line ≡ Some []

-- an input clause in the queue, whose line the problem has
pub record IsQueuedInput (base : List LineTree) (q : Queued) : Type 0 where
  pub number : ℕ
  pub input : q.input ≡ Some number
  pub line : clause_at base number ≡ Some q.clause
  pub numbered : renumbered q.clause ≡ q.clause
  pub first : q.first ≡ by_copy number
  pub later : q.later ≡ []

-- A search begins with the lines of a problem, and with its input clauses in the queue.
pub record Begins (ss : List Said) (rows : List InputRow) (base : List LineTree) (s : SearchState)
    : Type 0 where
  pub derivation : IsDerivation ss rows base
  pub below : AllByRecursion (λ l. l.number < s.next) base
  pub queue : AllByRecursion (IsQueuedInput base) s.queue
  pub rules : AllByRecursion (HaveRule base) s.rules
  pub waiting : s.waiting ≡ []
  pub usable : s.usable ≡ []
  pub lines : s.lines ≡ []
  pub proofs : s.proofs ≡ []

-- lines have a clause under its number, its variables numbered
abbrev pub HaveNumbered : List LineTree → Held → Type 0
HaveNumbered ls h = HaveClause ls h × (renumbered h.clause ≡ h.clause)

-- Its lines are a derivation from the problem, with numbers below the next one; they have each
-- clause that is held and each rule, under its number, and each proof's last one is empty.
pub record IsSoundState (ss : List Said) (rows : List InputRow) (base : List LineTree)
    (t : SearchState) : Type 0 where
  pub derivation : IsDerivation ss rows (all_lines base t)
  pub below : AllByRecursion (λ l. l.number < t.next) (all_lines base t)
  pub waiting : AllByRecursion (HaveNumbered (all_lines base t)) t.waiting
  pub usable : AllByRecursion (HaveNumbered (all_lines base t)) t.usable
  pub rules : AllByRecursion (HaveRule (all_lines base t)) t.rules
  pub proofs : AllByRecursion (EndsEmpty (all_lines base t)) t.proofs

-- what is greater has each variable of the other
abbrev pub KeepsVariables : (Tree → Tree → Bool) → Type 0
KeepsVariables greater =
    (s t : Tree) → greater s t ≡ true
    → list_all (λ x. has_variable x s) (variables_of t) ≡ true

-- both orders of terms are so, by any order of symbols
abbrev pub OrdersKeepVariables : Type 0
OrdersKeepVariables =
    ((above : ℕ → ℕ → Bool) → IsSymbolOrder above → KeepsVariables (lpo_greater above))
    × ((above : ℕ → ℕ → Bool) (weight : ℕ → ℕ) → IsSymbolOrder above
    → ((f : ℕ) → 1 ≤ weight f) → KeepsVariables (kbo_greater above weight))

-- each state that a search reaches is so
abbrev pub ReachedAreSound : Type 0
ReachedAreSound =
    (ss : List Said) (rows : List InputRow) (base : List LineTree) (st : Setting)
    (s t : SearchState)
    → KeepsVariables st.greater → Begins ss rows base s → SearchReaches st s t
    → IsSoundState ss rows base t

-- a search that has ended stays as it is, so it ends in one state at most
abbrev pub EndedStay : Type 0
EndedStay =
    (st : Setting) (s t u : SearchState)
    → SearchReaches st s t → SearchReaches st s u → is_some t.ended ≡ true
    → is_some u.ended ≡ true → t ≡ u
