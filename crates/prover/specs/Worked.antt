-- Answers worked out.
use Rattle.std.specs.Prelude.{ℕ, ◌≡◌, true, false, [], ◌∷◌, Some, None}
use Rattle.fol_core.specs.Literals.{ClauseTree, literal}
use Rattle.fol_core.specs.Tree.{var, app, none, more}
use Rattle.ladr_io.specs.Times.{Times}
use Rattle.ladr_options.specs.Options.{start}
use Rattle.proof_words.specs.Written.{by_copy}
use Rattle.prover.specs.Answers.{ComesTo, IsGivenStep, ReadsOn}
use Rattle.prover.specs.declared.answer.ProverAnswer.TheVariants.{Proof, Proofs}
use Rattle.prover_steps.specs.Conclusions.{rules_in_force}
use Rattle.prover_steps.specs.Searching.{Setting, Queued, SearchState, clause_size, after}

-- p(a), -p(x) and p(b) are input clauses under 4, 5 and 6, and two proofs are wanted
abbrev pub said : ℕ → ClauseTree
said constant = literal true (app 2 (more (app constant none) none)) ∷ []

abbrev pub denied : ClauseTree
denied = literal false (app 2 (more (var 0) none)) ∷ []

abbrev pub input : ℕ → ClauseTree → Queued
input n c = record { clause = c; first = by_copy n; later = []; input = Some n; usable = false }

abbrev pub setting : Setting
setting = record {
  rules = rules_in_force start (said 0 ∷ denied ∷ said 1 ∷ []);
  greater = λ s t. false;
  weight = clause_size;
  is_hinted = λ c. false;
  options = record start { max_proofs = 2 };
}

abbrev pub beginning : SearchState
beginning = record {
  waiting = [];
  usable = [];
  rules = [];
  queue = input 4 (said 0) ∷ input 5 denied ∷ input 6 (said 1) ∷ [];
  lines = [];
  next = 7;
  turn = 0;
  given = 0;
  generated = 0;
  kept = 0;
  large = 0;
  symbols = 0;
  proofs = [];
  ended = None;
}

-- The second clause gives a proof with the first one, and the third one with the second, under the
-- lines 7 and 8; then there are as many as were wanted.
abbrev pub WorkedAnswers : Type 0
WorkedAnswers =
    ComesTo setting beginning (after setting 2 beginning) (Proof 7)
    × ComesTo setting (after setting 2 beginning) (after setting 3 beginning) (Proof 8)
    × ComesTo setting (after setting 3 beginning) (after setting 3 beginning) Proofs

-- p(a) and -p(x) | q(x) are input clauses under 4 and 5
abbrev pub implied : ClauseTree
implied =
    literal false (app 2 (more (var 0) none)) ∷ literal true (app 3 (more (var 0) none)) ∷ []

abbrev pub two_inputs : SearchState
two_inputs = record beginning { queue = input 4 (said 0) ∷ input 5 implied ∷ []; next = 6 }

-- When both wait, p(a) is given, from which nothing is concluded. Then the other clause is, and q(a)
-- is concluded: with that queued the step is not over, but when it is kept.
abbrev pub WorkedGivenSteps : Type 0
WorkedGivenSteps =
    IsGivenStep setting (after setting 2 two_inputs) (after setting 3 two_inputs)
    × ¬ IsGivenStep setting (after setting 3 two_inputs) (after setting 4 two_inputs)
    × IsGivenStep setting (after setting 3 two_inputs) (after setting 5 two_inputs)
    × ((after setting 5 two_inputs).kept ≡ 3)

-- of two states, in the second of which two clauses more were given
abbrev pub times_read : ℕ → Times
times_read n = record { count = n; first = 3; last = 3; between = 3 }

abbrev pub WorkedReadings : Type 0
WorkedReadings =
    let later = record beginning { given = 2 } in
    ReadsOn (Some 9) 1 beginning later (times_read 0) (times_read 3)
    × ¬ ReadsOn (Some 9) 1 beginning later (times_read 0) (times_read 2)
    × ReadsOn None 1 beginning later (times_read 0) (times_read 0)
