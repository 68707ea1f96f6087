-- Command lines worked out.
use Rattle.std.specs.Prelude.{ℕ, ◌≡◌, ◌≤◌, ◌≢◌, true, false, List, [], ◌∷◌, Option, Some, None, codes, slice_index}
use Rattle.ladr_words.specs.Tasks.{task_of, number_written}
use Rattle.ladr_words.specs.declared.task.Task.{Task}
use Rattle.ladr_words.specs.declared.task.Task.TheVariants.{Check, Clausetester, Mace4, Made, Prover9}

abbrev pub searching : Option ℕ → Option ℕ → Option ℕ → Option ℕ → Option Task
searching start_size end_size max_models max_seconds =
    Some (Mace4
    (record {
      start_size = start_size;
      end_size = end_size;
      max_models = max_models;
      max_seconds = max_seconds;
    }))

abbrev pub mace4 : List (List ℕ) → List (List ℕ)
mace4 words = codes "mace4" ∷ words

-- some command lines and their tasks
abbrev pub WorkedLines : Type 0
WorkedLines =
    (task_of (codes "check" ∷ []) ≡ Some Check)
    × (task_of (codes "clausetester" ∷ []) ≡ Some (Clausetester false))
    × (task_of (codes "clausetester" ∷ codes "--filter" ∷ []) ≡ Some (Clausetester true))
    × (task_of (codes "prover9" ∷ []) ≡ Some (Prover9 None))
    × (task_of (codes "prover9" ∷ codes "-t" ∷ codes "60" ∷ []) ≡ Some (Prover9 (Some 60)))
    × (task_of (codes "made" ∷ codes "2" ∷ []) ≡ Some (Made 2))
    × (task_of (mace4 []) ≡ searching None None None None)
    × (task_of (mace4 (codes "-n" ∷ codes "3" ∷ codes "-N" ∷ codes "4" ∷ []))
    ≡ searching (Some 3) (Some 4) None None)
    × (task_of (mace4 (codes "-n3" ∷ [])) ≡ searching (Some 3) None None None)
    × (task_of (mace4 (codes "-m" ∷ codes "10" ∷ codes "-t" ∷ codes "5" ∷ []))
    ≡ searching None None (Some 10) (Some 5))
    × (task_of (mace4 (codes "-t=0" ∷ [])) ≡ searching None None None (Some 0))

-- some that are no command
abbrev pub WorkedRefusals : Type 0
WorkedRefusals =
    (task_of [] ≡ None)
    × (task_of (codes "help" ∷ []) ≡ None)
    × (task_of (codes "--version" ∷ []) ≡ None)
    × (task_of (codes "prooftrans" ∷ []) ≡ None)
    × (task_of (codes "check" ∷ codes "-t" ∷ codes "5" ∷ []) ≡ None)
    × (task_of (codes "clausetester" ∷ codes "extra" ∷ []) ≡ None)
    × (task_of (codes "clausetester" ∷ codes "--filter" ∷ codes "--filter" ∷ []) ≡ None)
    × (task_of (codes "clausetester" ∷ codes "-f" ∷ []) ≡ None)
    × (task_of (codes "check" ∷ codes "--filter" ∷ []) ≡ None)
    × (task_of (codes "prover9" ∷ codes "extra" ∷ []) ≡ None)
    × (task_of (codes "prover9" ∷ codes "-n" ∷ codes "3" ∷ []) ≡ None)
    × (task_of (codes "made" ∷ []) ≡ None)
    × (task_of (codes "made" ∷ codes "0" ∷ []) ≡ None)
    × (task_of (codes "made" ∷ codes "1001" ∷ []) ≡ None)
    × (task_of (codes "made" ∷ codes "1" ∷ codes "2" ∷ []) ≡ None)
    × (task_of (mace4 (codes "--help" ∷ [])) ≡ None)
    × (task_of (mace4 (codes "-n" ∷ codes "0" ∷ [])) ≡ None)
    × (task_of (mace4 (codes "-n" ∷ codes "201" ∷ [])) ≡ None)
    × (task_of (mace4 (codes "-n" ∷ [])) ≡ None)
    × (task_of (mace4 (codes "-n" ∷ codes "3" ∷ codes "-n" ∷ codes "4" ∷ [])) ≡ None)

-- whatever the text behind `-n`: if it writes a number from 1 to 200 and doesn't begin with a dash,
-- that is the first size
abbrev pub StartSizeIsRead : Type 0
StartSizeIsRead =
    (text : List ℕ) (n : ℕ) → number_written text ≡ Some n → 1 ≤ n → n ≤ 200 →
    slice_index text 0 ≢ 45
    → task_of (mace4 (codes "-n" ∷ text ∷ [])) ≡ searching (Some n) None None None
