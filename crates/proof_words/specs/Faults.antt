-- Why tokens begin with no words of a line.
use Rattle.std.specs.Prelude.{ℕ, ◌+◌, ◌≤◌, ◌<◌, ◌≡◌, List, ◌++◌, length, take}
use Rattle.ladr_lex.specs.Lexeme.{Lexeme}
use Rattle.proof_words.specs.Spelling.{Spelling, SaysWords}
use Rattle.proof_words.specs.Written.{Written}
use Rattle.proof_words.specs.declared.fault.WordsFault.{WordsFault}
use Rattle.proof_words.specs.declared.fault.WordsFault.TheVariants.{Bad, Memory}

-- some words of this spelling begin with these tokens
pub record BeginsWords (f : Spelling) (ts : List Lexeme) : Type 0 where
  pub more : List Lexeme
  pub words : Written
  pub says : SaysWords f (ts ++ more) words

-- the first n tokens are these words
abbrev pub AreFirstWords : Spelling → List Lexeme → Written → ℕ → Type 0
AreFirstWords f ts w n = (n ≤ length ts) × SaysWords f (take n ts) w

-- no front of the tokens is such words
abbrev pub HoldsNoWords : Spelling → List Lexeme → Type 0
HoldsNoWords f ts =
    (front rest : List Lexeme) (w : Written) → ts ≡ front ++ rest → ¬ SaysWords f front w

-- Token k is the first that goes on with no words of this spelling, or the tokens end there too
-- early: some words begin with the k tokens before it, and none with it as well; nor are tokens
-- before it words themselves.
pub record IsBadWordToken (f : Spelling) (ts : List Lexeme) (k : ℕ) : Type 0 where
  pub within : k ≤ length ts
  pub before : BeginsWords f (take k ts)
  pub here : k < length ts → ¬ BeginsWords f (take (k + 1) ts)
  pub none : HoldsNoWords f ts

-- nothing is said of memory
abbrev pub IsWordsFault : Spelling → List Lexeme → WordsFault → Type 0
IsWordsFault f ts (Bad k) = IsBadWordToken f ts k
IsWordsFault f ts Memory = Unit {0}
