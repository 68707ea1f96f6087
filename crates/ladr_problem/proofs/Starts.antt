-- Where tokens begin.
use Rattle.std.proofs.Common.{◌≡◌, ℕ, zero, suc, ◌<◌, ◌≤◌, List, [], ◌∷◌, length, get_or, refl, ap, arith}
use Rattle.ladr_lex.specs.Cuts.{pieces_of}
use Rattle.ladr_lex.specs.Tokens.{token_start}
use Rattle.ladr_lex.specs.declared.token.Token.{Token}
use Rattle.ladr_problem.specs.File.{start_at}

pub start_there : (end : ℕ) (ts : List Token) (k : ℕ) (x : Token) → k < length ts → x ≡ get_or ts k x → token_start x ≡ start_at end (pieces_of ts) k
start_there end [] k x h e = absurd (omega (arith, h))
start_there end (t ∷ ts) zero x h e = ap token_start e
start_there end (t ∷ ts) (suc k) x h e = start_there end ts k x (omega (arith, h)) e

pub start_past : (end : ℕ) (ts : List Token) (k : ℕ) → length ts ≤ k → end ≡ start_at end (pieces_of ts) k
start_past end [] k h = refl
start_past end (t ∷ ts) zero h = absurd (omega (arith, h))
start_past end (t ∷ ts) (suc k) h = start_past end ts k (omega (arith, h))
