-- What stands at a token, or behind the last one.
use Rattle.std.proofs.Common.{◌≡◌, ℕ, zero, suc, ◌<◌, ◌≤◌, Bool, true, false, List, [], ◌∷◌, length, get_or, refl, ap, arith, codes}
use Rattle.std.proofs.lemmas.Bool.{false≢true}
use Rattle.ladr_lex.specs.Cuts.{pieces_of, piece_of}
use Rattle.ladr_lex.specs.declared.token.Token.{Token}
use Rattle.ladr_problem.specs.Places.{shown}
use Rattle.proof_text.specs.Refused.{token_shown}

pub shown_there :
    (closed : Bool) (ts : List Token) (k : ℕ) (x : Token) → k < length ts → x ≡ get_or ts k x →
    shown (piece_of x) ≡ token_shown closed (pieces_of ts) k
shown_there closed [] k x h e = absurd (omega (arith, h))
shown_there closed (t ∷ ts) zero x h e = ap (λ (y : Token). shown (piece_of y)) e
shown_there closed (t ∷ ts) (suc k) x h e = shown_there closed ts k x (omega (arith, h)) e

pub banner_past : (closed : Bool) (ts : List Token) (k : ℕ) → closed ≡ true → length ts ≤ k → codes "====================" ≡ token_shown closed (pieces_of ts) k
banner_past true [] k e h = refl
banner_past true (t ∷ ts) zero e h = absurd (omega (arith, h))
banner_past true (t ∷ ts) (suc k) e h = banner_past true ts k e (omega (arith, h))
banner_past false ts k e h = absurd (false≢true e)

pub end_past : (closed : Bool) (ts : List Token) (k : ℕ) → closed ≡ false → length ts ≤ k → codes "end of input" ≡ token_shown closed (pieces_of ts) k
end_past false [] k e h = refl
end_past false (t ∷ ts) zero e h = absurd (omega (arith, h))
end_past false (t ∷ ts) (suc k) e h = end_past false ts k e (omega (arith, h))
end_past true ts k e h = absurd cc
