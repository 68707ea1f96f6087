-- Passes over the literals of a clause, from place to place.
use Rattle.std.specs.Prelude.{ℕ, ◌≡◌, ◌+◌, ◌<◌, ◌≤◌, Bool, ◌++◌, List, Option, drop, length, take}
use Rattle.fol_core.specs.Literals.{Lit, ClauseTree}
use Rattle.fol_core.specs.Tree.{Tree}
use Rattle.derivation.specs.Later.{LaterWord}
use Rattle.prover_steps.specs.Rewriting.{Simplified, simplified}
use Rattle.prover_steps.specs.Shortening.{flips_from, left_out}

-- what comes of a clause with its words
abbrev pub words_then : List LaterWord → Simplified → Simplified
words_then ws s = simplified s.clause (ws ++ s.words)

-- by exchanging sides from a place on
abbrev pub flips_behind : (Tree → Tree → Bool) → ClauseTree → List LaterWord → ℕ → Simplified
flips_behind greater c ws a =
    let rest = flips_from greater a (drop a c) in
    simplified (take a c ++ rest.clause) (ws ++ rest.words)

-- by leaving out literals from a place on
abbrev pub left_out_behind : (ClauseTree → Lit → Option LaterWord) → ClauseTree → List LaterWord →
    ℕ → Simplified
left_out_behind out c ws a = words_then ws (left_out out (take a c) (drop a c))

-- the pass comes to the same from the next place on
pub record FlipsOn (greater : Tree → Tree → Bool) (c : ClauseTree) (ws : List LaterWord) (a : ℕ)
    (d : ClauseTree) (vs : List LaterWord) : Type 0 where
  pub same : flips_behind greater d vs (a + 1) ≡ flips_behind greater c ws a
  pub as_many : length d ≡ length c

-- the pass comes to the same from this place on, and fewer literals are left
pub record PassGoesOn (out : ClauseTree → Lit → Option LaterWord) (c : ClauseTree)
    (ws : List LaterWord) (a : ℕ) (d : ClauseTree) (vs : List LaterWord) (b : ℕ) : Type 0 where
  pub same : left_out_behind out d vs b ≡ left_out_behind out c ws a
  pub within : b ≤ length d
  pub fewer : length d + a < length c + b
