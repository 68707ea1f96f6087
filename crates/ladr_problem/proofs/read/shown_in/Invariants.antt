-- none of those so far begins there
use Rattle.std.proofs.Common.{◌≡◌, ◌++◌, List, drop}
use Rattle.ladr_lex.specs.Cuts.{Piece, pieces_of}
use Rattle.ladr_problem.specs.Places.{shown_at}
use Rattle.ladr_problem.proofs.read.shown_in.Given as goal

abbrev pub invariant-loop-token : goal.invariant-loop-token
invariant-loop-token l = (behind : List Piece) → shown_at (pieces_of (drop l.token-index l.fn.tokens) ++ behind) l.byte ≡ shown_at (pieces_of l.fn.tokens ++ behind) l.byte
