-- What the items of a file say is what the file says.
use Rattle.std.proofs.Common.{ℕ, ◌≤◌, List, length, sym, subst}
use Rattle.ladr_lex.specs.declared.misuse.Misuse as misuses
use Rattle.ladr_problem.specs.Items.{items_of}
use Rattle.ladr_lex.specs.Cuts.{Piece, Cuts}
use Rattle.ladr_lex.specs.declared.limits.TheConstants.{MOST_BYTES}
use Rattle.ladr_problem.specs.File.{Outcome, unreadable, misused, Says, items}
use Rattle.ladr_problem.specs.Places.{IsPlaced, IsReadError}
use Rattle.ladr_problem.specs.Sofar.{nothing_read}
use Rattle.ladr_problem.specs.Stops.{IsStop}
use Rattle.ladr_problem.specs.Whole.{IsFinished}
use Rattle.ladr_problem.specs.declared.refusal.Limit.{Limit}
use Rattle.ladr_problem.specs.declared.refusal.ReadError.{ReadError}
use Rattle.ladr_problem.specs.declared.refusal.ReadError.TheVariants as refusal
use Rattle.ladr_problem.specs.declared.stop.RefusalAt.{RefusalAt}
use Rattle.ladr_problem.specs.declared.stop.RefusalAt.TheVariants.{Unreadable, Misuse, TooLarge, Memory}
use Rattle.ladr_problem.specs.File.{too_large}
use Rattle.ladr_formulas.specs.declared.styles.Mode.{Mode}

module _ (m : Mode) (bytes : List ℕ) where
  pub says_of : (tokens : List Piece) → length bytes ≤ MOST_BYTES → Cuts 0 bytes tokens → (o : Outcome) → IsFinished m (length bytes) nothing_read (items_of tokens) o → Says m bytes o
  says_of tokens within cut o h = subst (Says m bytes) h.2 (items tokens within cut h.1)

  pub placed_error : (why : RefusalAt) (e : ReadError) → IsStop (Says m bytes) why → IsPlaced bytes why e → IsReadError m bytes e
  placed_error (Unreadable byte) (refusal.Unreadable p) says h = (subst (λ (b : ℕ). Says m bytes (unreadable b)) (sym h.0) says, h.1)
  placed_error (Unreadable byte) (refusal.Misuse p row) says h = absurd h
  placed_error (Unreadable byte) (refusal.TooLarge b w) says h = absurd h
  placed_error (Unreadable byte) refusal.Memory says h = tt
  placed_error (Misuse byte row) (refusal.Unreadable p) says h = absurd h
  placed_error (Misuse byte row) (refusal.Misuse p r) says h = (subst (λ (k : misuses.Misuse). Says m bytes (misused p.byte k)) (sym h.1) (subst (λ (b : ℕ). Says m bytes (misused b row)) (sym h.0) says), h.2)
  placed_error (Misuse byte row) (refusal.TooLarge b w) says h = absurd h
  placed_error (Misuse byte row) refusal.Memory says h = tt
  placed_error (TooLarge byte what) (refusal.Unreadable p) says h = absurd h
  placed_error (TooLarge byte what) (refusal.Misuse p row) says h = absurd h
  placed_error (TooLarge byte what) (refusal.TooLarge b w) says h = subst (λ (x : Limit). Says m bytes (too_large b x)) (sym h.1) (subst (λ (x : ℕ). Says m bytes (too_large x what)) (sym h.0) says)
  placed_error (TooLarge byte what) refusal.Memory says h = tt
  placed_error Memory (refusal.Unreadable p) says h = absurd h
  placed_error Memory (refusal.Misuse p row) says h = absurd h
  placed_error Memory (refusal.TooLarge b w) says h = absurd h
  placed_error Memory refusal.Memory says h = tt
