-- Items taken one behind the other say what the file says.
use Rattle.std.proofs.Common.{◌≡◌, ℕ, false, List, ◌∷◌, Option, Some, None, refl, sym, subst}
use Rattle.std.specs.Prelude.{is_some}
use Rattle.ladr_lex.specs.declared.misuse.Misuse as misuses
use Rattle.ladr_problem.proofs.CutLemmas.{lexemes_pieces}
use Rattle.ladr_problem.specs.Items.{lexemes}
use Rattle.ladr_lex.specs.Cuts.{Piece, pieces_of}
use Rattle.ladr_lex.specs.Lexeme.{Lexeme, lexemes_of}
use Rattle.ladr_lex.specs.declared.token.Token.{Token}
use Rattle.ladr_problem.specs.Adding.{IsItemRefused}
use Rattle.ladr_problem.specs.File.{Outcome, unreadable, misused, too_large, problem, File, bad, breaks, goes_on, start_at, tested, at_file_end}
use Rattle.ladr_problem.specs.Reading.{IsTaken}
use Rattle.ladr_problem.specs.Sofar.{Sofar}
use Rattle.ladr_problem.specs.Stops.{IsStop, by_refusal}
use Rattle.ladr_problem.specs.declared.refusal.Limit.{Limit}
use Rattle.ladr_problem.specs.declared.refusal.Refusal.{Refusal}
use Rattle.ladr_problem.specs.declared.refusal.Refusal.TheVariants as refusal
use Rattle.ladr_problem.specs.declared.stop.RefusalAt.{RefusalAt}
use Rattle.ladr_problem.specs.declared.stop.RefusalAt.TheVariants.{Unreadable, Misuse, TooLarge, Memory}
use Rattle.ladr_problem.specs.Whole.{IsFinished}
use Rattle.ladr_formulas.specs.declared.styles.Mode.{Mode}
use Rattle.ladr_formulas.specs.declared.styles.Mode.TheVariants.{Prover, Mace, Tester}

pub none_there : {A : Type 0} (o : Option A) → is_some o ≡ false → o ≡ None
none_there None h = refl
none_there (Some x) h = cc

-- a stop of one is a stop of the other
pub stop_along : (P Q : Outcome → Type 0) → ((o : Outcome) → P o → Q o) → (why : RefusalAt) → IsStop P why → IsStop Q why
stop_along P Q h (Unreadable byte) x = h _ x
stop_along P Q h (Misuse byte row) x = h _ x
stop_along P Q h (TooLarge byte what) x = h _ x
stop_along P Q h Memory x = tt

module _ (m : Mode) (end : ℕ) (s : Sofar) (ts : List Token) (items : List (List Piece)) where
  pub taken_goes : (u : Sofar) (o : Outcome) → IsTaken m (start_at end (pieces_of ts) 0) s (lexemes_of ts) u → File m end u items o → File m end s (pieces_of ts ∷ items) o
  taken_goes u o h f =
      let taken : IsTaken m (start_at end (pieces_of ts) 0) s (lexemes (pieces_of ts)) u = subst (λ (xs : List Lexeme). IsTaken m (start_at end (pieces_of ts) 0) s xs u) (sym (lexemes_pieces ts)) h in
      goes_on taken.0 u taken.1 taken.2 f

  stops : (why : Refusal) → IsItemRefused m (start_at end (pieces_of ts) 0) s (lexemes (pieces_of ts)) why → IsStop (File m end s (pieces_of ts ∷ items)) (by_refusal end (pieces_of ts) why)
  stops (refusal.Bad k) h = bad k h
  stops (refusal.Large what) h = breaks h.0 (refusal.Large what) h.1 h.2
  stops (refusal.Misused k) h = breaks h.0 (refusal.Misused k) h.1 h.2
  stops refusal.Memory h = tt

  pub refused_stops : (why : Refusal) → IsItemRefused m (start_at end (pieces_of ts) 0) s (lexemes_of ts) why → IsStop (File m end s (pieces_of ts ∷ items)) (by_refusal end (pieces_of ts) why)
  refused_stops why h = stops why (subst (λ (xs : List Lexeme). IsItemRefused m (start_at end (pieces_of ts) 0) s xs why) (sym (lexemes_pieces ts)) h)

unreadable_stays : (m : Mode) (end byte : ℕ) → at_file_end m end (unreadable byte) ≡ unreadable byte
unreadable_stays Prover end byte = refl
unreadable_stays Mace end byte = refl
unreadable_stays Tester end byte = refl

misused_stays : (m : Mode) (end byte : ℕ) (row : misuses.Misuse) → at_file_end m end (misused byte row) ≡ misused byte row
misused_stays Prover end byte row = refl
misused_stays Mace end byte row = refl
misused_stays Tester end byte row = refl

too_large_stays : (m : Mode) (end byte : ℕ) (what : Limit) → at_file_end m end (too_large byte what) ≡ too_large byte what
too_large_stays Prover end byte what = refl
too_large_stays Mace end byte what = refl
too_large_stays Tester end byte what = refl

-- what stops the items stops the file
pub stop_finished : (m : Mode) (end : ℕ) (s : Sofar) (items : List (List Piece)) (why : RefusalAt) → IsStop (File m end s items) why → IsStop (IsFinished m end s items) why
stop_finished m end s items (Unreadable byte) h = (unreadable byte, h, unreadable_stays m end byte)
stop_finished m end s items (Misuse byte row) h = (misused byte row, h, misused_stays m end byte row)
stop_finished m end s items (TooLarge byte what) h = (too_large byte what, h, too_large_stays m end byte what)
stop_finished m end s items Memory h = tt

-- and so does row 18, for a program that tests interpretations
module _ (m : Mode) (tests : m ≡ Tester) (end : ℕ) (s t : Sofar) (items : List (List Piece)) (f : File m end s items (problem t)) where
  is_finished : (o : Outcome) → tested end (problem t) ≡ o → IsFinished m end s items o
  is_finished o e = (problem t, f, subst (λ (n : Mode). at_file_end n end (problem t) ≡ o) (sym tests) e)

  pub tested_problem : tested end (problem t) ≡ problem t → IsFinished m end s items (problem t)
  tested_problem e = is_finished (problem t) e

  pub tested_stop : (why : RefusalAt) → IsStop (λ o. tested end (problem t) ≡ o) why → IsStop (IsFinished m end s items) why
  tested_stop (Unreadable byte) h = is_finished _ h
  tested_stop (Misuse byte row) h = is_finished _ h
  tested_stop (TooLarge byte what) h = is_finished _ h
  tested_stop Memory h = tt
