-- Where a prover stands.
use Rattle.std.specs.Prelude.{ℕ, ◌≡◌, Bool, false, List, Option, None}
use Rattle.given_clause.specs.Guides.{setting_of}
use Rattle.given_clause.specs.Noted.{AreNoted}
use Rattle.given_clause.specs.States.{state_of}
use Rattle.given_clause.specs.declared.state.FoundProof.{FoundProof}
use Rattle.held_clauses.specs.declared.made.MadeLine.{MadeLine}
use Rattle.ladr_io.specs.Times.{Times}
use Rattle.prover.specs.declared.answer.ProverAnswer.{ProverAnswer}
use Rattle.prover.specs.declared.standing.Prover.{Prover}
use Rattle.prover_setup.specs.SearchInputs.{SearchInput, setting_in, start_in}
use Rattle.prover_steps.specs.HeldOrder.{IsInOrder}
use Rattle.prover_steps.specs.Searching.{Setting, SearchState}
use Rattle.search_clock.specs.Watching.{IsWatched}
use Rattle.search_clock.specs.declared.watch.Watch.{Watch}

-- its setting and the state of its search
abbrev pub setting_at : Prover → Setting
setting_at p = setting_of p.guide

abbrev pub state_at : Prover → SearchState
state_at p = state_of p.search

-- the lines that were made and the proofs that were found, as the code has them
abbrev pub lines_had : Prover → List MadeLine
lines_had p = p.search.lines.items

abbrev pub proofs_had : Prover → List FoundProof
proofs_had p = p.search.proofs.items

-- how many tests the indexes of its search made of their entries
abbrev pub tries_of : Prover → ℕ
tries_of p = p.search.tries

-- its clock; the end that it answered, if it did; and whether memory was lacking
abbrev pub watch_of : Prover → Watch
watch_of p = p.watch

abbrev pub end_answered : Prover → Option ProverAnswer
end_answered p = p.end

abbrev pub is_short : Prover → Bool
is_short p = p.short

-- no end was answered, nor that memory was lacking
pub record IsGoing (p : Prover) : Type 0 where
  pub unended : end_answered p ≡ None
  pub sufficed : is_short p ≡ false

-- its clauses stand in order, and what is noted of those that wait is true
pub record IsFit (p : Prover) : Type 0 where
  pub ordered : IsInOrder (state_at p)
  pub noted : AreNoted (setting_at p) p.search.waiting

-- It may go on: besides, the clock gave this prover's readings alone, none of them late.
pub record MayGoOn (p : Prover) (times : Times) : Type 0 where
  pub fit : IsFit p
  pub watched : IsWatched (watch_of p) times

-- It is where the search for a problem begins, and has not read the clock.
pub record IsNew (x : SearchInput) (seconds : Option ℕ) (p : Prover) : Type 0 where
  pub going : IsGoing p
  pub fit : IsFit p
  pub setting : setting_at p ≡ setting_in x
  pub state : state_at p ≡ start_in x
  pub time : (watch_of p).seconds ≡ seconds
  pub unread : (watch_of p).first ≡ None
  pub untried : tries_of p ≡ 0
