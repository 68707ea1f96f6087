-- The states of the code.
use Rattle.std.specs.Prelude.{◌≡◌, true, false, map}
use Rattle.clause_limits.specs.Sizes.{is_too_large}
use Rattle.derivation.specs.View.{later_of}
use Rattle.fol_core.specs.Renumbered.{renumbered}
use Rattle.given_clause.specs.declared.state.FoundProof as found
use Rattle.given_clause.specs.declared.state.QueueEntry.{QueueEntry}
use Rattle.given_clause.specs.declared.state.QueueEntry.TheVariants.{Built, Large}
use Rattle.given_clause.specs.declared.state.Queued as queued
use Rattle.given_clause.specs.declared.state.Reason as why
use Rattle.given_clause.specs.declared.state.Reason.TheVariants.{Proved, Spent, GaveAll, KeptAll, Filled}
use Rattle.given_clause.specs.declared.state.Search.{Search}
use Rattle.held_clauses.specs.declared.made.MadeLine as made
use Rattle.proof_words.specs.Written.{written_first}
use Rattle.prover_steps.specs.Searching.{Queued, queued_for, MadeLine, Reason, proved, spent, gave_all, kept_all, filled, FoundProof, SearchState}
use Rattle.std.specs.Option.{option_map}

abbrev pub queued_of : queued.Queued → Queued
queued_of q = record {
  clause = q.clause;
  first = written_first q.first;
  later = map later_of q.later.items;
  input = q.input;
  usable = q.usable;
}

-- a conclusion that isn't built is queued as any other one
abbrev pub entry_of : QueueEntry → Queued
entry_of (Built q) = queued_of q
entry_of (Large c f) = queued_for (record { clause = renumbered c; first = written_first f })

-- what is queued is built exactly where it isn't too large
abbrev pub IsQueuedWithin : QueueEntry → Type 0
IsQueuedWithin (Built q) = is_too_large q.clause ≡ false
IsQueuedWithin (Large c f) = is_too_large c ≡ true

abbrev pub made_line_of : made.MadeLine → MadeLine
made_line_of l = record {
  number = l.number;
  clause = l.clause.value;
  first = written_first l.just.value.first;
  later = map later_of l.just.value.steps.items;
}

abbrev pub found_of : found.FoundProof → FoundProof
found_of p = record { line = p.line; given = p.given }

abbrev pub reason_of : why.Reason → Reason
reason_of Proved = proved
reason_of Spent = spent
reason_of GaveAll = gave_all
reason_of KeptAll = kept_all
reason_of Filled = filled

abbrev pub state_of : Search → SearchState
state_of s = record {
  waiting = s.waiting.held;
  usable = s.usable;
  rules = s.rules;
  queue = map entry_of s.queue.items;
  lines = map made_line_of s.lines.items;
  next = s.next;
  turn = s.turn;
  given = s.given;
  generated = s.generated;
  kept = s.kept;
  large = s.large;
  symbols = s.symbols;
  proofs = map found_of s.proofs.items;
  ended = option_map reason_of s.ended;
}
