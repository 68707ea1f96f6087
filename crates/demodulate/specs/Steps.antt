-- Steps of the code, and clauses with their words.
use Rattle.std.specs.Prelude.{ℕ, ◌≡◌, ◌<◌, Bool, true, false, ◌∷◌, List, Option, Some, None, length, map, min, IsTrue, is_some, unwrap_or}
use Rattle.fol_core.specs.Literals.{ClauseTree}
use Rattle.fol_core.specs.Renumbered.{renumbered}
use Rattle.fol_core.specs.TermView.{tree_of}
use Rattle.fol_core.specs.Tree.{Tree}
use Rattle.demodulate.specs.declared.step.PlacedStep.{PlacedStep}
use Rattle.demodulate.specs.declared.step.Step.{Step}
use Rattle.demodulate.specs.declared.step.Taken.{Taken}
use Rattle.demodulate.specs.declared.step.Tidied.{Tidied}
use Rattle.derivation.specs.Later.{LaterWord, rewritten}
use Rattle.derivation.specs.Places.{atom_at, with_atom}
use Rattle.derivation.specs.View.{later_of}
use Rattle.inference.specs.Followed.{with_part}
use Rattle.ladr_options.specs.declared.options.Options.{Options}
use Rattle.prover_steps.specs.Clashing.{Held}
use Rattle.prover_steps.specs.Rewriting.{RewriteStep, Simplified, simplified, normal_form, rewritten_by}
use Rattle.prover_steps.specs.Searching.{is_too_large}
use Rattle.prover_steps.specs.Shortening.{followed_by, put_in_order}
use Rattle.substitutions.specs.Paths.{replaced}

-- what a rule puts in for a term: the term itself where it doesn't fit
abbrev pub put_by : Held → Tree → Tree
put_by r t = unwrap_or (rewritten_by r t) t

-- a step of the code: what comes of it is that of the part at its path
abbrev pub part_step : Step → RewriteStep Tree
part_step s = record {
  rule = s.rule.now.number;
  path = s.path.items;
  result = put_by s.rule.now (tree_of s.term.now);
}

-- its rule fits the term there
abbrev pub FitsThere : Step → Type 0
FitsThere s = IsTrue (is_some (rewritten_by s.rule.now (tree_of s.term.now)))

abbrev pub IsFit : Option Step → Type 0
IsFit None = Unit {0}
IsFit (Some s) = FitsThere s

-- the step of an argument, by its number, as one of the application: of the same part
abbrev pub step_below : ℕ → RewriteStep Tree → RewriteStep Tree
step_below number r = record { rule = r.rule; path = number ∷ r.path; result = r.result }

-- a step of a part, as one of the whole term
abbrev pub whole_step : Tree → RewriteStep Tree → RewriteStep Tree
whole_step t r = record { rule = r.rule; path = r.path; result = replaced t r.path r.result }

-- a step of the code, by the term that it is of
abbrev pub step_in_term : Tree → Step → RewriteStep Tree
step_in_term t s = whole_step t (part_step s)

abbrev pub tidied_of : Tidied → Simplified
tidied_of t = simplified t.clause (map later_of t.words.items)

-- the step of the literal at a place, with its word
abbrev pub step_at : ClauseTree → ℕ → RewriteStep Tree → LaterWord × ClauseTree
step_at c a r = (rewritten r.rule a r.path, with_atom c a r.result)

abbrev pub placed_step : ClauseTree → PlacedStep → LaterWord × ClauseTree
placed_step c p = step_at c p.place (step_in_term (atom_at c p.place) p.step)

-- the place is one of the clause, if there is a step
abbrev pub IsPlaceIn : ClauseTree → Option PlacedStep → Type 0
IsPlaceIn c None = Unit {0}
IsPlaceIn c (Some p) = p.place < length c

-- a step that is taken, with its word
abbrev pub taken_word : Taken → LaterWord
taken_word t = rewritten t.rule t.place t.path.items

abbrev pub taken_clause : ClauseTree → Taken → ClauseTree
taken_clause c t = with_part c t.place t.path.items (tree_of t.part)

-- the step of a clause is taken, unless there is none, or it makes the clause too large
abbrev pub IsTaken : ClauseTree → Option (LaterWord × ClauseTree) → Option Taken → Type 0
IsTaken c o None = (s : LaterWord × ClauseTree) → o ≡ Some s → is_too_large s.1 ≡ true
IsTaken c o (Some t) =
    (o ≡ Some (taken_word t, taken_clause c t))
    × (is_too_large (taken_clause c t) ≡ false)
    × (t.place < length c)

-- the lesser of two numbers, if there are any
abbrev pub lesser : Option ℕ → Option ℕ → Option ℕ
lesser None o = o
lesser (Some n) None = Some n
lesser (Some n) (Some m) = Some (min n m)

-- a clause rewritten by rules, and then put in order, its variables numbered at the end
abbrev pub numbered_clause : Simplified → Simplified
numbered_clause s = simplified (renumbered s.clause) s.words

abbrev pub tidied_by : (Tree → Tree → Bool) → Options → List Held → List Held → ClauseTree →
    Simplified
tidied_by greater o rules held c =
    numbered_clause
    (followed_by (normal_form is_too_large rules o.demod_step_limit c)
    (put_in_order greater o.unit_deletion held))
