-- The words of a line as they are written.
use Rattle.std.specs.Prelude.{ℕ, Bool, true, false, not, List, [], ◌∷◌, map}
use Rattle.derivation.specs.Later.{LaterWord}
use Rattle.derivation.specs.Lines.{FirstWord, assumed, wanted, clausified, denied, copied, resolved, factored, paramodulated, xx_resolved, instantiated}
use Rattle.derivation.specs.View.{later_of}
use Rattle.derivation.specs.declared.line.Just.{Just}
use Rattle.derivation.specs.declared.words.First.{First}
use Rattle.derivation.specs.declared.words.First.TheVariants.{Assumption, Goal, Clausify, Deny, Copy, BackRewrite, BackUnitDel, Resolve, Hyper, Ur, Factor, Para, XxRes, Instantiate}
use Rattle.derivation.specs.declared.words.Satellite.{Satellite}
use Rattle.proof_words.specs.declared.names.ContentKind.{ContentKind}
use Rattle.proof_words.specs.declared.names.ContentKind.TheVariants.{Formula, Clause, Either}
use Rattle.substitutions.specs.Bindings.{Binding}

-- the first word with its numbers, places, side, path and terms; no text has `by_instantiate` yet
pub data WrittenFirst : Type 0 where
  as_assumption : WrittenFirst
  as_goal : WrittenFirst
  by_clausify : ℕ → WrittenFirst
  by_deny : ℕ → WrittenFirst
  by_copy : ℕ → WrittenFirst
  by_back_rewrite : ℕ → WrittenFirst
  by_back_unit_del : ℕ → WrittenFirst
  by_resolve : ℕ → Satellite → WrittenFirst
  by_hyper : ℕ → List Satellite → WrittenFirst
  by_ur : ℕ → List Satellite → WrittenFirst
  by_factor : ℕ → ℕ → ℕ → WrittenFirst
  by_para : ℕ → ℕ → ℕ → ℕ → ℕ → List ℕ → WrittenFirst
  by_xx_res : ℕ → ℕ → WrittenFirst
  by_instantiate : ℕ → List Binding → WrittenFirst

-- all words of a line
pub record Written : Type 0 where
  pub first : WrittenFirst
  pub later : List LaterWord

abbrev pub written : WrittenFirst → List LaterWord → Written
written first later = record { first = first; later = later }

-- a literal of the nucleus, and the clause and the literal that meet it
abbrev pub satellite : ℕ → ℕ → ℕ → Satellite
satellite place clause literal = record { place = place; clause = clause; literal = literal }

-- `assumption` and `goal` stand behind formulas, all others behind clauses
abbrev pub states_formula : WrittenFirst → Bool
states_formula as_assumption = true
states_formula as_goal = true
states_formula w = false

-- whether a first word may stand behind content of a kind
abbrev pub suits : ContentKind → WrittenFirst → Bool
suits Formula w = states_formula w
suits Clause w = not (states_formula w)
suits Either w = true

-- how the code's words are written
abbrev pub written_first : First → WrittenFirst
written_first Assumption = as_assumption
written_first Goal = as_goal
written_first (Clausify n) = by_clausify n
written_first (Deny n) = by_deny n
written_first (Copy n) = by_copy n
written_first (BackRewrite n) = by_back_rewrite n
written_first (BackUnitDel n) = by_back_unit_del n
written_first (Resolve n s) = by_resolve n s
written_first (Hyper n ss) = by_hyper n ss.items
written_first (Ur n ss) = by_ur n ss.items
written_first (Factor n a b) = by_factor n a b
written_first (Para p) = by_para p.from p.equation p.side p.into p.literal p.path.items
written_first (XxRes n a) = by_xx_res n a
written_first (Instantiate n s) = by_instantiate n s

abbrev pub written_of : Just → Written
written_of j = written (written_first j.first) (map later_of j.steps.items)

-- what they mean: copies of all kinds are one word, and so is resolution with satellites
abbrev pub meant : WrittenFirst → FirstWord
meant as_assumption = assumed
meant as_goal = wanted
meant (by_clausify n) = clausified n
meant (by_deny n) = denied n
meant (by_copy n) = copied n
meant (by_back_rewrite n) = copied n
meant (by_back_unit_del n) = copied n
meant (by_resolve n s) = resolved n (s ∷ [])
meant (by_hyper n ss) = resolved n ss
meant (by_ur n ss) = resolved n ss
meant (by_factor n a b) = factored n a b
meant (by_para n a side m b path) = paramodulated n a side m b path
meant (by_xx_res n a) = xx_resolved n a
meant (by_instantiate n es) = instantiated n es
