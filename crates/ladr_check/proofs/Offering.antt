-- What a text of proofs offers.
use Rattle.std.proofs.Common.{◌≡◌, ◌≤◌, ℕ, List, [], ◌∷◌, length, map, inl, refl, sym, ap, ap₂, subst}
use Rattle.clausify.specs.Names.{HasNoSkolemRelation}
use Rattle.answered_lines.specs.Lines.{plain_lines}
use Rattle.answered_lines.specs.View.{answered_lines_of}
use Rattle.derivation.specs.View.{line_tree, lines_of}
use Rattle.derivation.specs.declared.line.Line.{Line}
use Rattle.derivation.specs.declared.line.Derivation.{Derivation}
use Rattle.fol_problem.specs.Asks.{AreLive}
use Rattle.fol_problem.specs.Stated.{Stated, stated_of, IsWellFormed}
use Rattle.fol_core.specs.SymbolTable.{Symbol, KeepsNumbers}
use Rattle.fol_problem.specs.declared.problem.Problem.{Problem}
use Rattle.ladr_check.proofs.LinesKept.{Goes, proofs_go}
use Rattle.ladr_check.proofs.Nameless.{ClausesNameNone, ProofsNameNone, proofs_none}
use Rattle.ladr_check.specs.Offered.{proofs_in, refuses_proofs}
use Rattle.ladr_formulas.specs.declared.styles.Mode.{Mode}
use Rattle.ladr_formulas.specs.declared.styles.Mode.TheVariants.{Prover}
use Rattle.ladr_intake.proofs.Commands.{read_taken}
use Rattle.ladr_intake.proofs.Readings.{same_stated}
use Rattle.ladr_intake.specs.Input.{IsAllRead}
use Rattle.ladr_intake.specs.Refusals.{IsNoInput, stop_of_error}
use Rattle.ladr_io.specs.Streams.{Inflow}
use Rattle.ladr_lex.specs.declared.limits.TheConstants.{MOST_SYMBOLS}
use Rattle.ladr_problem.proofs.Live.{are_live}
use Rattle.ladr_problem.specs.File.{Says}
use Rattle.ladr_problem.specs.File as file
use Rattle.ladr_problem.specs.Growth.{Grown}
use Rattle.ladr_problem.specs.Proper.{IsProper}
use Rattle.ladr_problem.specs.Sofar.{Sofar, stated_in}
use Rattle.ladr_problem.specs.declared.refusal.ReadError.{ReadError}
use Rattle.ladr_problem.specs.declared.refusal.ReadError.TheVariants as errors
use Rattle.proof_text.specs.Refused.{reader_of, IsProofRead, IsProofError}
use Rattle.proof_text.specs.declared.text.ProofRead.{ProofRead}

-- the proofs by their lines, of both forms
pub proofs_lines : (ds : List Derivation) → map answered_lines_of (map (λ d. d.lines.items) ds) ≡ proofs_in ds
proofs_lines [] = refl
proofs_lines (d ∷ ds) = ap (λ ps. answered_lines_of d.lines.items ∷ ps) (proofs_lines ds)

-- and without their answers
lines_plainly : (ls : List Line) → lines_of ls ≡ plain_lines (answered_lines_of ls)
lines_plainly [] = refl
lines_plainly (l ∷ ls) = ap (λ ks. line_tree l ∷ ks) (lines_plainly ls)

pub proofs_plainly : (ds : List Derivation) → map lines_of (map (λ d. d.lines.items) ds) ≡ map plain_lines (proofs_in ds)
proofs_plainly [] = refl
proofs_plainly (d ∷ ds) = ap₂ (λ ls ps. ls ∷ ps) (lines_plainly d.lines.items) (proofs_plainly ds)

-- what is known of a text that is read
module _ (proper : (m : Mode) (bytes : List ℕ) (s : Sofar) → Says m bytes (file.problem s) → IsProper (stated_in s) s.settings.options) (bytes : List ℕ) (r : ProofRead) (is : IsProofRead bytes r) where
  is_proper : IsProper (stated_of is.file.problem) is.has_problem.sofar.settings.options
  is_proper =
      subst (λ (p : Stated). IsProper p is.has_problem.sofar.settings.options) (same_stated is.has_problem.sofar is.file is.has_problem.is_of)
      (proper Prover is.has_problem.input is.has_problem.sofar is.has_problem.says)

  pub read_well_formed : IsWellFormed (stated_of r.problem)
  read_well_formed = subst (λ (p : Problem). IsWellFormed (stated_of p)) (sym is.problem_is) is_proper.well_formed

  pub read_few : length r.problem.symbols ≤ MOST_SYMBOLS
  read_few = subst (λ (p : Problem). length p.symbols ≤ MOST_SYMBOLS) (sym is.problem_is) is_proper.few

  goes : Goes is.file.problem.symbols is.file.problem.symbols r.symbols
  goes = proofs_go (reader_of is.file) is.file.problem.symbols r.symbols is.blocks _ is.proofs_are

  pub read_table : KeepsNumbers r.problem.symbols r.symbols
  read_table = subst (λ (p : Problem). KeepsNumbers p.symbols r.symbols) (sym is.problem_is) goes.kept

  pub read_relations : ((table : List Symbol) → HasNoSkolemRelation table table) → HasNoSkolemRelation r.problem.symbols r.symbols
  read_relations own = subst (λ (p : Problem). HasNoSkolemRelation p.symbols r.symbols) (sym is.problem_is) (goes.no_relation (own is.file.problem.symbols))

  pub read_nameless : ClausesNameNone → ProofsNameNone (proofs_in r.proofs.items)
  read_nameless law =
      subst ProofsNameNone (proofs_lines r.proofs.items)
      (proofs_none law is.file.problem.options.prolog_style_variables (reader_of is.file).tables is.file.problem.symbols is.file.problem.symbols r.symbols is.blocks _ is.proofs_are)

-- and what its goals ask for may be asked of them
pub read_live : ((m : Mode) (bytes : List ℕ) (s : Sofar) → Says m bytes (file.problem s) → Grown m s) → (bytes : List ℕ) (r : ProofRead) → IsProofRead bytes r → AreLive r.problem.inputs.items
read_live grown bytes r is =
    subst (λ (p : Problem). AreLive p.inputs.items) (sym is.problem_is)
    (are_live Prover is.has_problem.sofar (grown Prover is.has_problem.input is.has_problem.sofar is.has_problem.says) is.file.problem.inputs.items is.has_problem.is_of.formulas)

-- an input that is refused for what it says, or for nothing
pub refused_by : (a b : Inflow) (bytes : List ℕ) (e : ReadError) → IsAllRead a b bytes → IsProofError bytes e → IsNoInput refuses_proofs a b bytes (stop_of_error e)
refused_by a b bytes (errors.Unreadable place) read h = inl (read, h)
refused_by a b bytes (errors.Misuse place why) read h = inl (read, h)
refused_by a b bytes (errors.TooLarge byte what) read h = inl (read, h)
refused_by a b bytes errors.Memory read h = read_taken a b bytes read
