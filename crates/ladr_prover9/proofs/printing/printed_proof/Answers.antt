-- The text of the lines that the last one rests on.
use Rattle.std.proofs.Common.{◌∙◌, ◌<◌, ◌^◌, refl, sym, ap, subst, List, map, length}
use Rattle.std.proofs.lemmas.List.{length-map}
use Rattle.std.specs.List.{AllByRecursion}
use Rattle.clause_store.specs.Lines.{plain_line}
use Rattle.derivation.specs.declared.line.Line.{Line}
use Rattle.given_clause.specs.States.{found_of}
use Rattle.ladr_prover9.proofs.ProofTexts.{printed, head_by}
use Rattle.ladr_prover9.proofs.printing.printed_proof.Goals as goal
use Rattle.ladr_prover9.specs.Askings.{quest_of}
use Rattle.printed_proofs.specs.LineBounds.{IsBoundedLine}
use Rattle.printed_proofs.specs.Printed.{IsShortHead}
use Rattle.proof_lines.specs.ContentTokens.{tables_of}
use Rattle.proof_print.specs.LineTexts.{proof_bytes}
use Rattle.proof_print.specs.declared.texts.Heads.{Heads}

pub returns-clause-text : goal.returns-clause-text
returns-clause-text c =
    let items = c.in_ok-proof.proof.lines.items in
    let asking = c.args.asking.now in
    let heads : Heads = record { proof = c.args.number; length = length c.as_slice-lines.result.now; level = c.in_ok-proof.proof.level; weight = c.in_ok-proof.proof.size; given = c.args.found.given } in
    let head = head_by c.args.number (length c.as_slice-lines.result.now) c.in_ok-proof.proof.level c.in_ok-proof.proof.size c.args.found.given (found_of c.args.found) (map plain_line items) (ap (λ (ls : List Line). length ls) c.as_slice-lines.ensures.value ∙ sym (length-map items plain_line)) c.in_ok-proof.ensures.level c.in_ok-proof.ensures.size refl in
    record {
      lines = map plain_line items;
      ancestors = c.in_ok-proof.ensures.lines;
      text_is =
          c.in_ok-text.ensures
          ∙ ap (λ (ls : List Line). proof_bytes (tables_of asking.operators) asking.symbols asking.problem.now.options.prolog_style_variables heads ls) c.as_slice-lines.ensures.value
          ∙ printed (quest_of asking) (tables_of asking.operators) asking.symbols asking.problem.now.options.prolog_style_variables heads items c.args.number (found_of c.args.found) refl c.requires.asked.symbols refl
          head;
      had = record {
        had = items;
        are = refl;
        unnoted = c.in_ok-proof.ensures.notes;
        bounded = subst (λ (ls : List Line). AllByRecursion IsBoundedLine ls) c.as_slice-lines.ensures.value c.lines_are_bounded.ensures;
        counted = subst (λ (ls : List Line). length ls < 2 ^ 63) c.as_slice-lines.ensures.value c.lines_are_counted.ensures;
        head = subst IsShortHead head c.heads_are_short.ensures;
      };
    }

pub returns-clause-extent : goal.returns-clause-extent
returns-clause-extent c =
    let items = c.in_ok-proof.proof.lines.items in
    (map plain_line items, c.in_ok-proof.ensures.lines, ap (λ (ls : List Line). length ls) c.as_slice-lines.ensures.value ∙ sym (length-map items plain_line), c.in_ok-proof.ensures.level)
