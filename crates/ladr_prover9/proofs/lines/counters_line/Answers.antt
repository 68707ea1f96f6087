-- One part behind the other.
use Rattle.std.proofs.Common.{◌++◌, ◌∙◌, ap, List, ℕ}
use Rattle.std.specs.Fmt.{decimal}
use Rattle.std.specs.Prelude.{codes}
use Rattle.ladr_prover9.proofs.lines.counters_line.Goals as goal
use Rattle.prover.specs.declared.answer.Counters.{Counters}

-- the line of some counters
abbrev line_of : Counters → List ℕ
line_of c =
    codes "% Given=" ++ decimal c.given ++ codes ". Generated=" ++ decimal c.generated ++ codes ". Kept=" ++ decimal c.kept ++ codes ". Large=" ++ decimal c.large ++ codes ". Proofs=" ++ decimal c.proofs ++ codes "." ++ codes "\n"

pub returns : goal.returns
returns c = λ t is.
    let given = c.in_ok-decimal.ensures ∙ ap (λ (l : List ℕ). l ++ decimal c.args.counters.given) (c.in_ok-text.ensures ∙ ap (λ (l : List ℕ). l ++ codes "% Given=") c.new-out.ensures.items) in
    let generated = c.in_ok-decimal-2.ensures ∙ ap (λ (l : List ℕ). l ++ decimal c.args.counters.generated) (c.in_ok-text-2.ensures ∙ ap (λ (l : List ℕ). l ++ codes ". Generated=") given) in
    let kept = c.in_ok-decimal-3.ensures ∙ ap (λ (l : List ℕ). l ++ decimal c.args.counters.kept) (c.in_ok-text-3.ensures ∙ ap (λ (l : List ℕ). l ++ codes ". Kept=") generated) in
    let large = c.in_ok-decimal-4.ensures ∙ ap (λ (l : List ℕ). l ++ decimal c.args.counters.large) (c.in_ok-text-4.ensures ∙ ap (λ (l : List ℕ). l ++ codes ". Large=") kept) in
    let proofs = c.in_ok-decimal-5.ensures ∙ ap (λ (l : List ℕ). l ++ decimal c.args.counters.proofs) (c.in_ok-text-5.ensures ∙ ap (λ (l : List ℕ). l ++ codes ". Proofs=") large) in
    let all = c.in_ok-text-7.ensures ∙ ap (λ (l : List ℕ). l ++ codes "\n") (c.in_ok-text-6.ensures ∙ ap (λ (l : List ℕ). l ++ codes ".") proofs) in
    all ∙ ap line_of is
