use Rattle.std.proofs.Common.{◌++◌, ◌∷◌, [], ap, sym, ◌∙◌, List, ℕ, append_assoc}
use Rattle.std.specs.Prelude.{codes}
use Rattle.std.specs.Fmt.{decimal}
use Rattle.search_clock.proofs.lines.seconds_line.Goals as goal

pub returns : goal.returns
returns c =
    let out = c.args.out.now.items in
    let first = codes "% Exit max_seconds " ++ decimal c.args.first in
    let second = first ++ codes " " in
    let third = second ++ decimal c.args.last in
    let e1 = c.in_ok-text.ensures ∙ ap (λ (l : List ℕ). l ++ codes " ") c.in_ok-first_reading.ensures ∙ append_assoc out first (codes " ") in
    let e2 = c.in_ok-decimal.ensures ∙ ap (λ (l : List ℕ). l ++ decimal c.args.last) e1 ∙ append_assoc out second (decimal c.args.last) in
    c.in_ok-text-2.ensures ∙ ap (λ (l : List ℕ). l ++ codes ".\n") e2 ∙ append_assoc out third (codes ".\n") ∙ ap (λ (l : List ℕ). out ++ l) (sym (append_assoc third (codes ".") (10 ∷ [])))
