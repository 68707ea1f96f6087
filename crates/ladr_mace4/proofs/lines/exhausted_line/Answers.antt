use Rattle.std.proofs.Common.{◌++◌, ◌∷◌, [], ap, sym, ◌∙◌, List, ℕ, append_assoc}
use Rattle.std.specs.Prelude.{codes}
use Rattle.std.specs.Fmt.{decimal}
use Rattle.ladr_mace4.proofs.lines.exhausted_line.Goals as goal

pub returns : goal.returns
returns c =
    let domain = codes "% Domain size " ++ decimal c.args.n in
    c.in_ok-text.ensures ∙ ap (λ (l : List ℕ). l ++ codes " exhausted.\n") c.in_ok-out.ensures ∙ sym (append_assoc domain (codes " exhausted.") (10 ∷ []))
