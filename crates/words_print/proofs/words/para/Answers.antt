use Rattle.std.proofs.Common.{ℕ, List, ◌++◌, ◌∷◌, [], ap, ◌∙◌}
use Rattle.ladr_lex.specs.Lexeme.{comma}
use Rattle.words_print.specs.WordTokens.{number_token, literal_token, in_parens, subterm_tokens, joint_text}
use Rattle.words_print.proofs.Joints.{para_text}
use Rattle.words_print.proofs.words.para.Goals as goal

pub returns : goal.returns
returns c =
    let step = c.args.step.now in
    para_text _ _ _ _ _ _ (number_token step.from ∷ in_parens (literal_token step.equation ∷ comma ∷ number_token step.side ∷ []))
    (subterm_tokens step.into step.literal step.path.items) c.in_ok-extend_from_slice.ensures.items c.in_ok-equation_side.ensures c.in_ok-extend_from_slice-2.ensures.items
    (c.in_ok-subterm.ensures ∙ ap (λ (p : List ℕ). c.extend_from_slice-2.new.self.items ++ joint_text (subterm_tokens step.into step.literal p)) c.deref.ensures.value)
    c.in_ok-extend_from_slice-3.ensures.items
