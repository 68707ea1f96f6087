use Rattle.std.proofs.Common.{◌≡◌, ℕ, List, subst, IfOk}
use Rattle.proof_text.proofs.TokenPlaces.{shown_there, banner_past, end_past}
use Rattle.proof_text.proofs.refusing.token_name.Goals as goal

pub returns-in-Some : goal.returns-in-Some
returns-in-Some c =
    let found = c.in-Some.ensures.lookup in
    let there = shown_there c.args.block.now.closed c.args.tokens.now c.args.k c.in-Some.token.now found.3.0 found.1 in
    subst (λ (text : List ℕ). IfOk c.shown.result (λ name. name ≡ text)) there c.shown.ensures

pub returns-in-None : goal.returns-in-None
returns-in-None c =
    let past = banner_past c.args.block.now.closed c.args.tokens.now c.args.k c.if-block.true c.in-None.ensures.lookup.3 in
    subst (λ (text : List ℕ). IfOk c.from_slice.result (λ name. name ≡ text)) past c.from_slice.ensures

pub returns-in-None-2 : goal.returns-in-None-2
returns-in-None-2 c =
    let past = end_past c.args.block.now.closed c.args.tokens.now c.args.k c.if-block.false c.in-None.ensures.lookup.3 in
    subst (λ (text : List ℕ). IfOk c.from_slice-in-None-2.result (λ name. name ≡ text)) past c.from_slice-in-None-2.ensures
