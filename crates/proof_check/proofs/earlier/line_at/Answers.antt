use Rattle.std.proofs.Common.{sym, subst, rules}
use Rattle.std.proofs.lemmas.List.Sorted.{answers_always}
use Rattle.derivation.specs.declared.line.Line.{Line}
use Rattle.proof_check.proofs.EarlierSteps.{Searched, searched}
use Rattle.proof_check.proofs.earlier.line_at.Goals as goal

pub returns-in-Ok : goal.returns-in-Ok
returns-in-Ok c =
    let ls = c.args.earlier.now in
    let facts = c.binary_search_by_key.ensures in
    let by_number = facts.position (λ (l : Line). l.number) (answers_always _ _ _ (λ f a r g called. search rules)) in
    let found = subst (Searched ls c.args.number) c.in-Ok.is (searched ls c.args.number c.binary_search_by_key.result c.requires facts.bound by_number) in
    sym (found c.index-earlier-place.result c.index-earlier-place.is)

pub returns-in-Err : goal.returns-in-Err
returns-in-Err c =
    let ls = c.args.earlier.now in
    let facts = c.binary_search_by_key.ensures in
    let by_number = facts.position (λ (l : Line). l.number) (answers_always _ _ _ (λ f a r g called. search rules)) in
    let found = subst (Searched ls c.args.number) c.in-Err.is (searched ls c.args.number c.binary_search_by_key.result c.requires facts.bound by_number) in
    sym found
