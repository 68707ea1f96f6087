use Rattle.std.proofs.Common.{◌≡◌, ℕ, ◌<◌, List, length, map, get_or, set, Option, Some, refl, sym, ap, ◌∙◌, subst, arith}
use Rattle.std.specs.Option.{option_map}
use Rattle.std.proofs.lemmas.List.{get_or-map}
use Rattle.std.proofs.lemmas.Option.{same_Some}
use Rattle.mace_ground.specs.Cells.{Block, found}
use Rattle.mace_ground.specs.Spans.{span_of}
use Rattle.mace_ground.specs.declared.blocks.Span.{Span}
use Rattle.plain_search.specs.Lefts.{IsAmong}
use Rattle.cell_search.proofs.Grouping.{first_there, pushed, pushed_has}
use Rattle.cell_search.specs.Ways.{firsts_of}
use Rattle.cell_search.specs.declared.walk.Group.{Group}
use Rattle.cell_search.proofs.walks.add_occurrence.Goals as goal

pub returns-in_ok-push-clause-grow : goal.returns-in_ok-push-clause-grow
returns-in_ok-push-clause-grow c =
    let gs = c.args.groups.now.items in
    let at = c.in-Some-group_at.at in
    let g = c.index_mut.result.now in
    let h : Group = record { first = g.first; walks = c.push.new.self } in
    let inside : at < length gs = omega (arith, c.if-at-len.true, c.len.ensures) in
    pushed gs (set gs at h) at g h c.in_ok-walk.walk inside c.index_mut.ensures.value refl refl c.in_ok-push.ensures.items

pub returns-in_ok-push-clause-walk : goal.returns-in_ok-push-clause-walk
returns-in_ok-push-clause-walk c = λ are first b is.
    let gs = c.args.groups.now.items in
    let at = c.in-Some-group_at.at in
    let g = c.index_mut.result.now in
    let h : Group = record { first = g.first; walks = c.push.new.self } in
    let inside : at < length gs = omega (arith, c.if-at-len.true, c.len.ensures) in
    let there : g ≡ get_or gs at g = c.index_mut.ensures.value in
    let spans : Some (span_of c.in-Some.span) ≡ Some (first, b) = sym (ap (λ (o : Option Span). option_map span_of o) c.in-Some.is) ∙ c.find.ensures ∙ is in
    let same : c.in-Some.span.first ≡ first = ap (λ (q : ℕ × Block). q.0) (same_Some _ _ spans) in
    let begins : g.first ≡ first =
    ap (λ (u : Group). u.first) there ∙ sym (get_or-map (λ (u : Group). u.first) gs at g 0 inside) ∙ sym (ap (λ (us : List Group). get_or (map (λ (u : Group). u.first) us) at 0) c.deref.ensures.value)
    ∙ c.in-Some-group_at.ensures.1 ∙ same in
    pushed_has gs (set gs at h) at g h c.in_ok-walk.walk inside there refl refl c.in_ok-push.ensures.items c.args.setup.now.size first c.args.clause c.args.variables c.args.kind c.args.symbol.0 _ begins
    c.in_ok-walk.ensures

pub returns-in_default-group_at-clause-walk : goal.returns-in_default-group_at-clause-walk
returns-in_default-group_at-clause-walk c = λ are first b is.
    let w = c.args.setup.now in
    let spans : Some (span_of c.in-Some.span) ≡ Some (first, b) = sym (ap (λ (o : Option Span). option_map span_of o) c.in-Some.is) ∙ c.find.ensures ∙ is in
    let same : c.in-Some.span.first ≡ first = ap (λ (q : ℕ × Block). q.0) (same_Some _ _ spans) in
    let there : IsAmong first (firsts_of (found w.size w.blocks) w.blocks) = first_there w.size 0 (found w.size w.blocks) w.blocks c.args.symbol.0 first b is is in
    absurd (c.in_default-group_at.ensures (subst (λ (us : List Group). IsAmong c.in-Some.span.first (map (λ (u : Group). u.first) us)) (sym c.deref.ensures.value)
    (subst (λ (ks : List ℕ). IsAmong c.in-Some.span.first ks) (sym are) (subst (λ (k : ℕ). IsAmong k (firsts_of (found w.size w.blocks) w.blocks)) (sym same) there))))
