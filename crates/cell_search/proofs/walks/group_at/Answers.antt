use Rattle.std.proofs.Common.{◌≡◌, ℕ, List, map, get_or, inl, inr, sym, ap, ◌∙◌, arith}
use Rattle.std.proofs.lemmas.Bool.{cases_lt}
use Rattle.std.proofs.lemmas.List.{get_or-map, length-map}
use Rattle.cell_search.proofs.Grouping.{among_index}
use Rattle.cell_search.specs.declared.walk.Group.{Group}
use Rattle.cell_search.proofs.walks.group_at.Goals as goal

pub loop-at-preserved : goal.loop-at-preserved
loop-at-preserved c = λ k less same.
    let firsts : List ℕ = map (λ (g : Group). g.first) c.args.groups.now in
    let here : get_or firsts c.loop-at.at 0 ≡ c.index-groups-at.result.first =
    get_or-map (λ (g : Group). g.first) c.args.groups.now c.loop-at.at c.index-groups-at.result 0 c.loop-at-test.true ∙ ap (λ (g : Group). g.first) (sym c.index-groups-at.is) in
    elim (cases_lt k c.loop-at.at) [
      | inl earlier ↦ c.loop-at.invariant k earlier same
      | inr now ↦
          let at : k ≡ c.loop-at.at = omega (arith, less, now) in
          let e : c.index-groups-at.result.first ≡ c.args.first = sym here ∙ ap (λ (n : ℕ). get_or firsts n 0) (sym at) ∙ same in
          omega (arith, e, c.if-group-first.false)
    ]

pub returns : goal.returns
returns c = λ i.
    let r = among_index c.args.first (map (λ (g : Group). g.first) c.args.groups.now) i in
    let many = length-map c.args.groups.now (λ (g : Group). g.first) in
    let less = r.1.0 in
    c.loop-at.invariant r.0 (omega (arith, less, many, c.loop-at-test.false)) r.1.1
