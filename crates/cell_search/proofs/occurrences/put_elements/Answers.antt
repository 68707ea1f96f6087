use Rattle.std.proofs.Common.{◌≡◌, ℕ, ◌+◌, ◌-◌, ◌*◌, ◌/◌, ◌%◌, ◌^◌, ◌<◌, List, length, drop, set, take, sym, ap, ap₂, ◌∙◌, subst, arith}
use Rattle.std.proofs.lemmas.List.{length-set}
use Rattle.std.proofs.Math.Nat.{mod-lt}
use Rattle.model_tables.specs.Size.{AllBelow}
use Rattle.model_tables.specs.Tables.{place_from}
use Rattle.cell_search.proofs.Counted.{place_more, place_whole}
use Rattle.cell_search.proofs.Pursuing.{below_set}
use Rattle.cell_search.proofs.occurrences.put_elements.Goals as goal

pub loop-step-preserved : goal.loop-step-preserved
loop-step-preserved c =
    let n = c.args.size in
    let v = c.args.variables in
    let k = c.loop-step.step in
    let rest = c.loop-step.rest in
    let env = c.loop-step.env in
    let inv = c.loop-step.invariant in
    let first : c.from.result ≡ n = c.from.ensures in
    let second : c.from-rest.result ≡ n = c.from-rest.ensures in
    let x : ℕ = rest % c.from.result in
    let small : x < n = subst (λ (d : ℕ). rest % d < n) (sym first) (let low : rest % n < n = mod-lt rest c.requires.some in low) in
    record {
      many = length-set env (v - 1 - k) x ∙ inv.many;
      below = below_set n env (v - 1 - k) x inv.below small;
      place =
          ap₂ (λ (a b : ℕ). rest / a * n ^ (k + 1) + place_from n 0 (take (k + 1) (drop (v - (k + 1)) (set env (v - 1 - k) (rest % b))))) second first
          ∙ place_more n rest v k c.args.number env c.loop-step-test.true (let fits = c.requires.variables in let many = inv.many in omega (arith, fits, many)) inv.place;
    }

pub returns-clause-place : goal.returns-clause-place
returns-clause-place c =
    let v = c.args.variables in
    let end : c.loop-step.step ≡ v = omega (arith, c.loop-step-test.false, c.loop-step.auto.step-end) in
    place_whole c.args.size c.loop-step.rest v c.args.number c.loop-step.env c.requires.number
    (subst (λ (k : ℕ). c.loop-step.rest * c.args.size ^ k + place_from c.args.size 0 (take k (drop (v - k) c.loop-step.env)) ≡ c.args.number) end c.loop-step.invariant.place)
