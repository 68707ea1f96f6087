use Rattle.std.proofs.Common.{◌≡◌, ◌==◌, ◌∙◌, ap, not, rules, tests, ℕ}
use Rattle.std.specs.List.{filter}
use Rattle.std.proofs.lemmas.Fn.{filter_same}
use Rattle.discrim_tree.specs.Contents.{numbers_of}
use Rattle.discrim_tree.proofs.contents.Form.forget.Goals as goal

pub returns-in-Lists-clause-numbers : goal.returns-in-Lists-clause-numbers
returns-in-Lists-clause-numbers c =
    let old : c.deref_mut.result.now.numbers.items ≡ numbers_of c.args.self.now = cc (ap numbers_of c.in-Lists.is, c.deref_mut.ensures.value) in
    filter_same _ (λ (k : ℕ). not (k == c.args.number)) _ (λ x b f r. search (rules, tests)) c.deref_mut.result.now.numbers.items c.retain.new.self.items c.retain.ensures.filtered
    ∙ ap (filter (λ (k : ℕ). not (k == c.args.number))) old
