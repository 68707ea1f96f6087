use Rattle.std.proofs.Common.{◌==◌, not, filter, map, ap, subst, sym, ◌∙◌}
use Rattle.std.proofs.lemmas.List.{length-map}
use Rattle.given_clause.specs.Guides.{setting_of}
use Rattle.given_clause.specs.States.{entry_of, state_of}
use Rattle.prover_steps.specs.Clashing.{Held}
use Rattle.prover_steps.specs.HeldOrder.{numbers_of, IsNoneOf}
use Rattle.prover_steps.specs.Searching.{put_in, counted_on}
use Rattle.resolution.specs.View.{conclusion_of}
use Rattle.given_clause.proofs.Stepped.{gives_by}
use Rattle.given_clause.proofs.giving.give.Goals as goal

pub returns-clause-state : goal.returns-clause-state
returns-clause-state c =
    let guide = c.args.guide.now in
    let s = c.args.search.now in
    let new = c.in_ok-new.new in
    gives_by (setting_of guide) (state_of s) c.args.given c.leave_out_one.new.self.held c.put_in.new.self (map entry_of c.in_ok-search-2.field-0.items) c.in_ok-search.field-0 c.counted_on-search.result
    (map conclusion_of new.items)
    (c.in_ok-put_in.ensures.ok ∙ ap (λ h. put_in h s.usable) c.in_ok-copy.ensures)
    (c.leave_out_one.ensures.held ∙ ap (λ n. filter (λ h. not (h.number == n)) s.waiting.held) c.number-number.ensures)
    c.in_ok-new.ensures
    c.in_ok-search-2.ensures.entries
    c.in_ok-search.ensures
    (c.counted_on-search.ensures ∙ ap (counted_on s.generated) (c.len.ensures ∙ new.ok.0 ∙ sym (length-map new.items conclusion_of)))

pub put_in-requires : goal.put_in-requires
put_in-requires c =
    subst (λ (h : Held). IsNoneOf h.number (numbers_of c.args.search.now.usable)) (sym c.in_ok-copy.ensures) c.requires
