use Rattle.std.proofs.Common.{sym, ap, ◌∙◌}
use Rattle.std.specs.Option.{option_map}
use Rattle.given_clause.specs.Guides.{setting_of}
use Rattle.given_clause.specs.States.{state_of}
use Rattle.given_clause.specs.Turns.{pick_of}
use Rattle.given_clause.proofs.Stepped.{not_in_use}
use Rattle.given_clause.proofs.giving.give_next.Goals as goal

pub give-requires : goal.give-requires
give-requires c =
    let st = setting_of c.args.guide.now in
    let s = state_of c.args.search.now in
    not_in_use s c.in_ok-given.given c.in-Some.pick.held.now c.requires.ordered
    (c.steps_keep_order.ensures.picking st.options st.weight st.is_hinted s.waiting s.turn (pick_of c.in-Some.pick)
    (sym c.picked.ensures ∙ ap (option_map pick_of) c.in-Some.is))
    c.in_ok-given.ensures
