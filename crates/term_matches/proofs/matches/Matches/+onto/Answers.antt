-- An argument more is matched, or it is missed, or there is no room for its variables.
use Rattle.std.proofs.Common.{◌∙◌, ◌+◌, ◌<◌, ap, ap₂, length, arith}
use Rattle.fol_core.specs.TermView.{tree_list}
use Rattle.fol_core.specs.Tree.{nodes_of, trees_of}
use Rattle.term_matches.proofs.MatchSteps.{match_step, match_short}
use Rattle.term_matches.specs.Occurrences.{met_all}
use Rattle.term_matches.proofs.Counting.{few_next, few_all, full_next}
use Rattle.term_matches.proofs.Fronts.{front_more}
use Rattle.term_matches.proofs.Arguments.{argument_nodes}
use Rattle.term_matches.proofs.matches.Matches.+onto.Goals as goal

pub try_all-returns-then-i-len-clause-few : goal.try_all-returns-then-i-len-clause-few
try_all-returns-then-i-len-clause-few t c =
    let whole = ap₂ met_all (ap (λ ts. trees_of (tree_list ts)) c.deref-general-items.ensures.value ∙ ap (λ ts. trees_of ts) c.generals.view_is) (ap (λ ts. trees_of ts) c.specials.view_is) in
    let few = few_all c.deref-general-items.result.now c.specials.inside.items.items c.loop-i.i (length c.args.self.now.bindings) (length c.loop-i.self.bindings) c.loop-i.invariant.few in
    omega (arith, whole, few)

pub try_all-returns-then-len-clause-few : goal.try_all-returns-then-len-clause-few
try_all-returns-then-len-clause-few t c =
    let whole = ap₂ met_all (ap (λ ts. trees_of (tree_list ts)) c.deref-general-items.ensures.value ∙ ap (λ ts. trees_of ts) c.generals.view_is) (ap (λ ts. trees_of ts) c.specials.view_is) in
    let few = few_all c.deref-general-items.result.now c.specials.inside.items.items c.loop-i.i (length c.args.self.now.bindings) (length c.loop-i.self.bindings) c.loop-i.invariant.few in
    omega (arith, whole, few)

pub try_all-returns-in-Missed-clause-few : goal.try_all-returns-in-Missed-clause-few
try_all-returns-in-Missed-clause-few t c =
    let whole = ap₂ met_all (ap (λ ts. trees_of (tree_list ts)) c.deref-general-items.ensures.value ∙ ap (λ ts. trees_of ts) c.generals.view_is) (ap (λ ts. trees_of ts) c.specials.view_is) in
    let inside : c.loop-i.i < length c.specials.inside.items.items = omega (arith, c.if-i-len.false, c.len.ensures) in
    let next = few_next c.deref-general-items.result.now c.specials.inside.items.items c.loop-i.i c.general-item.result c.index.result.now (length c.args.self.now.bindings) (length c.loop-i.self.bindings) (length c.try_part.new.self.bindings)
    c.loop-i-test.true inside c.general-item.is c.index.ensures c.loop-i.invariant.few c.try_part.ensures.few in
    let few = few_all c.deref-general-items.result.now c.specials.inside.items.items (c.loop-i.i + 1) (length c.args.self.now.bindings) (length c.try_part.new.self.bindings) next in
    omega (arith, whole, few)

pub try_all-returns-in-Full-clause-few : goal.try_all-returns-in-Full-clause-few
try_all-returns-in-Full-clause-few t c =
    let whole = ap₂ met_all (ap (λ ts. trees_of (tree_list ts)) c.deref-general-items.ensures.value ∙ ap (λ ts. trees_of ts) c.generals.view_is) (ap (λ ts. trees_of ts) c.specials.view_is) in
    let inside : c.loop-i.i < length c.specials.inside.items.items = omega (arith, c.if-i-len.false, c.len.ensures) in
    let next = few_next c.deref-general-items.result.now c.specials.inside.items.items c.loop-i.i c.general-item.result c.index.result.now (length c.args.self.now.bindings) (length c.loop-i.self.bindings) (length c.try_part.new.self.bindings)
    c.loop-i-test.true inside c.general-item.is c.index.ensures c.loop-i.invariant.few c.try_part.ensures.few in
    let few = few_all c.deref-general-items.result.now c.specials.inside.items.items (c.loop-i.i + 1) (length c.args.self.now.bindings) (length c.try_part.new.self.bindings) next in
    omega (arith, whole, few)

pub try_all-returns-in-Full-clause-full : goal.try_all-returns-in-Full-clause-full
try_all-returns-in-Full-clause-full t c e =
    let whole = ap₂ met_all (ap (λ ts. trees_of (tree_list ts)) c.deref-general-items.ensures.value ∙ ap (λ ts. trees_of ts) c.generals.view_is) (ap (λ ts. trees_of ts) c.specials.view_is) in
    let inside : c.loop-i.i < length c.specials.inside.items.items = omega (arith, c.if-i-len.false, c.len.ensures) in
    let full = full_next c.deref-general-items.result.now c.specials.inside.items.items c.loop-i.i c.general-item.result c.index.result.now (length c.args.self.now.bindings) (length c.loop-i.self.bindings) c.loop-i.self.room
    c.loop-i-test.true inside c.general-item.is c.index.ensures c.loop-i.invariant.few (c.try_part.ensures.full c.in-Full.is) in
    omega (arith, whole, full, c.loop-i.invariant.room)

pub try_all-loop-i-preserved : goal.try_all-loop-i-preserved
try_all-loop-i-preserved t c =
    let inside : c.loop-i.i < length c.specials.inside.items.items = omega (arith, c.if-i-len.false, c.len.ensures) in
    record {
      decides = c.loop-i.invariant.decides
          ∙ match_step c.deref-general-items.result.now c.specials.inside.items.items c.loop-i.i c.general-item.result c.index.result.now c.loop-i.self.bindings c.try_part.new.self.bindings c.loop-i-test.true inside c.general-item.is c.index.ensures c.in-Found.ensures.tried.is;
      front = front_more c.args.self.now.bindings c.loop-i.self.bindings c.try_part.new.self.bindings c.loop-i.invariant.front c.in-Found.ensures.tried.front;
      few = few_next c.deref-general-items.result.now c.specials.inside.items.items c.loop-i.i c.general-item.result c.index.result.now (length c.args.self.now.bindings) (length c.loop-i.self.bindings) (length c.try_part.new.self.bindings)
          c.loop-i-test.true inside c.general-item.is c.index.ensures c.loop-i.invariant.few c.try_part.ensures.few;
      room = c.try_part.ensures.room ∙ c.loop-i.invariant.room;
    }

pub try_all-returns-then-len-clause-tried : goal.try_all-returns-then-len-clause-tried
try_all-returns-then-len-clause-tried t c = record { is = grind (arith, match_short, c.loop-i.invariant.decides); front = c.loop-i.invariant.front }

pub try_all-try_part-requires : goal.try_all-try_part-requires
try_all-try_part-requires t c =
    let least = argument_nodes c.deref-general-items.result.now c.loop-i.i c.general-item.result c.loop-i-test.true c.general-item.is in
    let size = ap (λ ts. nodes_of (trees_of (tree_list ts))) c.deref-general-items.ensures.value ∙ ap (λ ts. nodes_of (trees_of ts)) c.generals.view_is in
    (omega (arith, least, size, c.decreases), tt)
