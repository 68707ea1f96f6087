-- A number more.
use Rattle.std.proofs.Common.{◌≡◌, ◌+◌, sym, subst, arith}
use Rattle.term_unifiers.specs.Merging.{CountsUp}
use Rattle.term_unifiers.proofs.Links.{apart_next, apart_none}
use Rattle.term_unifiers.proofs.linking.apart.Goals as goal

pub loop-n-init : goal.loop-n-init
loop-n-init c = record {
  first = apart_none c.in_ok-numbers.numbers.items c.in_ok-numbers.ensures.items;
  room = c.in_ok-numbers.ensures.capacity;
}

pub push_reserved-requires : goal.push_reserved-requires
push_reserved-requires c =
    omega (arith, c.loop-n.invariant.first.as_many, c.loop-n.invariant.room, c.loop-n.numbers.ok.0, c.loop-n-test.true)

pub loop-n-preserved : goal.loop-n-preserved
loop-n-preserved c = record {
  first = subst (λ l. CountsUp l (c.loop-n.n + 1)) (sym c.push_reserved.ensures.items) (apart_next c.loop-n.numbers.items c.loop-n.n c.loop-n.invariant.first);
  room = omega (arith, c.loop-n.invariant.room, c.push_reserved.ensures.capacity);
}

pub returns : goal.returns
returns c = let all : c.loop-n.n ≡ c.args.count = omega arith in subst (CountsUp c.loop-n.numbers.items) all c.loop-n.invariant.first
