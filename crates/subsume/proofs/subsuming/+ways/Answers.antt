-- There is room for the next literal's variables; where it is matched the others decide.
use Rattle.std.proofs.Common.{sym, ◌∙◌, length, vec_len, arith}
use Rattle.subsume.proofs.Literals.{room_one, room_rest, goes_found, goes_nowhere}
use Rattle.subsume.proofs.subsuming.+ways.Goals.{goes_on-then-match_literal+else-completes, goes_on-else-match_literal}
use Rattle.subsume.proofs.subsuming.+ways.Goals as goal

pub goes_on-match_literal-requires : goal.goes_on-match_literal-requires
goes_on-match_literal-requires t c =
    room_one c.args.literals.now c.len-next.result (vec_len c.args.places.now) c.index-literals-next.result (length c.args.found.now.bindings) c.args.found.now.room
    c.len-next.ensures (omega (arith, c.len-next.ensures, c.requires.next)) c.index-literals-next.is c.requires.room.terms

pub goes_on-completes-requires : goal.goes_on-completes-requires
goes_on-completes-requires t c = (
  omega (arith, c.decreases, c.requires.next, c.push_reserved.ensures.len),
  record {
    places = omega (arith, c.requires.room.places, c.push_reserved.ensures.capacity);
    terms = omega (
      arith,
      c.match_literal.ensures.room,
      room_rest c.args.literals.now c.len-next.result (vec_len c.args.places.now) (vec_len c.push_reserved.new.self) c.index-literals-next.result (length c.args.found.now.bindings) (length c.match_literal.new.found.bindings) c.args.found.now.room
          c.len-next.ensures (omega (arith, c.push_reserved.ensures.len, c.len-next.ensures)) (omega (arith, c.len-next.ensures, c.requires.next)) c.index-literals-next.is c.requires.room.terms c.match_literal.ensures.few,
    );
  },
)

pub goes_on-returns-then-completes-clause-goes_on : goal.goes_on-returns-then-completes-clause-goes_on
goes_on-returns-then-completes-clause-goes_on t c =
    goes_found c.args.literals.now c.args.others.now c.args.found.now.bindings c.args.places.now.items c.len-next.result c.args.place c.index-literals-next.result c.index-others-place.result
    (omega (arith, c.len-next.ensures, c.args.places.now.ok.0)) (omega (arith, c.len-next.ensures, c.requires.next)) c.requires.place c.index-literals-next.is c.index-others-place.is
    _ c.match_literal.new.found.bindings c.push_reserved.new.self.items c.if-match_literal.ensures.matches c.push_reserved.ensures.items (sym c.if-completes.true ∙ c.completes.ensures.completes)

pub goes_on-returns-clause-goes_on : goal.goes_on-returns-clause-goes_on
goes_on-returns-clause-goes_on t c =
    elim c.if-match_literal.branch [
      | goes_on-then-match_literal+else-completes w ↦
          goes_found c.args.literals.now c.args.others.now c.args.found.now.bindings c.args.places.now.items c.len-next.result c.args.place c.index-literals-next.result c.index-others-place.result
          (omega (arith, c.len-next.ensures, c.args.places.now.ok.0)) (omega (arith, c.len-next.ensures, c.requires.next)) c.requires.place c.index-literals-next.is c.index-others-place.is
          _ c.match_literal.new.found.bindings w.push_reserved.new.self.items w.if-match_literal.ensures.matches w.push_reserved.ensures.items (sym w.if-completes.false ∙ w.completes.ensures.completes)
      | goes_on-else-match_literal w ↦
          goes_nowhere c.args.literals.now c.args.others.now c.args.found.now.bindings c.args.places.now.items c.len-next.result c.args.place c.index-literals-next.result c.index-others-place.result
          (omega (arith, c.len-next.ensures, c.args.places.now.ok.0)) (omega (arith, c.len-next.ensures, c.requires.next)) c.requires.place c.index-literals-next.is c.index-others-place.is
          c.match_literal.new.found.bindings w.if-match_literal.ensures.matches
    ]
