-- Each node is a class of its own, and there are as many arguments as the nodes have.
use Rattle.std.proofs.Common.{◌≡◌, subst, ap, length, arith}
use Rattle.std.proofs.lemmas.List.{length-map}
use Rattle.term_unifiers.specs.Arenas.{shape_of, shapes_of}
use Rattle.term_unifiers.specs.Merging.{Merging, CountsUp}
use Rattle.term_unifiers.proofs.Rooms.{begun_room}
use Rattle.term_unifiers.proofs.room.begin.Goals as goal

pub returns : goal.returns
returns c =
    let many = length-map c.args.arena.now.nodes.items (shape_of c.args.arena.now.arguments.items) in
    let count : c.len-count.result ≡ length (shapes_of c.args.arena.now) = omega (arith, c.len-count.ensures, c.args.arena.now.nodes.ok.0, many) in
    let m : Merging = record { links = c.in_ok-links.links.items; schemas = c.in_ok-schemas.schemas.items; lefts = c.reserve.new.self.items; rights = c.reserve-2.new.self.items } in
    let links : CountsUp c.in_ok-links.links.items (length (shapes_of c.args.arena.now)) = subst (CountsUp c.in_ok-links.links.items) count c.in_ok-links.ensures in
    let schemas : CountsUp c.in_ok-schemas.schemas.items (length (shapes_of c.args.arena.now)) = subst (CountsUp c.in_ok-schemas.schemas.items) count c.in_ok-schemas.ensures in
    let most = begun_room (shapes_of c.args.arena.now) m links schemas in
    let left : length c.reserve.new.self.items ≡ length c.args.lefts.items = ap length c.in_ok-reserve.ensures.items in
    record {
      links = links;
      schemas = schemas;
      lefts = c.in_ok-reserve.ensures.items;
      rights = c.in_ok-reserve-2.ensures.items;
      room = λ even. record {
        lefts = omega (arith, most, left, c.requires.few, c.len-most.ensures, c.args.arena.now.arguments.ok.0, c.in_ok-reserve.ensures.ok, c.in_ok-reserve.ensures.len, c.args.lefts.ok.0);
        rights = omega (arith, most, left, even, c.requires.few, c.len-most.ensures, c.args.arena.now.arguments.ok.0, c.in_ok-reserve-2.ensures.ok, c.in_ok-reserve-2.ensures.len, c.args.rights.ok.0);
      };
    }
