-- A term's nodes fall with each call, and between calls on the same terms the rank does. The text so far and that of the
-- arguments to come is that of all.
use Rattle.std.proofs.Common.{◌≡◌, ◌++◌, ◌+◌, ◌*◌, drop}
use Rattle.fol_core.specs.RawTree.{raw_nodes, raw_nodes_of, raws_of}
use Rattle.fol_core.specs.RawView.{raw_of, raw_list}
use Rattle.ladr_print.specs.RawText.{further, printed_all}
use Rattle.ladr_reader.specs.Table.{table_of}
use Rattle.ladr_print.proofs.raw.+text.Given as goal

abbrev pub decreases-write : goal.decreases-write
decreases-write l = 4 * raw_nodes (raw_of l.raw.now)

abbrev pub decreases-argument : goal.decreases-argument
decreases-argument l = 4 * raw_nodes (raw_of l.raw.now) + 1

abbrev pub decreases-unary : goal.decreases-unary
decreases-unary l = 4 * raw_nodes (raw_of l.raw.now) + 2

abbrev pub decreases-binary : goal.decreases-binary
decreases-binary l = 4 * (raw_nodes (raw_of l.left.now) + raw_nodes (raw_of l.right.now)) + 2

abbrev pub decreases-further : goal.decreases-further
decreases-further l = 4 * raw_nodes_of (raws_of (raw_list l.raws.now)) + 1

abbrev pub decreases-application : goal.decreases-application
decreases-application l = 4 * raw_nodes_of (raws_of (raw_list l.args.now)) + 2

abbrev pub decreases-arranged : goal.decreases-arranged
decreases-arranged l = 4 * raw_nodes_of (raws_of (raw_list l.args.now)) + 3

abbrev pub invariant-further-loop-raw : goal.invariant-further-loop-raw
invariant-further-loop-raw l = l.out.items ++ further (printed_all (table_of l.ops) (raws_of (raw_list (drop l.raw-index l.raws)))) ≡ l.fn.out.items ++ further (printed_all (table_of l.ops) (raws_of (raw_list l.raws)))
