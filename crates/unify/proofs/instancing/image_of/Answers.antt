-- An image of this node.
use Rattle.unify.proofs.Becoming.{found_image}
use Rattle.unify.proofs.instancing.image_of.Goals as goal

pub returns-then-same : goal.returns-then-same
returns-then-same c = found_image c.deref-image-items.result.now c.args.images.now.items c.loop-image.image-index c.args.node _ c.deref-image-items.ensures.value c.loop-image-test.true c.if-same.ensures
