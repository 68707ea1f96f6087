use Rattle.std.proofs.Common.{append_assoc}
use Rattle.proof_print.proofs.texts.head.Goals as goal

pub returns : goal.returns
returns c =
    rw (c.in_ok-extend_from_slice.ensures.items, c.in_ok-numbered-5.ensures, c.in_ok-numbered-4.ensures, c.in_ok-numbered-3.ensures, c.in_ok-numbered-2.ensures, c.in_ok-numbered.ensures)
    (simp append_assoc)
