-- The terms have nodes.
use Rattle.std.proofs.Common.{[], ◌∷◌, refl}
use Rattle.fol_core.specs.Substitutions.{substitute}
use Rattle.fol_core.specs.TermView.{tree_of}
use Rattle.substitutions.specs.Apart.{interleaved}
use Rattle.term_unifiers.proofs.Unified.{AreReady, are_ready, entered_left, entered_right}
use Rattle.term_unifiers.proofs.apart.entered_apart.Goals as goal

pub enter-requires-clause-lefts : goal.enter-requires-clause-lefts
enter-requires-clause-lefts c =
    let left = substitute (interleaved 2 0) (tree_of c.args.s.now) ∷ [] in
    let right = substitute (interleaved 2 1) (tree_of c.args.t.now) ∷ [] in
    let ready : AreReady c.put_apart-2.new.arena c.put_apart.new.numbers.items c.put_apart-2.new.numbers.items (substitute (interleaved 2 0) (tree_of c.args.s.now) ∷ []) (substitute (interleaved 2 1) (tree_of c.args.t.now) ∷ []) =
    are_ready c.in_ok-arena.arena c.put_apart.new.arena c.put_apart-2.new.arena c.in_ok-left_nodes.left_nodes.items c.in_ok-right_nodes.right_nodes.items c.put_apart.new.numbers.items c.put_apart-2.new.numbers.items left right left right
    c.in_ok-left_nodes.ensures.items c.in_ok-right_nodes.ensures.items refl refl c.in_ok-put_apart.ensures c.in_ok-put_apart-2.ensures in
    ready.lefts

pub returns-clause-left : goal.returns-clause-left
returns-clause-left c =
    let left = substitute (interleaved 2 0) (tree_of c.args.s.now) ∷ [] in
    let right = substitute (interleaved 2 1) (tree_of c.args.t.now) ∷ [] in
    let ready : AreReady c.put_apart-2.new.arena c.put_apart.new.numbers.items c.put_apart-2.new.numbers.items (substitute (interleaved 2 0) (tree_of c.args.s.now) ∷ []) (substitute (interleaved 2 1) (tree_of c.args.t.now) ∷ []) =
    are_ready c.in_ok-arena.arena c.put_apart.new.arena c.put_apart-2.new.arena c.in_ok-left_nodes.left_nodes.items c.in_ok-right_nodes.right_nodes.items c.put_apart.new.numbers.items c.put_apart-2.new.numbers.items left right left right
    c.in_ok-left_nodes.ensures.items c.in_ok-right_nodes.ensures.items refl refl c.in_ok-put_apart.ensures c.in_ok-put_apart-2.ensures in
    entered_left c.enter.result c.put_apart-2.new.arena c.put_apart.new.numbers.items c.put_apart-2.new.numbers.items left right ready c.enter.ensures.arena c.enter.ensures.lefts c.enter.ensures.rights

pub returns-clause-right : goal.returns-clause-right
returns-clause-right c =
    let left = substitute (interleaved 2 0) (tree_of c.args.s.now) ∷ [] in
    let right = substitute (interleaved 2 1) (tree_of c.args.t.now) ∷ [] in
    let ready : AreReady c.put_apart-2.new.arena c.put_apart.new.numbers.items c.put_apart-2.new.numbers.items (substitute (interleaved 2 0) (tree_of c.args.s.now) ∷ []) (substitute (interleaved 2 1) (tree_of c.args.t.now) ∷ []) =
    are_ready c.in_ok-arena.arena c.put_apart.new.arena c.put_apart-2.new.arena c.in_ok-left_nodes.left_nodes.items c.in_ok-right_nodes.right_nodes.items c.put_apart.new.numbers.items c.put_apart-2.new.numbers.items left right left right
    c.in_ok-left_nodes.ensures.items c.in_ok-right_nodes.ensures.items refl refl c.in_ok-put_apart.ensures c.in_ok-put_apart-2.ensures in
    entered_right c.enter.result c.put_apart-2.new.arena c.put_apart.new.numbers.items c.put_apart-2.new.numbers.items left right ready c.enter.ensures.arena c.enter.ensures.lefts c.enter.ensures.rights
