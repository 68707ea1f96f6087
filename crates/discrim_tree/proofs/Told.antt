-- Entries of which is told what their variables do.
use Rattle.std.proofs.Common.{◌≡◌, ℕ, zero, suc, ◌<◌, sym, subst, List, [], ◌∷◌, ◌++◌, take, drop, length, get_or, arith}
use Rattle.discrim_tree.specs.Linear.{AreTold, IsTold}
use Rattle.discrim_tree.specs.declared.entry.IndexEntry.{IndexEntry}

pub told_at : (es : List IndexEntry) (k : ℕ) (d : IndexEntry) → AreTold es → k < length es → IsTold (get_or es k d).tree (get_or es k d).told
told_at [] k d so h = absurd (omega (arith, h))
told_at (e ∷ es) zero d so h = so.0
told_at (e ∷ es) (suc k) d so h = told_at es k d so.1 (omega (arith, h))

one_more : (k : ℕ) (e : IndexEntry) (es : List IndexEntry) → IsTold e.tree e.told → AreTold es → AreTold (take k es ++ e ∷ drop k es)
one_more zero e [] is so = (is, tt)
one_more (suc k) e [] is so = (is, tt)
one_more zero e (d ∷ ds) is so = (is, so)
one_more (suc k) e (d ∷ ds) is so = (so.0, one_more k e ds is so.1)

pub told_placed : (es placed : List IndexEntry) (k : ℕ) (e : IndexEntry) → placed ≡ take k es ++ e ∷ drop k es → IsTold e.tree e.told → AreTold es → AreTold placed
told_placed es placed k e is tells so = subst AreTold (sym is) (one_more k e es tells so)

one_less : (k : ℕ) (es : List IndexEntry) → AreTold es → AreTold (take k es ++ drop (suc k) es)
one_less zero [] so = tt
one_less (suc k) [] so = tt
one_less zero (d ∷ ds) so = so.1
one_less (suc k) (d ∷ ds) so = (so.0, one_less k ds so.1)

pub told_out : (es left : List IndexEntry) (k : ℕ) → left ≡ take k es ++ drop (suc k) es → AreTold es → AreTold left
told_out es left k is so = subst AreTold (sym is) (one_less k es so)
