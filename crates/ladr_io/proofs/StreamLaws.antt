-- Laws of what streams give and take, one call after another. Crates above cite them too.
use Rattle.std.proofs.Common.{◌≡◌, ℕ, ◌≤◌, List, [], ◌++◌, take, drop, Option, None, Some, sym, refl, ap, ◌∙◌, append_assoc, arith}
use Rattle.std.proofs.lemmas.List.{append-nil, append_cancel_left, append_cancel_right, take-append-drop}
use Rattle.ladr_io.specs.Streams.{Inflow, Outflow, AreFirstLeft, AreLastHeld, Gives, GivesAll, FailsBehind, Takes, TakesFront, IsDrained}

left-none : (a : Option (List ℕ)) → AreFirstLeft a a []
left-none None = tt
left-none (Some xs) = refl

left-append : (a b c : Option (List ℕ)) (xs ys : List ℕ) → AreFirstLeft a b xs → AreFirstLeft b c ys → AreFirstLeft a c (xs ++ ys)
left-append None None None xs ys g h = tt
left-append None None (Some c) xs ys g h = h
left-append None (Some b) c xs ys g h = absurd g
left-append (Some a) None c xs ys g h = absurd g
left-append (Some a) (Some b) None xs ys g h = h
left-append (Some a) (Some b) (Some c) xs ys g h = g ∙ ap (λ l. xs ++ l) h ∙ sym (append_assoc xs ys c)

held-none : (a : Option (List ℕ)) → AreLastHeld a a []
held-none None = tt
held-none (Some xs) = sym (append-nil xs)

pub held-append : (a b c : Option (List ℕ)) (xs ys : List ℕ) → AreLastHeld a b xs → AreLastHeld b c ys → AreLastHeld a c (xs ++ ys)
held-append None None None xs ys g h = tt
held-append None None (Some c) xs ys g h = h
held-append None (Some b) c xs ys g h = absurd g
held-append (Some a) None c xs ys g h = absurd g
held-append (Some a) (Some b) None xs ys g h = h
held-append (Some a) (Some b) (Some c) xs ys g h = h ∙ ap (λ l. l ++ ys) g ∙ append_assoc a xs ys

-- a source that gave nothing
pub Gives-none : (a : Inflow) → Gives a a []
Gives-none a = record { gave = left-none a.left; unfailing = refl }

-- a source that gave some bytes and then others
pub Gives-append : (a b c : Inflow) (xs ys : List ℕ) → Gives a b xs → Gives b c ys → Gives a c (xs ++ ys)
Gives-append a b c xs ys g h = record { gave = left-append a.left b.left c.left xs ys g.gave h.gave; unfailing = h.unfailing ∙ g.unfailing }

-- a call that gave nothing changes nothing
pub Gives-append_none : (a b c : Inflow) (xs : List ℕ) → Gives a b xs → Gives b c [] → Gives a c xs
Gives-append_none a b c xs g h = rw (append-nil xs) at (Gives-append a b c xs [] g h)

-- the end behind some bytes
pub Gives-end : (a b c : Inflow) (xs : List ℕ) → Gives a b xs → GivesAll b c [] → GivesAll a c xs
Gives-end a b c xs g h = record { gives = Gives-append_none a b c xs g h.gives; drained = h.drained; over = h.over }

-- a failure behind some bytes
pub Fails-behind : (a b c : Inflow) (xs : List ℕ) → Gives a b xs → FailsBehind b c [] → FailsBehind a c xs
Fails-behind a b c xs g h = record {
  gave = rw (append-nil xs) at (left-append a.left b.left c.left xs [] g.gave h.gave);
  failed = rw g.unfailing at h.failed;
  over = h.over;
}

-- a sink that took nothing
pub Takes-none : (a : Outflow) → Takes a a []
Takes-none a = record { took = held-none a.held; unfailing = refl; same = refl }

-- a sink that took some bytes and then others
pub Takes-append : (a b c : Outflow) (xs ys : List ℕ) → Takes a b xs → Takes b c ys → Takes a c (xs ++ ys)
Takes-append a b c xs ys g h = record {
  took = held-append a.held b.held c.held xs ys g.took h.took;
  unfailing = h.unfailing ∙ g.unfailing;
  same = h.same ∙ g.same;
}

-- a whole text and then a front of the next one
pub TakesFront-append : (a b c : Outflow) (xs ys : List ℕ) → Takes a b xs → TakesFront b c ys → TakesFront a c (xs ++ ys)
TakesFront-append a b c xs ys g h = record {
  front = xs ++ h.front;
  rest = h.rest;
  parts = ap (λ l. xs ++ l) h.parts ∙ sym (append_assoc xs h.front h.rest);
  took = held-append a.held b.held c.held xs h.front g.took h.took;
  failed = rw g.unfailing at h.failed;
  over = h.over;
}

-- a front of a text is a front of every longer one
pub TakesFront-longer : (a b : Outflow) (xs ys : List ℕ) → TakesFront a b xs → TakesFront a b (xs ++ ys)
TakesFront-longer a b xs ys g = record {
  front = g.front;
  rest = g.rest ++ ys;
  parts = ap (λ l. l ++ ys) g.parts ∙ append_assoc g.front g.rest ys;
  took = g.took;
  failed = g.failed;
  over = g.over;
}

-- a failure behind the first so many bytes of a text
pub TakesFront-take : (a b c : Outflow) (n : ℕ) (text : List ℕ) → Takes a b (take n text) → TakesFront b c [] → TakesFront a c text
TakesFront-take a b c n text g h =
    rw (take-append-drop n text) at (TakesFront-longer a c (take n text) (drop n text) (rw (append-nil (take n text)) at (TakesFront-append a b c (take n text) [] g h)))
