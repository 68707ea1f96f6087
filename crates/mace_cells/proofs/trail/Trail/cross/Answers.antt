use Rattle.std.proofs.Common.{◌≡◌, ℕ, ◌+◌, ◌*◌, ◌<◌, Bool, true, false, List, ◌∷◌, length, set, refl, sym, ap, ◌∙◌, subst, arith}
use Rattle.std.proofs.lemmas.List.{length-set, get_or_default}
use Rattle.mace_cells.specs.Made.{IsMade}
use Rattle.mace_cells.specs.Stacked.{Stacked}
use Rattle.cell_ranks.specs.Ranks.{Ranked}
use Rattle.mace_cells.specs.Trails.{Partial, partial, is_struck_off, struck, AreFlagged, AreScored}
use Rattle.mace_cells.proofs.Making.{struck_read, room_left, made_more, blank_flag, no_blank_flags, many_struck, in_table}
use Rattle.mace_cells.proofs.Counting.{can_raise, scored_more, kept_raised}
use Rattle.mace_cells.proofs.trail.Trail.cross.Goals as goal

pub place-at-requires : goal.place-at-requires
place-at-requires c =
    let within = in_table c.self.inside.stride _ _ c.args.cell c.args.value c.self.invariant.flags (subst (λ (p : Partial). c.args.cell < p.many) (sym c.self.view_is) c.requires.cell)
    (subst (λ (p : Partial). c.args.value < p.stride) (sym c.self.view_is) c.requires.value) in
    omega (arith, within, c.self.inside.crossed.ok, c.len.ensures)

pub raise-requires-clause-room : goal.raise-requires-clause-room
raise-requires-clause-room c =
    let a = c.self.inside in
    let ks = a.crossings.list in
    let xs = a.crossed.items in
    let k : ℕ = c.args.cell * a.stride + c.args.value in
    let fits : c.args.value < a.stride = subst (λ (p : Partial). c.args.value < p.stride) (sym c.self.view_is) c.requires.value in
    let cell : c.args.cell < length a.values.items = subst (λ (p : Partial). c.args.cell < p.many) (sym c.self.view_is) c.requires.cell in
    let within : k < length xs = in_table a.stride _ _ c.args.cell c.args.value c.self.invariant.flags cell fits in
    let empty = struck_read _ ks xs k c.self.invariant.crossed ∙ ap (λ (p : Partial). is_struck_off (c.args.cell * p.stride + c.args.value) p.crossings) c.self.view_is ∙ c.requires.blank in
    let left = room_left false blank_flag _ (struck ks) xs k refl (no_blank_flags ks) c.self.invariant.crossed within empty in
    can_raise a.counts a.ranks a.stride c.args.cell (length a.values.items) ks cell (omega (arith, left, many_struck ks, c.self.invariant.flags, a.crossed.ok)) c.self.invariant.scored

pub push-requires : goal.push-requires
push-requires c =
    let ks = c.self.inside.crossings.list in
    let xs = c.self.inside.crossed.items in
    let k : ℕ = c.args.cell * c.self.inside.stride + c.args.value in
    let within : k < length xs =
    in_table c.self.inside.stride _ _ c.args.cell c.args.value c.self.invariant.flags (subst (λ (p : Partial). c.args.cell < p.many) (sym c.self.view_is) c.requires.cell)
    (subst (λ (p : Partial). c.args.value < p.stride) (sym c.self.view_is) c.requires.value) in
    let empty = struck_read _ ks xs k c.self.invariant.crossed ∙ ap (λ (p : Partial). is_struck_off (c.args.cell * p.stride + c.args.value) p.crossings) c.self.view_is ∙ c.requires.blank in
    let left = room_left false blank_flag _ (struck ks) xs k refl (no_blank_flags ks) c.self.invariant.crossed within empty in
    omega (arith, left, many_struck ks, c.self.invariant.more)

pub invariant_of-self : goal.invariant_of-self
invariant_of-self c =
    let ks = c.self.inside.crossings.list in
    let xs = c.self.inside.crossed.items in
    let k : ℕ = c.args.cell * c.self.inside.stride + c.args.value in
    let within : k < length xs =
    in_table c.self.inside.stride _ _ c.args.cell c.args.value c.self.invariant.flags (subst (λ (p : Partial). c.args.cell < p.many) (sym c.self.view_is) c.requires.cell)
    (subst (λ (p : Partial). c.args.value < p.stride) (sym c.self.view_is) c.requires.value) in
    let empty = struck_read _ ks xs k c.self.invariant.crossed ∙ ap (λ (p : Partial). is_struck_off (c.args.cell * p.stride + c.args.value) p.crossings) c.self.view_is ∙ c.requires.blank in
    let made = made_more false _ (struck ks) xs k true c.self.invariant.crossed within empty in
    let list = ap (λ (s : Stacked ℕ). s.list) c.push.ensures ∙ ap (λ (j : ℕ). j ∷ ks) c.place-at.ensures in
    let a = c.self.inside in
    let fits : c.args.value < a.stride = subst (λ (p : Partial). c.args.value < p.stride) (sym c.self.view_is) c.requires.value in
    let cell : c.args.cell < length a.values.items = subst (λ (p : Partial). c.args.cell < p.many) (sym c.self.view_is) c.requires.cell in
    let kept = kept_raised a.counts a.ranks c.args.cell in
    rw c.place-at.ensures record {
      small = c.self.invariant.small;
      flags = length-set xs k true ∙ c.self.invariant.flags;
      room = c.self.invariant.room;
      more = ap (λ (s : Stacked ℕ). s.room) c.push.ensures ∙ c.self.invariant.more;
      values = c.self.invariant.values;
      crossed = subst (λ (js : List ℕ). IsMade false (length c.self.inside.values.items * c.self.inside.stride) (struck js) (set xs k true)) (sym list) made;
      ranked = ap (λ (r : Ranked). length r.indices) c.raise.ensures ∙ ap (λ (is : List ℕ). length is) kept.0 ∙ c.self.invariant.ranked;
      free = subst (λ (bs : List Bool). AreFlagged a.values.items bs) (sym (ap (λ (r : Ranked). r.free) c.raise.ensures ∙ kept.1)) c.self.invariant.free;
      scored =
          subst (λ (js : List ℕ). AreScored a.counts a.stride js (length a.values.items) c.raise.new.ranks.scores) (sym list)
          (subst (λ (r : Ranked). AreScored a.counts a.stride (k ∷ ks) (length a.values.items) r.scores) (sym c.raise.ensures) (scored_more a.counts a.ranks a.stride c.args.cell c.args.value (length a.values.items) ks fits cell c.self.invariant.scored));
    }

pub returns : goal.returns
returns c =
    let a = c.self.inside in
    let list = ap (λ (s : Stacked ℕ). s.list) c.push.ensures ∙ ap (λ (j : ℕ). j ∷ a.crossings.list) c.place-at.ensures in
    ap (λ (js : List ℕ). partial (length a.values.items) a.stride (record { indices = c.raise.new.ranks.indices; counts = a.counts }) a.entries.list js) list
    ∙ ap (λ (is : List ℕ). partial (length a.values.items) a.stride (record { indices = is; counts = a.counts }) a.entries.list ((c.args.cell * a.stride + c.args.value) ∷ a.crossings.list)) (ap (λ (r : Ranked). r.indices) c.raise.ensures ∙ (kept_raised a.counts a.ranks c.args.cell).0)
    ∙ ap (λ (p : Partial). partial p.many p.stride p.ranking p.entries ((c.args.cell * p.stride + c.args.value) ∷ p.crossings)) c.self.view_is
