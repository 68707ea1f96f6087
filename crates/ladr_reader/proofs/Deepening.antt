-- What is deep already stays deep whatever tokens come.
use Rattle.std.proofs.Common.{◌≡◌, ℕ, ◌≤◌, ◌<◌, ◌+◌, zero, suc, max, min, Bool, true, false, ◌&&◌, List, [], ◌∷◌, Option, Some, None, inl, inr, refl, sym, ap, ◌∙◌, arith, if◌then◌else◌, subst, take, drop}
use Rattle.std.proofs.lemmas.List.{take-append-drop}
use Rattle.std.specs.Prelude.{nat_le}
use Rattle.std.proofs.lemmas.Bool.{cases_Bool, cases_lt}
use Rattle.std.proofs.lemmas.Bool.Decides.{nat_tests}
use Rattle.fol_core.specs.RawTree.{RawTree, named, quantified, no_raws, more_raws, depth, depth_of, raws_of}
use Rattle.fol_core.specs.declared.raw.Quantifier.{Quantifier}
use Rattle.ladr_lex.specs.Lexeme.{Lexeme}
use Rattle.ladr_lex.specs.declared.operators.Operator.{Operator}
use Rattle.ladr_reader.specs.Capped.{unless_too_deep, with_last_argument, application_within, quantification, is_bar, disjuncts, with_disjunct, disjunction_tree, all_within, disjuncts_within, single, whole_of, is_one_argument, argument_in_front, finished}
use Rattle.ladr_reader.specs.Depths.{IsTooDeep, is_disjunct, is_spine, one_more, levels_around}
use Rattle.ladr_reader.specs.DisjunctView.{depth_if}
use Rattle.ladr_reader.specs.Machine.{State, standing, start_of, follow_of, variable_of, may_stand_on, closes, whole, begin, bind, behind_operator, behind_close, behind_comma, behind_stop, behind_symbol_name, act, behind_term, step, next, go, Standing, Operand, Named, Word, Term, Done}
use Rattle.ladr_reader.specs.Table.{OperatorTable, left, right, takes, grows}
use Rattle.ladr_reader.specs.declared.roles.Follow.{Follow}
use Rattle.ladr_reader.specs.declared.roles.Follow.TheVariants.{Applies, Closes, Separates, Stops, Operates, FollowsNot}
use Rattle.ladr_reader.specs.declared.roles.TermStart.{TermStart}
use Rattle.ladr_reader.specs.declared.roles.TermStart.TheVariants.{Opens, Quantifies, Precedes, Names, StartsNot}
use Rattle.ladr_reader.specs.declared.sides.Side.{Side}
use Rattle.ladr_reader.specs.declared.sides.Side.TheVariants.{Nothing, Below, UpTo}
use Rattle.ladr_reader.specs.declared.stack.Frame.{Frame}
use Rattle.ladr_reader.specs.declared.stack.Frame.TheVariants.{Group, Applied, Waiting}
use Rattle.ladr_reader.specs.declared.stack.Part.{Part}
use Rattle.ladr_reader.specs.declared.stack.Part.TheVariants.{Prefix, Infix, Quantified}
use Rattle.ladr_reader.specs.Reads.{Item}
use Rattle.ladr_reader.proofs.Complete.{item_read}
use Rattle.ladr_reader.proofs.Lawful.{Lawful}
use Rattle.ladr_reader.proofs.Levels.{depth_of_append, disjunction_of, within_whole}
use Rattle.ladr_reader.proofs.Moves.{operand, go_append}
use Rattle.ladr_reader.proofs.Sound.{IsAt, runs}

-- the levels of trees, where nothing in place of one counts as one more than n
abbrev tree_levels : ℕ → Option RawTree → ℕ
tree_levels n None = suc n
tree_levels n (Some t) = depth t

abbrev list_levels : ℕ → Option (List RawTree) → ℕ
list_levels n None = suc n
list_levels n (Some ts) = depth_of (raws_of ts)

-- and of the term that disjuncts are
abbrev whole_levels : ℕ → Option (List RawTree) → ℕ
whole_levels n None = suc n
whole_levels n (Some ts) = depth_if (disjunction_tree ts)

abbrev term_levels : ℕ → Bool → Option (List RawTree) → ℕ
term_levels n true t = list_levels n t
term_levels n false t = whole_levels n t

-- there is a disjunct
abbrev IsFull : Option (List RawTree) → Type 0
IsFull None = Unit {0}
IsFull (Some []) = ⊥
IsFull (Some (t ∷ ts)) = Unit {0}

full_single : (o : Option RawTree) → IsFull (single o)
full_single None = tt
full_single (Some t) = tt

full_front : (us t : Option (List RawTree)) → IsFull (argument_in_front us t)
full_front None t = tt
full_front (Some []) t = tt
full_front (Some (u ∷ v ∷ us)) t = tt
full_front (Some (u ∷ [])) None = tt
full_front (Some (u ∷ [])) (Some t) = tt

full_either : (b : Bool) (s t : Option (List RawTree)) → IsFull s → IsFull t → IsFull (if b then s else t)
full_either true s t h k = h
full_either false s t h k = k

full_finished : (n : ℕ) (s : List ℕ) (us t : Option (List RawTree)) → IsFull (finished n s us t)
full_finished n s us t = full_either (is_bar s && is_one_argument us) _ _ (full_front us t) (full_single _)

full_whole : (n : ℕ) (part : Part) (t : Option (List RawTree)) → IsFull (whole n part t)
full_whole n (Prefix s) t = full_finished n s (Some []) t
full_whole n (Infix s u) t = full_finished n s (with_last_argument (Some []) u) t
full_whole n (Quantified q x) t = full_single _

full_built : (n : ℕ) (s : List ℕ) → IsFull (disjuncts_within n (named s no_raws))
full_built n s = full_either (all_within n (disjuncts (named s no_raws))) (Some (named s no_raws ∷ [])) None tt tt

-- what is built has as many levels, as far as they count
capped_levels : (n : ℕ) (t : RawTree) → min (suc n) (depth t) ≤ tree_levels n (unless_too_deep n t)
capped_levels n t = elim (cases_lt n (depth t)) [
  | inl h ↦ (let e : unless_too_deep n t ≡ None = grind (arith, nat_tests) in rw e (omega arith))
  | inr h ↦ (let e : unless_too_deep n t ≡ Some t = grind (arith, nat_tests) in rw e (omega arith))
]

whole_of_levels : (n : ℕ) (t : Option (List RawTree)) → IsFull t → min (suc n) (whole_levels n t) ≤ tree_levels n (whole_of n t)
whole_of_levels n None h = omega arith
whole_of_levels n (Some []) h = absurd h
whole_of_levels n (Some (t ∷ ts)) h = capped_levels n (with_disjunct t (disjunction_tree ts))

with_last_levels : (n : ℕ) (us : Option (List RawTree)) (o : Option RawTree) → min (suc n) (max (list_levels n us) (tree_levels n o)) ≤ list_levels n (with_last_argument us o)
with_last_levels n None o = omega arith
with_last_levels n (Some us) None = omega arith
with_last_levels n (Some us) (Some t) = omega (arith, depth_of_append us t)

application_levels : (n : ℕ) (s : List ℕ) (us : Option (List RawTree)) → min (suc n) (suc (list_levels n us)) ≤ tree_levels n (application_within n s us)
application_levels n s None = omega arith
application_levels n s (Some us) = capped_levels n (named s (raws_of us))

quantification_levels : (n : ℕ) (q : Quantifier) (x : List ℕ) (o : Option RawTree) → min (suc n) (suc (tree_levels n o)) ≤ tree_levels n (quantification n q x o)
quantification_levels n q x None = omega arith
quantification_levels n q x (Some t) = capped_levels n (quantified q x t)

single_levels : (n : ℕ) (spine : Bool) (o : Option RawTree) → term_levels n spine (single o) ≡ tree_levels n o
single_levels n true None = refl
single_levels n true (Some t) = omega arith
single_levels n false None = refl
single_levels n false (Some t) = refl

-- a term has as many levels as each of its disjuncts
fewer : (ts : List RawTree) → depth_of (raws_of ts) ≤ depth_if (disjunction_tree ts)
fewer [] = omega arith
fewer (t ∷ []) = omega arith
fewer (t ∷ u ∷ us) = omega (arith, fewer (u ∷ us))

fewer_levels : (n : ℕ) (t : Option (List RawTree)) → list_levels n t ≤ whole_levels n t
fewer_levels n None = omega arith
fewer_levels n (Some ts) = fewer ts

spine_levels : (n : ℕ) (spine : Bool) (t : Option (List RawTree)) → term_levels n spine t ≤ whole_levels n t
spine_levels n true t = fewer_levels n t
spine_levels n false t = omega arith

-- a term with its arguments is deeper, and a disjunction is as deep as its disjuncts
abbrev Deepens : ℕ → Bool → Bool → ℕ → Option (List RawTree) → Option (List RawTree) → Type 0
Deepens n true true a t r = min (suc n) (max a (list_levels n t)) ≤ list_levels n r
Deepens n true false a t r = min (suc n) (suc (max a (whole_levels n t))) ≤ list_levels n r
Deepens n false bar a t r = min (suc n) (suc (max a (whole_levels n t))) ≤ whole_levels n r

-- a single tree that is deeper
deepens_single :
    (n : ℕ) (spine bar : Bool) (a : ℕ) (t : Option (List RawTree)) (o : Option RawTree) →
    min (suc n) (suc (max a (whole_levels n t))) ≤ tree_levels n o → Deepens n spine bar a t (single o)
deepens_single n true true a t o h = omega (arith, single_levels n true o, fewer_levels n t)
deepens_single n true false a t o h = omega (arith, single_levels n true o)
deepens_single n false bar a t o h = omega (arith, single_levels n false o)

deepens_plain :
    (n : ℕ) (spine bar : Bool) (s : List ℕ) (us t : Option (List RawTree)) → IsFull t →
    Deepens n spine bar (list_levels n us) t (single (application_within n s (with_last_argument us (whole_of n t))))
deepens_plain n spine bar s us t full =
    deepens_single n spine bar (list_levels n us) t _
    (omega (arith, application_levels n s (with_last_argument us (whole_of n t)), with_last_levels n us (whole_of n t), whole_of_levels n t full))

deepens_front :
    (n : ℕ) (spine : Bool) (us t : Option (List RawTree)) → IsFull t → is_one_argument us ≡ true →
    Deepens n spine true (list_levels n us) t (argument_in_front us t)
deepens_front n spine None t full one = cc
deepens_front n spine (Some []) t full one = cc
deepens_front n spine (Some (u ∷ v ∷ us)) t full one = cc
deepens_front n true (Some (u ∷ [])) None full one = omega arith
deepens_front n false (Some (u ∷ [])) None full one = omega arith
deepens_front n spine (Some (u ∷ [])) (Some []) full one = absurd full
deepens_front n true (Some (u ∷ [])) (Some (t ∷ ts)) full one = omega arith
deepens_front n false (Some (u ∷ [])) (Some (t ∷ ts)) full one = omega arith

both : (a b : Bool) → (a && b) ≡ true → (a ≡ true) × (b ≡ true)
both true b h = (refl, h)
both false b h = cc

deepens_either :
    (n : ℕ) (spine bar b : Bool) (a : ℕ) (t r q : Option (List RawTree)) → (b ≡ true → Deepens n spine bar a t r) →
    Deepens n spine bar a t q → Deepens n spine bar a t (if b then r else q)
deepens_either n spine bar true a t r q h k = h refl
deepens_either n spine bar false a t r q h k = k

-- a name's term, where the name is that of disjunctions or it has no argument before the last
finished_deepens :
    (n : ℕ) (spine : Bool) (s : List ℕ) (us t : Option (List RawTree)) → IsFull t →
    Deepens n spine (is_bar s) (list_levels n us) t (finished n s us t)
finished_deepens n spine s us t full =
    deepens_either n spine (is_bar s) (is_bar s && is_one_argument us) (list_levels n us) t _ _
    (λ h. let p = both (is_bar s) (is_one_argument us) h in rw p.0 (deepens_front n spine us t full p.1))
    (deepens_plain n spine (is_bar s) s us t full)

first_deepens :
    (n : ℕ) (spine bar : Bool) (s : List ℕ) (t : Option (List RawTree)) → IsFull t →
    Deepens n spine bar 0 t (finished n s (Some []) t)
first_deepens n spine bar s t full =
    deepens_either n spine bar (is_bar s && false) 0 t _ _
    (λ h. let p = both (is_bar s) false h in cc)
    (deepens_plain n spine bar s (Some []) t full)

-- the levels of the trees that a part holds
abbrev part_levels : ℕ → Part → ℕ
part_levels n (Prefix s) = 0
part_levels n (Infix s u) = tree_levels n u
part_levels n (Quantified q x) = 0

first_levels : (n : ℕ) (u : Option RawTree) → list_levels n (with_last_argument (Some []) u) ≡ tree_levels n u
first_levels n None = refl
first_levels n (Some u) = omega arith

whole_deepens :
    (n : ℕ) (spine : Bool) (part : Part) (t : Option (List RawTree)) → IsFull t →
    Deepens n spine (is_disjunct part) (part_levels n part) t (whole n part t)
whole_deepens n spine (Prefix s) t full = first_deepens n spine false s t full
whole_deepens n spine (Infix s u) t full =
    subst (λ (a : ℕ). Deepens n spine (is_bar s) a t (whole n (Infix s u) t)) (first_levels n u)
    (finished_deepens n spine s (with_last_argument (Some []) u) t full)
whole_deepens n spine (Quantified q x) t full =
    deepens_single n spine false 0 t _ (omega (arith, quantification_levels n q x (whole_of n t), whole_of_levels n t full))

-- the levels around a term and its own, or those of a tree that waits and those around it
abbrev frame_levels : ℕ → Frame → ℕ
frame_levels n Group = 0
frame_levels n (Applied s us) = list_levels n us
frame_levels n (Waiting part side p) = part_levels n part

abbrev waiting_levels : ℕ → Bool → List Frame → ℕ
waiting_levels n b [] = 0
waiting_levels n b (f ∷ fs) = max (levels_around b (f ∷ fs) + frame_levels n f) (waiting_levels n b fs)

abbrev place_levels : ℕ → Bool → Standing → ℕ
place_levels n spine Operand = 0
place_levels n spine (Named s) = 0
place_levels n spine (Word w) = 0
place_levels n spine (Term t q) = term_levels n spine t
place_levels n spine (Done t q) = term_levels n spine t

abbrev levels_at : ℕ → Bool → List Frame → ℕ → ℕ
levels_at n b fs inner = max (levels_around b fs + inner) (waiting_levels n b fs)

abbrev term_at : ℕ → Bool → List Frame → Option (List RawTree) → ℕ
term_at n b fs t = levels_at n b fs (term_levels n (is_spine b (levels_around b fs)) t)

abbrev FullPlace : Standing → Type 0
FullPlace Operand = Unit {0}
FullPlace (Named s) = Unit {0}
FullPlace (Word w) = Unit {0}
FullPlace (Term t q) = IsFull t
FullPlace (Done t q) = IsFull t

-- more than n levels are sure
pub record IsDeep (n : ℕ) (b : Bool) (place : Standing) (fs : List Frame) : Type 0 where
  pub full : FullPlace place
  pub deep : n < levels_at n b fs (place_levels n (is_spine b (levels_around b fs)) place)

abbrev pub StaysDeep : ℕ → Bool → Option State → Type 0
StaysDeep n b None = Unit {0}
StaysDeep n b (Some s) = IsDeep n b s.place s.stack

when : (n : ℕ) (b c : Bool) (s : Option State) → StaysDeep n b s → StaysDeep n b (if c then s else None)
when n b true s h = h
when n b false s h = tt

either : (n : ℕ) (b c : Bool) (s t : Option State) → StaysDeep n b s → StaysDeep n b t → StaysDeep n b (if c then s else t)
either n b true s t h k = h
either n b false s t h k = k

-- a frame's term in place of its last argument
frame_ended :
    (n : ℕ) (b bar : Bool) (c h a : ℕ) (t r : Option (List RawTree)) → Deepens n (is_spine b c) bar a t r →
    n < max (one_more b bar c + term_levels n (is_spine b (one_more b bar c)) t) (max (one_more b bar c + a) h) →
    n < max (c + term_levels n (is_spine b c) r) h
frame_ended n true true zero h a t r up d = omega arith
frame_ended n true false zero h a t r up d = omega arith
frame_ended n false bar zero h a t r up d = omega arith
frame_ended n b bar (suc c) h a t r up d = omega arith

more_around : (b bar : Bool) (c : ℕ) → c ≤ one_more b bar c
more_around true true zero = omega arith
more_around true false zero = omega arith
more_around false bar zero = omega arith
more_around b bar (suc c) = omega arith

around_more : (b : Bool) (f : Frame) (fs : List Frame) → levels_around b fs ≤ levels_around b (f ∷ fs)
around_more b Group fs = omega arith
around_more b (Applied s us) fs = more_around b (is_bar s) (levels_around b fs)
around_more b (Waiting part side p) fs = more_around b (is_disjunct part) (levels_around b fs)

pushed : (n : ℕ) (b : Bool) (f : Frame) (fs : List Frame) → n < levels_at n b fs 0 → n < levels_at n b (f ∷ fs) 0
pushed n b f fs h = omega (arith, around_more b f fs)

deep_operand : (n : ℕ) (b : Bool) (f : Frame) (fs : List Frame) → n < levels_at n b fs 0 → StaysDeep n b (standing (Some Operand) (f ∷ fs))
deep_operand n b f fs h = record { full = tt; deep = pushed n b f fs h }

starts : (n : ℕ) (b : Bool) (s : TermStart) (fs : List Frame) → n < levels_at n b fs 0 → StaysDeep n b (begin s fs)
starts n b Opens fs h = deep_operand n b Group fs h
starts n b (Quantifies w) fs h = when n b (may_stand_on fs 750 false) (standing (Some (Word w)) fs) (record { full = tt; deep = h })
starts n b (Precedes s o) fs h =
    when n b (may_stand_on fs o.precedence false) (standing (Some Operand) (Waiting (Prefix s) (right o.kind) o.precedence ∷ fs))
    (deep_operand n b (Waiting (Prefix s) (right o.kind) o.precedence) fs h)
starts n b (Names s) fs h = record { full = tt; deep = h }
starts n b StartsNot fs h = tt

binds : (n : ℕ) (b : Bool) (w : Quantifier) (x : Option (List ℕ)) (fs : List Frame) → n < levels_at n b fs 0 → StaysDeep n b (bind w x fs)
binds n b w None fs h = tt
binds n b w (Some x) fs h = deep_operand n b (Waiting (Quantified w x) UpTo 750) fs h

-- a term behind which one more argument begins
separates : (n : ℕ) (b : Bool) (t : Option (List RawTree)) (fs : List Frame) → IsFull t → n < term_at n b fs t → StaysDeep n b (behind_comma n t fs)
separates n b t [] full h = tt
separates n b t (Group ∷ fs) full h = tt
separates n b t (Applied s us ∷ fs) full h =
    record {
      full = tt;
      deep = omega (arith, with_last_levels n us (whole_of n t), whole_of_levels n t full, spine_levels n (is_spine b (levels_around b (Applied s us ∷ fs))) t);
    }
separates n b t (Waiting part side p ∷ fs) full h = tt

shuts : (n : ℕ) (b : Bool) (t : Option (List RawTree)) (fs : List Frame) → IsFull t → n < term_at n b fs t → StaysDeep n b (behind_close n t fs)
shuts n b t [] full h = tt
shuts n b t (Group ∷ fs) full h = record { full = full; deep = omega arith }
shuts n b t (Applied s us ∷ fs) full h =
    record {
      full = full_finished n s us t;
      deep = frame_ended n b (is_bar s) (levels_around b fs) (waiting_levels n b fs) (list_levels n us) t (finished n s us t)
          (finished_deepens n (is_spine b (levels_around b fs)) s us t full) h;
    }
shuts n b t (Waiting part side p ∷ fs) full h = tt

stops : (n : ℕ) (b : Bool) (t : Option (List RawTree)) (q : ℕ) (fs : List Frame) → IsFull t → n < term_at n b fs t → StaysDeep n b (behind_stop t q fs)
stops n b t q [] full h = record { full = full; deep = h }
stops n b t q (f ∷ fs) full h = tt

-- a term that an operator makes deeper
above : (n : ℕ) (spine : Bool) (t r : Option (List RawTree)) → Deepens n spine false 0 t r → min (suc n) (term_levels n spine t) ≤ term_levels n spine r
above n true t r d = omega (arith, fewer_levels n t)
above n false t r d = omega arith

waits_behind : (n : ℕ) (b : Bool) (side : Side) (s : List ℕ) (p : ℕ) (t : Option (List RawTree)) (fs : List Frame) → IsFull t → n < term_at n b fs t
    → StaysDeep n b (standing (Some Operand) (Waiting (Infix s (whole_of n t)) side p ∷ fs))
waits_behind n b side s p t fs full h =
    record {
      full = tt;
      deep = omega (arith, around_more b (Waiting (Infix s (whole_of n t)) side p) fs, whole_of_levels n t full, spine_levels n (is_spine b (levels_around b fs)) t);
    }

operates : (n : ℕ) (b : Bool) (side : Side) (s : List ℕ) (o : Operator) (t : Option (List RawTree)) (fs : List Frame) → IsFull t → n < term_at n b fs t
    → StaysDeep n b (behind_operator n side s o t fs)
operates n b Nothing s o t fs full h =
    record {
      full = full_finished n s (Some []) t;
      deep = omega (arith, above n (is_spine b (levels_around b fs)) t (finished n s (Some []) t) (first_deepens n (is_spine b (levels_around b fs)) false s t full));
    }
operates n b Below s o t fs full h = waits_behind n b Below s o.precedence t fs full h
operates n b UpTo s o t fs full h = waits_behind n b UpTo s o.precedence t fs full h

acts : (n : ℕ) (b : Bool) (f : Follow) (t : Option (List RawTree)) (q : ℕ) (fs : List Frame) → IsFull t → n < term_at n b fs t → StaysDeep n b (act n f t q fs)
acts n b Applies t q fs full h = tt
acts n b Closes t q fs full h = shuts n b t fs full h
acts n b Separates t q fs full h = separates n b t fs full h
acts n b Stops t q fs full h = stops n b t q fs full h
acts n b (Operates s o) t q fs full h =
    when n b (takes (left o.kind) o.precedence q && may_stand_on fs o.precedence (grows o.kind)) (behind_operator n (right o.kind) s o t fs)
    (operates n b (right o.kind) s o t fs full h)
acts n b FollowsNot t q fs full h = tt

follows : (n : ℕ) (b : Bool) (f : Follow) (t : Option (List RawTree)) (q : ℕ) (fs : List Frame) → IsFull t → n < term_at n b fs t → StaysDeep n b (behind_term n f t q fs)
follows n b f t q [] full h = acts n b f t q [] full h
follows n b f t q (Group ∷ fs) full h = acts n b f t q (Group ∷ fs) full h
follows n b f t q (Applied s us ∷ fs) full h = acts n b f t q (Applied s us ∷ fs) full h
follows n b f t q (Waiting part side p ∷ fs) full h =
    either n b (closes f p) (behind_term n f (whole n part t) p fs) (act n f t q (Waiting part side p ∷ fs))
    (follows n b f (whole n part t) p fs (full_whole n part t)
    (frame_ended n b (is_disjunct part) (levels_around b fs) (waiting_levels n b fs) (part_levels n part) t (whole n part t)
    (whole_deepens n (is_spine b (levels_around b fs)) part t full) h))
    (acts n b f t q (Waiting part side p ∷ fs) full h)

atom_follows : (n : ℕ) (b : Bool) (f : Follow) (s : List ℕ) (fs : List Frame) → n < levels_at n b fs 0 → StaysDeep n b (behind_term n f (disjuncts_within n (named s no_raws)) 0 fs)
atom_follows n b f s fs h = follows n b f (disjuncts_within n (named s no_raws)) 0 fs (full_built n s) (omega arith)

names : (n : ℕ) (b : Bool) (f : Follow) (s : List ℕ) (fs : List Frame) → n < levels_at n b fs 0 → StaysDeep n b (behind_symbol_name n f s fs)
names n b Applies s fs h = deep_operand n b (Applied s (Some [])) fs h
names n b Closes s fs h = atom_follows n b Closes s fs h
names n b Separates s fs h = atom_follows n b Separates s fs h
names n b Stops s fs h = atom_follows n b Stops s fs h
names n b (Operates r o) s fs h = atom_follows n b (Operates r o) s fs h
names n b FollowsNot s fs h = atom_follows n b FollowsNot s fs h

steps : (n : ℕ) (b : Bool) (g : OperatorTable) (place : Standing) (fs : List Frame) (x : Lexeme) → IsDeep n b place fs → StaysDeep n b (step n g place fs x)
steps n b g Operand fs x h = starts n b (start_of g x) fs h.deep
steps n b g (Named s) fs x h = names n b (follow_of g x) s fs h.deep
steps n b g (Word w) fs x h = binds n b w (variable_of g.variable x) fs h.deep
steps n b g (Term t q) fs x h = follows n b (follow_of g x) t q fs h.full h.deep
steps n b g (Done t q) fs x h = tt

nexts : (n : ℕ) (b : Bool) (g : OperatorTable) (s : Option State) (x : Lexeme) → StaysDeep n b s → StaysDeep n b (next n g s x)
nexts n b g None x h = tt
nexts n b g (Some s) x h = steps n b g s.place s.stack x h

pub goes : (n : ℕ) (b : Bool) (g : OperatorTable) (s : Option State) (xs : List Lexeme) → StaysDeep n b s → StaysDeep n b (go n g s xs)
goes n b g s [] h = h
goes n b g s (x ∷ xs) h = goes n b g (next n g s x) xs (nexts n b g s x h)

-- a term has a disjunct
full_disjuncts : (t : RawTree) → IsFull (Some (disjuncts t))
full_disjuncts (quantified q x t) = tt
full_disjuncts (named s no_raws) = tt
full_disjuncts (named s (more_raws t no_raws)) = tt
full_disjuncts (named s (more_raws t (more_raws u (more_raws v ts)))) = tt
full_disjuncts (named s (more_raws t (more_raws u no_raws))) =
    elim (cases_Bool (is_bar s)) [
      | inl y ↦ rw y tt
      | inr m ↦ rw m tt
    ]

full_within : (n : ℕ) (t : RawTree) → IsFull (disjuncts_within n t)
full_within n t = full_either (all_within n (disjuncts t)) (Some (disjuncts t)) None (full_disjuncts t) tt

full_place : (n : ℕ) (g : OperatorTable) (place : Standing) (fs : List Frame) (vs : List Lexeme) → IsAt n g place fs vs → FullPlace place
full_place n g Operand fs vs h = tt
full_place n g (Named s) fs vs h = tt
full_place n g (Word w) fs vs h = tt
full_place n g (Term t q) fs vs h = rw h.is_back.is (full_within n h.is_back.tree)
full_place n g (Done t q) fs vs h = rw h.is (full_within n h.tree)

within_levels : (n : ℕ) (ts : List RawTree) → all_within n ts ≡ true → depth_of (raws_of ts) ≤ n
within_levels n [] h = omega arith
within_levels n (t ∷ ts) h =
    let p = both (nat_le (depth t) n) (all_within n ts) h in
    let low : depth t ≤ n = grind (arith, nat_tests) in
    omega (arith, within_levels n ts p.1)

-- what a deep end tells of the term
ends : (n : ℕ) (b : Bool) (t : RawTree) → n < term_levels n b (disjuncts_within n t) → IsTooDeep b n t
ends n true t h =
    elim (cases_Bool (all_within n (disjuncts t))) [
      | inl y ↦ absurd (let low = within_levels n (disjuncts t) y in
          let built : disjuncts_within n t ≡ Some (disjuncts t) = rw y refl in
          let d : n < depth_of (raws_of (disjuncts t)) = rw built at h in omega arith)
      | inr m ↦ m
    ]
ends n false t h =
    elim (cases_lt n (depth t)) [
      | inl d ↦ d
      | inr low ↦ absurd (let y : all_within n (disjuncts t) ≡ true = within_whole n t low in
          let built : disjuncts_within n t ≡ Some (disjuncts t) = rw y refl in
          let d : n < depth_if (disjunction_tree (disjuncts t)) = rw built at h in
          let e : n < depth t = rw (disjunction_of t) at d in omega arith)
    ]

-- where so many frames wait, an item that begins so is too deep
pub deep_item :
    (n : ℕ) (b : Bool) (g : OperatorTable) → Lawful g → (ts : List Lexeme) (i : ℕ) (place : Standing) (fs : List Frame) →
    go n g (operand []) (take i ts) ≡ standing (Some place) fs → n < levels_around b fs →
    (t : RawTree) → Item g ts t → IsTooDeep b n t
deep_item n b g lawful ts i place fs run deep t item =
    let full = full_place n g place fs (take i ts) (runs n g lawful (take i ts) place fs run) in
    let here : StaysDeep n b (standing (Some place) fs) = record { full = full; deep = omega arith } in
    let end : go n g (standing (Some place) fs) (drop i ts) ≡ standing (Some (Done (disjuncts_within n t) item.precedence)) [] =
    ap (λ (s : Option State). go n g s (drop i ts)) (sym run)
    ∙ sym (go_append n g (operand []) (take i ts) (drop i ts))
    ∙ ap (λ (xs : List Lexeme). go n g (operand []) xs) (take-append-drop i ts)
    ∙ item_read n g item in
    let last : StaysDeep n b (standing (Some (Done (disjuncts_within n t) item.precedence)) []) = subst (λ (s : Option State). StaysDeep n b s) end (goes n b g (standing (Some place) fs) (drop i ts) here) in
    let d : n < max (0 + term_levels n b (disjuncts_within n t)) 0 = last.deep in
    ends n b t (omega arith)

-- one frame less has one level less around it at most
less_one : (b bar : Bool) (c a : ℕ) → a ≤ one_more b bar c → a ≤ suc c
less_one true true zero a h = omega arith
less_one true false zero a h = omega arith
less_one false bar zero a h = omega arith
less_one b bar (suc c) a h = omega arith

pub around_less : (b : Bool) (f : Frame) (fs : List Frame) (a : ℕ) → a ≤ levels_around b (f ∷ fs) → a ≤ suc (levels_around b fs)
around_less b Group fs a h = omega arith
around_less b (Applied s us) fs a h = less_one b (is_bar s) (levels_around b fs) a h
around_less b (Waiting part side p) fs a h = less_one b (is_disjunct part) (levels_around b fs) a h
