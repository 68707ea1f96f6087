use Rattle.std.proofs.Common.{◌≡◌, ◌∙◌, ◌++◌, ◌∷◌, List, ℕ, sym, ap, arith}
use Rattle.std.proofs.lemmas.List.{nil_from_length}
use Rattle.ladr_formulas.specs.Formulas.{names_of_variables}
use Rattle.ladr_formulas.specs.Numbering.{ShortName, woven}
use Rattle.ladr_formulas.proofs.NumberingLemmas.{woven_ends, free_next, free_over, bound_next, bound_over}
use Rattle.ladr_formulas.proofs.numbering.Variables.into_names.Goals.{then-is_free+in-Some+in_ok-from_slice+in_ok-push+in-Heap-1, then-is_free+in-Some+in_ok-from_slice+in_ok-push+in-Inline-1, then-is_free+in_default, else-is_free+in-Some-next+in_ok-push-2, else-is_free+in_default-next}
use Rattle.ladr_formulas.proofs.numbering.Variables.into_names.Goals as goal

pub loop-is_free-init : goal.loop-is_free-init
loop-is_free-init c = ap (λ (l : List (List ℕ)). l ++ names_of_variables (woven c.deref-is_free-items.result.now c.into_keys-free_names.result c.into_iter-bound_names.result.rest.items)) c.new-names.ensures

pub loop-is_free-preserved : goal.loop-is_free-preserved
loop-is_free-preserved c =
    let ks = c.deref-is_free-items.result.now in
    let all = names_of_variables (woven ks c.into_keys-free_names.result c.into_iter-bound_names.result.rest.items) in
    let fs = c.loop-is_free.free_names in
    let bs = c.loop-is_free.bound_names.rest.items in
    let rest = c.if-is_free.free_names in
    let left = c.if-is_free.bound_names.rest.items in
    let i = c.loop-is_free.is_free-index in
    let here = c.loop-is_free-test.true in
    let sofar = c.loop-is_free.invariant in
    elim c.if-is_free.branch [
      | then-is_free+in-Some+in_ok-from_slice+in_ok-push+in-Heap-1 w ↦ free_next all ks i fs rest bs left c.loop-is_free.names c.if-is_free.names here sofar w.in-Some.name w.in_ok-from_slice.field-0 w.if-is_free.true
          (w.in-Some.ensures.steps ∙ ap (λ (l : List ShortName). w.in-Some.name ∷ l) (sym w.free_names-is)) (λ j. (w.bound_names-is j).rest.items) (w.in_ok-from_slice.ensures ∙ w.as_slice.ensures) (w.names-is ∙ w.in_ok-push.ensures.ok)
      | then-is_free+in-Some+in_ok-from_slice+in_ok-push+in-Inline-1 w ↦ free_next all ks i fs rest bs left c.loop-is_free.names c.if-is_free.names here sofar w.in-Some.name w.in_ok-from_slice.field-0 w.if-is_free.true
          (w.in-Some.ensures.steps ∙ ap (λ (l : List ShortName). w.in-Some.name ∷ l) (sym w.free_names-is)) (λ j. (w.bound_names-is j).rest.items) (w.in_ok-from_slice.ensures ∙ w.as_slice.ensures) (w.names-is ∙ w.in_ok-push.ensures.ok)
      | then-is_free+in_default w ↦ free_over all ks i fs rest bs left c.loop-is_free.names c.if-is_free.names here sofar w.if-is_free.true
          w.in_default.ensures.steps.0 (w.free_names-is ∙ w.in_default.ensures.steps.1) (λ j. (w.bound_names-is j).rest.items) w.names-is
      | else-is_free+in-Some-next+in_ok-push-2 w ↦ bound_next all ks i fs rest bs left c.loop-is_free.names c.if-is_free.names here sofar w.in-Some-next.name w.if-is_free.false
          (w.in-Some-next.ensures.items ∙ (λ j. w.in-Some-next.name ∷ ((sym w.bound_names-is) j).rest.items)) w.free_names-is (w.names-is ∙ w.in_ok-push-2.ensures.ok)
      | else-is_free+in_default-next w ↦ (
          let long : c.if-is_free.bound_names.rest.len ≡ w.next-else-is_free.new.self.rest.len = λ j. (w.bound_names-is j).rest.len in
          bound_over all ks i fs rest bs left c.loop-is_free.names c.if-is_free.names here sofar w.if-is_free.false
          (nil_from_length bs (omega (arith, c.loop-is_free.bound_names.rest.ok.0, w.in_default-next.ensures.cases.0)))
          (nil_from_length left (omega (arith, c.if-is_free.bound_names.rest.ok.0, long, w.in_default-next.ensures.cases.1))) w.free_names-is w.names-is)
    ]

pub returns : goal.returns
returns c =
    woven_ends c.loop-is_free.names (names_of_variables (woven c.deref-is_free-items.result.now c.into_keys-free_names.result c.into_iter-bound_names.result.rest.items)) c.deref-is_free-items.result.now c.loop-is_free.free_names c.loop-is_free.bound_names.rest.items c.loop-is_free.is_free-index c.loop-is_free-test.false c.loop-is_free.invariant ∙
    ap names_of_variables ((λ j. woven (c.deref-is_free-items.ensures.value j) (c.into_keys-free_names.ensures.rest j) (c.into_iter-bound_names.ensures.rest j)) ∙ c.self.view_is)
