use Rattle.std.proofs.Common.{◌≡◌, ◌∙◌, ◌+◌, ◌-◌, ap₂, arith, drop, get_or, length, length-drop, subst}
use Rattle.std.proofs.lemmas.List.{take_all}
use Rattle.fol_core.specs.EntryView.{some_over}
use Rattle.fol_core.specs.Fol.{Fol}
use Rattle.fol_core.specs.FormulaView.{fol_of}
use Rattle.clausify.specs.Made.{BeginsWork}
use Rattle.clausify.specs.Skolem.{substitute_in}
use Rattle.clausify.specs.View.{substitution_kept}
use Rattle.clausify.proofs.Fronting.{put_behind, leads_next}
use Rattle.clausify.proofs.inputs.begin_all.Goals as goal

pub loop-place-preserved : goal.loop-place-preserved
loop-place-preserved c =
    let symbols = c.args.symbols.now in
    let xs = c.args.variables.now in
    let f = fol_of c.args.shape.now in
    let work = c.loop-place.work in
    let behind = drop (c.loop-place.place + 1) xs in
    let bound : c.in_ok-bound.bound.items ≡ behind = c.in_ok-bound.ensures.items ∙ take_all (length xs - (c.loop-place.place + 1)) behind (omega (arith, length-drop (c.loop-place.place + 1) xs)) in
    let body : some_over c.in_ok-bound.bound.items (fol_of c.in_ok-body.body) ≡ substitute_in (substitution_kept work.terms.items) (some_over behind f) =
    ap₂ some_over bound c.in_ok-body.ensures ∙ put_behind (substitution_kept work.terms.items) behind f in
    leads_next symbols c.args.work.now work c.begin.new.work xs f (some_over xs f) c.loop-place.place c.loop-place-test.true c.loop-place.invariant
    (subst (λ (g : Fol). BeginsWork symbols work c.begin.new.work (get_or xs c.loop-place.place 0) g) body c.in_ok-begin.ensures)
