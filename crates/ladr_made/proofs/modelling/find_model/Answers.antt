-- A size that is passed is exhausted too.
use Rattle.std.proofs.Common.{◌∙◌, List, ℕ, Option, sym, subst}
use Rattle.std.specs.Prelude.{MatchOption}
use Rattle.ladr_formulas.specs.declared.styles.Mode.TheVariants.{Mace}
use Rattle.ladr_intake.specs.Refusals.{refuses}
use Rattle.ladr_intake.specs.declared.stops.Refused.{Refused}
use Rattle.ladr_made.proofs.Sizes.{goes_on, one_more}
use Rattle.ladr_made.proofs.modelling.find_model.Goals as goal
use Rattle.ladr_made.specs.Modelling.{Seeks}
use Rattle.ladr_mace4.specs.declared.ends.SearchEnd.{SearchEnd}

pub loop-n-preserved : goal.loop-n-preserved
loop-n-preserved c =
    let n = c.loop-n.n in
    let end = c.in-Some.end in
    let bytes = c.in_ok-bytes.bytes.items in
    let here = subst (λ (o : Option SearchEnd). MatchOption o ((why : Refused) × refuses Mace bytes why) (Seeks bytes n)) c.in-Some.is c.in_ok-end.ensures in
    let over = goes_on n end (sym c.modelled_at.ensures ∙ c.in_default-modelled_at.is) in
    one_more c.args.text.now n c.loop-n.invariant (subst (λ (e : SearchEnd). Seeks c.args.text.now n e) over (subst (λ (b : List ℕ). Seeks b n end) c.in_ok-bytes.ensures.items here))
