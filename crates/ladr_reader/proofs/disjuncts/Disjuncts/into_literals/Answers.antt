use Rattle.std.proofs.Common.{◌≡◌, [], ◌∷◌, ◌++◌, reverse, List, Some, ap, ◌∙◌, sym}
use Rattle.std.specs.Option.{option_map}
use Rattle.fol_core.specs.RawTree.{RawTree}
use Rattle.fol_core.specs.RawView.{raw_of, raw_list}
use Rattle.fol_core.specs.declared.raw.Raw.{Raw}
use Rattle.ladr_reader.specs.DisjunctView.{in_order}
use Rattle.ladr_reader.proofs.Disjunctions.{raws_append, raws-reverse}
use Rattle.ladr_reader.proofs.disjuncts.Disjuncts.into_literals.Goals as goal

pub returns-in_ok-push-in-Some : goal.returns-in_ok-push-in-Some
returns-in_ok-push-in-Some c =
    let last = c.in-Some.last in
    let items : raw_list c.push.new.self.items ≡ in_order c.self.inside.before (raw_of last) =
    ap raw_list (c.in_ok-push-in-Some.ensures.items ∙ ap (λ (rs : List Raw). rs ++ last ∷ []) c.reverse.ensures.items)
    ∙ raws_append (reverse c.into_items-literals.result.items) (last ∷ [])
    ∙ ap (λ (ts : List RawTree). ts ++ raw_of last ∷ []) (raws-reverse c.into_items-literals.result.items)
    ∙ ap (λ (ts : List RawTree). in_order ts (raw_of last)) c.into_items-literals.ensures
    in
    ap (λ (ts : List RawTree). Some ts) items ∙ ap (option_map (λ t. in_order c.self.inside.before (raw_of t))) (sym c.in-Some.is) ∙ c.self.view_is
