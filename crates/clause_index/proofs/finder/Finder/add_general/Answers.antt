use Rattle.std.proofs.Common.{◌++◌, List, ℕ, not, sym, ap, subst, ◌∙◌}
use Rattle.std.specs.List.{Contains}
use Rattle.std.proofs.lemmas.List.Elements.{Contains-append_left, Contains-append_right}
use Rattle.clause_index.proofs.finder.Finder.add_general.Goals as goal

pub returns : goal.returns
returns c =
    let old = c.args.numbers.now.items in
    let found = c.in_ok-found.found.items in
    let is = c.in_ok-extend_from_slice.ensures.items ∙ ap (λ (ns : List ℕ). old ++ ns) c.deref.ensures.value in
    record {
      kept = λ n h. subst (λ (ns : List ℕ). Contains ns n) (sym is) (Contains-append_left old found n h);
      added = λ h filed long pass. subst (λ (ns : List ℕ). Contains ns h.number) (sym is) (Contains-append_right old found h.number (c.in_ok-found.ensures.found h filed (ap not long) pass));
    }
