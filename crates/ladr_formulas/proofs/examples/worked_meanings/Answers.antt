use Rattle.std.proofs.Common.{refl}
use Rattle.ladr_formulas.specs.Means.{bound_variable, free_variable, element, applied, no_terms, more_terms, for_all, then_if, differs, related}
use Rattle.ladr_formulas.proofs.examples.worked_meanings.Goals as goal

pub returns : goal.returns
returns c = record {
  bound_and_free = for_all refl
      (related refl refl refl (more_terms (bound_variable refl) (more_terms (applied refl refl (more_terms (free_variable refl refl refl) no_terms)) no_terms)));
  one_name_twice = then_if (related refl refl refl (more_terms (free_variable refl refl refl) no_terms))
      (for_all refl (related refl refl refl (more_terms (bound_variable refl) no_terms)));
  element = differs (applied refl refl no_terms) (element refl refl refl);
  constant = differs (applied refl refl no_terms) (applied refl refl no_terms);
}
