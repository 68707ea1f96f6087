-- Terms that wait with the next one last.
use Rattle.std.proofs.Common.{◌≡◌, List, [], ◌∷◌, ◌++◌, reverse, ap, ◌∙◌}
use Rattle.std.proofs.lemmas.List.{reverse-append}
use Rattle.fol_core.specs.RawView.{raw_of, raw_list}
use Rattle.fol_core.specs.declared.raw.Raw.{Raw}

pub last_first : (all rest : List Raw) (r : Raw) → all ≡ rest ++ r ∷ [] → raw_list (reverse all) ≡ raw_of r ∷ raw_list (reverse rest)
last_first all rest r e = ap (λ (l : List Raw). raw_list (reverse l)) e ∙ ap raw_list (reverse-append rest (r ∷ []))

pub none_last : (all : List Raw) → all ≡ [] → raw_list (reverse all) ≡ []
none_last all e = ap (λ (l : List Raw). raw_list (reverse l)) e
