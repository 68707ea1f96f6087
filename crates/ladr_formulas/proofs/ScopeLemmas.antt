-- The innermost binding is the last of the code's list.
use Rattle.std.proofs.Common.{◌≡◌, ℕ, ◌+◌, ◌<◌, List, [], ◌∷◌, ◌++◌, length, take, get_or, Some, refl, sym, ap, ◌∙◌}
use Rattle.std.specs.Prelude.{if◌then◌else◌}
use Rattle.std.specs.Str.{bytes_eq}
use Rattle.std.proofs.lemmas.List.{take_more}
use Rattle.ladr_formulas.specs.Formulas.{Bound, bound_number}
use Rattle.ladr_formulas.specs.ScopeView.{bounds_onto}
use Rattle.ladr_formulas.specs.declared.scopes.ScopeBinding.{ScopeBinding}

pub bounds_onto_last : (bounds : List Bound) (bs : List ScopeBinding) (b : ScopeBinding) → bounds_onto bounds (bs ++ b ∷ []) ≡ record { name = b.name; number = b.number } ∷ bounds_onto bounds bs
bounds_onto_last bounds [] b = refl
bounds_onto_last bounds (c ∷ bs) b = bounds_onto_last (record { name = c.name; number = c.number } ∷ bounds) bs b

-- what one binding more says of a name
pub bound_number_more : (bs : List ScopeBinding) (i : ℕ) (b : ScopeBinding) (name : List ℕ) → i < length bs → b ≡ get_or bs i b →
    bound_number (bounds_onto [] (take (i + 1) bs)) name ≡ (if bytes_eq b.name name then Some b.number else bound_number (bounds_onto [] (take i bs)) name)
bound_number_more bs i b name h e =
    let last : take (i + 1) bs ≡ take i bs ++ b ∷ [] = take_more bs i b h ∙ ap (λ (c : ScopeBinding). take i bs ++ c ∷ []) (sym e) in
    ap (λ (cs : List ScopeBinding). bound_number (bounds_onto [] cs) name) last ∙ ap (λ (cs : List Bound). bound_number cs name) (bounds_onto_last [] (take i bs) b)
