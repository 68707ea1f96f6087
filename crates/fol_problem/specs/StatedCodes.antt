-- How the logic stores what a file states.
use Rattle.std.specs.Prelude.{ℕ, ◌≡◌, ◌==◌, Bool, true, false, List, if◌then◌else◌, refl}
use Rattle.std.proofs.Common.{ap}
use Rattle.std.specs.Coded.{Coded, code_by, coded×, coded_ℕ, coded_bool, coded_list}
use Rattle.fol_core.specs.Fol.{Fol}
use Rattle.fol_core.specs.FolCodes.{coded_fol}
use Rattle.fol_problem.specs.Stated.{Said, Stated, said, stated}
use Rattle.fol_core.specs.SymbolTable.{Symbol, symbol}
use Rattle.fol_problem.specs.declared.problem.Role.{Role}
use Rattle.fol_problem.specs.declared.problem.Role.TheVariants.{Assumption, Usable, Demodulator, Goal}
use Rattle.fol_core.specs.declared.symbols.Kind.{Kind}
use Rattle.fol_core.specs.declared.symbols.Kind.TheVariants.{Function, Relation}

abbrev role_tag : Role → ℕ
role_tag Assumption = 0
role_tag Usable = 1
role_tag Demodulator = 2
role_tag Goal = 3

abbrev role_from : ℕ → Role
role_from n =
    if n == 0 then Assumption
    else (if n == 1 then Usable else (if n == 2 then Demodulator else Goal))

pub role_back : (r : Role) → role_from (role_tag r) ≡ r
role_back Assumption = refl
role_back Usable = refl
role_back Demodulator = refl
role_back Goal = refl

abbrev is_function : Kind → Bool
is_function Function = true
is_function Relation = false

abbrev kind_from : Bool → Kind
kind_from b = if b then Function else Relation

pub kind_back : (k : Kind) → kind_from (is_function k) ≡ k
kind_back Function = refl
kind_back Relation = refl

abbrev pub coded_kind : Coded Kind
coded_kind = code_by Bool coded_bool is_function kind_from kind_back

abbrev pub coded_said : Coded Said
coded_said =
    code_by (ℕ × Fol) (coded× coded_ℕ coded_fol) (λ s. (role_tag s.role, s.formula))
    (λ p. said (role_from p.0) p.1) (λ s. ap (λ r. said r s.formula) (role_back s.role))

abbrev pub coded_symbol : Coded Symbol
coded_symbol =
    code_by (Kind × (ℕ × List ℕ)) (coded× coded_kind (coded× coded_ℕ (coded_list coded_ℕ)))
    (λ s. (s.kind, (s.arity, s.name))) (λ p. symbol p.1.1 p.1.0 p.0) (λ _. refl)

abbrev pub coded_stated : Coded Stated
coded_stated =
    code_by (List Symbol × List Said) (coded× (coded_list coded_symbol) (coded_list coded_said))
    (λ p. (p.symbols, p.formulas)) (λ q. stated q.0 q.1) (λ _. refl)
