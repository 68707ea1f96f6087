use Rattle.std.proofs.Common.{◌≡◌, Bool, true, false, cond, refl}
use Rattle.ladr_formulas.specs.Formulas.{is_free_name}
use Rattle.ladr_reader.proofs.Quoted.{behind_quote}
use Rattle.ladr_formulas.proofs.laws.quoted_names.Goals as goal

pub returns : goal.returns
returns c st = behind_quote (λ text. is_free_name st text ≡ false) (λ bs. either st.prolog)
  where
    either : (b : Bool) → (cond b false false) ≡ false
    either true = refl
    either false = refl
