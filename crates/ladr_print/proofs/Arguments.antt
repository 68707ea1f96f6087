-- The arguments of a name, by how many they are.
use Rattle.std.proofs.Common.{◌≡◌, ℕ, get_or, Bool, true, false, List, [], ◌∷◌, length, Some, refl, arith}
use Rattle.std.specs.Prelude.{◌==◌}
use Rattle.fol_core.specs.RawTree.{raws_of}
use Rattle.fol_core.specs.RawView.{raw_of, raw_list}
use Rattle.fol_core.specs.declared.raw.Raw.{Raw}
use Rattle.ladr_lex.specs.declared.operators.Operator.{Operator}
use Rattle.ladr_print.specs.Precedences.{is_infix, arity}
use Rattle.ladr_print.specs.RawText.{application_text, with_one, with_two, arranged, printed, printed_all}
use Rattle.ladr_reader.specs.Table.{OperatorTable}

pub one_is : (g : OperatorTable) (o : Operator) (s : List ℕ) (ts : List Raw) (d : Raw) → length ts ≡ 1 →
    arranged (Some o) s (printed_all g (raws_of (raw_list ts))) ≡ with_one o s (printed g (raw_of (get_or ts 0 d)))
one_is g o s [] d h = absurd (cc)
one_is g o s (t ∷ []) d h = refl
one_is g o s (t ∷ u ∷ ts) d h = absurd (omega arith)

pub two_are : (g : OperatorTable) (o : Operator) (s : List ℕ) (ts : List Raw) (d e : Raw) → length ts ≡ 2 →
    arranged (Some o) s (printed_all g (raws_of (raw_list ts))) ≡ with_two o s (printed g (raw_of (get_or ts 0 d))) (printed g (raw_of (get_or ts 1 e)))
two_are g o s [] d e h = absurd (cc)
two_are g o s (t ∷ []) d e h = absurd (omega arith)
two_are g o s (t ∷ u ∷ []) d e h = refl
two_are g o s (t ∷ u ∷ v ∷ ts) d e h = absurd (omega arith)

pub no_operands : (g : OperatorTable) (o : Operator) (s : List ℕ) (ts : List Raw) → (length ts == arity o.kind) ≡ false →
    arranged (Some o) s (printed_all g (raws_of (raw_list ts))) ≡ application_text s (printed_all g (raws_of (raw_list ts)))
no_operands g o s [] h = refl
no_operands g o s (t ∷ []) h = by (is_infix o.kind) refl
  where
    by : (b : Bool) → is_infix o.kind ≡ b → with_one o s (printed g (raw_of t)) ≡ application_text s (printed g (raw_of t) ∷ [])
    by true e = rw e refl
    by false e = absurd (let f : (1 == arity o.kind) ≡ true = rw e refl in cc)
no_operands g o s (t ∷ u ∷ []) h = by (is_infix o.kind) refl
  where
    by : (b : Bool) → is_infix o.kind ≡ b → with_two o s (printed g (raw_of t)) (printed g (raw_of u)) ≡ application_text s (printed g (raw_of t) ∷ printed g (raw_of u) ∷ [])
    by false e = rw e refl
    by true e = absurd (let f : (2 == arity o.kind) ≡ true = rw e refl in cc)
no_operands g o s (t ∷ u ∷ v ∷ ts) h = refl
