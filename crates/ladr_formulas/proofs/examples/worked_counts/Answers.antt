use Rattle.std.proofs.Common.{ℕ, suc, ◌<◌, replicate, length, refl, arith}
use Rattle.std.specs.Prelude.{codes}
use Rattle.fol_core.specs.SymbolTable.{Symbol, symbol}
use Rattle.fol_core.specs.declared.symbols.Kind.TheVariants.{Function}
use Rattle.std.proofs.lemmas.List.{length-replicate}
use Rattle.ladr_lex.specs.declared.limits.TheConstants.{MOST_SYMBOLS}
use Rattle.ladr_formulas.proofs.examples.worked_counts.Goals as goal

-- one more of them than any number
one_more : (n : ℕ) (x : Symbol) → n < length (replicate (suc n) x)
one_more n x = omega (arith, length-replicate (suc n) x)

pub returns : goal.returns
returns c = record {
  entered = refl;
  known = refl;
  arities = refl;
  over = one_more MOST_SYMBOLS (symbol (codes "f") 1 Function);
  most = refl;
  wide = refl;
}
