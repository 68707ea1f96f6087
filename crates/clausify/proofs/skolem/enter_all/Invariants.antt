-- What is entered and told for the rest goes on from what is there.
use Rattle.std.proofs.Common.{◌≡◌, ◌++◌, drop}
use Rattle.fol_core.specs.SymbolTable.{KeepsNumbers}
use Rattle.clausify.specs.Names.{skolem_symbols, all_entered, entered_numbers, HasNoSkolemRelation}
use Rattle.clausify.proofs.skolem.enter_all.Given as goal

abbrev pub invariant-loop-arity : goal.invariant-loop-arity
invariant-loop-arity l =
    let rest = skolem_symbols l.input l.last.constants l.last.functions (drop l.arity-index l.arities) in
    let all = skolem_symbols l.input 0 0 l.arities in
    record {
      table : all_entered l.symbols rest ≡ all_entered l.fn.symbols all;
      numbers : l.made.items ++ entered_numbers l.symbols rest ≡ entered_numbers l.fn.symbols all;
      none : HasNoSkolemRelation l.input l.symbols;
      kept : KeepsNumbers l.fn.symbols l.symbols;
    }
