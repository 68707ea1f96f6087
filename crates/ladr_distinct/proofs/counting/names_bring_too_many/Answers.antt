use Rattle.std.proofs.Common.{◌+◌, ◌<◌, drop, List, ap, sym, subst, ◌∙◌}
use Rattle.fol_core.specs.SymbolTable.{Symbol}
use Rattle.ladr_distinct.specs.Symbols.{symbols_of_name, symbols_of_names}
use Rattle.ladr_distinct.proofs.NameSymbols.{entered_here, too_many}
use Rattle.ladr_formulas.specs.Counting.{all_entered}
use Rattle.ladr_lex.specs.declared.limits.TheConstants.{MOST_SYMBOLS}
use Rattle.ladr_distinct.proofs.counting.names_bring_too_many.Goals as goal

-- src/counting.rt:31:13
pub returns-then-len-gt-MOST_SYMBOLS-clause-many :
    goal.returns-then-len-gt-MOST_SYMBOLS-clause-many
returns-then-len-gt-MOST_SYMBOLS-clause-many c =
    let st = c.style_of-style.result in
    let rest = symbols_of_names st (drop (c.loop-name.name-index + 1) c.args.names.now) in
    let now = c.in_ok-enter_name.ensures.entered ∙ ap (λ s. all_entered c.loop-name.symbols (symbols_of_name st s)) c.bytes.ensures in
    let here = entered_here st c.loop-name.symbols c.args.names.now c.loop-name.name-index c.name-item.result c.loop-name-test.true c.name-item.is in
    too_many MOST_SYMBOLS c.enter_name.new.symbols rest _
    (subst (λ n. MOST_SYMBOLS < n) c.len.ensures.len c.if-len-gt-MOST_SYMBOLS.true)
    (ap (λ (t : List Symbol). all_entered t rest) now ∙ sym here ∙ c.loop-name.invariant.entered ∙ ap (λ s. all_entered c.args.symbols.now (symbols_of_names s c.args.names.now)) c.style_of-style.ensures)

-- src/counting.rt:28:5
pub loop-name-preserved : goal.loop-name-preserved
loop-name-preserved c =
    let st = c.style_of-style.result in
    let rest = symbols_of_names st (drop (c.loop-name.name-index + 1) c.args.names.now) in
    let now = c.in_ok-enter_name.ensures.entered ∙ ap (λ s. all_entered c.loop-name.symbols (symbols_of_name st s)) c.bytes.ensures in
    let here = entered_here st c.loop-name.symbols c.args.names.now c.loop-name.name-index c.name-item.result c.loop-name-test.true c.name-item.is in
    record {
      entered = ap (λ (t : List Symbol). all_entered t rest) now ∙ sym here ∙ c.loop-name.invariant.entered;
      kept = λ n s h. c.in_ok-enter_name.ensures.kept n s (c.loop-name.invariant.kept n s h);
    }
