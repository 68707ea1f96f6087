use Rattle.std.proofs.Common.{◌∙◌, refl, ap, sym, subst}
use Rattle.std.specs.List.{flat_map}
use Rattle.std.specs.Option.{IsSome}
use Rattle.fol_core.specs.RawView.{raw_list}
use Rattle.ladr_formulas.specs.Formulas.{Reading, formula_reading, style_of}
use Rattle.ladr_formulas.specs.declared.styles.Mode.TheVariants.{Prover}
use Rattle.proof_lines.specs.Counted.{cut}
use Rattle.proof_lines.specs.Strays.{brings_stray}
use Rattle.proof_lines.specs.declared.answered.RawAnswer.{RawAnswer}
use Rattle.proof_lines.proofs.AnsweredStated.{answers_cut, least_before, least_only, misuse_told, reading_is}
use Rattle.proof_lines.proofs.ClauseReadings.{clause_stated, meets_none}
use Rattle.proof_lines.proofs.Counting.{terms_from}
use Rattle.proof_lines.proofs.Steps.{strays_told}
use Rattle.proof_lines.proofs.stating.answered.Goals as goal

pub returns-in-Some-clause-fault : goal.returns-in-Some-clause-fault
returns-in-Some-clause-fault c = λ t h.
    let st = style_of Prover c.args.problem.now.options.prolog_style_variables in
    let problem = c.args.problem.now.symbols in
    let behind = raw_list c.gather.new.behind.items in
    let all = terms_from behind (raw_list c.new-terms.result.items) (flat_map (λ (a : RawAnswer). a.terms) c.args.answers.items) c.in_ok-counts.ensures.terms (ap raw_list c.new-terms.ensures.items) in
    let read = c.in_ok-read.ensures.read t h.0 in
    let strays = c.brings_stray-strays.ensures ∙ strays_told problem c.args.names.now c.len-before.result c.clause_with_terms.new.symbols c.requires.names ∙ ap (λ n. brings_stray problem n c.clause_with_terms.new.symbols) c.len-before.ensures.len in
    let told = misuse_told st problem c.args.symbols.now t c.args.answers.items behind all c.clause_with_terms.new.symbols c.brings_stray-strays.result c.in_ok-read.read.least c.meet.result read.symbols strays read.least c.meet.ensures in
    sym told ∙ c.in-Some.is

pub unwrap-requires : goal.unwrap-requires
unwrap-requires c =
    let st = style_of Prover c.args.problem.now.options.prolog_style_variables in
    let problem = c.args.problem.now.symbols in
    let behind = raw_list c.gather.new.behind.items in
    let all = terms_from behind (raw_list c.new-terms.result.items) (flat_map (λ (a : RawAnswer). a.terms) c.args.answers.items) c.in_ok-counts.ensures.terms (ap raw_list c.new-terms.ensures.items) in
    let t = c.requires.literals.0 in
    let read = c.in_ok-read.ensures.read t c.requires.literals.1.0 in
    let met = meets_none _ _ _ (sym (c.meet.ensures (least_only c.in_ok-read.read.least (formula_reading st c.args.symbols.now t).reading) refl) ∙ c.in-None.is) in
    let least = least_before st problem c.args.symbols.now t c.args.answers.items behind all (sym read.least ∙ met) in
    let some = clause_stated st c.args.symbols.now t c.requires.literals.1.1 least in
    subst (λ o. IsSome o) (sym (read.clause ∙ some.1)) refl

pub returns-clause-stated : goal.returns-clause-stated
returns-clause-stated c = λ t h.
    let st = style_of Prover c.args.problem.now.options.prolog_style_variables in
    let problem = c.args.problem.now.symbols in
    let behind = raw_list c.gather.new.behind.items in
    let all = terms_from behind (raw_list c.new-terms.result.items) (flat_map (λ (a : RawAnswer). a.terms) c.args.answers.items) c.in_ok-counts.ensures.terms (ap raw_list c.new-terms.ensures.items) in
    let read = c.in_ok-read.ensures.read t h.0 in
    let strays = c.brings_stray-strays.ensures ∙ strays_told problem c.args.names.now c.len-before.result c.clause_with_terms.new.symbols c.requires.names ∙ ap (λ n. brings_stray problem n c.clause_with_terms.new.symbols) c.len-before.ensures.len in
    let told = misuse_told st problem c.args.symbols.now t c.args.answers.items behind all c.clause_with_terms.new.symbols c.brings_stray-strays.result c.in_ok-read.read.least c.meet.result read.symbols strays read.least c.meet.ensures in
    record {
      unmisused = sym told ∙ c.in-None.is;
      content_is = sym read.clause ∙ c.unwrap.ensures;
      symbols = read.symbols ∙ ap (λ (s : Reading). s.symbols) (reading_is st problem c.args.symbols.now t c.args.answers.items behind all);
    }

pub returns-clause-answers : goal.returns-clause-answers
returns-clause-answers c = λ t h.
    let st = style_of Prover c.args.problem.now.options.prolog_style_variables in
    let problem = c.args.problem.now.symbols in
    let behind = raw_list c.gather.new.behind.items in
    let all = terms_from behind (raw_list c.new-terms.result.items) (flat_map (λ (a : RawAnswer). a.terms) c.args.answers.items) c.in_ok-counts.ensures.terms (ap raw_list c.new-terms.ensures.items) in
    let read = c.in_ok-read.ensures.read t h.0 in
    c.in_ok-notes-in-None.ensures
    ∙ ap (λ cs. cut cs c.in_ok-read.made) (c.deref.ensures.value ∙ c.in_ok-counts.ensures.counts)
    ∙ answers_cut st problem c.args.symbols.now t c.args.answers.items behind all c.in_ok-read.made read.terms
