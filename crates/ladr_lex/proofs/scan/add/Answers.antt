use Rattle.std.proofs.Common.{refl}
use Rattle.ladr_lex.specs.Tokens.{token_text, token_start}
use Rattle.ladr_lex.proofs.ItemLemmas.{stop_told, stop_pushed}
use Rattle.ladr_lex.proofs.Steps.{advances_pushed, text_kind}
use Rattle.ladr_lex.proofs.scan.add.Goals as goal

pub returns-clause-cut : goal.returns-clause-cut
unfolding token_text token_start
returns-clause-cut c = advances_pushed c.args.text.now.start c.args.text.now.bytes.now c.args.found.now.items _ _ c.args.at c.args.end c.in_ok-push.ensures.items c.requires.place c.requires.token c.requires.end refl refl

pub returns-clause-added : goal.returns-clause-added
unfolding token_text token_start
returns-clause-added c = (_, c.in_ok-push.ensures.items, stop_told _ _ _ (text_kind c.args.text.now.bytes.now _ c.args.at c.args.end c.requires.place c.requires.token c.requires.end refl))

pub returns-clause-stop : goal.returns-clause-stop
unfolding token_text token_start
returns-clause-stop c =
    stop_pushed c.args.found.now.items _ _ _ c.in_ok-push.ensures.items
    (stop_told _ _ _ (text_kind c.args.text.now.bytes.now _ c.args.at c.args.end c.requires.place c.requires.token c.requires.end refl))
