use Rattle.words_print.proofs.LetterNames.{with_front}
use Rattle.words_print.proofs.words.+literal_name.Goals as goal

pub returns-then-place-ge26 : goal.returns-then-place-ge26
returns-then-place-ge26 n c =
    with_front c.args.out.now.items c.literal_name.new.out.items c.push.new.self.items c.args.place c.if-place-ge26.true c.in_ok-literal_name.ensures c.in_ok-push.ensures.items
