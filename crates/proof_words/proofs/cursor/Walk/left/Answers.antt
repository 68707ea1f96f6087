use Rattle.std.proofs.Common.{◌∙◌, sym, ap, length, drop}
use Rattle.std.proofs.lemmas.List.{length-drop}
use Rattle.proof_words.proofs.Spellings.{length-lexemes_of}
use Rattle.proof_words.proofs.cursor.Walk.left.Goals as goal

pub returns : goal.returns
returns c = sym (sym (ap length c.self.view_is) ∙ length-lexemes_of (drop c.self.inside.at c.self.inside.tokens.now) ∙ length-drop c.self.inside.at c.self.inside.tokens.now)
