use Rattle.std.proofs.Common.{◌∙◌, sym, ap, length, drop}
use Rattle.std.proofs.lemmas.List.{length-drop}
use Rattle.ladr_commands.proofs.Forms.{length-lexemes_of}
use Rattle.ladr_commands.proofs.cursor.Cursor.left.Goals as goal

pub returns : goal.returns
returns c = sym (sym (ap length c.self.view_is) ∙ length-lexemes_of (drop c.self.inside.at c.self.inside.tokens.now) ∙ length-drop c.self.inside.at c.self.inside.tokens.now)
