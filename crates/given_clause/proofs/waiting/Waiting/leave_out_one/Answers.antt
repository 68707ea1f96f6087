use Rattle.std.proofs.Common.{not, ◌==◌, filter, sym, ap, ◌∙◌, map}
use Rattle.given_clause.specs.Noted.{note_of}
use Rattle.given_clause.proofs.Noting.{noted_less}
use Rattle.given_clause.proofs.waiting.Waiting.leave_out_one.Goals as goal

pub returns-clause-noted : goal.returns-clause-noted
returns-clause-noted c st noted =
    c.leave_out_note.ensures ∙ ap (filter (λ n. not (n.number == c.args.number))) noted ∙ noted_less st c.args.number c.args.self.now.held ∙ sym (ap (map (note_of st)) c.leave_out_one.ensures)
