use Rattle.std.proofs.Common.{ap, sym, ◌∙◌}
use Rattle.eligibility.specs.Options.{text_of}
use Rattle.msgpack_cursor.specs.Unread.{Rest}
use Rattle.session.specs.FromClient.{first}
use Rattle.session.proofs.messages.octet_elements.OctetElementsMessageElements.pass_text.Goals as goal

pub returns-clause-ok : goal.returns-clause-ok
returns-clause-ok c = (c.in-Some._text.now, ap (λ (r : Rest). first text_of r.items) (sym c.self.view_is) ∙ ap (first text_of) c.in-Some.ensures.some.items)
