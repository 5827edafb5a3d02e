use Rattle.std.proofs.Common.{refl}
use Rattle.session.proofs.messages.details.features.Goals as goal

pub returns : goal.returns
returns c = record { ok = rw (c.in_ok-put_flag-5.ensures.ok, c.in_ok-put_flag-4.ensures.ok, c.in_ok-put_flag-3.ensures.ok, c.in_ok-put_flag-2.ensures.ok, c.in_ok-put_flag.ensures.ok, c.new-dict.ensures) refl }
