use Rattle.std.proofs.Common.{[], false, inl, refl}
use Rattle.session.specs.Opened.{exchange}
use Rattle.client_commands.proofs.listener.Listener.miss.Goals as goal

pub returns : goal.returns
returns c = λ command lines notes. record {
  listener = record { left = c.args.self.now.left; is_subscribed = false };
  left = refl;
  last = exchange [] [];
  prints = inl (record { unprinted = refl; unnoted = refl; uncounted = refl; unsubscribed = refl });
}
