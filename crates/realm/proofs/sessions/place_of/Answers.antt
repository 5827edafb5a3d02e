use Rattle.std.proofs.Common.{rules}
use Rattle.std.proofs.lemmas.Fn.{always_returns_same}
use Rattle.realm.proofs.LiveListOrder.{found-place}
use Rattle.realm.proofs.sessions.place_of.Goals as goal

-- the closure gives a session's connection
pub returns : goal.returns
returns c =
    let halves = c.binary_search_by_key.ensures in
    rw (← c.value.ensures.number) (found-place _ _ _ c.requires halves.bound (halves.position (λ w. w.conn) (always_returns_same _ _ _ (λ w n g called. search rules))))
