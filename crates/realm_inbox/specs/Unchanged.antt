-- What a call leaves as it was.
use Rattle.std.specs.Prelude.{◌≡◌}
use Rattle.realm_inbox.specs.declared.ends.Poster.{Poster}
use Rattle.realm_inbox.specs.EndViews.{posted, poster_conn, inbox_of_poster, weights_by, returned_by}

-- a poster, as contracts see it
abbrev pub IsSamePoster : {S : Type 0} → Poster S → Poster S → Type 0
IsSamePoster p q = (poster_conn q ≡ poster_conn p) × (posted q ≡ posted p) × (inbox_of_poster q ≡ inbox_of_poster p) × (weights_by q ≡ weights_by p) × (returned_by q ≡ returned_by p)
