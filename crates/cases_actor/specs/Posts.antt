-- Whose post it is, and what it brings.
use Rattle.std.specs.Prelude.{◌≡◌, ◌==◌, ℕ, Bool, false, None}
use Rattle.realm_inbox.specs.declared.act.Act.{Act}
use Rattle.realm_inbox.specs.declared.act.Act.TheVariants.{Join}
use Rattle.realm_inbox.specs.declared.joining.Joining.{Joining}
use Rattle.realm_inbox.specs.declared.letter.Post.{Post}
use Rattle.realm_inbox.specs.declared.letter.Post.TheVariants as post
use Rattle.realm_inbox.specs.Seats.{conn_of_letter}
use Rattle.case_posts.specs.declared.wire.Wire.{Wire}

-- it is an act of c
abbrev pub is_of : ℕ → Post Wire → Bool
is_of c (post.Act l) = conn_of_letter l == c
is_of c (post.Stop halt) = false

-- if it is a Join, it brings an outbox for which no chronicle is picked
abbrev pub BringsNone : Act Wire → Type 0
BringsNone act = (joining : Joining Wire) → act ≡ Join joining → joining.outbox.chronicle ≡ None
