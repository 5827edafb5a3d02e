-- What a realm publishes of its sessions: that one has joined, and that one has left.
-- (WAMP, "Session Meta API": `wamp.session.on_join`, `wamp.session.on_leave`. Their arguments are this broker's own choice.)
use Rattle.std.specs.Prelude.{ℕ, pos, false, List, codes, None, Some}
use Rattle.message_tree.specs.Data.{whole, text, list, dict, Items, no_items, item, no_entries, entry}
use Rattle.wamp_ids.specs.Numbers.{id_of_word}
use Rattle.eligibility.specs.Lists.{everyone}
use Rattle.eligibility.specs.declared.who.Who.{Who}
use Rattle.wamp_messages.specs.Arguments.{Arguments}
use Rattle.wamp_messages.specs.declared.item.Publication.{Publication}

-- arguments that are a list alone
abbrev pub listed : Items → Arguments
listed items = record { args = Some (list items); kwargs = None }

-- what is published of the session w: to everyone but w itself, without naming it as the publisher
abbrev pub announcement : ℕ → Who → List ℕ → Items → Publication
announcement word w topic items = record {
  id = id_of_word word;
  topic = topic;
  lists = everyone;
  publisher = w;
  disclosed = false;
  args = listed items;
}

-- [{"authid": .., "authrole": .., "session": ..}]
abbrev pub joined_items : Who → Items
joined_items w =
    item (dict (entry (codes "authid") (text w.authid) (entry (codes "authrole") (text w.authrole) (entry (codes "session") (whole (pos w.id)) no_entries)))) no_items

-- [id, authid, authrole]
abbrev pub left_items : Who → Items
left_items w = item (whole (pos w.id)) (item (text w.authid) (item (text w.authrole) no_items))

-- w has joined
abbrev pub arrival : ℕ → Who → Publication
arrival word w = announcement word w (codes "wamp.session.on_join") (joined_items w)

-- w has left
abbrev pub departure : ℕ → Who → Publication
departure word w = announcement word w (codes "wamp.session.on_leave") (left_items w)
