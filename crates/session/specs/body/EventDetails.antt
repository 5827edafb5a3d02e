-- The details of an EVENT, in three parts.
use Rattle.std.specs.Prelude.{Bool, true, cond, codes, List, ℕ}
use Rattle.message_tree.specs.Data.{flag, text, Entries, no_entries, entry}
use Rattle.wamp_messages.specs.declared.item.Publication.{Publication}
use Rattle.session.specs.ToClient.{number}

abbrev pub publisher_entries : Publication → Entries
publisher_entries p =
    cond p.disclosed
    (entry (codes "publisher") (number p.publisher.id) (entry (codes "publisher_authid") (text p.publisher.authid) (entry (codes "publisher_authrole") (text p.publisher.authrole) no_entries)))
    no_entries

abbrev pub retained_entries : Bool → Entries
retained_entries retained = cond retained (entry (codes "retained") (flag true) no_entries) no_entries

abbrev pub topic_entries : Bool → List ℕ → Entries
topic_entries with_topic topic = cond with_topic (entry (codes "topic") (text topic) no_entries) no_entries
