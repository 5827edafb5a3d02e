-- What is seen of a World, as data.
use Rattle.std.specs.Prelude.{ℕ, List, refl}
use Rattle.std.specs.Coded.{Coded, code_by, coded×, coded_list, coded_ℕ}
use Rattle.wamp_messages.specs.declared.item.Item.{Item}
use Rattle.wamp_messages.specs.contracts.item.Item.{the_row as item_row}
use Rattle.realm.specs.declared.entry.Entry.{Entry}
use Rattle.realm.specs.contracts.entry.Entry.{the_row as entry_row}
use Rattle.realm.specs.History.{History}
use Rattle.realm.specs.body.HistoryCode.{history_code}
use Rattle.realm_core.specs.Worlds.{Course}

abbrev pub Items : Type 0
Items = List (ℕ × Item)

abbrev pub items_code : Coded Items
items_code = coded_list (coded× coded_ℕ item_row.coded)

abbrev pub posts_code : Coded (List Entry)
posts_code = coded_list entry_row.coded

abbrev pub CourseData : Type 0
CourseData = History × ((ℕ × ℕ) × ((List Entry × (List Entry × List Entry)) × ((Items × List ℕ) × (Items × Items))))

abbrev pub course_code : Coded Course
course_code =
    code_by CourseData
    (coded× history_code (coded× (coded× coded_ℕ coded_ℕ) (coded× (coded× posts_code (coded× posts_code posts_code)) (coded× (coded× items_code (coded_list coded_ℕ)) (coded× items_code items_code)))))
    (λ w. (w.history, ((w.inbox_cap, w.outbox_cap), ((w.posted, (w.inbox, w.lost)), ((w.pushing, w.full), (w.added, w.taken))))))
    (λ p. record {
      history = p.0;
      inbox_cap = p.1.0.0;
      outbox_cap = p.1.0.1;
      posted = p.1.1.0.0;
      inbox = p.1.1.0.1.0;
      lost = p.1.1.0.1.1;
      pushing = p.1.1.1.0.0;
      full = p.1.1.1.0.1;
      added = p.1.1.1.1.0;
      taken = p.1.1.1.1.1;
    })
    (λ _. refl)
