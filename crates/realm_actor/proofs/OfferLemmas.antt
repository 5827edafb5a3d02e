-- One item is offered to an outbox.
use Rattle.std.proofs.Common.{◌≡◌, ◌+◌, ◌<◌, List, [], ◌∷◌, ◌++◌, length, refl, sym, ap, subst, ◌∙◌, append_assoc, arith}
use Rattle.std.specs.Prelude.{slice_get, Option, Some, None}
use Rattle.atomic_table.specs.Seated.{TableId}
use Rattle.chronicle.specs.Recorded.{Recorded}
use Rattle.outbox_queue.specs.Rule.{Grows}
use Rattle.outbox_queue.specs.Tied.{Kept, history_of}
use Rattle.outbox_queue.specs.declared.owed.Note.{Note}
use Rattle.wamp_messages.specs.declared.item.Item.{Item}
use Rattle.realm.specs.History.{History, Begins}
use Rattle.realm.specs.Yield.{owed}
use Rattle.realm_actor.specs.OutboxHistory.{Box, Follows}
use Rattle.realm_inbox.specs.HistoryBeginnings.{begins_same}

at_end : (xs ys : List Item) (x : Item) → slice_get (xs ++ x ∷ ys) (length xs) ≡ Some x
at_end [] ys x = refl
at_end (y ∷ xs) ys x = at_end xs ys x

-- the next item due stands at the next place of what is owed
pub next-owed : (h : History) (x : Item) (due : List Item) (o : Box) → Follows h (x ∷ due) o → o.full_finds ≡ 0 → slice_get (owed h o.conn) (length o.added) ≡ Some x
next-owed h x due o f never = ap (λ l. slice_get l (length o.added)) (sym (f.whole never)) ∙ at_end o.added due x

-- a history as a chronicle recorded it
abbrev pub recorded : TableId → History → Kept History
recorded own h = record { chronicle = own; history = h }

-- a chronicle that records what it has is as it was
pub told_again : (c d : Recorded History) (h k : History) → d ≡ record c { history = Some k } → k ≡ h → c.history ≡ Some h → d ≡ c
told_again c d h k is same told = is ∙ (λ i. record c { history = (ap (λ j. Some j) same ∙ sym told) i })

-- what begins a history begins it as any chronicle recorded it
pub grows_kept : (seen : Option (Kept History)) (k : Kept History) → Grows Begins (history_of seen) (Some k.history) → Grows (λ g j. Begins g.history j.history) seen (Some k)
grows_kept None k grows = tt
grows_kept (Some g) k grows = grows

-- it was added
pub Follows-added : (own : TableId) (h : History) (x : Item) (due : List Item) (o : Box) → Follows h (x ∷ due) o → o.full_finds ≡ 0
    → Follows h due (record o { history = Some (recorded own h); added = o.added ++ x ∷ [] })
Follows-added own h x due o f never =
    let all : (o.added ++ x ∷ []) ++ due ≡ owed h o.conn = append_assoc o.added (x ∷ []) due ∙ f.whole never in
    record { begins = (due, all); whole = λ _. all; stood = λ full. absurd (omega (arith, full, never)); seen = begins_same h; closed = λ shut. absurd (cc (f.closed shut)) }

-- the outbox was found full, now or before
pub Follows-full : (h : History) (x : Item) (due : List Item) (o : Box) → Follows h (x ∷ due) o → 0 < o.full_finds → Follows h due o
Follows-full h x due o f full = record { begins = f.begins; whole = λ never. absurd (omega (arith, full, never)); stood = f.stood; seen = f.seen; closed = λ shut. absurd (cc (f.closed shut)) }

pub Follows-refused : (h : History) (x : Item) (due : List Item) (o : Box) → Follows h (x ∷ due) o → Follows h due (record o { full_finds = o.full_finds + 1; added_at_find = length o.added })
Follows-refused h x due o f = record { begins = f.begins; whole = λ never. absurd (omega (arith, never)); stood = λ _. refl; seen = f.seen; closed = λ shut. absurd (cc (f.closed shut)) }

-- the same of a stamped item, as the outbox tells it
pub Follows-stamped : (own : TableId) (h : History) (x : Item) (due : List Item) (o p : Box) (s : Note Item (Kept History))
    → s ≡ record { item = x; conn = o.conn; place = length o.added; history = recorded own h }
    → p ≡ record o { history = Some s.history; added = o.added ++ s.item ∷ [] }
    → o.full_finds ≡ 0 → Follows h (x ∷ due) o → Follows h due p
Follows-stamped own h x due o p s stamp is never f =
    let told : p ≡ record o { history = Some (recorded own h); added = o.added ++ x ∷ [] } = is ∙ ap (λ (t : Note Item (Kept History)). let q : Box = record o { history = Some t.history; added = o.added ++ t.item ∷ [] } in q) stamp in
    subst (λ q. Follows h due q) (sym told) (Follows-added own h x due o f never)
