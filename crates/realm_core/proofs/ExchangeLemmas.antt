-- What an Exchange keeps, after a change.
use Rattle.std.proofs.Common.{◌≡◌, ℕ, true, cond, List, [], ◌∷◌, ◌++◌, map, refl, sym, ap, ◌∙◌, append_assoc}
use Rattle.std.proofs.lemmas.Bool.{eq-eqb}
use Rattle.std.proofs.lemmas.List.{map-append}
use Rattle.std.specs.declared.snapshot.Snapshot.{Snapshot}
use Rattle.wamp_messages.specs.declared.item.Item.{Item}
use Rattle.realm.specs.Given.{items_for}
use Rattle.realm_core.specs.body.Exchange.{AreBetween, AgreesWith, course_of}
use Rattle.std.specs.List.{filter}
use Rattle.realm.specs.History.{History}
use Rattle.realm.specs.Sessions.{live}
use Rattle.realm_core.specs.Worlds.{unless_any, marked, may_enter, may_leave, IsLeast}
use Rattle.realm.specs.declared.entry.Entry.{Entry}
use Rattle.realm_core.specs.declared.exchange.Exchange.TheInside.{Inside}
use Rattle.realm_core.specs.body.Outboxes.{Outboxes, outbox_of}
use Rattle.realm.proofs.Lemmas.{items_for-append}
use Rattle.realm_core.proofs.WorldInvariant.{unless-front, unless-in, in-filter}
use Rattle.realm_core.proofs.ItemLists.{if_for}
use Rattle.realm_core.proofs.QueueLemmas.{between, between-is}

-- what was seen
abbrev pub seen : {X : Type 0} → List (Snapshot X) → List X
seen xs = map (λ s. s.value) xs

pub seen-last : {X : Type 0} (xs next : List (Snapshot X)) (one : Snapshot X) (x : X) → next ≡ xs ++ one ∷ [] → one.value ≡ x → seen next ≡ seen xs ++ x ∷ []
seen-last xs next one x is value = ap seen is ∙ rw map-append (ap (λ y. seen xs ++ y ∷ []) value)

pub waits : (c : ℕ) (added taken : List (ℕ × Item)) (outboxes : Outboxes) → AreBetween added taken outboxes → between c added taken ≡ outbox_of outboxes c
waits c added taken outboxes b = between-is c added taken (outbox_of outboxes c) (b c)

-- the items are as they were
pub between-same : (added taken : List (ℕ × Item)) (outboxes then : Outboxes) → ((c : ℕ) → outbox_of then c ≡ outbox_of outboxes c) → AreBetween added taken outboxes → AreBetween added taken then
between-same added taken outboxes then same b c = b c ∙ ap (λ l. items_for c taken ++ l) (sym (same c))

pub between-pushed : (added next taken : List (ℕ × Item)) (outboxes then : Outboxes) (x : ℕ × Item)
    → next ≡ added ++ x ∷ [] → ((c : ℕ) → outbox_of then c ≡ outbox_of outboxes c ++ if_for c x.0 x.1) → AreBetween added taken outboxes → AreBetween next taken then
between-pushed added next taken outboxes then x next_is then_is b c =
    ap (items_for c) next_is ∙ items_for-append c added (x ∷ []) ∙ ap (λ l. l ++ if_for c x.0 x.1) (b c)
    ∙ append_assoc (items_for c taken) (outbox_of outboxes c) (if_for c x.0 x.1)
    ∙ ap (λ l. items_for c taken ++ l) (sym (then_is c))

pub between-taken : (added taken next : List (ℕ × Item)) (outboxes then : Outboxes) (x : ℕ × Item)
    → next ≡ taken ++ x ∷ [] → ((c : ℕ) → outbox_of outboxes c ≡ if_for c x.0 x.1 ++ outbox_of then c) → AreBetween added taken outboxes → AreBetween added next then
between-taken added taken next outboxes then x next_is out b d =
    b d ∙ ap (λ l. items_for d taken ++ l) (out d)
    ∙ sym (append_assoc (items_for d taken) (if_for d x.0 x.1) (outbox_of then d))
    ∙ ap (λ l. l ++ outbox_of then d) (sym (items_for-append d taken (x ∷ [])) ∙ ap (items_for d) (sym next_is))

-- what is taken out is the front
pub takes-front : (outboxes then : Outboxes) (c : ℕ) (item : Item) → ((d : ℕ) → outbox_of outboxes d ≡ if_for d c item ++ outbox_of then d) → outbox_of outboxes c ≡ item ∷ outbox_of then c
takes-front outboxes then c item out = out c ∙ ap (λ b. cond b (item ∷ []) [] ++ outbox_of then c) (eq-eqb c c refl)

-- the least of those that may be cut is live
pub least-live : (h : History) (pushing : List (ℕ × Item)) (full : List ℕ) (c : ℕ) → IsLeast c (unless_any pushing (filter (live h) full)) → live h c ≡ true
least-live h pushing full c least = (in-filter (live h) full c (unless-in pushing (filter (live h) full) c least.among).1).1

-- the marks tell what may enter, and who is to be cut
pub enters-by-marks : (i : Inside) (marks : List ℕ) → AgreesWith i → marks ≡ i.marks.items → unless_any i.pushing.items (unless_any (filter (live i.realm) marks) i.inbox.items) ≡ may_enter (course_of i)
enters-by-marks i marks agrees is = ap (λ l. unless_any i.pushing.items (unless_any l i.inbox.items)) (ap (filter (live i.realm)) is ∙ sym agrees.marked.still_live)

pub leaves-by-marks : (i : Inside) (marks : List ℕ) → AgreesWith i → marks ≡ i.marks.items → unless_any i.pushing.items (filter (live i.realm) marks) ≡ may_leave (course_of i)
leaves-by-marks i marks agrees is = ap (unless_any i.pushing.items) (ap (filter (live i.realm)) is ∙ sym agrees.marked.still_live)

-- where an entry may enter, nobody that was found full is live
pub nobody-marked : (i : Inside) (e : Entry) (rest : List Entry) → may_enter (course_of i) ≡ e ∷ rest → marked (course_of i) ≡ []
nobody-marked i e rest front =
    (unless-front (marked (course_of i)) i.inbox.items rest e (unless-front i.pushing.items (unless_any (marked (course_of i)) i.inbox.items) rest e front).1).0
