-- A client's whole session, from its octets to its octets.
use Rattle.std.specs.Prelude.{◌≡◌, ◌≢◌, ◌≤◌, ◌⊎◌, ◌==◌, ℕ, Bool, true, false, cond, if◌then◌else◌, List, [], ◌∷◌, ◌++◌, Option, Some, Err, length, slice_get}
use Rattle.std.specs.List.{list_any}
use mathlib.Core.List.{IsPrefix}
use Rattle.broker_threads.specs.Streams.{Offer, Sight}
use Rattle.broker_threads.specs.declared.stream_fate.SessionEnds.{SessionEnds}
use Rattle.connection.specs.declared.reader.ReadEnd.TheVariants.{ActorGone}
use Rattle.connection.specs.declared.writer.WriteEnd.TheVariants.{Full, Lost, Stopped}
use Rattle.eligibility.specs.declared.who.Who.{Who}
use Rattle.realm.specs.History.{Begins, History, begun, ◌▷◌}
use Rattle.realm.specs.Sessions.{admission, conn_of, is_last_word}
use Rattle.realm.specs.Yield.{owed}
use Rattle.realm.specs.declared.entry.Entry.{Entry}
use Rattle.realm.specs.declared.entry.Entry.TheVariants as entry
use Rattle.realm_actor.specs.Handle.{entry_of}
use Rattle.realm_inbox.specs.declared.act.Act.{Act}
use Rattle.realm_inbox.specs.declared.act.Act.TheVariants.{Join, Said, Ping, Spoilt, Gone}
use Rattle.threaded_server.specs.Histories.{Start}
use Rattle.threaded_server.specs.Lending.{Lending}
use Rattle.threaded_server.specs.Served.{IsSession, LentStream, Served}
use Rattle.threaded_server.specs.declared.answer.Answer.{Answer}
use Rattle.wamp_messages.specs.declared.item.Item.{Item}
use Rattle.wamp_messages.specs.declared.item.Item.TheVariants as item
use Rattle.wamp_messages.specs.declared.item.Reason.{Reason}
use Rattle.wamp_messages.specs.declared.item.Reason.TheVariants.{GoodbyeAndOut}
use Rattle.wamp_messages.specs.declared.said.Said.TheVariants as word

-- the entries that a history has of a connection, the oldest first
abbrev pub entries_of : History → ℕ → List Entry
entries_of (begun grants) c = []
entries_of (h ▷ e) c = entries_of h c ++ cond (conn_of e == c) (e ∷ []) []

-- Its Join was refused: that is its one entry, and it was written ABORT alone
pub record WasRefused (h : History) (c : ℕ) (items : List Item) : Type 0 where
  pub before : History
  pub word : ℕ
  pub authid : Option (List ℕ)
  pub reason : Reason
  pub begins : Begins (before ▷ entry.Join c word authid) h
  pub refused : admission before c word authid ≡ Err reason
  pub alone : entries_of h c ≡ entry.Join c word authid ∷ []
  pub answered : items ≡ item.Abort reason ∷ []

-- this is its last element
abbrev pub EndsIn : {A : Type 0} → List A → A → Type 0
EndsIn {A} xs x = (front : List A) × (xs ≡ front ++ x ∷ [])

-- the first of these items is WELCOME
abbrev pub IsWelcomed : List Item → Type 0
IsWelcomed items = (w : Who) × (rest : List Item) × (items ≡ item.Welcome w ∷ rest)

module _ {S : Type 0} where
  -- after it nothing more of a session counts: a GOODBYE, an ABORT, a second HELLO, what breaks the protocol, or the end of its stream
  abbrev pub is_last : Act S → Bool
  is_last (Join joining) = false
  is_last (Said said) = is_last_word said
  is_last (Ping payload) = false
  is_last Spoilt = true
  is_last Gone = true

  -- acts up to the first such one
  abbrev pub until_last : List (Act S) → List (Act S)
  until_last [] = []
  until_last (act ∷ acts) = act ∷ (if is_last act then [] else until_last acts)

  -- each act entered by some word, in their order, and nothing else
  abbrev pub AllEnter : ℕ → List (Act S) → List Entry → Type 0
  AllEnter c [] [] = Unit {0}
  AllEnter c [] (e ∷ entries) = ⊥
  AllEnter c (act ∷ acts) [] = ⊥
  AllEnter c (act ∷ acts) (e ∷ entries) = ((word : ℕ) × (e ≡ entry_of c act word)) × AllEnter c acts entries

  -- where the last of these acts is a GOODBYE, the last of the items is its answer
  abbrev pub IsAnswered : List (Act S) → List Item → Type 0
  IsAnswered acts items = EndsIn acts (Said word.Goodbye) → EndsIn items (item.Goodbye GoodbyeAndOut)

  -- All that a session said entered its realm's history, up to what ended it, and nothing else of it did. Its first item is WELCOME, and where a GOODBYE ended it, its last is the answer
  pub record WentWhole (c : ℕ) (posted : List (Act S)) (h : History) (items : List Item) : Type 0 where
    pub over : list_any is_last posted ≡ true
    pub entered : AllEnter c (until_last posted) (entries_of h c)
    pub welcomed : IsWelcomed items
    pub answered : IsAnswered (until_last posted) items

  -- It was cut: what it had said before entered, its Join first, and then the Cut. Nothing of it entered behind that: what ended it was missed
  pub record WasCut (c : ℕ) (posted : List (Act S)) (h : History) : Type 0 where
    pub said : List (Act S)
    pub missed : List (Act S)
    pub posted_are : posted ≡ said ++ missed
    pub some : said ≢ []
    pub going : list_any is_last said ≡ false
    pub entries : List Entry
    pub entered : AllEnter c said entries
    pub word : Option ℕ
    pub cut_then : entries_of h c ≡ entries ++ entry.Cut c word ∷ []

module _ (I O S : Type 0) where
  -- Nobody is cut for nothing, and no Join is lost untold. To a session that was over before the actors were told to stop, by its client's farewell, what broke the protocol, the end or
  -- failure of its stream or want of memory, and of which the writer stopped, which wasn't told Full or Lost, exactly that was written which the one history of its realm owes it; and that
  -- history has all that it posted, in order, up to what ended it. Or its Join was refused. Only ActorGone is left out: then nobody receives any more
  abbrev pub SessionsGoWhole : Type 0
  SessionsGoWhole = (see : Sight I O) (offer : Offer) (start : Start) (before now : List Answer) (was lending : Lending I O) (asked : ℕ) (served : Served S see offer start before now was lending asked) (i : ℕ) (s : LentStream I O S) (conn : ℕ) (ends : SessionEnds)
      → slice_get served.early i ≡ Some s → s.conn ≡ Some conn → (h : IsSession see offer served.realms s conn ends) → ends.read ≢ ActorGone → ends.write ≡ Stopped
      → (h.items ≡ owed h.realm.history conn) × (WentWhole conn s.posted h.realm.history h.items ⊎ WasRefused h.realm.history conn h.items)

  -- The same where it was told Lost: exactly that was written which it is owed, and it was cut. Where it was told Full, a beginning of that was written, as many items as its outbox holds,
  -- or more; and it went whole, or was cut, or its Join was refused
  abbrev pub CutSessionsAreTold : Type 0
  CutSessionsAreTold = (see : Sight I O) (offer : Offer) (start : Start) (before now : List Answer) (was lending : Lending I O) (asked : ℕ) (served : Served S see offer start before now was lending asked) (i : ℕ) (s : LentStream I O S) (conn : ℕ) (ends : SessionEnds)
      → slice_get served.early i ≡ Some s → s.conn ≡ Some conn → (h : IsSession see offer served.realms s conn ends) → ends.read ≢ ActorGone
      → (ends.write ≡ Lost → (h.items ≡ owed h.realm.history conn) × WasCut conn s.posted h.realm.history)
      × (ends.write ≡ Full → (IsPrefix h.items (owed h.realm.history conn) × (offer.room ≤ length h.items))
      × (WentWhole conn s.posted h.realm.history (owed h.realm.history conn) ⊎ (WasCut conn s.posted h.realm.history ⊎ WasRefused h.realm.history conn (owed h.realm.history conn))))
