-- Each stream that comes back is the one that was lent.
use Rattle.std.specs.Prelude.{◌≡◌, ◌⊎◌, ℕ, List, Some, slice_get}
use mathlib.Core.List.{IsPrefix}
use Rattle.threaded_server.specs.Histories.{Start}
use Rattle.threaded_server.specs.Lending.{Lending, Returned}
use Rattle.threaded_server.specs.Served.{LentStream, Served}
use Rattle.broker_threads.specs.Streams.{KeepsNames, Offer, Sight}
use Rattle.threaded_server.specs.declared.answer.Answer.{Answer}

-- a stream comes back under its name, and what it gave and took before begins what it gave and took after
pub record GoesOn {I O : Type 0} (see : Sight I O) (before : I × O) (after : Returned I O) : Type 0 where
  pub same : KeepsNames see before (after.source, after.sink)
  pub given : IsPrefix (see.reading before.0).given (see.reading after.source).given
  pub taken : IsPrefix (see.writing before.1).taken (see.writing after.sink).taken

-- neither of two lists of octets begins the other
abbrev pub Differ : List ℕ → List ℕ → Type 0
Differ xs ys = (IsPrefix xs ys → ⊥) × (IsPrefix ys xs → ⊥)

-- no two streams have one name: neither to read by, nor to write by
abbrev pub HaveOwnNames : {I O : Type 0} → Sight I O → List (I × O) → Type 0
HaveOwnNames {I} {O} see lent = (i j : ℕ) (a b : I × O) → slice_get lent i ≡ Some a → slice_get lent j ≡ Some b
    → ((see.reading a.0).name ≡ (see.reading b.0).name) ⊎ ((see.writing a.1).name ≡ (see.writing b.1).name) → i ≡ j

module _ (I O S : Type 0) where
  -- each stream that a broker served goes on
  abbrev pub StreamsGoOn : Type 0
  StreamsGoOn = (see : Sight I O) (offer : Offer) (start : Start) (before now : List Answer) (was lending : Lending I O) (asked : ℕ) (served : Served S see offer start before now was lending asked) (i : ℕ) (s : LentStream I O S)
      → slice_get served.streams i ≡ Some s → GoesOn see s.lent s.back

  -- and none comes back in place of another, which took other octets before
  abbrev pub StreamsAreOwn : Type 0
  StreamsAreOwn = (see : Sight I O) (offer : Offer) (start : Start) (before now : List Answer) (was lending : Lending I O) (asked : ℕ) (served : Served S see offer start before now was lending asked) (i : ℕ) (s : LentStream I O S) (other : I × O)
      → slice_get served.streams i ≡ Some s → Differ (see.writing s.lent.1).taken (see.writing other.1).taken → IsPrefix (see.writing other.1).taken (see.writing s.back.sink).taken → ⊥

  -- nor in place of another of another name: where no two of those that were lent have one name, what came back of a name is what was lent under it
  abbrev pub NamesAreOwn : Type 0
  NamesAreOwn = (see : Sight I O) (offer : Offer) (start : Start) (before now : List Answer) (was lending : Lending I O) (asked : ℕ) (served : Served S see offer start before now was lending asked) → HaveOwnNames see served.lent → (i j : ℕ) (s : LentStream I O S) (other : I × O)
      → slice_get served.streams i ≡ Some s → slice_get served.lent j ≡ Some other
      → ((see.reading s.back.source).name ≡ (see.reading other.0).name) ⊎ ((see.writing s.back.sink).name ≡ (see.writing other.1).name) → s.lent ≡ other
