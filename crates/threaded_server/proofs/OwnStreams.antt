-- How each stream that a broker served goes on, and that none comes back in place of another.
use Rattle.std.proofs.Common.{◌≡◌, ℕ, List, [], ◌∷◌, ◌++◌, Some, All, Contains, map, take, slice_get, refl, sym, ap, ◌∙◌, subst, append_assoc, append-nil}
use mathlib.Core.List.{IsPrefix}
use mathlib.Core.Logic.{◌⊎◌, inl, inr}
use Rattle.std.proofs.lemmas.List.Sorted.{Contains-permutation, IsPermutation-sym}
use Rattle.std.proofs.lemmas.Option.{get_or_from_slice_get, same_Some, slice_get-get_or, slice_get_within}
use Rattle.broker_threads.specs.Streams.{KeepsNames, Offer, Sight}
use Rattle.broker_threads.specs.declared.stream_fate.SessionEnds.{SessionEnds}
use Rattle.broker_threads.specs.declared.stream_fate.StreamFate.{StreamFate}
use Rattle.broker_threads.specs.declared.stream_fate.StreamFate.TheVariants as fate
use Rattle.rawsocket.specs.Handshakes.{refusing}
use Rattle.threaded_server.proofs.Places.{map_get}
use Rattle.threaded_server.specs.Histories.{Realm}
use Rattle.threaded_server.specs.SeatRules.{TellsRefusal}
use Rattle.threaded_server.specs.OwnStreams.{NamesAreOwn, StreamsAreOwn, StreamsGoOn}
use Rattle.threaded_server.specs.Served.{IsFate, IsSession, LentStream, Served}
use Rattle.threaded_server.specs.Sessions.{SaysSome}

module _ {A : Type 0} where
  -- a list begins one that is the same
  begins_same : (xs ys : List A) → ys ≡ xs → IsPrefix xs ys
  begins_same xs ys e = ([], append-nil xs ∙ sym e)

  -- and one that goes on behind it
  begins_more : (xs ys more : List A) → ys ≡ xs ++ more → IsPrefix xs ys
  begins_more xs ys more e = (more, sym e)

  begins_on : (xs ys zs : List A) → IsPrefix xs ys → IsPrefix ys zs → IsPrefix xs zs
  begins_on xs ys zs p q = (p.0 ++ q.0, sym (append_assoc xs p.0 q.0) ∙ ap (λ l. l ++ q.0) p.1 ∙ q.1)

  -- of two beginnings of one list one begins the other
  one_begins : (xs ys zs : List A) → IsPrefix xs zs → IsPrefix ys zs → IsPrefix xs ys ⊎ IsPrefix ys xs
  one_begins [] ys zs p q = inl (ys, refl)
  one_begins (x ∷ xs) [] zs p q = inr (x ∷ xs, refl)
  one_begins (x ∷ xs) (y ∷ ys) [] p q = absurd (let none : x ∷ (xs ++ p.0) ≡ [] = p.1 in cc)
  one_begins (x ∷ xs) (y ∷ ys) (z ∷ zs) p q = deeper (one_begins xs ys zs (p.0, rest_of xs p) (q.0, rest_of ys q))
    where
      rest_of : {w : A} (ws : List A) → (r : IsPrefix (w ∷ ws) (z ∷ zs)) → ws ++ r.0 ≡ zs
      rest_of {w} ws r = let whole : w ∷ (ws ++ r.0) ≡ z ∷ zs = r.1 in cc

      first_of : {w : A} (ws : List A) → IsPrefix (w ∷ ws) (z ∷ zs) → w ≡ z
      first_of {w} ws r = let whole : w ∷ (ws ++ r.0) ≡ z ∷ zs = r.1 in cc

      same : x ≡ y
      same = first_of xs p ∙ sym (first_of ys q)

      deeper : IsPrefix xs ys ⊎ IsPrefix ys xs → IsPrefix (x ∷ xs) (y ∷ ys) ⊎ IsPrefix (y ∷ ys) (x ∷ xs)
      deeper (inl b) = inl (b.0, ap (λ l. x ∷ l) b.1 ∙ ap (λ (w : A). w ∷ ys) same)
      deeper (inr b) = inr (b.0, ap (λ l. y ∷ l) b.1 ∙ ap (λ (w : A). w ∷ xs) (sym same))

-- what stands at a place is in the list
contains_at : {A : Type 0} (xs : List A) (i : ℕ) (x : A) → slice_get xs i ≡ Some x → Contains xs x
contains_at xs i x at = (i, slice_get_within xs i x at, get_or_from_slice_get xs i x x at)

module _ {I O : Type 0} (see : Sight I O) where
  refused_goes_on : (before now : O) → TellsRefusal (see.writing before) (see.writing now) → IsPrefix (see.writing before).taken (see.writing now).taken
  refused_goes_on before now (inl e) = begins_more (see.writing before).taken (see.writing now).taken (refusing 4) e
  refused_goes_on before now (inr w) = begins_more (see.writing before).taken (see.writing now).taken (take w.0.0 (refusing 4)) w.0.2

module _ {I O S : Type 0} (see : Sight I O) (offer : Offer) (realms : List (Realm S)) where
  -- what a stream gave and took before it was lent begins what it gave and took when it came back
  abbrev Goes : LentStream I O S → Type 0
  Goes s = IsPrefix (see.reading s.lent.0).given (see.reading s.back.source).given × IsPrefix (see.writing s.lent.1).taken (see.writing s.back.sink).taken

  session_goes_on : (s : LentStream I O S) (conn : ℕ) (ends : SessionEnds) → IsSession see offer realms s conn ends → Goes s
  session_goes_on s conn ends h = (
    begins_on (see.reading s.lent.0).given (see.reading h.source).given (see.reading s.back.source).given (begins_more (see.reading s.lent.0).given (see.reading h.source).given h.opened.opens.octets h.opened.opens.read) (by_talk h.says),
    begins_on (see.writing s.lent.1).taken (see.writing h.sink).taken (see.writing s.back.sink).taken (begins_more (see.writing s.lent.1).taken (see.writing h.sink).taken h.opened.opens.written h.opened.opens.wrote)
        (begins_more (see.writing h.sink).taken (see.writing s.back.sink).taken h.written.octets h.written.wrote),
  )
    where
      by_talk : SaysSome see.reading h.hello h.join h.source s.back.source ends.read s.posted → IsPrefix (see.reading h.source).given (see.reading s.back.source).given
      by_talk (inl r) = begins_more (see.reading h.source).given (see.reading s.back.source).given r.octets r.read
      by_talk (inr r) = begins_same (see.reading h.source).given (see.reading s.back.source).given (ap (λ (x : I). (see.reading x).given) r.0)

  fate_goes_on : (s : LentStream I O S) (it : StreamFate) → IsFate see offer realms s it → Goes s
  fate_goes_on s fate.NoSeat h = (
    begins_same (see.reading s.lent.0).given (see.reading s.back.source).given (ap (λ (x : I). (see.reading x).given) h.0.unread),
    refused_goes_on see s.lent.1 s.back.sink h.0.told,
  )
  fate_goes_on s fate.NoMemory h = (
    begins_same (see.reading s.lent.0).given (see.reading s.back.source).given (ap (λ (x : I × O). (see.reading x.0).given) h.0),
    begins_same (see.writing s.lent.1).taken (see.writing s.back.sink).taken (ap (λ (x : I × O). (see.writing x.1).taken) h.0),
  )
  fate_goes_on s (fate.NotOpened fault) h = let begun = h.0.begun in (
    begins_more (see.reading s.lent.0).given (see.reading s.back.source).given (begun.octets ++ begun.more) begun.read,
    begins_more (see.writing s.lent.1).taken (see.writing s.back.sink).taken (take begun.wrote.0 begun.written) begun.wrote.2,
  )
  fate_goes_on s fate.OpenedAlone h = let opens = h.0.1.opens in (
    begins_more (see.reading s.lent.0).given (see.reading s.back.source).given opens.octets opens.read,
    begins_more (see.writing s.lent.1).taken (see.writing s.back.sink).taken opens.written opens.wrote,
  )
  fate_goes_on s (fate.Served ends) h = session_goes_on s h.0 ends h.2

module _ {A : Type 0} (P : A → Type 0) where
  -- what holds of all holds of what stands at a place
  there : (xs : List A) (i : ℕ) (x : A) → All P xs → slice_get xs i ≡ Some x → P x
  there xs i x h at = subst P (get_or_from_slice_get xs i x x at) (h i x (slice_get_within xs i x at))

module _ {I O S : Type 0} where
  pub streams_go_on : StreamsGoOn I O S
  streams_go_on see offer start before now was lending asked served i s at =
      let on = fate_goes_on see offer served.realms s s.back.fate (there (λ (x : LentStream I O S). IsFate see offer served.realms x x.back.fate) served.streams i s served.fates at) in
      record { same = there (λ (x : LentStream I O S). KeepsNames see x.lent (x.back.source, x.back.sink)) served.streams i s served.names at; given = on.0; taken = on.1 }

  pub streams_are_own : StreamsAreOwn I O S
  streams_are_own see offer start before now was lending asked served i s other at differ other_begins =
      by_beginning (one_begins (see.writing s.lent.1).taken (see.writing other.1).taken (see.writing s.back.sink).taken (streams_go_on see offer start before now was lending asked served i s at).taken other_begins)
    where
      by_beginning : IsPrefix (see.writing s.lent.1).taken (see.writing other.1).taken ⊎ IsPrefix (see.writing other.1).taken (see.writing s.lent.1).taken → ⊥
      by_beginning (inl b) = differ.0 b
      by_beginning (inr b) = differ.1 b

  -- what came back of a name is what was lent under it
  pub names_are_own : NamesAreOwn I O S
  names_are_own see offer start before now was lending asked served own i j s other at its alike =
      let same : lent.0 ≡ j = own lent.0 j s.lent other lent.1 its (by_name (streams_go_on see offer start before now was lending asked served i s at).same alike) in
      same_Some s.lent other (sym lent.1 ∙ ap (slice_get served.lent) same ∙ its)
    where
      lent_of : LentStream I O S → I × O
      lent_of x = x.lent

      lent : (k : ℕ) × (slice_get served.lent k ≡ Some s.lent)
      lent =
          let back = Contains-permutation (map lent_of served.streams) served.lent s.lent (IsPermutation-sym served.lent (map lent_of served.streams) served.each)
          (contains_at (map lent_of served.streams) i s.lent (map_get lent_of served.streams i s at)) in
          (back.0, slice_get-get_or served.lent back.0 s.lent back.1 ∙ ap Some back.2)

      by_name : KeepsNames see s.lent (s.back.source, s.back.sink)
          → ((see.reading s.back.source).name ≡ (see.reading other.0).name) ⊎ ((see.writing s.back.sink).name ≡ (see.writing other.1).name)
          → ((see.reading s.lent.0).name ≡ (see.reading other.0).name) ⊎ ((see.writing s.lent.1).name ≡ (see.writing other.1).name)
      by_name kept (inl e) = inl (sym kept.read ∙ e)
      by_name kept (inr e) = inr (sym kept.written ∙ e)
