-- Acts that were posted, and as how many octets each counted.
use Rattle.std.proofs.Common.{◌≡◌, ◌≢◌, ℕ, List, [], ◌∷◌, ◌++◌, Result, Ok, Err, OnOk, OnErr, MatchResult, refl, sym, ap, ◌∙◌, append_assoc, append-nil}
use Rattle.rawsocket.specs.declared.devices.no_octets.NoOctets.{NoOctets}
use Rattle.rawsocket.specs.declared.devices.no_octets.NoOctets.TheVariants as no_octets
use Rattle.rawsocket.specs.declared.handshake.Serializer.{Serializer}
use Rattle.realm_inbox.specs.Posted.{Posted, with_acts}
use Rattle.realm_inbox.proofs.PosterLemmas.{with_both, with_none}
use Rattle.realm_inbox.specs.declared.act.Act.{Act}
use Rattle.connection.specs.Posts.{CountsAs, EachCounts}
use Rattle.connection.specs.Reader.{CountsSince, came_back, end_of}
use Rattle.connection.specs.declared.reader.ReadEnd.{ReadEnd}
use Rattle.connection.specs.declared.reader.ReadEnd.TheVariants.{Left, Violation, Ended, Device, TooManyTurns, NoMemory, ActorGone}

module _ {S : Type 0} (s : Serializer) where
  each_join : (a b : List (Act S)) (m n : List ℕ) → EachCounts s a m → EachCounts s b n → EachCounts s (a ++ b) (m ++ n)
  each_join [] b [] n w v = v
  each_join [] b (x ∷ m) n w v = absurd w
  each_join (x ∷ a) b [] n w v = absurd w
  each_join (x ∷ a) b (y ∷ m) n w v = (w.0, each_join a b m n w.1 v)

  -- nothing was posted
  pub counts_none : (before now : Posted S) (old new : List ℕ) → now ≡ before → new ≡ old → CountsSince s before now old new
  counts_none before now old new same still = record { acts = []; octets = []; posted = same ∙ sym (with_none before); weighed = still ∙ sym (append-nil old); each = tt }

  -- an act was posted
  pub counts_one : (act : Act S) (octets : ℕ) (before now : Posted S) (old new : List ℕ) → CountsAs s act octets → now ≡ with_acts before (act ∷ []) → new ≡ old ++ octets ∷ [] → CountsSince s before now old new
  counts_one act octets before now old new counts posted weighed = record { acts = act ∷ []; octets = octets ∷ []; posted = posted; weighed = weighed; each = (counts, tt) }

  -- an act was posted, or came back
  pub counts_tried : (result : Result Unit ReadEnd) (act : Act S) (octets : ℕ) (before now : Posted S) (old new : List ℕ) → CountsAs s act octets → OnOk result (now ≡ with_acts before (act ∷ [])) → OnErr result (now ≡ before)
      → MatchResult result (λ _. new ≡ old ++ octets ∷ []) (λ _. new ≡ old) → CountsSince s before now old new
  counts_tried (Ok u) act octets before now old new counts posted back weighed = counts_one act octets before now old new counts posted weighed
  counts_tried (Err e) act octets before now old new counts posted back weighed = counts_none before now old new back weighed

  -- some were posted, and then more
  pub counts_then : (before now later : Posted S) (old new last : List ℕ) → CountsSince s before now old new → CountsSince s now later new last → CountsSince s before later old last
  counts_then before now later old new last a b = record {
    acts = a.acts ++ b.acts;
    octets = a.octets ++ b.octets;
    posted = b.posted ∙ ap (λ p. with_acts p b.acts) a.posted ∙ with_both before a.acts b.acts;
    weighed = b.weighed ∙ ap (λ w. w ++ b.octets) a.weighed ∙ append_assoc old a.octets b.octets;
    each = each_join a.acts b.acts a.octets b.octets a.each b.each;
  }

-- none comes back for what the stream is
none_back : (why : NoOctets) → came_back (end_of why) ≡ 0
none_back no_octets.Ended = refl
none_back no_octets.Failed = refl
none_back no_octets.TooManyTurns = refl

pub stream_back : (why : NoOctets) (end : ReadEnd) → end ≡ end_of why → came_back end ≡ 0
stream_back why end is = ap came_back is ∙ none_back why

-- none comes back but by the end that says so
pub others_back : (end : ReadEnd) → end ≢ ActorGone → came_back end ≡ 0
others_back Left other = refl
others_back (Violation f) other = refl
others_back Ended other = refl
others_back Device other = refl
others_back TooManyTurns other = refl
others_back NoMemory other = refl
others_back ActorGone other = absurd (other refl)
