-- Of what an opening writes, a beginning.
use Rattle.std.proofs.Common.{◌≡◌, ◌⊎◌, List, [], ◌++◌, length, drop, ℕ, Result, Ok, Err, inl, inr, refl, sym, ap, ◌∙◌, subst, arith, append_assoc, append-nil}
use Rattle.std.proofs.lemmas.List.{drop_all}
use Rattle.rawsocket.specs.Devices.{GrowsByBeginning}
use Rattle.rawsocket.specs.Bounds.{most_octets}
use Rattle.rawsocket.specs.Frames.{fault_of, Reads}
use Rattle.rawsocket.specs.Handshakes.{accepting_within, answered, reply_within}
use Rattle.rawsocket.specs.declared.handshake.Serializer.{Serializer}
use Rattle.rawsocket.specs.declared.handshake.Handshake.{Handshake}
use Rattle.rawsocket.specs.declared.handshake.Handshake.TheVariants.{Accept, Refuse, Dropped}
use Rattle.rawsocket.proofs.Lemmas.{nothing_grown, whole_grown, grown_further, nothing_read, pieces_join}
use Rattle.session.specs.Faults.{stream_fault}
use Rattle.session.specs.Opened.{BeginsOpening, Converses, Follows, IsAnswer, Session, Verdict, Undecided, Opens, Refuses, exchange, or_nothing, terms}
use Rattle.session.specs.FrameWalk.{BeginsConversing, Extends, GoesOnPartly, stand}
use Rattle.session.specs.declared.fault.Fault.{Fault}
use Rattle.session.specs.declared.fault.Fault.TheVariants.{Ended, NotRawSocket}
use Rattle.session.proofs.ConverseLemmas.{Conversing, Leads-join}
use Rattle.session.proofs.OpenSessionLemmas.{accepted_opening}

-- an answer that a verdict allows
abbrev answer_of : ℕ → Serializer → ℕ → List ℕ → Verdict → Result Session Fault
answer_of most s limit held Undecided = Err Ended
answer_of most s limit held (Opens realm authid early) = Ok (record { serializer = s; limit = limit; realm = realm; authid = authid; early = early; held = record { most = most; held = held } })
answer_of most s limit held (Refuses fault) = Err fault

answer_is : (most : ℕ) (s : Serializer) (limit : ℕ) (held : List ℕ) (v : Verdict) → IsAnswer most s limit held v (answer_of most s limit held v)
answer_is most s limit held Undecided = inl refl
answer_is most s limit held (Opens realm authid early) = refl
answer_is most s limit held (Refuses fault) = refl

module _ (most : ℕ) (s : Serializer) (limit : ℕ) (realms : List (List ℕ)) where
  -- all that is due so far is written, and more octets were read
  pub begun_whole : (given_before given after taken_before taken held more : List ℕ) (v : Verdict) → after ≡ given ++ more → Conversing most s limit realms given_before given taken_before taken held v
      → BeginsConversing most (terms s limit realms) (exchange given_before taken_before) (exchange after taken)
  begun_whole given_before given after taken_before taken held more v e so_far = record {
    octets = so_far.octets;
    more = more;
    written = so_far.written;
    answer = answer_of most s limit held v;
    read = e ∙ (ap (λ g. g ++ more) so_far.read ∙ append_assoc given_before so_far.octets more);
    wrote = whole_grown taken_before taken so_far.written so_far.wrote;
    converses = record { frames = so_far.frames; held = held; reads = so_far.reads; verdict = v; leads = so_far.leads; answers = answer_is most s limit held v };
  }

  begun_partly : (given_before given after taken_before taken now held piece : List ℕ) → after ≡ given ++ piece → GoesOnPartly most (terms s limit realms) piece (stand held taken) now
      → Conversing most s limit realms given_before given taken_before taken held Undecided → BeginsConversing most (terms s limit realms) (exchange given_before taken_before) (exchange after now)
  begun_partly given_before given after taken_before taken now held piece e goes so_far = record {
    octets = so_far.octets ++ piece;
    more = [];
    written = so_far.written ++ goes.out;
    answer = answer_of most s limit goes.new goes.verdict;
    read = e ∙ (ap (λ g. g ++ piece) so_far.read ∙ append_assoc given_before so_far.octets piece) ∙ ap (λ x. given_before ++ x) (sym (append-nil (so_far.octets ++ piece)));
    wrote = grown_further taken_before taken now so_far.written goes.out so_far.wrote goes.wrote;
    converses = record {
      frames = so_far.frames ++ goes.frames;
      held = goes.new;
      reads = pieces_join most so_far.octets piece held goes.new so_far.frames goes.frames so_far.reads goes.reads;
      verdict = goes.verdict;
      leads = Leads-join most s limit realms (fault_of most held) (fault_of most goes.new) so_far.frames goes.frames so_far.written goes.out goes.verdict so_far.leads goes.leads;
      answers = answer_is most s limit goes.new goes.verdict;
    };
  }

  -- where the next octets were refused
  pub begun_so_far : (given_before given after taken_before taken now held piece : List ℕ) → after ≡ given ++ piece → (now ≡ taken) ⊎ GoesOnPartly most (terms s limit realms) piece (stand held taken) now
      → Conversing most s limit realms given_before given taken_before taken held Undecided → BeginsConversing most (terms s limit realms) (exchange given_before taken_before) (exchange after now)
  begun_so_far given_before given after taken_before taken now held piece e (inl same) so_far =
      subst (λ t. BeginsConversing most (terms s limit realms) (exchange given_before taken_before) (exchange after t)) (sym same) (begun_whole given_before given after taken_before taken held piece Undecided e so_far)
  begun_so_far given_before given after taken_before taken now held piece e (inr goes) so_far = begun_partly given_before given after taken_before taken now held piece e goes so_far

-- an answer that a handshake allows, where nothing was read after it
abbrev answer_after : Handshake → Result Session Fault
answer_after (Accept s most) = Err Ended
answer_after (Refuse f) = Err (stream_fault f)
answer_after Dropped = Err NotRawSocket

follows_alone : (bound : ℕ) (realms : List (List ℕ)) (a : Handshake) (octets : List ℕ) → octets ≡ [] → Follows bound a realms octets (or_nothing (reply_within bound a)) (answer_after a)
follows_alone bound realms (Accept s most) octets e = record {
  more = [];
  written_is = sym (append-nil (accepting_within bound s));
  converses = record { frames = []; held = []; reads = subst (λ x. Reads (most_octets bound) x [] []) (sym e) (nothing_read (most_octets bound) [] refl); verdict = Undecided; leads = (refl, refl); answers = inl refl };
}
follows_alone bound realms (Refuse f) octets e = (refl, refl)
follows_alone bound realms Dropped octets e = (refl, refl)

module _ (bound : ℕ) (realms : List (List ℕ)) (given_before given taken_before taken : List ℕ) where
  -- while the handshake is read
  pub begun_unanswered : taken ≡ taken_before → Extends given_before given → BeginsOpening bound realms (exchange given_before taken_before) (exchange given taken)
  begun_unanswered same more = record {
    octets = [];
    more = more.0;
    written = [];
    answer = Err Ended;
    read = more.1;
    wrote = nothing_grown taken_before taken [] same;
    opening = inl (omega arith, refl, inl refl);
  }

  module _ (h : List ℕ) (read : given ≡ given_before ++ h) (four : length h ≡ 4) where
    -- while it is answered
    pub begun_reply : (a : Handshake) → a ≡ answered h → GrowsByBeginning taken_before taken (or_nothing (reply_within bound a)) → BeginsOpening bound realms (exchange given_before taken_before) (exchange given taken)
    begun_reply a is wrote = record {
      octets = h;
      more = [];
      written = or_nothing (reply_within bound a);
      answer = answer_after a;
      read = read ∙ ap (λ x. given_before ++ x) (sym (append-nil h));
      wrote = wrote;
      opening = inr (
        omega (arith, four),
        subst (λ x. Follows bound x realms (drop 4 h) (or_nothing (reply_within bound a)) (answer_after a)) is (follows_alone bound realms a (drop 4 h) (drop_all 4 h (omega (arith, four)))),
      );
    }

    -- while what follows it is answered
    pub begun_after : (s : Serializer) (most : ℕ) (after now : List ℕ) → answered h ≡ Accept s most → taken ≡ taken_before ++ or_nothing (reply_within bound (Accept s most)) → (m : ℕ) → m ≡ most_octets bound
        → BeginsConversing m (terms s most realms) (exchange given taken) (exchange after now) → BeginsOpening bound realms (exchange given_before taken_before) (exchange after now)
    begun_after s most after now is wrote m same b = record {
      octets = h ++ b.octets;
      more = b.more;
      written = accepting_within bound s ++ b.written;
      answer = b.answer;
      read = b.read ∙ (ap (λ g. g ++ (b.octets ++ b.more)) read ∙ append_assoc given_before h (b.octets ++ b.more)) ∙ ap (λ x. given_before ++ x) (sym (append_assoc h b.octets b.more));
      wrote = grown_further taken_before taken now (accepting_within bound s) b.written wrote b.wrote;
      opening = accepted_opening bound realms h b.octets b.written s most b.answer four is (subst (λ x. Converses x (terms s most realms) b.octets b.written b.answer) same b.converses);
    }
