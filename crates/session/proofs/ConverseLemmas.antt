-- A conversation with a client, in its midst.
use Rattle.std.proofs.Common.{◌≡◌, ◌⊎◌, ℕ, List, [], ◌∷◌, ◌++◌, Option, Some, None, Result, Err, inl, inr, refl, sym, ap, ◌∙◌, subst, append_assoc, append-nil}
use Rattle.rawsocket.specs.Frames.{Content, spelled, fault_of, Reads}
use Rattle.rawsocket.specs.declared.fault.Fault as stream
use Rattle.rawsocket.specs.declared.frame.Kind.{Kind}
use Rattle.rawsocket.specs.declared.frame.Kind.TheVariants.{Message, Ping, Pong}
use Rattle.rawsocket.specs.declared.handshake.Serializer.{Serializer}
use Rattle.rawsocket.proofs.Lemmas.{pieces_join}
use Rattle.session.specs.Opened.{IsAnswer, IsEnd, Leads, Session, Verdict, Undecided, exchange, pong, terms}
use Rattle.session.specs.FrameWalk.{ConversesSince, GoesOn, stand}
use Rattle.session.specs.declared.fault.Fault.{Fault}
use Rattle.session.specs.declared.fault.Fault.TheVariants.{Ended, ReadFault}
use Rattle.session.proofs.FrameWalkLemmas.{LeadsBy}

module _ (most : ℕ) (s : Serializer) (limit : ℕ) (realms : List (List ℕ)) where
  join_by : (fault : Option stream.Fault) (k : Kind) (payload : List ℕ) (a b : List Content) (before more : Option stream.Fault) (x y : List ℕ) (v : Verdict)
      → ((z : List ℕ) → Leads (terms s limit realms) before a z Undecided → Leads (terms s limit realms) more (a ++ b) (z ++ y) v)
      → LeadsBy s limit realms payload a (Leads (terms s limit realms) before a) k x Undecided → LeadsBy s limit realms payload (a ++ b) (Leads (terms s limit realms) more (a ++ b)) k (x ++ y) v
  join_by fault Message payload a b before more x y v next (inl greets) = absurd (cc)
  join_by fault Message payload a b before more x y v next (inr fails) = absurd (cc)
  join_by fault Ping payload a b before more x y v next (inl answers) = inl (record {
    fits = answers.fits;
    more = answers.more ++ y;
    out_is = ap (λ o. o ++ y) answers.out_is ∙ append_assoc (spelled (pong payload)) answers.more y;
    next = next answers.more answers.next;
  })
  join_by fault Ping payload a b before more x y v next (inr long) = absurd (cc)
  join_by fault Pong payload a b before more x y v next w = next x w

  -- where nothing is decided, the next frames lead on
  pub Leads-join : (before more : Option stream.Fault) (a b : List Content) (x y : List ℕ) (v : Verdict)
      → Leads (terms s limit realms) before a x Undecided → Leads (terms s limit realms) more b y v → Leads (terms s limit realms) more (a ++ b) (x ++ y) v
  Leads-join None more [] b x y v w next = subst (λ o. Leads (terms s limit realms) more b (o ++ y) v) (sym w.0) next
  Leads-join (Some fault) more [] b x y v w next = absurd (cc)
  Leads-join before more (c ∷ a) b x y v w next = join_by before c.kind c.payload a b before more x y v (λ z u. Leads-join before more a b z y v u next) w

  -- what was read and written so far decides this, and so much is held
  pub record Conversing (given_before given taken_before taken held : List ℕ) (v : Verdict) : Type 0 where
    pub octets : List ℕ
    pub written : List ℕ
    pub frames : List Content
    pub read : given ≡ given_before ++ octets
    pub wrote : taken ≡ taken_before ++ written
    pub reads : Reads most octets frames held
    pub leads : Leads (terms s limit realms) (fault_of most held) frames written v

  pub Conversing-start : (given taken held : List ℕ) → held ≡ [] → Reads most [] [] held → Conversing given given taken taken held Undecided
  Conversing-start given taken held empty reads = record {
    octets = [];
    written = [];
    frames = [];
    read = sym (append-nil given);
    wrote = sym (append-nil taken);
    reads = reads;
    leads = subst (λ h. Leads (terms s limit realms) (fault_of most h) [] [] Undecided) (sym empty) (refl, refl);
  }

  pub Conversing-more : (given_before given after taken_before taken taken_after held new piece : List ℕ) (v : Verdict) → after ≡ given ++ piece
      → GoesOn most (terms s limit realms) piece (stand held taken) (stand new taken_after) v → Conversing given_before given taken_before taken held Undecided → Conversing given_before after taken_before taken_after new v
  Conversing-more given_before given after taken_before taken taken_after held new piece v more goes so_far = record {
    octets = so_far.octets ++ piece;
    written = so_far.written ++ goes.out;
    frames = so_far.frames ++ goes.frames;
    read = more ∙ (ap (λ g. g ++ piece) so_far.read ∙ append_assoc given_before so_far.octets piece);
    wrote = goes.wrote ∙ (ap (λ t. t ++ goes.out) so_far.wrote ∙ append_assoc taken_before so_far.written goes.out);
    reads = pieces_join most so_far.octets piece held new so_far.frames goes.frames so_far.reads goes.reads;
    leads = Leads-join (fault_of most held) (fault_of most new) so_far.frames goes.frames so_far.written goes.out v so_far.leads goes.leads;
  }

  pub Conversing-answered : (given_before given taken_before taken held : List ℕ) (v : Verdict) (answer : Result Session Fault) → Conversing given_before given taken_before taken held v
      → IsAnswer most s limit held v answer → ConversesSince most (terms s limit realms) (exchange given_before taken_before) (exchange given taken) answer
  Conversing-answered given_before given taken_before taken held v answer so_far answers = record {
    octets = so_far.octets;
    written = so_far.written;
    read = so_far.read;
    wrote = so_far.wrote;
    converses = record { frames = so_far.frames; held = held; reads = so_far.reads; verdict = v; leads = so_far.leads; answers = answers };
  }

-- an end is answered as one
pub answers_end : (fault : Fault) → (fault ≡ Ended) ⊎ (fault ≡ ReadFault) → IsEnd (Err fault)
answers_end fault (inl e) = inl (ap Err e)
answers_end fault (inr e) = inr (ap Err e)
