-- A walk over the frames of a client, in its midst.
use Rattle.std.specs.Prelude.{OnOk, OnErr}
use Rattle.std.proofs.Common.{◌≡◌, ◌<◌, ◌≤◌, ◌⊎◌, ℕ, List, [], ◌∷◌, ◌++◌, length, Result, Ok, Err, IfOk, IfErr, Option, inl, inr, refl, sym, ap, ◌∙◌, subst, append_assoc, append-nil}
use Rattle.rawsocket.specs.Frames.{Content, spelled}
use Rattle.rawsocket.specs.declared.fault.Fault as stream
use Rattle.rawsocket.specs.declared.frame.Kind.{Kind}
use Rattle.rawsocket.specs.declared.frame.Kind.TheVariants.{Message, Ping, Pong}
use Rattle.rawsocket.specs.declared.handshake.Serializer.{Serializer}
use Rattle.session.specs.Opened.{Answers, ByKind, Fails, Greets, IsLong, Leads, Verdict, Refuses, pong, terms}
use Rattle.session.specs.FrameWalk.{Adds, AddsFor}
use Rattle.session.specs.declared.fault.Fault.TheVariants.{TooLongForClient}

-- what a frame of this kind decides, with those behind it
abbrev pub LeadsBy : Serializer → ℕ → List (List ℕ) → List ℕ → List Content → (List ℕ → Verdict → Type 0) → Kind → List ℕ → Verdict → Type 0
LeadsBy s limit realms payload frames Next kind out v =
    ByKind kind
    (Greets (terms s limit realms) payload frames out v ⊎ Fails (terms s limit realms) payload out v)
    (Answers limit payload Next out v ⊎ IsLong limit payload out v)
    (Next out v)

-- of all frames these are left, and what they decide all decide, with this output before
pub record Walking (s : Serializer) (limit : ℕ) (realms : List (List ℕ)) (fault : Option stream.Fault) (all left : List Content) (before now : List ℕ) : Type 0 where
  pub out : List ℕ
  pub is : now ≡ before ++ out
  pub leads : (more : List ℕ) (v : Verdict) → Leads (terms s limit realms) fault left more v → Leads (terms s limit realms) fault all (out ++ more) v

module _ (s : Serializer) (limit : ℕ) (realms : List (List ℕ)) (fault : Option stream.Fault) where
  pub Walking-start : (all : List Content) (before : List ℕ) → Walking s limit realms fault all all before before
  Walking-start all before = record { out = []; is = sym (append-nil before); leads = λ more v w. w }

  by_kind : (k l : Kind) (payload : List ℕ) (left : List Content) (more : List ℕ) (v : Verdict) → k ≡ l → LeadsBy s limit realms payload left (Leads (terms s limit realms) fault left) l more v
      → LeadsBy s limit realms payload left (Leads (terms s limit realms) fault left) k more v
  by_kind k l payload left more v e w = subst (λ x. LeadsBy s limit realms payload left (Leads (terms s limit realms) fault left) x more v) (sym e) w

  pub Walking-pong : (all left : List Content) (k : Kind) (payload before now : List ℕ) → k ≡ Pong → Walking s limit realms fault all (record { kind = k; payload = payload } ∷ left) before now
      → Walking s limit realms fault all left before now
  Walking-pong all left k payload before now e w =
      record { out = w.out; is = w.is; leads = λ more v next. w.leads more v (by_kind k Pong payload left more v e next) }

  pub Walking-ping : (all left : List Content) (k : Kind) (payload before now after : List ℕ) → k ≡ Ping → length payload ≤ limit → after ≡ now ++ spelled (pong payload)
      → Walking s limit realms fault all (record { kind = k; payload = payload } ∷ left) before now → Walking s limit realms fault all left before after
  Walking-ping all left k payload before now after e fits more_is w = record {
    out = w.out ++ spelled (pong payload);
    is = more_is ∙ (ap (λ o. o ++ spelled (pong payload)) w.is ∙ append_assoc before w.out (spelled (pong payload)));
    leads = λ more v next. subst (λ o. Leads (terms s limit realms) fault all o v) (sym (append_assoc w.out (spelled (pong payload)) more))
        (w.leads (spelled (pong payload) ++ more) v (by_kind k Ping payload left (spelled (pong payload) ++ more) v e (inl (record { fits = fits; more = more; out_is = refl; next = next }))));
  }

  pub Walking-long : (all left : List Content) (k : Kind) (payload before now after : List ℕ) → k ≡ Ping → limit < length payload → after ≡ now
      → Walking s limit realms fault all (record { kind = k; payload = payload } ∷ left) before now → Adds (Leads (terms s limit realms) fault all) before after (Refuses TooLongForClient)
  Walking-long all left k payload before now after e long same w = record {
    out = w.out;
    is = same ∙ w.is;
    leads = subst (λ o. Leads (terms s limit realms) fault all o (Refuses TooLongForClient)) (append-nil w.out)
        (w.leads [] (Refuses TooLongForClient) (by_kind k Ping payload left [] (Refuses TooLongForClient) e (inr (record { long = long; out_is = refl; verdict = refl }))));
  }

  adds_all : (all left : List Content) (before now after : List ℕ) (v : Verdict) → Walking s limit realms fault all left before now → Adds (Leads (terms s limit realms) fault left) now after v → Adds (Leads (terms s limit realms) fault all) before after v
  adds_all all left before now after v w more = record {
    out = w.out ++ more.out;
    is = more.is ∙ (ap (λ o. o ++ more.out) w.is ∙ append_assoc before w.out more.out);
    leads = w.leads more.out v more.leads;
  }

  pub Walking-decided : (all left : List Content) (k : Kind) (payload before now after : List ℕ) (v : Verdict) → k ≡ Message → AddsFor (terms s limit realms) (record { kind = Message; payload = payload } ∷ left) now after v
      → Walking s limit realms fault all (record { kind = k; payload = payload } ∷ left) before now → Adds (Leads (terms s limit realms) fault all) before after v
  Walking-decided all left k payload before now after v e adds w =
      adds_all all (record { kind = k; payload = payload } ∷ left) before now after v w
      (subst (λ x. Adds (Leads (terms s limit realms) fault (record { kind = x; payload = payload } ∷ left)) now after v) (sym e) (adds fault))

  pub Walking-ends : (all : List Content) (before now after : List ℕ) (v : Verdict) → Walking s limit realms fault all [] before now → Adds (Leads (terms s 0 []) fault []) now after v → Adds (Leads (terms s limit realms) fault all) before after v
  Walking-ends all before now after v w more = adds_all all [] before now after v w (record { out = more.out; is = more.is; leads = more.leads })

pub if_ok : {X Y : Type 0} (r : Result X Y) (P Q : X → Type 0) → ((x : X) → P x → Q x) → IfOk r P → IfOk r Q
if_ok (Ok x) P Q f p = f x p
if_ok (Err e) P Q f p = tt

pub if_err : {X Y : Type 0} (r : Result X Y) (P Q : Y → Type 0) → ((y : Y) → P y → Q y) → IfErr r P → IfErr r Q
if_err (Ok x) P Q f p = tt
if_err (Err e) P Q f p = f e p

pub on_ok : {X Y : Type 0} (r : Result X Y) (P Q : Type 0) → (P → Q) → OnOk r P → OnOk r Q
on_ok (Ok x) P Q f p = f p
on_ok (Err e) P Q f p = tt

pub on_err : {X Y : Type 0} (r : Result X Y) (P Q : Type 0) → (P → Q) → OnErr r P → OnErr r Q
on_err (Ok x) P Q f p = tt
on_err (Err e) P Q f p = f p
