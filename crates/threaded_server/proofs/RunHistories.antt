-- What the histories of realms were made of.
use Rattle.std.proofs.Common.{◌≡◌, ◌+◌, ◌≤◌, ℕ, false, List, [], ◌∷◌, ◌++◌, refl, sym, ap, ◌∙◌, arith, subst}
use mathlib.Core.List.{IsPrefix}
use Rattle.outbox_queue.proofs.OwedBeginnings.{prefix-on}
use Rattle.realm.specs.History.{History}
use Rattle.realm.specs.Sessions.{live}
use Rattle.realm_actor.specs.ActorView.{Acting}
use Rattle.realm_actor.specs.Run.{EndsInStop, Ran, Runs}
use Rattle.realm_actor.specs.Run as running
use Rattle.realm_inbox.proofs.Lemmas.{stops_snoc}
use Rattle.realm_inbox.specs.EndViews.{received}
use Rattle.realm_inbox.specs.Seats.{InOrder, stops_of}
use Rattle.realm_inbox.specs.declared.letter.Halt.{Halt}
use Rattle.realm_inbox.specs.declared.letter.Post.{Post}
use Rattle.realm_inbox.specs.declared.letter.Post.TheVariants.{Act, Stop}
use Rattle.threaded_server.proofs.CutSessions.{ran_on}
use Rattle.threaded_server.proofs.DrawnWords.{ran_drew}
use Rattle.realm_actor.specs.Words.{Words}
use Rattle.threaded_server.specs.EntryWords.{HasWords, IsWithin, words_of}
use Rattle.threaded_server.specs.EntryWords as of
use Rattle.threaded_server.specs.Histories.{HandlesAll, IsMade, IsRealm, Realm, Start}
use Rattle.threaded_server.specs.Ties.{IsRun, history_of}
use Rattle.threaded_server.specs.declared.realm_run.RealmRun.{RealmRun}

module _ {S : Type 0} where
  -- what is handled before a stop is acts alone
  acts_alone : {a b : Acting S} {came : List (Post S)} → Runs a came b → stops_of came ≡ 0
  acts_alone running.Runs.none = refl
  acts_alone (running.Runs.one_more {came} {b} {c} {d} {result} l runs swept handles) = stops_snoc came (Act l) ∙ ap (λ n. n + 0) (acts_alone runs)

  -- a run up to a stop: no stop is before it, and at its end nobody is live
  pub record Stopped (until : List (Post S)) (z : Acting S) : Type 0 where
    pub no_stop : stops_of until ≡ 0
    pub none_live : (c : ℕ) → live z.history c ≡ false

  pub run_stopped : {a z : Acting S} {came : List (Post S)} → Ran a came z → (until : List (Post S)) → (halt : Halt) → came ≡ until ++ Stop halt ∷ [] → Stopped until z
  run_stopped (running.Ran.left {came} {b} {c} runs swept) until halt is =
      let none : stops_of came ≡ 0 = acts_alone runs in
      let one : stops_of came ≡ stops_of until + 1 = ap (λ ps. stops_of ps) is ∙ stops_snoc until (Stop halt) in
      absurd (omega arith)
  run_stopped (running.Ran.stopped {came} {b} {c} {d} {result} last runs swept handles) until halt is =
      let none : stops_of came ≡ 0 = acts_alone runs in
      let first : stops_of (came ++ Stop last ∷ []) ≡ stops_of came + 1 = stops_snoc came (Stop last) in
      let one : stops_of (came ++ Stop last ∷ []) ≡ stops_of until + 1 = ap (λ ps. stops_of ps) is ∙ stops_snoc until (Stop halt) in
      record { no_stop = omega arith; none_live = handles.does.none_live }

-- what is seen of a realm's run
abbrev pub realm_of : {S : Type 0} → RealmRun S → Realm S
realm_of run = record { chronicle = run.began.value.chronicle.chronicle; history = history_of run; received = received run.inbox.value }

-- the words of its entries are of those that its source gave
words_made : {S : Type 0} (start : Start) (run : RealmRun S) → IsRun start run → HasWords start.ids (history_of run)
words_made {S} start run h =
    let drew = ran_drew h.acts.ran in
    let begun = h.begins in
    let first : words_of run.began.value.kept ≡ [] = ap words_of begun.history in
    let none : run.began.value.words.given ≡ [] = ap (λ (w : Words). w.given) begun.words in
    record {
      given = run.ended.value.actor.value.words.given;
      within = drew.within (subst (λ l. IsWithin l run.began.value.words.given) (sym first) (subst (λ l. IsWithin [] l) (sym none) of.IsWithin.none));
      in_order = λ counts. h.acts.words (drew.kind ∙ ap (λ (w : Words). w.is_counting) begun.words ∙ counts);
    }

-- its history was made of what it received
pub realm_made : {S : Type 0} (start : Start) (run : RealmRun S) → IsRun start run → IsRealm start (realm_of run)
realm_made {S} start run h =
    let acts = h.acts in
    let until = acts.ends.0 in
    let halt = acts.ends.1 in
    let made = history_of run in
    let stopped = run_stopped acts.ran until halt acts.ends.2 in
    record {
      until = until;
      halt = halt;
      first = subst (λ came. IsPrefix came (received run.inbox.value)) acts.ends.2 (prefix-on acts.came (received run.ended.value.inbox) (received run.inbox.value) acts.received h.more);
      no_stop = stopped.no_stop;
      behind = acts.ends.3;
      in_order = subst (λ came. InOrder [] came) acts.ends.2 acts.in_order;
      made = subst (λ (g : History). HandlesAll g (until ++ Stop halt ∷ []) made) h.begins.history (subst (λ came. HandlesAll run.began.value.kept came made) acts.ends.2 (ran_on acts.ran refl));
      legal = acts.legal;
      none_live = stopped.none_live;
      words = words_made start run h;
    }
