-- What the accepting thread does, step by step.
use Rattle.std.proofs.Common.{◌≡◌, ◌≢◌, ◌≤◌, ◌+◌, ◌<◌, ℕ, List, [], ◌∷◌, ◌++◌, All, Result, Err, length, length-append, map, get_or, refl, sym, ap, ◌∙◌, subst, append-nil, arith}
use Rattle.std.proofs.Math.Logic.{∥∥₁_elim, ∥∥₁_map}
use Rattle.std.proofs.lemmas.List.{length-map}
use Rattle.std.proofs.lemmas.List.Elements.{All-nil}
use Rattle.std.proofs.lemmas.List.Sorted.{IsPermutation-refl}
use Rattle.std.proofs.lemmas.Option.{none-some}
use Rattle.threaded_server.proofs.Accepting.{Accepting, one_came, one_failed}
use Rattle.threaded_server.proofs.KeptNames.{over_keeps_names}
use Rattle.threaded_server.proofs.Moving.{moves_on}
use Rattle.threaded_server.proofs.ServedStreams.{told}
use Rattle.threaded_server.specs.Answers.{EndsBy, came_in}
use Rattle.threaded_server.specs.SeatRules.{AscendAtSeats}
use Rattle.threaded_server.specs.Conns.{conns_of}
use Rattle.threaded_server.specs.Histories.{Start}
use Rattle.threaded_server.specs.Lending.{Lending}
use Rattle.threaded_server.specs.Overs.{AllWent, Books, Moves, Went, after_of, before_of}
use Rattle.threaded_server.specs.Posts.{ReceivedPosted}
use Rattle.threaded_server.specs.Served.{Served}
use Rattle.threaded_server.specs.Stopping.{HandledBefore}
use Rattle.threaded_server.specs.body.Served.{LentUntil, ServedInParts}
use Rattle.broker_threads.specs.Streams.{KeepsNames, Offer, Sight}
use Rattle.threaded_server.specs.Ties.{IsRun, OverTied}
use Rattle.threaded_server.specs.declared.answer.Answer.{Answer}
use Rattle.threaded_server.specs.declared.answer.Answer.TheVariants.{Came, Failed}
use Rattle.broker_config.specs.declared.fault.Fault.{Fault}
use Rattle.broker_config.specs.declared.fault.Fault.TheVariants.{NoMemory}
use Rattle.threaded_server.specs.declared.over.Over.{Over}
use Rattle.threaded_server.specs.declared.realm_run.RealmRun.{RealmRun}

module _ {I O S : Type 0} where
  -- moved from what is the same
  from_same : (n : ℕ) (now same next : Lending I O) (had has : Books I O S) → same ≡ now → Moves n same next had has → Moves n now next had has
  from_same n now same next had has e m = subst (λ (l : Lending I O). Moves n l next had has) e m

  -- to what is the same
  to_same : (n : ℕ) (was next same : Lending I O) (had has : Books I O S) → same ≡ next → Moves n was next had has → Moves n was same had has
  to_same n was next same had has e m = subst (λ (l : Lending I O). Moves n was l had has) (sym e) m

  -- moved on from the same books
  pub on_same : {n : ℕ} {was now : Lending I O} {had same has : Books I O S} → had ≡ same → Moves n was now had has → Moves n was now same has
  on_same {n} {was} {now} {had} {same} {has} e m = subst (λ (b : Books I O S). Moves n was now b has) e m

  -- a stream came: those that are over are joined, and it is received
  pub stream_came : (before now answered reaped received : List Answer) (failures : ℕ) (was lending accepted joined taken : Lending I O) (had has left seated : Books I O S) → Accepting before now failures was lending had has
      → answered ≡ now ++ Came ∷ [] → accepted ≡ lending → reaped ≡ answered → Moves 0 accepted joined has left → received ≡ reaped → Moves 1 joined taken left seated → Accepting before received 0 was taken had seated
  stream_came before now answered reaped received failures was lending accepted joined taken had has left seated h came same e reap f receive =
      one_came before now received failures was lending taken had has seated h (f ∙ e ∙ came) (from_same 1 lending accepted taken has seated same (moves_on 0 1 accepted joined taken has left seated reap receive))

  -- accepting failed: those that are over are joined
  pub accept_failed : (before now answered reaped paused : List Answer) (failures : ℕ) (was lending accepted joined taken : Lending I O) (had has left : Books I O S) → Accepting before now failures was lending had has
      → answered ≡ now ++ Failed ∷ [] → accepted ≡ lending → reaped ≡ answered → Moves 0 accepted joined has left → paused ≡ reaped → taken ≡ joined → failures + 1 < 100 → Accepting before paused (failures + 1) was taken had left
  accept_failed before now answered reaped paused failures was lending accepted joined taken had has left h came same e reap f pause few =
      one_failed before now paused failures was lending taken had has left h (f ∙ e ∙ came) few (to_same 0 lending joined taken has left pause (from_same 0 lending accepted joined has left same reap))

  -- serving is over, and each stream is
  pub served : (see : Sight I O) (shown offer : Offer) (had_start start : Start) (runs : List (RealmRun S)) (before now closed : List Answer) (was lending returned : Lending I O) (had has left : Books I O S) (result : Result Unit Fault) (asked : ℕ) → had.lent ≡ [] → had.over ≡ []
      → LentUntil before now was lending had has result → closed ≡ now → Moves 0 lending returned has left → shown ≡ offer → had_start ≡ start → ∥ AllWent see shown left.lent left.over ∥₁
      → All (λ run. IsRun had_start run) runs → (result ≢ Err NoMemory → length runs ≡ length offer.names) → AscendAtSeats (conns_of left.over) → ∥ ReceivedPosted runs left.over ∥₁ → ∥ All (λ over. OverTied runs over) left.over ∥₁ → (result ≢ Err NoMemory → asked ≡ length lending.returned) → ∥ HandledBefore runs has.over ∥₁
      → ∥ Served S see offer start before closed was returned asked ∥₁
  served see shown offer had_start start runs before now closed was lending returned had has left result asked none nobody h e m same alike all each_ran count ascend received tied asked_is handled =
      let whole = moves_on (came_in h.serves.given) 0 was lending returned had has left h.moves m in
      let lent : left.lent ≡ whole.more = whole.lent_here ∙ ap (λ l. l ++ whole.more) none in
      let over : left.over ≡ whole.over = whole.over_here ∙ ap (λ l. l ++ whole.over) nobody in
      let early : has.over ≡ h.moves.over = h.moves.over_here ∙ ap (λ l. l ++ h.moves.over) nobody in
      let asked_any : h.serves.given ≢ [] → result ≢ Err NoMemory = λ given refused. given (subst (λ (r : Result Unit Fault). EndsBy r h.serves.given) refused h.serves.ends) in
      ∥∥₁_elim all squash₁ (λ each.
      let gone : AllWent see offer whole.more whole.over = subst (λ (l : List (I × O)). AllWent see offer l whole.over) lent (subst (λ o. AllWent see offer left.lent o) over (subst (λ (n : Offer). AllWent see n left.lent left.over) same each)) in
      told see offer start before closed was returned asked (record {
        given = h.serves.given;
        lent = whole.more;
        streams = whole.over;
        refused = whole.refused;
        answered = e ∙ h.serves.answered;
        all_came = omega (arith, whole.all_came);
        refused_are = whole.refused_more;
        lent_are = whole.lent;
        returned_are = whole.returned;
        went = gone;
        own = λ i d within. ∥∥₁_map (gone.went i d within) (over_keeps_names see offer (get_or whole.over i d));
        runs = runs;
        all_ran = λ given. count (asked_any given);
        each_ran = subst (λ (s : Start). All (λ run. IsRun s run) runs) alike each_ran;
        ascend = subst (λ (o : List (Over I O S)). AscendAtSeats (conns_of o)) over ascend;
        received = subst (λ (o : List (Over I O S)). ∥ ReceivedPosted runs o ∥₁) over received;
        early = has.over;
        early_are = (m.over, sym m.over_here ∙ over);
        early_came = λ given.
            let back : length lending.returned ≡ length was.returned + length h.moves.over = ap length h.moves.returned ∙ length-append was.returned (map after_of h.moves.over) ∙ ap (λ n. length was.returned + n) (length-map h.moves.over after_of) in
            let many : length has.over ≡ length h.moves.over = ap length early in
            let last = asked_is (asked_any given) in
            omega (arith, back, many, last);
        handled = handled;
        tied = subst (λ o. ∥ All (λ x. OverTied runs x) o ∥₁) over tied;
      }))

  nothing : (see : Sight I O) (offer : Offer) (start : Start) (before : List Answer) (was : Lending I O) (asked : ℕ) → ServedInParts S see offer start before before was was asked
  nothing see offer start before was asked = record {
    given = [];
    lent = [];
    streams = [];
    refused = 0;
    answered = sym (append-nil before);
    all_came = refl;
    refused_are = omega arith;
    lent_are = sym (append-nil was.lent);
    returned_are = sym (append-nil was.returned);
    went = record { each = IsPermutation-refl []; went = All-nil (λ over. ∥ Went see offer over ∥₁); found = λ i over at. absurd (none-some over at) };
    runs = [];
    all_ran = λ given. absurd (given refl);
    each_ran = All-nil (λ run. IsRun start run);
    ascend = λ i j m n less at there same. absurd (none-some m at);
    received = ∣ (λ realm k run at less. absurd (none-some run at)) ∣₁;
    early = [];
    early_are = ([], refl);
    early_came = λ given. absurd (given refl);
    handled = ∣ (λ realm k run at less. absurd (none-some run at)) ∣₁;
    tied = ∣ All-nil (λ over. OverTied [] over) ∣₁;
    own = All-nil (λ over. ∥ KeepsNames see (before_of over) ((after_of over).source, (after_of over).sink) ∥₁);
  }

  -- nothing was accepted
  pub nothing_served : (see : Sight I O) (offer : Offer) (start : Start) (before : List Answer) (was : Lending I O) (asked : ℕ) → ∥ Served S see offer start before before was was asked ∥₁
  nothing_served see offer start before was asked = told see offer start before before was was asked (nothing see offer start before was asked)
