-- A replay as data.
use Rattle.std.specs.Prelude.{ℕ, List, refl}
use Rattle.std.specs.Coded.{Coded, code_by, coded×, coded_list, coded_ℕ}
use Rattle.realm.specs.History.{History}
use Rattle.realm.specs.body.HistoryCode.{history_code}
use Rattle.replay.specs.Transcript.{Replay}
use Rattle.replay.specs.Progress.{ReplayInput}

abbrev pub replay_code : Coded Replay
replay_code =
    code_by (List ℕ × (List ℕ × History)) (coded× (coded_list coded_ℕ) (coded× (coded_list coded_ℕ) history_code)) (λ r. (r.realm, (r.named, r.history)))
    (λ p. record { realm = p.0; named = p.1.0; history = p.1.1 }) (λ _. refl)

abbrev pub told_code : Coded ReplayInput
told_code =
    code_by (Replay × (List ℕ × (ℕ × List ℕ))) (coded× replay_code (coded× (coded_list coded_ℕ) (coded× coded_ℕ (coded_list coded_ℕ)))) (λ t. (t.replay, (t.rest, (t.count, t.out))))
    (λ p. record { replay = p.0; rest = p.1.0; count = p.1.1.0; out = p.1.1.1 }) (λ _. refl)
